-- What seats hold, and what the finite map of it is after a cell was set.
use Rattle.std.proofs.Common.{◌≡◌, ◌≢◌, ℕ, zero, suc, ◌+◌, ◌<◌, Bool, true, false, cond, List, [], ◌∷◌, length, set, Option, Some, None, ◌⊎◌, inl, inr, refl, sym, ap, subst, ◌∙◌, arith, length-set}
use Rattle.std.specs.Prelude.{is_some}
use Rattle.std.specs.Option.{option_map}
use Rattle.std.specs.List.{cons_option}
use Rattle.std.specs.declared.cmp.Ordering.{Ordering}
use Rattle.std.specs.declared.cmp.Ordering.TheVariants.{Less, Equal, Greater}
use Rattle.std.specs.Ordering.{eq_by_cmp, is_eq}
use Rattle.std.specs.Cmp.{tied_itself}
use Rattle.std.specs.Cmp.Lexicographic.{nat_list_cmp_total}
use Rattle.std.specs.FinMap as finite
use Rattle.std.specs.FinMap.{find}
use Rattle.std.proofs.lemmas.Bool.{cases_eq}
use Rattle.std.proofs.lemmas.List.{get_or-set_same, get_or-set_other, set-get_or}
use Rattle.mont_base.specs.State.{Key, key_cmp}
use Rattle.index_kit.specs.Cells.{cell_at}
use Rattle.index_kit.specs.Table.{Numbers, Seat, Seats, Holds, IsFree, HasFree, IsApart, held_in, numbers_in}
use Rattle.index_kit.proofs.SortedEntries.{same_key}

pub not_none : {A : Type 0} (x : A) → None ≢ Some x
not_none x e = cc

pub same_entry : {A : Type 0} (x y : A) → Some x ≡ Some y → x ≡ y
same_entry x y e = cc

-- ---- one cell
-- what is held is within the seats
pub holds-within : (seats : Seats) (at : ℕ) (e : Key × ℕ) → Holds seats at e → at < length seats
holds-within [] at e h = absurd (not_none e h)
holds-within (c ∷ seats) zero e h = omega arith
holds-within (c ∷ seats) (suc at) e h = omega (arith, holds-within seats at e h)

pub not_free : (seats : Seats) (at : ℕ) (e : Key × ℕ) → Holds seats at e → IsFree seats at → ⊥
not_free seats at e h f = not_none e (sym f.empty ∙ h)

module _ (seats : Seats) (at : ℕ) (c : Seat) (within : at < length seats) where
  -- a cell that is held after one was set
  pub held_set : (i : ℕ) (e : Key × ℕ) → Holds (set seats at c) i e → ((i ≡ at) × (c ≡ Some e)) ⊎ ((i ≢ at) × Holds seats i e)
  held_set i e h = elim (cases_eq i at) [
    | inl s ↦ inl (s, sym (get_or-set_same seats at c None within) ∙ subst (λ (j : ℕ). cell_at (set seats at c) j ≡ Some e) s h)
    | inr d ↦ inr (d, sym (get_or-set_other seats at i c None d) ∙ h)
  ]

  -- one that is free
  pub free_set : (i : ℕ) → IsFree (set seats at c) i → ((i ≡ at) × (c ≡ None)) ⊎ ((i ≢ at) × IsFree seats i)
  free_set i f = elim (cases_eq i at) [
    | inl s ↦ inl (s, sym (get_or-set_same seats at c None within) ∙ subst (λ (j : ℕ). cell_at (set seats at c) j ≡ None) s f.empty)
    | inr d ↦ inr (
      d,
      record {
        within = omega (arith, f.within, length-set seats at c);
        empty = sym
            (get_or-set_other seats at i c None d) ∙ f.empty;
      },
    )
  ]

  -- the others stay
  pub free_other : (i : ℕ) → i ≢ at → IsFree seats i → IsFree (set seats at c) i
  free_other i d f = record {
    within = omega (arith, f.within, length-set seats at c);
    empty = get_or-set_other seats at i c None d
        ∙ f.empty;
  }

  pub held_other : (i : ℕ) (e : Key × ℕ) → i ≢ at → Holds seats i e → Holds (set seats at c) i e
  held_other i e d h = get_or-set_other seats at i c None d ∙ h

pub free_cleared : (seats : Seats) (at : ℕ) → at < length seats → IsFree (set seats at None) at
free_cleared seats at within = record {
  within = omega (arith, within, length-set seats at None);
  empty = get_or-set_same seats at None
      None within;
}

-- where fewer are held than there are seats, one is free
pub free_among : (seats : Seats) → length (held_in seats) < length seats → HasFree seats
free_among [] h = absurd (omega arith)
free_among (None ∷ seats) h = (0, record { within = omega arith; empty = refl })
free_among (Some e ∷ seats) h =
    let later : HasFree seats = free_among seats (omega arith) in
    (suc later.0, record { within = omega (arith, later.1.within); empty = later.1.empty })

-- ---- the map
abbrev pub number_of : Seat → Option ℕ
number_of c = option_map (λ (e : Key × ℕ). e.1) c

pub same_or_not : (q k : Key) → ((eq_by_cmp key_cmp q k ≡ true) × (q ≡ k)) ⊎ ((eq_by_cmp key_cmp q k ≡ false) × (q ≢ k))
same_or_not q k = told (key_cmp q k) refl
  where
    other : (r : Ordering) → key_cmp q k ≡ r → is_eq r ≡ false → q ≢ k
    other r e f s =
        let own : key_cmp q k ≡ Equal = ap (key_cmp q) (sym s) ∙ tied_itself nat_list_cmp_total q in
        let tie : is_eq (key_cmp q k) ≡ true = ap is_eq own in
        let no : is_eq (key_cmp q k) ≡ false = ap is_eq e ∙ f in cc

    told : (r : Ordering) → key_cmp q k ≡ r → ((eq_by_cmp key_cmp q k ≡ true) × (q ≡ k)) ⊎ ((eq_by_cmp key_cmp q k ≡ false) × (q ≢ k))
    told Less e = inr (ap is_eq e, other Less e refl)
    told Equal e = inl (ap is_eq e, same_key q k e)
    told Greater e = inr (ap is_eq e, other Greater e refl)

-- a key that no cell holds isn't found
pub find-absent : (k : Key) (seats : Seats) → ((i : ℕ) (e : Key × ℕ) → Holds seats i e → e.0 ≢ k) → find key_cmp k (held_in seats) ≡ None
find-absent k [] h = refl
find-absent k (None ∷ seats) h = find-absent k seats (λ i e. h (suc i) e)
find-absent k (Some e ∷ seats) h = elim (same_or_not k e.0) [
  | inl s ↦ absurd (h 0 e refl (sym s.1))
  | inr d ↦ rw d.0 (find-absent k seats (λ i e. h (suc i) e))
]

-- a key that no cell but this holds
pub record IsFor (k : Key) (seats : Seats) (at : ℕ) : Type 0 where
  pub only : (i : ℕ) (e : Key × ℕ) → Holds seats i e → e.0 ≡ k → i ≡ at
  pub own : (e : Key × ℕ) → Holds seats at e → e.0 ≡ k

abbrev IsNamed : Key → Seat → Type 0
IsNamed k c = (e : Key × ℕ) → c ≡ Some e → e.0 ≡ k

for_tail : (k : Key) (c : Seat) (seats : Seats) (at : ℕ) → IsFor k (c ∷ seats) (suc at) → IsFor k seats at
for_tail k c seats at h = record { only = λ i e held s. let same = h.only (suc i) e held s in omega arith; own = λ e held. h.own e held }

absent_tail : (k : Key) (c : Seat) (seats : Seats) → IsFor k (c ∷ seats) 0 → find key_cmp k (held_in seats) ≡ None
absent_tail k c seats h = find-absent k seats (λ i e held s. let same = h.only (suc i) e held s in omega arith)

shadowed : {A : Type 0} (b : Bool) (x y z : A) → cond b x z ≡ cond b x (cond b y z)
shadowed true x y z = refl
shadowed false x y z = refl

module _ (k q : Key) where
  -- the key's own cell decides what is found at it, and nothing else
  own_cell : (c : Seat) (es : List (Key × ℕ)) → IsNamed k c → find key_cmp k es ≡ None → find key_cmp q (cons_option c es) ≡ cond
      (eq_by_cmp key_cmp q k) (number_of c) (find key_cmp q es)
  own_cell None es h none = elim (same_or_not q k) [
    | inl s ↦ rw s.0 (ap (λ (x : Key). find key_cmp x es) s.1 ∙ none)
    | inr d ↦ rw d.0 refl
  ]
  own_cell (Some e) es h none = ap (λ (x : Key). cond (eq_by_cmp key_cmp q x) (Some e.1) (find key_cmp q es)) (h e refl)

  -- and the cell of another key not what is found at it
  other_cell : (e : Key × ℕ) (x y : Option ℕ) → e.0 ≢ k → cond (eq_by_cmp key_cmp q e.0) (Some e.1) (cond
      (eq_by_cmp key_cmp q k) x y) ≡ cond (eq_by_cmp key_cmp q k) x (cond (eq_by_cmp key_cmp q e.0) (Some e.1) y)
  other_cell e x y differs = elim (same_or_not q k) [
    | inl s ↦ elim (same_or_not q e.0) [ inl t ↦ absurd (differs (sym t.1 ∙ s.1)) | inr d ↦ rw (s.0, d.0) refl ]
    | inr d ↦ rw d.0 refl
  ]

  pub find-set :
      (seats : Seats) (at : ℕ) (c : Seat) → at < length seats → IsFor k seats at → IsNamed k c
      → find key_cmp q (held_in (set seats at c)) ≡ cond (eq_by_cmp key_cmp q k) (number_of c) (find key_cmp q (held_in seats))
  find-set [] at c within h named = absurd (omega arith)
  find-set (d ∷ seats) zero c within h named =
      let none = absent_tail k d seats h in
      own_cell c (held_in seats) named none
      ∙ shadowed (eq_by_cmp key_cmp q k) (number_of c) (number_of d) (find key_cmp q (held_in seats))
      ∙ ap (cond (eq_by_cmp key_cmp q k) (number_of c)) (sym (own_cell d (held_in seats) (λ e is. h.own e is) none))
  find-set (None ∷ seats) (suc at) c within h named = find-set seats at c (omega arith) (for_tail k None seats at h) named
  find-set (Some e ∷ seats) (suc at) c within h named =
      ap (cond (eq_by_cmp key_cmp q e.0) (Some e.1)) (find-set seats at c (omega arith) (for_tail k (Some e) seats at h) named)
      ∙ other_cell e (number_of c) (find key_cmp q (held_in seats)) (λ s. let same = h.only 0 e refl s in omega arith)

module _ (k : Key) (seats : Seats) (at : ℕ) (within : at < length seats) (h : IsFor k seats at) where
  get_set : (c : Seat) (q : Key) → IsNamed k c → finite.get (numbers_in (set seats at c)) q ≡ cond (eq_by_cmp key_cmp q k) (number_of c)
      (finite.get (numbers_in seats) q)
  get_set c q named =
      finite.get-from_entries nat_list_cmp_total (held_in (set seats at c)) q
      ∙ find-set k q seats at c within h named
      ∙ ap (cond (eq_by_cmp key_cmp q k) (number_of c)) (sym (finite.get-from_entries nat_list_cmp_total (held_in seats) q))

  -- the number of a key is the one that its cell holds
  pub get_own : finite.get (numbers_in seats) k ≡ number_of (cell_at seats at)
  get_own =
      ap (λ (cs : Seats). finite.get (numbers_in cs) k) (sym (set-get_or seats at None))
      ∙ get_set (cell_at seats at) k (λ e is. h.own e is)
      ∙ (let own : eq_by_cmp key_cmp k k ≡ true = ap is_eq (tied_itself nat_list_cmp_total k) in rw own refl)

  -- to fill a key's cell is to insert it
  pub numbers_filled : (number : ℕ) → numbers_in (set seats at (Some (k, number))) ≡ finite.insert (numbers_in seats) k number
  numbers_filled number = finite.same_map nat_list_cmp_total same_key _ _ (λ q.
      get_set (Some (k, number)) q (λ e is. let same = same_entry _ _ is in ap (λ (d : Key × ℕ). d.0) (sym same))
      ∙ sym (finite.get-insert nat_list_cmp_total (numbers_in seats) k number q))

  -- to clear it is to take the key out
  pub numbers_cleared : numbers_in (set seats at None) ≡ finite.remove (numbers_in seats) k
  numbers_cleared = finite.same_map nat_list_cmp_total same_key _ _ (λ q.
      get_set None q (λ e is. absurd (not_none e is))
      ∙ sym (finite.get-remove nat_list_cmp_total (numbers_in seats) k q))

-- to take a key out and put it back changes nothing
pub put_back : (m : Numbers) (k : Key) (number : ℕ) → finite.get m k ≡ Some number → finite.insert (finite.remove m k) k number ≡ m
put_back m k number h = finite.same_map nat_list_cmp_total same_key _ _ (λ q.
    finite.get-insert nat_list_cmp_total (finite.remove m k) k number q
    ∙ ap (cond (eq_by_cmp key_cmp q k) (Some number)) (finite.get-remove nat_list_cmp_total m k q)
    ∙ elim (same_or_not q k) as (λ _. cond (eq_by_cmp key_cmp q k) (Some number) (cond (eq_by_cmp key_cmp q k) None
    (finite.get m q)) ≡ finite.get m q) [
      | inl s ↦ rw s.0 (sym h ∙ ap (finite.get m) (sym s.1))
      | inr d ↦ rw d.0 refl
    ])

apart_tail : (c : Seat) (seats : Seats) → IsApart (c ∷ seats) → IsApart seats
apart_tail c seats apart i j d e held held_too same = let one = apart (suc i) (suc j) d e held held_too same in omega arith

-- keys that are apart are so many as the map has
pub counted : (seats : Seats) → IsApart seats → length (held_in seats) ≡ finite.len (numbers_in seats)
counted [] apart = sym (finite.len-empty key_cmp ℕ)
counted (None ∷ seats) apart = counted seats (apart_tail None seats apart)
counted (Some e ∷ seats) apart =
    let none : finite.get (numbers_in seats) e.0 ≡ None =
    finite.get-from_entries nat_list_cmp_total (held_in seats) e.0
    ∙ find-absent e.0 seats (λ i d held s. let one = apart 0 (suc i) e d refl held (sym s) in omega arith) in
    let new : finite.contains_key (numbers_in seats) e.0 ≡ false = ap is_some none in
    let more : finite.len (finite.insert (numbers_in seats) e.0 e.1) ≡ finite.len (numbers_in seats) + 1 =
    finite.len-insert nat_list_cmp_total (numbers_in seats) e.0 e.1
    ∙ ap (λ (b : Bool). cond b (finite.len (numbers_in seats)) (finite.len (numbers_in seats) + 1)) new in
    let rest = counted seats (apart_tail (Some e) seats apart) in
    omega (arith, more, rest)
