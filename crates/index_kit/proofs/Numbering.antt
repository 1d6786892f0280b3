-- Entries in a list, and the map from their keys to their numbers.
use Rattle.std.proofs.Common.{◌≡◌, ◌≢◌, ℕ, zero, suc, ◌+◌, ◌-◌, ◌<◌, true, cond, [], ◌∷◌, ◌++◌, length, get_or, set, Option, Some, None, ◌⊎◌, inl, inr, refl, sym, ap, ◌∙◌, arith, length-set, length-append}
use Rattle.std.specs.Option.{option_map}
use Rattle.std.specs.Ordering.{eq_by_cmp, is_eq}
use Rattle.std.specs.Cmp.{tied_itself}
use Rattle.std.specs.Cmp.Lexicographic.{nat_list_cmp_total}
use Rattle.std.specs.FinMap as finite
use Rattle.std.specs.FinMap.{find}
use Rattle.std.proofs.lemmas.Bool.{cases_eq, cases_lt}
use Rattle.std.proofs.lemmas.List.{get_or-set_same, get_or-set_other, get_or_append_left, get_or_push}
use Rattle.mont_base.specs.State.{Key, key_cmp}
use Rattle.index_kit.specs.Index.{Places, Entries}
use Rattle.index_kit.specs.Table.{Numbers, IsNumbering, key_at}
use Rattle.index_kit.proofs.SortedEntries.{same_key}
use Rattle.index_kit.proofs.Held.{same_or_not, not_none}

abbrev pub place_at : Entries → ℕ → ℕ
place_at entries number = (get_or entries number ([], 0)).1

-- what is found at a key that the entry at a number has, and none before it
find_first :
    (entries : Entries) (q : Key) (n : ℕ) → n < length entries → key_at entries n ≡ q → ((i : ℕ) → i < n → key_at entries i ≢ q)
    → find key_cmp q entries ≡ Some (place_at entries n)
find_first [] q n within is before = absurd (omega arith)
find_first (e ∷ entries) q zero within is before =
    let own : eq_by_cmp key_cmp q e.0 ≡ true = ap (λ (k : Key). is_eq (key_cmp k e.0)) (sym is) ∙ ap is_eq
    (tied_itself nat_list_cmp_total e.0) in
    rw own refl
find_first (e ∷ entries) q (suc n) within is before = elim (same_or_not q e.0) [
  | inl s ↦ absurd (before 0 (omega arith) (sym s.1))
  | inr d ↦ rw d.0 (find_first entries q n (omega arith) is (λ i h. before (suc i) (omega arith)))
]

pub find_none : (entries : Entries) (q : Key) → ((i : ℕ) → i < length entries → key_at entries i ≢ q) → find key_cmp q entries ≡ None
find_none [] q none = refl
find_none (e ∷ entries) q none = elim (same_or_not q e.0) [
  | inl s ↦ absurd (none 0 (omega arith) (sym s.1))
  | inr d ↦ rw d.0 (find_none entries q (λ i h. none (suc i) (omega arith)))
]

pub same_numbers : (x y : ℕ) → Some x ≡ Some y → x ≡ y
same_numbers x y e = cc

module _ (entries : Entries) (numbers : Numbers) (h : IsNumbering entries numbers) where
  -- entries with one key are one entry
  pub one_number : (i j : ℕ) → i < length entries → j < length entries → key_at entries i ≡ key_at entries j → i ≡ j
  one_number i j hi hj same = same_numbers i j (sym (h.each i hi) ∙ ap (finite.get numbers) same ∙ h.each j hj)

  -- the place of a key is that of the entry with its number
  pub find_numbered : (q : Key) (n : Option ℕ) → finite.get numbers q ≡ n → find key_cmp q entries ≡ option_map (place_at entries) n
  find_numbered q None e = find_none entries q (λ i within is. not_none i (sym e ∙ ap (finite.get numbers) (sym is) ∙ h.each i within))
  find_numbered q (Some n) e =
      let own = h.only q n e in
      find_first entries q n own.0 own.1 (λ i less is.
      let one = one_number i n (omega (arith, own.0)) own.0 (is ∙ sym own.1) in omega arith)

  pub get_numbered : (q : Key) (n : Option ℕ) → finite.get numbers q ≡ n → finite.get
      (finite.from_entries {R = key_cmp} entries) q ≡ option_map (place_at entries) n
  get_numbered q n e = finite.get-from_entries nat_list_cmp_total entries q ∙ find_numbered q n e

-- ---- what a map is after a key was put or taken out
pub get_put : (m : Numbers) (k : Key) (v : ℕ) → finite.get (finite.insert m k v) k ≡ Some v
get_put m k v =
    finite.get-insert nat_list_cmp_total m k v k
    ∙ (let own : eq_by_cmp key_cmp k k ≡ true = ap is_eq (tied_itself nat_list_cmp_total k) in rw own refl)

pub get_put_other : (m : Numbers) (k : Key) (v : ℕ) (q : Key) → q ≢ k → finite.get (finite.insert m k v) q ≡ finite.get m q
get_put_other m k v q other = finite.get-insert nat_list_cmp_total m k v q ∙ elim (same_or_not q k) as (λ _. cond (eq_by_cmp key_cmp q k)
    (Some v) (finite.get m q) ≡ finite.get m q) [
      | inl s ↦ absurd (other s.1)
      | inr d ↦ rw d.0 refl
    ]

pub get_taken : (m : Numbers) (k : Key) → finite.get (finite.remove m k) k ≡ None
get_taken m k =
    finite.get-remove nat_list_cmp_total m k k
    ∙ (let own : eq_by_cmp key_cmp k k ≡ true = ap is_eq (tied_itself nat_list_cmp_total k) in rw own refl)

pub get_taken_other : (m : Numbers) (k q : Key) → q ≢ k → finite.get (finite.remove m k) q ≡ finite.get m q
get_taken_other m k q other = finite.get-remove nat_list_cmp_total m k q ∙ elim (same_or_not q k) as (λ _. cond
    (eq_by_cmp key_cmp q k) None (finite.get m q) ≡ finite.get m q) [
      | inl s ↦ absurd (other s.1)
      | inr d ↦ rw d.0 refl
    ]

cases_same : (q k : Key) → (q ≡ k) ⊎ (q ≢ k)
cases_same q k = elim (same_or_not q k) [ inl s ↦ inl s.1 | inr d ↦ inr d.1 ]

-- two maps that answer alike
alike : (m n : Places) → ((q : Key) → finite.get m q ≡ finite.get n q) → m ≡ n
alike m n h = finite.same_map nat_list_cmp_total same_key m n h

key_of_entry : (entries fs : Entries) (i j : ℕ) → get_or fs i ([], 0) ≡ get_or entries j ([], 0) → key_at fs i ≡ key_at entries j
key_of_entry entries fs i j e = ap (λ (x : Key × ℕ). x.0) e

-- ---- a new entry
module _ (entries : Entries) (numbers : Numbers) (h : IsNumbering entries numbers) (key : Key) (place : ℕ)
    (new : finite.get numbers key ≡ None) where
  pub key_pushed : (i : ℕ) → i < length entries → key_at (entries ++ (key, place) ∷ []) i ≡ key_at entries i
  key_pushed i within = ap (λ (x : Key × ℕ). x.0) (get_or_append_left entries ((key, place) ∷ []) ([], 0) i within)

  pub last_pushed : key_at (entries ++ (key, place) ∷ []) (length entries) ≡ key
  last_pushed = ap (λ (x : Key × ℕ). x.0) (get_or_push entries (key, place) ([], 0) (length entries) refl)

  other_than_new : (i : ℕ) → i < length entries → key_at entries i ≢ key
  other_than_new i within s = not_none i (sym new ∙ ap (finite.get numbers) (sym s) ∙ h.each i within)

  pub numbering_pushed : IsNumbering (entries ++ (key, place) ∷ []) (finite.insert numbers key (length entries))
  numbering_pushed = record {
    each = λ i within. elim (cases_lt i (length entries)) [
      | inl less ↦
          ap (finite.get (finite.insert numbers key (length entries))) (key_pushed i less)
          ∙ get_put_other numbers key (length entries) _ (other_than_new i less) ∙ h.each i less
      | inr more ↦
          let last : i ≡ length entries = omega (arith, length-append entries ((key, place) ∷ [])) in
          ap (λ (j : ℕ). finite.get (finite.insert numbers key (length entries)) (key_at (entries ++ (key, place) ∷ []) j)) last
          ∙ ap (finite.get (finite.insert numbers key (length entries))) last_pushed
          ∙ get_put numbers key (length entries) ∙ ap Some (sym last)
    ];
    only = λ q i found. elim (cases_same q key) [
      | inl s ↦
          let last : length entries ≡ i = same_numbers _ _ (sym (get_put numbers key (length entries)) ∙ ap (finite.get
          (finite.insert numbers key (length entries))) (sym s) ∙ found) in (
            omega (arith, length-append entries ((key, place) ∷ [])),
            ap (key_at (entries ++ (key, place) ∷ [])) (sym last) ∙ last_pushed
                ∙ sym s,
          )
      | inr d ↦
          let own = h.only q i (sym (get_put_other numbers key (length entries) q d) ∙ found) in
          (omega (arith, own.0, length-append entries ((key, place) ∷ [])), key_pushed i own.0 ∙ own.1)
    ];
  }

  pub places_pushed : finite.from_entries {R = key_cmp} (entries ++ (key, place) ∷ []) ≡ finite.insert
      (finite.from_entries entries) key place
  places_pushed = finite.from_entries_push nat_list_cmp_total same_key entries key place (find_numbered entries numbers h key None new)

-- ---- a new place
module _ (entries : Entries) (numbers : Numbers) (h : IsNumbering entries numbers) (key : Key) (place n : ℕ)
    (there : finite.get numbers key ≡ Some n) where
  pub key_replaced : (i : ℕ) → key_at (set entries n (key, place)) i ≡ key_at entries i
  key_replaced i =
      let own = h.only key n there in
      elim (cases_eq i n) [
        | inl s ↦
            ap (key_at (set entries n (key, place))) s
            ∙ ap (λ (x : Key × ℕ). x.0) (get_or-set_same entries n (key, place) ([], 0) own.0) ∙ sym own.1 ∙ ap (key_at entries) (sym s)
        | inr d ↦ ap (λ (x : Key × ℕ). x.0) (get_or-set_other entries n i (key, place) ([], 0) d)
      ]

  pub numbering_replaced : IsNumbering (set entries n (key, place)) numbers
  numbering_replaced = record {
    each = λ i within. ap (finite.get numbers) (key_replaced i) ∙ h.each i (omega (arith, length-set entries n (key, place)));
    only = λ q i found. let own = h.only q i found in (omega (arith, own.0, length-set entries n (key, place)), key_replaced i ∙ own.1);
  }

  replaced_at : (q : Key) (o : Option ℕ) → finite.get numbers q ≡ o → q ≢ key → option_map (place_at (set entries n
      (key, place))) o ≡ option_map (place_at entries) o
  replaced_at q None e d = refl
  replaced_at q (Some i) e d =
      let other : i ≢ n = λ s. d (sym (h.only q i e).1 ∙ ap (key_at entries) s ∙ (h.only key n there).1) in
      ap (λ (x : Key × ℕ). Some x.1) (get_or-set_other entries n i (key, place) ([], 0) other)

  pub places_replaced : finite.from_entries {R = key_cmp} (set entries n (key, place)) ≡ finite.insert
      (finite.from_entries entries) key place
  places_replaced = alike _ _ (λ q. elim (cases_same q key) [
    | inl s ↦
        ap (finite.get (finite.from_entries (set entries n (key, place)))) s
        ∙ get_numbered _ numbers numbering_replaced key (Some n) there
        ∙ ap (λ (x : Key × ℕ). Some x.1) (get_or-set_same entries n (key, place) ([], 0) (h.only key n there).0)
        ∙ sym (get_put (finite.from_entries entries) key place) ∙ ap (finite.get (finite.insert (finite.from_entries entries) key place))
        (sym s)
    | inr d ↦
        get_numbered _ numbers numbering_replaced q _ refl ∙ replaced_at q _ refl d
        ∙ sym (get_numbered entries numbers h q _ refl) ∙ sym (get_put_other (finite.from_entries entries) key place q d)
  ])

-- ---- an entry that goes, and the last one in its place
pub record IsWithout (entries fs : Entries) (n : ℕ) : Type 0 where
  pub size : length fs + 1 ≡ length entries
  pub moved : n + 1 < length entries → get_or fs n ([], 0) ≡ get_or entries (length entries - 1) ([], 0)
  pub kept : (i : ℕ) → i ≢ n → i + 1 < length entries → get_or fs i ([], 0) ≡ get_or entries i ([], 0)

module _ (entries : Entries) (numbers : Numbers) (h : IsNumbering entries numbers) (key : Key) (n : ℕ)
    (there : finite.get numbers key ≡ Some n)
    (fs : Entries) (w : IsWithout entries fs n) where
  n_within : n < length entries
  n_within = (h.only key n there).0

  n_key : key_at entries n ≡ key
  n_key = (h.only key n there).1

  -- the keys of other entries are other keys
  other_key : (i : ℕ) → i < length entries → i ≢ n → key_at entries i ≢ key
  other_key i within d s = d (one_number entries numbers h i n within n_within (s ∙ sym n_key))

  other_number : (q : Key) (i : ℕ) → finite.get numbers q ≡ Some i → q ≢ key → i ≢ n
  other_number q i found d s = d (sym (h.only q i found).1 ∙ ap (key_at entries) s ∙ n_key)

  key_kept : (i : ℕ) → i ≢ n → i + 1 < length entries → key_at fs i ≡ key_at entries i
  key_kept i d less = ap (λ (x : Key × ℕ). x.0) (w.kept i d less)

  place_kept : (i : ℕ) → i ≢ n → i + 1 < length entries → place_at fs i ≡ place_at entries i
  place_kept i d less = ap (λ (x : Key × ℕ). x.1) (w.kept i d less)

  module _ (last : n + 1 ≡ length entries) where
    pub numbering_without_last : IsNumbering fs (finite.remove numbers key)
    numbering_without_last = record {
      each = λ i within.
          let d : i ≢ n = omega (arith, w.size) in
          let less : i < length entries = omega (arith, w.size) in
          ap (finite.get (finite.remove numbers key)) (key_kept i d (omega (arith, w.size)))
          ∙ get_taken_other numbers key _ (other_key i less d) ∙ h.each i less;
      only = λ q i found. elim (cases_same q key) [
        | inl s ↦ absurd (not_none i (sym (get_taken numbers key) ∙ ap (finite.get (finite.remove numbers key)) (sym s) ∙ found))
        | inr d ↦
            let was = sym (get_taken_other numbers key q d) ∙ found in
            let own = h.only q i was in
            let other = other_number q i was d in
            (omega (arith, own.0, w.size), key_kept i other (omega (arith, own.0)) ∙ own.1)
      ];
    }

    without_last_at : (q : Key) (o : Option ℕ) → finite.get numbers q ≡ o → q ≢ key → option_map (place_at fs) o ≡ option_map
        (place_at entries) o
    without_last_at q None e d = refl
    without_last_at q (Some i) e d =
        let own = h.only q i e in
        let other = other_number q i e d in
        ap Some (place_kept i other (omega (arith, own.0)))

    pub places_without_last : finite.from_entries {R = key_cmp} fs ≡ finite.remove (finite.from_entries entries) key
    places_without_last = alike _ _ (λ q. elim (cases_same q key) [
      | inl s ↦
          ap (finite.get (finite.from_entries fs)) s ∙ get_numbered fs _ numbering_without_last key None (get_taken numbers key)
          ∙ sym (get_taken (finite.from_entries entries) key) ∙ ap (finite.get (finite.remove (finite.from_entries entries) key)) (sym s)
      | inr d ↦
          get_numbered fs _ numbering_without_last q _ (get_taken_other numbers key q d) ∙ without_last_at q _ refl d
          ∙ sym (get_numbered entries numbers h q _ refl) ∙ sym (get_taken_other (finite.from_entries entries) key q d)
    ])

  module _ (end : ℕ) (end_is : end + 1 ≡ length entries) (before : n ≢ end) where
    end_key : key_at fs n ≡ key_at entries end
    end_key =
        let e : length entries - 1 ≡ end = omega (arith, end_is) in
        ap (λ (x : Key × ℕ). x.0) (w.moved (omega (arith, n_within, end_is))) ∙ ap (key_at entries) e

    end_place : place_at fs n ≡ place_at entries end
    end_place =
        let e : length entries - 1 ≡ end = omega (arith, end_is) in
        ap (λ (x : Key × ℕ). x.1) (w.moved (omega (arith, n_within, end_is))) ∙ ap (place_at entries) e

    end_other : key_at entries end ≢ key
    end_other = other_key end (omega (arith, end_is)) (λ s. before (sym s))

    pub end_there : finite.get (finite.remove numbers key) (key_at entries end) ≡ Some end
    end_there = get_taken_other numbers key _ end_other ∙ h.each end (omega (arith, end_is))

    at_end : finite.get (finite.insert (finite.remove numbers key) (key_at entries end) n) (key_at entries end) ≡ Some n
    at_end = get_put (finite.remove numbers key) (key_at entries end) n

    at_other : (q : Key) → q ≢ key → q ≢ key_at entries end → finite.get (finite.insert (finite.remove numbers key)
        (key_at entries end) n) q ≡ finite.get numbers q
    at_other q d e = get_put_other (finite.remove numbers key) (key_at entries end) n q e ∙ get_taken_other numbers key q d

    not_end : (q : Key) (i : ℕ) → finite.get numbers q ≡ Some i → q ≢ key_at entries end → i ≢ end
    not_end q i found d s = d (sym (h.only q i found).1 ∙ ap (key_at entries) s)

    pub numbering_without : IsNumbering fs (finite.insert (finite.remove numbers key) (key_at entries end) n)
    numbering_without = record {
      each = λ i within. elim (cases_eq i n) [
        | inl s ↦
            ap (finite.get (finite.insert (finite.remove numbers key) (key_at entries end) n)) (ap (key_at fs) s ∙ end_key) ∙ at_end
            ∙ ap Some (sym s)
        | inr d ↦
            let less : i + 1 < length entries = omega (arith, w.size) in
            let far : key_at entries i ≢ key_at entries end =
            λ s. let one = one_number entries numbers h i end (omega arith) (omega (arith, end_is)) s in omega (arith, end_is) in
            ap (finite.get (finite.insert (finite.remove numbers key) (key_at entries end) n)) (key_kept i d less)
            ∙ at_other _ (other_key i (omega arith) d) far ∙ h.each i (omega arith)
      ];
      only = λ q i found. elim (cases_same q (key_at entries end)) [
        | inl s ↦
            let here : n ≡ i = same_numbers n i (sym at_end ∙ ap (finite.get (finite.insert (finite.remove numbers key)
            (key_at entries end) n)) (sym s) ∙ found) in
            (omega (arith, n_within, end_is, w.size), ap (key_at fs) (sym here) ∙ end_key ∙ sym s)
        | inr e ↦ elim (cases_same q key) [
          | inl s ↦ absurd (not_none i (sym (get_taken numbers key) ∙ ap (finite.get (finite.remove numbers key)) (sym s)
              ∙ sym (get_put_other (finite.remove numbers key) (key_at entries end) n q e) ∙ found))
          | inr d ↦
              let was = sym (at_other q d e) ∙ found in
              let own = h.only q i was in
              let other = other_number q i was d in
              let far = not_end q i was e in
              (omega (arith, own.0, end_is, w.size), key_kept i other (omega (arith, own.0, end_is)) ∙ own.1)
        ]
      ];
    }

    without_at : (q : Key) (o : Option ℕ) → finite.get numbers q ≡ o → q ≢ key → q ≢ key_at entries end → option_map
        (place_at fs) o ≡ option_map (place_at entries) o
    without_at q None e d f = refl
    without_at q (Some i) e d f =
        let own = h.only q i e in
        let other = other_number q i e d in
        let far = not_end q i e f in
        ap Some (place_kept i other (omega (arith, own.0, end_is)))

    pub places_without : finite.from_entries {R = key_cmp} fs ≡ finite.remove (finite.from_entries entries) key
    places_without = alike _ _ (λ q. elim (cases_same q (key_at entries end)) [
      | inl s ↦
          ap (finite.get (finite.from_entries fs)) s
          ∙ get_numbered fs _ numbering_without (key_at entries end) (Some n) at_end ∙ ap Some end_place
          ∙ sym (get_numbered entries numbers h (key_at entries end) (Some end) (h.each end (omega (arith, end_is))))
          ∙ sym (get_taken_other (finite.from_entries entries) key _ end_other)
          ∙ ap (finite.get (finite.remove (finite.from_entries entries) key)) (sym s)
      | inr e ↦ elim (cases_same q key) [
        | inl s ↦
            ap (finite.get (finite.from_entries fs)) s
            ∙ get_numbered fs _ numbering_without key None
            (get_put_other (finite.remove numbers key) (key_at entries end) n key (λ t. end_other (sym t)) ∙ get_taken numbers key)
            ∙ sym (get_taken (finite.from_entries entries) key) ∙ ap (finite.get (finite.remove (finite.from_entries entries) key)) (sym s)
        | inr d ↦
            get_numbered fs _ numbering_without q _ (at_other q d e) ∙ without_at q _ refl d e
            ∙ sym (get_numbered entries numbers h q _ refl) ∙ sym (get_taken_other (finite.from_entries entries) key q d)
      ]
    ])
