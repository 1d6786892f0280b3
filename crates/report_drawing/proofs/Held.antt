-- Each epoch in which something stands has one column.
use Rattle.std.proofs.Common.{◌≡◌, ℕ, zero, suc, ◌+◌, ◌-◌, ◌<◌, ◌≤◌, ◌⊎◌, inl, inr, List, [], ◌∷◌, ◌++◌, Bool, cond, true, false, not, ◌&&◌, leb, ltb, length, get_or, take, drop, map, refl, sym, ap, subst, ◌∙◌, arith}
use Rattle.std.specs.List.{filter, Contains}
use Rattle.std.specs.List.Sorted.{IsStrictlyIncreasing}
use Rattle.std.proofs.lemmas.Bool.{leb-true, leb-false, lt-leb, le-leb, ltb-true, ltb-false, and_parts, and_from}
use Rattle.std.proofs.lemmas.List.{append-nil, append_assoc, take-append-drop, drop-drop, length-take-le, length-drop, get_or-take, get_or-drop}
use Rattle.std.proofs.lemmas.List.Kept.{IsStrictlyIncreasing-filter}
use Rattle.report_drawing.specs.declared.columns.Column.{Column}
use Rattle.report_drawing.specs.Lanes.{is_lost}
use Rattle.report_drawing.specs.Columns.{column, single, holds, columns_in, columns_at}

-- columns by rising epochs, the first not below this one
abbrev pub Rises : ℕ → List Column → Type 0
Rises low [] = Unit {0}
Rises low (c ∷ cs) = (low ≤ c.first) × (c.first ≤ c.last) × Rises (suc c.last) cs

-- one of the columns stands for it
abbrev pub Held : ℕ → List Column → Type 0
Held q [] = ⊥
Held q (c ∷ cs) = (holds c q ≡ true) ⊎ Held q cs

-- numbers that rise, the first not below this one; what holds after the last
abbrev pub Up : (ℕ → Type 0) → ℕ → List ℕ → Type 0
Up End low [] = End low
Up End low (e ∷ es) = (low ≤ e) × Up End (suc e) es

abbrev pub Has : ℕ → List ℕ → Type 0
Has q [] = ⊥
Has q (e ∷ es) = (e ≡ q) ⊎ Has q es

clash : (b : Bool) → b ≡ true → b ≡ false → ⊥
clash b yea nay = cc

-- no column stands for what is below them all
none_below : (q low : ℕ) (cs : List Column) → Rises low cs → q < low → length (filter (λ c. holds c q) cs) ≡ 0
none_below q low [] rises under = refl
none_below q low (c ∷ cs) rises under =
    let out : leb c.first q ≡ false = lt-leb c.first q (omega (arith, rises.0)) in
    ap (λ b. length (cond (b && leb q c.last) (c ∷ filter (λ (d : Column). holds d q) cs) (filter (λ (d : Column). holds d q) cs))) out
    ∙ none_below q (suc c.last) cs rises.2 (omega (arith, rises.0, rises.1))

-- of rising columns one at most stands for an epoch
pub one_held : (q low : ℕ) (cs : List Column) → Rises low cs → Held q cs → length (filter (λ c. holds c q) cs) ≡ 1
one_held q low [] rises held = absurd held
one_held q low (c ∷ cs) rises held =
    let rest = filter (λ (d : Column). holds d q) cs in
    (elim (holds c q) as (λ b. holds c q ≡ b → length (cond b (c ∷ rest) rest) ≡ 1) [
      | true ↦ λ is.
          let within = leb-true q c.last (and_parts (leb c.first q) (leb q c.last) is).1 in
          ap (λ n. suc n) (none_below q (suc c.last) cs rises.2 (omega (arith, within)))
      | false ↦ λ is.
          elim held [
            | inl here ↦ absurd (clash (holds c q) here is)
            | inr more ↦ one_held q (suc c.last) cs rises.2 more
          ]
    ]) refl

-- ---- columns of single epochs
pub rises_single : (lost : Bool) (End : ℕ → Type 0) (xs ys : List ℕ) (ds : List Column) (low : ℕ) → Up End low (xs ++ ys)
    → ((m : ℕ) → Up End m ys → Rises m ds) → Rises low (map (single lost) xs ++ ds)
rises_single lost End [] ys ds low up rest = rest low up
rises_single lost End (x ∷ xs) ys ds low up rest = (up.0, omega arith, rises_single lost End xs ys ds (suc x) up.1 rest)

single_holds : (lost : Bool) (x q : ℕ) → x ≡ q → holds (single lost x) q ≡ true
single_holds lost x q is = and_from (leb x q) (leb q x) (le-leb x q (omega arith)) (le-leb q x (omega arith))

held_single : (lost : Bool) (q : ℕ) (xs : List ℕ) (ds : List Column) → Has q xs → Held q (map (single lost) xs ++ ds)
held_single lost q [] ds has = absurd has
held_single lost q (x ∷ xs) ds has = elim has
    [ inl here ↦ inl (single_holds lost x q here) | inr more ↦ inr (held_single lost q xs ds more) ]

held_behind : (q : ℕ) (cs ds : List Column) → Held q ds → Held q (cs ++ ds)
held_behind q [] ds held = held
held_behind q (c ∷ cs) ds held = inr (held_behind q cs ds held)

held_before : (q : ℕ) (cs ds : List Column) → Held q cs → Held q (cs ++ ds)
held_before q [] ds held = absurd held
held_before q (c ∷ cs) ds held = elim held [ inl here ↦ inl here | inr more ↦ inr (held_before q cs ds more) ]

has_either : (q : ℕ) (xs ys : List ℕ) → Has q (xs ++ ys) → Has q xs ⊎ Has q ys
has_either q [] ys has = inr has
has_either q (x ∷ xs) ys has =
    elim has [
      | inl here ↦ inl (inl here)
      | inr more ↦ elim (has_either q xs ys more) [ inl l ↦ inl (inr l) | inr r ↦ inr r ]
    ]

-- ---- the column of all between
past : (End : ℕ → Type 0) (b : ℕ) (bs zs : List ℕ) → Up End (suc b) (bs ++ zs) → (b ≤ get_or (b ∷ bs) (length bs) 0) × Up End
    (suc (get_or (b ∷ bs) (length bs) 0)) zs
past End b [] zs up = (omega arith, up)
past End b (x ∷ bs) zs up = let r = past End x bs zs up.1 in (omega (arith, r.0, up.0), r.1)

last_place : (n : ℕ) → suc n - 1 ≡ n
last_place n = omega arith

rises_fold : (lost : Bool) (End : ℕ → Type 0) (m : ℕ) (mid zs : List ℕ) (ds : List Column) → 0 < length mid → Up End m (mid ++ zs)
    → ((k : ℕ) → End k → Rises k ds)
    → Rises m (column lost (get_or mid 0 0) (get_or mid (length mid - 1) 0) ∷ (map (single lost) zs ++ ds))
rises_fold lost End m [] zs ds some up rest = absurd (omega arith)
rises_fold lost End m (b ∷ bs) zs ds some up rest =
    let r = past End b bs zs up.1 in
    rw (last_place (length bs)) (
      up.0,
      r.0,
      rises_single lost End zs [] ds (suc (get_or (b ∷ bs) (length bs) 0))
          (subst (λ (xs : List ℕ). Up End (suc (get_or (b ∷ bs) (length bs) 0)) xs) (sym (append-nil zs)) r.1) rest,
    )

-- an epoch between stands from the first to the last
inside : (End : ℕ → Type 0) (q b : ℕ) (bs zs : List ℕ) → Up End (suc b) (bs ++ zs) → Has q (b ∷ bs) → (b ≤ q) × (q
    ≤ get_or (b ∷ bs) (length bs) 0)
inside End q b [] zs up has = elim has [ inl here ↦ (omega arith, omega arith) | inr none ↦ absurd none ]
inside End q b (x ∷ bs) zs up has =
    elim has [
      | inl here ↦ let r = past End x bs zs up.1 in (omega arith, omega (arith, r.0, up.0))
      | inr more ↦ let r = inside End q x bs zs up.1 more in (omega (arith, r.0, up.0), r.1)
    ]

held_fold : (lost : Bool) (End : ℕ → Type 0) (q m : ℕ) (mid zs : List ℕ) → Up End m (mid ++ zs) → Has q mid → holds
    (column lost (get_or mid 0 0) (get_or mid (length mid - 1) 0)) q
    ≡ true
held_fold lost End q m [] zs up has = absurd has
held_fold lost End q m (b ∷ bs) zs up has =
    let r = inside End q b bs zs up.1 has in
    rw (last_place (length bs)) (and_from (leb b q) (leb q (get_or (b ∷ bs) (length bs) 0)) (le-leb b q r.0)
    (le-leb q (get_or (b ∷ bs) (length bs) 0) r.1))

-- ---- the columns of rising epochs
up_behind : (End : ℕ → Type 0) (xs ys : List ℕ) (low : ℕ) → Up End low (xs ++ ys) → (m : ℕ) × Up End m ys
up_behind End [] ys low up = (low, up)
up_behind End (x ∷ xs) ys low up = up_behind End xs ys (suc x) up.1

abbrev between : List ℕ → List ℕ
between es = take (length es - 24) (drop 12 es)

parted : (es : List ℕ) → 25 < length es → es ≡ take 12 es ++ (between es ++ drop (length es - 12) es)
parted es many =
    sym (take-append-drop 12 es)
    ∙ ap (λ (ys : List ℕ). take 12 es ++ ys)
    (sym (take-append-drop (length es - 24) (drop 12 es))
    ∙ ap (λ (ys : List ℕ). between es ++ ys) (drop-drop (length es - 24) 12 es ∙ ap (λ (k : ℕ). drop k es) (omega arith)))

between_long : (es : List ℕ) → 25 < length es → length (between es) ≡ length es - 24
between_long es many = length-take-le (length es - 24) (drop 12 es) (omega (arith, length-drop 12 es))

between_ends : (lost : Bool) (es : List ℕ) → 25 < length es
    → column lost (get_or (between es) 0 0) (get_or (between es) (length (between es) - 1) 0)
    ≡ column lost (get_or es 12 0) (get_or es (length es - 13) 0)
between_ends lost es many =
    let long = between_long es many in
    let low : get_or (between es) 0 0 ≡ get_or es 12 0 =
    get_or-take (length es - 24) (drop 12 es) 0 0 (omega arith) ∙ get_or-drop 12 es 0 0 in
    let high : get_or (between es) (length (between es) - 1) 0 ≡ get_or es (length es - 13) 0 =
    get_or-take (length es - 24) (drop 12 es) (length (between es) - 1) 0 (omega (arith, long))
    ∙ get_or-drop 12 es (length (between es) - 1) 0
    ∙ ap (λ (k : ℕ). get_or es k 0) (omega (arith, long)) in
    λ i. column lost (low i) (high i)

rises_in : (lost : Bool) (End : ℕ → Type 0) (es : List ℕ) (low : ℕ) (ds : List Column) → Up End low es → ((k : ℕ) → End k → Rises k ds)
    → Rises low (columns_in lost es ++ ds)
rises_in lost End es low ds up rest =
    let zs = drop (length es - 12) es in
    let c = column lost (get_or es 12 0) (get_or es (length es - 13) 0) in
    (elim (leb (length es) 25) as (λ b. leb (length es) 25 ≡ b → Rises low
    (cond b (map (single lost) es) (map (single lost) (take 12 es) ++ c ∷ map (single lost) zs) ++ ds)) [
      | true ↦ λ is. rises_single lost End es [] ds low (subst (λ (xs : List ℕ). Up End low xs) (sym (append-nil es)) up) rest
      | false ↦ λ is.
          let many = leb-false (length es) 25 is in
          subst (λ (cs : List Column). Rises low cs) (sym (append_assoc (map (single lost) (take 12 es)) (c ∷ map (single lost) zs) ds))
          (rises_single lost End (take 12 es) (between es ++ zs) (c ∷ (map (single lost) zs ++ ds)) low
          (subst (λ (xs : List ℕ). Up End low xs) (parted es many) up)
          (λ m upper. subst (λ (d : Column). Rises m (d ∷ (map (single lost) zs ++ ds))) (between_ends lost es many)
          (rises_fold lost End m (between es) zs ds (omega (arith, between_long es many)) upper rest)))
    ]) refl

held_in : (lost : Bool) (End : ℕ → Type 0) (es : List ℕ) (low q : ℕ) → Up End low es → Has q es → Held q (columns_in lost es)
held_in lost End es low q up has =
    let zs = drop (length es - 12) es in
    let c = column lost (get_or es 12 0) (get_or es (length es - 13) 0) in
    let front = map (single lost) (take 12 es) in
    (elim (leb (length es) 25) as (λ b. leb (length es) 25 ≡ b → Held q
    (cond b (map (single lost) es) (front ++ c ∷ map (single lost) zs))) [
      | true ↦ λ is. subst (λ (cs : List Column). Held q cs) (append-nil (map (single lost) es)) (held_single lost q es [] has)
      | false ↦ λ is.
          let many = leb-false (length es) 25 is in
          let upper = up_behind End (take 12 es) (between es ++ zs) low (subst (λ (xs : List ℕ). Up End low xs) (parted es many) up) in
          elim (has_either q (take 12 es) (between es ++ zs) (subst (λ (xs : List ℕ). Has q xs) (parted es many) has)) [
            | inl early ↦ held_single lost q (take 12 es) (c ∷ map (single lost) zs) early
            | inr later ↦ held_behind q front (c ∷ map (single lost) zs)
                (elim (has_either q (between es) zs later) [
                  | inl middle ↦ inl (subst (λ (d : Column). holds d q ≡ true) (between_ends lost es many)
                      (held_fold lost End q upper.0 (between es) zs upper.1 middle))
                  | inr last ↦ inr (subst (λ (cs : List Column). Held q cs) (append-nil (map (single lost) zs))
                      (held_single lost q zs [] last))
                ])
          ]
    ]) refl

-- ---- lists of rising numbers
inc_tail : (e : ℕ) (es : List ℕ) → IsStrictlyIncreasing (e ∷ es) → IsStrictlyIncreasing es
inc_tail e es inc = λ k within.
    let next : suc k + 1 ≡ suc (k + 1) = omega arith in
    subst (λ (n : ℕ). get_or es k 0 < get_or (e ∷ es) n 0) next (inc (suc k) (omega arith))

first_below : (e : ℕ) (es : List ℕ) → IsStrictlyIncreasing (e ∷ es) → (x : ℕ) → Has x es → e < x
first_below e [] inc x has = absurd has
first_below e (y ∷ ys) inc x has =
    let here : e < y = inc 0 (omega arith) in
    elim has [
      | inl same ↦ omega arith
      | inr more ↦ let above = first_below y ys (inc_tail e (y ∷ ys) inc) x more in omega arith
    ]

up_from : (End : ℕ → Type 0) (es : List ℕ) (low : ℕ) → IsStrictlyIncreasing es → ((e : ℕ) → Has e es → low ≤ e) → End low
    → ((e : ℕ) → Has e es → End (suc e)) → Up End low es
up_from End [] low inc above end ends = end
up_from End (e ∷ es) low inc above end ends = (
  above e (inl refl),
  up_from End es (suc e) (inc_tail e es inc) (λ x has. let b = first_below e es inc x has in omega arith) (ends e (inl refl))
      (λ x has. ends x (inr has)),
)

has_from : (es : List ℕ) (q k : ℕ) → k < length es → get_or es k q ≡ q → Has q es
has_from [] q k within is = absurd (omega arith)
has_from (e ∷ es) q zero within is = inl is
has_from (e ∷ es) q (suc k) within is = inr (has_from es q k (omega arith) is)

has_passes : (p : ℕ → Bool) (es : List ℕ) (x : ℕ) → Has x (filter p es) → p x ≡ true
has_passes p [] x has = absurd has
has_passes p (e ∷ es) x has =
    (elim (p e) as (λ b. p e ≡ b → Has x (cond b (e ∷ filter p es) (filter p es)) → p x ≡ true) [
      | true ↦ λ is there. elim there [ inl same ↦ subst (λ (y : ℕ). p y ≡ true) same is | inr more ↦ has_passes p es x more ]
      | false ↦ λ is there. has_passes p es x there
    ]) refl has

has_filtered : (p : ℕ → Bool) (es : List ℕ) (x : ℕ) → Has x es → p x ≡ true → Has x (filter p es)
has_filtered p [] x has passes = absurd has
has_filtered p (e ∷ es) x has passes =
    (elim (p e) as (λ b. p e ≡ b → Has x (cond b (e ∷ filter p es) (filter p es))) [
      | true ↦ λ is. elim has [ inl same ↦ inl same | inr more ↦ inr (has_filtered p es x more passes) ]
      | false ↦ λ is.
          elim has [
            | inl same ↦ absurd (clash (p e) (subst (λ (y : ℕ). p y ≡ true) (sym same) passes) is)
            | inr more ↦ has_filtered p es x more passes
          ]
    ]) refl

rises_lower : (cs : List Column) (low high : ℕ) → low ≤ high → Rises high cs → Rises low cs
rises_lower [] low high le rises = tt
rises_lower (c ∷ cs) low high le rises = (omega (arith, rises.0), rises.1, rises.2)

not_true : (b : Bool) → not b ≡ true → b ≡ false
not_true true is = cc
not_true false is = refl

not_false : (b : Bool) → b ≡ false → not b ≡ true
not_false true is = cc
not_false false is = refl

-- ---- the columns of all epochs
pub once_held : (clock : ℕ) (es : List ℕ) (q : ℕ) → IsStrictlyIncreasing es → Contains es q
    → length (filter (λ c. holds c q) (columns_at clock es)) ≡ 1
once_held clock es q inc contains =
    let has = has_from es q contains.0 contains.1 contains.2 in
    let cut = clock - 2 in
    let kept = filter (λ e. not (is_lost clock e)) es in
    let lost = filter (λ e. is_lost clock e) es in
    let up_kept = up_from (λ m. m ≤ suc cut) kept 0 (IsStrictlyIncreasing-filter (λ e. not (is_lost clock e)) es inc)
    (λ e h. omega arith) (omega arith)
    (λ e h. let le = ltb-false cut e (not_true (ltb cut e) (has_passes (λ x. not (is_lost clock x)) es e h)) in omega arith) in
    let up_lost = up_from (λ m. Unit {0}) lost (suc cut) (IsStrictlyIncreasing-filter (λ e. is_lost clock e) es inc)
    (λ e h. let lt = ltb-true cut e (has_passes (λ x. is_lost clock x) es e h) in omega arith) tt (λ e h. tt) in
    let rises_lost : Rises (suc cut) (columns_in true lost) =
    subst (λ (cs : List Column). Rises (suc cut) cs) (append-nil (columns_in true lost))
    (rises_in true (λ m. Unit {0}) lost (suc cut) [] up_lost (λ k e. tt)) in
    let rises = rises_in false (λ m. m ≤ suc cut) kept 0 (columns_in true lost) up_kept
    (λ k le. rises_lower (columns_in true lost) k (suc cut) le rises_lost) in
    let held : Held q (columns_at clock es) =
    (elim (is_lost clock q) as (λ b. is_lost clock q ≡ b → Held q (columns_at clock es)) [
      | true ↦ λ is. held_behind q (columns_in false kept) (columns_in true lost)
          (held_in true (λ m. Unit {0}) lost (suc cut) q up_lost (has_filtered (λ e. is_lost clock e) es q has is))
      | false ↦ λ is. held_before q (columns_in false kept) (columns_in true lost)
          (held_in false (λ m. m ≤ suc cut) kept 0 q up_kept
          (has_filtered (λ e. not (is_lost clock e)) es q has (not_false (is_lost clock q) is)))
    ]) refl in
    one_held q 0 (columns_at clock es) rises held
