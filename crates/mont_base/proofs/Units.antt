-- The units of a layout.
use Rattle.std.proofs.Common.{◌≡◌, ℕ, zero, suc, ◌+◌, ◌-◌, ◌<◌, ◌≤◌, Bool, true, false, List, [], ◌∷◌, ◌++◌, map, length, take, drop, get_or, set, replicate, refl, sym, ap, ◌∙◌, arith}
use Rattle.std.specs.Prelude.{None, slice_get, if◌then◌else◌}
use Rattle.std.proofs.lemmas.List.{map-append, take_more, take_more_set, length-map}
use Rattle.std.proofs.Math.ListN.{get_or-map}
use Rattle.mont_base.specs.declared.constants.TheConstants.{MOST_UNITS}
use Rattle.mont_base.specs.declared.kinds.UnitKind.{UnitKind}
use Rattle.mont_base.specs.declared.kinds.UnitKind.TheVariants as kinds
use Rattle.mont_base.specs.Kinds.{KindsStand, maps_among}
use Rattle.mont_base.specs.Layout.{letter_of, letters_of, same_kind, units_from}
use Rattle.mont_base.proofs.Padded.{behind_more, whole}

-- a list has something at each of its places
pub absent : {A : Type 0} (xs : List A) (i : ℕ) → i < length xs → slice_get xs i ≡ None → ⊥
absent [] i h e = omega arith
absent (x ∷ xs) zero h e = cc
absent (x ∷ xs) (suc i) h e = absent xs i (omega arith) e

either : (b : Bool) (m n k : ℕ) (xs : List ℕ) → length xs ≤ k → length (if b then m ∷ xs else xs) ≤ k + 1
either true m n k xs h = omega arith
either false m n k xs h = omega arith

-- no more units than kinds
pub length-units_from-le : (n : ℕ) (kind : UnitKind) (ks : List UnitKind) → length (units_from n kind ks) ≤ length ks
length-units_from-le n kind [] = omega arith
length-units_from-le n kind (k ∷ ks) =
    let rest = either (same_kind k kind) n n (length ks) (units_from (n + 1) kind ks) (length-units_from-le (n + 1) kind ks) in
    omega arith

-- one more letter is read, and one more place filled
pub letters_more :
    (ks : List UnitKind) (letters : List ℕ) (i : ℕ) (kind : UnitKind) → i < length ks → i < length letters
    → letters_of (take i ks) ≡ take i letters → get_or letters i 0 ≡ letter_of kind
    → letters_of (take (i + 1) (set ks i kind)) ≡ take (i + 1) letters
letters_more ks letters i kind room inside so_far spelled =
    ap letters_of (take_more_set ks i kind room)
    ∙ map-append letter_of (take i ks) (kind ∷ [])
    ∙ (λ j. so_far j ++ sym spelled j ∷ [])
    ∙ sym (take_more letters i 0 inside)

-- letters of which one is none spell no kinds
pub no_letter :
    (letters : List ℕ) (i : ℕ) → i < length letters → ((kind : UnitKind) → get_or letters i 0 ≡ letter_of kind → ⊥) → (ks : List UnitKind)
    → letters ≡ letters_of ks → ⊥
no_letter letters i inside none ks e =
    let here : i < length ks = omega (arith, ap length e, length-map ks letter_of) in
    none (get_or ks i kinds.Map) (ap (λ (ls : List ℕ). get_or ls i 0) e
    ∙ get_or_default (map letter_of ks) i 0 (letter_of kinds.Map) (omega (arith, length-map ks letter_of))
    ∙ get_or-map letter_of ks i kinds.Map)
  where
    get_or_default : {A : Type 0} (xs : List A) (i : ℕ) (d e : A) → i < length xs → get_or xs i d ≡ get_or xs i e
    get_or_default [] i d e h = absurd (omega arith)
    get_or_default (x ∷ xs) zero d e h = refl
    get_or_default (x ∷ xs) (suc i) d e h = get_or_default xs i d e (omega arith)

-- one map fewer stands after
pub maps_behind :
    (ks : List UnitKind) (i : ℕ) (kind : UnitKind) → i < MOST_UNITS → i < length ks → drop i ks ≡ replicate (MOST_UNITS - i) kinds.Map
    → drop (i + 1) (set ks i kind) ≡ replicate (MOST_UNITS - (i + 1)) kinds.Map
maps_behind = behind_more kinds.Map MOST_UNITS

-- the kinds of the letters, and maps after them
pub filled :
    (ks : List UnitKind) (units maps : ℕ) → 1 ≤ units → units ≤ MOST_UNITS → length ks ≡ MOST_UNITS
    → drop units ks ≡ replicate (MOST_UNITS - units) kinds.Map → maps ≡ maps_among (take units ks) → KindsStand units maps ks
filled ks units maps some few long behind counted = record {
  some = some;
  few = few;
  long = long;
  behind = whole kinds.Map MOST_UNITS ks units few long behind;
  counted = counted;
}
