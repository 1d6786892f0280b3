-- The places of the slots that an advance writes back.
use Rattle.std.proofs.Common.{◌≡◌, ℕ, zero, suc, ◌+◌, ◌<◌, List, [], ◌∷◌, ◌++◌, length, take, map, get_or, sym, ap, ◌∙◌, subst, refl, arith, zero-add, Bool, true, false, ◌==◌}
use Rattle.std.specs.Prelude.{slice_get, Some, filter, if◌then◌else◌}
use Rattle.std.specs.List.{flat_map}
use Rattle.std.proofs.lemmas.Bool.Decides.{nat_tests}
use Rattle.std.proofs.lemmas.List.{length-append}
use Rattle.std.proofs.lemmas.Option.{same_Some}
use Rattle.mont_base.specs.declared.record.Held.{Held}
use Rattle.core_steps.proofs.RowFacts.{row_before}

-- ---- lists that stand one after the other
row_behind : {A : Type 0} (l m : List A) (i : ℕ) → slice_get (l ++ m) (length l + i) ≡ slice_get m i
row_behind [] m i = ap (slice_get m) (zero-add i)
row_behind (x ∷ xs) m i =
    let e : length (x ∷ xs) + i ≡ suc (length xs + i) = omega arith in ap (slice_get (x ∷ xs ++ m)) e ∙ row_behind xs m i

-- an item of one of them
pub row_in_lists :
    {A B : Type 0} (f : A → List B) (us : List A) (i : ℕ) (u : A) (j : ℕ) (b : B) → slice_get us i ≡ Some u → slice_get (f u) j ≡ Some b
    → slice_get (flat_map f us) (length (flat_map f (take i us)) + j) ≡ Some b
row_in_lists f [] i u j b at is = absurd (cc)
row_in_lists f (x ∷ xs) zero u j b at is =
    ap (slice_get (f x ++ flat_map f xs)) (zero-add j)
    ∙ row_before (f x) (flat_map f xs) j b (subst (λ t. slice_get (f t) j ≡ Some b) (sym (same_Some x u at)) is)
row_in_lists f (x ∷ xs) (suc i) u j b at is =
    let e : length (f x ++ flat_map f (take i xs)) + j ≡ length (f x) + (length (flat_map f (take i xs)) + j) =
    omega (arith, length-append (f x) (flat_map f (take i xs))) in
    ap (slice_get (f x ++ flat_map f xs)) e ∙ row_behind (f x) (flat_map f xs) (length (flat_map f (take i xs)) + j)
    ∙ row_in_lists f xs i u j b at is

-- ---- the slots of the records of an epoch
abbrev pub slots_at : ℕ → List Held → List ℕ
slots_at x rs = map (λ (r : Held). r.slot) (filter (λ (r : Held). r.label.epoch == x) rs)

-- a record of the epoch stands after those before it
pub record_listed :
    (x : ℕ) (rs : List Held) (i : ℕ) (d : Held) → i < length rs → (get_or rs i d).label.epoch ≡ x
    → slice_get (slots_at x rs) (length (slots_at x (take i rs))) ≡ Some (get_or rs i d).slot
record_listed x [] i d low is = absurd (omega arith)
record_listed x (r ∷ rs) zero d low is = by (r.label.epoch == x) refl
  where
    by : (b : Bool) → (r.label.epoch == x) ≡ b
        → slice_get (map (λ (r : Held). r.slot) (if b then r ∷ filter (λ (r : Held). r.label.epoch == x) rs
        else filter (λ (r : Held). r.label.epoch == x) rs)) 0 ≡ Some r.slot
    by true e = refl
    by false e = absurd (grind (arith, nat_tests))
record_listed x (r ∷ rs) (suc i) d low is = by (r.label.epoch == x) (record_listed x rs i d (omega arith) is)
  where
    by : (b : Bool) → slice_get (slots_at x rs) (length (slots_at x (take i rs))) ≡ Some (get_or rs i d).slot
        → slice_get (map (λ (r : Held). r.slot) (if b then r ∷ filter (λ (r : Held). r.label.epoch == x) rs
        else filter (λ (r : Held). r.label.epoch == x) rs))
        (length (map (λ (r : Held). r.slot) (if b then r ∷ filter (λ (r : Held). r.label.epoch == x) (take i rs)
        else filter (λ (r : Held). r.label.epoch == x) (take i rs)))) ≡ Some (get_or rs i d).slot
    by true h = h
    by false h = h
