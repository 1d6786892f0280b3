-- The name of a file beside another fits, and has as much of that one's name as it can.
use Rattle.std.proofs.Common.{inl, inr, ◌≡◌, ◌⊎◌, ◌+◌, ◌-◌, ◌<◌, ◌≤◌, ◌^◌, ◌∙◌, ℕ, List, ◌++◌, length, take, ap, sym, subst, arith, length-append, length-take}
use Rattle.std.specs.Prelude.{Option, Some, None, Result, Ok, Err, IfOk, MatchOption, codes, decimal, unwrap_or, slice_range, IsCharBoundary, IsUtf8}
use Rattle.std.proofs.lemmas.Bool.{cases_lt}
use Rattle.std.proofs.lemmas.Fmt.{length-decimal-le}
use Rattle.std.proofs.lemmas.Str.{IsCharBoundary-start}
use Rattle.process_devices.specs.BesideName.{IsBesideName, ending_of}

-- the ending leaves room for some of the name
pub short_ending : (turn : ℕ) → turn < 2 ^ 16 → length (ending_of turn) ≤ 17
short_ending turn small =
    let digits : length (decimal turn) ≤ 5 = length-decimal-le 5 turn (omega arith) (omega arith) (omega arith) in
    omega (arith, digits, length-append (decimal turn) (codes ".unfinished"))

-- a front that ends between characters is there
pub if_ok : {A E : Type 0} {P Q : A → Type 0} (r : Result A E) → IfOk r P → ((a : A) → P a → Q a) → IfOk r Q
if_ok (Ok a) has goes = goes a has
if_ok (Err e) has goes = tt

-- the front that ends between characters is there
pub front_of : {X : Type 0} (now : X → List ℕ) (name : List ℕ) (end : ℕ) → IsUtf8 name → IsCharBoundary name end → (got : Option X)
    → MatchOption got (0 ≤ end → IsCharBoundary name 0 → ¬ IsCharBoundary name end)
    (λ x. (now x ≡ slice_range name 0 end) × (length (now x) + 0 ≡ end) × (end ≤ length name)) → (front empty : X)
    → front ≡ unwrap_or got empty → now front ≡ take end name
front_of now name end utf8 between None gets front empty is =
    absurd (gets (omega arith) (IsCharBoundary-start name utf8) between)
front_of now name end utf8 between (Some x) gets front empty is =
    ap now is ∙ gets.0 ∙ ap (λ (n : ℕ). take n name) (let whole : end - 0 ≡ end = omega arith in whole)

pub named : (name : List ℕ) (turn kept room : ℕ) (front ending beside : List ℕ) → turn < 2 ^ 16 → ending ≡ ending_of turn
    → room ≡ 255 - length ending → kept ≤ room → ((i : ℕ) → kept < i → i ≤ room → ¬ IsCharBoundary name i) → front ≡ take kept name
    → beside ≡ front ++ ending → IsBesideName name turn beside
named name turn kept room front ending beside small ends leaves within nearest is_front is =
    let short : length ending ≤ 17 = subst (λ (e : List ℕ). length e ≤ 17) (sym ends) (short_ending turn small) in
    let few : length front ≤ kept = subst (λ (f : List ℕ). length f ≤ kept) (sym is_front) (omega (arith, length-take kept name)) in
    let all : length beside ≡ length front + length ending = ap (λ (b : List ℕ). length b) is ∙ length-append front ending in
    record {
      kept = kept;
      is = is ∙ ap (λ (f : List ℕ). f ++ ending) is_front ∙ ap (λ (e : List ℕ). take kept name ++ e) ends;
      fits = omega (arith, all, few, within, leaves, short);
      longest = λ more above boundary.
          subst (λ (e : List ℕ). 255 < more + length e) ends (beyond more above boundary (cases_lt room more));
    }
  where
    beyond : (more : ℕ) → kept < more → IsCharBoundary name more → (room < more) ⊎ (more ≤ room) → 255 < more + length ending
    beyond more above boundary (inl far) = omega (arith, far, leaves)
    beyond more above boundary (inr near) = absurd (nearest more above near boundary)
