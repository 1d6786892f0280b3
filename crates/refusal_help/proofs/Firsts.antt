-- The first byte that isn't of a sort.
use Rattle.std.proofs.Common.{◌≡◌, ℕ, ◌+◌, ◌<◌, Some, List, length, get_or, subst, arith, inl, inr}
use Rattle.std.specs.List.{slice_get}
use Rattle.std.proofs.lemmas.Bool.{cases_lt}
use Rattle.std.proofs.lemmas.Option.{get_or_from_slice_get, slice_get-get_or}
use Rattle.refusal_help.specs.LayoutWords.{AreBefore, IsFirstOther}

-- one more of the sort
pub one_more : (Is : ℕ → Type 0) (word : List ℕ) (at d : ℕ) → AreBefore Is word at → Is (get_or word at d) → AreBefore Is word (at + 1)
one_more Is word at d before here = λ k byte below is.
    elim (cases_lt k at) [
      | inl low ↦ before k byte low is
      | inr high ↦
          let same : k ≡ at = omega arith in
          let there : slice_get word at ≡ Some byte = subst (λ (i : ℕ). slice_get word i ≡ Some byte) same is in
          subst Is (get_or_from_slice_get word at byte d there) here
    ]

pub first_other : (Is : ℕ → Type 0) (word : List ℕ) (at d : ℕ) → at < length word → AreBefore Is word at → ¬ Is (get_or word at d)
    → IsFirstOther Is word at
first_other Is word at d within before other = record {
  byte = get_or word at d;
  there = slice_get-get_or word at d within;
  other = other;
  before = before;
}
