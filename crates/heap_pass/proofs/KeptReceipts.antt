-- The last receipt that a pass keeps is the one of which its call tells.
use Rattle.std.proofs.Common.{◌≡◌, ℕ, ◌+◌, ◌-◌, ◌≤◌, List, [], ◌∷◌, ◌++◌, length, sym, ap, ◌∙◌, subst, arith}
use Rattle.std.specs.Prelude.{Option, Some, slice_get}
use Rattle.std.proofs.lemmas.List.{length_push}
use Rattle.std.proofs.lemmas.Option.{same_Some}
use Rattle.mont_base.specs.declared.operation.Receipt.{Receipt}
use Rattle.core_steps.proofs.RowFacts.{row_last}
use Rattle.heap_pass.specs.KeptReceipt.{KeepsReceipt}

module _ {old new : List Receipt} {Holds : Receipt → Type 0} (k : KeepsReceipt old new Holds) where
  longer : length new ≡ length old + 1
  longer = ap length k.kept ∙ length_push old k.receipt

  at_end : slice_get new (length new - 1) ≡ Some k.receipt
  at_end =
      let place : length new - 1 ≡ length old = let e = longer in omega (arith, e) in
      ap (slice_get new) place ∙ ap (λ (rs : List Receipt). slice_get rs (length old)) k.kept ∙ row_last old k.receipt

  -- where these are given to be looked at
  module _ (given : List Receipt) (all : given ≡ new) where
    pub some_given : 1 ≤ length given
    some_given = let e = longer in let f = ap length all in omega (arith, e, f)

    module _ (last : Receipt) (is : slice_get given (length given - 1) ≡ Some last) where
      same : k.receipt ≡ last
      same = same_Some k.receipt last (sym at_end ∙ ap (λ (rs : List Receipt). slice_get rs (length rs - 1)) (sym all) ∙ is)

      pub last_kept : new ≡ old ++ last ∷ []
      last_kept = k.kept ∙ ap (λ (r : Receipt). old ++ r ∷ []) same

      pub last_holds : Holds last
      last_holds = subst Holds same k.holds

-- after another list that is the same, what holds of it may be told otherwise
pub kept_so : {old mid new : List Receipt} {Holds Tells : Receipt → Type 0} → mid ≡ old → ((r : Receipt) → Holds r → Tells r)
    → KeepsReceipt mid new Holds → KeepsReceipt old new Tells
kept_so same tells k = record {
  receipt = k.receipt;
  kept = k.kept ∙ ap (λ (rs : List Receipt). rs ++ k.receipt ∷ []) same;
  holds = tells k.receipt k.holds;
}
