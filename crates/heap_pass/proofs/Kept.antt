-- The receipts that stand last among those of a ticket.
use Rattle.std.proofs.Common.{◌≡◌, ◌↔◌, ℕ, ◌-◌, ◌≤◌, List, [], ◌∷◌, ◌++◌, length, drop, ap, sym, ◌∙◌, arith}
use Rattle.std.proofs.Math.Seq.{drop-length}
use Rattle.std.proofs.lemmas.List.{length_push, drop-append-le}
use Rattle.heap_pass.specs.Kept.{StandLast}

module _ {A : Type 0} where
  -- none of them do
  pub none_last : (all : List A) → StandLast all []
  none_last all =
      let same : length all - 0 ≡ length all = omega arith in
      sym (ap (λ (n : ℕ). drop n all) same ∙ drop-length all)

  -- they are all exactly where they are as many
  pub whole_by_length : (all last : List A) → StandLast all last → (length last ≡ length all) ↔ (last ≡ all)
  whole_by_length all last stand = (by, ap length)
    where
      by : length last ≡ length all → last ≡ all
      by e = let none : length all - length last ≡ 0 = omega (arith, e) in stand ∙ ap (λ (k : ℕ). drop k all) none

  -- with one more after both they do
  pub one_more_last : (all last : List A) (x : A) → StandLast all last → StandLast (all ++ x ∷ []) (last ++ x ∷ [])
  one_more_last all last x stand =
      let before = length all - length last in
      let front : before ≤ length all = omega arith in
      let more : length (all ++ x ∷ []) - length (last ++ x ∷ []) ≡ before =
      omega (arith, length_push all x, length_push last x) in
      ap (λ (l : List A). l ++ x ∷ []) stand
      ∙ (sym (drop-append-le before all (x ∷ []) front) ∙ ap (λ (n : ℕ). drop n (all ++ x ∷ [])) (sym more))
