use Rattle.std.proofs.Common.{List, rules, subst, sym}
use Rattle.std.proofs.lemmas.List.Sorted.{IsNonDecreasingBy-from_sort_by_key}
use Rattle.std.specs.List.Sorted.{IsNonDecreasingBy, IsPermutation}
use Rattle.plain.specs.States.{state_of}
use Rattle.mont_check.specs.declared.asked.Asked.{Asked}
use Rattle.mont_check.specs.declared.points.Point.{Point}
use Rattle.mont_check.specs.Questions.{AreReady}
use Rattle.mont_check.proofs.ReadyLaws.{met_told}
use Rattle.mont_check.proofs.questions.are_met_along.Goals as goal

pub walk_along-requires : goal.walk_along-requires
walk_along-requires c =
    subst (IsNonDecreasingBy (λ (a : Asked). a.start)) (sym c.as_slice-2.ensures.value)
    (IsNonDecreasingBy-from_sort_by_key (λ (a : Asked). a.start) c.sort_by_key.new.self.items c.in_ok-sort_by_key.ensures.sorted
    (λ a r q k. search rules))

pub returns : goal.returns
returns c =
    met_told (state_of c.args.base.now) c.args.history.now c.args.records.now c.in_ok-points.points.items c.in_ok-points.ensures
    c.args.questions.now c.in_ok-asked.asked.items
    (subst (λ (ps : List Point). AreReady c.args.history.now ps c.args.questions.now c.in_ok-asked.asked.items) c.as_slice.ensures.value
    c.in_ok-asked.ensures)
    c.as_slice-2.result.now c.in_ok-opening.opening c.in_ok-met.met
    (subst (IsPermutation c.in_ok-asked.asked.items) (sym c.as_slice-2.ensures.value) c.in_ok-sort_by_key.ensures.permutation)
    c.in_ok-opening.ensures c.in_ok-met.ensures
