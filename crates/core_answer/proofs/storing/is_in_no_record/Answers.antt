use Rattle.std.proofs.Common.{◌≢◌, refl, subst}
use Rattle.std.specs.Prelude.{All}
use Rattle.std.proofs.lemmas.List.{take_all}
use Rattle.std.proofs.lemmas.List.Elements.{All-more, All-contains, Contains-get_or}
use Rattle.mont_base.specs.declared.record.Held.{Held}
use Rattle.core_answer.proofs.storing.is_in_no_record.Goals as goal

pub returns-then-held-slot : goal.returns-then-held-slot
returns-then-held-slot c = (
  λ t. absurd (cc),
  λ none. absurd (none _ (Contains-get_or c.args.records.now c.loop-held.held-index _ c.loop-held-test.true) c.if-held-slot.true),
)

pub loop-held-preserved : goal.loop-held-preserved
loop-held-preserved c =
    All-more (λ (r : Held). r.slot ≢ c.args.slot) c.args.records.now c.loop-held.held-index _ c.loop-held-test.true c.loop-held.invariant
    c.if-held-slot.false

pub returns : goal.returns
returns c =
    let Else : Held → Type 0 = λ r. r.slot ≢ c.args.slot in
    let all = subst (All Else) (take_all c.loop-held.held-index c.args.records.now c.loop-held-test.false) c.loop-held.invariant in
    (λ t r there. All-contains Else c.args.records.now r all there, λ none. refl)
