use Rattle.std.proofs.Common.{refl, subst}
use Rattle.std.specs.Prelude.{All}
use Rattle.std.proofs.lemmas.List.{take_all}
use Rattle.std.proofs.lemmas.List.Elements.{All-more}
use Rattle.core_steps.specs.Notes.{cuts_of, IsTrueMark}
use Rattle.core_run.proofs.hearing.are_true_marks.Goals as goal

pub loop-mark-preserved : goal.loop-mark-preserved
loop-mark-preserved c =
    All-more (IsTrueMark (cuts_of c.args.units.now)) c.args.marks.now c.loop-mark.mark-index _ c.loop-mark-test.true c.loop-mark.invariant
    (c.is_true_mark.ensures.0 c.if-not-is_true_mark.false)

pub returns : goal.returns
returns c = (
  λ t. subst (All (IsTrueMark (cuts_of c.args.units.now)))
      (take_all c.loop-mark.mark-index c.args.marks.now c.loop-mark-test.false) c.loop-mark.invariant,
  λ all. refl,
)
