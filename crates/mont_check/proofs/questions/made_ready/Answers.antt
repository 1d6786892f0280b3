use Rattle.std.proofs.Common.{◌+◌, take, subst, sym}
use Rattle.mont_check.specs.Questions.{AreReady}
use Rattle.mont_check.proofs.ReadyLaws.{ready_more}
use Rattle.mont_check.proofs.questions.made_ready.Goals as goal

pub loop-question-preserved : goal.loop-question-preserved
loop-question-preserved c =
    subst (AreReady c.args.history.now c.args.points.now (take (c.loop-question.question-index + 1) c.args.questions.now))
    (sym c.in_ok-push.ensures.items)
    (ready_more c.args.history.now c.args.points.now c.args.questions.now c.loop-question.asked.items c.loop-question.question-index
    c.question-item.result c.ready.result c.loop-question-test.true c.question-item.is c.loop-question.invariant c.ready.ensures)
