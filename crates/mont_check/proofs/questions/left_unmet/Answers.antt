use Rattle.std.proofs.Common.{◌+◌, take, sym, subst}
use Rattle.mont_check.specs.Questions.{AreTried}
use Rattle.mont_check.specs.Walk.{facts_of}
use Rattle.mont_check.proofs.QuestionLaws.{tried_fits, tried_left}
use Rattle.mont_check.proofs.questions.left_unmet.Goals as goal

pub loop-asked-preserved-then-branch : goal.loop-asked-preserved-then-branch
loop-asked-preserved-then-branch c records opening =
    tried_fits (facts_of c.args.walk.now) records c.args.unmet.now c.loop-asked.left.items c.loop-asked.asked-index c.asked-item.result
    c.loop-asked-test.true c.asked-item.is (c.loop-asked.invariant records opening)
    ((c.in_ok-fits.ensures records opening).0 c.if-branch.true)

pub loop-asked-preserved : goal.loop-asked-preserved
loop-asked-preserved c records opening =
    subst (AreTried (facts_of c.args.walk.now) records (take (c.loop-asked.asked-index + 1) c.args.unmet.now))
    (sym c.in_ok-push.ensures.items)
    (tried_left (facts_of c.args.walk.now) records c.args.unmet.now c.loop-asked.left.items c.loop-asked.asked-index c.asked-item.result
    c.loop-asked-test.true c.asked-item.is (c.loop-asked.invariant records opening)
    (λ fits. absurd (let no = (c.in_ok-fits.ensures records opening).1 fits in let unmet = c.if-branch.false in cc)))
