use Rattle.std.proofs.Common.{ℕ, refl, subst, inl, arith}
use Rattle.mont_check.specs.Points.{IsClosed}
use Rattle.mont_check.proofs.ReadyLaws.{begins_later}
use Rattle.mont_check.proofs.questions.ready.Goals as goal
use Rattle.mont_check.proofs.questions.ready.Goals.{in-Some, in-None}

pub returns : goal.returns
returns c = record {
  question = refl;
  closed =
      subst (λ (k : ℕ). IsClosed c.args.history.now c.args.points.now k c.closed_at-closed.result) c.clock.ensures
      c.closed_at-closed.ensures;
  start =
      elim c.match-most_free.branch [
        | in-Some w ↦ λ n p low at. begins_later c.args.question.span c.args.question.case c.closed_at-closed.result c.first-begun.result
            w.saturating_sub-used.result w.first_using.result w.in-Some.free c.args.points.now c.first-begun.ensures w.in-Some.ensures
            (omega arith) w.first_using.ensures n p (omega arith) at
        | in-None w ↦ λ n p low at. inl (c.first-begun.ensures n (omega arith))
      ];
}
