use Rattle.std.proofs.Common.{◌≡◌, true, subst, sym, ◌∙◌, arith}
use Rattle.job_text.specs.declared.job.Stop.{Stop}
use Rattle.job_text.specs.Draft.{MayStop}
use Rattle.job_text.proofs.Once.{stop_once}
use Rattle.job_text.proofs.draft.Draft.next_stop.Goals as goal

pub returns-in_err-stop : goal.returns-in_err-stop
returns-in_err-stop c =
    rw c.from_residual.ensures (λ s may is.
    c.in_err-stop.ensures s (omega (arith, c.requires.head.few_callers, may.is_stop.who)) (omega (arith, may.is_stop.few_steps)) is)

pub returns-else-takes_stop : goal.returns-else-takes_stop
returns-else-takes_stop c =
    λ s may is.
    let same : s ≡ c.in_ok-stop.stop = stop_once s c.in_ok-stop.stop (omega (arith, c.requires.head.few_callers, may.is_stop.who))
    (omega (arith, may.is_stop.few_steps)) c.in_ok-stop.ensures.0 c.in_ok-stop.ensures.1 (sym is ∙ c.in_ok-stop.ensures.2) in
    let yes : c.takes_stop.result ≡ true = c.takes_stop.ensures.1 (subst (λ (t : Stop). MayStop c.args.self.now t) same may) in
    cc
