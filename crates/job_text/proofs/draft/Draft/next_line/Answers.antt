use Rattle.std.proofs.Common.{◌≡◌, true, subst, sym, ◌∙◌, arith}
use Rattle.job_text.specs.declared.job.Line.{Line}
use Rattle.job_text.specs.Grammar.{IsLine}
use Rattle.job_text.proofs.Once.{line_once}
use Rattle.job_text.proofs.draft.Draft.next_line.Goals as goal

pub returns-in_err-line : goal.returns-in_err-line
returns-in_err-line c =
    rw c.from_residual.ensures (λ l may is.
    c.in_err-line.ensures l (omega (arith, c.requires.head.few_callers, may.caller)) may.asked is)

pub returns-else-takes_line : goal.returns-else-takes_line
returns-else-takes_line c =
    λ l may is.
    let same : l ≡ c.in_ok-line.line = line_once l c.in_ok-line.line (omega (arith, c.requires.head.few_callers, may.caller))
    c.in_ok-line.ensures.0 may.asked c.in_ok-line.ensures.1 (sym is ∙ c.in_ok-line.ensures.2) in
    let yes : c.takes_line.result ≡ true = c.takes_line.ensures.1 (subst (λ (m : Line). IsLine c.args.self.now.head m) same may) in
    cc
