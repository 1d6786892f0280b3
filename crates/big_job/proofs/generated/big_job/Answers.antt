use Rattle.std.proofs.Common.{◌++◌, ap, sym, ◌∙◌, arith}
use Rattle.big_job.specs.Generated.{first_lines, lines_of_callers}
use Rattle.big_job.proofs.Whole.{callers_none, callers_more, is_job_of}
use Rattle.big_job.proofs.generated.big_job.Goals as goal

pub loop-caller-init : goal.loop-caller-init
loop-caller-init c = c.new-lines.ensures ∙ sym (callers_none c.args.number 5000)

pub loop-caller-preserved : goal.loop-caller-preserved
loop-caller-preserved c =
    c.in_ok-push_lines.ensures ∙ ap (λ ls. ls ++ first_lines c.args.number c.loop-caller.caller 5000) c.loop-caller.invariant
    ∙ sym (callers_more c.args.number 5000 c.loop-caller.caller)

pub returns-clause-job : goal.returns-clause-job
returns-clause-job c =
    is_job_of c.args.number c.layout.result c.new.result c.loop-caller.lines c.layout.ensures c.new.ensures
    (c.loop-caller.invariant ∙ ap (lines_of_callers c.args.number 5000) (omega arith))
