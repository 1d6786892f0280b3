use Rattle.std.proofs.Common.{sym, ◌∙◌}
use Rattle.mont_base.specs.History.{runs_of}
use Rattle.plain.specs.States.{state_of}
use Rattle.job_report.proofs.RunLaws.{at_entry, no_runs}
use Rattle.job_report.proofs.found_runs.runs_of.Goals as goal

pub returns-then-not-has_range : goal.returns-then-not-has_range
returns-then-not-has_range c short =
    c.new-runs.ensures
    ∙ sym (no_runs (state_of c.args.base.now) c.args.history.now (sym c.has_range.ensures ∙ c.if-not-has_range.true))

pub loop-entry-preserved : goal.loop-entry-preserved
loop-entry-preserved c short =
    at_entry (state_of c.loop-entry.state) (state_of c.apply.new.self) c.args.history.now c.loop-entry.entry-index
    c.entry-item.result c.loop-entry-test.true c.entry-item.is c.loop-entry.runs c.add_run.new.runs
    (runs_of (state_of c.args.base.now) c.args.history.now) (c.loop-entry.invariant short) c.in_ok-apply.ensures.state short
    c.in_ok-add_run.ensures
