use Rattle.replay.specs.declared.schedule_limits.TheConstants.{SCHEDULE_BYTES}
use Rattle.montage_tool.specs.declared.status.SourceName.TheVariants as sources
use Rattle.montage_tool.specs.Devices.{IsRead, source_seen}
use Rattle.montage_tool.proofs.Readings.{read_as, schedule_read, schedule_unread}
use Rattle.montage_tool.proofs.read_inputs.schedule_of.Goals as goal

pub returns-in_err-read_schedule-clause-source : goal.returns-in_err-read_schedule-clause-source
returns-in_err-read_schedule-clause-source g c =
    let read = c.in_err-read_schedule.ensures in
    let old = source_seen g.J.Source c.args.job.now in
    let new = source_seen g.J.Source c.read_schedule.new.source in
    read_as (IsRead SCHEDULE_BYTES sources.Job old new) c.from_residual.result _ c.from_residual.ensures.1
    (schedule_unread old new c.in_err-read_schedule.field-0.0 read.taken read.cause)

pub returns-clause-source : goal.returns-clause-source
returns-clause-source g c =
    let read = c.in_ok-read_schedule.ensures in
    schedule_read (source_seen g.J.Source c.args.job.now) (source_seen g.J.Source c.read_schedule.new.source)
    c.in_ok-read_schedule.field-0 read.taken read.cause
