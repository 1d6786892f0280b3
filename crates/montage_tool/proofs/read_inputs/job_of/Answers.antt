use Rattle.job_text.specs.declared.limits.TheConstants.{READ_BYTES}
use Rattle.montage_tool.specs.declared.status.SourceName.TheVariants as sources
use Rattle.montage_tool.specs.Devices.{IsRead, source_seen}
use Rattle.montage_tool.proofs.Readings.{job_read, read_as, job_unread}
use Rattle.montage_tool.proofs.read_inputs.job_of.Goals as goal

pub returns-in_err-read_job-clause-source : goal.returns-in_err-read_job-clause-source
returns-in_err-read_job-clause-source g c =
    let read = c.in_err-read_job.ensures in
    let old = source_seen g.J.Source c.args.job.now in
    let new = source_seen g.J.Source c.read_job.new.source in
    read_as (IsRead READ_BYTES sources.Job old new) c.from_residual.result _ c.from_residual.ensures.1
    (job_unread old new c.in_err-read_job.field-0.0 read.taken read.cause)

pub returns-clause-source : goal.returns-clause-source
returns-clause-source g c =
    let read = c.in_ok-read_job.ensures in
    job_read (source_seen g.J.Source c.args.job.now) (source_seen g.J.Source c.read_job.new.source) c.in_ok-read_job.field-0 read.taken
    read.cause
