-- Which status a refusal of a layer below comes to.
use Rattle.image_units.specs.declared.image_fault.ImageFault.TheVariants as faults
use Rattle.image_units.specs.declared.recovery_refusal.RecoverRefusal.{RecoverRefusal}
use Rattle.image_units.specs.declared.recovery_refusal.RecoverRefusal.TheVariants as held
use Rattle.job_store.specs.declared.resume_refusal.ResumeRefusal.{ResumeRefusal}
use Rattle.job_store.specs.declared.resume_refusal.ResumeRefusal.TheVariants as resuming
use Rattle.job_text.specs.declared.job_refusal.JobRefusal.{JobRefusal}
use Rattle.job_text.specs.declared.job_refusal.JobRefusal.TheVariants as jobs
use Rattle.mont_image.specs.declared.image_refusal.ImageRefusal.{ImageRefusal}
use Rattle.mont_image.specs.declared.image_refusal.ImageRefusal.TheVariants as bytes
use Rattle.job_text.specs.declared.report_refusal.ReportRefusal.{ReportRefusal}
use Rattle.job_text.specs.declared.report_refusal.ReportRefusal.TheVariants as reports
use Rattle.replay.specs.declared.replay_refusal.ReplayRefusal.{ReplayRefusal}
use Rattle.replay.specs.declared.replay_refusal.ReplayRefusal.TheVariants as replays
use Rattle.replay.specs.declared.schedule_refusal.ScheduleRefusal.{ScheduleRefusal}
use Rattle.replay.specs.declared.schedule_refusal.ScheduleRefusal.TheVariants as schedules
use Rattle.source_bytes.specs.declared.read_refusal.ReadRefusal.{ReadRefusal}
use Rattle.source_bytes.specs.declared.read_refusal.ReadRefusal.TheVariants as reads
use Rattle.store.specs.declared.open_refusal.OpenRefusal.{OpenRefusal}
use Rattle.store.specs.declared.open_refusal.OpenRefusal.TheVariants as openings
use Rattle.montage_tool.specs.declared.status.Status.{Status}
use Rattle.montage_tool.specs.declared.status.Status.TheVariants.{BadJob, BadImage, ReadFault, Memory, BadIndex, OtherLayout, BadReport, NotAllowed, BadSchedule}
use Rattle.montage_tool.specs.declared.status.SourceName.TheVariants as sources

-- where no job was read
abbrev pub of_job : JobRefusal → Status
of_job (jobs.Text line fault) = BadJob line fault
of_job jobs.Read = ReadFault sources.Job
of_job jobs.Memory = Memory

-- where no store was opened
abbrev pub of_opening : OpenRefusal → Status
of_opening (openings.Index unit len) = BadIndex unit len
of_opening openings.Memory = Memory

-- where no image was read
abbrev pub of_image : ImageRefusal → Status
of_image bytes.Magic = BadImage faults.Magic
of_image bytes.Version = BadImage faults.Version
of_image bytes.Layout = BadImage faults.Layout
of_image bytes.Clock = BadImage faults.Clock
of_image (bytes.Short words) = BadImage (faults.Short words)
of_image bytes.Long = BadImage faults.Long
of_image bytes.Read = ReadFault sources.Image
of_image bytes.Memory = Memory

-- where recovery refused an image
abbrev pub of_words : RecoverRefusal → Status
of_words (held.Slot slot fault) = BadImage (faults.Slot slot fault)
of_words (held.Twice slot other) = BadImage (faults.Twice slot other)
of_words (held.Object unit slot fault) = BadImage (faults.Object unit slot fault)
of_words held.Memory = Memory

-- where no job was run on an image
abbrev pub of_resume : ResumeRefusal → Status
of_resume (resuming.Image why) = of_words why
of_resume (resuming.OtherLayout layout) = OtherLayout layout.kinds layout.slots
of_resume (resuming.Index unit len) = BadIndex unit len
of_resume resuming.Memory = Memory

-- where a report wasn't read
abbrev pub of_reading : ReadRefusal → Status
of_reading reads.Read = ReadFault sources.Job
of_reading reads.Memory = Memory

abbrev pub of_report : ReportRefusal → Status
of_report (reports.Text line) = BadReport line
of_report reports.Memory = Memory

-- where a schedule wasn't read, or replayed to its end
abbrev pub of_schedule : ScheduleRefusal → Status
of_schedule (schedules.Text line) = BadSchedule line
of_schedule schedules.Read = ReadFault sources.Job
of_schedule schedules.Memory = Memory

abbrev pub of_replay : ReplayRefusal → Status
of_replay (replays.NotAllowed line) = NotAllowed line
of_replay replays.Memory = Memory
