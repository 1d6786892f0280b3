-- How a run of the tool ends: its exit status, and the line that it writes to standard output.
use Rattle.std.specs.Prelude.{ℕ, List, [], ◌∷◌, ◌++◌, codes, decimal}
use Rattle.image_units.specs.FaultWords.{fault_words}
use Rattle.mont_base.specs.Layout.{letters_of}
use Rattle.job_text.specs.declared.job.JobFault.{JobFault}
use Rattle.job_text.specs.declared.job.JobFault.TheVariants as faults
use Rattle.montage_tool.specs.declared.status.Status.{Status}
use Rattle.montage_tool.specs.declared.status.Status.TheVariants.{Done, BadWords, BadJob, BadImage, ReadFault, WriteFault, Memory, BadIndex, OtherLayout, BadReport, NotAllowed, BadSchedule}
use Rattle.montage_tool.specs.declared.status.SourceName.{SourceName}
use Rattle.montage_tool.specs.declared.status.SourceName.TheVariants as sources
use Rattle.montage_tool.specs.declared.status.SinkName.{SinkName}
use Rattle.montage_tool.specs.declared.status.SinkName.TheVariants as sinks

abbrev pub exit_code_of : Status → ℕ
exit_code_of Done = 0
exit_code_of BadWords = 2
exit_code_of (BadJob line fault) = 3
exit_code_of (BadImage fault) = 4
exit_code_of (ReadFault which) = 5
exit_code_of (WriteFault which) = 6
exit_code_of Memory = 7
exit_code_of (BadIndex unit len) = 8
exit_code_of (OtherLayout kinds slots) = 9
exit_code_of (BadReport line) = 10
exit_code_of (NotAllowed line) = 11
exit_code_of (BadSchedule line) = 12

-- the word for what is wrong with a line of a job
abbrev pub fault_word : JobFault → List ℕ
fault_word faults.Many = codes "many"
fault_word faults.Long = codes "long"
fault_word faults.Unended = codes "unended"
fault_word faults.Header = codes "header"
fault_word faults.Stop = codes "stop"
fault_word faults.Operation = codes "operation"

abbrev pub source_word : SourceName → List ℕ
source_word sources.Job = codes "job"
source_word sources.Image = codes "image"

abbrev pub sink_word : SinkName → List ℕ
sink_word sinks.Report = codes "report"
sink_word sinks.Image = codes "image"

-- what is told of a status: nothing where all went well
abbrev pub status_bytes : Status → List ℕ
status_bytes Done = []
status_bytes BadWords = codes "montage: bad words"
status_bytes (BadJob line fault) =
    codes "montage: job line " ++ decimal line ++ codes ": " ++ fault_word fault
status_bytes (BadImage fault) = codes "montage: image: " ++ fault_words fault
status_bytes (ReadFault which) = codes "montage: read fault: " ++ source_word which
status_bytes (WriteFault which) = codes "montage: write fault: " ++ sink_word which
status_bytes Memory = codes "montage: out of memory"
status_bytes (BadIndex unit len) = codes "montage: index " ++ decimal unit
status_bytes (OtherLayout kinds slots) =
    codes "montage: image layout " ++ letters_of kinds ++ codes " " ++ decimal slots
status_bytes (BadReport line) = codes "montage: report line " ++ decimal line
status_bytes (NotAllowed line) = codes "montage: not allowed at line " ++ decimal line
status_bytes (BadSchedule line) = codes "montage: schedule line " ++ decimal line

-- a text with a line feed after it, if there is one
abbrev pub with_line_feed : List ℕ → List ℕ
with_line_feed [] = []
with_line_feed (byte ∷ bytes) = (byte ∷ bytes) ++ 10 ∷ []

abbrev pub status_line : Status → List ℕ
status_line status = with_line_feed (status_bytes status)
