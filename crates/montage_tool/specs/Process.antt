-- What a process comes to.
use Rattle.std.specs.Prelude.{◌≡◌, ◌⊎◌, ℕ, List, Option}
use Rattle.mont_base.specs.declared.sink.Sink as sink_trait
use Rattle.mont_base.specs.declared.source.Source as source_trait
use Rattle.mont_base.specs.Faults.{Rose}
use Rattle.montage_tool.specs.Devices.{HasOutput, SinkSeen, SourceSeen, sink_seen, source_seen}
use Rattle.montage_tool.specs.Forms.{AskFor, AsksJob}
use Rattle.montage_tool.specs.Program.{Answers, IsSaid}
use Rattle.montage_tool.specs.Status.{exit_code_of, status_line}
use Rattle.montage_tool.specs.declared.status.Status.{Status}
use Rattle.montage_tool.specs.declared.status.Status.TheVariants.{Done, WriteFault, Memory}
use Rattle.montage_tool.specs.declared.status.SinkName.TheVariants as sinks

-- What came of the words with boxes that hold so many keys, and with the files that the words name
-- as the image's source and sink.
pub record AreAnswered {J O : Type 0} (source : source_trait.Ghosts J) (sink : sink_trait.Ghosts O)
    (words : List (List ℕ)) (boxes : List ℕ) (job read : J) (out written : O) (status : Status)
    : Type 0 where
  pub image : SourceSeen
  pub image_read : SourceSeen
  pub image_out : SinkSeen
  pub image_written : SinkSeen
  pub answers :
      Answers boxes words
      (record {
        job = source_seen source job;
        image = image;
        out = sink_seen sink out;
        image_out = image_out;
      })
      (record {
        job = source_seen source read;
        image = image_read;
        out = sink_seen sink written;
        image_out = image_written;
      }) status
  -- what isn't used stays as it was
  pub unasked : ¬ AskFor AsksJob words → read ≡ job
  pub quiet : ¬ HasOutput status → written ≡ out

-- A file that was written whole is moved to its place, which may fail: by the status before and
-- after that, and by how often its sink had failed.
abbrev pub IsSettled : Status → ℕ → ℕ → Status → Type 0
IsSettled status faults now settled =
    ((settled ≡ status) × (now ≡ faults))
    ⊎ ((status ≡ Done) × (settled ≡ WriteFault sinks.Image) × Rose faults now)

-- that, unless there was no memory for the files
abbrev pub CameOf : {J O : Type 0} → source_trait.Ghosts J → sink_trait.Ghosts O
    → List (List ℕ) → List ℕ → J → J → O → O → Status → Type 0
CameOf source sink words boxes job read out written status =
    AreAnswered source sink words boxes job read out written status
    ⊎ ((status ≡ Memory) × (read ≡ job) × (written ≡ out))

-- A status came, with the sink as it then was. Its line is said, unless there is no memory for it,
-- and the process ends with its exit status.
pub record Ends {O : Type 0} (taken : O → Option (List ℕ)) (faults : O → ℕ)
    (came : O → Status → Type 0) (said : O) (exit : ℕ) : Type 0 where
  pub written : O
  pub status : Status
  pub of_words : came written status
  pub line : IsSaid taken faults written said (status_line status) ⊎ (said ≡ written)
  pub code : exit ≡ exit_code_of status
