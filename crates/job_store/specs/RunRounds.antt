-- Runs of jobs that follow one another, each on a store that goes on from the image of the last.
use Rattle.std.specs.Prelude.{◌≡◌, ℕ, List}
use Rattle.job_text.specs.declared.job.Job.{Job}
use Rattle.job_text.specs.Report.{Report}
use Rattle.rounds.specs.Rounds.{Round, IsRoundOfStore}
use Rattle.job_store.specs.Base.{Base, IsBaseIn}
use Rattle.job_store.specs.WholeRun.{IsRun}

-- the round of which a report tells
abbrev pub round_told : Report → Round
round_told r = record {
  clock = r.base_clock;
  base = r.base;
  histories = r.histories;
  image_clock = r.image_clock;
}

-- A run is a round: its histories are legal from its base, and its image holds what they leave.
abbrev pub RunsMakeRounds : Type 0
RunsMakeRounds =
    (j : Job) (b : Base) (r : Report) (image : List ℕ) → IsRun j b r image
    → IsRoundOfStore j.layout b.clock b.states image (round_told r)

-- What a store opens with that goes on from the image of a run: the clock and the contents that the
-- run's report ends with.
pub record GoesOnFrom (r : Report) (b : Base) : Type 0 where
  pub clock : b.clock ≡ r.image_clock
  pub states : b.states ≡ r.contents

abbrev pub RunsGoOn : Type 0
RunsGoOn =
    (j : Job) (b next : Base) (r : Report) (image : List ℕ) → IsRun j b r image
    → IsBaseIn j.layout image next → GoesOnFrom r next
