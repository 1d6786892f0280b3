-- A run of a job is a round, and the next one opens with what its report ends with.
use Rattle.std.proofs.Common.{◌≡◌, ℕ, List, sym, ap, ◌∙◌, subst}
use Rattle.mont_base.specs.State.{State}
use Rattle.mont_base.specs.Image.{clock_of}
use Rattle.plain.specs.States.{states_of}
use Rattle.plain.proofs.Single.{recovered_once}
use Rattle.job_text.specs.declared.job.Job.{Job}
use Rattle.job_text.specs.Report.{Report}
use Rattle.rounds.specs.Rounds.{Round, IsRoundOfStore, round_of}
use Rattle.rounds.proofs.StoredRounds.{stopped_stores_make_rounds}
use Rattle.job_store.specs.Base.{Base}
use Rattle.job_store.specs.RunRounds.{RunsGoOn, RunsMakeRounds, round_told}
use Rattle.job_store.specs.WholeRun.{IsRun}

module _ (j : Job) (b : Base) (r : Report) (image : List ℕ) (is : IsRun j b r image) where
  same_round : round_of is.of_store.store (clock_of image) ≡ round_told r
  same_round =
      let s = is.of_store in λ i. record {
        clock = (s.stopped.base_clock ∙ sym is.faithful.frame.clocks.base_clock) i;
        base = (ap states_of s.stopped.base_is ∙ s.base_is ∙ sym is.faithful.base_states) i;
        histories = sym s.histories i;
        image_clock = sym s.clock i;
      }

  made : IsRoundOfStore j.layout b.clock b.states image (round_told r)
  made =
      let s = is.of_store in
      subst (λ (x : List State × Round). IsRoundOfStore j.layout b.clock x.0 image x.1) (λ i. (s.base_is i, same_round i))
      (stopped_stores_make_rounds j.layout b.clock s.base s.callers s.store image s.stopped s.pick.permitted)

pub runs_make_rounds : RunsMakeRounds
runs_make_rounds = made

pub runs_go_on : RunsGoOn
runs_go_on j b next r image is opens = record {
  clock = opens.clock ∙ sym is.of_store.clock;
  states = recovered_once j.layout image next.states r.contents opens.recovered is.of_store.rebuilt;
}
