-- A heap that was made for a job, and a store over it that was stopped.
use Rattle.std.proofs.Common.{◌≡◌, ◌≢◌, ℕ, List, refl, sym, ap, subst}
use Rattle.std.specs.Prelude.{All, Option, Some, None, IsSome}
use Rattle.mont_base.specs.Layout.{Shape}
use Rattle.mont_base.specs.State.{unit_of_op}
use Rattle.core_steps.proofs.RowFacts.{all_at}
use Rattle.heap_rule.specs.declared.rule.Opening.{Opening}
use Rattle.heap.specs.FreshOpening.{fresh_opening}
use Rattle.heap.specs.HeapShown.{HeapShown, UnitShown, AdvShown, CallerShown}
use Rattle.heap.specs.Opens.{Opens}
use Rattle.job_text.specs.declared.job.Deed.{Deed}
use Rattle.job_text.specs.declared.job.Deed.TheVariants.{Call, Tick, Sync}
use Rattle.job_text.specs.declared.job.Job.{Job}
use Rattle.job_text.specs.declared.job.Line.{Line}
use Rattle.job_text.specs.Grammar.{head_of, IsJob, IsLine, HasUnit}
use Rattle.job_worker.specs.Ending.{MayBeAsked}
use Rattle.store_stop.specs.declared.headline.Stopped.{Stopped}
use Rattle.store_stop.specs.Headline.{IsStopped}
use Rattle.store_stop.proofs.Items.{all_gives}
use Rattle.store.specs.FreshStore.{IsFreshHeap}
use Rattle.jobs_worked.specs.Stopped.{WasStopped}

is_some : {A : Type 0} (x : Option A) → x ≢ None → IsSome x
is_some None n = absurd (n refl)
is_some (Some a) n = refl

may_be_asked : (s : Shape) (deed : Deed) → HasUnit s deed → MayBeAsked s deed
may_be_asked s (Call op) h = is_some (unit_of_op s op) h
may_be_asked s Tick h = tt
may_be_asked s Sync h = tt

module _ (layout : Shape) (many : ℕ) (heap : HeapShown) (units : List UnitShown) (advancer : AdvShown) (callers : List CallerShown)
    (opens : Opens (fresh_opening layout many) heap units advancer callers) where
  pub is_fresh : IsFreshHeap heap units advancer callers
  is_fresh = record { layout = layout; many = many; opens = opens }

  pub as_many : heap.opening.callers ≡ many
  as_many = ap (λ (o : Opening). o.callers) opens.opening

  same_layout : heap.opening.layout ≡ layout
  same_layout = ap (λ (o : Opening). o.layout) opens.opening

  pub was_stopped : (tickets : List CallerShown) (t : Stopped)
      → IsStopped heap.opening.layout t.base_clock t.base tickets t → WasStopped layout t
  was_stopped tickets t stopped = record {
    callers = tickets;
    stopped = subst (λ (s : Shape). IsStopped s t.base_clock t.base tickets t) same_layout stopped;
  }

  pub all_asked : (j : Job) → IsJob j → layout ≡ j.layout → All (λ (l : Line). MayBeAsked heap.opening.layout l.deed) j.lines
  all_asked j is of_job =
      subst (λ (s : Shape). All (λ (l : Line). MayBeAsked s l.deed) j.lines) (sym same_layout)
      (subst (λ (s : Shape). All (λ (l : Line). MayBeAsked s l.deed) j.lines) (sym of_job)
      (all_at (λ (l : Line). MayBeAsked j.layout l.deed) j.lines
      (λ i l e. may_be_asked j.layout l.deed (all_gives (IsLine (head_of j)) j.lines i l is.lines e).unit)))
