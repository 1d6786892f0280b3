-- What a run of a job gives where its first caller hears the others and syncs for all, once the
-- lines of all are carried out.
use Rattle.std.specs.Prelude.{◌≡◌, ℕ, ◌<◌, true, false, List, [], ◌∷◌, length, slice_get, Some, None, All, OnOk, IfErr}
use Rattle.std.specs.declared.result.Result.{Result}
use Rattle.mont_base.specs.declared.constants.TheConstants.{LAST}
use Rattle.mont_base.specs.declared.gate.Fuel.{Fuel}
use Rattle.mont_base.specs.declared.operation.Entry.{Entry}
use Rattle.mont_base.specs.Gates.{is_endless}
use Rattle.mont_base.specs.History.{state_after}
use Rattle.mont_base.specs.State.{State}
use Rattle.core_steps.specs.Places.{EachAt}
use Rattle.heap_rule.specs.SeenEntries.{AreFronts}
use Rattle.heap.specs.HeapShown.{HeapShown, CallerShown}
use Rattle.caller.specs.declared.sync_refusal.SyncRefusal.{SyncRefusal}
use Rattle.caller.specs.declared.sync_refusal.SyncRefusal.TheVariants.{Stuck, Cut, ClockEnd}
use Rattle.caller.specs.Telling.{has_mark}
use Rattle.job_text.specs.declared.job.Job.{Job}
use Rattle.job_text.specs.declared.outcome.Outcome.{Outcome}
use Rattle.job_text.specs.Causes.{IsStuck}
use Rattle.job_text.specs.Faithful.{HasStop}
use Rattle.job_text.specs.Report.{Report}
use Rattle.store_stop.specs.declared.headline.Stopped.{Stopped}
use Rattle.job_worker.specs.Asking.{KeepsAnswers}
use Rattle.job_store.specs.JobGates.{KeepsEnd}
use Rattle.job_store.specs.WholeRun.{IsEndOf}

-- ---- the callers
-- The caller knows that all that it has seen is durable.
abbrev pub IsSynced : CallerShown → Type 0
IsSynced q = q.known.part.synced ≡ q.known.part.fronts

-- No caller has lost an answer or forgotten an entry, and none was answered.
pub record KeepAnswers (olds news : List CallerShown) : Type 0 where
  pub many : length news ≡ length olds
  pub each :
      (caller : ℕ) (old new : CallerShown) → slice_get olds caller ≡ Some old
      → slice_get news caller ≡ Some new → KeepsAnswers old.known new.known

-- The first of the callers has seen all that any of them has: what each has seen of a unit stands
-- first in what the first one has.
pub record HasHeardAll (callers : List CallerShown) : Type 0 where
  pub first : CallerShown
  pub there : slice_get callers 0 ≡ Some first
  pub seen : All (λ (q : CallerShown). AreFronts first.known.entries q.known.entries) callers

-- It knows that all of it is durable.
pub record IsSyncedForAll (callers : List CallerShown) : Type 0 where
  pub heard : HasHeardAll callers
  pub synced : IsSynced heard.first

-- why a sync of a caller with this gate was refused, as the caller knows
abbrev pub KnowsWhy : CallerShown → Fuel → SyncRefusal → Type 0
KnowsWhy q gate (Stuck unit epoch) =
    (has_mark q.known.part.marks (record { unit = unit; by = None }) ≡ true)
    × (epoch < q.known.part.durable)
KnowsWhy q gate Cut = is_endless gate ≡ false
KnowsWhy q gate ClockEnd = q.known.part.durable ≡ LAST

-- so the first of these callers knows
pub record FirstKnowsWhy (callers : List CallerShown) (gates : List Fuel) (why : SyncRefusal)
    : Type 0 where
  pub q : CallerShown
  pub gate : Fuel
  pub there : slice_get callers 0 ≡ Some q
  pub asked : slice_get gates 0 ≡ Some gate
  pub knows : KnowsWhy q gate why

-- ---- the end of a run
-- The first caller synced for all, or its sync was refused, by its gate of the job.
pub record AreSynced (j : Job) (callers : List CallerShown)
    (synced : Result (Unit {0}) SyncRefusal) : Type 0 where
  pub all : OnOk synced (IsSyncedForAll callers)
  pub gates : List Fuel
  pub kept : EachAt (KeepsEnd j.stops) gates
  pub refused : IfErr synced (FirstKnowsWhy callers gates)

-- a run whose store was stopped after the syncs
pub record HasEndedSynced (j : Job) (heap : HeapShown) (outcomes : List (List Outcome))
    (t : Stopped) (synced : Result (Unit {0}) SyncRefusal) : Type 0 where
  pub callers : List CallerShown
  pub end : IsEndOf j heap callers outcomes t
  pub are_synced : AreSynced j callers synced

-- ---- the report
-- the states that whole histories lead to, unit by unit
abbrev pub states_behind : List State → List (List Entry) → List State
states_behind [] histories = []
states_behind (state ∷ base) [] = []
states_behind (state ∷ base) (h ∷ histories) =
    state_after state h ∷ states_behind base histories

-- a crash loses nothing of the run
abbrev pub LosesNothing : Report → Type 0
LosesNothing r = r.contents ≡ states_behind r.base r.histories

-- why a sync of the first caller was refused: as a sync of a line is
abbrev pub RefusesSync : Job → Report → SyncRefusal → Type 0
RefusesSync j r (Stuck unit epoch) = IsStuck r unit epoch
RefusesSync j r Cut = HasStop j 0
RefusesSync j r ClockEnd = r.image_clock ≡ LAST

-- The sync was answered, and nothing is lost; or it was refused.
pub record EndsSynced (j : Job) (r : Report) (synced : Result (Unit {0}) SyncRefusal)
    : Type 0 where
  pub whole : OnOk synced (LosesNothing r)
  pub refused : IfErr synced (RefusesSync j r)
