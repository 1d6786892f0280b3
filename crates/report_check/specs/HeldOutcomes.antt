-- Which outcomes of a report name their entries rightly, and which entries are named.
use Rattle.std.specs.Prelude.{◌≡◌, ℕ, ◌+◌, ◌<◌, ◌≤◌, List, take, All, count_by, slice_get, Some}
use Rattle.mont_base.specs.declared.operation.Entry.{Entry}
use Rattle.mont_base.specs.declared.operation.Op.{Op}
use Rattle.mont_base.specs.Seen.{IsEntryAt}
use Rattle.job_text.specs.declared.outcome.Outcome.{Outcome}
use Rattle.job_text.specs.declared.outcome.Outcome.TheVariants.{At}
use Rattle.job_text.specs.AnsweredLines.{IsAnswer}
use Rattle.job_text.specs.Outcomes.{HasEpoch, is_at, names_entry, place_of, times_named}
use Rattle.job_text.specs.Report.{Report}

-- an earlier and a later outcome of one caller: the epochs of their entries don't fall, and the
-- places of one unit rise
pub record NamesInOrder (histories : List (List Entry)) (earlier later : Outcome) : Type 0 where
  pub epochs : (d e : ℕ) → HasEpoch histories earlier d → HasEpoch histories later e → d ≤ e
  pub places :
      (unit m n : ℕ) → place_of earlier ≡ Some (unit, m) → place_of later ≡ Some (unit, n) → m < n

-- After these outcomes of its caller, an outcome names the entry that answers some operation as
-- the caller's next call.
pub record NamesRightly (r : Report) (caller : ℕ) (before : List Outcome) (unit place : ℕ)
    : Type 0 where
  pub op : Op
  pub answer : IsAnswer r caller (count_by is_at before) op unit place
  pub order : All (λ earlier. NamesInOrder r.histories earlier (At unit place)) before

abbrev pub IsRight : Report → ℕ → List Outcome → Outcome → Type 0
IsRight r caller before (At unit place) = NamesRightly r caller before unit place
IsRight r caller before o = Unit {0}

-- so often lower callers and these outcomes name an entry
abbrev pub times_before : Report → ℕ → List Outcome → ℕ → ℕ → ℕ
times_before r caller before unit place =
    times_named (take caller r.outcomes) unit place + count_by (names_entry unit place) before

-- no lower caller and none of these outcomes names its entry
abbrev pub IsFirstName : Report → ℕ → List Outcome → Outcome → Type 0
IsFirstName r caller before (At unit place) = times_before r caller before unit place ≡ 0
IsFirstName r caller before o = Unit {0}

-- ---- the outcomes of a report, by caller and line
abbrev pub AnswersRightly : Report → ℕ → ℕ → Type 0
AnswersRightly r caller line =
    (os : List Outcome) (o : Outcome) → slice_get r.outcomes caller ≡ Some os
    → slice_get os line ≡ Some o → IsRight r caller (take line os) o

-- it names an entry rightly, and as the first
abbrev pub OutcomeHolds : Report → ℕ → ℕ → Type 0
OutcomeHolds r caller line =
    (os : List Outcome) (o : Outcome) → slice_get r.outcomes caller ≡ Some os
    → slice_get os line ≡ Some o
    → IsRight r caller (take line os) o × IsFirstName r caller (take line os) o

-- ---- its entries, by unit and place
-- some outcome names the entry, if it is there
abbrev pub IsNamed : Report → ℕ → ℕ → Type 0
IsNamed r unit place =
    (e : Entry) → IsEntryAt r.histories unit place e → 1 ≤ times_named r.outcomes unit place
