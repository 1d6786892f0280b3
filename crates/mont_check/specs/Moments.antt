-- Moments of a call, told of the numbers that bound them.
use Rattle.std.specs.Prelude.{◌≡◌, ◌↔◌, ℕ, ◌≤◌, Bool, true, false, IsTrue, List, [], ◌∷◌, length, take, slice_get, Option, Some}
use Rattle.std.specs.Ordering.{nat_cmp}
use Rattle.std.specs.BTreeMap as tree
use Rattle.mont_base.specs.declared.operation.Entry.{Entry}
use Rattle.mont_base.specs.declared.operation.Op.{Op}
use Rattle.mont_base.specs.declared.record.Held.{Held}
use Rattle.mont_base.specs.Layout.{Shape}
use Rattle.mont_base.specs.State.{State, unit_of_op}
use Rattle.job_text.specs.declared.job.Deed.{Deed}
use Rattle.job_text.specs.declared.job.Deed.TheVariants.{Call, Tick, Sync}
use Rattle.job_text.specs.declared.outcome.Outcome.{Outcome}
use Rattle.job_text.specs.Report.{Report}
use Rattle.mont_base.specs.Counting.{records_in}
use Rattle.mont_check.specs.declared.cause.Case.{Case}
use Rattle.mont_check.specs.declared.cause.Cause.{Cause}
use Rattle.mont_check.specs.declared.moments.Span.{Span}
use Rattle.mont_check.specs.declared.moments.Question.{Question}
use Rattle.mont_check.specs.declared.moments.Finding.{Finding}
use Rattle.mont_check.specs.declared.moments.Finding.TheVariants.{Right, Wrong, Asks}
use Rattle.mont_check.specs.declared.progress.Progress.{Progress}
use Rattle.mont_check.specs.Bounds.{IsAtLeast, IsBelow, least}
use Rattle.mont_check.specs.JudgedCauses.{HeldAfter, clock_of_cause}
use Rattle.mont_check.specs.Shown.{place_in}
use Rattle.mont_check.specs.Walk.{Facts, facts_after}

pub record IsWithin (span : Span) (point : ℕ) : Type 0 where
  pub behind : IsBelow span.behind point
  pub ahead : IsAtLeast span.ahead point

-- the cause held, where this is true of the unit, and the span allows so many entries
pub record Fits (f : Facts) (span : Span) (c : Case) (records : List Held) : Type 0 where
  pub within : IsWithin span f.entries
  pub held : HeldAfter c records f

-- it does so after some first entries
pub record SomePoint (base : State) (history : List Entry) (span : Span) (c : Case)
    (records : List Held) : Type 0 where
  pub point : ℕ
  pub there : point ≤ length history
  pub fits : Fits (facts_after (clock_of_cause c.cause) base (take point history)) span c records

-- what is known of a unit's places before a call and after it
abbrev pub span_of : Progress → List Outcome → ℕ → Span
span_of p after unit =
    record { behind = tree.get nat_cmp p.places unit; ahead = least (place_in unit) after }

abbrev pub case_of : Report → Op → Cause → Case
case_of r op cause = record { op = op; slots = r.layout.slots; cause = cause }

-- the operation has a moment at which the cause held
pub record HasMoment (r : Report) (records : List (List Held)) (p : Progress)
    (after : List Outcome) (op : Op) (cause : Cause) : Type 0 where
  pub unit : ℕ
  pub of_unit : unit_of_op r.layout op ≡ Some unit
  pub base : State
  pub opened : slice_get r.base unit ≡ Some base
  pub history : List Entry
  pub kept : slice_get r.histories unit ≡ Some history
  pub some :
      SomePoint base history (span_of p after unit) (case_of r op cause)
      (records_in records unit)

-- ---- questions
-- the cause that a question names held in its unit, at some moment that its span allows
pub record IsMet (r : Report) (records : List (List Held)) (q : Question) : Type 0 where
  pub base : State
  pub opened : slice_get r.base q.unit ≡ Some base
  pub history : List Entry
  pub kept : slice_get r.histories q.unit ≡ Some history
  pub some : SomePoint base history q.span q.case (records_in records q.unit)

-- a line is answered, by what was found of it
abbrev pub IsRight : Report → List (List Held) → Finding → Type 0
IsRight r records Right = Unit {0}
IsRight r records Wrong = ⊥
IsRight r records (Asks question) = IsMet r records question

abbrev pub questions_in : Finding → List Question
questions_in (Asks question) = question ∷ []
questions_in _ = []

abbrev pub is_wrong : Finding → Bool
is_wrong Wrong = true
is_wrong _ = false

-- it was told, with no question, whether it is right
abbrev pub TellsRight : Bool → Finding → Type 0
TellsRight right f =
    (r : Report) (records : List (List Held)) → IsRight r records f ↔ IsTrue right

-- the first place that these outcomes name in the unit of an operation
abbrev pub IsAhead : Shape → List Outcome → Op → Option ℕ → Type 0
IsAhead s after op ahead =
    (unit : ℕ) → unit_of_op s op ≡ Some unit → ahead ≡ least (place_in unit) after

abbrev pub IsAheadOf : Shape → List Outcome → Deed → Option ℕ → Type 0
IsAheadOf s after (Call op) ahead = IsAhead s after op ahead
IsAheadOf s after Tick ahead = Unit {0}
IsAheadOf s after Sync ahead = Unit {0}
