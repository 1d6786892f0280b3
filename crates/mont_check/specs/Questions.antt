-- Questions that are asked along a unit's history, point by point.
use Rattle.std.specs.Prelude.{◌≡◌, ◌↔◌, ℕ, ◌+◌, ◌-◌, ◌<◌, ◌≤◌, ◌⊎◌, Bool, IsTrue, List, length, take, drop, slice_get, All, Any, Contains, Some}
use Rattle.mont_base.specs.declared.operation.Entry.{Entry}
use Rattle.mont_base.specs.declared.record.Held.{Held}
use Rattle.mont_base.specs.State.{State}
use Rattle.job_text.specs.Report.{Report}
use Rattle.mont_check.specs.declared.asked.Asked.{Asked}
use Rattle.mont_check.specs.declared.cause.Case.{Case}
use Rattle.mont_check.specs.declared.moments.Question.{Question}
use Rattle.mont_check.specs.declared.opened_numbers.Opening.{Opening}
use Rattle.mont_check.specs.declared.points.Point.{Point}
use Rattle.mont_check.specs.JudgedCauses.{FreesAtMost, clock_of_cause}
use Rattle.mont_check.specs.Moments.{Fits, IsWithin, SomePoint}
use Rattle.mont_check.specs.OpenedNumbers.{IsOpening}
use Rattle.mont_check.specs.Points.{EpochsRise, IsClosed}
use Rattle.mont_check.specs.Walk.{Facts, closed_later, facts_after}

-- epochs never fall in any unit that was opened
abbrev pub AllRise : Report → Type 0
AllRise r =
    (unit : ℕ) (base : State) (h : List Entry) → slice_get r.base unit ≡ Some base
    → slice_get r.histories unit ≡ Some h → EpochsRise h

-- ---- a question at a point
-- what is true after so many entries, at the clock of the question's cause
abbrev pub facts_then : State → List Entry → Asked → ℕ → Facts
facts_then base h a n = facts_after (clock_of_cause a.question.case.cause) base (take n h)

-- its cause holds after so many entries, and its span allows them
abbrev pub FitsAt : State → List Entry → List Held → Asked → ℕ → Type 0
FitsAt base h records a n =
    Fits (facts_then base h a n) a.question.span a.question.case records

-- A question that was made ready for a history: its cause's clock closed so many slots, and it
-- fits no point before that from which it is asked.
pub record IsReady (base : State) (h : List Entry) (records : List Held) (a : Asked)
    : Type 0 where
  pub closed :
      (n : ℕ) → closed_later a.closed (facts_after 0 base (take n h)) ≡ facts_then base h a n
  pub start : (n : ℕ) → n < a.start → n ≤ length h → ¬ FitsAt base h records a n

-- it fits some point
abbrev pub IsMetIn : State → List Entry → List Held → Asked → Type 0
IsMetIn base h records a = SomePoint base h a.question.span a.question.case records

-- it fits, where this is true of the unit and nothing is closed yet
abbrev pub FitsNow : Facts → List Held → Asked → Type 0
FitsNow f records a =
    Fits (closed_later a.closed f) a.question.span a.question.case records

-- its span ends at the point
abbrev pub EndsBy : ℕ → Asked → Type 0
EndsBy n a = (last : ℕ) × (a.question.span.ahead ≡ Some last) × (last ≤ n)

-- Some questions were tried: each fits or is left, and those that are left are of them and don't.
pub record AreTried (f : Facts) (records : List Held) (tried left : List Asked) : Type 0 where
  pub each : All (λ a. FitsNow f records a ⊎ Contains left a) tried
  pub only : All (λ a. Contains tried a × (¬ FitsNow f records a)) left

-- ---- what is told
-- The questions of these records' unit: whichever the records were that tell this of its opening.
abbrev pub TellsFits : Asked → Opening → Facts → Bool → Type 0
TellsFits a opening f b =
    (records : List Held) → IsOpening records opening → IsTrue b ↔ FitsNow f records a

abbrev pub TellsMet : State → List Entry → Opening → List Asked → Bool → Type 0
TellsMet base h opening asked b =
    (records : List Held) → IsOpening records opening → All (IsReady base h records) asked
    → IsTrue b ↔ All (IsMetIn base h records) asked

abbrev pub TellsTried : Opening → Facts → List Asked → List Asked → Type 0
TellsTried opening f tried left =
    (records : List Held) → IsOpening records opening → AreTried f records tried left

-- some question doesn't fit, and its span ends
abbrev pub TellsEnded : Opening → Facts → List Asked → Type 0
TellsEnded opening f tried =
    (records : List Held) → IsOpening records opening
    → Any (λ a. (¬ FitsNow f records a) × EndsBy f.entries a) tried

-- so many of the questions are asked from the point or an earlier one, and no other is
pub record BeginBy (waiting : List Asked) (point count : ℕ) : Type 0 where
  pub few : count ≤ length waiting
  pub later : All (λ a. point < a.start) (drop count waiting)

-- more slots were free at the point than where the cause held
pub record HasRoom (c : Case) (closed : ℕ) (p : Point) : Type 0 where
  pub most : ℕ
  pub frees : FreesAtMost c most
  pub live : p.live < c.slots - most
  pub taken : p.taken < (c.slots - most) + closed

-- a question made ready, by the points of its history
pub record IsReadyFor (h : List Entry) (points : List Point) (q : Question) (a : Asked)
    : Type 0 where
  pub question : a.question ≡ q
  pub closed : IsClosed h points (clock_of_cause a.question.case.cause) a.closed
  pub start :
      (n : ℕ) (p : Point) → n < a.start → slice_get points n ≡ Some p
      → (¬ IsWithin a.question.span n) ⊎ HasRoom a.question.case a.closed p

-- the questions made ready, in their order
pub record AreReady (h : List Entry) (points : List Point) (questions : List Question)
    (asked : List Asked) : Type 0 where
  pub as_many : length asked ≡ length questions
  pub each :
      (i : ℕ) (q : Question) (a : Asked) → slice_get questions i ≡ Some q
      → slice_get asked i ≡ Some a → IsReadyFor h points q a
