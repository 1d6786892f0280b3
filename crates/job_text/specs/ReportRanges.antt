-- Which reports there are texts of: their shape, and the ranges of their numbers. That histories
-- are legal is no part of it, nor that an operation of an entry has a unit.
use Rattle.std.specs.Prelude.{◌≡◌, ℕ, ◌+◌, ◌<◌, ◌≤◌, Bool, true, false, List, [], ◌∷◌, ◌++◌, length, slice_get, Some}
use Rattle.std.specs.FinMap as finite
use Rattle.mont_base.specs.declared.constants.TheConstants.{MOST_PAIRS}
use Rattle.mont_base.specs.declared.kinds.UnitKind.{UnitKind}
use Rattle.mont_base.specs.declared.kinds.UnitKind.TheVariants as kinds
use Rattle.mont_base.specs.declared.operation.Entry.{Entry}
use Rattle.mont_base.specs.declared.operation.Op.{Op}
use Rattle.mont_base.specs.declared.operation.Op.TheVariants as ops
use Rattle.mont_base.specs.declared.operation.Reply.{Reply}
use Rattle.mont_base.specs.declared.operation.Reply.TheVariants as replies
use Rattle.mont_base.specs.Layout.{IsLayout, units_of}
use Rattle.mont_base.specs.State.{State, MapOf, QueueOf, GraphOf, Key, Value, Ends, Run}
use Rattle.mont_base.specs.Texts.{IsText}
use Rattle.job_text.specs.declared.limits.TheConstants.{MOST_CALLERS}
use Rattle.job_text.specs.declared.outcome.Outcome.{Outcome}
use Rattle.job_text.specs.declared.outcome.Outcome.TheVariants as outcomes
use Rattle.job_text.specs.Operations.{IsNumber, IsOp}
use Rattle.job_text.specs.Report.{Report}
use Rattle.job_text.specs.Runs.{Spelled, spelled_all, HaveRuns}
use Rattle.job_text.specs.ReportText.{report_lines, report_text}
use Rattle.job_text.specs.Readings.{lines_in}
use Rattle.job_text.specs.TextParts.{Row, AllFrom, Begins}

-- ---- contents
abbrev pub IsPair : Key × Value → Type 0
IsPair p = IsText p.0 × IsText p.1

abbrev pub IsVertex : ℕ × ℕ → Type 0
IsVertex v = IsNumber v.0 × IsNumber v.1

abbrev pub IsEdge : Ends × ℕ → Type 0
IsEdge e = IsNumber e.0.0 × IsNumber e.0.1 × IsNumber e.1

-- so many of them that their count can be told
pub record AreCounted {X : Type 0} (Is : X → Type 0) (xs : List X) : Type 0 where
  pub each : AllFrom (λ place x. Is x) 0 xs
  pub count : IsNumber (length xs)

abbrev pub IsStateOf : UnitKind → State → Type 0
IsStateOf kinds.Map (MapOf m) = AreCounted IsPair (finite.entries m)
IsStateOf kinds.Ordered (MapOf m) = AreCounted IsPair (finite.entries m)
IsStateOf kinds.Queue (QueueOf items) = AreCounted IsNumber items
IsStateOf kinds.Graph (GraphOf g) =
    AreCounted IsVertex (finite.entries g.vertices) × AreCounted IsEdge (finite.entries g.edges)
IsStateOf kind state = ⊥

-- the state of a unit, which is of the unit's kind
abbrev pub IsUnit : List UnitKind → ℕ → State → Type 0
IsUnit ks unit state = (kind : UnitKind) × (slice_get ks unit ≡ Some kind) × IsStateOf kind state

abbrev pub AreContents : List UnitKind → List State → Type 0
AreContents ks states = AllFrom (IsUnit ks) 0 states × (length states ≡ length ks)

-- ---- histories
-- an operation on keys: one of a map or of an ordered unit
abbrev pub is_of_key : Op → Bool
is_of_key (ops.Put key value) = true
is_of_key (ops.Get key) = true
is_of_key (ops.Del key) = true
is_of_key (ops.OPut unit key value) = true
is_of_key (ops.OGet unit key) = true
is_of_key (ops.ODel unit key) = true
is_of_key (ops.OFloor unit key) = true
is_of_key (ops.ORank unit key) = true
is_of_key (ops.ORange unit from to most) = true
is_of_key _ = false

-- a reply with a value has a text where the operation is one on keys, and a number elsewhere; a
-- range has at most 16 pairs
abbrev pub IsReply : Bool → Reply → Type 0
IsReply of_key replies.Nothing = Unit {0}
IsReply true (replies.Was value) = ⊥
IsReply false (replies.Was value) = IsNumber value
IsReply true (replies.WasText value) = IsText value
IsReply false (replies.WasText value) = ⊥
IsReply of_key (replies.Count number) = IsNumber number
IsReply of_key replies.NoEnds = Unit {0}
IsReply of_key (replies.Key key) = IsText key
IsReply of_key (replies.Pairs number) = number ≤ MOST_PAIRS

-- the run beside a reply
abbrev pub IsRunOf : Reply → Run → Type 0
IsRunOf (replies.Pairs number) run = AllFrom (λ place p. IsPair p) 0 run × (length run ≡ number)
IsRunOf _ run = run ≡ []

pub record IsEntry (callers : ℕ) (e : Entry) : Type 0 where
  pub caller : e.caller < callers
  pub call : IsNumber e.call
  pub op : IsOp e.op
  pub reply : IsReply (is_of_key e.op) e.reply
  pub epoch : IsNumber e.epoch

abbrev pub IsSpelled : ℕ → Spelled → Type 0
IsSpelled callers p = IsEntry callers p.0 × IsRunOf p.0.reply p.1

abbrev pub AreHistories : ℕ → ℕ → List (List Spelled) → Type 0
AreHistories callers units hs =
    AllFrom (λ unit h. AreCounted (IsSpelled callers) h) 0 hs × (length hs ≡ units)

-- ---- outcomes
-- what it tells are numbers of 64 bits
abbrev pub AreNumbers : Outcome → Type 0
AreNumbers (outcomes.At unit place) = IsNumber unit × IsNumber place
AreNumbers (outcomes.Synced epoch) = IsNumber epoch
AreNumbers (outcomes.Ticked epoch) = IsNumber epoch
AreNumbers (outcomes.Stuck unit epoch) = IsNumber unit × IsNumber epoch
AreNumbers outcomes.ClockEnd = Unit {0}
AreNumbers (outcomes.Full need free clock) = IsNumber need × IsNumber free × IsNumber clock
AreNumbers (outcomes.CountEnd which) = Unit {0}
AreNumbers (outcomes.Halted unit by) = IsNumber unit × IsNumber by
AreNumbers (outcomes.CutIn unit) = IsNumber unit
AreNumbers outcomes.Cut = Unit {0}

-- the unit and the caller that it names are there
abbrev pub InRange : ℕ → ℕ → Outcome → Type 0
InRange units callers (outcomes.At unit place) = unit < units
InRange units callers (outcomes.Stuck unit epoch) = unit < units
InRange units callers (outcomes.Halted unit by) = (unit < units) × (by < callers)
InRange units callers (outcomes.CutIn unit) = unit < units
InRange units callers _ = Unit {0}

-- the caller was cut
abbrev pub is_cut : Outcome → Bool
is_cut (outcomes.CutIn unit) = true
is_cut outcomes.Cut = true
is_cut _ = false

-- an outcome of n, of which only the last can be a cut
pub record IsOutcomeAt (units callers n place : ℕ) (o : Outcome) : Type 0 where
  pub numbers : AreNumbers o
  pub range : InRange units callers o
  pub last : is_cut o ≡ true → place + 1 ≡ n

pub record AreOutcomes (units callers : ℕ) (os : List Outcome) : Type 0 where
  pub each : AllFrom (IsOutcomeAt units callers (length os)) 0 os
  pub count : IsNumber (length os)

-- ---- the whole
pub record IsReport (r : Report) : Type 0 where
  pub layout : IsLayout r.layout
  pub some_callers : 1 ≤ r.callers
  pub few_callers : r.callers ≤ MOST_CALLERS
  pub base_clock : IsNumber r.base_clock
  pub base : AreContents r.layout.kinds r.base
  pub histories : AreHistories r.callers (units_of r.layout) (spelled_all r.histories r.runs)
  pub runs : HaveRuns r.histories r.runs
  pub outcomes : AllFrom (λ caller os. AreOutcomes (units_of r.layout) r.callers os) 0 r.outcomes
  pub callers : length r.outcomes ≡ r.callers
  pub image_clock : IsNumber r.image_clock
  pub contents : AreContents r.layout.kinds r.contents

-- ---- other texts
-- The text of no report, and its first line that is wrong, counted from 1: the whole lines before
-- it are the first of some report's text, and with it they are not, or it isn't there as a whole
-- line.
pub record IsFirstWrong (text : List ℕ) (line : ℕ) : Type 0 where
  pub before : List Row
  pub after : List Row
  pub lines : lines_in text ≡ before ++ after
  pub counted : line ≡ length before + 1
  pub begins : Begins IsReport report_lines before
  pub wrong : (row : Row) (behind : List Row) → after ≡ row ∷ behind
      → ¬ Begins IsReport report_lines (before ++ row ∷ [])
  pub no_report : (r : Report) → IsReport r → ¬ (text ≡ report_text r)
