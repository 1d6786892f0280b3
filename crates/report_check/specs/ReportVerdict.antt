-- What comes of holding a report against an image.
use Rattle.std.specs.Prelude.{◌≡◌, ◌≢◌, ◌↔◌, ℕ, ◌<◌, List, All, slice_get, Option, Some, None}
use Rattle.mont_base.specs.declared.operation.Entry.{Entry}
use Rattle.mont_base.specs.Image.{IsWellFormed, clock_of}
use Rattle.mont_base.specs.Layout.{Shape}
use Rattle.image_units.specs.declared.image_fault.ImageFault.{ImageFault}
use Rattle.image_units.specs.declared.recovery_refusal.RecoverRefusal.{RecoverRefusal}
use Rattle.image_units.specs.Refusals.{fault_of_words}
use Rattle.job_text.specs.Faithful.{AllNamedAt, CutAt, LegalAt, RunsAt}
use Rattle.job_text.specs.Report.{Report}
use Rattle.report_check.specs.declared.verdict.Verdict.{Verdict}
use Rattle.report_check.specs.declared.verdict.Verdict.TheVariants as verdicts
use Rattle.report_check.specs.HeldContents.{ContentsHold, IsImageFault, StructureAt}
use Rattle.report_check.specs.HeldEntries.{EntryHolds}
use Rattle.report_check.specs.HeldOutcomes.{AnswersRightly, IsNamed, OutcomeHolds}
use Rattle.report_check.specs.Lowest.{AllHold, IsLowest, IsLowestPair}
use Rattle.report_check.specs.ReportShape.{HasShape}

-- ---- what holds of a report, and of an image of this layout, in the order in which it is judged
pub record HistoriesHold (r : Report) (s : Shape) : Type 0 where
  pub layout : r.layout ≡ s
  pub entries : AllHold (EntryHolds r)

pub record OutcomesHold (r : Report) (s : Shape) : Type 0 where
  pub before : HistoriesHold r s
  pub outcomes : AllHold (OutcomeHolds r)

pub record EntriesAreNamed (r : Report) (s : Shape) : Type 0 where
  pub before : OutcomesHold r s
  pub named : AllHold (IsNamed r)

pub record ImageIsAccepted (r : Report) (s : Shape) (image : List ℕ) : Type 0 where
  pub before : EntriesAreNamed r s
  pub accepted : IsWellFormed s image

pub record ClocksAgree (r : Report) (s : Shape) (image : List ℕ) : Type 0 where
  pub before : ImageIsAccepted r s image
  pub clock : clock_of image ≡ r.image_clock

-- the first of these that doesn't hold, at the lowest place, or that all hold
abbrev pub IsVerdict : Report → Shape → List ℕ → Verdict → Type 0
IsVerdict r s image verdicts.Layout = r.layout ≢ s
IsVerdict r s image (verdicts.History unit place) =
    (r.layout ≡ s) × IsLowestPair (EntryHolds r) unit place
IsVerdict r s image (verdicts.Outcome caller line) =
    HistoriesHold r s × IsLowestPair (OutcomeHolds r) caller line
IsVerdict r s image (verdicts.Unnamed unit place) =
    OutcomesHold r s × IsLowestPair (IsNamed r) unit place
IsVerdict r s image (verdicts.Image fault) = EntriesAreNamed r s × IsImageFault s image fault
IsVerdict r s image (verdicts.Clock clock) =
    ImageIsAccepted r s image × (clock ≡ clock_of image) × (clock ≢ r.image_clock)
IsVerdict r s image (verdicts.Contents unit) =
    ClocksAgree r s image × IsLowest (ContentsHold r image) unit
IsVerdict r s image verdicts.Yes =
    ClocksAgree r s image × ((unit : ℕ) → ContentsHold r image unit)

-- ---- parts of it
-- what the report tells by itself: a verdict whatever image of its layout it is held against, or
-- none
abbrev pub IsJudged : Report → Option Verdict → Type 0
IsJudged r None = EntriesAreNamed r r.layout
IsJudged r (Some verdict) = (image : List ℕ) → IsVerdict r r.layout image verdict

-- the verdict on an image that recovery refuses
abbrev pub IsRefusal : RecoverRefusal → Verdict → Type 0
IsRefusal refusal verdict =
    (fault : ImageFault) × (fault_of_words refusal ≡ Some fault)
    × (verdict ≡ verdicts.Image fault)

-- ---- a report that agrees with an image
-- the report has the callers of a unit's entries
abbrev pub CallersAt : Report → ℕ → Type 0
CallersAt r unit =
    (h : List Entry) → slice_get r.histories unit ≡ Some h
    → All (λ (e : Entry). e.caller < r.callers) h

-- The parts of a faithful report that ask for no job, from the report's own base: legal histories,
-- their runs, outcomes that name each entry once and rightly, and contents. And recovery accepts
-- the image, at the report's clock, and rebuilds these contents.
pub record Agrees (r : Report) (s : Shape) (image : List ℕ) : Type 0 where
  pub layout : r.layout ≡ s
  pub callers : (unit : ℕ) → CallersAt r unit
  pub legal : (unit : ℕ) → LegalAt r.layout r.base_clock r.base r.histories unit
  pub runs : (unit : ℕ) → RunsAt r r.base unit
  pub answers : AllHold (AnswersRightly r)
  pub named_once : (unit : ℕ) → AllNamedAt r unit
  pub accepted : IsWellFormed s image
  pub clock : clock_of image ≡ r.image_clock
  pub structures : (unit : ℕ) → StructureAt r image unit
  pub cut : (unit : ℕ) → CutAt r r.base unit

-- ---- laws
-- there is one verdict
abbrev pub VerdictsAreOne : Type 0
VerdictsAreOne = (r : Report) (s : Shape) (image : List ℕ) (a b : Verdict)
    → IsVerdict r s image a → IsVerdict r s image b → a ≡ b

-- it is yes exactly where the report agrees with the image
abbrev pub YesIsAgreement : Type 0
YesIsAgreement = (r : Report) (s : Shape) (image : List ℕ) → HasShape r
    → IsVerdict r s image verdicts.Yes ↔ Agrees r s image
