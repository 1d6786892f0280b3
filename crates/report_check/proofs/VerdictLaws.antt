-- There is one verdict, and where it is yes.
use Rattle.std.proofs.Common.{◌≡◌, ◌≢◌, ℕ, ◌<◌, ◌≤◌, ⊎_elim, List, Option, Some, None, refl, sym, ap, ◌∙◌, arith, lit≤}
use Rattle.std.proofs.lemmas.Bool.{cases_lt}
use Rattle.mont_base.specs.Image.{IsWellFormed, clock_of}
use Rattle.mont_base.specs.Layout.{Shape}
use Rattle.image_units.specs.declared.image_fault.ImageFault.{ImageFault}
use Rattle.image_units.specs.declared.recovery_refusal.RecoverRefusal.{RecoverRefusal}
use Rattle.image_units.specs.declared.recovery_refusal.RecoverRefusal.TheVariants as refusals
use Rattle.image_units.specs.Refusals.{fault_of_words}
use Rattle.image_units.proofs.Accepted.{malformed}
use Rattle.image_units.proofs.OneRefusal.{one_refusal}
use Rattle.job_text.specs.Report.{Report}
use Rattle.report_check.specs.declared.verdict.Verdict.{Verdict}
use Rattle.report_check.specs.declared.verdict.Verdict.TheVariants as verdicts
use Rattle.report_check.specs.HeldContents.{ContentsHold, IsImageFault}
use Rattle.report_check.specs.HeldEntries.{EntryHolds}
use Rattle.report_check.specs.HeldOutcomes.{IsNamed, OutcomeHolds}
use Rattle.report_check.specs.Lowest.{AllHold}
use Rattle.report_check.specs.ReportVerdict.{ClocksAgree, EntriesAreNamed, HistoriesHold, ImageIsAccepted, IsVerdict, OutcomesHold}
use Rattle.report_check.proofs.Lowests.{one_lowest, one_lowest_pair}

not_memory : (refusal : RecoverRefusal) (fault : ImageFault) → fault_of_words refusal ≡ Some fault → refusal ≢ refusals.Memory
not_memory refusal fault told is =
    absurd (let t : ◌≡◌ {A = Option ImageFault} None (Some fault) = ap fault_of_words (sym is) ∙ told in cc)

one_fault : (s : Shape) (image : List ℕ) (a b : ImageFault) → IsImageFault s image a → IsImageFault s image b → a ≡ b
one_fault s image a b x y =
    let same : x.0 ≡ y.0 = one_refusal s image x.0 y.0 (not_memory x.0 a x.2) (not_memory y.0 b y.2) x.1 y.1 in
    let both : Some a ≡ Some b = sym x.2 ∙ ap fault_of_words same ∙ y.2 in
    cc

no_fault : (s : Shape) (image : List ℕ) (a : ImageFault) → IsImageFault s image a → IsWellFormed s image → ⊥
no_fault s image a x well = malformed s image x.0 (not_memory x.0 a x.2) x.1 well

-- which part of the judgement a verdict is of
abbrev stage : Verdict → ℕ
stage verdicts.Layout = 0
stage (verdicts.History unit place) = 1
stage (verdicts.Outcome caller line) = 2
stage (verdicts.Unnamed unit place) = 3
stage (verdicts.Image fault) = 4
stage (verdicts.Clock clock) = 5
stage (verdicts.Contents unit) = 6
stage verdicts.Yes = 7

module _ (r : Report) (s : Shape) (image : List ℕ) where
  -- what the parts ask, by number
  record Parts (upto : ℕ) : Type 0 where
    layout : 0 < upto → r.layout ≡ s
    entries : 1 < upto → AllHold (EntryHolds r)
    outcomes : 2 < upto → AllHold (OutcomeHolds r)
    named : 3 < upto → AllHold (IsNamed r)
    accepted : 4 < upto → IsWellFormed s image
    clock : 5 < upto → clock_of image ≡ r.image_clock
    contents : 6 < upto → (unit : ℕ) → ContentsHold r image unit

  of_layout : r.layout ≡ s → Parts 1
  of_layout same = record {
    layout = λ _. same;
    entries = λ h. absurd (omega arith);
    outcomes = λ h. absurd (omega arith);
    named = λ h. absurd (omega arith);
    accepted = λ h. absurd (omega arith);
    clock = λ h. absurd (omega arith);
    contents = λ h. absurd (omega arith);
  }

  of_histories : HistoriesHold r s → Parts 2
  of_histories h = record {
    layout = λ _. h.layout;
    entries = λ _. h.entries;
    outcomes = λ l. absurd (omega arith);
    named = λ l. absurd (omega arith);
    accepted = λ l. absurd (omega arith);
    clock = λ l. absurd (omega arith);
    contents = λ l. absurd (omega arith);
  }

  of_outcomes : OutcomesHold r s → Parts 3
  of_outcomes h = record {
    layout = λ _. h.before.layout;
    entries = λ _. h.before.entries;
    outcomes = λ _. h.outcomes;
    named = λ l. absurd (omega arith);
    accepted = λ l. absurd (omega arith);
    clock = λ l. absurd (omega arith);
    contents = λ l. absurd (omega arith);
  }

  of_names : EntriesAreNamed r s → Parts 4
  of_names h = record {
    layout = λ _. h.before.before.layout;
    entries = λ _. h.before.before.entries;
    outcomes = λ _. h.before.outcomes;
    named = λ _. h.named;
    accepted = λ l. absurd (omega arith);
    clock = λ l. absurd (omega arith);
    contents = λ l. absurd (omega arith);
  }

  of_image : ImageIsAccepted r s image → Parts 5
  of_image h = record {
    layout = λ _. h.before.before.before.layout;
    entries = λ _. h.before.before.before.entries;
    outcomes = λ _. h.before.before.outcomes;
    named = λ _. h.before.named;
    accepted = λ _. h.accepted;
    clock = λ l. absurd (omega arith);
    contents = λ l. absurd (omega arith);
  }

  of_clocks : ClocksAgree r s image → Parts 6
  of_clocks h = record {
    layout = λ _. h.before.before.before.before.layout;
    entries = λ _. h.before.before.before.before.entries;
    outcomes = λ _. h.before.before.before.outcomes;
    named = λ _. h.before.before.named;
    accepted = λ _. h.before.accepted;
    clock = λ _. h.clock;
    contents = λ l. absurd (omega arith);
  }

  of_all : ClocksAgree r s image → ((unit : ℕ) → ContentsHold r image unit) → Parts 7
  of_all h all = record {
    layout = λ _. h.before.before.before.before.layout;
    entries = λ _. h.before.before.before.before.entries;
    outcomes = λ _. h.before.before.before.outcomes;
    named = λ _. h.before.before.named;
    accepted = λ _. h.before.accepted;
    clock = λ _. h.clock;
    contents = λ _. all;
  }

  -- all parts before that of a verdict hold
  parts_before : (v : Verdict) → IsVerdict r s image v → Parts (stage v)
  parts_before verdicts.Layout is = record {
    layout = λ l. absurd (omega arith);
    entries = λ l. absurd (omega arith);
    outcomes = λ l. absurd (omega arith);
    named = λ l. absurd (omega arith);
    accepted = λ l. absurd (omega arith);
    clock = λ l. absurd (omega arith);
    contents = λ l. absurd (omega arith);
  }
  parts_before (verdicts.History unit place) is = of_layout is.0
  parts_before (verdicts.Outcome caller line) is = of_histories is.0
  parts_before (verdicts.Unnamed unit place) is = of_outcomes is.0
  parts_before (verdicts.Image fault) is = of_names is.0
  parts_before (verdicts.Clock clock) is = of_image is.0
  parts_before (verdicts.Contents unit) is = of_clocks is.0
  parts_before verdicts.Yes is = of_all is.0 is.1

  -- and its own doesn't
  part_fails : (v : Verdict) (n : ℕ) → IsVerdict r s image v → Parts n → stage v < n → n ≤ 7 → ⊥
  part_fails verdicts.Layout n is all low most = is (all.layout low)
  part_fails (verdicts.History unit place) n is all low most = is.1.fails (all.entries low unit place)
  part_fails (verdicts.Outcome caller line) n is all low most = is.1.fails (all.outcomes low caller line)
  part_fails (verdicts.Unnamed unit place) n is all low most = is.1.fails (all.named low unit place)
  part_fails (verdicts.Image fault) n is all low most = no_fault s image fault is.1 (all.accepted low)
  part_fails (verdicts.Clock clock) n is all low most = is.2 (is.1 ∙ all.clock low)
  part_fails (verdicts.Contents unit) n is all low most = is.1.fails (all.contents low unit)
  part_fails verdicts.Yes n is all low most = absurd (omega arith)

  few_stages : (v : Verdict) → stage v ≤ 7
  few_stages verdicts.Layout = lit≤ tt
  few_stages (verdicts.History unit place) = lit≤ tt
  few_stages (verdicts.Outcome caller line) = lit≤ tt
  few_stages (verdicts.Unnamed unit place) = lit≤ tt
  few_stages (verdicts.Image fault) = lit≤ tt
  few_stages (verdicts.Clock clock) = lit≤ tt
  few_stages (verdicts.Contents unit) = lit≤ tt
  few_stages verdicts.Yes = lit≤ tt

  one_stage : (a b : Verdict) → IsVerdict r s image a → IsVerdict r s image b → stage a ≡ stage b
  one_stage a b x y = ⊎_elim
      (λ (low : stage a < stage b). absurd (part_fails a (stage b) x (parts_before b y) low (few_stages b)))
      (λ (high : stage b ≤ stage a). ⊎_elim
      (λ (less : stage b < stage a). absurd (part_fails b (stage a) y (parts_before a x) less (few_stages a)))
      (λ (least : stage a ≤ stage b). omega arith)
      (cases_lt (stage b) (stage a)))
      (cases_lt (stage a) (stage b))

  -- verdicts of one part are one
  same_part : (a b : Verdict) → stage a ≡ stage b → IsVerdict r s image a → IsVerdict r s image b → a ≡ b
  same_part verdicts.Layout verdicts.Layout e x y = refl
  same_part verdicts.Layout (verdicts.History unit2 place2) e x y = absurd (omega arith)
  same_part verdicts.Layout (verdicts.Outcome caller2 line2) e x y = absurd (omega arith)
  same_part verdicts.Layout (verdicts.Unnamed unit2 place2) e x y = absurd (omega arith)
  same_part verdicts.Layout (verdicts.Image fault2) e x y = absurd (omega arith)
  same_part verdicts.Layout (verdicts.Clock clock2) e x y = absurd (omega arith)
  same_part verdicts.Layout (verdicts.Contents unit2) e x y = absurd (omega arith)
  same_part verdicts.Layout verdicts.Yes e x y = absurd (omega arith)
  same_part (verdicts.History unit place) verdicts.Layout e x y = absurd (omega arith)
  same_part (verdicts.History unit place) (verdicts.History unit2 place2) e x y =
      let same = one_lowest_pair (EntryHolds r) unit place unit2 place2 x.1 y.1 in
      λ i. verdicts.History (same.0 i) (same.1 i)
  same_part (verdicts.History unit place) (verdicts.Outcome caller2 line2) e x y = absurd (omega arith)
  same_part (verdicts.History unit place) (verdicts.Unnamed unit2 place2) e x y = absurd (omega arith)
  same_part (verdicts.History unit place) (verdicts.Image fault2) e x y = absurd (omega arith)
  same_part (verdicts.History unit place) (verdicts.Clock clock2) e x y = absurd (omega arith)
  same_part (verdicts.History unit place) (verdicts.Contents unit2) e x y = absurd (omega arith)
  same_part (verdicts.History unit place) verdicts.Yes e x y = absurd (omega arith)
  same_part (verdicts.Outcome caller line) verdicts.Layout e x y = absurd (omega arith)
  same_part (verdicts.Outcome caller line) (verdicts.History unit2 place2) e x y = absurd (omega arith)
  same_part (verdicts.Outcome caller line) (verdicts.Outcome caller2 line2) e x y =
      let same = one_lowest_pair (OutcomeHolds r) caller line caller2 line2 x.1 y.1 in
      λ i. verdicts.Outcome (same.0 i) (same.1 i)
  same_part (verdicts.Outcome caller line) (verdicts.Unnamed unit2 place2) e x y = absurd (omega arith)
  same_part (verdicts.Outcome caller line) (verdicts.Image fault2) e x y = absurd (omega arith)
  same_part (verdicts.Outcome caller line) (verdicts.Clock clock2) e x y = absurd (omega arith)
  same_part (verdicts.Outcome caller line) (verdicts.Contents unit2) e x y = absurd (omega arith)
  same_part (verdicts.Outcome caller line) verdicts.Yes e x y = absurd (omega arith)
  same_part (verdicts.Unnamed unit place) verdicts.Layout e x y = absurd (omega arith)
  same_part (verdicts.Unnamed unit place) (verdicts.History unit2 place2) e x y = absurd (omega arith)
  same_part (verdicts.Unnamed unit place) (verdicts.Outcome caller2 line2) e x y = absurd (omega arith)
  same_part (verdicts.Unnamed unit place) (verdicts.Unnamed unit2 place2) e x y =
      let same = one_lowest_pair (IsNamed r) unit place unit2 place2 x.1 y.1 in
      λ i. verdicts.Unnamed (same.0 i) (same.1 i)
  same_part (verdicts.Unnamed unit place) (verdicts.Image fault2) e x y = absurd (omega arith)
  same_part (verdicts.Unnamed unit place) (verdicts.Clock clock2) e x y = absurd (omega arith)
  same_part (verdicts.Unnamed unit place) (verdicts.Contents unit2) e x y = absurd (omega arith)
  same_part (verdicts.Unnamed unit place) verdicts.Yes e x y = absurd (omega arith)
  same_part (verdicts.Image fault) verdicts.Layout e x y = absurd (omega arith)
  same_part (verdicts.Image fault) (verdicts.History unit2 place2) e x y = absurd (omega arith)
  same_part (verdicts.Image fault) (verdicts.Outcome caller2 line2) e x y = absurd (omega arith)
  same_part (verdicts.Image fault) (verdicts.Unnamed unit2 place2) e x y = absurd (omega arith)
  same_part (verdicts.Image fault) (verdicts.Image fault2) e x y = ap verdicts.Image (one_fault s image fault fault2 x.1 y.1)
  same_part (verdicts.Image fault) (verdicts.Clock clock2) e x y = absurd (omega arith)
  same_part (verdicts.Image fault) (verdicts.Contents unit2) e x y = absurd (omega arith)
  same_part (verdicts.Image fault) verdicts.Yes e x y = absurd (omega arith)
  same_part (verdicts.Clock clock) verdicts.Layout e x y = absurd (omega arith)
  same_part (verdicts.Clock clock) (verdicts.History unit2 place2) e x y = absurd (omega arith)
  same_part (verdicts.Clock clock) (verdicts.Outcome caller2 line2) e x y = absurd (omega arith)
  same_part (verdicts.Clock clock) (verdicts.Unnamed unit2 place2) e x y = absurd (omega arith)
  same_part (verdicts.Clock clock) (verdicts.Image fault2) e x y = absurd (omega arith)
  same_part (verdicts.Clock clock) (verdicts.Clock clock2) e x y = ap verdicts.Clock (x.1 ∙ sym y.1)
  same_part (verdicts.Clock clock) (verdicts.Contents unit2) e x y = absurd (omega arith)
  same_part (verdicts.Clock clock) verdicts.Yes e x y = absurd (omega arith)
  same_part (verdicts.Contents unit) verdicts.Layout e x y = absurd (omega arith)
  same_part (verdicts.Contents unit) (verdicts.History unit2 place2) e x y = absurd (omega arith)
  same_part (verdicts.Contents unit) (verdicts.Outcome caller2 line2) e x y = absurd (omega arith)
  same_part (verdicts.Contents unit) (verdicts.Unnamed unit2 place2) e x y = absurd (omega arith)
  same_part (verdicts.Contents unit) (verdicts.Image fault2) e x y = absurd (omega arith)
  same_part (verdicts.Contents unit) (verdicts.Clock clock2) e x y = absurd (omega arith)
  same_part (verdicts.Contents unit) (verdicts.Contents unit2) e x y =
      ap verdicts.Contents (one_lowest (ContentsHold r image) unit unit2 x.1 y.1)
  same_part (verdicts.Contents unit) verdicts.Yes e x y = absurd (omega arith)
  same_part verdicts.Yes verdicts.Layout e x y = absurd (omega arith)
  same_part verdicts.Yes (verdicts.History unit2 place2) e x y = absurd (omega arith)
  same_part verdicts.Yes (verdicts.Outcome caller2 line2) e x y = absurd (omega arith)
  same_part verdicts.Yes (verdicts.Unnamed unit2 place2) e x y = absurd (omega arith)
  same_part verdicts.Yes (verdicts.Image fault2) e x y = absurd (omega arith)
  same_part verdicts.Yes (verdicts.Clock clock2) e x y = absurd (omega arith)
  same_part verdicts.Yes (verdicts.Contents unit2) e x y = absurd (omega arith)
  same_part verdicts.Yes verdicts.Yes e x y = refl

pub one_verdict : (r : Report) (s : Shape) (image : List ℕ) (a b : Verdict) → IsVerdict r s image a → IsVerdict r s image b
    → a ≡ b
one_verdict r s image a b x y = same_part r s image a b (one_stage r s image a b x y) x y
