use Rattle.std.proofs.Common.{◌∙◌, refl, subst, sym}
use Rattle.std.proofs.lemmas.Result.{IfOk-weaker}
use Rattle.mont_base.specs.Layout.{Shape}
use Rattle.job_text.specs.PlainReport.{report_of}
use Rattle.report_check.specs.HeldContents.{ContentsHold}
use Rattle.report_check.specs.Lowest.{IsFirst}
use Rattle.report_check.specs.ReportVerdict.{ClocksAgree, EntriesAreNamed, IsJudged, IsRefusal, IsVerdict}
use Rattle.report_check.proofs.report_check.check.Goals as goal

pub returns-in-Some : goal.returns-in-Some
returns-in-Some g c =
    let r = report_of c.args.report.now in
    let words = c.args.image.now.words in
    subst (λ (s : Shape). IsVerdict r s words c.in-Some.verdict) (c.if-not-same_layout.ensures.0 refl)
    (subst (IsJudged r) c.in-Some.is c.in_ok-verdict.ensures words)

pub returns-in-Err : goal.returns-in-Err
returns-in-Err g c =
    let r = report_of c.args.report.now in
    let s = c.args.image.now.layout in
    let words = c.args.image.now.words in
    let named : EntriesAreNamed r s =
    subst (λ (t : Shape). EntriesAreNamed r t) (c.if-not-same_layout.ensures.0 refl)
    (subst (IsJudged r) c.in_default.is c.in_ok-verdict.ensures) in
    IfOk-weaker c.refused.result (IsRefusal c.in-Err.refusal) (IsVerdict r s words)
    (λ v is. subst (IsVerdict r s words) (sym is.2) (named, (c.in-Err.refusal, c.in-Err.ensures.refused, is.1))) c.refused.ensures

pub returns-then-clock-report : goal.returns-then-clock-report
returns-then-clock-report g c =
    let r = report_of c.args.report.now in
    let s = c.args.image.now.layout in
    let named : EntriesAreNamed r s =
    subst (λ (t : Shape). EntriesAreNamed r t) (c.if-not-same_layout.ensures.0 refl)
    (subst (IsJudged r) c.in_default.is c.in_ok-verdict.ensures) in
    (record { before = named; accepted = c.in-Ok.ensures.accepted }, c.clock-clock.ensures, c.if-clock-report.true)

pub other_unit-requires-clause-layout : goal.other_unit-requires-clause-layout
other_unit-requires-clause-layout g c = c.if-not-same_layout.ensures.0 refl

pub returns-in-Some-2 : goal.returns-in-Some-2
returns-in-Some-2 g c =
    let r = report_of c.args.report.now in
    let s = c.args.image.now.layout in
    let words = c.args.image.now.words in
    let named : EntriesAreNamed r s =
    subst (λ (t : Shape). EntriesAreNamed r t) (c.if-not-same_layout.ensures.0 refl)
    (subst (IsJudged r) c.in_default.is c.in_ok-verdict.ensures) in
    let clocks : ClocksAgree r s words = record {
      before = record { before = named; accepted = c.in-Ok.ensures.accepted };
      clock = sym c.clock-clock.ensures ∙ c.if-clock-report.false;
    } in
    (clocks, subst (IsFirst (ContentsHold r words)) c.in-Some-2.is c.in_ok-unit.ensures)

pub returns : goal.returns
returns g c =
    let r = report_of c.args.report.now in
    let s = c.args.image.now.layout in
    let words = c.args.image.now.words in
    let named : EntriesAreNamed r s =
    subst (λ (t : Shape). EntriesAreNamed r t) (c.if-not-same_layout.ensures.0 refl)
    (subst (IsJudged r) c.in_default.is c.in_ok-verdict.ensures) in
    let clocks : ClocksAgree r s words = record {
      before = record { before = named; accepted = c.in-Ok.ensures.accepted };
      clock = sym c.clock-clock.ensures ∙ c.if-clock-report.false;
    } in
    (clocks, subst (IsFirst (ContentsHold r words)) c.in-None.is c.in_ok-unit.ensures)
