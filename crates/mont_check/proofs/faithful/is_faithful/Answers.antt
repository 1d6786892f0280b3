use Rattle.std.proofs.Common.{◌≡◌, ℕ, Bool, List, Some, refl, subst}
use Rattle.std.specs.Prelude.{◌↔◌, IsTrue, slice_get}
use Rattle.std.proofs.lemmas.Result.{IfOk-weaker}
use Rattle.mont_base.specs.State.{State}
use Rattle.plain.specs.States.{states_of}
use Rattle.job_text.specs.Faithful.{CutAt, IsFaithful}
use Rattle.job_text.specs.PlainReport.{report_of}
use Rattle.mont_check.proofs.RunLaws.{all_short}
use Rattle.mont_check.proofs.faithful.is_faithful.Goals as goal

pub returns-then-not-has_frame : goal.returns-then-not-has_frame
returns-then-not-has_frame c = (λ yes. absurd cc, λ f. c.if-not-has_frame.ensures.1 f.frame)

pub returns-then-not-branch : goal.returns-then-not-branch
returns-then-not-branch c =
    (λ yes. absurd cc, λ f. subst (λ (v : Bool). IsTrue v) c.if-not-branch.true (c.in_ok-are_named_once.ensures.1 f.named_once))

pub returns-then-not-branch-2 : goal.returns-then-not-branch-2
returns-then-not-branch-2 c =
    (λ yes. absurd cc, λ f. subst (λ (v : Bool). IsTrue v) c.if-not-branch-2.true (c.in_ok-are_legal.ensures.1 f.legal))

pub are_run-requires : goal.are_run-requires
are_run-requires c unit base h opened kept =
    all_short c.args.job.now.layout unit h (c.in_ok-are_legal.ensures.0 c.if-not-branch-2.false unit base h opened kept).of_unit

pub are_answered-requires : goal.are_answered-requires
are_answered-requires c unit base h opened kept =
    ((c.in_ok-are_legal.ensures.0 c.if-not-branch-2.false) unit base h
    (subst (λ (bs : List State). slice_get bs unit ≡ Some base) (c.if-not-same_contents.ensures.0 refl) opened) kept).rising

pub returns-then-not-branch-3 : goal.returns-then-not-branch-3
returns-then-not-branch-3 c =
    (λ yes. absurd cc, λ f. subst (λ (v : Bool). IsTrue v) c.if-not-branch-3.true (c.in_ok-are_run.ensures.1 f.runs))

pub returns-then-not-branch-4 : goal.returns-then-not-branch-4
returns-then-not-branch-4 c =
    (λ yes. absurd cc, λ f. subst (λ (v : Bool). IsTrue v) c.if-not-branch-4.true (c.in_ok-are_answered.ensures.1 f.answers))

pub returns : goal.returns
returns c =
    let j = c.args.job.now in
    let base = states_of c.args.base.now in
    let records = c.args.records.now in
    let r = report_of c.args.report.now in
    let all : ((unit : ℕ) → CutAt r base unit) → IsFaithful j c.args.clock base records r = λ cut. record {
      frame = c.if-not-has_frame.ensures.0 refl;
      base_states = c.if-not-same_contents.ensures.0 refl;
      legal = c.in_ok-are_legal.ensures.0 c.if-not-branch-2.false;
      runs = c.in_ok-are_run.ensures.0 c.if-not-branch-3.false;
      answers = c.in_ok-are_answered.ensures.0 c.if-not-branch-4.false;
      named_once = c.in_ok-are_named_once.ensures.0 c.if-not-branch.false;
      cut = cut;
    } in
    IfOk-weaker c.are_cut.result (λ b. IsTrue b ↔ ((unit : ℕ) → CutAt r base unit))
    (λ b. IsTrue b ↔ IsFaithful j c.args.clock base records r)
    (λ b says. (λ yes. all (says.0 yes), λ f. says.1 f.cut)) c.are_cut.ensures
