use Rattle.std.proofs.Common.{◌≡◌, ℕ, ◌<◌, ◌==◌, Bool, true, false, List, length, sym, ap, ◌∙◌, subst, arith}
use Rattle.std.specs.Prelude.{◌↔◌, All, IsTrue, slice_get, Some}
use Rattle.std.specs.Option.{option_map}
use Rattle.std.proofs.lemmas.Bool.Decides.{nat_tests}
use Rattle.std.proofs.lemmas.Option.{slice_get-map}
use Rattle.plain.specs.States.{state_of}
use Rattle.mont_base.specs.declared.operation.Entry.{Entry}
use Rattle.mont_base.specs.declared.record.Held.{Held}
use Rattle.mont_base.specs.Counting.{records_in}
use Rattle.job_text.specs.PlainReport.{report_of}
use Rattle.mont_check.specs.declared.moments.Question.{Question}
use Rattle.mont_check.specs.Moments.{SomePoint}
use Rattle.mont_check.specs.Points.{EpochsRise}
use Rattle.mont_check.proofs.MomentLaws.{map_there}
use Rattle.mont_check.proofs.ReadyLaws.{never_met, none_asked, unit_met}
use Rattle.mont_check.proofs.questions.are_met_in.Goals as goal

none : (b : Bool) (l n : ℕ) → l ≡ n → b ≡ (l == 0) → b ≡ true → n ≡ 0
none b l n long is was = grind (arith, nat_tests)

some : (b : Bool) (l n : ℕ) → l ≡ n → b ≡ (l == 0) → b ≡ false → 0 < n
some b l n long is was = grind (arith, nat_tests)

pub returns-then-is_empty : goal.returns-then-is_empty
returns-then-is_empty c =
    none_asked (report_of c.args.report.now) c.args.records.now c.args.unit c.args.questions.now
    (subst (λ (qs : List Question). length qs ≡ 0) c.in_ok-questions.ensures
    (none c.is_empty.result c.in_ok-questions.questions.len (length c.in_ok-questions.questions.items)
    (omega (arith, c.in_ok-questions.questions.ok.0)) c.is_empty.ensures c.if-is_empty.true))

pub returns-in_default : goal.returns-in_default
returns-in_default c =
    never_met (report_of c.args.report.now) c.args.records.now c.args.unit c.args.questions.now
    (λ q same met. absurd
    (let there = subst (λ (u : ℕ). slice_get (report_of c.args.report.now).base u ≡ Some met.base) same met.opened in
    let missing = slice_get-map state_of c.args.report.now.base.units c.args.unit ∙ ap (option_map state_of) c.in_default.ensures in
    let never = sym there ∙ missing in cc))
    (subst (λ (qs : List Question). 0 < length qs) c.in_ok-questions.ensures
    (some c.is_empty.result c.in_ok-questions.questions.len (length c.in_ok-questions.questions.items)
    (omega (arith, c.in_ok-questions.questions.ok.0)) c.is_empty.ensures c.if-is_empty.false))

pub returns-in_default-get : goal.returns-in_default-get
returns-in_default-get c =
    never_met (report_of c.args.report.now) c.args.records.now c.args.unit c.args.questions.now
    (λ q same met. absurd
    (let there = subst (λ (u : ℕ). slice_get c.args.report.now.histories u ≡ Some met.history) same met.kept in
    let never = sym there ∙ c.in_default-get.ensures in cc))
    (subst (λ (qs : List Question). 0 < length qs) c.in_ok-questions.ensures
    (some c.is_empty.result c.in_ok-questions.questions.len (length c.in_ok-questions.questions.items)
    (omega (arith, c.in_ok-questions.questions.ok.0)) c.is_empty.ensures c.if-is_empty.false))

pub are_met_along-requires : goal.are_met_along-requires
are_met_along-requires c = record {
  rise =
      subst EpochsRise (sym c.as_slice.ensures)
      (c.requires c.args.unit (state_of c.in-Some.base.now) c.in-Some-get.history.now
      (map_there state_of c.args.report.now.base.units c.args.unit c.in-Some.base.now c.in-Some.ensures) c.in-Some-get.ensures);
}

pub returns : goal.returns
returns c =
    let base = state_of c.in-Some.base.now in
    let h = c.in-Some-get.history.now in
    let held = records_in c.args.records.now c.args.unit in
    let b = c.in_ok-met.met in
    unit_met (report_of c.args.report.now) c.args.records.now c.args.unit (state_of c.in-Some.base.now) h
    (map_there state_of c.args.report.now.base.units c.args.unit c.in-Some.base.now c.in-Some.ensures) c.in-Some-get.ensures
    c.args.questions.now b
    (subst (λ (qs : List Question). IsTrue b ↔ All (λ (q : Question). SomePoint base h q.span q.case held) qs)
    (c.as_slice-2.ensures.value ∙ c.in_ok-questions.ensures)
    (subst (λ (rs : List Held). IsTrue b ↔ All (λ (q : Question). SomePoint base h q.span q.case rs) c.as_slice-2.result.now)
    c.records_in-records.ensures
    (subst
    (λ (g : List Entry). IsTrue b
    ↔ All (λ (q : Question). SomePoint base g q.span q.case c.records_in-records.result.now) c.as_slice-2.result.now)
    c.as_slice.ensures c.in_ok-met.ensures)))
