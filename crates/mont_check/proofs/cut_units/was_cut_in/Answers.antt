use Rattle.std.proofs.Common.{◌≡◌, ◌-◌, List, length, sym, ap, ◌∙◌, subst}
use Rattle.std.specs.Prelude.{slice_get, Some}
use Rattle.std.proofs.lemmas.Option.{same_Some}
use Rattle.job_text.specs.declared.outcome.Outcome.{Outcome}
use Rattle.job_text.specs.declared.outcome.Outcome.TheVariants.{CutIn}
use Rattle.job_text.specs.PlainReport.{report_of}
use Rattle.mont_check.proofs.CutLaws.{cut_where_last}
use Rattle.mont_check.proofs.cut_units.was_cut_in.Goals as goal

pub returns-in-Some-last : goal.returns-in-Some-last
returns-in-Some-last c =
    let os = c.in-Some.outcomes.now in
    let last = c.in-Some-last.last.now in
    let told = cut_where_last (report_of c.args.report.now) c.args.caller c.args.unit os c.in-Some.ensures c.requires in
    let is : slice_get c.in-Some.outcomes.now (length c.in-Some.outcomes.now - 1) ≡ Some c.in-Some-last.last.now =
    sym
    (subst (λ (xs : List Outcome). Some c.in-Some-last.last.now ≡ slice_get xs (length xs - 1)) c.as_slice.ensures
    c.in-Some-last.ensures.value) in (
      λ yes. told.1 (is ∙ ap Some (c.is_cut_in.ensures.0 yes)),
      λ was. c.is_cut_in.ensures.1 (same_Some last (CutIn c.args.unit) (sym is ∙ told.0 was)),
    )
