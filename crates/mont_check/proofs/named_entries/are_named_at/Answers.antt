use Rattle.std.proofs.Common.{◌≡◌, ℕ, List, length, subst}
use Rattle.std.specs.Prelude.{◌↔◌, All, IsTrue}
use Rattle.job_text.specs.declared.outcome.Outcome.{Outcome}
use Rattle.job_text.specs.PlainReport.{report_of}
use Rattle.mont_check.specs.Names.{TellsNames}
use Rattle.mont_check.proofs.NamesLaws.{named_where_one}
use Rattle.mont_check.proofs.named_entries.are_named_at.Goals as goal

pub returns : goal.returns
returns c =
    let r = report_of c.args.report.now in
    let unit = c.args.unit in
    let times : List ℕ = c.in_ok-times.times.items in
    named_where_one r unit c.in-Some.history.now times c.are_one.result c.in-Some.ensures
    (subst (λ (os : List (List Outcome)). TellsNames os unit (length c.in-Some.history.now) times) c.as_slice.ensures
    (subst (λ (n : ℕ). TellsNames c.as_slice.result.now unit n times) c.len.ensures c.in_ok-times.ensures))
    (subst (λ (ns : List ℕ). IsTrue c.are_one.result ↔ All (λ (n : ℕ). n ≡ 1) ns) c.as_slice-2.ensures.value c.are_one.ensures)
