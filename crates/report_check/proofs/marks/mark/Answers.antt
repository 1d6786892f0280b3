use Rattle.std.proofs.Common.{◌≡◌, ◌∙◌, ◌<◌, Bool, List, arith, length, subst, sym}
use Rattle.std.specs.Prelude.{slice_set}
use Rattle.std.proofs.lemmas.Option.{same_Some}
use Rattle.report_check.specs.Marks.{MarksOne}
use Rattle.report_check.proofs.MarkLaws.{marks_none, marks_row, no_place}
use Rattle.report_check.proofs.marks.mark.Goals as goal

pub returns-then-place-len : goal.returns-then-place-len
returns-then-place-len c =
    let marks = c.args.marks.now in
    let row = c.item_mut.result.now in
    let same : c.in-Some.row.now ≡ row = same_Some _ _ (sym c.in-Some.ensures ∙ c.item_mut.ensures.value) in
    let low : c.args.place < length c.in-Some.row.now = omega arith in
    let inside : c.args.place < length row = subst (λ (r : List Bool). c.args.place < length r) same low in
    subst (λ (r : List Bool). MarksOne c.args.unit c.args.place marks (slice_set marks c.args.unit r)) (sym c.set.ensures)
    (marks_row marks c.args.unit c.args.place row c.item_mut.ensures.value inside)

pub returns-else-place-len : goal.returns-else-place-len
returns-else-place-len c =
    marks_none c.args.marks.now c.args.unit c.args.place
    (no_place c.args.marks.now c.args.unit c.args.place c.in-Some.row.now c.in-Some.ensures (omega arith))
