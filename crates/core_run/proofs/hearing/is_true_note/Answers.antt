use Rattle.std.proofs.Common.{List, sym, subst}
use Rattle.std.specs.Prelude.{All}
use Rattle.mont_base.specs.Seen.{FitsHistories}
use Rattle.core_steps.specs.declared.parts.UnitPart.{UnitPart}
use Rattle.core_steps.specs.declared.parts.Mark.{Mark}
use Rattle.core_steps.specs.Notes.{histories_of, cuts_of, seen_by_note, IsTrueMark}
use Rattle.core_run.proofs.hearing.is_true_note.Goals as goal

pub returns-then-fits_units : goal.returns-then-fits_units
returns-then-fits_units c =
    let note = c.args.note.now in
    let clocks = c.is_reached.ensures.0 c.if-not-is_reached.false in
    let Fits : List UnitPart → Type 0 = λ units. FitsHistories (histories_of units) (seen_by_note note) in
    let Marked : List UnitPart → List Mark → Type 0 = λ units marks. All (IsTrueMark (cuts_of units)) marks in (
      λ t. record {
        fits = subst Fits c.as_slice-units.ensures (c.fits_units.ensures.0 c.if-fits_units.true);
        newest = clocks.0;
        known = clocks.1;
        marks = subst (λ (units : List UnitPart). Marked units note.marks) c.as_slice-units.ensures
            (subst (Marked c.as_slice-units.result.now) c.as_slice.ensures (c.are_true_marks.ensures.0 t));
      },
      λ true_note. c.are_true_marks.ensures.1
          (subst (Marked c.as_slice-units.result.now) (sym c.as_slice.ensures)
          (subst (λ (units : List UnitPart). Marked units note.marks) (sym c.as_slice-units.ensures) true_note.marks)),
    )
