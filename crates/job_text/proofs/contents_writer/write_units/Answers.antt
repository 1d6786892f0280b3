use Rattle.std.proofs.Common.{Option, ◌++◌, ◌∙◌, sym, ap, map, arith}
use Rattle.std.proofs.lemmas.List.{get_or-map, length-map}
use Rattle.std.specs.String.{string_bytes}
use Rattle.std.specs.List.{enumerate_from}
use Rattle.mont_base.specs.declared.kinds.UnitKind.{UnitKind}
use Rattle.job_text.specs.Lines.{text_of}
use Rattle.job_text.specs.ReportText.{state_lines, unit_lines}
use Rattle.plain.specs.States.{state_of}
use Rattle.job_text.proofs.Written.{numbered_item, parts_written, numbered_past}
use Rattle.job_text.proofs.contents_writer.write_units.Goals as goal

pub loop-unit-preserved : goal.loop-unit-preserved
loop-unit-preserved c =
    let units = c.args.units.now in
    let unit = c.index-units-unit.result in
    numbered_item (λ p. text_of (unit_lines c.args.kinds.now p.0 p.1)) (map state_of units) c.loop-unit.unit (state_of unit) (state_of
    unit) _ _ _
    (omega (arith, length-map units state_of))
    (ap state_of c.index-units-unit.is ∙ sym (get_or-map state_of units c.loop-unit.unit unit (state_of unit) (omega arith)))
    c.loop-unit.invariant
    (c.in_ok-write_unit.ensures
    ∙ ap (λ (kind : Option UnitKind). string_bytes c.loop-unit.text ++ text_of (state_lines kind c.loop-unit.unit (state_of unit)))
    c.get.ensures)

pub returns : goal.returns
returns c =
    let units = c.args.units.now in
    parts_written (λ p. unit_lines c.args.kinds.now p.0 p.1) (enumerate_from 0 (map state_of units)) c.loop-unit.unit _ _
    (numbered_past (map state_of units) _ (omega (arith, length-map units state_of))) c.loop-unit.invariant
