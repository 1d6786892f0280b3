use Rattle.std.proofs.Common.{◌≡◌, ◌<◌, ◌∷◌, [], ◌++◌, List, length, map, ap, sym, subst, ◌∙◌, arith}
use Rattle.std.proofs.lemmas.List.{length_push, map-append, length-map}
use Rattle.mont_base.specs.State.{State}
use Rattle.plain.specs.States.{state_of}
use Rattle.job_text.specs.TextParts.{AllFrom}
use Rattle.job_text.specs.Readings.{Reads, Refuses}
use Rattle.job_text.specs.ReportText.{unit_lines, contents_lines}
use Rattle.job_text.specs.ReportRanges.{IsUnit, AreContents}
use Rattle.job_text.proofs.ReadLines.{at_exit}
use Rattle.job_text.proofs.ListParts.{each_item, each_refuses}
use Rattle.job_text.proofs.ContentsParts.{unit_once, some_unit, unit_reads, unit_refuses, kind_here}
use Rattle.job_text.proofs.contents_reader.next_units.Goals as goal

pub returns-in_err-state : goal.returns-in_err-state
returns-in_err-state c =
    let ks = c.args.layout.now.kinds in
    let i = c.loop-unit.invariant in
    let same = c.as_slice-kind-items.ensures.value ∙ c.kinds-kinds.ensures.value in
    let low : c.loop-unit.unit < length ks = omega (arith, c.loop-unit-test.true, ap length same) in
    let at = kind_here c.as_slice-kind-items.result.now ks c.loop-unit.unit same low in
    at_exit c.from_residual.result c.in_err-state.field-0.0 _ (Refuses
    (AreContents ks) (contents_lines ks) c.args.lines.now) c.from_residual.ensures.1
    (each_refuses (IsUnit ks) (unit_lines ks) (unit_once ks) (length ks) (some_unit ks) c.args.lines.now c.loop-unit.lines
    (map state_of c.loop-unit.units) c.loop-unit.unit _ i.0 (length-map c.loop-unit.units state_of ∙ i.1) low
    (unit_refuses ks c.loop-unit.unit _ at c.loop-unit.lines _ c.in_err-state.ensures))

pub loop-unit-preserved : goal.loop-unit-preserved
loop-unit-preserved c =
    let ks = c.args.layout.now.kinds in
    let i = c.loop-unit.invariant in
    let same = c.as_slice-kind-items.ensures.value ∙ c.kinds-kinds.ensures.value in
    let low : c.loop-unit.unit < length ks = omega (arith, c.loop-unit-test.true, ap length same) in
    let at = kind_here c.as_slice-kind-items.result.now ks c.loop-unit.unit same low in
    let whole = each_item (IsUnit ks) (unit_lines ks) (unit_once ks) c.args.lines.now c.loop-unit.lines c.next_unit.new.lines
    (map state_of c.loop-unit.units) c.loop-unit.unit (state_of c.in_ok-state.state) i.0 (length-map c.loop-unit.units state_of ∙ i.1)
    (unit_reads ks c.loop-unit.unit _ at c.loop-unit.lines c.next_unit.new.lines
    (state_of c.in_ok-state.state) c.in_ok-state.ensures) in
    let pushed : map state_of c.push.new.self ≡ map state_of c.loop-unit.units ++ state_of c.in_ok-state.state ∷ [] =
    ap (map state_of) c.in_ok-push.ensures.ok ∙ map-append state_of c.loop-unit.units (c.in_ok-state.state ∷ []) in (
      subst (λ (xs : List State). Reads (AllFrom (IsUnit ks) 0) (contents_lines ks) c.args.lines.now c.next_unit.new.lines xs)
          (sym pushed) whole,
      omega (arith, ap length c.in_ok-push.ensures.ok, length_push c.loop-unit.units c.in_ok-state.state, i.1),
    )
