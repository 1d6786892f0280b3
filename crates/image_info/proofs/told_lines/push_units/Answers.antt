use Rattle.std.proofs.Common.{◌++◌, ◌∙◌, ℕ, List, take, sym, ap, arith}
use Rattle.std.specs.List.{enumerate_from, flat_map, zip}
use Rattle.std.specs.String.{string_bytes}
use Rattle.std.proofs.lemmas.Iterator.{YieldsList-from_slice, YieldsList-from_zip}
use Rattle.std.proofs.lemmas.Iterator.Consumers.{YieldsList-from_enumerate, YieldsList-turn, YieldsList-end}
use Rattle.std.proofs.lemmas.List.{length_push}
use Rattle.mont_base.specs.declared.kinds.UnitKind.{UnitKind}
use Rattle.image_info.specs.declared.unit_counts.UnitCounts.{UnitCounts}
use Rattle.image_info.specs.ToldLines.{unit_line}
use Rattle.image_info.proofs.Written.{item_written, lines_written}
use Rattle.image_info.proofs.told_lines.push_units.Goals as goal

abbrev line : ℕ × (UnitKind × UnitCounts) → List ℕ
line e = unit_line e.0 e.1.0 e.1.1

pub loop-unit-preserved : goal.loop-unit-preserved
loop-unit-preserved c =
    let all = enumerate_from 0 (zip c.args.kinds.now c.args.units.now) in
    let road =
    YieldsList-from_enumerate
    (YieldsList-from_zip (YieldsList-from_slice c.args.kinds.now (cc)) (YieldsList-from_slice c.args.units.now (cc))) (cc) in
    let turn = YieldsList-turn road c.loop-unit.yielded c.loop-unit.unit-iterator c.loop-unit.yielded_by c.next.result c.next.new.self
    (c.in-Some.unit, (c.in-Some.kind, c.in-Some.counts)) c.in-Some.is c.next.ensures.steps in
    let item : ℕ × (UnitKind × UnitCounts) = (c.in-Some.unit, (c.in-Some.kind.now, c.in-Some.counts.now)) in
    item_written line all _ item item _ _ _ turn.0 turn.1 c.loop-unit.invariant c.in_ok-push_counts.ensures
    ∙ ap (λ (n : ℕ). string_bytes c.args.text.now ++ flat_map line (take n all))
    (sym (length_push c.loop-unit.yielded (c.in-Some.unit, (c.in-Some.kind, c.in-Some.counts))))

pub returns : goal.returns
returns c =
    let road =
    YieldsList-from_enumerate
    (YieldsList-from_zip (YieldsList-from_slice c.args.kinds.now (cc)) (YieldsList-from_slice c.args.units.now (cc))) (cc) in
    let end = YieldsList-end road c.loop-unit.yielded c.loop-unit.unit-iterator c.loop-unit.yielded_by c.next.result c.next.new.self
    c.in-None.is c.next.ensures.steps in
    lines_written line (enumerate_from 0 (zip c.args.kinds.now c.args.units.now)) _ _ _ (omega (arith, end.1)) c.loop-unit.invariant
