use Rattle.std.proofs.Common.{arith}
use Rattle.std.specs.List.{enumerate_from}
use Rattle.std.proofs.lemmas.List.FromFn.{length-enumerate_from}
use Rattle.mont_base.specs.declared.kinds.UnitKind.TheVariants as kinds
use Rattle.image_info.specs.ToldLines.{unit_words}
use Rattle.image_info.proofs.Written.{all_written, numbered_item}
use Rattle.image_info.proofs.told_lines.push_kinds.Goals as goal

pub loop-unit-preserved : goal.loop-unit-preserved
loop-unit-preserved c =
    numbered_item (unit_words c.args.slots) c.args.kinds.now c.loop-unit.unit kinds.Map _ _ _ (omega arith) c.loop-unit.invariant
    c.in_ok-push_kind.ensures

pub returns : goal.returns
returns c =
    let kinds = c.args.kinds.now in
    all_written (unit_words c.args.slots) (enumerate_from 0 kinds) c.loop-unit.unit _ _
    (omega (arith, length-enumerate_from 0 kinds)) c.loop-unit.invariant
