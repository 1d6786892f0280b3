use Rattle.std.proofs.Common.{length, map, arith}
use Rattle.std.specs.List.{concat}
use Rattle.std.specs.String.{string_bytes}
use Rattle.image_info.specs.ToldLines.{fault_line, number_line}
use Rattle.image_info.proofs.Written.{behind_mark, lines_written}
use Rattle.image_info.proofs.told_lines.push_faults.Goals as goal

pub returns : goal.returns
returns c =
    let faults = c.args.faults.now in
    let line = fault_line c.args.image.now in
    behind_mark (string_bytes c.args.text.now) (number_line (length faults)) (concat (map line faults)) _ _
    c.in_ok-push_number.ensures
    (lines_written line faults c.loop-fault.fault-index _ _ (omega arith) c.loop-fault.invariant)
