use Rattle.std.proofs.Common.{subst}
use Rattle.montage_tool.specs.Program.{IsSaid}
use Rattle.montage_tool.proofs.SaidLines.{told_line}
use Rattle.montage_tool.proofs.program.say_line.Goals as goal

pub returns : goal.returns
returns g c =
    let out = c.args.out.now in
    let told = c.deliver.new.sink in
    subst (IsSaid g.O.Sink.taken g.O.Sink.faults out told) c.as_bytes.ensures.value
    (told_line g.O.Sink.taken g.O.Sink.faults out told c.as_bytes.result.now c.deliver.result
    c.deliver.ensures.all c.deliver.ensures.part c.deliver.ensures.cause)
