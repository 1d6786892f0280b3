use Rattle.montage_tool.specs.Devices.{source_seen}
use Rattle.montage_tool.proofs.Readings.{image_read}
use Rattle.montage_tool.proofs.read_inputs.image_of.Goals as goal

pub returns-clause-source : goal.returns-clause-source
returns-clause-source g c =
    let read = c.in_ok-read_image.ensures in
    image_read (source_seen g.I.Source c.args.image.now) (source_seen g.I.Source c.read_image.new.source) c.in_ok-read_image.field-0
    read.spelled read.few read.taken read.cause
