use Rattle.std.proofs.Common.{◌+◌}
use Rattle.mont_image.specs.declared.image_text.TheConstants.{IMAGE_BYTES}
use Rattle.montage_tool.specs.Devices.{source_seen}
use Rattle.montage_tool.proofs.ToldContents.{read_behind}
use Rattle.montage_tool.proofs.told_contents.contents_of.Goals as goal

pub returns-clause-source : goal.returns-clause-source
returns-clause-source g c =
    let old = source_seen g.I.Source c.args.image.now in
    read_behind (IMAGE_BYTES + 1) old.left old (source_seen g.I.Source c.image_of.new.image) c.contents_text.result
    (c.contents_text.ensures.refused old.left c.in_ok-image.ensures.read) c.contents_text.ensures.read c.in_ok-image.ensures.source
