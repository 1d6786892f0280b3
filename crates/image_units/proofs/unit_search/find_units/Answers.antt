use Rattle.std.proofs.Common.{◌∙◌, subst}
use Rattle.image_units.specs.FoundVersions.{HasNoRepeat}
use Rattle.image_units.proofs.UnitParts.{records_rise}
use Rattle.image_units.proofs.unit_search.find_units.Goals as goal

pub check_versions-requires : goal.check_versions-requires
check_versions-requires g c =
    let image = c.args.image.now in
    records_rise image.layout image.words c.as_slice.result.now (c.as_slice.ensures ∙ c.in_ok-all.ensures.records)

pub build_units-requires-clause-scanned : goal.build_units-requires-clause-scanned
build_units-requires-clause-scanned g c =
    record {
      records = c.in_ok-all.ensures.records;
      lost = c.in_ok-all.ensures.lost;
      readable = c.in_ok-all.ensures.readable;
      apart = subst HasNoRepeat (c.as_slice.ensures ∙ c.in_ok-all.ensures.records) c.in_ok-check_versions.ensures.apart;
    }
