use Rattle.std.proofs.Common.{◌∙◌, ap}
use Rattle.mont_base.specs.Versions.{live_objects}
use Rattle.image_units.proofs.UnitParts.{lost_rises, own_lost, own_records, records_rise}
use Rattle.image_units.proofs.unit_search.find_unit.Goals as goal

pub records_between-records-requires-clause-rising : goal.records_between-records-requires-clause-rising
records_between-records-requires-clause-rising c =
    let image = c.args.image.now in
    records_rise image.layout image.words c.as_slice.result.now (c.as_slice.ensures ∙ c.requires.scanned.records)

pub slots_between-lost-requires-clause-rising : goal.slots_between-lost-requires-clause-rising
slots_between-lost-requires-clause-rising c =
    let image = c.args.image.now in
    lost_rises image.layout image.words c.as_slice-2.result.now (c.as_slice-2.ensures ∙ c.requires.scanned.lost)

pub returns : goal.returns
returns c =
    let image = c.args.image.now in
    let slots = c.slots-slots.result in
    let own = own_records image.layout image.words c.args.unit slots c.requires.unit c.slots-slots.ensures.value
    c.as_slice.result.now c.records_between-records.result.now (c.as_slice.ensures ∙ c.requires.scanned.records)
    c.records_between-records.ensures in
    let lost = own_lost image.layout image.words c.args.unit slots c.requires.unit c.slots-slots.ensures.value
    c.as_slice-2.result.now c.slots_between-lost.result.now (c.as_slice-2.ensures ∙ c.requires.scanned.lost)
    c.slots_between-lost.ensures in
    record {
      records = c.from_vec.ensures ∙ c.in_ok-to_vec.ensures.items_if_clones_equal (λ x y e. e) ∙ own;
      lost = c.from_vec-2.ensures ∙ c.in_ok-to_vec-2.ensures.items_if_clones_equal (λ x y e. e) ∙ lost;
      objects = c.from_vec-3.ensures ∙ c.in_ok-live_objects.ensures ∙ ap live_objects own;
    }
