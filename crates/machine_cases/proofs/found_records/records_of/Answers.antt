use Rattle.std.proofs.Common.{◌*◌, arith, ap}
use Rattle.std.specs.Option.{option_copied}
use Rattle.mont_base.specs.Layout.{Shape}
use Rattle.machine_cases.proofs.FoundRecords.{first_is, none_below, more_below, all_below}
use Rattle.machine_cases.proofs.found_records.records_of.Goals as goal

pub loop-slot-init : goal.loop-slot-init
loop-slot-init c = none_below c.args.region.now c.requires.agrees (c.unit.result * c.slots.result) c.new-records.result.items
    c.new-records.ensures.items
    (first_is c.args.region.now c.args.layout c.unit.result c.slots.result c.requires.layout c.unit.ensures c.slots.ensures.value)

pub loop-slot-preserved : goal.loop-slot-preserved
loop-slot-preserved c = more_below c.args.region.now c.requires.agrees c.loop-slot.slot c.loop-slot.records.items
    c.push_found.new.records.items (option_copied c.find_record.result)
    c.loop-slot.invariant c.find_record.ensures c.in_ok-push_found.ensures

pub returns : goal.returns
returns c =
    let first = first_is c.args.region.now c.args.layout c.unit.result c.slots.result c.requires.layout c.unit.ensures
    c.slots.ensures.value in
    let many = ap (λ (s : Shape). s.slots) c.requires.layout in
    let end = c.loop-slot-test.false in
    let last = c.slots-2.ensures.value in
    all_below c.args.region.now c.requires.agrees c.loop-slot.slot c.loop-slot.records.items (omega (arith, first, many, end, last))
    c.loop-slot.invariant
