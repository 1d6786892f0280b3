use Rattle.std.proofs.Common.{◌∙◌, arith, refl}
use Rattle.machine_cases.proofs.Permitted.{stands_for}
use Rattle.machine_cases.proofs.permits.part_of.Goals as goal

pub returns : goal.returns
returns c =
    let some = c.places.ensures in
    let few = c.if-places-gt-LAST.false in
    stands_for c.args.region.now c.args.stage _ c.in_ok-records.records.items c.written.result.now c.requires.agrees refl
    c.from_vec.ensures c.in_ok-records.ensures (c.from_vec-2.ensures ∙ c.in_ok-written.ensures) c.written.ensures (omega (arith, some, few))
