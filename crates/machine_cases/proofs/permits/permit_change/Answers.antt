use Rattle.std.proofs.Common.{◌∙◌, List, subst, sym, refl}
use Rattle.mont_base.specs.declared.record.Held.{Held}
use Rattle.slots.specs.WrittenRecords.{NamesLive}
use Rattle.machine_cases.proofs.Permitted.{same_names, may_put}
use Rattle.machine_cases.proofs.permits.permit_change.Goals as goal

pub returns : goal.returns
returns c =
    let named : NamesLive c.in_ok-records.records.items c.args.change.now =
    subst (λ (l : List Held). NamesLive l c.args.change.now) c.deref.ensures.value (c.if-not-names_live.ensures refl) in
    may_put c.args.region.now.books c.args.region.now.seat.known.part.records c.args.change.now
    (same_names c.in_ok-records.records.items c.args.region.now.seat.known.part.records c.args.change.now c.in_ok-records.ensures named)
    (sym c.count_end.ensures ∙ c.in-None.is) (c.if-ends_serial.ensures refl)
