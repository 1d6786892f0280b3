use Rattle.std.proofs.Common.{sym, subst}
use Rattle.slots.specs.Books.{RegionShown}
use Rattle.slots.specs.WrittenRecords.{CanPut}
use Rattle.slots.proofs.Seen.{on_err, store_at, room_at, put_at, cut_at}
use Rattle.slots.proofs.region.Region.put_record.Goals as goal

pub store_record-requires-clause-may : goal.store_record-requires-clause-may
store_record-requires-clause-may g c =
    store_at _ _ _ c.self.view_is _ _ _ _ c.requires.heap c.requires.agrees c.requires.running c.requires.may c.first_free-slot.ensures
    c.record_by.ensures.record_is c.record_by.ensures.valid c.requires.registered

pub put-requires : goal.put-requires
put-requires g c =
    let may = subst (λ (x : RegionShown). CanPut x.books x.seat.known.part.records c.args.change.now) (sym c.self.view_is) c.requires.may in
    record {
      room = room_at _ _ _ c.self.view_is _ _ _ _ c.requires.heap c.requires.agrees c.requires.running c.requires.may
          c.first_free-slot.ensures c.record_by.ensures.record_is c.record_by.ensures.valid;
      identity = may.identity;
      serial = may.serial;
    }

pub returns-in_err-store_record-clause-cut : goal.returns-in_err-store_record-clause-cut
returns-in_err-store_record-clause-cut g c = on_err _ _ (
    cut_at _ _ _ c.self.view_is _ _ _ _ c.requires.heap c.requires.agrees c.requires.running c.requires.may c.first_free-slot.ensures
    c.record_by.ensures.record_is c.record_by.ensures.valid _ c.in_err-store_record.ensures.cut).0

pub returns-in_err-store_record-clause-agrees : goal.returns-in_err-store_record-clause-agrees
returns-in_err-store_record-clause-agrees g c = (
    cut_at _ _ _ c.self.view_is _ _ _ _ c.requires.heap c.requires.agrees c.requires.running c.requires.may c.first_free-slot.ensures
    c.record_by.ensures.record_is c.record_by.ensures.valid _ c.in_err-store_record.ensures.cut).1

pub returns-in_err-store_record-clause-stays : goal.returns-in_err-store_record-clause-stays
returns-in_err-store_record-clause-stays g c = (
    cut_at _ _ _ c.self.view_is _ _ _ _ c.requires.heap c.requires.agrees c.requires.running c.requires.may c.first_free-slot.ensures
    c.record_by.ensures.record_is c.record_by.ensures.valid _ c.in_err-store_record.ensures.cut).2

pub returns-clause-put : goal.returns-clause-put
returns-clause-put g c = (
    put_at _ _ _ c.self.view_is _ _ _ _ c.requires.heap c.requires.agrees c.requires.running c.requires.may c.first_free-slot.ensures
    c.record_by.ensures.record_is c.record_by.ensures.valid _ _ _ c.slot_before.ensures
    c.in_ok-store_record.ensures.ok c.put.ensures).0

pub returns-clause-agrees : goal.returns-clause-agrees
returns-clause-agrees g c = (
    put_at _ _ _ c.self.view_is _ _ _ _ c.requires.heap c.requires.agrees c.requires.running c.requires.may c.first_free-slot.ensures
    c.record_by.ensures.record_is c.record_by.ensures.valid _ _ _ c.slot_before.ensures
    c.in_ok-store_record.ensures.ok c.put.ensures).1

pub returns-clause-stays : goal.returns-clause-stays
returns-clause-stays g c = (
    put_at _ _ _ c.self.view_is _ _ _ _ c.requires.heap c.requires.agrees c.requires.running c.requires.may c.first_free-slot.ensures
    c.record_by.ensures.record_is c.record_by.ensures.valid _ _ _ c.slot_before.ensures
    c.in_ok-store_record.ensures.ok c.put.ensures).2
