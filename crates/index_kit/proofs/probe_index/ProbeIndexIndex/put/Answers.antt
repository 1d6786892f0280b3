use Rattle.std.proofs.Common.{◌≡◌, length, Some, sym, ap, ◌∙◌, arith}
use Rattle.index_kit.proofs.Seated.{get_number}
use Rattle.index_kit.proofs.Indexed.{free_to_put, room_number, indexed_replaced, replaced_key, places_indexed_replaced, replaced_key, indexed_pushed, places_indexed_pushed, no_number_shown, place_shown, put_shown}
use Rattle.index_kit.proofs.probe_index.ProbeIndexIndex.put.Goals as goal

pub seat_and_mark-at-requires-clause-room : goal.seat_and_mark-at-requires-clause-room
seat_and_mark-at-requires-clause-room c =
    rw c.deref.ensures.value (free_to_put c.self.inside.entries.items c.self.inside.cells c.self.invariant _ _ c.self.inside.entries.ok.0
    _ c.self.view_is c.args.key c.requires)

pub invariant_of-self : goal.invariant_of-self
invariant_of-self c =
    let entries = c.self.inside.entries.items in
    let h = c.self.invariant in
    let seat = rw c.deref.ensures.value at c.seat_and_mark-at.ensures.seat in
    let there = get_number entries c.self.inside.cells h.marked h.table c.args.key _ seat _ (sym c.in-Some.is ∙ c.number.ensures) in
    let own = replaced_key entries c.self.inside.cells h c.args.key c.args.place _ there c.index_mut.result.now c.index_mut.ensures.value in
    rw (own, c.replace.ensures.after) (indexed_replaced entries c.self.inside.cells h c.args.key c.args.place _ there)

pub unreachable-requires : goal.unreachable-requires
unreachable-requires c =
    let entries = c.self.inside.entries.items in
    let h = c.self.invariant in
    let seat = rw c.deref.ensures.value at c.seat_and_mark-at.ensures.seat in
    let new = get_number entries c.self.inside.cells h.marked h.table c.args.key _ seat _ (sym c.in-None.is ∙ c.number.ensures) in
    let room = room_number entries c.self.inside.cells h _ _ c.self.inside.entries.ok.0 _ c.self.view_is c.args.key c.requires new in
    omega (arith, c.in-Err.ensures.full, c.self.inside.entries.ok.0)

pub invariant_of-self-in-None : goal.invariant_of-self-in-None
invariant_of-self-in-None c =
    let entries = c.self.inside.entries.items in
    let h = c.self.invariant in
    let seat = rw c.deref.ensures.value at c.seat_and_mark-at.ensures.seat in
    let new = get_number entries c.self.inside.cells h.marked h.table c.args.key _ seat _ (sym c.in-None.is ∙ c.number.ensures) in
    let room = room_number entries c.self.inside.cells h _ _ c.self.inside.entries.ok.0 _ c.self.view_is c.args.key c.requires new in
    let put = indexed_pushed entries c.self.inside.cells h c.args.key c.args.place _ new seat _ c.seat_and_mark-at.ensures.mark (omega
    (arith, room)) in
    let size : c.len.result ≡ length entries = c.len.ensures ∙ c.self.inside.entries.ok.0 in
    rw (c.in-Ok.ensures.items, c.fill.ensures, size) put

pub returns-in-Some-clause-earlier : goal.returns-in-Some-clause-earlier
returns-in-Some-clause-earlier c =
    let entries = c.self.inside.entries.items in
    let h = c.self.invariant in
    let seat = rw c.deref.ensures.value at c.seat_and_mark-at.ensures.seat in
    let there = get_number entries c.self.inside.cells h.marked h.table c.args.key _ seat _ (sym c.in-Some.is ∙ c.number.ensures) in
    ap Some c.replace.ensures.value
    ∙ place_shown entries c.self.inside.cells h _ _ c.self.view_is c.args.key _ there c.index_mut.result.now c.index_mut.ensures.value

pub returns-in-Some-clause-set : goal.returns-in-Some-clause-set
returns-in-Some-clause-set c =
    let entries = c.self.inside.entries.items in
    let h = c.self.invariant in
    let seat = rw c.deref.ensures.value at c.seat_and_mark-at.ensures.seat in
    let there = get_number entries c.self.inside.cells h.marked h.table c.args.key _ seat _ (sym c.in-Some.is ∙ c.number.ensures) in
    let own = replaced_key entries c.self.inside.cells h c.args.key c.args.place _ there c.index_mut.result.now c.index_mut.ensures.value in
    rw (own, c.replace.ensures.after) (put_shown entries c.self.inside.cells h _ _ c.self.view_is c.args.key c.args.place _
    (places_indexed_replaced entries c.self.inside.cells h c.args.key c.args.place _ there))

pub returns-in-Ok-clause-earlier : goal.returns-in-Ok-clause-earlier
returns-in-Ok-clause-earlier c =
    let entries = c.self.inside.entries.items in
    let h = c.self.invariant in
    let seat = rw c.deref.ensures.value at c.seat_and_mark-at.ensures.seat in
    let new = get_number entries c.self.inside.cells h.marked h.table c.args.key _ seat _ (sym c.in-None.is ∙ c.number.ensures) in
    no_number_shown entries c.self.inside.cells h _ _ c.self.view_is c.args.key new

pub returns-in-Ok-clause-set : goal.returns-in-Ok-clause-set
returns-in-Ok-clause-set c =
    let entries = c.self.inside.entries.items in
    let h = c.self.invariant in
    let seat = rw c.deref.ensures.value at c.seat_and_mark-at.ensures.seat in
    let new = get_number entries c.self.inside.cells h.marked h.table c.args.key _ seat _ (sym c.in-None.is ∙ c.number.ensures) in
    rw c.in-Ok.ensures.items (put_shown entries c.self.inside.cells h _ _ c.self.view_is c.args.key c.args.place _
    (places_indexed_pushed entries c.self.inside.cells h c.args.key c.args.place _ new seat))
