use Rattle.std.proofs.Common.{drop, length-drop, arith}
use Rattle.heap.proofs.PushedSlots.{room_to_push}
use Rattle.heap.proofs.list_calls.push_slots.Goals as goal

pub push-requires : goal.push-requires
push-requires g c =
    let inv = c.loop-one.invariant in
    let left = drop c.loop-one.one-index c.args.written.now in
    let long = length-drop c.loop-one.one-index c.args.written.now in
    let fits = c.requires in
    let rooms = inv.1 in
    omega (
      arith,
      rooms,
      room_to_push g.W.InSlot.in_slot _ _ left c.args.written.now c.args.list.now.room inv.0 (omega (arith, long)) fits,
    )
