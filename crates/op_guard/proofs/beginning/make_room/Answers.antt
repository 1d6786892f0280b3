use Rattle.std.proofs.Common.{◌≡◌, ◌≤◌, ℕ, length, max, refl, ap, subst, sym, ◌∙◌, arith}
use Rattle.std.proofs.lemmas.Result.{IfOk-at_ok, on_err_weaker}
use Rattle.mont_base.specs.Image.{clock_of}
use Rattle.heap.specs.HeapShown.{UnitShown, CallerShown}
use Rattle.heap_rule.specs.Plays.{IsDurable, IsNotBeyond, HasSeenAll}
use Rattle.heap_rule.specs.declared.views.UnitTurn.{UnitTurn}
use Rattle.heap_rule.specs.Views.{caller_heard, note_of_unit}
use Rattle.slots.specs.Books.{RegionShown, IsAtRest}
use Rattle.slots.specs.Reclaiming.{HasClosed, KeepsLive, IsSound, WasCutReclaiming, due_at}
use Rattle.op_guard.specs.Guarding.{HasMadeRoom, IsFull}
use Rattle.op_guard.proofs.Halts.{turn_reclaiming}
use Rattle.op_guard.proofs.Room.{HasEmptied, made_enough, made_emptied, is_full}
use Rattle.op_guard.proofs.beginning.make_room.Goals as goal

-- a caller that took a note of a unit's seat
abbrev noting : CallerShown → UnitShown → CallerShown
noting q seat = record {
  table = q.table;
  known = caller_heard q.known (note_of_unit (length q.known.part.fronts) seat.known);
}

pub or_halt-requires-clause-home : goal.or_halt-requires-clause-home
or_halt-requires-clause-home g c =
    let shown = c.show.new.region in
    let new = c.reclaim-reclaimed.new.self in
    on_err_weaker {P = WasCutReclaiming shown new} c.reclaim-reclaimed.result (λ cut.
    ap (λ (t : UnitTurn). t.out) (turn_reclaiming shown new cut ∙ c.show.ensures.ready.home)) c.reclaim-reclaimed.ensures.cut

pub returns-then-free-need-clause-made : goal.returns-then-free-need-clause-made
returns-then-free-need-clause-made g c =
    let enough = c.if-free-need.true in
    let free = c.free.ensures in
    made_enough c.args.region.now c.show.new.region c.args.pass.now.ticket c.args.need c.show.ensures.region (omega arith)

pub returns-then-free-need-2-clause-made : goal.returns-then-free-need-2-clause-made
returns-then-free-need-2-clause-made g c =
    let heap = c.args.heap.now in
    let old = c.args.region.now in
    let q = c.args.pass.now.ticket in
    let shown = c.show.new.region in
    let new = c.reclaim-reclaimed.new.self in
    let given = c.reclaim-reclaimed.ensures in
    let clock = c.in_ok-clock.clock in
    let is = sym c.or_halt.ensures.same ∙ c.in_ok-clock.was in
    let kept = IfOk-at_ok (λ (x : ℕ). (c.or_halt.new.region ≡ new) × (c.or_halt.new.ticket ≡ c.show.new.ticket)) is c.or_halt.ensures.ok in
    let emptied : HasEmptied heap shown new clock = record {
      ready = c.show.ensures.ready;
      closed = IfOk-at_ok (λ (x : ℕ). HasClosed shown new x (due_at x shown.books.retired)) is given.closed;
      agrees = given.agrees;
      stays = given.stays;
      rests = IfOk-at_ok (λ (x : ℕ). IsAtRest new.seat.known.part) is given.rests;
      live = IfOk-at_ok (λ (x : ℕ). KeepsLive shown new) is given.live;
      found = IfOk-at_ok (λ (x : ℕ). IsDurable (max shown.seat.known.part.durable shown.seat.known.learnt.durable) x) is given.clock;
      begun = IfOk-at_ok (λ (x : ℕ). clock_of heap.opening.words ≤ x) is given.begun;
      sound = IfOk-at_ok (λ (x : ℕ). IsSound heap new) is given.sound;
    } in
    let few = c.if-free-need.false in
    let free = c.free.ensures in
    let same = ap (λ (r : RegionShown). length r.books.free) c.show.ensures.region in
    subst (λ (x : RegionShown). HasMadeRoom old x q c.args.need) (sym kept.0)
    (made_emptied heap old new q c.args.need clock
    (subst (λ (x : RegionShown). HasEmptied heap x new clock) c.show.ensures.region emptied) (omega arith))

pub returns-clause-refused : goal.returns-clause-refused
returns-clause-refused g c =
    let heap = c.args.heap.now in
    let old = c.args.region.now in
    let q = c.args.pass.now.ticket in
    let shown = c.show.new.region in
    let new = c.reclaim-reclaimed.new.self in
    let given = c.reclaim-reclaimed.ensures in
    let clock = c.in_ok-clock.clock in
    let is = sym c.or_halt.ensures.same ∙ c.in_ok-clock.was in
    let kept = IfOk-at_ok (λ (x : ℕ). (c.or_halt.new.region ≡ new) × (c.or_halt.new.ticket ≡ c.show.new.ticket)) is c.or_halt.ensures.ok in
    let emptied : HasEmptied heap shown new clock = record {
      ready = c.show.ensures.ready;
      closed = IfOk-at_ok (λ (x : ℕ). HasClosed shown new x (due_at x shown.books.retired)) is given.closed;
      agrees = given.agrees;
      stays = given.stays;
      rests = IfOk-at_ok (λ (x : ℕ). IsAtRest new.seat.known.part) is given.rests;
      live = IfOk-at_ok (λ (x : ℕ). KeepsLive shown new) is given.live;
      found = IfOk-at_ok (λ (x : ℕ). IsDurable (max shown.seat.known.part.durable shown.seat.known.learnt.durable) x) is given.clock;
      begun = IfOk-at_ok (λ (x : ℕ). clock_of heap.opening.words ≤ x) is given.begun;
      sound = IfOk-at_ok (λ (x : ℕ). IsSound heap new) is given.sound;
    } in
    let seat : c.seat_mut.result.now ≡ new.seat = c.seat_mut.ensures.value ∙ ap (λ (x : RegionShown). x.seat) kept.0 in
    let same = kept.1 ∙ c.show.ensures.caller in
    let noted = c.hear_unit.ensures.caller ∙ (λ i. noting (same i) (seat i)) in
    let had_seen = subst (λ (s : UnitShown). IsNotBeyond q.known s.known) seat
    (subst (λ (x : CallerShown). IsNotBeyond x.known c.seat_mut.result.now.known) same c.hear_unit.ensures.front) in
    let seen = subst (λ (s : UnitShown). HasSeenAll c.hear_unit.new.ticket.known s.known) seat c.hear_unit.ensures.all in
    let free = c.free-free.ensures ∙ ap (λ (x : RegionShown). length x.books.free) kept.0 in
    let whole : record { seat = c.hear_unit.new.seat; books = c.or_halt.new.region.books } ≡ new =
    (λ i. record { seat = (c.hear_unit.ensures.unit ∙ c.seat_mut.ensures.value) i; books = c.or_halt.new.region.books }) ∙ kept.0 in (
      refl,
      subst (λ (x : RegionShown). IsFull heap old x q c.hear_unit.new.ticket c.args.need c.free-free.result clock) (sym whole)
          (is_full heap old new q c.hear_unit.new.ticket c.args.need c.free-free.result clock
          (subst (λ (x : RegionShown). HasEmptied heap x new clock) c.show.ensures.region emptied)
          free c.if-free-need-2.false noted had_seen seen),
    )
