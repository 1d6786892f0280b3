use Rattle.std.proofs.Common.{◌≡◌, ℕ, ap, subst, sym, ◌∙◌}
use Rattle.std.proofs.lemmas.Result.{IfOk-at_ok, on_err_weaker}
use Rattle.heap.specs.HeapShown.{UnitShown, CallerShown}
use Rattle.heap_rule.specs.Plays.{IsClock}
use Rattle.announce.specs.Registering.{IsRegistered, IsOut}
use Rattle.slots.specs.Books.{RegionShown}
use Rattle.op_guard.proofs.Begins.{region_with, runs_out, home_out, has_begun, begun_as}
use Rattle.op_guard.proofs.beginning.begin.Goals as goal

pub or_halt-requires-clause-runs : goal.or_halt-requires-clause-runs
or_halt-requires-clause-runs g c =
    let r = c.make_room.new.region in
    let seat = c.register-registered.new.seat in
    on_err_weaker {P = IsOut c.seat_mut.result.now seat} c.register-registered.result (λ out.
    runs_out c.args.heap.now r seat c.in_ok-make_room.ensures.ready.runs
    (subst (λ (s : UnitShown). IsOut s seat) c.seat_mut.ensures.value out))
    c.register-registered.ensures.cut

pub or_halt-requires-clause-home : goal.or_halt-requires-clause-home
or_halt-requires-clause-home g c =
    let r = c.make_room.new.region in
    let seat = c.register-registered.new.seat in
    on_err_weaker {P = IsOut c.seat_mut.result.now seat} c.register-registered.result (λ out.
    home_out r seat c.in_ok-make_room.ensures.ready.home (subst (λ (s : UnitShown). IsOut s seat) c.seat_mut.ensures.value out))
    c.register-registered.ensures.cut

pub returns-clause-begun : goal.returns-clause-begun
returns-clause-begun g c =
    let heap = c.args.heap.now in
    let old = c.args.region.now in
    let need = c.args.need in
    let p = c.args.pass.now.ticket in
    let r = c.make_room.new.region in
    let room = c.in_ok-make_room.ensures in
    let seat = c.register-registered.new.seat in
    let epoch = c.in_ok-epoch.epoch in
    let is = sym c.or_halt.ensures.same ∙ c.in_ok-epoch.was in
    let kept = IfOk-at_ok (λ (e : ℕ). (c.or_halt.new.region ≡ region_with r seat) × (c.or_halt.new.ticket ≡ c.make_room.new.pass.ticket)) is
    c.or_halt.ensures.ok in
    let registered = subst (λ (s : UnitShown). IsRegistered s seat epoch) c.seat_mut.ensures.value
    (IfOk-at_ok (λ (e : ℕ). IsRegistered c.seat_mut.result.now seat e) is c.register-registered.ensures.ok) in
    let clock = subst (λ (s : UnitShown). IsClock s.known.learnt s.known.part epoch) c.seat_mut.ensures.value
    (IfOk-at_ok (λ (e : ℕ). IsClock c.seat_mut.result.now.known.learnt c.seat_mut.result.now.known.part e) is
    c.register-registered.ensures.clock) in
    begun_as heap old r c.or_halt.new.region p need epoch c.unit.result c.number.result seat kept.0
    (c.unit.ensures ∙ ap (λ (x : RegionShown). x.books.unit) kept.0)
    (c.number.ensures ∙ ap (λ (x : CallerShown). x.known.caller) (kept.1 ∙ room.caller))
    (has_begun heap old r p need epoch seat room.ready room.keeps room.learnt room.room room.made registered clock)
