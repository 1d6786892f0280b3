use Rattle.std.proofs.Common.{Err, refl, ap, ◌∙◌, subst}
use Rattle.heap.specs.HeapShown.{UnitShown}
use Rattle.announce.specs.Registering.{IsRegisteredAt, HasMoved, IsOut}
use Rattle.op_guard.proofs.Begins.{region_with, runs_out, home_out, begun_as, has_begun_at, has_stayed_out, left_out}
use Rattle.op_guard.proofs.Halts.{halted_since}
use Rattle.op_guard.proofs.beginning.begin_at.Goals as goal

pub returns-in-Ok-clause-begun : goal.returns-in-Ok-clause-begun
returns-in-Ok-clause-begun g c =
    let old = c.args.region.now in
    let seat = c.register_at.new.seat in
    let registered = subst (λ (s : UnitShown). IsRegisteredAt s seat c.args.epoch) c.seat_mut.ensures.value c.in-Ok.ensures.ok in
    begun_as c.args.heap.now old old (region_with old seat) c.args.pass.now.ticket c.args.need c.args.epoch c.unit.result c.number.result
    seat refl c.unit.ensures c.number.ensures
    (has_begun_at c.args.heap.now old c.args.pass.now.ticket c.args.need c.args.epoch seat c.requires.ready c.requires.learnt
    c.requires.room registered)

pub returns-in-Err-Moved-clause-refused : goal.returns-in-Err-Moved-clause-refused
returns-in-Err-Moved-clause-refused g c =
    let a = c.in-Err-Moved in
    let old = c.args.region.now in
    let seat = c.register_at.new.seat in
    let moved = left_out c.seat_mut.result.now seat c.args.epoch c.register_at.result _ (a.is ∙ ap Err a.field-0-is)
    c.register_at.ensures.refused in (
      has_stayed_out c.args.heap.now old c.args.epoch a.clock seat c.requires.ready
          (subst (λ (s : UnitShown). HasMoved s seat c.args.epoch a.clock) c.seat_mut.ensures.value moved),
      refl,
    )

pub halt-requires-clause-runs : goal.halt-requires-clause-runs
halt-requires-clause-runs g c =
    let a = c.in-Err-Cut in
    let seat = c.register_at.new.seat in
    let out = left_out c.seat_mut.result.now seat c.args.epoch c.register_at.result _ (a.is ∙ ap Err a.field-0-is)
    c.register_at.ensures.refused in
    runs_out c.args.heap.now c.args.region.now seat c.requires.ready.runs
    (subst (λ (s : UnitShown). IsOut s seat) c.seat_mut.ensures.value out)

pub halt-requires-clause-home : goal.halt-requires-clause-home
halt-requires-clause-home g c =
    let a = c.in-Err-Cut in
    let seat = c.register_at.new.seat in
    let out = left_out c.seat_mut.result.now seat c.args.epoch c.register_at.result _ (a.is ∙ ap Err a.field-0-is)
    c.register_at.ensures.refused in
    home_out c.args.region.now seat c.requires.ready.home
    (subst (λ (s : UnitShown). IsOut s seat) c.seat_mut.ensures.value out)

pub returns-in-Err-Cut-clause-refused : goal.returns-in-Err-Cut-clause-refused
returns-in-Err-Cut-clause-refused g c =
    let a = c.in-Err-Cut in
    let old = c.args.region.now in
    let seat = c.register_at.new.seat in
    let found = left_out c.seat_mut.result.now seat c.args.epoch c.register_at.result _ (a.is ∙ ap Err a.field-0-is)
    c.register_at.ensures.refused in
    let out = subst (λ (s : UnitShown). IsOut s seat) c.seat_mut.ensures.value found in
    halted_since c.args.heap.now old (region_with old seat) c.halt.new.region c.args.pass.now.ticket c.halt.new.ticket refl
    (ap (λ (s : UnitShown). s.known.part.history) out.only) c.halt.ensures.halted
