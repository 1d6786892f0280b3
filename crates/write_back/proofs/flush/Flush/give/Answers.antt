use Rattle.std.proofs.Common.{◌+◌, subst, sym, arith}
use Rattle.std.specs.Prelude.{Option}
use Rattle.mont_base.specs.SlotLists.{Roomy}
use Rattle.heap.specs.HeapShown.{AdvShown}
use Rattle.write_back.specs.Flush.{StandsAt}
use Rattle.write_back.proofs.Standing.{taken_inside, gave}
use Rattle.write_back.proofs.flush.Flush.give.Goals as goal

pub overflow_add-self : goal.overflow_add-self
overflow_add-self c =
    let s = c.requires.stands in
    let unit = s.unit in
    let below = taken_inside c.args.self.now c.args.seat.now.known s c.requires.out in
    let units = c.requires.layout.units in
    let few = c.requires.range.kinds.few in
    omega arith

pub returns-clause-stands : goal.returns-clause-stands
returns-clause-stands c =
    let f = c.args.self.now in
    subst (λ (z : Option Roomy × AdvShown). StandsAt (record f { unit = f.unit + 1; list = z.0; at = 0 }) z.1.known)
    (λ i. (sym c.take.ensures.after i, sym c.give_empty.ensures i))
    (gave c.args.self.now c.args.seat.now.known c.requires.stands c.requires.out c.requires.end)
