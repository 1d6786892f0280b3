use Rattle.std.proofs.Common.{ℕ, rules, sym, subst}
use Rattle.plain.specs.States.{states_of}
use Rattle.store_stop.specs.Headline.{IsBaseOf}
use Rattle.store.specs.FreshStore.{AreUnitsFrom}
use Rattle.store.proofs.store.Store.of_structures.Goals as goal

pub next_unit-requires : goal.next_unit-requires
next_unit-requires g c =
    (search rules, subst (AreUnitsFrom g.N.HeapName.heap 0) (sym c.into_iter-structures.ensures.rest) c.requires.units)

pub next_unit-requires-2 : goal.next_unit-requires-2
next_unit-requires-2 g c = (search rules, c.next_unit.ensures)

pub next_unit-requires-3 : goal.next_unit-requires-3
next_unit-requires-3 g c = (search rules, c.next_unit-2.ensures)

pub next_unit-requires-4 : goal.next_unit-requires-4
next_unit-requires-4 g c = (search rules, c.next_unit-3.ensures)

pub next_unit-requires-5 : goal.next_unit-requires-5
next_unit-requires-5 g c = (search rules, c.next_unit-4.ensures)

pub next_unit-requires-6 : goal.next_unit-requires-6
next_unit-requires-6 g c = (search rules, c.next_unit-5.ensures)

pub next_unit-requires-7 : goal.next_unit-requires-7
next_unit-requires-7 g c = (search rules, c.next_unit-6.ensures)

pub next_unit-requires-8 : goal.next_unit-requires-8
next_unit-requires-8 g c = (search rules, c.next_unit-7.ensures)

pub next_unit-requires-9 : goal.next_unit-requires-9
next_unit-requires-9 g c = (search rules, c.next_unit-8.ensures)

pub next_unit-requires-10 : goal.next_unit-requires-10
next_unit-requires-10 g c = (search rules, c.next_unit-9.ensures)

pub next_unit-requires-11 : goal.next_unit-requires-11
next_unit-requires-11 g c = (search rules, c.next_unit-10.ensures)

pub next_unit-requires-12 : goal.next_unit-requires-12
next_unit-requires-12 g c = (search rules, c.next_unit-11.ensures)

pub next_unit-requires-13 : goal.next_unit-requires-13
next_unit-requires-13 g c = (search rules, c.next_unit-12.ensures)

pub next_unit-requires-14 : goal.next_unit-requires-14
next_unit-requires-14 g c = (search rules, c.next_unit-13.ensures)

pub next_unit-requires-15 : goal.next_unit-requires-15
next_unit-requires-15 g c = (search rules, c.next_unit-14.ensures)

pub next_unit-requires-16 : goal.next_unit-requires-16
next_unit-requires-16 g c = (search rules, c.next_unit-15.ensures)

pub invariant_of-result : goal.invariant_of-result
invariant_of-result g c = record {
  of_heap = c.requires.named;
  opened = subst (λ (clock : ℕ). IsBaseOf g.N.HeapName.heap.opening clock (states_of c.args.base)) (sym c.new.ensures) c.requires.base;
}
