use Rattle.std.proofs.Common.{ℕ, rules, ◌≡◌, ap, sym, subst, arith}
use Rattle.heap.specs.HeapShown.{AdvShown}
use Rattle.plain.specs.States.{states_of}
use Rattle.store_stop.specs.Headline.{IsBaseOf}
use Rattle.store.specs.SeatsBack.{AreSeatsBelow}
use Rattle.store.specs.StoreShown.{StoreShown}
use Rattle.store.proofs.SeatsTaken.{none_yet}
use Rattle.store.proofs.store.Store.unlock.Goals as goal

pub give_seat-requires : goal.give_seat-requires
give_seat-requires g c =
    (search rules, (subst (AreSeatsBelow g.N.HeapName.heap 0) (sym c.requires.none) (none_yet g.N.HeapName.heap), c.requires.room))

pub give_seat-requires-2 : goal.give_seat-requires-2
give_seat-requires-2 g c = (search rules, (c.give_seat.ensures.seats, c.give_seat.ensures.room))

pub give_seat-requires-3 : goal.give_seat-requires-3
give_seat-requires-3 g c = (search rules, (c.give_seat-2.ensures.seats, c.give_seat-2.ensures.room))

pub give_seat-requires-4 : goal.give_seat-requires-4
give_seat-requires-4 g c = (search rules, (c.give_seat-3.ensures.seats, c.give_seat-3.ensures.room))

pub give_seat-requires-5 : goal.give_seat-requires-5
give_seat-requires-5 g c = (search rules, (c.give_seat-4.ensures.seats, c.give_seat-4.ensures.room))

pub give_seat-requires-6 : goal.give_seat-requires-6
give_seat-requires-6 g c = (search rules, (c.give_seat-5.ensures.seats, c.give_seat-5.ensures.room))

pub give_seat-requires-7 : goal.give_seat-requires-7
give_seat-requires-7 g c = (search rules, (c.give_seat-6.ensures.seats, c.give_seat-6.ensures.room))

pub give_seat-requires-8 : goal.give_seat-requires-8
give_seat-requires-8 g c = (search rules, (c.give_seat-7.ensures.seats, c.give_seat-7.ensures.room))

pub give_seat-requires-9 : goal.give_seat-requires-9
give_seat-requires-9 g c = (search rules, (c.give_seat-8.ensures.seats, c.give_seat-8.ensures.room))

pub give_seat-requires-10 : goal.give_seat-requires-10
give_seat-requires-10 g c = (search rules, (c.give_seat-9.ensures.seats, c.give_seat-9.ensures.room))

pub give_seat-requires-11 : goal.give_seat-requires-11
give_seat-requires-11 g c = (search rules, (c.give_seat-10.ensures.seats, c.give_seat-10.ensures.room))

pub give_seat-requires-12 : goal.give_seat-requires-12
give_seat-requires-12 g c = (search rules, (c.give_seat-11.ensures.seats, c.give_seat-11.ensures.room))

pub give_seat-requires-13 : goal.give_seat-requires-13
give_seat-requires-13 g c = (search rules, (c.give_seat-12.ensures.seats, c.give_seat-12.ensures.room))

pub give_seat-requires-14 : goal.give_seat-requires-14
give_seat-requires-14 g c = (search rules, (c.give_seat-13.ensures.seats, c.give_seat-13.ensures.room))

pub give_seat-requires-15 : goal.give_seat-requires-15
give_seat-requires-15 g c = (search rules, (c.give_seat-14.ensures.seats, c.give_seat-14.ensures.room))

pub give_seat-requires-16 : goal.give_seat-requires-16
give_seat-requires-16 g c = (search rules, (c.give_seat-15.ensures.seats, c.give_seat-15.ensures.room))

pub returns-clause-base : goal.returns-clause-base
returns-clause-base g c = ap (λ (s : StoreShown). s.base) c.self.view_is

pub returns-clause-unlocked : goal.returns-clause-unlocked
returns-clause-unlocked g c =
    let named = g.N.HeapName.heap in
    record {
      named = c.self.invariant.of_heap;
      many = let many = c.give_seat-16.ensures.seats.many in omega (arith, many, c.requires.few);
      each = c.give_seat-16.ensures.seats.each;
      home = c.give_seat-16.ensures.seats.home;
      advancer = subst (λ (a : AdvShown). a.table ≡ named.table) (sym c.into_seat.ensures) c.into_part-17.ensures.heap.of_heap.of_table;
      base = subst (λ (clock : ℕ). IsBaseOf named.opening clock (states_of c.self.inside.base)) (sym c.into_part-18.ensures)
          c.self.invariant.opened;
    }
