use Rattle.std.proofs.Common.{◌≡◌, ◌⊎◌, ◌+◌, drop}
use Rattle.mont_base.specs.History.{state_after}
use Rattle.mont_base.specs.Room.{retired_late}
use Rattle.plain.specs.Changes.{SomeChanges}
use Rattle.plain.specs.States.{state_of}
use Rattle.plain.proofs.room.used_slots.Given as goal

-- the state that is left to reach, what is left to count, and that something was or will be changed where slots were counted
abbrev pub invariant-loop-entry : goal.invariant-loop-entry
invariant-loop-entry l = record {
  state : state_after (state_of l.state) (drop l.entry-index l.entries) ≡ state_after (state_of l.fn.base) l.entries;
  retired : l.retired + retired_late l.clock (state_of l.state) (drop l.entry-index l.entries) ≡ retired_late l.clock (state_of l.fn.base)
      l.entries;
  changes : SomeChanges (state_of l.state) (drop l.entry-index l.entries) → SomeChanges (state_of l.fn.base) l.entries;
  none : (l.retired ≡ 0) ⊎ SomeChanges (state_of l.fn.base) l.entries;
}
