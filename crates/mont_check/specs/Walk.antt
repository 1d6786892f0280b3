-- What the first entries of a unit's history lead to and did.
use Rattle.std.specs.Prelude.{ℕ, ◌+◌, ◌-◌, nat_lt, Bool, true, false, List, length, sum_by, count_by, if◌then◌else◌}
use Rattle.mont_base.specs.declared.operation.Entry.{Entry}
use Rattle.mont_base.specs.declared.effect.Effect.{Effect}
use Rattle.mont_base.specs.declared.effect.Effect.TheVariants.{Replaces, Removes}
use Rattle.mont_base.specs.State.{State, step}
use Rattle.mont_base.specs.History.{state_after}
use Rattle.mont_base.specs.Room.{retires, retired_late}
use Rattle.mont_base.specs.Counting.{changes_made, insertions, is_enq, is_insertion}
use Rattle.plain.specs.States.{state_of}
use Rattle.mont_check.specs.declared.walk.Walk.{Walk}

pub record Facts : Type 0 where
  pub state : State
  pub entries : ℕ
  pub waiting : ℕ
  pub inserted : ℕ
  pub changed : ℕ
  pub enqueued : ℕ

-- what is true after these entries, where this durable clock closed slots
abbrev pub facts_after : ℕ → State → List Entry → Facts
facts_after clock base h = record {
  state = state_after base h;
  entries = length h;
  waiting = retired_late clock base h;
  inserted = insertions base h;
  changed = changes_made base h;
  enqueued = count_by (λ (e : Entry). is_enq e.op) h;
}

abbrev pub no_facts : State → Facts
no_facts base = record {
  state = base;
  entries = 0;
  waiting = 0;
  inserted = 0;
  changed = 0;
  enqueued = 0;
}

-- one entry more
abbrev pub more_facts : ℕ → Facts → Entry → Facts
more_facts clock f e = record {
  state = (step f.state e.op).state;
  entries = f.entries + 1;
  waiting =
      f.waiting
      + (if nat_lt clock (e.epoch + 2) then sum_by retires (step f.state e.op).effects else 0);
  inserted = f.inserted + count_by is_insertion (step f.state e.op).effects;
  changed = f.changed + length (step f.state e.op).effects;
  enqueued = f.enqueued + (if is_enq e.op then 1 else 0);
}

-- what is true at a later durable clock, at which so many of the retired slots are closed
abbrev pub closed_later : ℕ → Facts → Facts
closed_later closed f = record {
  state = f.state;
  entries = f.entries;
  waiting = f.waiting - closed;
  inserted = f.inserted;
  changed = f.changed;
  enqueued = f.enqueued;
}

-- what a walk shows, where nothing is closed yet
abbrev pub facts_of : Walk → Facts
facts_of w = record {
  state = state_of w.state;
  entries = w.entries;
  waiting = w.retired;
  inserted = w.inserted;
  changed = w.changed;
  enqueued = w.enqueued;
}

abbrev pub is_replacement : Effect → Bool
is_replacement (Replaces thing) = true
is_replacement _ = false

abbrev pub is_removal : Effect → Bool
is_removal (Removes thing) = true
is_removal _ = false
