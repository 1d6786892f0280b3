-- With what a store opens, as far as a report of a job speaks of it.
use Rattle.std.specs.Prelude.{◌≡◌, ◌↔◌, ℕ, List, [], map, replicate}
use Rattle.std.specs.List.{range_with_len}
use Rattle.mont_base.specs.declared.constants.TheConstants.{FIRST_CLOCK}
use Rattle.mont_base.specs.declared.record.Held.{Held}
use Rattle.mont_base.specs.Image.{IsRecovered, clock_of, empty_states, records_of}
use Rattle.mont_base.specs.Layout.{Shape, IsLayout, units_of}
use Rattle.mont_base.specs.State.{State}
use Rattle.core_steps.specs.Fresh.{fresh_words}

-- its clock, what each unit holds, and the records of each unit
pub record Base : Type 0 where
  pub clock : ℕ
  pub states : List State
  pub records : List (List Held)

-- with nothing, where it was never used
abbrev pub nothing : Shape → Base
nothing s = record {
  clock = FIRST_CLOCK;
  states = empty_states s;
  records = replicate (units_of s) [];
}

-- With what recovery finds in an image: the clock, what is rebuilt of each unit, and the records
-- within the cut.
pub record IsBaseIn (s : Shape) (image : List ℕ) (b : Base) : Type 0 where
  pub clock : b.clock ≡ clock_of image
  pub recovered : IsRecovered s image b.states
  pub records : b.records ≡ map (records_of s image) (range_with_len 0 (units_of s))

-- ---- laws
-- an image has one base at most
abbrev pub BasesAreOne : Type 0
BasesAreOne =
    (s : Shape) (image : List ℕ) (a b : Base) → IsBaseIn s image a → IsBaseIn s image b → a ≡ b

-- and that of the words of a store which was never used is nothing
abbrev pub FreshStoresHoldNothing : Type 0
FreshStoresHoldNothing =
    (s : Shape) (b : Base) → IsLayout s → IsBaseIn s (fresh_words s) b ↔ (b ≡ nothing s)
