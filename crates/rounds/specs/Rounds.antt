-- Chains of rounds. In each a store is opened, worked on and stopped, and a crash leaves an image;
-- the next one opens with the image's clock and with what recovery rebuilds from it.
use Rattle.std.specs.Prelude.{◌≡◌, ◌↔◌, ℕ, ◌-◌, ◌≤◌, List, [], ◌∷◌, ◌++◌, unwrap_or, slice_get, Some}
use Rattle.mont_base.specs.declared.constants.TheConstants.{FIRST_CLOCK}
use Rattle.mont_base.specs.declared.operation.Entry.{Entry}
use Rattle.mont_base.specs.History.{IsLegal, state_after, cut_at}
use Rattle.mont_base.specs.Image.{IsPermitted, IsRecovered, clock_of, empty_states}
use Rattle.mont_base.specs.Layout.{Shape}
use Rattle.mont_base.specs.State.{State}
use Rattle.plain.specs.declared.contents.Contents.{Contents}
use Rattle.plain.specs.States.{states_of}
use Rattle.heap_rule.specs.declared.rule.Opening.{Opening}
use Rattle.heap.specs.HeapShown.{CallerShown}
use Rattle.store_stop.specs.declared.headline.Stopped.{Stopped}
use Rattle.store_stop.specs.Headline.{AreLegal, IsBaseOf, IsStopped, cut_states}

-- with what a store opened, what was done in it, and the clock of the image that was left of it
pub record Round : Type 0 where
  pub clock : ℕ
  pub base : List State
  pub histories : List (List Entry)
  pub image_clock : ℕ

-- the epoch up to which its operations survive
abbrev pub kept_to : Round → ℕ
kept_to r = r.image_clock - 2

abbrev pub history_in : List (List Entry) → ℕ → List Entry
history_in histories unit = unwrap_or (slice_get histories unit) []

-- the operations of a unit that survive
abbrev pub kept_in : Round → ℕ → List Entry
kept_in r unit = cut_at (kept_to r) (history_in r.histories unit)

-- the states that they lead to, unit by unit
abbrev pub states_left : Round → List State
states_left r = cut_states (kept_to r) r.base r.histories

-- A round that opened with this clock and these states.
pub record IsRoundFrom (s : Shape) (clock : ℕ) (base : List State) (r : Round) : Type 0 where
  pub clock_is : r.clock ≡ clock
  pub base_is : r.base ≡ base
  pub legal : AreLegal s r.clock r.base r.histories
  pub not_before : r.clock ≤ r.image_clock

-- Each round opens with what the one before it left.
abbrev pub AreRoundsFrom : Shape → ℕ → List State → List Round → Type 0
AreRoundsFrom s clock base [] = Unit {0}
AreRoundsFrom s clock base (r ∷ rs) =
    IsRoundFrom s clock base r × AreRoundsFrom s r.image_clock (states_left r) rs

-- and the first one is of a store that was never used
abbrev pub IsChain : Shape → List Round → Type 0
IsChain s rs = AreRoundsFrom s FIRST_CLOCK (empty_states s) rs

-- ---- what a chain comes to
-- the operations of a unit that survive, of one round after those of the other
abbrev pub strung : ℕ → List Round → List Entry
strung unit [] = []
strung unit (r ∷ rs) = kept_in r unit ++ strung unit rs

-- what the last round left: the states of the units, and the clock
abbrev pub states_at_end : List State → List Round → List State
states_at_end base [] = base
states_at_end base (r ∷ rs) = states_at_end (states_left r) rs

abbrev pub clock_at_end : ℕ → List Round → ℕ
clock_at_end clock [] = clock
clock_at_end clock (r ∷ rs) = clock_at_end r.image_clock rs

-- From a unit's empty state the operations that survive are a legal history, which leads to what
-- the last round left of the unit.
pub record IsLegalChain (s : Shape) (rs : List Round) (unit : ℕ) (empty : State) : Type 0 where
  pub legal : IsLegal s unit empty FIRST_CLOCK (strung unit rs)
  pub leads :
      slice_get (states_at_end (empty_states s) rs) unit
      ≡ Some (state_after empty (strung unit rs))

abbrev pub ChainsAreLegal : Type 0
ChainsAreLegal =
    (s : Shape) (rs : List Round) (unit : ℕ) (empty : State) → IsChain s rs
    → slice_get (empty_states s) unit ≡ Some empty → IsLegalChain s rs unit empty

-- ---- how stores make them
-- An image of this clock, from which recovery rebuilds these states and no others.
pub record HoldsOnly (s : Shape) (clock : ℕ) (base : List State) (image : List ℕ) : Type 0 where
  pub clock_is : clock_of image ≡ clock
  pub rebuilt : (states : List State) → IsRecovered s image states ↔ (states ≡ base)

-- the round of a store that was stopped, with the clock of an image of its words
abbrev pub round_of : Stopped → ℕ → Round
round_of t image_clock = record {
  clock = t.base_clock;
  base = states_of t.base;
  histories = t.histories;
  image_clock = image_clock;
}

-- The round opened with the store's clock and states, and the image holds what the round leaves.
pub record IsRoundOfStore
    (s : Shape) (clock : ℕ) (base : List State) (image : List ℕ) (r : Round) : Type 0 where
  pub round : IsRoundFrom s clock base r
  pub left : HoldsOnly s r.image_clock (states_left r) image

abbrev pub StoppedStoresMakeRounds : Type 0
StoppedStoresMakeRounds =
    (s : Shape) (clock : ℕ) (base : Contents) (callers : List CallerShown) (t : Stopped)
    (image : List ℕ)
    → IsStopped s clock base callers t → IsPermitted t.words.cur t.words.dur image
    → IsRoundOfStore s clock (states_of base) image (round_of t (clock_of image))

-- Recovery may close slots of an image that are beyond its cut, all of them or some. What is left
-- of it holds what the image held, and a store that opens with it opens as with the image itself.
abbrev pub SweptImagesOpenTheSame : Type 0
SweptImagesOpenTheSame =
    (o : Opening) (clock later : ℕ) (base states : List State)
    → HoldsOnly o.layout clock base o.words → IsBaseOf o later states
    → (later ≡ clock) × (states ≡ base)

-- A round that opens with what a chain left goes on with the chain, which then leaves what that
-- round left.
pub record GoesOnWith (s : Shape) (rs : List Round) (r : Round) : Type 0 where
  pub chain : IsChain s (rs ++ r ∷ [])
  pub states : states_at_end (empty_states s) (rs ++ r ∷ []) ≡ states_left r
  pub clock : clock_at_end FIRST_CLOCK (rs ++ r ∷ []) ≡ r.image_clock

abbrev pub RoundsGoOn : Type 0
RoundsGoOn =
    (s : Shape) (rs : List Round) (r : Round) → IsChain s rs
    → IsRoundFrom s (clock_at_end FIRST_CLOCK rs) (states_at_end (empty_states s) rs) r
    → GoesOnWith s rs r
