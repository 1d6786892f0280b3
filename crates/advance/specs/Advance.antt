-- What an advance makes of the advancer's seat, and what its refusals tell.
use Rattle.std.specs.Prelude.{◌≡◌, ℕ, ◌+◌, ◌/◌, ◌<◌, ◌≤◌, Bool, true, false, length, Err, if◌then◌else◌}
use Rattle.std.specs.declared.result.Result.{Result}
use Rattle.mont_base.specs.declared.constants.TheConstants.{FIRST_CLOCK, LAST}
use Rattle.core_steps.specs.declared.parts.AdvPart.TheVariants.{Rest, Checking}
use Rattle.core_steps.specs.Advancing.{is_clocked, is_odd, lets_pass}
use Rattle.heap_rule.specs.declared.views.AdvKnown.{AdvKnown}
use Rattle.heap_rule.specs.Views.{is_among}
use Rattle.heap.specs.HeapShown.{AdvShown}
use Rattle.advance.specs.declared.advance_refusal.AdvanceRefusal.{AdvanceRefusal}
use Rattle.advance.specs.declared.advance_refusal.AdvanceRefusal.TheVariants.{NotYet, Cut, ClockEnd}
use Rattle.advance.specs.Stage.{IsAtRest}

-- ---- in every case
-- the seat is the same one: it has learnt what it had, and has forgotten no mark
pub record IsSameSeat (old new : AdvShown) : Type 0 where
  pub table : new.table ≡ old.table
  pub units : new.known.units ≡ old.known.units
  pub room : new.known.room ≡ old.known.room
  pub list_count : length new.known.lists ≡ length old.known.lists
  pub learnt : new.known.learnt ≡ old.known.learnt
  pub clean : new.known.clean ≡ old.known.clean
  pub odd : (unit : ℕ) → is_among old.known.odd unit ≡ true → is_among new.known.odd unit ≡ true

-- both clocks stay, in steps before the clock moves
pub record HasChecked (old new : AdvKnown) : Type 0 where
  pub current : new.clock ≡ old.clock
  pub durable : new.durable ≡ old.durable
  pub waits : is_clocked new.part ≡ false
  pub steps : old.steps ≤ new.steps

-- the clock to which the advance under way, or the next one, leads
abbrev pub clock_ahead : AdvKnown → ℕ
clock_ahead a = if is_clocked a.part then a.clock else a.clock + 1

-- ---- an advance at its end
pub record IsAdvanced (old : AdvKnown) (answer : ℕ) (new : AdvKnown) : Type 0 where
  -- it made a step, that of the durable clock at least
  pub steps : old.steps < new.steps
  pub ahead : answer ≡ clock_ahead old
  pub current : new.clock ≡ answer
  pub durable : new.durable ≡ answer
  pub rests : IsAtRest new
  -- above every durable clock, and not below any epoch, that its seat was shown
  pub above : old.learnt.durable < answer
  pub reached : old.learnt.newest ≤ answer

-- ---- an advance that was refused
-- the same advance is still to come to its end
pub record IsUnderWay (old new : AdvKnown) : Type 0 where
  pub durable : new.durable ≡ old.durable
  pub ahead : clock_ahead new ≡ clock_ahead old

-- The announcement that was loaded last, in this call, was this unit's, and below the clock, which
-- is durable.
pub record HasShown (unit epoch : ℕ) (cut : Bool) (old new : AdvKnown) : Type 0 where
  pub loads : old.steps < new.steps
  pub holds : lets_pass new.clock new.loaded ≡ false
  pub epoch_is : epoch ≡ new.loaded / 2
  pub begun : FIRST_CLOCK ≤ epoch
  pub below : epoch < new.clock
  pub below_durable : epoch < new.durable
  pub cut_is : cut ≡ is_odd new.loaded
  pub stays : new.part ≡ Checking unit
  pub marked : cut ≡ true → is_among new.odd unit ≡ true

-- there is no clock after this one
pub record IsAtEnd (a : AdvKnown) : Type 0 where
  pub rests : a.part ≡ Rest
  pub last : a.clock ≡ LAST

-- so nothing was done, and the last clock is durable
pub record HasEnded (old new : AdvKnown) : Type 0 where
  pub ended : IsAtEnd old
  pub durable : new.durable ≡ LAST
  pub same : new ≡ old

abbrev pub HasReason : AdvanceRefusal → AdvKnown → AdvKnown → Type 0
HasReason (NotYet unit epoch cut) old new = HasShown unit epoch cut old new
HasReason Cut old new = Unit {0}
HasReason ClockEnd old new = HasEnded old new

-- the gate cut
abbrev pub was_cut : {T : Type 0} → Result T AdvanceRefusal → Bool
was_cut (Err Cut) = true
was_cut _ = false
