-- What contracts see of a heap and of its seats, and what the fields of a seat have to do with its
-- view.
use Rattle.std.specs.Prelude.{◌≡◌, ℕ, ◌+◌, ◌*◌, ◌<◌, ◌≤◌, true, false, List, [], length}
use Rattle.atomic_table.specs.Seated.{TableId}
use Rattle.mont_base.specs.declared.constants.TheConstants.{FIELDS, LAST, MOST_UNITS}
use Rattle.mont_base.specs.Layout.{Shape}
use Rattle.core_steps.specs.declared.parts.AdvPart.{AdvPart}
use Rattle.core_steps.specs.Stages.{is_within, is_announced, epoch_of}
use Rattle.core_steps.specs.Advancing.{unit_at_hand, is_clocked}
use Rattle.core_steps.specs.Notes.{last_epoch}
use Rattle.heap_rule.specs.declared.rule.Opening.{Opening}
use Rattle.heap_rule.specs.declared.views.UnitKnown.{UnitKnown}
use Rattle.heap_rule.specs.declared.views.AdvKnown.{AdvKnown}
use Rattle.heap_rule.specs.declared.views.CallerKnown.{CallerKnown}
use Rattle.heap_rule.specs.TableWords.{word_count, list_count as lists_of}
use Rattle.heap_rule.specs.Views.{Seated, home_turn, unit_view, advancer_view, caller_view, the_unit, the_advancer, the_caller, unit_out, advancer_out, field_at_hand}

-- which table it is, and how the store opened
pub record HeapShown : Type 0 where
  pub table : TableId
  pub opening : Opening

pub record UnitShown : Type 0 where
  pub table : TableId
  pub known : UnitKnown

pub record AdvShown : Type 0 where
  pub table : TableId
  pub known : AdvKnown

pub record CallerShown : Type 0 where
  pub table : TableId
  pub known : CallerKnown

-- ---- fields and views
pub record IsHeap (table : TableId) (opening : Opening) (layout : Shape) : Type 0 where
  pub layout_is : layout ≡ opening.layout
  pub words : table.words ≡ word_count layout
  pub slots : table.slots ≡ lists_of layout

pub record IsUnit
    (table : TableId) (unit epoch entries newest durable : ℕ) (me : Seated) : Type 0 where
  pub whole : me ≡ (unit_view (the_unit me.0), unit_out (the_unit me.0))
  pub number : unit ≡ (the_unit me.0).unit
  pub epoch_is : epoch ≡ epoch_of (the_unit me.0).part.stage
  pub entries_are : entries ≡ length (the_unit me.0).part.history
  pub newest_is : newest ≡ last_epoch (the_unit me.0).part.history
  pub durable_is : durable ≡ (the_unit me.0).part.durable
  pub rests : is_within (the_unit me.0).part.stage ≡ false → (the_unit me.0).turn ≡ home_turn
  pub slot : 2 * unit + 1 < table.slots
  pub small : unit < MOST_UNITS
  pub last : epoch ≤ LAST
  pub begun : is_announced (the_unit me.0).part.stage ≡ true → 1 ≤ epoch

pub record IsAdvancer
    (table : TableId) (part : AdvPart) (clock durable emptied : ℕ) (me : Seated) : Type 0 where
  pub whole : me ≡ (advancer_view (the_advancer me.0), advancer_out (the_advancer me.0))
  pub part_is : part ≡ (the_advancer me.0).part
  pub clock_is : clock ≡ (the_advancer me.0).clock
  pub durable_is : durable ≡ (the_advancer me.0).durable
  pub emptied_is : emptied ≡ (the_advancer me.0).turn.emptied
  pub below : emptied ≤ (the_advancer me.0).units
  pub list_count : length (the_advancer me.0).lists ≡ (the_advancer me.0).units
  pub place : unit_at_hand part < (the_advancer me.0).units
  pub field : field_at_hand part < FIELDS
  pub slots : table.slots ≡ 2 * (the_advancer me.0).units
  pub few : (the_advancer me.0).units ≤ MOST_UNITS
  pub last : clock ≤ LAST
  -- but between the two steps that move it, the clock is durable
  pub kept : is_clocked part ≡ false → durable ≡ clock

pub record Counts : Type 0 where
  pub calls : ℕ
  pub newest : ℕ
  pub durable : ℕ

pub record IsCaller
    (table : TableId) (number : ℕ) (counts : Counts) (fronts synced : List ℕ) (me : Seated)
    : Type 0 where
  pub whole : me ≡ (caller_view (the_caller me.0), [])
  pub number_is : number ≡ (the_caller me.0).caller
  pub calls_are : counts.calls ≡ (the_caller me.0).part.calls
  pub answered : (the_caller me.0).part.calls ≡ length (the_caller me.0).part.receipts
  pub newest_is : counts.newest ≡ (the_caller me.0).part.newest
  pub durable_is : counts.durable ≡ (the_caller me.0).part.durable
  pub fronts_are : fronts ≡ (the_caller me.0).part.fronts
  pub synced_are : synced ≡ (the_caller me.0).part.synced
  pub as_many : length synced ≡ length fronts
  pub slots : table.slots ≡ 2 * length fronts
