-- Every image that a crash permits holds the cut of a sound core.
use Rattle.std.proofs.Common.{◌≡◌, ℕ, ◌+◌, ◌<◌, ◌≤◌, List, take, ◌∙◌, ⊎_elim, arith}
use Rattle.std.specs.Prelude.{slice_get, Some, AllPairs}
use Rattle.std.proofs.lemmas.List.Elements.{All-weaker}
use Rattle.mont_base.specs.declared.operation.Entry.{Entry}
use Rattle.mont_base.specs.Layout.{units_of}
use Rattle.mont_base.specs.Image.{IsPermitted, clock_of, cut_of, records_of, DiffersFrom}
use Rattle.mont_base.specs.History.{state_after, cut_at}
use Rattle.mont_laws.specs.UnitRecords.{ReadsUnit}
use Rattle.mont_laws.proofs.SlotImages.{images_have_parts}
use Rattle.core_steps.specs.declared.parts.Core.{Core}
use Rattle.core_steps.specs.declared.parts.UnitPart.{UnitPart}
use Rattle.core_steps.specs.declared.parts.UnitStage.{UnitStage}
use Rattle.core_steps.specs.declared.parts.UnitStage.TheVariants.{Idle, Told, Within, Closing}
use Rattle.core_steps.specs.Clock.{clock, durable_clock}
use Rattle.core_steps.specs.Stages.{closing_slot}
use Rattle.core_steps.specs.Notes.{histories_of, cuts_of}
use Rattle.core_steps.specs.Sound.{Base, base_state, IsSound}
use Rattle.core_steps.specs.Cuts.{HoldsCutOf, HoldsCut, ImagesHoldCuts, ImagesHoldSynced}
use Rattle.core_steps.proofs.RowFacts.{item_at}
use Rattle.core_steps.proofs.RoleImages.{image_reads}
use Rattle.core_steps.proofs.StoreLaws.{some_slots}
use Rattle.core_steps.proofs.CloseLaws.{lost_apart}
use Rattle.core_steps.proofs.UnitCuts.{unit_cut}
use Rattle.core_steps.proofs.CallerFrames.{history_row}
use Rattle.core_steps.proofs.CallerSyncs.{synced_epochs}

closing_stage : (stage : UnitStage) (slot : ℕ) → closing_slot stage ≡ Some slot → stage ≡ Closing slot
closing_stage Idle slot e = absurd (cc)
closing_stage (Told x) slot e = absurd (cc)
closing_stage (Within x) slot e = absurd (cc)
closing_stage (Closing n) slot e = cc

module _ (base : Base) (c : Core) (image : List ℕ) (s : IsSound base c) (permitted : IsPermitted c.cur c.dur image) where
  -- the clock of the image is the current or the durable one
  pub image_clock : (durable_clock c ≤ clock_of image) × (clock_of image ≤ clock c)
  image_clock =
      let behind = s.clocks.behind in ⊎_elim
      (λ (e : clock_of image ≡ clock c). (omega arith, omega arith))
      (λ (e : clock_of image ≡ durable_clock c). (omega arith, omega arith))
      (images_have_parts c.cur c.dur image permitted).clock

  pub image_begun : 2 ≤ clock_of image
  image_begun = let low = s.clocks.low in let begun = s.clocks.begun in let early = image_clock.0 in omega arith

  -- what the image has of a unit
  pub image_unit : (u : ℕ) (p : UnitPart) → slice_get c.units u ≡ Some p → ReadsUnit c.layout p.records (closing_slot p.stage) image u
  image_unit u p at = image_reads c.layout (clock c) c.cur c.dur c.units u p s.slots at (some_slots c.layout s.sizes.layout)
      s.sizes.unit_count image permitted image_begun image_clock.1

  pub cut_of_unit :
      (u : ℕ) (p : UnitPart) → slice_get c.units u ≡ Some p
      → HoldsCutOf base c image u p × AllPairs DiffersFrom (records_of c.layout image u)
  cut_of_unit u p at = unit_cut c.layout base.clock (clock c) (durable_clock c) u (base_state base u) p image
      (some_slots c.layout s.sizes.layout) (s.units u p at) (λ slot r h l. lost_apart base c u p s at slot r h l)
      (s.clocks.of_units u p at) image_clock.0 (closing_slot p.stage) (λ slot e. closing_stage p.stage slot e) (image_unit u p at)

  unit_there : (u : ℕ) → u < units_of c.layout → (p : UnitPart) × (slice_get c.units u ≡ Some p)
  unit_there u low = item_at c.units u (let count = s.sizes.unit_count in omega arith)

  pub holds_cut : HoldsCut base c image
  holds_cut = record {
    not_before = image_clock.0;
    not_behind = image_clock.1;
    well_formed = record {
      layout = s.sizes.layout;
      size = permitted.as_long ∙ s.sizes.current;
      clock_begun = image_begun;
      clock_last = let late = image_clock.1 in let last = s.clocks.last in omega arith;
      readable = λ u slot low of_unit inside. let there = unit_there u low in (image_unit u there.0 there.1).readable slot of_unit inside;
      apart = λ u low. let there = unit_there u low in (cut_of_unit u there.0 there.1).1;
      defined = λ u low. let there = unit_there u low in
          (state_after (base_state base u) (cut_at (cut_of image) there.0.history), (cut_of_unit u there.0 there.1).0);
    };
    cut = λ u p at. (cut_of_unit u p at).0;
  }

pub images_hold_cuts : ImagesHoldCuts
images_hold_cuts base c image s permitted = holds_cut base c image s permitted

-- what a caller knows to be durable is in the cut
pub images_hold_synced : ImagesHoldSynced
images_hold_synced base c image k u n q p s permitted by synced at =
    let early = (image_clock base c image s permitted).0 in
    All-weaker (λ (e : Entry). e.epoch + 2 ≤ durable_clock c) (λ (e : Entry). e.epoch ≤ cut_of image) (λ e l. omega arith)
    (take n p.history)
    (synced_epochs (histories_of c.units) (cuts_of c.units) (clock c) (durable_clock c) k q (s.callers.each k q by)
    (s.clocks.of_callers k q by) u n p.history synced (history_row c.units u p at))
