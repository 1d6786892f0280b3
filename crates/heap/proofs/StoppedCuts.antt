-- What every image that a crash permits of the words of a heap that was stopped holds.
use Rattle.std.proofs.Common.{◌≡◌, ℕ, ◌≤◌, List, ap, ◌∙◌, subst}
use Rattle.std.specs.Prelude.{slice_get, Some}
use Rattle.std.specs.Option.{option_map}
use Rattle.std.proofs.lemmas.Option.{slice_get-map}
use Rattle.mont_base.specs.declared.memory.Words.{Words}
use Rattle.mont_base.specs.History.{state_after, cut_at}
use Rattle.mont_base.specs.Image.{IsPermitted, IsRecovered, IsWellFormed, clock_of, cut_of, records_of}
use Rattle.mont_base.specs.Layout.{Shape}
use Rattle.mont_base.specs.State.{State}
use Rattle.mont_base.specs.Structure.{IsStructure}
use Rattle.mont_base.specs.Versions.{live_objects}
use Rattle.core_steps.specs.declared.parts.Core.{Core}
use Rattle.core_steps.specs.declared.parts.UnitPart.{UnitPart}
use Rattle.core_steps.specs.declared.parts.CallerPart.{CallerPart}
use Rattle.core_steps.specs.Cuts.{HoldsCut}
use Rattle.core_steps.specs.Opened.{opened_at}
use Rattle.core_steps.specs.Sound.{Base, base_state, IsSound}
use Rattle.core_steps.proofs.CutLaws.{images_hold_cuts, images_hold_synced}
use Rattle.heap_rule.specs.declared.rule.Opening.{Opening}
use Rattle.heap.specs.HeapShown.{UnitShown, AdvShown, CallerShown}
use Rattle.heap.specs.Stops.{StopsAt, HoldsShownCut, StoppedWordsHoldCuts}

module _ (o : Opening) (states : List State) (units : List UnitShown) (advancer : AdvShown) (callers : List CallerShown) (words : Words)
    (image : List ℕ) (base : IsRecovered o.layout o.words states) (stops : StopsAt o units advancer callers words)
    (permitted : IsPermitted words.cur words.dur image) where
  abbrev core : Core
  core = stops.core

  abbrev opened : Base
  opened = opened_at (clock_of o.words) states

  sound : IsSound opened core
  sound = stops.sound states base

  of_core : IsPermitted core.cur core.dur image
  of_core = subst (λ (x : List ℕ × List ℕ). IsPermitted x.0 x.1 image) (λ i. (stops.current i, stops.durable i)) permitted

  holds : HoldsCut opened core image
  holds = images_hold_cuts opened core image sound of_core

  layout : core.layout ≡ o.layout
  layout = stops.layout.1

  unit_there : (u : ℕ) (s : UnitShown) → slice_get units u ≡ Some s → slice_get core.units u ≡ Some s.known.part
  unit_there u s e = ap (λ (ps : List UnitPart). slice_get ps u) stops.parts.units_are
      ∙ (slice_get-map (λ (s : UnitShown). s.known.part) units u ∙ ap (option_map (λ (s : UnitShown). s.known.part)) e)

  caller_there : (k : ℕ) (q : CallerShown) → slice_get callers k ≡ Some q → slice_get core.callers k ≡ Some q.known.part
  caller_there k q e = ap (λ (ps : List CallerPart). slice_get ps k) stops.parts.callers_are
      ∙ (slice_get-map (λ (s : CallerShown). s.known.part) callers k ∙ ap (option_map (λ (s : CallerShown). s.known.part)) e)

  pub holds_shown : HoldsShownCut o states units callers image
  holds_shown = record {
    well_formed = subst (λ (s : Shape). IsWellFormed s image) layout holds.well_formed;
    cut = λ u s e. subst
        (λ (l : Shape). IsStructure l u (live_objects (records_of l image u))
        (state_after (base_state opened u) (cut_at (cut_of image) s.known.part.history))) layout
        (holds.cut u s.known.part (unit_there u s e));
    synced = λ k u n q s by synced at. images_hold_synced opened core image k u n q.known.part s.known.part sound of_core
        (caller_there k q by) synced (unit_there u s at);
  }

  pub clock_between : (advancer.known.durable ≤ clock_of image) × (clock_of image ≤ advancer.known.clock)
  clock_between = (
    subst (λ (x : ℕ). x ≤ clock_of image) stops.told.durable_is holds.not_before,
    subst (λ (x : ℕ). clock_of image ≤ x) stops.told.clock_is holds.not_behind,
  )

pub stopped_words_hold_cuts : StoppedWordsHoldCuts
stopped_words_hold_cuts o states units advancer callers words image base stops permitted =
    let between = clock_between o states units advancer callers words image base stops permitted in
    (holds_shown o states units advancer callers words image base stops permitted, between.0, between.1)
