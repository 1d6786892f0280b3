-- Closing slots beyond the cut keeps the clock and the structures of every image.
use Rattle.std.proofs.Common.{◌≡◌, ℕ, ◌<◌, ◌≤◌, List, [], length, ap, sym, ◌∙◌, subst, arith}
use Rattle.std.specs.Prelude.{slice_get, unwrap_or, Some, Option}
use Rattle.std.proofs.lemmas.List.{length-map}
use Rattle.std.proofs.lemmas.Option.{slice_get_within}
use Rattle.mont_base.specs.declared.memory.Words.{Words}
use Rattle.mont_base.specs.declared.operation.Entry.{Entry}
use Rattle.mont_base.specs.History.{state_after, cut_at}
use Rattle.mont_base.specs.Image.{IsPermitted, IsRecovered, clock_of, cut_of, records_of}
use Rattle.mont_base.specs.Layout.{units_of}
use Rattle.mont_base.specs.State.{State, QueueOf}
use Rattle.mont_base.specs.Structure.{IsStructure}
use Rattle.mont_base.specs.Versions.{live_objects}
use Rattle.plain.proofs.Single.{same_structure}
use Rattle.core_steps.specs.Opened.{opened_at}
use Rattle.core_steps.specs.Sound.{base_state}
use Rattle.core_steps.proofs.RowFacts.{item_at}
use Rattle.heap_rule.specs.declared.rule.Opening.{Opening}
use Rattle.heap.specs.HeapShown.{UnitShown, AdvShown, CallerShown}
use Rattle.heap.specs.Stops.{StopsAt, HoldsShownCut}
use Rattle.heap.proofs.StoppedCuts.{stopped_words_hold_cuts}
use Rattle.store_stop.proofs.Items.{same_items, all_gives}
use Rattle.recover.specs.StoppedWords.{HoldsBase, IsUnused, UnusedStoresKeepBase}

module _ (o : Opening) (base : List State) (units : List UnitShown) (advancer : AdvShown) (callers : List CallerShown) (words : Words)
    (image : List ℕ) (recovered : IsRecovered o.layout o.words base) (unused : IsUnused o units advancer)
    (stops : StopsAt o units advancer callers words) (permitted : IsPermitted words.cur words.dur image) where
  told : HoldsShownCut o base units callers image × (advancer.known.durable ≤ clock_of image) × (clock_of image ≤ advancer.known.clock)
  told = stopped_words_hold_cuts o base units advancer callers words image recovered stops permitted

  clock_is : clock_of image ≡ clock_of o.words
  clock_is =
      let low = told.1 in
      let high = told.2 in
      let now = unused.clock_is in
      let durable = unused.durable_is in
      omega (arith, low, high, now, durable)

  -- there is a seat of each unit
  units_many : length units ≡ length base
  units_many = sym (ap length stops.parts.units_are ∙ length-map units (λ (s : UnitShown). s.known.part))
      ∙ ((stops.sound base recovered).sizes.unit_count ∙ (ap units_of stops.layout.1 ∙ sym recovered.0))

  kept_at : (unit : ℕ) (state : State) → slice_get base unit ≡ Some state
      → IsStructure o.layout unit (live_objects (records_of o.layout image unit)) state
  kept_at unit state e =
      let s = item_at units unit (subst (λ (n : ℕ). unit < n) (sym units_many) (slice_get_within base unit state e)) in
      subst (IsStructure o.layout unit (live_objects (records_of o.layout image unit)))
      (ap (λ (h : List Entry). state_after (base_state (opened_at (clock_of o.words) base) unit) (cut_at (cut_of image) h))
      (all_gives (λ (x : UnitShown). x.known.part.history ≡ []) units unit s.0 unused.unanswered s.1)
      ∙ ap (λ (r : Option State). unwrap_or r (QueueOf [])) e)
      (told.0.cut unit s.0 s.1)

  are_kept : IsRecovered o.layout image base
  are_kept = (recovered.0, kept_at)

  only_base : (of : List ℕ) (states : List State) → IsRecovered o.layout of base → IsRecovered o.layout of states → states ≡ base
  only_base of states are is = same_items states base (is.0 ∙ sym are.0)
      (λ unit a b e f. same_structure o.layout unit (live_objects (records_of o.layout of unit)) a b (is.1 unit a e) (are.1 unit b f))

  holds : HoldsBase o.layout o.words image
  holds = record {
    accepted = told.0.well_formed;
    clock_is = clock_is;
    rebuilt = λ states. (
      λ is. subst (IsRecovered o.layout o.words) (sym (only_base image states are_kept is)) recovered,
      λ is. subst (IsRecovered o.layout image) (sym (only_base o.words states recovered is)) are_kept,
    );
  }

pub unused_stores_keep_base : UnusedStoresKeepBase
unused_stores_keep_base = holds
