-- What the core of a heap that was stopped tells of its store.
use Rattle.std.proofs.Common.{◌≡◌, ℕ, zero, suc, ◌+◌, ◌<◌, ◌≤◌, List, [], ◌∷◌, length, map, take, ap, sym, ◌∙◌, subst, refl, arith}
use Rattle.std.specs.Prelude.{slice_get, unwrap_or, Some, None, All, Option}
use Rattle.std.proofs.lemmas.List.{length-map}
use Rattle.std.proofs.lemmas.List.Elements.{All-weaker}
use Rattle.std.proofs.lemmas.Option.{same_Some}
use Rattle.mont_base.specs.declared.constants.TheConstants.{LAST}
use Rattle.mont_base.specs.declared.memory.Words.{Words}
use Rattle.mont_base.specs.declared.operation.Entry.{Entry}
use Rattle.mont_base.specs.declared.operation.Receipt.{Receipt}
use Rattle.mont_base.specs.History.{IsLegal, state_after, cut_at}
use Rattle.mont_base.specs.Image.{IsPermitted, IsWellFormed, clock_of, cut_of, records_of}
use Rattle.mont_base.specs.Layout.{Shape, units_of, words_of}
use Rattle.mont_base.specs.Seen.{IsCallersOrder, IsEntryAt}
use Rattle.mont_base.specs.State.{State, QueueOf}
use Rattle.mont_base.specs.Structure.{IsStructure}
use Rattle.mont_base.specs.Versions.{live_objects}
use Rattle.plain.specs.declared.contents.Contents.{Contents}
use Rattle.plain.specs.States.{states_of}
use Rattle.core_steps.specs.declared.parts.Core.{Core}
use Rattle.core_steps.specs.declared.parts.UnitPart.{UnitPart}
use Rattle.core_steps.specs.declared.parts.CallerPart.{CallerPart}
use Rattle.core_steps.specs.declared.parts.UnitStage.{UnitStage}
use Rattle.core_steps.specs.declared.parts.UnitStage.TheVariants.{Idle, Told, Within, Closing}
use Rattle.core_steps.specs.declared.parts.Mark.{Mark}
use Rattle.core_steps.specs.CallerClauses.{receipts_of, view_of, HasReceipt}
use Rattle.core_steps.specs.Clock.{clock, durable_clock}
use Rattle.core_steps.specs.Cuts.{HoldsCut}
use Rattle.core_steps.specs.Notes.{left_within, histories_of, cuts_of, IsTrueMark}
use Rattle.core_steps.specs.Opened.{opened_at}
use Rattle.core_steps.specs.Places.{RowHas}
use Rattle.core_steps.specs.Sound.{Base, base_state, StageFits, IsSound}
use Rattle.core_steps.specs.Stages.{limit_of, passed_of}
use Rattle.core_steps.proofs.CallerReceipts.{callers_order}
use Rattle.core_steps.proofs.CutLaws.{images_hold_cuts, images_hold_synced}
use Rattle.core_steps.proofs.NoteLaws.{limit_reached}
use Rattle.core_steps.proofs.RowFacts.{all_at, row_of_map, row_in_map, row_gives, item_at, same_item}
use Rattle.core_steps.proofs.UnitFrames.{reached_later}
use Rattle.heap_rule.specs.declared.rule.Opening.{Opening}
use Rattle.heap_rule.specs.declared.views.LeftWithin.{LeftWithin}
use Rattle.heap_rule.specs.Rule.{IsLeft, AreLeft, seen_in}
use Rattle.heap.specs.HeapShown.{UnitShown, AdvShown, CallerShown}
use Rattle.heap.specs.Stops.{StopsAt}
use Rattle.store_stop.specs.Headline.{IsBaseOf, AreLegal, HasSeen, AreClocks, AreEpochsReached, IsHeldBack, AreAllWords, IsCutAsMarked, IsSyncedIn, HoldsHistories, IsStopped, parts_shown}
use Rattle.store_stop.specs.ToldHistories.{HoldsEntryOf, HasReceiptAt, TellAll}
use Rattle.store_stop.proofs.CutStates.{rebuilds}
use Rattle.store_stop.proofs.Items.{all_gives}

-- ---- what a caller has seen
seen_at : (fronts : List ℕ) (histories : List (List Entry)) (unit front : ℕ) (h : List Entry) → slice_get fronts unit ≡ Some front
    → slice_get histories unit ≡ Some h → slice_get (seen_in fronts histories) unit ≡ Some (take front h)
seen_at [] histories unit front h e f = absurd (cc)
seen_at (n ∷ ns) [] unit front h e f = absurd (cc)
seen_at (n ∷ ns) (g ∷ gs) zero front h e f = λ i. Some (take (same_Some n front e i) (same_Some g h f i))
seen_at (n ∷ ns) (g ∷ gs) (suc unit) front h e f = seen_at ns gs unit front h e f

seen_count : (fronts : List ℕ) (histories : List (List Entry)) → length fronts ≡ length histories
    → length (seen_in fronts histories) ≡ length histories
seen_count [] histories e = e
seen_count (n ∷ ns) [] e = absurd (omega arith)
seen_count (n ∷ ns) (g ∷ gs) e = ap suc (seen_count ns gs (omega arith))

-- ---- a unit that is left within an epoch is within it
left_stage : (frozen : Option ℕ) (stage : UnitStage) (epoch : ℕ) → left_within frozen stage ≡ Some epoch → stage ≡ Within epoch
left_stage None stage epoch is = absurd (cc)
left_stage (Some k) Idle epoch is = absurd (cc)
left_stage (Some k) (Told x) epoch is = absurd (cc)
left_stage (Some k) (Within x) epoch is = ap Within (same_Some x epoch is)
left_stage (Some k) (Closing slot) epoch is = absurd (cc)

module _ (o : Opening) (units : List UnitShown) (advancer : AdvShown) (callers : List CallerShown) (words : Words)
    (stops : StopsAt o units advancer callers words) (base_clock : ℕ) (contents : Contents)
    (base : IsBaseOf o base_clock (states_of contents)) where
  abbrev states : List State
  states = states_of contents

  abbrev core : Core
  core = stops.core

  abbrev opened : Base
  opened = opened_at (clock_of o.words) states

  -- the histories that the units' seats showed
  abbrev pub histories : List (List Entry)
  histories = histories_of stops.core.units

  sound : IsSound opened core
  sound = stops.sound states base.recovered

  parts_are : core.callers ≡ parts_shown callers
  parts_are = stops.parts.callers_are

  -- ---- histories
  pub unit_count : length histories ≡ units_of o.layout
  unit_count = length-map core.units (λ (p : UnitPart). p.history) ∙ (sound.sizes.unit_count ∙ ap units_of stops.layout.1)

  base_at : (unit : ℕ) (state : State) → slice_get states unit ≡ Some state → base_state opened unit ≡ state
  base_at unit state e = ap (λ (r : Option State). unwrap_or r (QueueOf [])) e

  legal_at : (unit : ℕ) (state : State) (h : List Entry) → slice_get states unit ≡ Some state → slice_get histories unit ≡ Some h
      → IsLegal o.layout unit state base_clock h
  legal_at unit state h e f =
      let p = row_of_map (λ (p : UnitPart). p.history) core.units unit h f in
      subst (λ (x : Shape × State × ℕ × List Entry). IsLegal x.0 unit x.1 x.2 x.3)
      (λ i. (stops.layout.1 i, base_at unit state e i, sym base.clock_is i, p.2 i)) (sound.units unit p.0 p.1).legal

  pub legal : AreLegal o.layout base_clock states histories
  legal = record { based = base.recovered.0; units = unit_count; each = legal_at }

  -- no unit has an entry of a later epoch than the clock's
  reached_at : (unit : ℕ) (h : List Entry) → slice_get histories unit ≡ Some h
      → All (λ (e : Entry). e.epoch ≤ clock_of words.cur) h
  reached_at unit h at =
      let p = row_of_map (λ (p : UnitPart). p.history) core.units unit h at in
      let limit = limit_reached opened.clock (clock core) (unit < passed_of (length core.units) core.advancer) p.0.stage
      (sound.registration unit p.0 p.1) in
      let fits = (sound.units unit p.0 p.1).reached in
      let reached = (reached_later (limit_of (clock core) p.0.stage) (clock core) p.0.records p.0.history limit fits).of_entries in
      subst (λ (x : List Entry × List ℕ). All (λ (e : Entry). e.epoch ≤ clock_of x.1) x.0) (λ i. (p.2 i, sym stops.current i)) reached

  pub reached : AreEpochsReached (clock_of words.cur) histories
  reached = all_at (λ (h : List Entry). All (λ (e : Entry). e.epoch ≤ clock_of words.cur) h) histories reached_at

  -- ---- callers
  pub order : IsCallersOrder histories (map receipts_of (parts_shown callers)) (map view_of (parts_shown callers))
  order = subst (λ (qs : List CallerPart). IsCallersOrder histories (map receipts_of qs) (map view_of qs)) parts_are
      (callers_order histories (cuts_of core.units) _ core.callers core.odd sound.callers)

  -- their receipts tell the histories
  entry_at : (unit place : ℕ) (h : List Entry) (r : Receipt) → slice_get histories unit ≡ Some h → r.unit ≡ unit
      → IsEntryAt histories r.unit r.place r.entry → slice_get h r.place ≡ Some r.entry
  entry_at unit place h r at is there =
      subst (λ (g : List Entry). slice_get g r.place ≡ Some r.entry)
      (same_item histories unit there.0 h (subst (λ (n : ℕ). slice_get histories n ≡ Some there.0) is there.1) at) there.2

  receipt_at : (unit place : ℕ) (h : List Entry) → slice_get histories unit ≡ Some h → place < length h
      → HasReceiptAt (map receipts_of (parts_shown callers)) unit place
  receipt_at unit place h at inside =
      let e = item_at h place inside in
      let q = row_gives (λ (q : CallerPart). RowHas (slice_get q.receipts e.0.call) (HasReceipt unit place e.0))
      (slice_get core.callers e.0.caller) (sound.callers.named unit place e.0 (h, at, e.1)) in
      let r = row_gives (HasReceipt unit place e.0) (slice_get q.0.receipts e.0.call) q.2 in
      record {
        caller = e.0.caller;
        call = e.0.call;
        of_caller = q.0.receipts;
        receipt = r.0;
        there = row_in_map receipts_of (parts_shown callers) e.0.caller q.0
            (ap (λ (qs : List CallerPart). slice_get qs e.0.caller) (sym parts_are) ∙ q.1);
        kept = r.1;
        of_unit = r.2.of_unit;
        at_place = r.2.at_place;
      }

  pub tell_all : TellAll (map receipts_of (parts_shown callers)) histories
  tell_all unit h at = record {
    stand = all_at (All (HoldsEntryOf unit h)) (map receipts_of (parts_shown callers))
        (λ k rs of_caller. all_at (HoldsEntryOf unit h) rs
        (λ n r kept is. entry_at unit r.place h r at is (order.receipt k n rs r of_caller kept).there));
    whole = λ place inside. receipt_at unit place h at inside;
  }

  part_at : (k : ℕ) (s : CallerShown) → slice_get callers k ≡ Some s → slice_get core.callers k ≡ Some s.known.part
  part_at k s e = ap (λ (ps : List CallerPart). slice_get ps k) parts_are ∙ row_in_map (λ (q : CallerShown). q.known.part) callers k s e

  seen_by : (k : ℕ) (s : CallerShown) → slice_get callers k ≡ Some s → HasSeen histories s.known
  seen_by k s e =
      let fits = (sound.callers.each k s.known.part (part_at k s e)).seen in
      let is = all_gives (λ (q : CallerShown). q.known.entries ≡ seen_in q.known.part.fronts histories) callers k s stops.told.seen e in
      record {
        units = ap length is ∙ seen_count s.known.part.fronts histories fits.units;
        each = λ unit front h f g. ap (λ (es : List (List Entry)). slice_get es unit) is
            ∙ seen_at s.known.part.fronts histories unit front h f g;
      }

  pub seen : All (λ (s : CallerShown). HasSeen histories s.known) callers
  seen = all_at (λ (s : CallerShown). HasSeen histories s.known) callers seen_by

  pub clocks : AreClocks base_clock (parts_shown callers) (clock_of words.cur) (clock_of words.dur)
  clocks = record {
    begun = subst (λ (x : ℕ × List ℕ). x.0 ≤ clock_of x.1) (λ i. (sym base.clock_is i, sym stops.durable i)) sound.clocks.begun;
    learnt = subst (λ (x : List CallerPart × List ℕ). All (λ (q : CallerPart). q.durable ≤ clock_of x.1) x.0)
        (λ i. (parts_are i, sym stops.durable i))
        (all_at (λ (q : CallerPart). q.durable ≤ durable_clock core) core.callers sound.clocks.of_callers);
    behind = subst (λ (x : List ℕ × List ℕ). clock_of x.0 ≤ clock_of x.1) (λ i. (sym stops.durable i, sym stops.current i))
        sound.clocks.behind;
    last = subst (λ (ws : List ℕ). clock_of ws ≤ LAST) (sym stops.current) sound.clocks.last;
  }

  -- a mark is of a caller that was cut
  cut_as_marked : (m : Mark) → IsTrueMark (cuts_of core.units) m → IsCutAsMarked core.callers m
  cut_as_marked m is = record { by = is.by; named = is.named; cut = sound.callers.cut m.unit is.by is.cut }

  pub marks : All (λ (q : CallerPart). All (IsCutAsMarked (parts_shown callers)) q.marks) (parts_shown callers)
  marks = subst (λ (qs : List CallerPart). All (λ (q : CallerPart). All (IsCutAsMarked qs) q.marks) qs) parts_are
      (all_at (λ (q : CallerPart). All (IsCutAsMarked core.callers) q.marks) core.callers
      (λ k q e. All-weaker (IsTrueMark (cuts_of core.units)) (IsCutAsMarked core.callers) cut_as_marked q.marks
      (sound.callers.each k q e).marks))

  -- ---- units that were left halted
  -- by where the clock may stand while a unit is within an epoch
  held_at : (w : LeftWithin) → IsLeft core.units w → IsHeldBack (clock_of words.cur) w
  held_at w is =
      let p = row_of_map (λ (p : UnitPart). left_within p.frozen p.stage) core.units w.unit (Some w.epoch) is in
      let registered = subst (StageFits opened.clock (clock core) (w.unit < passed_of (length core.units) core.advancer))
      (left_stage p.0.frozen p.0.stage w.epoch p.2) (sound.registration w.unit p.0 p.1) in
      subst (λ (ws : List ℕ). clock_of ws ≤ w.epoch + 1) (sym stops.current) registered.near

  pub held_back : All (λ (q : CallerShown). All (IsHeldBack (clock_of words.cur)) q.known.within) callers
  held_back = All-weaker (λ (q : CallerShown). AreLeft core.units q.known.within)
      (λ (q : CallerShown). All (IsHeldBack (clock_of words.cur)) q.known.within)
      (λ q left. All-weaker (IsLeft core.units) (IsHeldBack (clock_of words.cur)) held_at q.known.within left) callers stops.told.left

  -- ---- words
  pub all_words : AreAllWords o.layout words
  all_words = record {
    current = ap length stops.current ∙ (sound.sizes.current ∙ ap words_of stops.layout.1);
    durable = ap length stops.durable ∙ (sound.sizes.durable ∙ ap words_of stops.layout.1);
  }

  -- ---- images
  module _ (image : List ℕ) (permitted : IsPermitted words.cur words.dur image) where
    of_core : IsPermitted core.cur core.dur image
    of_core = subst (λ (x : List ℕ × List ℕ). IsPermitted x.0 x.1 image) (λ i. (stops.current i, stops.durable i)) permitted

    holds : HoldsCut opened core image
    holds = images_hold_cuts opened core image sound of_core

    structure_at : (unit : ℕ) (state : State) (h : List Entry) → slice_get states unit ≡ Some state
        → slice_get histories unit ≡ Some h
        → IsStructure o.layout unit (live_objects (records_of o.layout image unit)) (state_after state (cut_at (cut_of image) h))
    structure_at unit state h e f =
        let p = row_of_map (λ (p : UnitPart). p.history) core.units unit h f in
        subst (λ (x : Shape × State × List Entry).
        IsStructure x.0 unit (live_objects (records_of x.0 image unit)) (state_after x.1 (cut_at (cut_of image) x.2)))
        (λ i. (stops.layout.1 i, base_at unit state e i, p.2 i)) (holds.cut unit p.0 p.1)

    synced_at : (k : ℕ) (q : CallerPart) → slice_get core.callers k ≡ Some q → IsSyncedIn histories (cut_of image) q
    synced_at k q by unit front h e f =
        let p = row_of_map (λ (p : UnitPart). p.history) core.units unit h f in
        subst (λ (g : List Entry). All (λ (d : Entry). d.epoch ≤ cut_of image) (take front g)) p.2
        (images_hold_synced opened core image k unit front q p.0 sound of_core by e p.1)

    pub holds_histories : HoldsHistories o.layout states histories (parts_shown callers) words image
    holds_histories = record {
      accepted = subst (λ (s : Shape). IsWellFormed s image) stops.layout.1 holds.well_formed;
      rebuilt = rebuilds o.layout image states histories base.recovered.0 unit_count structure_at;
      synced = subst (All (IsSyncedIn histories (cut_of image))) parts_are
          (all_at (IsSyncedIn histories (cut_of image)) core.callers synced_at);
      not_before = subst (λ (ws : List ℕ). clock_of ws ≤ clock_of image) (sym stops.durable) holds.not_before;
      not_behind = subst (λ (ws : List ℕ). clock_of image ≤ clock_of ws) (sym stops.current) holds.not_behind;
    }

  -- ---- so the store is stopped as its headline says, with the histories that the seats showed
  pub stopped_with : IsStopped o.layout base_clock contents callers
      (record { words = words; base_clock = base_clock; base = contents; histories = histories })
  stopped_with = record {
    layout = stops.layout.0;
    words = all_words;
    base_clock = refl;
    base_is = refl;
    legal = legal;
    order = order;
    seen = seen;
    clocks = clocks;
    reached = reached;
    held_back = held_back;
    marks = marks;
    images = holds_histories;
  }

  -- and with those that the receipts of all callers tell
  pub is_stopped : (count : ℕ) (receipts : List (List Receipt)) (told : List (List Entry)) → count ≡ units_of o.layout
      → receipts ≡ map receipts_of (parts_shown callers)
      → ((hs : List (List Entry)) → length hs ≡ count → TellAll receipts hs → told ≡ hs)
      → IsStopped o.layout base_clock contents callers
      (record { words = words; base_clock = base_clock; base = contents; histories = told })
  is_stopped count receipts told many given tells =
      let is : told ≡ histories = tells histories (unit_count ∙ sym many)
      (subst (λ (rows : List (List Receipt)). TellAll rows histories) (sym given) tell_all) in
      subst (λ (hs : List (List Entry)). IsStopped o.layout base_clock contents callers
      (record { words = words; base_clock = base_clock; base = contents; histories = hs })) (sym is) stopped_with
