-- What a caller has of a shift, from what the shift found and left of its two units.
use Rattle.std.proofs.Common.{◌≡◌, ◌≢◌, ℕ, ◌+◌, ◌<◌, ◌≤◌, ◌⊎◌, inl, inr, Bool, true, false, List, [], ◌∷◌, length, refl, sym, ap, ◌∙◌, subst, arith}
use Rattle.std.specs.Prelude.{nat_lt, slice_get, Option, Some, None, Err, if◌then◌else◌}
use Rattle.std.specs.FinMap as finite
use Rattle.std.specs.List.{AllZip}
use Rattle.std.proofs.lemmas.Bool.Decides.{nat_tests}
use Rattle.std.proofs.lemmas.Option.{same_Some}
use Rattle.std.proofs.lemmas.Slice.Zip.{AllZip-long}
use Rattle.mont_base.specs.declared.constants.TheConstants.{LAST}
use Rattle.mont_base.specs.declared.kinds.UnitKind.{UnitKind}
use Rattle.mont_base.specs.declared.kinds.UnitKind.TheVariants as kinds
use Rattle.mont_base.specs.declared.operation.Op.{Op}
use Rattle.mont_base.specs.declared.operation.Op.TheVariants as ops
use Rattle.mont_base.specs.declared.operation.Receipt.{Receipt}
use Rattle.mont_base.specs.declared.operation.Reply.{Reply}
use Rattle.mont_base.specs.declared.record.Change.{Change}
use Rattle.mont_base.specs.declared.refusal.Which.{Which}
use Rattle.mont_base.specs.declared.refusal.Which.TheVariants as ends
use Rattle.mont_base.specs.Counting.{IsAtEnd, records_in}
use Rattle.mont_base.specs.History.{state_after}
use Rattle.mont_base.specs.Image.{clock_of, IsRecovered}
use Rattle.mont_base.specs.Layout.{Shape, kind_of}
use Rattle.mont_base.specs.Room.{room_of}
use Rattle.mont_base.specs.State.{Key, Pairs, State, Value, MapOf, QueueOf, GraphOf, earlier_text, is_kind_of, step}
use Rattle.mont_laws.specs.Structures.{HasPairs, HasStructure}
use Rattle.mont_laws.proofs.Shown.{one_state}
use Rattle.core_steps.specs.Opened.{opened_at}
use Rattle.core_steps.specs.Sound.{base_state}
use Rattle.core_steps.specs.declared.parts.CallerPart.{CallerPart}
use Rattle.core_steps.specs.declared.parts.Mark.{Mark}
use Rattle.heap.specs.HeapShown.{HeapShown, CallerShown}
use Rattle.op_guard.specs.Guarding.{IsFull}
use Rattle.op_guard.specs.Regions.{WasHalted}
use Rattle.slots.specs.Books.{RegionShown}
use Rattle.structure_call.specs.CountedNumbers.{HasCounted}
use Rattle.structure_call.specs.Planning.{IsPlan, Makes, first_at_end}
use Rattle.structure_call.specs.Standing.{IsStanding, ShowsHistory}
use Rattle.structure_call.proofs.Counted.{at_end, numbers_end}
use Rattle.structure_call.proofs.SoundHistories.{sound_shows, shows_before}
use Rattle.caller.specs.Continued.{opened_records}
use Rattle.caller.specs.Telling.{has_mark}
use Rattle.shard_map.specs.declared.shift_refusal.ShiftRefusal.{ShiftRefusal}
use Rattle.shard_map.specs.declared.shift_refusal.ShiftRefusal.TheVariants.{SameUnit, Halted, Missing, Short, Over, CountEnd, Memory, Full, Cut}
use Rattle.shard_map.specs.MapPlan.{HasValue}
use Rattle.shard_map.specs.MapShift.{ArePlanned, EndsPair, HasShifted, IsLowerHalf, IsMarked, LacksAmount, LeavesShift, MayBeShifted, WasAnsweredAlone, WereNoted, end_of, end_of_pair, first_of, was_checked}
use Rattle.shard_map.specs.MovedNumbers.{of_high, of_low}
use Rattle.shard_map.specs.PairCarrying.{IsHighFull, IsLowFull}
use Rattle.xfer.specs.Pairs.{WereHalted}
use Rattle.store.specs.Shifting.{AreMove, AreOfTwoUnits, ContinuesByShift, ContinuesTwice, HasLearntLack, HasLearntMove, HasLearntValue, IsLeftAlone, NeedsPairNumber, TellsBetween, WereLeft, WouldReply, goes_up}
use Rattle.store.specs.StoreShown.{StoreShown, store_on}
use Rattle.store.specs.StoreCalls.{FoundFull, KeepsCaller, NeedsNumber, WasLeft}
use Rattle.store.specs.UnitAt.{IsSeated}
use Rattle.store.proofs.CallsShown.{continues_caller, keeps_caller, marked, same_unit}
use Rattle.store.proofs.NumbersAtEnd.{number_at_end}
use Rattle.store.proofs.ShiftNotes.{first_seen, keeps_both, none_learnt}

-- ---- a map unit behind its lock
pub record IsUnitAt (heap : HeapShown) (x : RegionShown) : Type 0 where
  pub seated : IsSeated x
  pub stands : IsStanding heap x
  pub counted : HasCounted heap x
  pub map : kind_of heap.opening.layout x.books.unit ≡ Some kinds.Map

-- ---- a unit of which the caller has seen all entries
-- its records show the state to which these lead
record IsSeenIn (heap : HeapShown) (x : RegionShown) (r : CallerShown) : Type 0 where
  pub showed : ShowsHistory heap x
  pub kept : slice_get r.known.entries x.books.unit ≡ Some x.seat.known.part.history

-- a look-up of a map finds the value that the key has in the map that the records show
finds : (s : Shape) (x : RegionShown) (state : State) (key : Key) (value : Option Value) → kind_of s x.books.unit ≡ Some kinds.Map
    → HasStructure s x.books.unit x.seat.known.part.records state
    → ((pairs : Pairs) → HasPairs s x.books.unit x.seat.known.part.records pairs → finite.get pairs key ≡ value)
    → earlier_text value ≡ (step state (ops.Get key)).reply
finds s x (MapOf pairs) key value kind shown has = ap earlier_text (sym (has pairs shown.things))
finds s x (QueueOf items) key value kind shown has =
    let e = ap (λ (k : Option UnitKind). is_kind_of k (QueueOf items)) (sym kind) ∙ shown.of_unit in absurd (cc)
finds s x (GraphOf graph) key value kind shown has =
    let e = ap (λ (k : Option UnitKind). is_kind_of k (GraphOf graph)) (sym kind) ∙ shown.of_unit in absurd (cc)

module _ (heap : HeapShown) (base : List State) (recovered : IsRecovered heap.opening.layout heap.opening.words base) (x : RegionShown)
    (r : CallerShown) (stood : IsStanding heap x) (seen : IsSeenIn heap x r) where
  abbrev led : State
  led = state_after (base_state (opened_at (clock_of heap.opening.words) base) x.books.unit) x.seat.known.part.history

  learnt_value : (key : Key) (value : Option Value) → kind_of heap.opening.layout x.books.unit ≡ Some kinds.Map → HasValue x key value
      → HasLearntValue (store_on heap base) x.books.unit r key value
  learnt_value key value kind has = record {
    history = x.seat.known.part.history;
    kept = seen.kept;
    cause =
        finds heap.opening.layout x led key value kind (seen.showed base recovered)
        (λ pairs pairs_are. has pairs (subst (λ (s : Shape). HasPairs s x.books.unit x.seat.known.part.records pairs)
        (sym stood.of_heap.layout) pairs_are));
  }

  module _ (op : Op) (reply : Reply) (change : Change) (planned : IsPlan x op reply (change ∷ [])) where
    planned_on : planned.state ≡ led
    planned_on =
        one_state heap.opening.layout x.books.unit x.seat.known.part.records planned.state led
        (subst (λ (s : Shape). HasStructure s x.books.unit x.seat.known.part.records planned.state) stood.of_heap.layout planned.shown)
        (seen.showed base recovered)

    would_reply : WouldReply (store_on heap base) x.books.unit r op reply
    would_reply = record {
      history = x.seat.known.part.history;
      kept = seen.kept;
      cause = planned.replies ∙ ap (λ (s : State). (step s op).reply) planned_on;
    }

    one_change : length (step led op).effects ≡ 1
    one_change =
        sym (AllZip-long (Makes x.books x.seat.known.part.records) (step led op).effects (change ∷ [])
        (subst (λ (s : State). AllZip (Makes x.books x.seat.known.part.records) (step s op).effects (change ∷ []))
        planned_on planned.makes))

-- ---- a unit that was full
module _ (heap : HeapShown) (base : List State) (recovered : IsRecovered heap.opening.layout heap.opening.words base) (x now : RegionShown)
    (q m : CallerShown) (free clock : ℕ) (full : IsFull heap x now q m 1 free clock) where
  showed_full : ShowsHistory heap x
  showed_full =
      shows_before heap x now full.keeps.of_unit full.keeps.history (λ identity. full.keeps.live identity)
      (sound_shows heap now full.ready.runs.agrees.0 full.sound)

  room_full : room_of heap.opening.layout.slots (base_state (opened_at (clock_of heap.opening.words) base) x.books.unit)
      x.seat.known.part.history clock ≡ free
  room_full =
      (λ i. room_of heap.opening.layout.slots
      (base_state (opened_at (clock_of heap.opening.words) base) (sym full.keeps.of_unit i)) (sym full.keeps.history i) clock)
      ∙ (sym (full.room base recovered) ∙ sym full.free_is)

  found_full : (r : CallerShown) (op : Op) (reply : Reply) (change : Change) → IsStanding heap x → IsSeenIn heap x r
      → IsPlan x op reply (change ∷ []) → KeepsCaller q r
      → m.known.part.durable ≤ r.known.part.durable
      → FoundFull (store_on heap base) x.books.unit q r op 1 free clock
  found_full r op reply change stood seen planned keeps later = record {
    keeps = keeps;
    few = full.fewer;
    needs = record {
      history = x.seat.known.part.history;
      kept = seen.kept;
      cause = record {
        as_needed = one_change heap base recovered x r stood seen op reply change planned;
        as_free = room_full;
        few = full.fewer;
      };
    };
    begun = full.begun;
    known = full.known;
    learnt =
        let now_known = ap (λ (c : CallerShown). c.known.part.durable) full.noted in
        let loaded = full.reclaimed.clock_is in
        omega (arith, now_known, loaded, later);
  }

-- ---- the amount that was planned to go
as_move : (up : Bool) (low high : RegionShown) (from to : Key) (amount : ℕ) (one other : _)
    → ArePlanned up low high from to amount one other → AreMove up from to amount (one.op, other.op) (one.reply, other.reply)
as_move true low high from to amount one other planned = planned.move
as_move false low high from to amount one other planned = planned.move

-- the lower one of two numbers that is at its end
first_is : (a b : Option Which) (which : Which) → first_of a b ≡ Some which → (a ≡ Some which) ⊎ (b ≡ Some which)
first_is None b which e = inr e
first_is (Some w) b which e = inl e

-- for two calls there are numbers, so what is at its end is the unit's
at_first : (p : CallerPart) (x : RegionShown) (change : Change) (which : Which) → p.calls + 1 ≤ LAST → end_of x change ≡ Some which
    → first_at_end p x (change ∷ []) ≡ Some which
at_first p x change which two e = by (nat_lt LAST p.calls) refl
  where
    by : (t : Bool) → nat_lt LAST p.calls ≡ t → (if t then Some ends.Call else end_of x change) ≡ Some which
    by true is = absurd (grind (arith, nat_tests))
    by false is = e

-- ---- two units of which the caller has seen all entries
module _ (heap : HeapShown) (base : List State) (recovered : IsRecovered heap.opening.layout heap.opening.words base) (up : Bool)
    (low high : RegionShown) (r : CallerShown) (from to : Key) (amount : ℕ)
    (low_stood : IsStanding heap low) (high_stood : IsStanding heap high) (low_seen : IsSeenIn heap low r)
    (high_seen : IsSeenIn heap high r) (one other : _) (planned : ArePlanned up low high from to amount one other) where
  learnt_move : HasLearntMove (store_on heap base) up low.books.unit high.books.unit r from to amount (one.op, other.op)
  learnt_move = record {
    replies = (one.reply, other.reply);
    lower = would_reply heap base recovered low r low_stood low_seen one.op one.reply one.change planned.lower;
    higher = would_reply heap base recovered high r high_stood high_seen other.op other.reply other.change planned.higher;
    move = as_move up low high from to amount one other planned;
  }

-- ---- a unit in which the caller was cut
was_left : (heap : HeapShown) (x now : RegionShown) (q r : CallerShown) → WasHalted heap x now q r → WasLeft x.books.unit q r
was_left heap x now q r halted =
    record { shown = now.seat.known; of_unit = sym halted.agrees.0 ∙ halted.of_unit; caller = halted.caller }

were_left : (heap : HeapShown) (one one_now other other_now : RegionShown) (q r : CallerShown)
    → WereHalted heap one one_now other other_now q r → WereLeft one.books.unit other.books.unit q r
were_left heap one one_now other other_now q r k = record {
  between = k.between;
  first = was_left heap one one_now q k.between k.first;
  second = was_left heap other other_now k.between r k.second;
}

-- ---- a shift, or a try of one
module _ (heap : HeapShown) (base : List State) (recovered : IsRecovered heap.opening.layout heap.opening.words base) (up : Bool)
    (low low_now high high_now : RegionShown) (q r : CallerShown) (from to : Key) (amount : ℕ)
    (order : low.books.unit < high.books.unit) (low_stands : IsUnitAt heap low) (high_stands : IsUnitAt heap high) where
  abbrev store : StoreShown
  store = store_on heap base

  abbrev TellsHere : ShiftRefusal → Type 0
  TellsHere why = TellsBetween store up low.books.unit high.books.unit q r from to amount why

  low_apart : low.books.unit ≢ high.seat.known.unit
  low_apart = λ e. let seat = high_stands.seated.of_seat in omega (arith, order, e, seat)

  -- ---- a note was taken of both
  module _ (n : WereNoted heap low low_now high high_now q r) where
    noted_keeps : KeepsCaller q r
    noted_keeps = keeps_both low high q n.between r n.lower.seen n.lower.noted n.higher.seen n.higher.noted

    low_noted : IsSeenIn heap low r
    low_noted = record {
      showed = subst (ShowsHistory heap) n.lower.same n.lower.showed;
      kept =
          first_seen low high q n.between r n.lower.seen n.lower.noted n.higher.seen n.higher.noted low.books.unit
          low.seat.known.part.history low_apart
          (n.lower.entries ∙ ap (λ (x : RegionShown). Some x.seat.known.part.history) n.lower.same);
    }

    high_noted : IsSeenIn heap high r
    high_noted = record {
      showed = subst (ShowsHistory heap) n.higher.same n.higher.showed;
      kept = n.higher.entries ∙ ap (λ (x : RegionShown). Some x.seat.known.part.history) n.higher.same;
    }

    tells_halted : (unit by : ℕ) → IsMarked low high unit by → TellsHere (Halted unit by)
    tells_halted unit by (inl k) =
        let keeps = keeps_caller high n.between r n.higher.seen n.higher.noted in
        let m : Mark = record { unit = low.books.unit; by = Some by } in (
          noted_keeps,
          inl k.0,
          subst (λ (u : ℕ). has_mark r.known.part.marks (record { unit = u; by = Some by }) ≡ true) (sym k.0)
              (keeps.marks m (marked heap low low_now q n.between (ops.Get from) low_stands.seated by k.1 n.lower)),
        )
    tells_halted unit by (inr k) = (
      noted_keeps,
      inr (
        k.0,
        λ mark of_low has.
            none_learnt low high q n.between r n.lower.seen n.lower.noted n.higher.seen n.higher.noted
            (sym low_stands.seated.halted ∙ k.1) mark (λ e. low_apart (sym of_low ∙ e)) has,
      ),
      subst (λ (u : ℕ). has_mark r.known.part.marks (record { unit = u; by = Some by }) ≡ true) (sym k.0)
          (marked heap high high_now n.between r (ops.Get to) high_stands.seated by k.2 n.higher),
    )

    tells_lack : (why : ShiftRefusal) → LacksAmount up low high from to amount why
        → HasLearntLack store up low.books.unit high.books.unit q r from to amount why
    tells_lack why k = record {
      keeps = noted_keeps;
      out = k.out;
      into = k.into;
      lower =
          learnt_value heap base recovered low r low_stands.stands low_noted (of_low up (from, to)) (of_low up (k.out, k.into))
          low_stands.map k.low_value;
      higher =
          learnt_value heap base recovered high r high_stands.stands high_noted (of_high up (from, to)) (of_high up (k.out, k.into))
          high_stands.map
          k.high_value;
      cannot = k.cannot;
    }

    -- ---- a number at its end
    module _ (one other : _) (planned : ArePlanned up low high from to amount one other)
        (two : q.known.part.calls + 1 ≤ LAST) where
      low_needs : (which : Which) → end_of low one.change ≡ Some which → NeedsNumber store low.books.unit q r one.op which
      low_needs which e = record {
        history = low.seat.known.part.history;
        kept = low_noted.kept;
        cause =
            number_at_end heap low q.known.part one.op low_stands.seated low_stands.stands.of_heap.layout base recovered which
            (numbers_end heap low low_now q n.between one.op which low_stands.stands.of_heap.layout (record {
              running = planned.low_running;
              reply = one.reply;
              changes = one.change ∷ [];
              plan = planned.lower;
              ends = (at_first q.known.part low one.change which two e, n.lower);
            }) low_stands.counted base recovered);
      }

      same_calls : n.between.known.part.calls ≡ q.known.part.calls
      same_calls = ap (λ (x : CallerShown). x.known.part.calls) n.lower.noted

      high_needs : (which : Which) → end_of high other.change ≡ Some which → NeedsNumber store high.books.unit q r other.op which
      high_needs which e = record {
        history = high.seat.known.part.history;
        kept = high_noted.kept;
        cause =
            subst (λ (calls : ℕ). IsAtEnd (records_in (opened_records heap.opening) high.books.unit) calls which other.op
            (base_state (opened_at (clock_of heap.opening.words) base) high.books.unit) high.seat.known.part.history)
            same_calls
            (number_at_end heap high n.between.known.part other.op high_stands.seated high_stands.stands.of_heap.layout base recovered which
            (numbers_end heap high high_now n.between r other.op which high_stands.stands.of_heap.layout (record {
              running = planned.high_running;
              reply = other.reply;
              changes = other.change ∷ [];
              plan = planned.higher;
              ends = (at_first n.between.known.part high other.change which (omega (arith, two, same_calls)) e, n.higher);
            }) high_stands.counted base recovered));
      }

      one_needs : (which : Which) → (end_of low one.change ≡ Some which) ⊎ (end_of high other.change ≡ Some which)
          → NeedsPairNumber store low.books.unit high.books.unit q r (one.op, other.op) which
      one_needs ends.Call (inl e) =
          let past = at_end q.known.part low (one.change ∷ []) ends.Call (at_first q.known.part low one.change ends.Call two e) in
          omega (arith, past)
      one_needs ends.Call (inr e) =
          let past = at_end q.known.part high (other.change ∷ []) ends.Call (at_first q.known.part high other.change ends.Call two e) in
          omega (arith, past)
      one_needs ends.Place (inl e) = inl (low_needs ends.Place e)
      one_needs ends.Place (inr e) = inr (high_needs ends.Place e)
      one_needs ends.Identity (inl e) = inl (low_needs ends.Identity e)
      one_needs ends.Identity (inr e) = inr (high_needs ends.Identity e)
      one_needs ends.Version (inl e) = inl (low_needs ends.Version e)
      one_needs ends.Version (inr e) = inr (high_needs ends.Version e)
      one_needs ends.Serial (inl e) = inl (low_needs ends.Serial e)
      one_needs ends.Serial (inr e) = inr (high_needs ends.Serial e)

    pair_needs : (which : Which) (one other : _) → ArePlanned up low high from to amount one other
        → end_of_pair q.known.part low high one.change other.change ≡ Some which
        → NeedsPairNumber store low.books.unit high.books.unit q r (one.op, other.op) which
    pair_needs which one other planned e = by (nat_lt LAST (q.known.part.calls + 1)) refl e
      where
        by : (t : Bool) → nat_lt LAST (q.known.part.calls + 1) ≡ t
            → (if t then Some ends.Call else first_of (end_of low one.change) (end_of high other.change)) ≡ Some which
            → NeedsPairNumber store low.books.unit high.books.unit q r (one.op, other.op) which
        by true is f =
            subst (NeedsPairNumber store low.books.unit high.books.unit q r (one.op, other.op)) (same_Some ends.Call which f)
            (grind (arith, nat_tests))
        by false is f =
            one_needs one other planned (grind (arith, nat_tests)) which
            (first_is (end_of low one.change) (end_of high other.change) which f)

    tells_end : (which : Which) → EndsPair up low high q.known.part from to amount which → TellsHere (CountEnd which)
    tells_end which k = record {
      keeps = noted_keeps;
      operations = (k.low_plan.op, k.high_plan.op);
      planned =
          learnt_move heap base recovered up low high r from to amount low_stands.stands high_stands.stands low_noted high_noted
          k.low_plan k.high_plan
          k.planned;
      needs = pair_needs which k.low_plan k.high_plan k.planned k.ends;
    }

  -- ---- one of them was full
  module _ (one other : _) (planned : ArePlanned up low high from to amount one other) (free clock : ℕ) where
    tells_low_full : (unit : ℕ) → unit ≡ low.books.unit → IsLowFull heap low low_now high high_now q r free clock
        → TellsHere (Full unit 1 free clock)
    tells_low_full unit is k = record {
      one = refl;
      operations = (one.op, other.op);
      planned =
          learnt_move heap base recovered up low high r from to amount low_stands.stands high_stands.stands low_is high_is one other
          planned;
      full =
          inl (
            is,
            found_full heap base recovered low low_now q k.between free clock k.full r one.op one.reply one.change low_stands.stands
                low_is planned.lower
                (keeps_both low_now high q k.between r k.full.seen k.full.noted k.noted.seen k.noted.noted)
                (keeps_caller high k.between r k.noted.seen k.noted.noted).durable,
          );
    }
      where
        low_is : IsSeenIn heap low r
        low_is = record {
          showed = showed_full heap base recovered low low_now q k.between free clock k.full;
          kept =
              first_seen low_now high q k.between r k.full.seen k.full.noted k.noted.seen k.noted.noted low.books.unit
              low.seat.known.part.history low_apart (k.full.entries ∙ ap Some k.full.keeps.history);
        }

        high_is : IsSeenIn heap high r
        high_is = record {
          showed = subst (ShowsHistory heap) k.noted.same k.noted.showed;
          kept = k.noted.entries ∙ ap (λ (x : RegionShown). Some x.seat.known.part.history) k.noted.same;
        }

    tells_high_full : (unit : ℕ) → unit ≡ high.books.unit → IsHighFull heap low low_now high high_now q r free clock
        → TellsHere (Full unit 1 free clock)
    tells_high_full unit is k = record {
      one = refl;
      operations = (one.op, other.op);
      planned =
          learnt_move heap base recovered up low high r from to amount low_stands.stands high_stands.stands low_is high_is one other
          planned;
      full =
          inr (
            is,
            found_full heap base recovered high high_now q k.between free clock k.full r other.op other.reply other.change
                high_stands.stands high_is
                planned.higher
                (keeps_both high_now k.emptied q k.between r k.full.seen k.full.noted k.noted.seen k.noted.noted)
                (keeps_caller k.emptied k.between r k.noted.seen k.noted.noted).durable,
          );
    }
      where
        high_apart : high.books.unit ≢ k.emptied.seat.known.unit
        high_apart = λ e.
            let seat = k.room.ready.runs.agrees.0 in
            let same = k.room.keeps.of_unit in
            omega (arith, order, e, seat, same)

        low_is : IsSeenIn heap low r
        low_is = record {
          showed =
              shows_before heap low k.emptied k.room.keeps.of_unit k.room.keeps.history (λ identity. k.room.keeps.live identity)
              (subst (ShowsHistory heap) k.noted.same k.noted.showed);
          kept =
              ap (slice_get r.known.entries) (sym k.room.keeps.of_unit)
              ∙ (k.noted.entries
              ∙ (ap (λ (x : RegionShown). Some x.seat.known.part.history) k.noted.same ∙ ap Some k.room.keeps.history));
        }

        high_is : IsSeenIn heap high r
        high_is = record {
          showed = showed_full heap base recovered high high_now q k.between free clock k.full;
          kept =
              first_seen high_now k.emptied q k.between r k.full.seen k.full.noted k.noted.seen k.noted.noted high.books.unit
              high.seat.known.part.history high_apart (k.full.entries ∙ ap Some k.full.keeps.history);
        }

  -- ---- cut
  tells_alone : (receipt : Receipt) → WasAnsweredAlone heap low low_now high high_now q r receipt
      → IsLowerHalf up low high from to amount receipt
      → IsLeftAlone store up low.books.unit high.books.unit q r from to amount receipt
  tells_alone receipt k half = record {
    of_unit = sym (same_unit heap low low_now q k.between receipt.entry.op receipt low_stands.seated k.lower);
    between = k.between;
    lower = continues_caller heap low low_now q k.between receipt.entry.op receipt low_stands.seated k.lower base recovered;
    higher = was_left heap high high_now k.between r k.higher;
    within = k.within;
    other = half.high_plan.op;
    other_reply = half.high_plan.reply;
    half =
        subst (λ (e : Op × Reply). AreMove up from to amount (e.0, half.high_plan.op) (e.1, half.high_plan.reply))
        (λ i. (sym half.op i, sym half.reply i))
        (as_move up low high from to amount half.low_plan half.high_plan half.planned);
  }

  -- ---- whatever it was
  pub tells : (why : ShiftRefusal) → LeavesShift heap up low low_now high high_now q r from to amount why
      → (was_checked {T = Receipt × Receipt} (Err why) ≡ true → MayBeShifted up low high q.known.part from to amount)
      → TellsHere why
  tells (SameUnit unit) k may = absurd (k.0)
  tells (Halted unit by) k may = tells_halted k.1 unit by k.0
  tells (Missing key) k may = tells_lack k.1 (Missing key) k.0
  tells (Short have) k may = tells_lack k.1 (Short have) k.0
  tells (Over have) k may = tells_lack k.1 (Over have) k.0
  tells (CountEnd which) k may = tells_end k.1 which k.0
  tells Memory k may = k.2
  tells (Full unit need free clock) (one, inl k) may =
      subst (λ (n : ℕ). TellsHere (Full unit n free clock)) (sym one)
      (let plans = may refl in tells_low_full plans.0.0 plans.0.1 plans.1.planned free clock unit k.0 k.1)
  tells (Full unit need free clock) (one, inr k) may =
      subst (λ (n : ℕ). TellsHere (Full unit n free clock)) (sym one)
      (let plans = may refl in tells_high_full plans.0.0 plans.0.1 plans.1.planned free clock unit k.0 k.1)
  tells (Cut unit None) (inl k) may = inl (k.0, were_left heap low low_now high high_now q r k.1)
  tells (Cut unit None) (inr k) may = inr (k.0, were_left heap high high_now low low_now q r k.1)
  tells (Cut unit (Some receipt)) k may = (k.0, tells_alone receipt k.1 k.2)

  -- ---- shifted
  module _ (receipts : Receipt × Receipt) (k : HasShifted heap up low low_now high high_now q r from to amount receipts) where
    twice : ContinuesTwice store q r (of_low up receipts) (of_high up receipts)
    twice = record {
      between = k.answered.between;
      lower =
          continues_caller heap low low_now q k.answered.between (of_low up receipts).entry.op (of_low up receipts) low_stands.seated
          k.answered.lower base recovered;
      higher =
          continues_caller heap high high_now k.answered.between r (of_high up receipts).entry.op (of_high up receipts) high_stands.seated
          k.answered.higher base recovered;
      epoch = k.answered.epoch;
      next_call = k.answered.next_call;
    }

    of_low_unit : low.books.unit ≡ (of_low up receipts).unit
    of_low_unit =
        same_unit heap low low_now q k.answered.between (of_low up receipts).entry.op (of_low up receipts) low_stands.seated
        k.answered.lower

    of_high_unit : high.books.unit ≡ (of_high up receipts).unit
    of_high_unit =
        same_unit heap high high_now k.answered.between r (of_high up receipts).entry.op (of_high up receipts) high_stands.seated
        k.answered.higher

    pub goes_is : up ≡ goes_up receipts
    goes_is = by up of_low_unit of_high_unit
      where
        by : (b : Bool) → low.books.unit ≡ (of_low b receipts).unit → high.books.unit ≡ (of_high b receipts).unit
            → b ≡ nat_lt receipts.0.unit receipts.1.unit
        by true e f = grind (arith, nat_tests)
        by false e f = grind (arith, nat_tests)

    pub continues : AreOfTwoUnits heap.opening.layout from to up low.books.unit high.books.unit
        → ContinuesByShift store q r from to amount receipts
    continues units = record {
      units =
          subst (λ (b : Bool). AreOfTwoUnits heap.opening.layout from to b (of_low b receipts).unit (of_high b receipts).unit) goes_is
          (subst (λ (u : ℕ × ℕ). AreOfTwoUnits heap.opening.layout from to up u.0 u.1) (λ i. (of_low_unit i, of_high_unit i)) units);
      entries = subst (λ (b : Bool). ContinuesTwice store q r (of_low b receipts) (of_high b receipts)) goes_is twice;
      moved = k.moved;
    }
