-- What a map unit is after each answer of a call.
use Rattle.std.proofs.Common.{◌≡◌, ℕ, ◌≤◌, List, [], ◌∷◌, ◌++◌, append-nil, sym, refl, ap, ◌∙◌, subst, arith, Bool, true, false}
use Rattle.std.specs.Prelude.{Option, Some, None, Result, Ok, Err, IfErr, IsErrAnd, All, length, is_some}
use Rattle.std.specs.FinMap as finite
use Rattle.std.specs.List.{AllZip, list_any}
use Rattle.std.proofs.Math.Path.{fun_ext}
use Rattle.std.proofs.lemmas.Slice.Zip.{AllZip-long}
use Rattle.mont_base.specs.declared.effect.Effect.TheVariants.{Inserts}
use Rattle.mont_base.specs.declared.effect.Thing.{Thing}
use Rattle.mont_base.specs.declared.effect.Thing.TheVariants.{Pair}
use Rattle.mont_base.specs.declared.operation.Op.{Op}
use Rattle.mont_base.specs.declared.operation.Op.TheVariants as ops
use Rattle.mont_base.specs.declared.operation.Receipt.{Receipt}
use Rattle.mont_base.specs.declared.operation.Reply.{Reply}
use Rattle.mont_base.specs.declared.record.Change.{Change}
use Rattle.mont_base.specs.declared.record.Change.TheVariants.{Insert, Replace, Remove}
use Rattle.mont_base.specs.declared.record.Held.{Held}
use Rattle.mont_base.specs.declared.refusal.CallRefusal.{CallRefusal}
use Rattle.mont_base.specs.declared.refusal.CallRefusal.TheVariants.{CountEnd, Full, Cut}
use Rattle.mont_base.specs.Layout.{Shape, kind_of}
use Rattle.mont_base.specs.State.{State, Step, MapOf, Key, Value, Pairs, set_effects, pair_put, map_step, map_del, step}
use Rattle.mont_laws.specs.Effects.{AreEffects}
use Rattle.mont_laws.specs.Records.{live_of}
use Rattle.mont_laws.specs.Shows.{held_in, Shows}
use Rattle.mont_laws.specs.Structures.{pair_for, HasPairs}
use Rattle.heap.specs.HeapShown.{HeapShown, CallerShown}
use Rattle.index_kit.specs.Index.{Places, CanPut}
use Rattle.slots.specs.Books.{RegionShown, IsRegionOf}
use Rattle.slots.specs.WrittenRecords.{NamesLive, has_serial}
use Rattle.structure_call.specs.Calling.{HasAnsweredCall, LeavesCall}
use Rattle.structure_call.specs.Checking.{EndsCount, MayBeCalled}
use Rattle.structure_call.specs.Carrying.{HasCarried, LeavesUncarried, records_by, last_of}
use Rattle.structure_call.specs.Planning.{IsPlan, Makes, first_at_end}
use Rattle.structure_call.specs.Standing.{IsStanding}
use Rattle.structure_call.proofs.CarriedRecords.{carried_effects}
use Rattle.structure_call.proofs.ChangeNumbers.{all_live}
use Rattle.shard_map.specs.LiveKeys.{HoldsLiveKeys}
use Rattle.shard_map.specs.MapCall.{places_behind, HasRoomFor, AddsKey}
use Rattle.shard_map.specs.MapShard.{IsMapUnit, KeepsPairs}
use Rattle.shard_map.proofs.KeyFacts.{map_state, no_queue, no_value}
use Rattle.shard_map.proofs.KeyEdits.{keys_of_same_live, slot_of_one, keys_follow}

-- a map has no serials
pub no_serial : (s : Shape) (unit : ℕ) (cs : List Change) → KeepsPairs (kind_of s unit) → list_any (has_serial s unit) cs ≡ false
no_serial s unit [] k = refl
no_serial s unit (c ∷ cs) k = rw (no_queue (kind_of s unit) k) (no_serial s unit cs k)

-- ---- the change of a plan
few_set : (t : Bool) (thing : Thing) → length (set_effects t thing) ≤ 1
few_set true thing = omega arith
few_set false thing = omega arith

few_deleted : (m : Pairs) (key : Key) (o : Option Value) → length (map_del m key o).effects ≤ 1
few_deleted m key None = omega arith
few_deleted m key (Some value) = omega arith

-- an operation on a map has one effect at most
few_effects : (m : Pairs) (op : Op) → length (map_step m op).effects ≤ 1
few_effects m (ops.Put key value) = few_set (finite.contains_key m key) (Pair key value)
few_effects m (ops.Del key) = few_deleted m key (finite.get m key)
few_effects m (ops.OPut unit key value) = few_set (finite.contains_key m key) (Pair key value)
few_effects m (ops.ODel unit key) = few_deleted m key (finite.get m key)
few_effects m _ = omega arith

-- so what was written is in the slot of the last change
slot_of_last : (u next epoch : ℕ) (kept : List Held) (cs : List Change) (slots : List ℕ) → length cs ≤ 1 → length slots ≡ length cs
    → slot_of_one (records_by u next kept epoch cs slots) ≡ last_of slots
slot_of_last u next epoch kept [] [] few each = refl
slot_of_last u next epoch kept [] (n ∷ slots) few each = absurd (omega arith)
slot_of_last u next epoch kept (c ∷ []) [] few each = absurd (omega arith)
slot_of_last u next epoch kept (c ∷ []) (n ∷ []) few each = refl
slot_of_last u next epoch kept (c ∷ []) (n ∷ m ∷ slots) few each = absurd (omega arith)
slot_of_last u next epoch kept (c ∷ d ∷ cs) slots few each = absurd (omega arith)

-- where an operation sets a key that has no place, its change adds it
put_room : (r : RegionShown) (places : Places) → IsMapUnit r places → r.books.halted ≡ None → (op : Op) (key : Key) (value : Value)
    (reply : Reply) (changes : List Change) (spare : ℕ) → ((m : Pairs) → map_step m op ≡ pair_put m key value)
    → IsPlan r op reply changes → (AddsKey changes → 1 ≤ spare) → CanPut places spare key
put_room r places unit running op key value reply changes spare puts plan room = λ none.
    room (inserts changes (subst (λ (t : Bool). AllZip (Makes r.books r.seat.known.part.records) (set_effects t (Pair key value)) changes)
    (ap is_some (absent none)) (subst (λ (st : Step). AllZip (Makes r.books r.seat.known.part.records) st.effects changes)
    (ap (λ (st : State). step st op) b.1 ∙ puts b.0) plan.makes)))
  where
    b : (m : Pairs) × (plan.state ≡ MapOf m) × HasPairs r.books.layout r.books.unit r.seat.known.part.records m
    b = map_state r.books.layout r.books.unit r.seat.known.part.records plan.state unit.kind plan.shown

    absent : finite.get places key ≡ None → finite.get b.0 key ≡ None
    absent none = no_value r.books.layout r.books.unit r.seat.known.part.records places (unit.indexed running) b.0 b.2 key none

    inserts : (cs : List Change) → AllZip (Makes r.books r.seat.known.part.records) (Inserts (Pair key value) ∷ []) cs → AddsKey cs
    inserts [] z = absurd z
    inserts (Insert body ∷ []) z = tt
    inserts (Insert body ∷ c ∷ cs) z = absurd z.1
    inserts (Replace at identity body ∷ cs) z = absurd z.0
    inserts (Remove at identity ∷ cs) z = absurd z.0

pub room_for : (r : RegionShown) (places : Places) → IsMapUnit r places → r.books.halted ≡ None → (op : Op) (reply : Reply)
    (changes : List Change) (spare : ℕ) → IsPlan r op reply changes → (AddsKey changes → 1 ≤ spare) → HasRoomFor places spare op
room_for r places unit running (ops.Put key value) reply changes spare plan room =
    put_room r places unit running (ops.Put key value) key value reply changes spare (λ m. refl) plan room
room_for r places unit running (ops.OPut named key value) reply changes spare plan room =
    put_room r places unit running (ops.OPut named key value) key value reply changes spare (λ m. refl) plan room
room_for r places unit running _ reply changes spare plan room = tt

-- pairs that records show, shown by others of which the same are live
pairs_of_same_live : (s : Shape) (u : ℕ) (rs qs : List Held) (m : Pairs) → ((i : ℕ) → live_of i qs ≡ live_of i rs)
    → HasPairs s u rs m → HasPairs s u qs m
pairs_of_same_live s u rs qs m same h =
    subst (λ (l : ℕ → Option (Option (Key × Value))). Shows l (finite.get m)) (fun_ext (λ i. ap (held_in (pair_for s u)) (sym (same i)))) h

-- ---- a planned operation, after checks that left the unit and the caller as they were
module _ (heap : HeapShown) (shown ran : RegionShown) (q s : CallerShown) (op : Op) (reply : Reply) (changes : List Change)
    (same : ran ≡ shown) (caller : s ≡ q) (plan : IsPlan shown op reply changes) where
  both : ◌≡◌ {A = RegionShown × CallerShown} (ran, s) (shown, q)
  both i = (same i, caller i)

  pub names_live : All (NamesLive ran.seat.known.part.records) changes
  names_live = subst (λ (r : RegionShown). All (NamesLive r.seat.known.part.records) changes) (sym same)
      (all_live shown.books shown.seat.known.part.records (step plan.state op).effects changes plan.makes)

  pub may_be_called : shown.books.halted ≡ None → first_at_end s.known.part ran changes ≡ None → MayBeCalled q shown op
  may_be_called running numbers = record {
    running = running;
    reply = reply;
    changes = changes;
    plan = plan;
    numbers = subst (λ (x : RegionShown × CallerShown). first_at_end x.1.known.part x.0 changes ≡ None) both numbers;
  }

  module _ (new : RegionShown) (r : CallerShown) (running : shown.books.halted ≡ None) where
    at_end : (why : CallRefusal) → EndsCount heap shown new q r changes why → LeavesCall heap shown new q r op why
    at_end (CountEnd which) h = record {
      running = running;
      reply = reply;
      changes = changes;
      plan = plan;
      ends = h;
    }
    at_end _ h = absurd h

    pub leaves_at_end : {T : Type 0} (result : Result T CallRefusal) (why : CallRefusal) → IsErrAnd result (λ e. e ≡ why)
        → EndsCount heap ran new s r changes why → IfErr result (λ e. LeavesCall heap shown new q r op e)
    leaves_at_end (Ok value) why is h = absurd is
    leaves_at_end (Err e) why is h = subst (λ (x : CallRefusal). LeavesCall heap shown new q r op x) (sym is)
        (at_end why (subst (λ (x : RegionShown × CallerShown). EndsCount heap x.0 new x.1 r changes why) both h))

-- ---- a map unit whose operation is to be carried out
pub record IsCalled (heap : HeapShown) (r : RegionShown) (places : Places) : Type 0 where
  pub unit : IsMapUnit r places
  pub running : r.books.halted ≡ None
  pub of_heap : IsRegionOf heap r

-- the checks before leave the region as it was, and room that is made leaves the places
pub is_called : (heap : HeapShown) (shown began ran checked : RegionShown) (places after : Places) → IsStanding heap shown
    → began ≡ shown → IsMapUnit began places → began.books.halted ≡ None → ran ≡ began → checked ≡ ran → after ≡ places
    → IsCalled heap checked after
is_called heap shown began ran checked places after stands is unit running same again room = record {
  unit = subst (λ (r : RegionShown). IsMapUnit r after) (sym (again ∙ same)) (subst (IsMapUnit began) (sym room) unit);
  running = ap (λ (r : RegionShown). r.books.halted) (again ∙ same) ∙ running;
  of_heap = subst (IsRegionOf heap) (sym (again ∙ same ∙ is)) stands.of_heap;
}

module _ (heap : HeapShown) (old new : RegionShown) (places : Places) (called : IsCalled heap old places) where
  -- it is a map unit still
  pub kind_stays : IsRegionOf heap new → new.books.unit ≡ old.books.unit → KeepsPairs (kind_of new.books.layout new.books.unit)
  kind_stays of_heap unit = subst (λ (s : Shape). KeepsPairs (kind_of s new.books.unit)) (called.of_heap.layout ∙ sym of_heap.layout)
      (subst (λ (u : ℕ). KeepsPairs (kind_of old.books.layout u)) (sym unit) called.unit.kind)

  pub keys_stay : (after : Places) → IsRegionOf heap new → new.books.unit ≡ old.books.unit
      → HoldsLiveKeys old.books.layout old.books.unit new.seat.known.part.records after
      → HoldsLiveKeys new.books.layout new.books.unit new.seat.known.part.records after
  keys_stay after of_heap unit holds =
      subst (λ (s : Shape). HoldsLiveKeys s new.books.unit new.seat.known.part.records after) (called.of_heap.layout ∙ sym of_heap.layout)
      (subst (λ (u : ℕ). HoldsLiveKeys old.books.layout u new.seat.known.part.records after) (sym unit) holds)

  -- ---- after a refusal nothing else is live, or it is halted
  pub unit_uncarried : (q r : CallerShown) (many : ℕ) (why : CallRefusal) → LeavesUncarried heap old new q r many why → IsMapUnit new places
  unit_uncarried q r many (Full need free clock) h = record {
    agrees = h.1.ready.runs.agrees;
    kind = kind_stays h.1.ready.runs.of_heap h.1.keeps.of_unit;
    indexed = λ _. keys_stay places h.1.ready.runs.of_heap h.1.keeps.of_unit
        (keys_of_same_live old.books.layout old.books.unit old.seat.known.part.records new.seat.known.part.records places h.1.keeps.live
        (called.unit.indexed called.running));
  }
  unit_uncarried q r many (Cut unit) h = record {
    agrees = h.1.agrees;
    kind = kind_stays h.1.of_heap h.1.of_unit;
    indexed = λ e. let f = h.1.by in absurd (cc);
  }
  unit_uncarried q r many _ h = absurd h

  -- ---- after an answer without changes the index stays
  pub unit_answered : (q r : CallerShown) (op : Op) (receipt : Receipt) (slot : Option ℕ) → HasAnsweredCall heap old new q r op receipt
      → HasCarried old new [] receipt slot → IsMapUnit new places
  unit_answered q r op receipt slot answered carried = record {
    agrees = answered.ready.runs.agrees;
    kind = kind_stays answered.ready.runs.of_heap answered.of_unit;
    indexed = λ _. keys_stay places answered.ready.runs.of_heap answered.of_unit
        (subst (λ (rs : List Held). HoldsLiveKeys old.books.layout old.books.unit rs places)
        (sym (carried.records_are ∙ append-nil carried.kept))
        (keys_of_same_live old.books.layout old.books.unit old.seat.known.part.records carried.kept places carried.live
        (called.unit.indexed called.running)));
  }

  -- ---- after an answer the index has followed
  module _ (q r : CallerShown) (op : Op) (receipt : Receipt) (answered : HasAnsweredCall heap old new q r op receipt) (reply : Reply)
      (changes : List Change) (slot : Option ℕ) (plan : IsPlan old op reply changes)
      (carried : HasCarried old new changes receipt slot) where
    planned_map : (m : Pairs) × (plan.state ≡ MapOf m) × HasPairs old.books.layout old.books.unit old.seat.known.part.records m
    planned_map = map_state old.books.layout old.books.unit old.seat.known.part.records plan.state called.unit.kind plan.shown

    abbrev written : List Held
    written = records_by old.books.unit old.books.identity carried.kept receipt.entry.epoch changes carried.slots

    effects_are : AreEffects old.books.unit carried.kept (map_step planned_map.0 op).effects written
    effects_are = subst (λ (st : State). AreEffects old.books.unit carried.kept (step st op).effects written) planned_map.1
        (carried_effects heap old new q r op reply changes receipt slot called.of_heap.layout plan answered carried)

    few : length changes ≤ 1
    few =
        let made = AllZip-long (Makes old.books old.seat.known.part.records) (step plan.state op).effects changes plan.makes in
        let effects : length (step plan.state op).effects ≡ length (map_step planned_map.0 op).effects =
        ap (λ (st : State). length (step st op).effects) planned_map.1 in
        let most = few_effects planned_map.0 op in
        omega arith

    keys_behind : HoldsLiveKeys old.books.layout old.books.unit new.seat.known.part.records (places_behind places op slot)
    keys_behind =
        subst (λ (rs : List Held). HoldsLiveKeys old.books.layout old.books.unit rs (places_behind places op slot))
        (sym carried.records_are)
        (subst (λ (o : Option ℕ). HoldsLiveKeys old.books.layout old.books.unit (carried.kept ++ written) (places_behind places op o))
        (slot_of_last old.books.unit old.books.identity receipt.entry.epoch carried.kept changes carried.slots few carried.each
        ∙ sym carried.last_is)
        (keys_follow old.books.layout old.books.unit carried.kept places
        (keys_of_same_live old.books.layout old.books.unit old.seat.known.part.records carried.kept places carried.live
        (called.unit.indexed called.running))
        planned_map.0
        (pairs_of_same_live old.books.layout old.books.unit old.seat.known.part.records carried.kept planned_map.0 carried.live
        planned_map.2)
        op written plan.of_unit effects_are))

    pub unit_behind : IsMapUnit new (places_behind places op slot)
    unit_behind = record {
      agrees = answered.ready.runs.agrees;
      kind = kind_stays answered.ready.runs.of_heap answered.of_unit;
      indexed = λ _. keys_stay (places_behind places op slot) answered.ready.runs.of_heap answered.of_unit keys_behind;
    }
