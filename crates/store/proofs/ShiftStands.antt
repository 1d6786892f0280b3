-- What stands behind the locks of two units once a shift between them was carried out or wasn't,
-- and the pass then.
use Rattle.std.proofs.Common.{◌≡◌, ℕ, zero, suc, ◌+◌, inl, inr, Bool, true, false, List, [], ◌∷◌, ◌++◌, length, refl, sym, ap, ◌∙◌, subst, arith, append_assoc, append-nil}
use Rattle.std.specs.Prelude.{slice_get, Option, Some, None, Ok, Err, IfOk, IfErr}
use Rattle.std.specs.declared.result.Result.{Result}
use Rattle.std.proofs.lemmas.Option.{same_Some}
use Rattle.mont_base.specs.declared.kinds.UnitKind.{UnitKind}
use Rattle.mont_base.specs.declared.kinds.UnitKind.TheVariants as kinds
use Rattle.mont_base.specs.declared.gate.Gate.{Ghosts}
use Rattle.mont_base.specs.declared.operation.Entry.{Entry}
use Rattle.mont_base.specs.declared.operation.Op.{Op}
use Rattle.mont_base.specs.declared.operation.Receipt.{Receipt}
use Rattle.mont_base.specs.declared.operation.Reply.{Reply}
use Rattle.mont_base.specs.declared.record.Change.{Change}
use Rattle.mont_base.specs.declared.refusal.CallRefusal.TheVariants as calls
use Rattle.mont_base.specs.Counting.{changes_made, enqueued, insertions}
use Rattle.mont_base.specs.Layout.{Shape, kind_of, is_of_kind, key_number, map_units, same_kind, unit_of_key, units_from}
use Rattle.mont_base.specs.State.{Key, State}
use Rattle.mont_base.proofs.KindTable.{one_kind}
use Rattle.mont_laws.proofs.SameKind.{of_one_kind}
use Rattle.heap.specs.GateAsked.{IsAskedOften}
use Rattle.heap.specs.HeapShown.{HeapShown, CallerShown}
use Rattle.heap_pass.specs.declared.pass.Pass.{Pass}
use Rattle.op_guard.specs.Guarding.{IsFull}
use Rattle.op_guard.specs.Regions.{KeepsUnit, WasHalted}
use Rattle.slots.specs.Books.{RegionShown}
use Rattle.slots.specs.RegionBeginning.{serial_at_first}
use Rattle.structure_call.specs.CountedNumbers.{AreVersionsWithin, HasCounted, greatest_opened, objects_opened, opened_with, records_opened}
use Rattle.structure_call.specs.Planning.{IsPlan}
use Rattle.structure_call.proofs.Counted.{answers_are_counted, refusals_are_counted}
use Rattle.shard_map.specs.declared.shift_refusal.ShiftRefusal.{ShiftRefusal}
use Rattle.shard_map.specs.declared.shift_refusal.ShiftRefusal.TheVariants.{SameUnit, Halted, Missing, Short, Over, CountEnd, Memory, Full, Cut}
use Rattle.shard_map.specs.MapShard.{MapShown}
use Rattle.shard_map.specs.MapShift.{HasShifted, LeavesShift, MayBeShifted, StandsBehind, WereNoted, receipts_kept, was_checked, was_cut}
use Rattle.shard_map.specs.MovedNumbers.{of_high, of_low}
use Rattle.store.specs.declared.unit_structure.Structure.{Structure}
use Rattle.store.specs.declared.unit_structure.Structure.TheVariants.{Map, Queue, Graph, Ordered}
use Rattle.store.specs.Shifting.{AreOfTwoUnits, ContinuesByShift, FoundOneFull, HasTriedShift, TellsBetween, TellsShift, receipts_added}
use Rattle.mont_base.specs.Image.{IsRecovered}
use Rattle.store.specs.StoreShown.{StoreShown, store_on}
use Rattle.store.specs.StoreCalls.{ContinuesCaller, KeepsCaller, WasLeft}
use Rattle.store.specs.UnitAt.{StandsAt, structure_kind}
use Rattle.store.proofs.ShiftTold.{IsUnitAt, continues, goes_is, tells}
use Rattle.store.proofs.UnitStands.{seated_by}

-- ---- the unit of a key is a map
record IsUnitFrom (n : ℕ) (kind : UnitKind) (ks : List UnitKind) (u : ℕ) : Type 0 where
  pub place : ℕ
  pub at : u ≡ n + place
  pub is : slice_get ks place ≡ Some kind

units_are : (n : ℕ) (kind : UnitKind) (ks : List UnitKind) (i u : ℕ) → slice_get (units_from n kind ks) i ≡ Some u → IsUnitFrom n kind ks u
units_are n kind [] i u e = absurd (cc)
units_are n kind (k ∷ ks) i u e = by (same_kind k kind) refl i e (λ j f. later (units_are (n + 1) kind ks j u f))
  where
    later : IsUnitFrom (n + 1) kind ks u → IsUnitFrom n kind (k ∷ ks) u
    later it = record { place = suc it.place; at = let a = it.at in omega (arith, a); is = it.is }

    by : (b : Bool) → same_kind k kind ≡ b → (i : ℕ) → slice_get (units_from n kind (k ∷ ks)) i ≡ Some u
        → ((j : ℕ) → slice_get (units_from (n + 1) kind ks) j ≡ Some u → IsUnitFrom n kind (k ∷ ks) u)
        → IsUnitFrom n kind (k ∷ ks) u
    by true t zero f rest =
        let here : n ≡ u = same_Some n u (rw t at f) in
        record { place = 0; at = omega (arith, here); is = ap Some (one_kind k kind t) }
    by true t (suc j) f rest = rest j (rw t at f)
    by false t j f rest = rest j (rw t at f)

pub map_of_key : (s : Shape) (key : Key) (unit : ℕ) → unit_of_key s key ≡ Some unit → kind_of s unit ≡ Some kinds.Map
map_of_key s key unit e =
    let it = units_are 0 kinds.Map s.kinds (key_number (length (map_units s)) key) unit e in
    let at : unit ≡ it.place = let a = it.at in omega (arith, a) in
    ap (slice_get s.kinds) at ∙ it.is

-- so its structure is one
pub is_map : {I : Type 0} (heap : HeapShown) (number : ℕ) (s : Structure I) (key : Key)
    → unit_of_key heap.opening.layout key ≡ Some number → StandsAt heap number s → structure_kind s ≡ kinds.Map
is_map heap number s key of_key stands =
    let kind = map_of_key heap.opening.layout key number of_key in
    sym (one_kind kinds.Map (structure_kind s)
    (ap (λ (k : Option UnitKind). is_of_kind k (structure_kind s)) (sym kind) ∙ stands.kind))

pub only_map : {I : Type 0} (s : Structure I) → structure_kind s ≡ kinds.Map → ((x : MapShown) → s ≡ Map x → ⊥) → ⊥
only_map (Map unit) kind none = none unit refl
only_map (Queue unit) kind none = absurd (cc)
only_map (Graph unit) kind none = absurd (cc)
only_map (Ordered unit) kind none = absurd (cc)

pub is_unit_at : (heap : HeapShown) {I : Type 0} (x : MapShown) → StandsAt {I = I} heap x.region.books.unit (Map x)
    → IsUnitAt heap x.region
is_unit_at heap x k = record {
  seated = k.seated;
  stands = k.stands;
  counted = k.counted;
  map = of_one_kind (kind_of heap.opening.layout x.region.books.unit) kinds.Map k.kind;
}

-- ---- it has counted
halted_counts : (heap : HeapShown) (x now : RegionShown) (q r : CallerShown) → WasHalted heap x now q r → HasCounted heap now
halted_counts heap x now q r k = λ runs. let by = k.by in absurd (cc)

full_counts : (heap : HeapShown) (x now : RegionShown) (q m : CallerShown) (op : Op) (reply : Reply) (change : Change) (free clock : ℕ)
    → IsPlan x op reply (change ∷ []) → x.books.halted ≡ None → IsFull heap x now q m 1 free clock → HasCounted heap x
    → HasCounted heap now
full_counts heap x now q m op reply change free clock planned running full counted =
    refusals_are_counted heap x now q m op (calls.Full 1 free clock) running (record {
      reply = reply;
      changes = change ∷ [];
      plan = planned;
      leaves = (refl, full);
    }) counted

-- where room was made alone
module _ (heap : HeapShown) (old new : RegionShown) (running : old.books.halted ≡ None) (keeps : KeepsUnit old new)
    (counted : HasCounted heap old) where
  abbrev Counts : List State → ℕ → List Entry → Type 0
  Counts states unit history =
      (new.books.identity ≡ greatest_opened heap unit + insertions (opened_with heap states unit) history + 1)
      × AreVersionsWithin heap.opening.layout unit (objects_opened heap unit) (changes_made (opened_with heap states unit) history)
      new.seat.known.part.records
      × (new.books.serial
      ≡ serial_at_first heap.opening.layout unit (records_opened heap unit) + enqueued (opened_with heap states unit) history)

  kept_counts : HasCounted heap new
  kept_counts = λ runs states recovered.
      let before = counted running states recovered in
      let all = subst (λ (p : ℕ × List Entry). Counts states p.0 p.1) (λ i. (sym keeps.of_unit i, sym keeps.history i)) (
        keeps.identity ∙ before.identity,
        (λ thing holds identity live is named. before.versions thing holds identity live (sym (keeps.live identity) ∙ is) named),
        keeps.serial ∙ before.serial,
      ) in
      record { identity = all.0; versions = all.1; serial = all.2 }

module _ (heap : HeapShown) (up : Bool) (low low_now high high_now : RegionShown) (q r : CallerShown) (from to : Key) (amount : ℕ)
    (low_counted : HasCounted heap low) (high_counted : HasCounted heap high) where
  abbrev BothCount : Type 0
  BothCount = HasCounted heap low_now × HasCounted heap high_now

  noted_count : WereNoted heap low low_now high high_now q r → BothCount
  noted_count n =
      (subst (HasCounted heap) (sym n.lower.same) low_counted, subst (HasCounted heap) (sym n.higher.same) high_counted)

  refused_count : (why : ShiftRefusal) → LeavesShift heap up low low_now high high_now q r from to amount why
      → (was_checked {T = Receipt × Receipt} (Err why) ≡ true → MayBeShifted up low high q.known.part from to amount) → BothCount
  refused_count (SameUnit unit) k may = absurd (k.0)
  refused_count (Halted unit by) k may = noted_count k.1
  refused_count (Missing key) k may = noted_count k.1
  refused_count (Short have) k may = noted_count k.1
  refused_count (Over have) k may = noted_count k.1
  refused_count (CountEnd which) k may = noted_count k.1
  refused_count Memory k may =
      (subst (HasCounted heap) (sym k.0) low_counted, subst (HasCounted heap) (sym k.1) high_counted)
  refused_count (Full unit need free clock) (one, inl k) may =
      let plans = may refl in (
        full_counts heap low low_now q k.1.between plans.0.0.op plans.0.0.reply plans.0.0.change free clock
            plans.1.planned.lower plans.1.planned.low_running k.1.full
            low_counted,
        subst (HasCounted heap) (sym k.1.noted.same) high_counted,
      )
  refused_count (Full unit need free clock) (one, inr k) may =
      let plans = may refl in (
        subst (HasCounted heap) (sym k.1.noted.same)
            (kept_counts heap low k.1.emptied plans.1.planned.low_running k.1.room.keeps low_counted),
        full_counts heap high high_now q k.1.between plans.0.1.op plans.0.1.reply plans.0.1.change free clock
            plans.1.planned.higher plans.1.planned.high_running k.1.full
            high_counted,
      )
  refused_count (Cut unit None) (inl k) may =
      (halted_counts heap low low_now q k.1.between k.1.first, halted_counts heap high high_now k.1.between r k.1.second)
  refused_count (Cut unit None) (inr k) may =
      (halted_counts heap low low_now k.1.between r k.1.second, halted_counts heap high high_now q k.1.between k.1.first)
  refused_count (Cut unit (Some receipt)) k may =
      let plans = may refl in (
        answers_are_counted heap low low_now q k.1.between receipt.entry.op receipt plans.1.planned.low_running k.1.lower low_counted,
        halted_counts heap high high_now k.1.between r k.1.higher,
      )

  pub both_count : (result : Result (Receipt × Receipt) ShiftRefusal)
      → IfOk result (λ receipts. HasShifted heap up low low_now high high_now q r from to amount receipts)
      → IfErr result (λ why. LeavesShift heap up low low_now high high_now q r from to amount why)
      → (was_checked result ≡ true → MayBeShifted up low high q.known.part from to amount) → BothCount
  both_count (Ok receipts) k l may =
      let plans = may refl in (
        answers_are_counted heap low low_now q k.answered.between _ _ plans.1.planned.low_running k.answered.lower low_counted,
        answers_are_counted heap high high_now k.answered.between r _ _ plans.1.planned.high_running k.answered.higher high_counted,
      )
  both_count (Err why) k l may = refused_count why l may

-- the structure of a map unit stands after it
pub map_stands : {I : Type 0} (heap : HeapShown) (number : ℕ) (x y : MapShown) → StandsAt {I = I} heap number (Map x)
    → StandsBehind heap x y → HasCounted heap y.region → StandsAt {I = I} heap number (Map y)
map_stands heap number x y k behind counted = record {
  of_unit = behind.of_unit ∙ k.of_unit;
  kind = k.kind;
  seated = seated_by y.region behind.unit.agrees;
  stands = behind.stands;
  counted = counted;
}

-- ---- the pass
-- the caller is the same, and was given so many receipts more
record GoesBy (q r : CallerShown) (added : List Receipt) : Type 0 where
  pub table : r.table ≡ q.table
  pub caller : r.known.caller ≡ q.known.caller
  pub receipts : r.known.part.receipts ≡ q.known.part.receipts ++ added

goes_more : (q m r : CallerShown) (some more : List Receipt) → GoesBy q m some → GoesBy m r more → GoesBy q r (some ++ more)
goes_more q m r some more a b = record {
  table = b.table ∙ a.table;
  caller = b.caller ∙ a.caller;
  receipts =
      b.receipts
      ∙ (ap (λ (l : List Receipt). l ++ more) a.receipts ∙ append_assoc q.known.part.receipts some more);
}

goes_nowhere : (q r : CallerShown) → r ≡ q → GoesBy q r []
goes_nowhere q r same = record {
  table = ap (λ (x : CallerShown). x.table) same;
  caller = ap (λ (x : CallerShown). x.known.caller) same;
  receipts = ap (λ (x : CallerShown). x.known.part.receipts) same ∙ sym (append-nil q.known.part.receipts);
}

goes_kept : (q r : CallerShown) → KeepsCaller q r → GoesBy q r []
goes_kept q r k = record {
  table = k.table;
  caller = k.caller;
  receipts = k.receipts ∙ sym (append-nil q.known.part.receipts);
}

goes_left : (unit : ℕ) (q r : CallerShown) → WasLeft unit q r → GoesBy q r []
goes_left unit q r k = record {
  table = ap (λ (x : CallerShown). x.table) k.caller;
  caller = ap (λ (x : CallerShown). x.known.caller) k.caller;
  receipts = ap (λ (x : CallerShown). x.known.part.receipts) k.caller ∙ sym (append-nil q.known.part.receipts);
}

goes_on : (store : StoreShown) (q r : CallerShown) (receipt : Receipt) → ContinuesCaller store q r receipt.entry.op receipt
    → GoesBy q r (receipt ∷ [])
goes_on store q r receipt k =
    record { table = k.table; caller = k.continued.goes_on.caller; receipts = k.continued.receipts }

module _ (store : StoreShown) (up : Bool) (low high : ℕ) (q r : CallerShown) (from to : Key) (amount : ℕ) where
  goes_refused : (why : ShiftRefusal) → TellsBetween store up low high q r from to amount why
      → GoesBy q r (receipts_added (Err why))
  goes_refused (SameUnit unit) k = absurd k
  goes_refused (Halted unit by) k = goes_kept q r k.0
  goes_refused (Missing key) k = goes_kept q r k.keeps
  goes_refused (Short have) k = goes_kept q r k.keeps
  goes_refused (Over have) k = goes_kept q r k.keeps
  goes_refused (CountEnd which) k = goes_kept q r k.keeps
  goes_refused Memory k = goes_nowhere q r k
  goes_refused (Full unit need free clock) k = by k.full
    where
      by : FoundOneFull store low high q r k.operations unit need free clock → GoesBy q r []
      by (inl f) = goes_kept q r f.1.keeps
      by (inr f) = goes_kept q r f.1.keeps
  goes_refused (Cut unit None) (inl k) =
      goes_more q k.1.between r [] [] (goes_left low q k.1.between k.1.first) (goes_left high k.1.between r k.1.second)
  goes_refused (Cut unit None) (inr k) =
      goes_more q k.1.between r [] [] (goes_left high q k.1.between k.1.first) (goes_left low k.1.between r k.1.second)
  goes_refused (Cut unit (Some receipt)) k =
      goes_more q k.1.between r (receipt ∷ []) [] (goes_on store q k.1.between receipt k.1.lower)
      (goes_left high k.1.between r k.1.higher)

  goes : (result : Result (Receipt × Receipt) ShiftRefusal)
      → IfOk result (λ receipts. ContinuesByShift store q r from to amount receipts)
      → IfErr result (λ why. TellsBetween store up low high q r from to amount why) → GoesBy q r (receipts_added result)
  goes (Ok receipts) k l =
      let e = k.entries in
      goes_more q e.between r (_ ∷ []) (_ ∷ []) (goes_on store q e.between _ e.lower) (goes_on store e.between r _ e.higher)
  goes (Err why) k l = goes_refused why l

  refused_by : (why : ShiftRefusal) → AreOfTwoUnits store.heap.opening.layout from to up low high
      → TellsBetween store up low high q r from to amount why → TellsShift store q r from to amount why
  refused_by (SameUnit unit) units k = absurd k
  refused_by (Halted unit by) units k = record { up = up; low = low; high = high; units = units; tells = k }
  refused_by (Missing key) units k = record { up = up; low = low; high = high; units = units; tells = k }
  refused_by (Short have) units k = record { up = up; low = low; high = high; units = units; tells = k }
  refused_by (Over have) units k = record { up = up; low = low; high = high; units = units; tells = k }
  refused_by (CountEnd which) units k = record { up = up; low = low; high = high; units = units; tells = k }
  refused_by Memory units k = record { up = up; low = low; high = high; units = units; tells = k }
  refused_by (Full unit need free clock) units k = record { up = up; low = low; high = high; units = units; tells = k }
  refused_by (Cut unit first) units k = record { up = up; low = low; high = high; units = units; tells = k }

  refused : (result : Result (Receipt × Receipt) ShiftRefusal) → AreOfTwoUnits store.heap.opening.layout from to up low high
      → IfErr result (λ why. TellsBetween store up low high q r from to amount why)
      → IfErr result (λ why. TellsShift store q r from to amount why)
  refused (Ok receipts) units k = k
  refused (Err why) units k = refused_by why units k

pub tried : {G : Type 0} {the : Ghosts G} (store : StoreShown) (cuts : G → ℕ) (endless : G → Bool) (old new : Pass G the)
    (from to : Key) (amount : ℕ) (up : Bool)
    (low high : ℕ) (result : Result (Receipt × Receipt) ShiftRefusal) → AreOfTwoUnits store.heap.opening.layout from to up low high
    → IfOk result (λ receipts. ContinuesByShift store old.ticket new.ticket from to amount receipts)
    → IfErr result (λ why. TellsBetween store up low high old.ticket new.ticket from to amount why)
    → new.receipts.items ≡ old.receipts.items ++ receipts_added result
    → IsAskedOften cuts endless old.gate new.gate (was_cut result)
    → HasTriedShift store cuts endless old new from to amount result
tried store cuts endless old new from to amount up low high result units shifted told receipts gate =
    let g = goes store up low high old.ticket new.ticket from to amount result shifted told in
    record {
      shifted = shifted;
      refused = refused store up low high old.ticket new.ticket from to amount result units told;
      same = record {
        table = g.table;
        caller = g.caller;
        whole = λ whole. receipts ∙ (ap (λ (l : List Receipt). l ++ receipts_added result) whole ∙ sym g.receipts);
      };
      receipts = receipts;
      gate = gate;
    }

-- ---- from what the shift of the two map units left
module _ (heap : HeapShown) (base : List State) (recovered : IsRecovered heap.opening.layout heap.opening.words base) (up : Bool)
    (low low_now high high_now : RegionShown) (q r : CallerShown) (from to : Key) (amount : ℕ)
    (units : AreOfTwoUnits heap.opening.layout from to up low.books.unit high.books.unit) (low_at : IsUnitAt heap low)
    (high_at : IsUnitAt heap high) where
  has_continued : (result : Result (Receipt × Receipt) ShiftRefusal)
      → IfOk result (λ receipts. HasShifted heap up low low_now high high_now q r from to amount receipts)
      → IfOk result (λ receipts. ContinuesByShift (store_on heap base) q r from to amount receipts)
  has_continued (Ok receipts) k =
      continues heap base recovered up low low_now high high_now q r from to amount units.order low_at high_at receipts k units
  has_continued (Err why) k = k

  has_told : (result : Result (Receipt × Receipt) ShiftRefusal)
      → IfErr result (λ why. LeavesShift heap up low low_now high high_now q r from to amount why)
      → (was_checked result ≡ true → MayBeShifted up low high q.known.part from to amount)
      → IfErr result (λ why. TellsBetween (store_on heap base) up low.books.unit high.books.unit q r from to amount why)
  has_told (Ok receipts) k may = k
  has_told (Err why) k may = tells heap base recovered up low low_now high high_now q r from to amount units.order low_at high_at why k may

  has_kept : (result : Result (Receipt × Receipt) ShiftRefusal) (old new : List Receipt)
      → IfOk result (λ receipts. HasShifted heap up low low_now high high_now q r from to amount receipts)
      → IfOk result (λ receipts. new ≡ old ++ of_low up receipts ∷ of_high up receipts ∷ [])
      → IfErr result (λ why. new ≡ old ++ receipts_kept why) → new ≡ old ++ receipts_added result
  has_kept (Ok receipts) old new k given kept =
      given
      ∙ ap (λ (b : Bool). old ++ of_low b receipts ∷ of_high b receipts ∷ [])
      (goes_is heap base recovered up low low_now high high_now q r from to amount units.order low_at high_at receipts k)
  has_kept (Err why) old new k given kept = kept

pub shift_tried : {G : Type 0} {the : Ghosts G} (heap : HeapShown) (base : List State)
    (recovered : IsRecovered heap.opening.layout heap.opening.words base) (cuts : G → ℕ) (endless : G → Bool) (old new : Pass G the)
    (from to : Key) (amount : ℕ) (up : Bool) (low low_now high high_now : RegionShown) (result : Result (Receipt × Receipt) ShiftRefusal)
    → AreOfTwoUnits heap.opening.layout from to up low.books.unit high.books.unit → IsUnitAt heap low → IsUnitAt heap high
    → IfOk result (λ receipts. HasShifted heap up low low_now high high_now old.ticket new.ticket from to amount receipts)
    → IfErr result (λ why. LeavesShift heap up low low_now high high_now old.ticket new.ticket from to amount why)
    → (was_checked result ≡ true → MayBeShifted up low high old.ticket.known.part from to amount)
    → IfOk result (λ receipts. new.receipts.items ≡ old.receipts.items ++ of_low up receipts ∷ of_high up receipts ∷ [])
    → IfErr result (λ why. new.receipts.items ≡ old.receipts.items ++ receipts_kept why)
    → IsAskedOften cuts endless old.gate new.gate (was_cut result)
    → HasTriedShift (store_on heap base) cuts endless old new from to amount result
shift_tried heap base recovered cuts endless old new from to amount up low low_now high high_now result units low_at high_at shifted left
    may given kept
    gate =
    tried (store_on heap base) cuts endless old new from to amount up low.books.unit high.books.unit result units
    (has_continued heap base recovered up low low_now high high_now old.ticket new.ticket from to amount units low_at high_at result
    shifted)
    (has_told heap base recovered up low low_now high high_now old.ticket new.ticket from to amount units low_at high_at result left may)
    (has_kept heap base recovered up low low_now high high_now old.ticket new.ticket from to amount units low_at high_at result
    old.receipts.items
    new.receipts.items shifted given kept)
    gate
