-- What a caller has of a call, from what the call found and left of its unit.
use Rattle.std.proofs.Common.{◌≡◌, ℕ, zero, suc, ◌+◌, ◌≤◌, Bool, List, [], ◌∷◌, ◌++◌, length, true, false, refl, sym, ap, ◌∙◌, subst, arith, append-nil}
use Rattle.std.specs.Prelude.{max, slice_get, slice_index, slice_set, Some, Ok, Err, IfOk, OnOk, IfErr, OnErr, IsErrAnd}
use Rattle.std.specs.List.{AllZip}
use Rattle.std.specs.declared.result.Result.{Result}
use Rattle.std.proofs.lemmas.Option.{get_or_from_slice_get, same_Some}
use Rattle.std.proofs.lemmas.Slice.Zip.{AllZip-long}
use Rattle.mont_base.specs.declared.gate.Gate.{Ghosts}
use Rattle.mont_base.specs.declared.operation.Op.{Op}
use Rattle.mont_base.specs.declared.operation.Receipt.{Receipt}
use Rattle.mont_base.specs.declared.operation.Reply.{Reply}
use Rattle.mont_base.specs.declared.record.Change.{Change}
use Rattle.mont_base.specs.declared.refusal.CallRefusal.{CallRefusal}
use Rattle.mont_base.specs.declared.refusal.CallRefusal.TheVariants.{Halted, CountEnd, Memory, Full, Cut}
use Rattle.mont_base.specs.declared.refusal.Which.{Which}
use Rattle.mont_base.specs.Counting.{effects_then}
use Rattle.mont_base.specs.Image.{clock_of, IsRecovered}
use Rattle.mont_base.specs.Layout.{Shape}
use Rattle.mont_base.specs.Room.{room_of}
use Rattle.mont_base.specs.Seen.{ContinuesView}
use Rattle.mont_base.specs.State.{State, step, unit_of_op}
use Rattle.mont_base.specs.History.{state_after}
use Rattle.mont_laws.specs.Effects.{IsOpOf}
use Rattle.mont_laws.specs.Structures.{HasStructure}
use Rattle.mont_laws.proofs.Shown.{one_state}
use Rattle.core_steps.specs.declared.parts.Mark.{Mark}
use Rattle.core_steps.specs.CallerClauses.{view_of}
use Rattle.core_steps.specs.Notes.{greater_fronts, mark_of}
use Rattle.core_steps.specs.Opened.{opened_at}
use Rattle.core_steps.specs.Sound.{base_state}
use Rattle.heap_rule.specs.Plays.{IsNotBeyond}
use Rattle.heap_rule.specs.SeenEntries.{AreFronts}
use Rattle.heap_rule.proofs.SeenFronts.{fronts_heard}
use Rattle.heap.specs.GateAsked.{IsAskedOften}
use Rattle.heap.specs.HeapShown.{HeapShown, CallerShown}
use Rattle.heap_pass.specs.declared.pass.Pass.{Pass}
use Rattle.slots.specs.Books.{RegionShown}
use Rattle.op_guard.specs.Guarding.{HasNoted, IsFull}
use Rattle.structure_call.specs.Calling.{HasAnsweredCall, HasEnd, IsUncarried, LeavesCall, was_asked, was_cut}
use Rattle.structure_call.specs.Checking.{WasNoted}
use Rattle.structure_call.specs.CountedNumbers.{HasCounted}
use Rattle.heap_pass.specs.KeptReceipt.{KeepsReceipt}
use Rattle.structure_call.specs.Planning.{IsPlan, Makes}
use Rattle.structure_call.specs.Standing.{IsStanding, ShowsHistory}
use Rattle.structure_call.proofs.Counted.{numbers_end}
use Rattle.structure_call.proofs.SoundHistories.{sound_shows, shows_before}
use Rattle.caller.specs.Telling.{has_mark}
use Rattle.caller.proofs.TakenNotes.{joined_has, or_left, or_right}
use Rattle.store.proofs.CallsContinued.{has_continued}
use Rattle.store.specs.StoreShown.{StoreShown, OfAnyBase, store_on}
use Rattle.store.specs.StoreCalls.{RepliesBehind, ContinuesCaller, KeepsCaller, NeedsRoom, NeedsNumber, TellsWhy, IsRefused, IsSamePass, HasCalled, receipts_more}
use Rattle.store.specs.declared.unit_structure.Structure.{Structure}
use Rattle.store.specs.UnitAt.{region_of, IsSeated, StandsAt}
use Rattle.store.proofs.NumbersAtEnd.{number_at_end}

-- ---- an answer
module _ (heap : HeapShown) (before behind : RegionShown) (q r : CallerShown) (op : Op) (receipt : Receipt)
    (seated : IsSeated before) (a : HasAnsweredCall heap before behind q r op receipt) where
  unit_is : receipt.unit ≡ before.books.unit
  unit_is = ap (λ (x : Receipt). x.unit) a.receipt_is ∙ sym seated.of_seat

  pub same_unit : before.books.unit ≡ receipt.unit
  same_unit = sym unit_is

  place_is : receipt.place ≡ length before.seat.known.part.history
  place_is = ap (λ (x : Receipt). x.place) a.receipt_is

  pub named_unit : unit_of_op heap.opening.layout op ≡ Some receipt.unit
  named_unit = a.judged.of_unit.of_unit ∙ ap Some (sym unit_is)

  held_is : receipt.unit ≡ before.seat.known.unit
  held_is = ap (λ (x : Receipt). x.unit) a.receipt_is

  fronts_are : r.known.part.fronts ≡ slice_set q.known.part.fronts receipt.unit (receipt.place + 1)
  fronts_are = ap (λ (x : CallerShown). x.known.part.fronts) a.caller
      ∙ (λ i. slice_set q.known.part.fronts (sym held_is i) (sym place_is i + 1))

  continues : ContinuesView (view_of q.known.part) (view_of r.known.part) receipt
  continues = record {
    behind = λ front at.
        let index = get_or_from_slice_get q.known.part.fronts receipt.unit front 0 at in
        let low = a.seen.front in
        let moved = ap (slice_index q.known.part.fronts) held_is in
        omega (arith, index, low, moved, place_is);
    later = a.reached.not_before;
    fronts = fronts_are;
    newest = ap (λ (x : CallerShown). x.known.part.newest) a.caller;
  }

  replies : (base : List State) → IsRecovered heap.opening.layout heap.opening.words base
      → RepliesBehind (store_on heap base) receipt.unit before.seat.known.part.history op receipt.entry.reply
  replies base recovered =
      let led = λ (u : ℕ). state_after (base_state (opened_at (clock_of heap.opening.words) base) u) before.seat.known.part.history in
      let same = one_state heap.opening.layout before.books.unit before.seat.known.part.records a.judged.state (led before.books.unit)
      a.judged.shown (a.showed base recovered) in
      a.judged.replies ∙ ap (λ (s : State). (step s op).reply) (same ∙ ap led (sym unit_is))

  pub continues_caller : (base : List State) → IsRecovered heap.opening.layout heap.opening.words base
      → ContinuesCaller (store_on heap base) q r op receipt
  continues_caller base recovered = record {
    table = ap (λ (x : CallerShown). x.table) a.caller;
    continued = has_continued heap before behind q r op receipt a named_unit;
    continues = continues;
    replies = replies base recovered;
    entries = ap (λ (x : CallerShown). x.known.entries) a.caller
        ∙ ap (λ (u : ℕ). slice_set q.known.entries u (before.seat.known.part.history ++ receipt.entry ∷ [])) (sym held_is);
  }

-- ---- a refusal
-- no front is lower after a note
fronts_rise : (ns ms : List ℕ) (unit n m : ℕ) → slice_get ns unit ≡ Some n → slice_get (greater_fronts ns ms) unit ≡ Some m → n ≤ m
fronts_rise [] ms unit n m e f = absurd (cc)
fronts_rise (x ∷ xs) [] unit n m e f = let same = same_Some n m (sym e ∙ f) in omega arith
fronts_rise (x ∷ xs) (y ∷ ys) zero n m e f =
    let old = same_Some x n e in
    let new = same_Some (max x y) m f in
    omega arith
fronts_rise (x ∷ xs) (y ∷ ys) (suc unit) n m e f = fronts_rise xs ys unit n m e f

module _ (new : RegionShown) (q r : CallerShown) (seen : IsNotBeyond q.known new.seat.known) (noted : HasNoted new q r) where
  pub keeps_caller : KeepsCaller q r
  keeps_caller = record {
    table = ap (λ (x : CallerShown). x.table) noted;
    caller = ap (λ (x : CallerShown). x.known.caller) noted;
    calls = ap (λ (x : CallerShown). x.known.part.calls) noted;
    receipts = ap (λ (x : CallerShown). x.known.part.receipts) noted;
    synced = ap (λ (x : CallerShown). x.known.part.synced) noted;
    cuts = ap (λ (x : CallerShown). x.known.part.cuts) noted;
    within = ap (λ (x : CallerShown). x.known.within) noted;
    fronts = λ unit n m e f. fronts_rise q.known.part.fronts _ unit n m e
        (ap (λ (x : CallerShown). slice_get x.known.part.fronts unit) (sym noted) ∙ f);
    entries = subst (λ (x : CallerShown). AreFronts x.known.entries q.known.entries) (sym noted)
        (fronts_heard q.known new.seat.known seen (length q.known.part.fronts));
    marks = λ m has. subst (λ (x : CallerShown). has_mark x.known.part.marks m ≡ true) (sym noted)
        (joined_has q.known.part.marks (mark_of new.seat.known.unit new.seat.known.part.frozen) m
        (or_left (has_mark q.known.part.marks m) _ has));
    newest = let now = ap (λ (x : CallerShown). x.known.part.newest) noted in omega (arith, now);
    durable = let now = ap (λ (x : CallerShown). x.known.part.durable) noted in omega (arith, now);
  }

module _ (heap : HeapShown) (before behind : RegionShown) (q r : CallerShown) (op : Op) (seated : IsSeated before) where
  pub marked : (by : ℕ) → before.books.halted ≡ Some by → WasNoted heap before behind q r
      → has_mark r.known.part.marks (record { unit = before.books.unit; by = Some by }) ≡ true
  marked by halted w =
      let m : Mark = record { unit = before.books.unit; by = Some by } in
      let frozen : before.seat.known.part.frozen ≡ Some by = sym seated.halted ∙ halted in
      let marks : List Mark = mark_of before.seat.known.unit before.seat.known.part.frozen in
      let marks_are : marks ≡ m ∷ [] = λ i. mark_of (sym seated.of_seat i) (frozen i) in
      ap (λ (x : CallerShown). has_mark x.known.part.marks m) w.noted
      ∙ joined_has q.known.part.marks marks m
      (or_right (has_mark q.known.part.marks m) (has_mark marks m) (ap (λ (ms : List Mark). has_mark ms m) marks_are ∙ grind arith))

  -- the state on which it was planned is the one to which the entries lead
  module _ (stood : IsStanding heap before) (reply : Reply) (changes : List Change) (plan : IsPlan before op reply changes)
      (base : List State) (recovered : IsRecovered heap.opening.layout heap.opening.words base)
      (showed : ShowsHistory heap before) where
    abbrev opened : State
    opened = base_state (opened_at (clock_of heap.opening.words) base) before.books.unit

    abbrev led : State
    led = state_after opened before.seat.known.part.history

    planned : plan.state ≡ led
    planned =
        one_state heap.opening.layout before.books.unit before.seat.known.part.records plan.state led
        (subst (λ (s : Shape). HasStructure s before.books.unit before.seat.known.part.records plan.state) stood.of_heap.layout plan.shown)
        (showed base recovered)

    makes : AllZip (Makes before.books before.seat.known.part.records) (effects_then opened before.seat.known.part.history op) changes
    makes = subst (λ (s : State). AllZip (Makes before.books before.seat.known.part.records) (step s op).effects changes) planned plan.makes

    as_many : length (effects_then opened before.seat.known.part.history op) ≡ length changes
    as_many =
        sym (AllZip-long (Makes before.books before.seat.known.part.records) (effects_then opened before.seat.known.part.history op) changes
        makes)

  module _ (stood : IsStanding heap before) (counted : HasCounted heap before) (base : List State)
      (recovered : IsRecovered heap.opening.layout heap.opening.words base) where
    abbrev store : StoreShown
    store = store_on heap base

    needs_number : (which : Which) → HasEnd heap before behind q r op (CountEnd which) → NeedsNumber store before.books.unit q r op which
    needs_number which k =
        let w = k.ends.1 in record {
          history = before.seat.known.part.history;
          kept = w.entries ∙ ap (λ (x : RegionShown). Some x.seat.known.part.history) w.same;
          cause =
              number_at_end heap before q.known.part op seated stood.of_heap.layout base recovered which
              (numbers_end heap before behind q r op which stood.of_heap.layout k counted base recovered);
        }

    needs_room : (need free clock : ℕ) → IsUncarried heap before behind q r op (Full need free clock)
        → NeedsRoom store before.books.unit r op need free clock
    needs_room need free clock k =
        let full = k.leaves.1 in
        let same_unit = full.keeps.of_unit in
        let same_history = full.keeps.history in
        let showed = shows_before heap before behind same_unit same_history (λ identity. full.keeps.live identity)
        (sound_shows heap behind full.ready.runs.agrees.0 full.sound) in record {
          history = before.seat.known.part.history;
          kept = full.entries ∙ ap Some same_history;
          cause = record {
            as_needed = as_many stood k.reply k.changes k.plan base recovered showed ∙ sym k.leaves.0;
            as_free = room_is full ∙ sym full.free_is;
            few = full.fewer;
          };
        }
      where
        room_is : (full : IsFull heap before behind q r need free clock)
            → room_of heap.opening.layout.slots (base_state (opened_at (clock_of heap.opening.words) base) before.books.unit)
            before.seat.known.part.history clock ≡ length behind.books.free
        room_is full =
            (λ i. room_of heap.opening.layout.slots
            (base_state (opened_at (clock_of heap.opening.words) base) (sym full.keeps.of_unit i)) (sym full.keeps.history i) clock)
            ∙ sym (full.room base recovered)

    pub tells_why : (why : CallRefusal) → LeavesCall heap before behind q r op why → TellsWhy store before.books.unit q r op why
    tells_why (Halted unit by) k = (k.0, keeps_caller before q r k.2.seen k.2.noted, marked by k.1 k.2)
    tells_why (CountEnd which) k = (keeps_caller before q r k.ends.1.seen k.ends.1.noted, needs_number which k)
    tells_why Memory k = k.1
    tells_why (Full need free clock) k =
        let full = k.leaves.1 in
        let now = ap (λ (x : CallerShown). x.known.part.durable) full.noted in
        let loaded = full.reclaimed.clock_is in record {
          keeps = keeps_caller behind q r full.seen full.noted;
          few = full.fewer;
          needs = needs_room need free clock k;
          begun = full.begun;
          known = full.known;
          learnt = omega (arith, now, loaded);
        }
    tells_why (Cut unit) k =
        let halted = k.leaves.1 in
        (k.leaves.0, record { shown = behind.seat.known; of_unit = sym halted.agrees.0 ∙ halted.of_unit; caller = halted.caller })

-- ---- what a call answers
module _ (heap : HeapShown) (number : ℕ) (before behind : RegionShown) (q r : CallerShown) (op : Op)
    (of_unit : before.books.unit ≡ number) (stood : IsStanding heap before) (counted : HasCounted heap before) (seated : IsSeated before)
    (is_op : IsOpOf heap.opening.layout number op) (base : List State)
    (recovered : IsRecovered heap.opening.layout heap.opening.words base) where
  pub call_answered : (x : Result Receipt CallRefusal) → IfOk x (λ (receipt : Receipt). HasAnsweredCall heap before behind q r op receipt)
      → IfOk x (λ (receipt : Receipt). ContinuesCaller (store_on heap base) q r op receipt)
  call_answered (Ok receipt) a = continues_caller heap before behind q r op receipt seated a base recovered
  call_answered (Err why) a = a

  pub call_refused : (x : Result Receipt CallRefusal) → IfErr x (λ (why : CallRefusal). LeavesCall heap before behind q r op why)
      → IfErr x (λ (why : CallRefusal). IsRefused (store_on heap base) q r op why)
  call_refused (Ok receipt) k = k
  call_refused (Err why) k = record {
    unit = before.books.unit;
    named = is_op.of_unit ∙ ap Some (sym of_unit);
    tells = tells_why heap before behind q r op seated stood counted base recovered why k;
  }

-- ---- the caller's pass
-- a refusal leaves the caller and the receipts that it shows
is_same_caller : (shown : StoreShown) (unit : ℕ) (q r : CallerShown) (op : Op) (why : CallRefusal) → TellsWhy shown unit q r op why
    → (r.table ≡ q.table) × (r.known.caller ≡ q.known.caller) × (r.known.part.receipts ≡ q.known.part.receipts)
is_same_caller shown unit q r op (Halted halted by) k = (k.1.table, k.1.caller, k.1.receipts)
is_same_caller shown unit q r op (CountEnd which) k = (k.0.table, k.0.caller, k.0.receipts)
is_same_caller shown unit q r op Memory k =
    (ap (λ (x : CallerShown). x.table) k, ap (λ (x : CallerShown). x.known.caller) k, ap (λ (x : CallerShown). x.known.part.receipts) k)
is_same_caller shown unit q r op (Full need free clock) k = (k.keeps.table, k.keeps.caller, k.keeps.receipts)
is_same_caller shown unit q r op (Cut cut) k =
    let is = k.1.caller in
    (ap (λ (x : CallerShown). x.table) is, ap (λ (x : CallerShown). x.known.caller) is, ap (λ (x : CallerShown). x.known.part.receipts) is)

module _ {G : Type 0} {gate : Ghosts G} (store : StoreShown) (old new : Pass G gate) (op : Op) where
  pub receipts_behind : (x : Result Receipt CallRefusal)
      → IfOk x (λ (receipt : Receipt). new.receipts.items ≡ old.receipts.items ++ receipt ∷ [])
      → OnErr x (new.receipts.items ≡ old.receipts.items) → new.receipts.items ≡ old.receipts.items ++ receipts_more x
  receipts_behind (Ok receipt) more kept = more
  receipts_behind (Err why) more kept = kept ∙ sym (append-nil old.receipts.items)

  pub same_pass : (x : Result Receipt CallRefusal)
      → IfOk x (λ (receipt : Receipt). ContinuesCaller store old.ticket new.ticket op receipt)
      → IfErr x (λ (why : CallRefusal). IsRefused store old.ticket new.ticket op why)
      → new.receipts.items ≡ old.receipts.items ++ receipts_more x → IsSamePass old new
  same_pass (Ok receipt) k refused more = record {
    table = k.table;
    caller = k.continued.goes_on.caller;
    whole = λ whole. more ∙ ap (λ (rs : List Receipt). rs ++ receipt ∷ []) whole ∙ sym k.continued.receipts;
  }
  same_pass (Err why) answered k more =
      let same = is_same_caller store k.unit old.ticket new.ticket op why k.tells in record {
        table = same.0;
        caller = same.1;
        whole = λ whole. more ∙ append-nil old.receipts.items ∙ whole ∙ sym same.2;
      }

  pub has_called : (cuts : G → ℕ) (endless : G → Bool) (x : Result Receipt CallRefusal)
      → IfOk x (λ (receipt : Receipt). ContinuesCaller store old.ticket new.ticket op receipt)
      → IfErr x (λ (why : CallRefusal). IsRefused store old.ticket new.ticket op why)
      → IfOk x (λ (receipt : Receipt). new.receipts.items ≡ old.receipts.items ++ receipt ∷ [])
      → OnErr x (new.receipts.items ≡ old.receipts.items) → IsAskedOften cuts endless old.gate new.gate (was_cut x)
      → (was_asked x ≡ false → new.gate ≡ old.gate) → HasCalled store cuts endless old new op x
  has_called cuts endless x answered refused more kept gate unasked =
      let receipts = receipts_behind x more kept in record {
        answered = answered;
        refused = refused;
        same = same_pass x answered refused receipts;
        receipts = receipts;
        gate = gate;
        unasked = unasked;
      }

-- ---- all of it, from what stood behind the unit's lock
-- a refusal tells alike whatever might have been answered
cut_alike : (T U : Type 0) (why : CallRefusal) → was_cut {T = T} (Err why) ≡ was_cut {T = U} (Err why)
cut_alike T U (Halted unit by) = refl
cut_alike T U (CountEnd which) = refl
cut_alike T U Memory = refl
cut_alike T U (Full need free clock) = refl
cut_alike T U (Cut unit) = refl

asked_alike : (T U : Type 0) (why : CallRefusal) → was_asked {T = T} (Err why) ≡ was_asked {T = U} (Err why)
asked_alike T U (Halted unit by) = refl
asked_alike T U (CountEnd which) = refl
asked_alike T U Memory = refl
asked_alike T U (Full need free clock) = refl
asked_alike T U (Cut unit) = refl

-- a refusal that is handed on
pub handed_on : {T : Type 0} (Holds : Result T CallRefusal → Type 0) (result : Result T CallRefusal) (why : CallRefusal)
    → IsErrAnd result (λ (d : CallRefusal). d ≡ why) → Holds (Err why) → Holds result
handed_on Holds (Ok x) why is holds = absurd is
handed_on Holds (Err d) why is holds = subst (λ (e : CallRefusal). Holds (Err e)) (sym is) holds

module _ {I G : Type 0} {gate : Ghosts G} (heap : HeapShown) (number : ℕ) (before : Structure I) (behind : RegionShown)
    (old new : Pass G gate) (op : Op) (k : StandsAt heap number before) (is_op : IsOpOf heap.opening.layout number op)
    (cuts : G → ℕ) (endless : G → Bool) where
  unit_called : (base : List State) → IsRecovered heap.opening.layout heap.opening.words base → (x : Result Receipt CallRefusal)
      → IfOk x (λ (receipt : Receipt). HasAnsweredCall heap (region_of before) behind old.ticket new.ticket op receipt)
      → IfErr x (λ (why : CallRefusal). LeavesCall heap (region_of before) behind old.ticket new.ticket op why)
      → IfOk x (λ (receipt : Receipt). new.receipts.items ≡ old.receipts.items ++ receipt ∷ [])
      → OnErr x (new.receipts.items ≡ old.receipts.items) → IsAskedOften cuts endless old.gate new.gate (was_cut x)
      → (was_asked x ≡ false → new.gate ≡ old.gate) → HasCalled (store_on heap base) cuts endless old new op x
  unit_called base recovered x answered refused more kept asked unasked =
      has_called (store_on heap base) old new op cuts endless x
      (call_answered heap number (region_of before) behind old.ticket new.ticket op k.of_unit k.stands k.counted k.seated is_op base
      recovered x answered)
      (call_refused heap number (region_of before) behind old.ticket new.ticket op k.of_unit k.stands k.counted k.seated is_op base
      recovered x refused)
      more kept asked unasked

  pub receipt_called : (receipt : Receipt) → HasAnsweredCall heap (region_of before) behind old.ticket new.ticket op receipt
      → new.receipts.items ≡ old.receipts.items ++ receipt ∷ [] → IsAskedOften cuts endless old.gate new.gate false
      → OfAnyBase heap (λ (store : StoreShown). HasCalled store cuts endless old new op (Ok receipt))
  receipt_called receipt answered more asked = λ base recovered.
      unit_called base recovered (Ok receipt) answered tt more tt asked (λ is. absurd (cc))

  pub refusal_called : {T : Type 0} (x : Result T CallRefusal)
      → IfErr x (λ (why : CallRefusal). LeavesCall heap (region_of before) behind old.ticket new.ticket op why)
      → OnErr x (new.receipts.items ≡ old.receipts.items) → IsAskedOften cuts endless old.gate new.gate (was_cut x)
      → (was_asked x ≡ false → new.gate ≡ old.gate)
      → IfErr x (λ (why : CallRefusal). OfAnyBase heap (λ (store : StoreShown). HasCalled store cuts endless old new op (Err why)))
  refusal_called (Ok done) refused kept asked unasked = tt
  refusal_called {T = T} (Err why) refused kept asked unasked = λ base recovered.
      unit_called base recovered (Err why) tt refused tt kept
      (subst (IsAskedOften cuts endless old.gate new.gate) (cut_alike T Receipt why) asked)
      (λ is. unasked (asked_alike T Receipt why ∙ is))

  -- the receipt is the one that the pass keeps
  pub kept_called : {T : Type 0} (x : Result T CallRefusal)
      → OnOk x (KeepsReceipt old.receipts.items new.receipts.items
      (HasAnsweredCall heap (region_of before) behind old.ticket new.ticket op))
      → IsAskedOften cuts endless old.gate new.gate (was_cut x)
      → OnOk x (KeepsReceipt old.receipts.items new.receipts.items
      (λ (receipt : Receipt). OfAnyBase heap (λ (store : StoreShown). HasCalled store cuts endless old new op (Ok receipt))))
  kept_called (Ok done) k asked = record {
    receipt = k.receipt;
    kept = k.kept;
    holds = receipt_called k.receipt k.holds k.kept asked;
  }
  kept_called (Err why) k asked = tt
