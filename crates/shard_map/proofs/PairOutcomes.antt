-- What a pair of planned operations leaves, by what its beginning, its records and its end left.
use Rattle.std.proofs.Common.{◌≡◌, ℕ, zero, suc, ◌+◌, ◌<◌, ◌≤◌, Bool, true, false, List, [], ◌∷◌, ◌++◌, length, map, refl, sym, ap, ◌∙◌, subst, arith, inl, inr, ⊎_elim}
use Rattle.std.specs.Prelude.{◌==◌, Option, Some, None, Err, option_to_list}
use Rattle.std.proofs.lemmas.Bool.Decides.{nat_tests}
use Rattle.mont_base.specs.declared.constants.TheConstants.{LAST}
use Rattle.mont_base.specs.declared.operation.Receipt.{Receipt}
use Rattle.mont_base.specs.declared.record.Change.{Change}
use Rattle.mont_base.specs.declared.record.Held.{Held}
use Rattle.heap.specs.HeapShown.{HeapShown, UnitShown, CallerShown}
use Rattle.slots.specs.declared.books.Written.{Written}
use Rattle.slots.specs.Books.{RegionShown, BooksShown, IsRegionOf, Agrees, as_written}
use Rattle.slots.specs.Putting.{put_by}
use Rattle.op_guard.specs.declared.guard.Guard.{Guard}
use Rattle.op_guard.specs.Guarding.{HasChanged, IsFull}
use Rattle.op_guard.specs.Regions.{IsReady, IsUnderWay, KeepsUnit, WasHalted}
use Rattle.op_guard.proofs.Halts.{halted_since}
use Rattle.structure_call.specs.Checking.{WasNoted}
use Rattle.structure_call.specs.Planning.{first_at_end}
use Rattle.structure_call.proofs.ChangeNumbers.{numbers_left}
use Rattle.xfer.specs.declared.pair_guard.PairGuard.{PairGuard}
use Rattle.xfer.specs.declared.pair_guard.PairReceipt.{PairReceipt}
use Rattle.xfer.specs.declared.pair_guard.PairRefusal.{PairRefusal}
use Rattle.xfer.specs.declared.pair_guard.PairRefusal.TheVariants as pairs
use Rattle.xfer.specs.Pairs.{WereHalted, WereCutBehind, low_half, high_half, unit_at_hand, unit_behind}
use Rattle.xfer.specs.PairBeginning.{HasBegunPair, HasRoomIn, LeavesPairRefused, WereCutIn}
use Rattle.xfer.specs.PairEnding.{HasWrittenPair, HasCommittedPair, HasLeftAlone, LeavesPairCut, WereStopped}
use Rattle.xfer.proofs.PairBegins.{keeps_on, halted_pair}
use Rattle.xfer.proofs.PairEnds.{calls_behind, newest_behind}
use Rattle.shard_map.specs.declared.pair_carrying.CarriedPair.{CarriedPair}
use Rattle.shard_map.specs.declared.pair_carrying.PlannedChange.{PlannedChange}
use Rattle.shard_map.specs.declared.pair_carrying.PairUncarried.{PairUncarried}
use Rattle.shard_map.specs.PairCarrying.{IsPlanned, HasCarriedPair, LeavesPairUncarried, TellsUnbegun, WasCarriedAlone, WasOtherNoted, cut_behind, receipts_kept, slot_first, was_cut}
use Rattle.shard_map.proofs.PairHalves.{begun_next}
use Rattle.shard_map.proofs.PairCarried.{carried_one}

-- ---- none was begun
-- both are regions of the heap still
abbrev pub IsOfHeap : HeapShown → RegionShown → Type 0
IsOfHeap heap r = IsRegionOf heap r × Agrees r

of_heap_ready : (heap : HeapShown) (r : RegionShown) → IsReady heap r → IsOfHeap heap r
of_heap_ready heap r k = (k.runs.of_heap, k.runs.agrees)

of_heap_halted : (heap : HeapShown) (old new : RegionShown) (q r : CallerShown) → WasHalted heap old new q r → IsOfHeap heap new
of_heap_halted heap old new q r k = (k.of_heap, k.agrees)

module _ (heap : HeapShown) (low low_now high high_now : RegionShown) (q r : CallerShown) where
  pub of_heap_refused : (why : PairRefusal) → IsReady heap high → LeavesPairRefused heap low low_now high high_now q r why
      → IsOfHeap heap low_now × IsOfHeap heap high_now
  of_heap_refused (pairs.Full unit need free clock) ready k =
      ⊎_elim
      (λ (h : (unit ≡ low.books.unit) × IsFull heap low low_now q r 1 free clock × (high_now ≡ high)). (
        of_heap_ready heap low_now h.1.ready,
        subst (IsOfHeap heap) (sym h.2) (of_heap_ready heap high ready),
      ))
      (λ (h : (unit ≡ high.books.unit) × IsFull heap high high_now q r 1 free clock × HasRoomIn heap low low_now q).
      (of_heap_ready heap low_now h.2.ready, of_heap_ready heap high_now h.1.ready))
      k.1
  of_heap_refused (pairs.Cut unit) ready k =
      ⊎_elim
      (λ (h : (unit ≡ low.books.unit) × WereHalted heap low low_now high high_now q r).
      (of_heap_halted heap low low_now q h.1.between h.1.first, of_heap_halted heap high high_now h.1.between r h.1.second))
      (λ (h : (unit ≡ high.books.unit) × WereHalted heap high high_now low low_now q r).
      (of_heap_halted heap low low_now h.1.between r h.1.second, of_heap_halted heap high high_now q h.1.between h.1.first))
      k

  -- and a note is taken of the one that isn't full
  module _ (low_then high_then : RegionShown) (s : CallerShown) where
    noted_low : (unit free clock : ℕ) (t : Bool) → t ≡ (unit == low_now.books.unit)
        → WasOtherNoted t heap low_now low_then high_now high_then r s → unit ≡ low.books.unit → IsFull heap low low_now q r 1 free clock
        → high_now ≡ high → (low_then ≡ low_now) × WasNoted heap high high_then r s
    noted_low unit free clock true is k at full same =
        (k.0, subst (λ (x : RegionShown). WasNoted heap x high_then r s) same k.1)
    noted_low unit free clock false is k at full same =
        let kept = full.keeps.of_unit in absurd (grind (arith, nat_tests))

    noted_high : (unit : ℕ) (t : Bool) → t ≡ (unit == low_now.books.unit) → WasOtherNoted t heap low_now low_then high_now high_then r s
        → unit ≡ high.books.unit → low.books.unit < high.books.unit → HasRoomIn heap low low_now q
        → (high_then ≡ high_now) × WasNoted heap low_now low_then r s
    noted_high unit true is k at below room = let kept = room.keeps.of_unit in absurd (grind (arith, nat_tests))
    noted_high unit false is k at below room = k

    pub unbegun_pair : (plan : PlannedChange) (why : PairRefusal) (told : PairUncarried) → low.books.unit < high.books.unit
        → LeavesPairRefused heap low low_now high high_now q r why
        → TellsUnbegun heap low_now low_then high_now high_then r s why told
        → LeavesPairUncarried heap low low_then high high_then q s plan told
    unbegun_pair plan (pairs.Full unit need free clock) told below k t =
        subst (LeavesPairUncarried heap low low_then high high_then q s plan) (sym t.0) (
          k.0,
          ⊎_elim
              (λ (h : (unit ≡ low.books.unit) × IsFull heap low low_now q r 1 free clock × (high_now ≡ high)).
              let n = noted_low unit free clock (unit == low_now.books.unit) refl t.1 h.0 h.1 h.2 in inl (
                h.0,
                record {
                  between = r;
                  full = subst (λ (x : RegionShown). IsFull heap low x q r 1 free clock) (sym n.0) h.1;
                  noted = n.1;
                },
              ))
              (λ (h : (unit ≡ high.books.unit) × IsFull heap high high_now q r 1 free clock × HasRoomIn heap low low_now q).
              let n = noted_high unit (unit == low_now.books.unit) refl t.1 h.0 below h.2 in inr (
                h.0,
                record {
                  between = r;
                  emptied = low_now;
                  room = h.2;
                  full = subst (λ (x : RegionShown). IsFull heap high x q r 1 free clock) (sym n.0) h.1;
                  noted = n.1;
                },
              ))
              k.1,
        )
    unbegun_pair plan (pairs.Cut unit) told below k t =
        subst (LeavesPairUncarried heap low low_then high high_then q s plan) (sym t.0)
        (subst (λ (x : RegionShown × RegionShown × CallerShown). WereCutIn heap unit low x.0 high x.1 q x.2)
        (λ i. (sym t.1 i, sym t.2 i, sym t.3 i)) k)

-- ---- begun
module _ (heap : HeapShown) (low high : RegionShown) (q : CallerShown) (g : PairGuard) (low_mid high_mid : RegionShown)
    (begun : HasBegunPair heap low low_mid high high_mid q g) where
  keeps_low : KeepsUnit low low_mid
  keeps_low = keeps_on low begun.lower.before low_mid begun.lower.room.keeps begun.lower.begun.keeps

  keeps_high : KeepsUnit high high_mid
  keeps_high = keeps_on high begun.higher.before high_mid begun.higher.room.keeps begun.higher.begun.keeps

  -- the caller was cut in the unit whose record was to be written
  pub cut_writing : (written : ℕ) (low_now high_now : RegionShown) (r : CallerShown)
      → WereCutBehind heap written low_mid low_now high_mid high_now q r
      → WereCutIn heap (unit_behind g.low g.high written) low low_now high high_now q r
  cut_writing zero low_now high_now r k =
      inl (
        ap (λ (x : PairGuard). x.low) begun.guard_is,
        halted_pair heap low low_mid low_now high high_mid high_now q r keeps_low keeps_high k,
      )
  cut_writing (suc written) low_now high_now r k =
      inr (
        ap (λ (x : PairGuard). x.high) begun.guard_is,
        halted_pair heap high high_mid high_now low low_mid low_now q r keeps_high keeps_low k,
      )

  pub cut_in_writing : (h : PairGuard) (unit : ℕ) (low_now high_now : RegionShown) (p r : CallerShown) → p ≡ q → unit ≡ unit_at_hand h
      → h ≡ record g { written = h.written } → WereCutBehind heap h.written low_mid low_now high_mid high_now p r
      → WereCutIn heap unit low low_now high high_now q r
  cut_in_writing h unit low_now high_now p r same at guard k =
      subst (λ (u : ℕ). WereCutIn heap u low low_now high high_now q r) (sym (at ∙ ap unit_at_hand guard))
      (cut_writing h.written low_now high_now r
      (subst (λ (x : CallerShown). WereCutBehind heap h.written low_mid low_now high_mid high_now x r) same k))

  -- ---- written
  module _ (low_done high_done : RegionShown) (h : PairGuard) (low_change high_change : Change)
      (w : HasWrittenPair heap low_mid low_done high_mid high_done g h low_change high_change) where
    unit_low : low_done.books.unit ≡ low.books.unit
    unit_low = ap (λ (b : BooksShown). b.unit) w.lower.put.books_are ∙ keeps_low.of_unit

    unit_high : high_done.books.unit ≡ high.books.unit
    unit_high = ap (λ (b : BooksShown). b.unit) w.higher.put.books_are ∙ keeps_high.of_unit

    history_low : low_done.seat.known.part.history ≡ low.seat.known.part.history
    history_low = ap (λ (s : UnitShown). s.known.part.history) w.lower.put.seat_is ∙ keeps_low.history

    history_high : high_done.seat.known.part.history ≡ high.seat.known.part.history
    history_high = ap (λ (s : UnitShown). s.known.part.history) w.higher.put.seat_is ∙ keeps_high.history

    -- the caller was cut before the lower unit had left
    pub cut_ending : (unit : ℕ) (low_now high_now : RegionShown) (r : CallerShown) → unit ≡ low_now.books.unit
        → WereStopped heap low_done low_now high_done high_now q r → WereCutIn heap unit low low_now high high_now q r
    cut_ending unit low_now high_now r at k = inl (
      at ∙ k.halted.first.of_unit ∙ unit_low,
      record {
        between = k.halted.between;
        first = halted_since heap low low_done low_now q k.halted.between unit_low history_low k.halted.first;
        second = halted_since heap high high_done high_now k.halted.between r unit_high history_high k.halted.second;
      },
    )

    -- ---- ended
    module _ (low_plan high_plan : PlannedChange) (same_low : low_change ≡ low_plan.change) (same_high : high_change ≡ high_plan.change)
        (low_ready : IsReady heap low) (high_ready : IsReady heap high) (low_planned : IsPlanned low low_plan)
        (high_planned : IsPlanned high high_plan) (low_none : first_at_end q.known.part low (low_plan.change ∷ []) ≡ None)
        (high_none : first_at_end q.known.part high (high_plan.change ∷ []) ≡ None) (last : q.known.part.calls + 1 ≤ LAST) where
      one_low : HasChanged heap low_mid low_done (low_half g) (low_half h) low_plan.change w.low_slot
      one_low = subst (λ (c : Change). HasChanged heap low_mid low_done (low_half g) (low_half h) c w.low_slot) same_low w.lower

      one_high : HasChanged heap high_mid high_done (high_half g) (high_half h) high_plan.change w.high_slot
      one_high = subst (λ (c : Change). HasChanged heap high_mid high_done (high_half g) (high_half h) c w.high_slot) same_high w.higher

      first_call : q.known.part.calls ≤ LAST
      first_call = (numbers_left q.known.part low (low_plan.change ∷ []) low_none).call

      pub carried_pair : (low_now high_now : RegionShown) (r : CallerShown) (receipts : PairReceipt)
          → HasCommittedPair heap low_done low_now high_done high_now q r low_plan.op low_plan.reply high_plan.op high_plan.reply h.epoch
          receipts
          → HasCarriedPair heap low low_now high high_now q r low_plan high_plan (record {
            low = record { receipt = receipts.low; slot = Some w.low_slot };
            high = record { receipt = receipts.high; slot = Some w.high_slot };
          })
      carried_pair low_now high_now r receipts k =
          let s : CallerShown = k.between in
          let calls = calls_behind heap low_done low_now q s low_plan.op low_plan.reply h.epoch receipts.low k.lower in
          let newest = newest_behind heap low_done low_now q s low_plan.op low_plan.reply h.epoch receipts.low k.lower in
          record {
            between = s;
            lower = carried_one heap low q low_plan low_ready low_planned low_none low_mid (low_half g) begun.lower low_done (low_half h)
                w.low_slot one_low q s low_now receipts.low begun.lower.begun first_call k.lower;
            higher = carried_one heap high q high_plan high_ready high_planned high_none high_mid (high_half g) begun.higher high_done
                (high_half h) w.high_slot one_high s r high_now receipts.high
                (begun_next heap begun.higher.before high_mid q s (high_half g) begun.higher.room.room
                (ap (λ (x : CallerShown). x.known.caller) k.lower.answered.caller)
                (newest ∙ ap (λ (x : PairGuard). x.epoch) w.guard_is)
                (ap (λ (x : CallerShown). x.known.part.durable) k.lower.answered.caller) begun.higher.begun)
                (omega arith) k.higher;
            epoch = k.higher_epoch ∙ sym k.lower_epoch;
            next_call = k.next_call;
          }

      pub carried_alone : (low_now high_now : RegionShown) (r : CallerShown) (receipt : Receipt)
          → HasLeftAlone heap low_done low_now high_done high_now q r low_plan.op low_plan.reply h.epoch receipt
          → WasCarriedAlone heap low low_now high high_now q r low_plan (record { receipt = receipt; slot = Some w.low_slot })
      carried_alone low_now high_now r receipt k = record {
        between = k.between;
        lower = carried_one heap low q low_plan low_ready low_planned low_none low_mid (low_half g) begun.lower low_done (low_half h)
            w.low_slot one_low q k.between low_now receipt begun.lower.begun first_call k.lower;
        higher = halted_since heap high high_done high_now k.between r unit_high history_high k.higher;
        within = k.within ∙ (λ i. q.known.within ++ record { unit = unit_high i; epoch = sym k.lower_epoch i } ∷ []);
      }

      -- so each answer of their end is one of the pair
      pub ended_pair : (low_now high_now : RegionShown) (p r : CallerShown) (receipts : PairReceipt) (a b : Option ℕ) (both : CarriedPair)
          → p ≡ q → a ≡ Some w.low_slot → b ≡ Some w.high_slot
          → both
          ≡ record { low = record { receipt = receipts.low; slot = a }; high = record { receipt = receipts.high; slot = b } }
          → HasCommittedPair heap low_done low_now high_done high_now p r low_plan.op low_plan.reply high_plan.op high_plan.reply h.epoch
          receipts
          → HasCarriedPair heap low low_now high high_now q r low_plan high_plan both
      ended_pair low_now high_now p r receipts a b both same first second is k =
          subst (HasCarriedPair heap low low_now high high_now q r low_plan high_plan)
          (sym (is
          ∙ (λ i. record {
            low = record { receipt = receipts.low; slot = first i };
            high = record { receipt = receipts.high; slot = second i };
          })))
          (carried_pair low_now high_now r receipts
          (subst (λ (x : CallerShown). HasCommittedPair heap low_done low_now high_done high_now x r low_plan.op low_plan.reply high_plan.op
          high_plan.reply h.epoch receipts)
          same k))

      pub ended_cut : (first : Option Receipt) (low_now high_now : RegionShown) (p r : CallerShown) (a : Option ℕ) (m n : ℕ)
          (told : PairUncarried) → p ≡ q → a ≡ Some w.low_slot → m ≡ low_now.books.unit → n ≡ high_now.books.unit
          → told ≡ cut_behind first m n a
          → LeavesPairCut heap low_done low_now high_done high_now p r low_plan.op low_plan.reply h.epoch first
          → LeavesPairUncarried heap low low_now high high_now q r low_plan told
      ended_cut None low_now high_now p r a m n told same slot at other is k =
          subst (LeavesPairUncarried heap low low_now high high_now q r low_plan) (sym is)
          (cut_ending m low_now high_now r at
          (subst (λ (x : CallerShown). WereStopped heap low_done low_now high_done high_now x r) same k))
      ended_cut (Some receipt) low_now high_now p r a m n told same slot at other is k =
          subst (LeavesPairUncarried heap low low_now high high_now q r low_plan) (sym is) (
            other ∙ k.higher.of_unit ∙ unit_high,
            subst (λ (s : Option ℕ). WasCarriedAlone heap low low_now high high_now q r low_plan (record { receipt = receipt; slot = s }))
                (sym slot)
                (carried_alone low_now high_now r receipt
                (subst (λ (x : CallerShown). HasLeftAlone heap low_done low_now high_done high_now x r low_plan.op low_plan.reply h.epoch
                receipt)
                same k)),
          )

-- ---- a cut keeps the receipt that there is
pub kept_behind : (first : Option Receipt) (m n : ℕ) (a : Option ℕ) (told : PairUncarried) → told ≡ cut_behind first m n a
    → receipts_kept told ≡ option_to_list first
kept_behind None m n a told is = ap receipts_kept is
kept_behind (Some receipt) m n a told is = ap receipts_kept is

pub cut_told : (T : Type 0) (first : Option Receipt) (m n : ℕ) (a : Option ℕ) (told : PairUncarried) → told ≡ cut_behind first m n a
    → was_cut {T = T} (Err told) ≡ true
cut_told T None m n a told is = ap (λ (x : PairUncarried). was_cut {T = T} (Err x)) is
cut_told T (Some receipt) m n a told is = ap (λ (x : PairUncarried). was_cut {T = T} (Err x)) is

-- ---- the slot of the one record that was written
no_written : (records : List Held) (ws : List Held) → length ws ≡ 0 → map (as_written records) ws ≡ []
no_written records [] e = refl
no_written records (w ∷ ws) e = absurd (omega arith)

pub slot_is : (heap : HeapShown) (mid done : RegionShown) (g h : Guard) (c : Change) (slot : ℕ) → IsUnderWay heap g mid → g.written ≡ 0
    → HasChanged heap mid done g h c slot → slot_first done.books.written ≡ Some slot
slot_is heap mid done g h c slot under none k =
    let before : mid.books.written ≡ [] =
    under.runs.agrees.1.written_are ∙ no_written mid.seat.known.part.records mid.seat.known.part.written (under.wrote ∙ none) in
    ap (λ (b : BooksShown). slot_first b.written) k.put.books_are
    ∙ ap (λ (ws : List Written). slot_first (ws ++ as_written mid.seat.known.part.records (put_by mid c g.epoch slot) ∷ [])) before
