-- What two map units are after a pair of operations, or a try of one.
use Rattle.std.proofs.Common.{◌≡◌, ℕ, ◌≤◌, [], ◌∷◌, sym, ap, ◌∙◌, subst, ⊎_elim}
use Rattle.std.specs.Prelude.{Some, None}
use Rattle.mont_base.specs.declared.record.Change.{Change}
use Rattle.mont_base.specs.declared.record.Change.TheVariants.{Insert, Replace, Remove}
use Rattle.heap.specs.HeapShown.{HeapShown, CallerShown}
use Rattle.index_kit.specs.Index.{Places}
use Rattle.op_guard.specs.Regions.{IsReady, KeepsUnit, WasHalted}
use Rattle.slots.specs.Books.{RegionShown, IsRegionOf}
use Rattle.structure_call.specs.Standing.{IsStanding}
use Rattle.structure_call.proofs.Stands.{ready_stands, halted_stands}
use Rattle.xfer.specs.Pairs.{WereHalted}
use Rattle.shard_map.specs.declared.pair_carrying.CarriedOne.{CarriedOne}
use Rattle.shard_map.specs.declared.pair_carrying.PlannedChange.{PlannedChange}
use Rattle.shard_map.specs.declared.pair_carrying.PairUncarried.{PairUncarried}
use Rattle.shard_map.specs.declared.pair_carrying.PairUncarried.TheVariants.{Full, Cut}
use Rattle.shard_map.specs.MapCall.{places_behind, AddsKey, HasRoomFor}
use Rattle.shard_map.specs.MapShard.{IsMapUnit}
use Rattle.shard_map.specs.MapShift.{ReplacesRecord, places_left}
use Rattle.shard_map.specs.PairCarrying.{IsPlanned, HasCarriedOne, IsLowFull, IsHighFull, LeavesPairUncarried}
use Rattle.shard_map.proofs.KeyEdits.{keys_of_same_live}
use Rattle.shard_map.proofs.MapCalls.{IsCalled, kind_stays, keys_stay, room_for, unit_behind}

-- ---- one unit
-- it is ready for its operation
pub called_by : (heap : HeapShown) (shown began : RegionShown) (places : Places) → IsReady heap shown → began ≡ shown
    → IsMapUnit began places → IsCalled heap began places
called_by heap shown began places ready is unit = record {
  unit = unit;
  running = ap (λ (r : RegionShown). r.books.halted) is ∙ ready.runs.running;
  of_heap = subst (IsRegionOf heap) (sym is) ready.runs.of_heap;
}

module _ (heap : HeapShown) (old new : RegionShown) (places : Places) (called : IsCalled heap old places) where
  -- nothing else is live
  pub unit_kept : IsReady heap new → KeepsUnit old new → IsMapUnit new places
  unit_kept ready keeps = record {
    agrees = ready.runs.agrees;
    kind = kind_stays heap old new places called ready.runs.of_heap keeps.of_unit;
    indexed = λ _. keys_stay heap old new places called places ready.runs.of_heap keeps.of_unit
        (keys_of_same_live old.books.layout old.books.unit old.seat.known.part.records new.seat.known.part.records places keeps.live
        (called.unit.indexed called.running));
  }

  -- it is halted, and its index is of no use
  pub unit_halted : (after : Places) (q r : CallerShown) → WasHalted heap old new q r → IsMapUnit new after
  unit_halted after q r k = record {
    agrees = k.agrees;
    kind = kind_stays heap old new places called k.of_heap k.of_unit;
    indexed = λ e. let f = k.by in absurd (cc);
  }

  -- its index has followed
  pub unit_carried : (q r : CallerShown) (plan : PlannedChange) (carried : CarriedOne) → IsPlanned old plan
      → HasCarriedOne heap old new q r plan carried → IsMapUnit new (places_behind places plan.op carried.slot)
  unit_carried q r plan carried planned k =
      unit_behind heap old new places called q r plan.op carried.receipt k.answered plan.reply (plan.change ∷ []) carried.slot planned
      k.wrote

-- a key that is there needs no room
pub room_there : (heap : HeapShown) (r : RegionShown) (places : Places) → IsCalled heap r places → (plan : PlannedChange) (spare : ℕ)
    → IsPlanned r plan → ReplacesRecord plan.change → HasRoomFor places spare plan.op
room_there heap r places called plan spare planned there =
    room_for r places called.unit called.running plan.op plan.reply (plan.change ∷ []) spare planned (by plan.change there)
  where
    by : (c : Change) → ReplacesRecord c → AddsKey (c ∷ []) → 1 ≤ spare
    by (Insert body) h adds = absurd h
    by (Replace slot identity body) h adds = absurd adds
    by (Remove slot identity) h adds = absurd h

-- ---- both
-- the unit is the same one
module _ (heap : HeapShown) (low low_now high high_now : RegionShown) (q r : CallerShown) (plan : PlannedChange) where
  pub units_left : (why : PairUncarried) → LeavesPairUncarried heap low low_now high high_now q r plan why
      → (low_now.books.unit ≡ low.books.unit) × (high_now.books.unit ≡ high.books.unit)
  units_left (Full unit need free clock) k = ⊎_elim
      (λ (h : (unit ≡ low.books.unit) × IsLowFull heap low low_now high high_now q r free clock).
      (h.1.full.keeps.of_unit, ap (λ (x : RegionShown). x.books.unit) h.1.noted.same))
      (λ (h : (unit ≡ high.books.unit) × IsHighFull heap low low_now high high_now q r free clock).
      (ap (λ (x : RegionShown). x.books.unit) h.1.noted.same ∙ h.1.room.keeps.of_unit, h.1.full.keeps.of_unit))
      k.1
  units_left (Cut unit None) k = ⊎_elim
      (λ (h : (unit ≡ low.books.unit) × WereHalted heap low low_now high high_now q r).
      (h.1.first.of_unit, h.1.second.of_unit))
      (λ (h : (unit ≡ high.books.unit) × WereHalted heap high high_now low low_now q r).
      (h.1.second.of_unit, h.1.first.of_unit))
      k
  units_left (Cut unit (Some carried)) k = (k.1.lower.answered.of_unit, k.1.higher.of_unit)

module _ (heap : HeapShown) (low low_now high high_now : RegionShown) (p s : Places) (q r : CallerShown) (plan : PlannedChange)
    (low_called : IsCalled heap low p) (high_called : IsCalled heap high s) (planned : IsPlanned low plan) where
  pub low_left : (why : PairUncarried) → LeavesPairUncarried heap low low_now high high_now q r plan why
      → IsMapUnit low_now (places_left p plan.op why)
  low_left (Full unit need free clock) k = ⊎_elim
      (λ (h : (unit ≡ low.books.unit) × IsLowFull heap low low_now high high_now q r free clock).
      unit_kept heap low low_now p low_called h.1.full.ready h.1.full.keeps)
      (λ (h : (unit ≡ high.books.unit) × IsHighFull heap low low_now high high_now q r free clock).
      subst (λ (x : RegionShown). IsMapUnit x p) (sym h.1.noted.same)
      (unit_kept heap low h.1.emptied p low_called h.1.room.ready h.1.room.keeps))
      k.1
  low_left (Cut unit None) k = ⊎_elim
      (λ (h : (unit ≡ low.books.unit) × WereHalted heap low low_now high high_now q r).
      unit_halted heap low low_now p low_called p q h.1.between h.1.first)
      (λ (h : (unit ≡ high.books.unit) × WereHalted heap high high_now low low_now q r).
      unit_halted heap low low_now p low_called p h.1.between r h.1.second)
      k
  low_left (Cut unit (Some carried)) k = unit_carried heap low low_now p low_called q k.1.between plan carried planned k.1.lower

  pub high_left : (why : PairUncarried) → LeavesPairUncarried heap low low_now high high_now q r plan why → IsMapUnit high_now s
  high_left (Full unit need free clock) k = ⊎_elim
      (λ (h : (unit ≡ low.books.unit) × IsLowFull heap low low_now high high_now q r free clock).
      subst (λ (x : RegionShown). IsMapUnit x s) (sym h.1.noted.same) high_called.unit)
      (λ (h : (unit ≡ high.books.unit) × IsHighFull heap low low_now high high_now q r free clock).
      unit_kept heap high high_now s high_called h.1.full.ready h.1.full.keeps)
      k.1
  high_left (Cut unit None) k = ⊎_elim
      (λ (h : (unit ≡ low.books.unit) × WereHalted heap low low_now high high_now q r).
      unit_halted heap high high_now s high_called s h.1.between r h.1.second)
      (λ (h : (unit ≡ high.books.unit) × WereHalted heap high high_now low low_now q r).
      unit_halted heap high high_now s high_called s q h.1.between h.1.first)
      k
  high_left (Cut unit (Some carried)) k = unit_halted heap high high_now s high_called s k.1.between r k.1.higher

  -- both stand
  pub stands_left : (why : PairUncarried) → IsStanding heap high → LeavesPairUncarried heap low low_now high high_now q r plan why
      → IsStanding heap low_now × IsStanding heap high_now
  stands_left (Full unit need free clock) stands k = ⊎_elim
      (λ (h : (unit ≡ low.books.unit) × IsLowFull heap low low_now high high_now q r free clock).
      (ready_stands heap low_now h.1.full.ready, subst (IsStanding heap) (sym h.1.noted.same) stands))
      (λ (h : (unit ≡ high.books.unit) × IsHighFull heap low low_now high high_now q r free clock). (
        subst (IsStanding heap) (sym h.1.noted.same) (ready_stands heap h.1.emptied h.1.room.ready),
        ready_stands heap high_now h.1.full.ready,
      ))
      k.1
  stands_left (Cut unit None) stands k = ⊎_elim
      (λ (h : (unit ≡ low.books.unit) × WereHalted heap low low_now high high_now q r). (
        halted_stands heap low low_now q h.1.between h.1.first,
        halted_stands heap high high_now h.1.between r h.1.second,
      ))
      (λ (h : (unit ≡ high.books.unit) × WereHalted heap high high_now low low_now q r). (
        halted_stands heap low low_now h.1.between r h.1.second,
        halted_stands heap high high_now q h.1.between h.1.first,
      ))
      k
  stands_left (Cut unit (Some carried)) stands k =
      (ready_stands heap low_now k.1.lower.answered.ready, halted_stands heap high high_now k.1.between r k.1.higher)
