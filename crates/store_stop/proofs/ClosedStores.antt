-- The histories that receipts tell are told by them alone.
use Rattle.std.proofs.Common.{◌≡◌, ℕ, zero, suc, ◌<◌, ◌≤◌, List, length, map, sym, ◌∙◌, subst, refl, arith}
use Rattle.std.specs.Prelude.{All}
use Rattle.std.proofs.lemmas.Option.{slice_get_within}
use Rattle.mont_base.specs.declared.memory.Words.{Words}
use Rattle.mont_base.specs.declared.operation.Entry.{Entry}
use Rattle.mont_base.specs.declared.operation.Receipt.{Receipt}
use Rattle.core_steps.specs.CallerClauses.{receipts_of}
use Rattle.heap_rule.specs.declared.rule.Opening.{Opening}
use Rattle.heap.specs.HeapShown.{UnitShown, AdvShown, CallerShown}
use Rattle.heap.specs.Stops.{StopsAt}
use Rattle.store_stop.specs.Headline.{parts_shown}
use Rattle.store_stop.specs.ToldHistories.{HoldsEntryOf, TellsHistory, TellAll}
use Rattle.store_stop.specs.ClosedStores.{IsClosedOn}
use Rattle.store_stop.proofs.Items.{all_gives, same_items}
use Rattle.store_stop.proofs.Placing.{told_is}
use Rattle.store_stop.proofs.StoppedStores.{histories, unit_count, tell_all, stopped_with}

-- ---- one unit
-- each place of what is told has a receipt, whose entry stands at that place of all that is told
not_longer : (rows : List (List Receipt)) (unit : ℕ) (h g : List Entry) → TellsHistory rows unit h → TellsHistory rows unit g
    → length g ≤ length h
not_longer rows unit h g tells others = by (length g) (length h) refl refl
  where
    stands : (place : ℕ) → place < length g → place < length h
    stands place inside =
        let w = others.whole place inside in
        let of_caller = all_gives (All (HoldsEntryOf unit h)) rows w.caller w.of_caller tells.stand w.there in
        let at = all_gives (HoldsEntryOf unit h) w.of_caller w.call w.receipt of_caller w.kept w.of_unit in
        subst (λ (n : ℕ). n < length h) w.at_place (slice_get_within h w.receipt.place w.receipt.entry at)

    by : (n m : ℕ) → length g ≡ n → length h ≡ m → length g ≤ length h
    by zero m e f = omega arith
    by (suc n) m e f = let last = stands n (omega arith) in omega (arith, last)

-- ---- all units
pub told_once : (rows : List (List Receipt)) (hs gs : List (List Entry)) → length gs ≡ length hs → TellAll rows hs → TellAll rows gs
    → gs ≡ hs
told_once rows hs gs count tell others =
    same_items gs hs count
    (λ unit g h at there.
    let t = tell unit h there in
    let o = others unit g at in
    told_is unit rows h g t (not_longer rows unit h g t o) o.stand)

-- ---- a store
pub is_closed : (o : Opening) (units : List UnitShown) (advancer : AdvShown) (callers : List CallerShown) (words : Words)
    → StopsAt o units advancer callers words → IsClosedOn o callers words
is_closed o units advancer callers words stops clock base is_base = record {
  histories = histories o units advancer callers words stops clock base is_base;
  told = record {
    units_are = unit_count o units advancer callers words stops clock base is_base;
    tell = tell_all o units advancer callers words stops clock base is_base;
    no_others = λ others many tell.
        told_once (map receipts_of (parts_shown callers)) (histories o units advancer callers words stops clock base is_base) others
        (many ∙ sym (unit_count o units advancer callers words stops clock base is_base))
        (tell_all o units advancer callers words stops clock base is_base) tell;
  };
  stopped = stopped_with o units advancer callers words stops clock base is_base;
}
