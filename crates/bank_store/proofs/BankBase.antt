-- With what the bank opens: its map units with nothing in them.
use Rattle.std.proofs.Common.{◌≡◌, ℕ, zero, suc, ◌+◌, ◌<◌, List, [], ◌∷◌, ◌++◌, length, map, sym, refl, ap, ◌∙◌, subst, arith, get_or, take}
use Rattle.std.specs.Prelude.{slice_get, Some, unwrap_or}
use Rattle.std.specs.List.{range_with_len}
use Rattle.std.specs.FinMap as finite
use Rattle.std.proofs.Math.Seq.{take-append_seam}
use Rattle.std.proofs.lemmas.Option.{same_Some, slice_get-get_or, slice_get_within}
use Rattle.mont_base.specs.declared.operation.Entry.{Entry}
use Rattle.mont_base.specs.declared.record.Held.{Held}
use Rattle.mont_base.specs.Counting.{records_in}
use Rattle.mont_base.specs.History.{RepliesFollow}
use Rattle.mont_base.specs.Image.{IsRecovered, clock_of, empty_states, records_of}
use Rattle.mont_base.specs.Layout.{IsLayout, unit_of_key}
use Rattle.mont_base.specs.Seen.{FitsHistories}
use Rattle.mont_base.specs.State.{Key, MapOf, State, step}
use Rattle.core_steps.specs.declared.parts.UnitPart.{UnitPart}
use Rattle.core_steps.specs.CallerClauses.{view_of}
use Rattle.core_steps.specs.Fresh.{fresh_words}
use Rattle.core_steps.specs.Notes.{BeginsWith}
use Rattle.core_steps.specs.Opened.{opened_at}
use Rattle.core_steps.specs.Sound.{base_state}
use Rattle.heap_rule.specs.declared.rule.Opening.{Opening}
use Rattle.heap_rule.specs.declared.views.CallerKnown.{CallerKnown}
use Rattle.heap_rule.specs.SeenEntries.{StandsFirst}
use Rattle.heap_rule.proofs.SeenFronts.{begins_taken, begins_trans}
use Rattle.heap.specs.FreshOpening.{fresh_opening}
use Rattle.heap.specs.HeapShown.{HeapShown}
use Rattle.heap.proofs.EmptyStores.{nothing_recovered, opens_empty}
use Rattle.caller.specs.Continued.{GoesOn, opened_records}
use Rattle.store_stop.specs.Headline.{HasSeen}
use Rattle.store.specs.StoreCalls.{HoldsOfBase}
use Rattle.store.specs.StoreShown.{StoreShown, store_on}
use Rattle.store.proofs.StoreBases.{of_any_base}
use Rattle.bank_job.specs.Bank.{bank_layout}
use Rattle.bank_store.specs.MadeShifts.{OfItsStore}

-- ---- the layout
pub bank_is_layout : IsLayout bank_layout
bank_is_layout = record {
  kinds = record { some = omega arith; few = omega arith };
  some_slots = omega arith;
  few_slots = omega arith;
}

pub bank_recovers : IsRecovered bank_layout (fresh_words bank_layout) (empty_states bank_layout)
bank_recovers = (opens_empty bank_layout bank_is_layout 4).base

pub base_empty : (clock unit : ℕ) → unit < 4 → base_state (opened_at clock (empty_states bank_layout)) unit ≡ MapOf finite.empty
base_empty clock zero low = refl
base_empty clock (suc zero) low = refl
base_empty clock (suc (suc zero)) low = refl
base_empty clock (suc (suc (suc zero))) low = refl
base_empty clock (suc (suc (suc (suc unit)))) low = absurd (omega (arith, low))

among_four : (n unit : ℕ) → slice_get (0 ∷ 1 ∷ 2 ∷ 3 ∷ []) n ≡ Some unit → unit < 4
among_four zero unit e = let s = same_Some 0 unit e in omega (arith, s)
among_four (suc zero) unit e = let s = same_Some 1 unit e in omega (arith, s)
among_four (suc (suc zero)) unit e = let s = same_Some 2 unit e in omega (arith, s)
among_four (suc (suc (suc zero))) unit e = let s = same_Some 3 unit e in omega (arith, s)
among_four (suc (suc (suc (suc n)))) unit e = absurd (cc e)

pub key_unit_low : (key : Key) (unit : ℕ) → unit_of_key bank_layout key ≡ Some unit → unit < 4
key_unit_low key unit e = among_four _ unit e

-- ---- no records
none_in : (f : ℕ → List Held) → ((u : ℕ) → f u ≡ []) → (n from unit : ℕ)
    → unwrap_or (slice_get (map f (range_with_len from n)) unit) [] ≡ []
none_in f none zero from unit = refl
none_in f none (suc n) from zero = none from
none_in f none (suc n) from (suc unit) = none_in f none n (from + 1) unit

pub no_records : (unit : ℕ) → records_in (opened_records (fresh_opening bank_layout 4)) unit ≡ []
no_records unit =
    none_in (records_of bank_layout (fresh_words bank_layout))
    (λ u. ap (λ (p : UnitPart). p.records) (nothing_recovered bank_layout bank_is_layout u)) 6 0 unit

-- ---- what holds of the base holds of nothing
-- the store of a heap that opened with nothing
abbrev pub bank_on : HeapShown → StoreShown
bank_on heap = store_on heap (empty_states bank_layout)

pub of_bank : (heap : HeapShown) → heap.opening ≡ fresh_opening bank_layout 4 → (Holds : StoreShown → Type 0)
    → OfItsStore heap Holds → Holds (bank_on heap)
of_bank heap o Holds (store, opened, holds) =
    of_any_base heap store opened Holds holds (empty_states bank_layout)
    (subst (λ (x : Opening). IsRecovered x.layout x.words (empty_states bank_layout)) (sym o) bank_recovers)

pub holds_of_nothing : (heap : HeapShown) (unit : ℕ) → unit < 4
    → (Holds : State → Type 0) → HoldsOfBase (bank_on heap) unit Holds → Holds (MapOf finite.empty)
holds_of_nothing heap unit low Holds holds = subst Holds (base_empty (clock_of heap.opening.words) unit low) holds

-- ---- what a caller had seen stands first in the history of its unit
pub held_front : (histories : List (List Entry)) (b r : CallerKnown) → HasSeen histories r → FitsHistories histories (view_of r.part)
    → GoesOn b r → (unit : ℕ) (history : List Entry) → slice_get b.entries unit ≡ Some history → StandsFirst histories unit history
held_front histories b r seen fits on unit history there =
    let w = on.seen unit history there in
    let low = slice_get_within r.entries unit w.whole w.there in
    let h = get_or histories unit [] in
    let at : slice_get histories unit ≡ Some h = slice_get-get_or histories unit [] (omega (arith, low, seen.units)) in
    let n = get_or r.part.fronts unit 0 in
    let front : slice_get r.part.fronts unit ≡ Some n = slice_get-get_or r.part.fronts unit 0 (omega
    (arith, low, seen.units, fits.units)) in
    let same : take n h ≡ w.whole = same_Some (take n h) w.whole (sym (seen.each unit n h front at) ∙ w.there) in
    record {
      whole = h;
      there = at;
      begins = begins_trans h w.whole history (subst (BeginsWith h) same (begins_taken h n)) w.begins;
    }

pub front_taken : (h front : List Entry) → BeginsWith h front → take (length front) h ≡ front
front_taken h front (rest, e) = ap (λ (v : List Entry). take (length front) v) e ∙ take-append_seam front rest

pub follows_front : (s : State) (front rest : List Entry) → RepliesFollow s (front ++ rest) → RepliesFollow s front
follows_front s [] rest follow = tt
follows_front s (e ∷ es) rest follow = (follow.0, follows_front (step s e.op).state es rest follow.1)
