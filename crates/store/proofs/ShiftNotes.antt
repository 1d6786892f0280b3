-- What a caller has once it took a note of two units.
use Rattle.std.proofs.Common.{◌≡◌, ◌≢◌, ℕ, zero, suc, Bool, true, false, cond, List, [], ◌∷◌, set, replicate, refl, sym, ap, ◌∙◌, arith}
use Rattle.std.specs.Prelude.{◌==◌, ◌&&◌, ◌||◌, not, filter, slice_get, Option, Some, None}
use Rattle.std.specs.List.{list_any}
use Rattle.std.proofs.lemmas.List.Folds.{list_any-append}
use Rattle.mont_base.specs.declared.operation.Entry.{Entry}
use Rattle.core_steps.specs.declared.parts.Mark.{Mark}
use Rattle.core_steps.specs.Notes.{greater_fronts, joined_marks, mark_of, same_caller, same_mark}
use Rattle.core_steps.proofs.Decisions.{eq_true}
use Rattle.heap_rule.proofs.SeenFronts.{fronts_trans, longer_none}
use Rattle.heap_rule.specs.Plays.{IsNotBeyond}
use Rattle.heap_rule.specs.Views.{longer_each}
use Rattle.heap.specs.HeapShown.{CallerShown}
use Rattle.slots.specs.Books.{RegionShown}
use Rattle.op_guard.specs.Guarding.{HasNoted}
use Rattle.caller.specs.Telling.{has_mark}
use Rattle.store.proofs.CallsShown.{keeps_caller}
use Rattle.store.specs.StoreCalls.{KeepsCaller}

-- ---- one note
-- there was a front where there is one
front_before : (ns ms : List ℕ) (unit k : ℕ) → slice_get (greater_fronts ns ms) unit ≡ Some k → (j : ℕ) × (slice_get ns unit ≡ Some j)
front_before [] ms unit k e = absurd (cc)
front_before (n ∷ ns) [] unit k e = (k, e)
front_before (n ∷ ns) (m ∷ ms) zero k e = (n, refl)
front_before (n ∷ ns) (m ∷ ms) (suc unit) k e = front_before ns ms unit k e

-- of another unit nothing is seen by it
other_entries : (entries : List (List Entry)) (units unit other : ℕ) (whole : List Entry) → other ≢ unit
    → slice_get (longer_each entries (set (replicate units []) unit whole)) other ≡ slice_get entries other
other_entries [] units unit other whole apart = refl
other_entries (f ∷ fs) zero unit other whole apart = refl
other_entries (f ∷ fs) (suc n) zero zero whole apart = absurd (apart refl)
other_entries (f ∷ fs) (suc n) zero (suc other) whole apart = ap (λ (l : List (List Entry)). slice_get l other) (longer_none fs n)
other_entries (f ∷ fs) (suc n) (suc unit) zero whole apart = ap (λ (l : List (List Entry)). slice_get l 0) (longer_none (f ∷ []) 1)
other_entries (f ∷ fs) (suc n) (suc unit) (suc other) whole apart =
    other_entries fs n unit other whole (λ same. apart (ap suc same))

-- a mark that isn't the one of the unit was known
known_before : (marks : List Mark) (u : ℕ) (frozen : Option ℕ) (m : Mark) → has_mark (mark_of u frozen) m ≡ false
    → has_mark (joined_marks marks (mark_of u frozen)) m ≡ true → has_mark marks m ≡ true
known_before marks u frozen m none has =
    by frozen none (sym (list_any-append (same_mark m) marks (left frozen)) ∙ has)
  where
    left : Option ℕ → List Mark
    left o = filter (λ (x : Mark). not (list_any (same_mark x) marks)) (mark_of u o)

    kept : (b : Bool) (x : Mark) → (same_mark m x || false) ≡ false → (has_mark marks m || has_mark (cond b (x ∷ []) []) m) ≡ true
        → has_mark marks m ≡ true
    kept b x other e = last (has_mark marks m) (has_mark (cond b (x ∷ []) []) m) (none_here b x other) e
      where
        none_here : (b : Bool) (x : Mark) → (same_mark m x || false) ≡ false → has_mark (cond b (x ∷ []) []) m ≡ false
        none_here true x other = other
        none_here false x other = refl

        last : (a b : Bool) → b ≡ false → (a || b) ≡ true → a ≡ true
        last true b e f = refl
        last false b e f = sym e ∙ f

    by : (o : Option ℕ) → has_mark (mark_of u o) m ≡ false → (has_mark marks m || has_mark (left o) m) ≡ true → has_mark marks m ≡ true
    by None e f = last (has_mark marks m) f
      where
        last : (a : Bool) → (a || false) ≡ true → a ≡ true
        last true e = refl
        last false e = e
    by (Some k) e f = kept (not (list_any (same_mark (record { unit = u; by = Some k })) marks)) (record { unit = u; by = Some k }) e f

differs : (m x : Mark) → m.unit ≢ x.unit → (same_mark m x || false) ≡ false
differs m x apart = ap (λ (b : Bool). (b && same_caller m.by x.by) || false) (by (m.unit == x.unit) refl)
  where
    by : (b : Bool) → (m.unit == x.unit) ≡ b → (m.unit == x.unit) ≡ false
    by true e = absurd (apart (eq_true m.unit x.unit e))
    by false e = e

-- ---- and then another
module _ (one two : RegionShown) (q m r : CallerShown) (seen_one : IsNotBeyond q.known one.seat.known) (noted_one : HasNoted one q m)
    (seen_two : IsNotBeyond m.known two.seat.known) (noted_two : HasNoted two m r) where
  by_one : KeepsCaller q m
  by_one = keeps_caller one q m seen_one noted_one

  by_two : KeepsCaller m r
  by_two = keeps_caller two m r seen_two noted_two

  front_between : (unit k : ℕ) → slice_get r.known.part.fronts unit ≡ Some k → (j : ℕ) × (slice_get m.known.part.fronts unit ≡ Some j)
  front_between unit k e =
      front_before m.known.part.fronts _ unit k
      (sym (ap (λ (x : CallerShown). slice_get x.known.part.fronts unit) noted_two) ∙ e)

  pub keeps_both : KeepsCaller q r
  keeps_both = record {
    table = by_two.table ∙ by_one.table;
    caller = by_two.caller ∙ by_one.caller;
    calls = by_two.calls ∙ by_one.calls;
    receipts = by_two.receipts ∙ by_one.receipts;
    synced = by_two.synced ∙ by_one.synced;
    cuts = by_two.cuts ∙ by_one.cuts;
    within = by_two.within ∙ by_one.within;
    fronts = λ unit n k e f.
        let j = front_between unit k f in
        let low = by_one.fronts unit n j.0 e j.1 in
        let high = by_two.fronts unit j.0 k j.1 f in
        omega (arith, low, high);
    entries = fronts_trans r.known.entries m.known.entries q.known.entries by_two.entries by_one.entries;
    newest = let low = by_one.newest in let high = by_two.newest in omega (arith, low, high);
    durable = let low = by_one.durable in let high = by_two.durable in omega (arith, low, high);
    marks = λ mark has. by_two.marks mark (by_one.marks mark has);
  }

  -- what was seen of the first one is seen still
  pub first_seen : (unit : ℕ) (history : List Entry) → unit ≢ two.seat.known.unit → slice_get m.known.entries unit ≡ Some history
      → slice_get r.known.entries unit ≡ Some history
  first_seen unit history apart seen =
      ap (λ (x : CallerShown). slice_get x.known.entries unit) noted_two
      ∙ (other_entries m.known.entries _ two.seat.known.unit unit two.seat.known.part.history apart ∙ seen)

  -- no mark of the first one was learnt where it has none
  pub none_learnt : one.seat.known.part.frozen ≡ None → (mark : Mark) → mark.unit ≢ two.seat.known.unit
      → has_mark r.known.part.marks mark ≡ true → has_mark q.known.part.marks mark ≡ true
  none_learnt running mark apart has =
      known_before q.known.part.marks one.seat.known.unit one.seat.known.part.frozen mark
      (ap (λ (o : Option ℕ). has_mark (mark_of one.seat.known.unit o) mark) running)
      (sym (ap (λ (x : CallerShown). has_mark x.known.part.marks mark) noted_one) ∙ between)
    where
      other : (o : Option ℕ) → has_mark (mark_of two.seat.known.unit o) mark ≡ false
      other None = refl
      other (Some k) = differs mark (record { unit = two.seat.known.unit; by = Some k }) apart

      between : has_mark m.known.part.marks mark ≡ true
      between =
          known_before m.known.part.marks two.seat.known.unit two.seat.known.part.frozen mark (other two.seat.known.part.frozen)
          (sym (ap (λ (x : CallerShown). has_mark x.known.part.marks mark) noted_two) ∙ has)
