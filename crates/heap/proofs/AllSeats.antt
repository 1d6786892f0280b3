-- The seats with which a heap may be stopped: those that it was opened with, also after steps.
use Rattle.std.proofs.Common.{◌≡◌, ℕ, zero, suc, ◌<◌, List, [], ◌∷◌, length, set, false, refl, sym, ap, ◌∙◌, subst, ⊎_elim, arith, length-append, length-set}
use Rattle.atomic_table.specs.Seated.{TableId}
use Rattle.mont_base.specs.Layout.{units_of}
use Rattle.core_steps.specs.Places.{EachAt}
use Rattle.core_steps.proofs.RowFacts.{row_push}
use Rattle.core_steps.proofs.Rows.{each_set}
use Rattle.heap_rule.specs.declared.rule.Opening.{Opening}
use Rattle.heap_rule.specs.Views.{first_unit, first_caller}
use Rattle.heap.specs.HeapShown.{HeapShown, UnitShown, AdvShown, CallerShown}
use Rattle.heap.specs.Opens.{dealt_units, dealt_callers, Opens}
use Rattle.heap.specs.Stops.{IsSeatOfUnit, IsSeatOfCaller, AreAllSeats, AreAtHome}
use Rattle.heap.proofs.StoppedCores.{all_at}

-- ---- seats that were dealt
module _ (heap : HeapShown) (o : Opening) where
  units_count : (n : ℕ) → length (dealt_units heap.table o n) ≡ n
  units_count zero = refl
  units_count (suc n) =
      let more = length-append (dealt_units heap.table o n) (record { table = heap.table; known = first_unit o n } ∷ []) in
      let before = units_count n in omega (arith, more, before)

  callers_count : (n : ℕ) → length (dealt_callers heap.table o n) ≡ n
  callers_count zero = refl
  callers_count (suc n) =
      let more = length-append (dealt_callers heap.table o n) (record { table = heap.table; known = first_caller o n } ∷ []) in
      let before = callers_count n in omega (arith, more, before)

  units_dealt : (n : ℕ) → EachAt (λ (u : ℕ) (s : UnitShown). IsSeatOfUnit heap u s × (s.known.turn.out ≡ false))
      (dealt_units heap.table o n)
  units_dealt zero u s e = absurd (cc)
  units_dealt (suc n) u s e = ⊎_elim (λ t. units_dealt n u s t)
      (λ (t : (u ≡ length (dealt_units heap.table o n)) × (record { table = heap.table; known = first_unit o n } ≡ s)).
      subst (λ (x : ℕ × UnitShown). IsSeatOfUnit heap x.0 x.1 × (x.1.known.turn.out ≡ false))
      (λ i. (sym (t.0 ∙ units_count n) i, t.1 i)) ((refl, refl), refl))
      (row_push (dealt_units heap.table o n) u (record { table = heap.table; known = first_unit o n }) s e)

  callers_dealt : (n : ℕ) → EachAt (IsSeatOfCaller heap) (dealt_callers heap.table o n)
  callers_dealt zero k s e = absurd (cc)
  callers_dealt (suc n) k s e = ⊎_elim (λ t. callers_dealt n k s t)
      (λ (t : (k ≡ length (dealt_callers heap.table o n)) × (record { table = heap.table; known = first_caller o n } ≡ s)).
      subst (λ (x : ℕ × CallerShown). IsSeatOfCaller heap x.0 x.1) (λ i. (sym (t.0 ∙ callers_count n) i, t.1 i)) (refl, refl))
      (row_push (dealt_callers heap.table o n) k (record { table = heap.table; known = first_caller o n }) s e)

-- each of the units dealt so far is the first of its number
pub each_dealt : (table : TableId) (o : Opening) (n : ℕ)
    → EachAt (λ (u : ℕ) (s : UnitShown). (u < n) × (s ≡ record { table = table; known = first_unit o u })) (dealt_units table o n)
each_dealt table o zero u s e = absurd (cc)
each_dealt table o (suc n) u s e =
    let heap : HeapShown = record { table = table; opening = o } in
    ⊎_elim (λ t. let k = each_dealt table o n u s t in (let low = k.0 in omega arith, k.1))
    (λ (t : (u ≡ length (dealt_units table o n)) × (record { table = table; known = first_unit o n } ≡ s)).
    let same : u ≡ n = t.0 ∙ units_count heap o n in
    (omega (arith, same), sym t.1 ∙ (λ i. record { table = table; known = first_unit o (sym same i) })))
    (row_push (dealt_units table o n) u (record { table = table; known = first_unit o n }) s e)

module _ (o : Opening) (heap : HeapShown) (units : List UnitShown) (advancer : AdvShown) (callers : List CallerShown)
    (opens : Opens o heap units advancer callers) where
  pub opened_are_all : AreAllSeats heap units advancer callers
  opened_are_all = record {
    unit_count = ap length opens.each_unit ∙ (units_count heap o (units_of o.layout)
        ∙ ap (λ (x : Opening). units_of x.layout) (sym opens.opening));
    each_unit = subst (EachAt (IsSeatOfUnit heap)) (sym opens.each_unit) (λ u s e. (units_dealt heap o (units_of o.layout) u s e).0);
    the_advancer = ap (λ (a : AdvShown). a.table) opens.the_advancer;
    caller_count = ap length opens.each_caller ∙ (callers_count heap o o.callers ∙ ap (λ (x : Opening). x.callers) (sym opens.opening));
    each_caller = subst (EachAt (IsSeatOfCaller heap)) (sym opens.each_caller) (callers_dealt heap o o.callers);
  }

  pub opened_at_home : AreAtHome units
  opened_at_home = subst AreAtHome (sym opens.each_unit)
      (all_at (λ (s : UnitShown). s.known.turn.out ≡ false) (dealt_units heap.table o (units_of o.layout))
      (λ u s e. (units_dealt heap o (units_of o.layout) u s e).1))

-- ---- a seat that made steps
module _ (heap : HeapShown) (units : List UnitShown) (advancer : AdvShown) (callers : List CallerShown)
    (all : AreAllSeats heap units advancer callers) where
  pub unit_stepped : (u : ℕ) (s : UnitShown) → IsSeatOfUnit heap u s → AreAllSeats heap (set units u s) advancer callers
  unit_stepped u s is = record {
    unit_count = length-set units u s ∙ all.unit_count;
    each_unit = each_set (IsSeatOfUnit heap) units u s (λ v r off at. all.each_unit v r at) is;
    the_advancer = all.the_advancer;
    caller_count = all.caller_count;
    each_caller = all.each_caller;
  }

  pub caller_stepped : (k : ℕ) (s : CallerShown) → IsSeatOfCaller heap k s → AreAllSeats heap units advancer (set callers k s)
  caller_stepped k s is = record {
    unit_count = all.unit_count;
    each_unit = all.each_unit;
    the_advancer = all.the_advancer;
    caller_count = length-set callers k s ∙ all.caller_count;
    each_caller = each_set (IsSeatOfCaller heap) callers k s (λ j r off at. all.each_caller j r at) is;
  }

  pub advancer_stepped : (s : AdvShown) → s.table ≡ heap.table → AreAllSeats heap units s callers
  advancer_stepped s is = record {
    unit_count = all.unit_count;
    each_unit = all.each_unit;
    the_advancer = is;
    caller_count = all.caller_count;
    each_caller = all.each_caller;
  }
