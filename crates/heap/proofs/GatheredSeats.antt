-- One seat that takes in the seats of all units and callers.
use Rattle.std.proofs.Common.{◌≡◌, ℕ, List, [], ◌∷◌, ◌++◌, map, false, cond, ap, sym, ◌∙◌, subst, append_assoc}
use Rattle.std.specs.Prelude.{All, None}
use Rattle.std.proofs.lemmas.List.{map-append}
use Rattle.std.proofs.lemmas.List.Elements.{All-head}
use Rattle.core_steps.specs.Stages.{epoch_of}
use Rattle.heap_rule.specs.declared.views.AdvKnown.{AdvKnown}
use Rattle.heap_rule.specs.declared.views.CallerKnown.{CallerKnown}
use Rattle.heap_rule.specs.declared.views.UnitKnown.{UnitKnown}
use Rattle.heap_rule.specs.declared.views.View.{View}
use Rattle.heap_rule.specs.Views.{Cell, Seated, list_place, unit_view, unit_out, advancer_view, caller_view, the_unit, with_units, with_callers}
use Rattle.heap.specs.HeapShown.{UnitShown, AdvShown, CallerShown}
use Rattle.heap.specs.Stops.{units_view, callers_view}

pub head_of_all : {X : Type 0} (P : X → Type 0) (x : X) (xs all : List X) → all ≡ x ∷ xs → All P all → P x
head_of_all {X} P x xs all e h = All-head P x xs (subst (All P) e h)

-- nothing is out with a unit's seat that has its list at home
pub none_out : (m : Seated) → m ≡ (unit_view (the_unit m.0), unit_out (the_unit m.0)) → (the_unit m.0).turn.out ≡ false → m.1 ≡ []
none_out m whole home = let h : UnitKnown = the_unit m.0 in
    ap (λ (x : Seated). x.1) whole ∙ ap (λ b. cond b ((list_place h.unit (epoch_of h.part.stage), None) ∷ []) []) home

-- one more unit
pub units_gathered : (start m n k : Seated) (h : UnitKnown) (c : List (ℕ × Cell)) (seen : List UnitShown) (s : UnitShown)
    → m ≡ (with_units start.0 (units_view seen), start.1) → n ≡ (with_units m.0 k.0, m.1) → k ≡ (unit_view h, c) → h ≡ s.known
    → n ≡ (with_units start.0 (units_view (seen ++ s ∷ [])), start.1)
units_gathered start m n k h c seen s was now one held =
    let shown : UnitShown → UnitKnown = λ s. s.known in
    now
    ∙ ((λ i. (with_units (was i).0 (one i).0, (was i).1))
    ∙ ((λ i. (with_units (with_units start.0 (units_view seen)) (unit_view (held i)), start.1))
    ∙ ap (λ (us : List UnitKnown). (record start.0 { units = us }, start.1))
    (append_assoc start.0.units (map shown seen) (s.known ∷ [])
    ∙ ap (λ (us : List UnitKnown). start.0.units ++ us) (sym (map-append shown seen (s ∷ []))))))

-- and one more caller
pub callers_gathered : (start m n k : Seated) (q : CallerKnown) (c : List (ℕ × Cell)) (seen : List CallerShown) (s : CallerShown)
    → m ≡ (with_callers start.0 (callers_view seen), start.1) → n ≡ (with_callers m.0 k.0, m.1) → k ≡ (caller_view q, c) → q ≡ s.known
    → n ≡ (with_callers start.0 (callers_view (seen ++ s ∷ [])), start.1)
callers_gathered start m n k q c seen s was now one held =
    let shown : CallerShown → CallerKnown = λ s. s.known in
    now
    ∙ ((λ i. (with_callers (was i).0 (one i).0, (was i).1))
    ∙ ((λ i. (with_callers (with_callers start.0 (callers_view seen)) (caller_view (held i)), start.1))
    ∙ ap (λ (qs : List CallerKnown). (record start.0 { callers = qs }, start.1))
    (append_assoc start.0.callers (map shown seen) (s.known ∷ [])
    ∙ ap (λ (qs : List CallerKnown). start.0.callers ++ qs) (sym (map-append shown seen (s ∷ []))))))

-- what one seat knows that all others have come to
abbrev pub gathered_view : List UnitShown → AdvShown → List CallerShown → View
gathered_view units advancer callers = record {
  units = map (λ (s : UnitShown). s.known) units;
  advancers = advancer.known ∷ [];
  callers = map (λ (s : CallerShown). s.known) callers;
  notes = [];
}

pub all_gathered : (m n r : Seated) (a : AdvKnown) (c : List (ℕ × Cell)) (units : List UnitShown) (advancer : AdvShown)
    (callers : List CallerShown)
    → m ≡ (advancer_view a, c) → a ≡ advancer.known → n ≡ (with_units m.0 (units_view units), m.1)
    → r ≡ (with_callers n.0 (callers_view callers), n.1) → r.0 ≡ gathered_view units advancer callers
all_gathered m n r a c units advancer callers is same first second =
    ap (λ (x : Seated). x.0) second
    ∙ (ap (λ (x : Seated). with_callers x.0 (callers_view callers)) first
    ∙ ((λ i. with_callers (with_units (is i).0 (units_view units)) (callers_view callers))
    ∙ ap (λ (x : AdvKnown). with_callers (with_units (advancer_view x) (units_view units)) (callers_view callers)) same))
