-- The seats of a heap that is opened, dealt one by one from the seat that knows all.
use Rattle.std.proofs.Common.{◌≡◌, ◌≢◌, ℕ, zero, suc, ◌+◌, ◌-◌, ◌*◌, ◌<◌, ◌≤◌, List, [], ◌∷◌, ◌++◌, length, replicate, refl, sym, ap, ◌∙◌, subst, arith}
use Rattle.std.proofs.lemmas.List.{length-replicate}
use Rattle.atomic_table.specs.Seated.{TableId}
use Rattle.atomic_table.specs.Table.{Splits}
use Rattle.mont_base.specs.declared.constants.TheConstants.{LAST, MOST_UNITS}
use Rattle.mont_base.specs.Image.{clock_of}
use Rattle.mont_base.specs.Layout.{units_of, IsLayout}
use Rattle.core_steps.specs.declared.parts.AdvPart.TheVariants.{Rest}
use Rattle.heap_rule.specs.declared.rule.Opening.{Opening}
use Rattle.heap_rule.specs.declared.views.UnitKnown.{UnitKnown}
use Rattle.heap_rule.specs.declared.views.CallerKnown.{CallerKnown}
use Rattle.heap_rule.specs.declared.views.View.{View}
use Rattle.heap_rule.specs.Rule.{Each, ShowsCore}
use Rattle.heap_rule.specs.Views.{Seated, unit_view, advancer_view, caller_view, the_unit, the_caller, first_unit, first_advancer, first_caller, units_from, callers_from, view_without, without_first_unit, only_first_unit, without_first_caller, only_first_caller}
use Rattle.heap_rule.proofs.SeatPlays.{splits_unit, splits_caller}
use Rattle.heap.specs.HeapShown.{UnitShown, CallerShown, IsUnit, IsAdvancer, IsCaller}
use Rattle.heap.specs.Opens.{dealt_units, dealt_callers}

-- ---- the parts that are left have other numbers
units_apart : (o : Opening) (i j n : ℕ) → i < j → Each (λ (h : UnitKnown). h.unit ≢ i) (units_from o j n)
units_apart o i j zero l = tt
units_apart o i j (suc n) l = ((λ e. omega arith), units_apart o i (j + 1) n (omega arith))

callers_apart : (o : Opening) (i j n : ℕ) → i < j → Each (λ (q : CallerKnown). q.caller ≢ i) (callers_from o j n)
callers_apart o i j zero l = tt
callers_apart o i j (suc n) l = ((λ e. omega arith), callers_apart o i (j + 1) n (omega arith))

units_more : (o : Opening) (n i : ℕ) → i < n → units_from o i (n - i) ≡ first_unit o i ∷ units_from o (i + 1) (n - (i + 1))
units_more o n i l = let e : n - i ≡ suc (n - (i + 1)) = omega arith in ap (units_from o i) e

callers_more : (o : Opening) (n i : ℕ) → i < n → callers_from o i (n - i) ≡ first_caller o i ∷ callers_from o (i + 1) (n - (i + 1))
callers_more o n i l = let e : n - i ≡ suc (n - (i + 1)) = omega arith in ap (callers_from o i) e

abbrev with_parts : Opening → List UnitKnown → List CallerKnown → View
with_parts o hs qs = record { units = hs; advancers = first_advancer o ∷ []; callers = qs; notes = [] }

-- ---- units
module _ (o : Opening) (i k : ℕ) (low : i < units_of o.layout) where
  abbrev units_behind : List UnitKnown
  units_behind = units_from o (i + 1) (units_of o.layout - (i + 1))

  abbrev callers_left : List CallerKnown
  callers_left = callers_from o k (o.callers - k)

  next_unit : view_without o i k ≡ with_parts o (first_unit o i ∷ units_behind) callers_left
  next_unit = ap (λ (hs : List UnitKnown). with_parts o hs callers_left) (units_more o (units_of o.layout) i low)

  pub deals_unit : (key : Opening) (seat : ℕ) (m : Seated) → key ≡ o → m ≡ (view_without o i k, [])
      → Splits (ShowsCore key) seat m.0 (without_first_unit m.0) (only_first_unit m.0)
  deals_unit key seat m same is =
      subst (λ (z : Opening × View). Splits (ShowsCore z.0) seat z.1 (without_first_unit z.1) (only_first_unit z.1))
      (λ j. (sym same j, sym (ap (λ (x : Seated). x.0) is ∙ next_unit) j))
      (splits_unit o seat (first_unit o i) units_behind (first_advancer o ∷ []) callers_left []
      (units_apart o i (i + 1) (units_of o.layout - (i + 1)) (omega arith)))

  pub unit_left : (m n : Seated) → m ≡ (view_without o i k, []) → n ≡ (without_first_unit m.0, m.1) → n ≡ (view_without o (i + 1) k, [])
  unit_left m n is left = left ∙ ap (λ (x : Seated). (without_first_unit x.0, x.1)) is
      ∙ ap (λ (v : View). (without_first_unit v, [])) next_unit

  pub unit_given : (m r : Seated) → m ≡ (view_without o i k, []) → r ≡ (only_first_unit m.0, []) → r ≡ (unit_view (first_unit o i), [])
  unit_given m r is right = right ∙ ap (λ (x : Seated). (only_first_unit x.0, [])) is ∙ ap (λ (v : View). (only_first_unit v, [])) next_unit

pub first_unit_is : (o : Opening) (u : ℕ) (table : TableId) (me : Seated) → me ≡ (unit_view (first_unit o u), []) → 2 * u + 1 < table.slots
    → u < MOST_UNITS → IsUnit table u 0 0 0 0 me
first_unit_is o u table me is inside small = subst (IsUnit table u 0 0 0 0) (sym is) (record {
  whole = refl;
  number = refl;
  epoch_is = refl;
  entries_are = refl;
  newest_is = refl;
  durable_is = refl;
  rests = λ e. refl;
  slot = inside;
  small = small;
  begun = λ e. absurd (cc);
  last = omega arith;
})

pub units_dealt : (t z : TableId) (o : Opening) (n : ℕ) (old new : List UnitShown) (me : Seated) → old ≡ dealt_units t o n
    → new ≡ old ++ record { table = z; known = the_unit me.0 } ∷ [] → z ≡ t → me ≡ (unit_view (first_unit o n), [])
    → new ≡ dealt_units t o (n + 1)
units_dealt t z o n old new me was push same is =
    let more : n + 1 ≡ suc n = omega arith in
    push ∙ (λ j. was j ++ record { table = same j; known = the_unit (is j).0 } ∷ []) ∙ sym (ap (dealt_units t o) more)

-- ---- callers
module _ (o : Opening) (i k : ℕ) (low : k < o.callers) where
  abbrev callers_behind : List CallerKnown
  callers_behind = callers_from o (k + 1) (o.callers - (k + 1))

  abbrev units_kept : List UnitKnown
  units_kept = units_from o i (units_of o.layout - i)

  next_caller : view_without o i k ≡ with_parts o units_kept (first_caller o k ∷ callers_behind)
  next_caller = ap (with_parts o units_kept) (callers_more o o.callers k low)

  pub deals_caller : (key : Opening) (seat : ℕ) (m : Seated) → key ≡ o → m ≡ (view_without o i k, [])
      → Splits (ShowsCore key) seat m.0 (without_first_caller m.0) (only_first_caller m.0)
  deals_caller key seat m same is =
      subst (λ (z : Opening × View). Splits (ShowsCore z.0) seat z.1 (without_first_caller z.1) (only_first_caller z.1))
      (λ j. (sym same j, sym (ap (λ (x : Seated). x.0) is ∙ next_caller) j))
      (splits_caller o seat units_kept (first_advancer o ∷ []) (first_caller o k) callers_behind []
      (callers_apart o k (k + 1) (o.callers - (k + 1)) (omega arith)))

  pub caller_left : (m n : Seated) → m ≡ (view_without o i k, []) → n ≡ (without_first_caller m.0, m.1) → n ≡ (view_without o i (k + 1), [])
  caller_left m n is left = left ∙ ap (λ (x : Seated). (without_first_caller x.0, x.1)) is
      ∙ ap (λ (v : View). (without_first_caller v, [])) next_caller

  pub caller_given : (m r : Seated) → m ≡ (view_without o i k, []) → r ≡ (only_first_caller m.0, [])
      → r ≡ (caller_view (first_caller o k), [])
  caller_given m r is right = right ∙ ap (λ (x : Seated). (only_first_caller x.0, [])) is
      ∙ ap (λ (v : View). (only_first_caller v, [])) next_caller

pub first_caller_is : (o : Opening) (k : ℕ) (table : TableId) (fronts synced : List ℕ) (me : Seated)
    → me ≡ (caller_view (first_caller o k), [])
    → fronts ≡ replicate (units_of o.layout) 0 → synced ≡ replicate (units_of o.layout) 0 → table.slots ≡ 2 * units_of o.layout
    → IsCaller table k (record { calls = 0; newest = 0; durable = 0 }) fronts synced me
first_caller_is o k table fronts synced me is zero_fronts zero_synced slots =
    let count = ap length zero_fronts ∙ length-replicate (units_of o.layout) 0 in
    let other = ap length zero_synced ∙ length-replicate (units_of o.layout) 0 in
    subst (IsCaller table k (record { calls = 0; newest = 0; durable = 0 }) fronts synced) (sym is) (record {
      whole = refl;
      number_is = refl;
      calls_are = refl;
      answered = refl;
      newest_is = refl;
      durable_is = refl;
      fronts_are = zero_fronts;
      synced_are = zero_synced;
      as_many = other ∙ sym count;
      slots = omega (arith, slots, count);
    })

pub callers_dealt : (t z : TableId) (o : Opening) (n : ℕ) (old new : List CallerShown) (me : Seated) → old ≡ dealt_callers t o n
    → new ≡ old ++ record { table = z; known = the_caller me.0 } ∷ [] → z ≡ t → me ≡ (caller_view (first_caller o n), [])
    → new ≡ dealt_callers t o (n + 1)
callers_dealt t z o n old new me was push same is =
    let more : n + 1 ≡ suc n = omega arith in
    push ∙ (λ j. was j ++ record { table = same j; known = the_caller (is j).0 } ∷ []) ∙ sym (ap (dealt_callers t o) more)

-- ---- the advancer, whose seat is what is left
all_dealt : (o : Opening) → view_without o (units_of o.layout) o.callers ≡ advancer_view (first_advancer o)
all_dealt o =
    let none : units_of o.layout - units_of o.layout ≡ 0 = omega arith in
    let nobody : o.callers - o.callers ≡ 0 = omega arith in
    λ j. with_parts o (units_from o (units_of o.layout) (none j)) (callers_from o o.callers (nobody j))

pub seat_left : (o : Opening) (me : Seated) → me ≡ (view_without o (units_of o.layout) o.callers, [])
    → me ≡ (advancer_view (first_advancer o), [])
seat_left o me is = is ∙ ap (λ (v : View). (v, [])) (all_dealt o)

pub first_advancer_is : (o : Opening) (table : TableId) (clock : ℕ) (me : Seated) → me ≡ (advancer_view (first_advancer o), [])
    → clock ≡ clock_of o.words → clock ≤ LAST → IsLayout o.layout → table.slots ≡ 2 * units_of o.layout
    → IsAdvancer table Rest clock clock 0 me
first_advancer_is o table clock me is same last layout slots =
    let some = layout.kinds.some in
    subst (IsAdvancer table Rest clock clock 0) (sym is) (record {
      whole = refl;
      part_is = refl;
      clock_is = same;
      durable_is = same;
      emptied_is = refl;
      below = omega arith;
      list_count = length-replicate (units_of o.layout) [];
      place = omega (arith, some);
      field = omega arith;
      slots = slots;
      few = layout.kinds.few;
      last = last;
      kept = λ _. refl;
    })
