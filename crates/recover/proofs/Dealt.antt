-- The seats of a heap that was opened, by their numbers.
use Rattle.std.proofs.Common.{◌≡◌, ℕ, zero, suc, ◌<◌, ◌≤◌, false, List, [], ◌∷◌, ◌++◌, length, get_or, refl, sym, ap, ◌∙◌, subst, arith, length-append, map}
use Rattle.std.specs.Prelude.{slice_get, Some}
use Rattle.std.proofs.lemmas.List.{length-replicate, length-map}
use Rattle.std.proofs.lemmas.Option.{slice_get_read}
use Rattle.mont_base.specs.declared.record.Object.{Object}
use Rattle.mont_base.specs.Image.{clock_of, records_of, IsRecovered, IsWellFormed}
use Rattle.mont_base.specs.Layout.{Shape, units_of}
use Rattle.mont_base.specs.Versions.{live_objects}
use Rattle.plain.specs.States.{states_of}
use Rattle.core_steps.specs.Places.{EachAt}
use Rattle.core_steps.proofs.RowFacts.{each_push, row_of_map}
use Rattle.heap_rule.specs.declared.rule.Opening.{Opening}
use Rattle.heap_rule.specs.Views.{first_unit, first_advancer, first_caller}
use Rattle.heap.specs.HeapShown.{HeapShown, UnitShown, AdvShown, CallerShown}
use Rattle.heap.specs.Opens.{dealt_units, dealt_callers, Opens}
use Rattle.slots.specs.Books.{RegionShown}
use Rattle.recover.specs.FoundTicket.{IsTicketFound}
use Rattle.image_units.specs.declared.found.FoundUnit.{FoundUnit}
use Rattle.image_units.specs.declared.found.FoundImage.{FoundImage}
use Rattle.image_units.specs.Found.{AreFoundUnits, IsFoundImage, IsFoundUnit}
use Rattle.recover.specs.Recovery.{IsAdvancerFound, IsRecovery, IsRegionOpened}

module _ (heap : HeapShown) where
  abbrev pub unit_first : ℕ → UnitShown
  unit_first u = record { table = heap.table; known = first_unit heap.opening u }

  abbrev pub caller_first : ℕ → CallerShown
  caller_first k = record { table = heap.table; known = first_caller heap.opening k }

  pub units_many : (n : ℕ) → length (dealt_units heap.table heap.opening n) ≡ n
  units_many zero = refl
  units_many (suc n) =
      let more = length-append (dealt_units heap.table heap.opening n) (unit_first n ∷ []) in
      omega (arith, more, units_many n)

  pub callers_many : (n : ℕ) → length (dealt_callers heap.table heap.opening n) ≡ n
  callers_many zero = refl
  callers_many (suc n) =
      let more = length-append (dealt_callers heap.table heap.opening n) (caller_first n ∷ []) in
      omega (arith, more, callers_many n)

  abbrev pub IsFirstUnit : ℕ → UnitShown → Type 0
  IsFirstUnit u s = s ≡ unit_first u

  pub each_unit : (n : ℕ) → EachAt IsFirstUnit (dealt_units heap.table heap.opening n)
  each_unit zero = λ u s e. absurd (cc)
  each_unit (suc n) =
      each_push IsFirstUnit (dealt_units heap.table heap.opening n) (unit_first n) (each_unit n)
      (ap unit_first (sym (units_many n)))

  ticket_first : (k : ℕ) → IsTicketFound heap k (caller_first k)
  ticket_first k = record { table = refl; caller = refl; calls = refl; receipts = refl; cuts = refl }

  pub each_ticket : (n : ℕ) → EachAt (IsTicketFound heap) (dealt_callers heap.table heap.opening n)
  each_ticket zero = λ k t e. absurd (cc)
  each_ticket (suc n) =
      each_push (IsTicketFound heap) (dealt_callers heap.table heap.opening n) (caller_first n) (each_ticket n)
      (subst (λ (k : ℕ). IsTicketFound heap k (caller_first n)) (sym (callers_many n)) (ticket_first n))

  advancer_first : IsAdvancerFound heap (record { table = heap.table; known = first_advancer heap.opening })
  advancer_first = record {
    table = refl;
    part = refl;
    turn = refl;
    clock = refl;
    durable = refl;
    units = refl;
    room = refl;
    lists = length-replicate (units_of heap.opening.layout) [];
  }

-- the seat that comes next among those that were dealt
pub seat_here : (heap : HeapShown) (all done old new : List UnitShown) (seat : UnitShown) (n m : ℕ)
    → all ≡ dealt_units heap.table heap.opening n → done ++ old ≡ all → old ≡ seat ∷ new → m ≡ length done → seat ≡ unit_first heap m
seat_here heap all done old new seat n m are is next at =
    let rest : done ++ seat ∷ new ≡ all = ap (λ (l : List UnitShown). done ++ l) (sym next) ∙ is in
    let there : slice_get (dealt_units heap.table heap.opening n) (length done) ≡ Some seat =
    ap (λ (l : List UnitShown). slice_get l (length done)) (sym are ∙ sym rest) ∙ here done seat new in
    subst (λ (k : ℕ). seat ≡ unit_first heap k) (sym at) (each_unit heap n (length done) seat there)
  where
    here : (done : List UnitShown) (seat : UnitShown) (new : List UnitShown) → slice_get (done ++ seat ∷ new) (length done) ≡ Some seat
    here [] seat new = refl
    here (d ∷ done) seat new = here done seat new

-- ---- all parts
module _ (o : Opening) (heap : HeapShown) (units : List UnitShown) (advancer : AdvShown) (callers : List CallerShown)
    (opens : Opens o heap units advancer callers) where
  opened : Opens heap.opening heap units advancer callers
  opened = subst (λ (x : Opening). Opens x heap units advancer callers) (sym opens.opening) opens

  pub units_dealt : units ≡ dealt_units heap.table heap.opening (units_of heap.opening.layout)
  units_dealt = opened.each_unit

  pub tickets_found : EachAt (IsTicketFound heap) callers
  tickets_found = subst (EachAt (IsTicketFound heap)) (sym opened.each_caller) (each_ticket heap heap.opening.callers)

  pub tickets_many : length callers ≡ heap.opening.callers
  tickets_many = ap length opened.each_caller ∙ callers_many heap heap.opening.callers

  pub advancer_found : IsAdvancerFound heap advancer
  advancer_found = subst (IsAdvancerFound heap) (sym opened.the_advancer) (advancer_first heap)

-- ---- a seat's place, and what was found of its unit
pub place_inside : {A : Type 0} (all done old new : List A) (x : A) (n : ℕ) → done ++ old ≡ all → old ≡ x ∷ new → length all ≡ n
    → length done < n
place_inside all done old new x n is next many =
    let whole : length (done ++ old) ≡ length all = ap length is in
    let more = length-append done old in
    let one : length old ≡ length (x ∷ new) = ap length next in
    omega (arith, whole, more, one, many)

pub found_at : (s : Shape) (image : List ℕ) (found : List FoundUnit) (u : ℕ) (f : FoundUnit) → AreFoundUnits s image found
    → u < length found → f ≡ get_or found u f → IsFoundUnit s image u f
found_at s image found u f each low is = each u f (slice_get_read found (length found) u f refl low is)

-- ---- objects
module _ (s : Shape) (image : List ℕ) (found : List FoundUnit) (each : AreFoundUnits s image found) where
  objects_at : (u : ℕ) (objects : List Object) → slice_get (map (λ (f : FoundUnit). f.objects) found) u ≡ Some objects
      → objects ≡ live_objects (records_of s image u)
  objects_at u objects e =
      let f = row_of_map (λ (f : FoundUnit). f.objects) found u objects e in
      sym f.2 ∙ (each u f.0 f.1).objects

-- ---- a store that is opened
pub recovery_opened : (o : Opening) (heap : HeapShown) (units : List UnitShown) (advancer : AdvShown) (callers : List CallerShown)
    (regions : List RegionShown) (found : FoundImage) (objects : List (List Object)) (clock : ℕ)
    → Opens o heap units advancer callers → IsWellFormed o.layout o.words → IsFoundImage o.layout o.words found
    → objects ≡ map (λ (f : FoundUnit). f.objects) found.units → clock ≡ clock_of o.words → 1 ≤ o.callers
    → length regions ≡ units_of heap.opening.layout → EachAt (IsRegionOpened heap) regions
    → IsRecovery clock (states_of found.contents) objects
    (record { heap = heap; regions = regions; tickets = callers; advancer = advancer; swept = false })
recovery_opened o heap units advancer callers regions found objects clock opens well is live first some many each = record {
  accepted = subst (λ (x : Opening). IsWellFormed x.layout x.words) (sym opens.opening) well;
  base = subst (λ (x : Opening). IsRecovered x.layout x.words (states_of found.contents)) (sym opens.opening) is.contents;
  clock_is = first ∙ ap (λ (x : Opening). clock_of x.words) (sym opens.opening);
  object_count = ap length live ∙ (length-map found.units (λ (f : FoundUnit). f.objects)
      ∙ (is.many ∙ ap (λ (x : Opening). units_of x.layout) (sym opens.opening)));
  objects = λ u os e. objects_at o.layout o.words found.units is.each u os (sym (ap (λ (l : List (List Object)). slice_get l u) live) ∙ e)
      ∙ ap (λ (x : Opening). live_objects (records_of x.layout x.words u)) (sym opens.opening);
  unit_count = many;
  regions = λ u r e. (each u r e).found;
  some_callers = subst (λ (x : Opening). 1 ≤ x.callers) (sym opens.opening) some;
  caller_count = tickets_many o heap units advancer callers opens;
  tickets = tickets_found o heap units advancer callers opens;
  advancer = advancer_found o heap units advancer callers opens;
  swept = λ e. absurd (cc);
}
