-- How an engine begins, and with which seats its heap stops.
use Rattle.std.proofs.Common.{◌≡◌, ◌∙◌, ap, sym, subst, refl, ℕ, zero, suc, ◌<◌, List, [], ◌∷◌, ◌++◌, length, length-append, arith, ◌+◌, slice_index_or}
use Rattle.std.specs.Prelude.{IsTrue, false}
use Rattle.std.proofs.lemmas.List.Elements.{All-tail, All-cons}
use Rattle.std.proofs.lemmas.Option.{same_Some}
use Rattle.std.specs.List.{remove, insert}
use Rattle.std.proofs.lemmas.List.{length-replicate}
use Rattle.mont_base.specs.declared.record.Held.{Held}
use Rattle.mont_base.specs.Layout.{Shape, units_of}
use Rattle.mont_laws.specs.Records.{AreSameRecords}
use Rattle.mont_laws.specs.Retiring.{retired_among}
use Rattle.mont_laws.proofs.Members.{no_element, first_element}
use Rattle.core_steps.specs.declared.parts.UnitPart.{UnitPart}
use Rattle.core_steps.specs.Fresh.{fresh_unit}
use Rattle.core_steps.specs.Opened.{by_version}
use Rattle.core_steps.proofs.VersionOrder.{versions_same}
use Rattle.heap_rule.specs.declared.rule.Opening.{Opening}
use Rattle.heap_rule.specs.Views.{first_unit, first_advancer, first_caller, are_clean, clean_at}
use Rattle.heap.specs.HeapShown.{HeapShown, UnitShown, AdvShown, CallerShown}
use Rattle.heap.specs.FreshOpening.{fresh_opening, OpensEmpty}
use Rattle.heap.specs.Opens.{Opens, dealt_units}
use Rattle.core_steps.specs.Places.{EachAt}
use Rattle.heap.specs.Stops.{AreAllSeats, AreAtHome, IsSeatOfUnit, IsSeatOfCaller}
use Rattle.heap.proofs.AllSeats.{opened_are_all, opened_at_home}
use Rattle.slots.specs.RegionBeginning.{BeginsWith, fresh_books}
use Rattle.slots.specs.Books.{BooksShown, Agrees, IsAtRest}
use Rattle.heap_pass.specs.OfLayout.{IsOfLayout}
use Rattle.machine_cases.specs.declared.engine.Engine.{Engine}
use Rattle.machine_cases.specs.Working.{AreOthers, IsIdle}

-- ---- the seats that were dealt
-- the first of a list that was taken out
pub first_out : {A : Type 0} (xs rest : List A) (x : A) → 0 < length xs → x ≡ slice_index_or xs 0 x → rest ≡ remove xs 0 → xs ≡ x ∷ rest
first_out [] rest x some is left = absurd (omega arith)
first_out (y ∷ ys) rest x some is left = λ i. sym is i ∷ sym left i

module _ (heap : HeapShown) (o : Opening) where
  abbrev seat_at : ℕ → UnitShown
  seat_at u = record { table = heap.table; known = first_unit o u }

  -- the first seat is unit 0's
  first_dealt : (n : ℕ) → (rest : List UnitShown) × (dealt_units heap.table o (suc n) ≡ seat_at 0 ∷ rest)
  first_dealt zero = ([], refl)
  first_dealt (suc n) = let before = first_dealt n in
      (before.0 ++ seat_at (suc n) ∷ [], ap (λ (l : List UnitShown). l ++ seat_at (suc n) ∷ []) before.1)

  first_of : (n : ℕ) (seat : UnitShown) (rest : List UnitShown) → seat ∷ rest ≡ dealt_units heap.table o n → (seat ≡ seat_at 0) × (0 < n)
  first_of zero seat rest are = absurd (cc)
  first_of (suc n) seat rest are = let first = (first_dealt n).1 in let both : seat ∷ rest ≡ seat_at 0 ∷ (first_dealt n).0 = are ∙ first in
      (cc, omega arith)

-- nothing waits where there is no record
none_of_none : (rs : List Held) → AreSameRecords [] rs → rs ≡ []
none_of_none [] same = refl
none_of_none (r ∷ rs) same = absurd (no_element r ((same r).1 (first_element r rs)))

none_waits : retired_among (by_version []) ≡ []
none_waits = ap retired_among (none_of_none (by_version []) (versions_same [] (λ i j d low high. absurd (omega arith))))

-- the last of one
only_caller : {A : Type 0} (mid xs : List A) (x c : A) → xs ≡ mid ++ x ∷ [] → xs ≡ c ∷ [] → (x ≡ c) × (mid ≡ [])
only_caller [] xs x c is are = let both : x ∷ [] ≡ c ∷ [] = sym is ∙ are in (cc, refl)
only_caller (m ∷ mid) xs x c is are =
    let more = length-append (m ∷ mid) (x ∷ []) in
    let one = ap length (sym is ∙ are) in absurd (omega (arith, more, one))

-- ---- the beginning
module _ (s : Shape) (heap : HeapShown) (units rest : List UnitShown) (seat : UnitShown) (advancer : AdvShown)
    (callers mid : List CallerShown) (ticket : CallerShown) (opens : Opens (fresh_opening s 1) heap units advancer callers)
    (empty : OpensEmpty s 1) (of_units : units ≡ seat ∷ rest) (of_callers : callers ≡ mid ++ ticket ∷ []) where
  abbrev o : Opening
  o = fresh_opening s 1

  abbrev no_list : List ℕ
  no_list = []

  the_seat : (seat ≡ record { table = heap.table; known = first_unit o 0 }) × (0 < units_of s)
  the_seat = first_of heap o (units_of s) seat rest (sym of_units ∙ opens.each_unit)

  the_ticket : (ticket ≡ record { table = heap.table; known = first_caller o 0 }) × (mid ≡ [])
  the_ticket = only_caller mid callers ticket (record { table = heap.table; known = first_caller o 0 }) of_callers opens.each_caller

  pub some_units : 0 < units_of s
  some_units = the_seat.1

  the_part : seat.known.part ≡ fresh_unit
  the_part = ap (λ (u : UnitShown). u.known.part) the_seat.0 ∙ empty.each_unit 0 some_units

  pub seat_begins : BeginsWith seat.known.part [] []
  seat_begins = subst (λ (p : UnitPart). BeginsWith p [] []) (sym the_part) (record {
    rests = record { stage = refl; written = refl; writing = refl };
    frozen = refl;
    history = refl;
    records_are = refl;
    retired = sym none_waits;
    lost_are = refl;
  })

  of_layout : IsOfLayout s (first_advancer o)
  of_layout = record { units = refl; room = refl; lists = length-replicate (units_of s) no_list }

  pub of_first : seat.known.unit ≡ 0
  of_first = ap (λ (u : UnitShown). u.known.unit) the_seat.0

  all : AreAllSeats heap (seat ∷ rest) advancer callers
  all = subst (λ (l : List UnitShown). AreAllSeats heap l advancer callers) of_units (opened_are_all o heap units advancer callers opens)

  others_are : AreOthers heap rest
  others_are = record {
    count = let n = all.unit_count in omega (arith, n);
    each = λ i s e. all.each_unit (suc i) s e;
    home = All-tail (λ (s : UnitShown). s.known.turn.out ≡ false) seat rest
        (subst AreAtHome of_units (opened_at_home o heap units advancer callers opens));
  }

  pub begins_idle :
      (e : Engine) → e.heap ≡ heap → e.region.seat ≡ seat → e.region.books ≡ fresh_books s 0 → Agrees e.region → e.others.items ≡ rest
      → e.advancer ≡ advancer → e.pass.ticket ≡ ticket → IsIdle e
  begins_idle e h u books agrees others a q =
      let of_heap : e.heap.opening ≡ o = ap (λ (x : HeapShown). x.opening) h ∙ opens.opening in
      let table : heap.table ≡ e.heap.table = ap (λ (x : HeapShown). x.table) (sym h) in
      let clean : IsTrue (are_clean (units_of e.heap.opening.layout) (clean_at o)) =
      subst (λ (x : Opening). IsTrue (are_clean (units_of x.layout) (clean_at o))) (sym of_heap) empty.clean in
      let of_seat = u ∙ the_seat.0 in
      let of_advancer = a ∙ opens.the_advancer in
      let of_ticket = q ∙ the_ticket.0 in
      record {
        stops = record {
          of_region = ap (λ (x : UnitShown). x.table) of_seat ∙ table;
          first = ap (λ (x : UnitShown). x.known.unit) of_seat;
          home = ap (λ (x : UnitShown). x.known.turn.out) of_seat;
          others = subst (λ (x : HeapShown × List UnitShown). AreOthers x.0 x.1) (λ i. (sym h i, sym others i)) others_are;
          of_advancer = ap (λ (x : AdvShown). x.table) of_advancer ∙ table;
          of_caller = ap (λ (x : CallerShown). x.table) of_ticket ∙ table;
          caller = ap (λ (x : CallerShown). x.known.caller) of_ticket;
          one = ap (λ (x : Opening). x.callers) of_heap;
        };
        ready = record {
          runs = record {
            of_heap = record {
              table = ap (λ (x : UnitShown). x.table) of_seat ∙ table;
              layout = ap (λ (b : BooksShown). b.layout) books ∙ ap (λ (x : Opening). x.layout) (sym of_heap);
            };
            agrees = agrees;
            running = ap (λ (b : BooksShown). b.halted) books;
            clean = subst (λ (x : UnitShown). IsTrue (are_clean (units_of e.heap.opening.layout) x.known.clean)) (sym of_seat) clean;
          };
          rests = subst (λ (x : UnitShown). IsAtRest x.known.part) (sym u) seat_begins.rests;
          home = ap (λ (x : UnitShown). x.known.turn) of_seat;
        };
        advancer = record {
          table = ap (λ (x : AdvShown). x.table) of_advancer ∙ table;
          layout = subst (λ (x : AdvShown × Opening). IsOfLayout x.1.layout x.0.known)
              (λ i. (sym of_advancer i, sym of_heap i)) of_layout;
          clean = subst (λ (x : AdvShown). IsTrue (are_clean (units_of e.heap.opening.layout) x.known.clean)) (sym of_advancer) clean;
        };
      }

-- ---- the end
module _ (heap : HeapShown) (rest units : List UnitShown) (seat : UnitShown) (advancer : AdvShown) (ticket : CallerShown)
    (others : AreOthers heap rest) (gathered : units ≡ insert rest 0 seat) where
  pub all_gathered : (tickets : List CallerShown) → tickets ≡ ticket ∷ [] → seat.table ≡ heap.table → seat.known.unit ≡ 0
      → advancer.table ≡ heap.table → ticket.table ≡ heap.table → ticket.known.caller ≡ 0 → heap.opening.callers ≡ 1
      → AreAllSeats heap units advancer tickets
  all_gathered tickets are of_seat first of_advancer of_caller caller one =
      subst (λ (x : List UnitShown × List CallerShown). AreAllSeats heap x.0 advancer x.1) (λ i. (sym gathered i, sym are i)) (record {
        unit_count = let n = others.count in omega (arith, n);
        each_unit = each;
        the_advancer = of_advancer;
        caller_count = sym one;
        each_caller = callers;
      }) where
        each : EachAt (IsSeatOfUnit heap) (seat ∷ rest)
        each zero s e = let is : seat ≡ s = same_Some seat s e in
            subst (IsSeatOfUnit heap 0) is (of_seat, first)
        each (suc i) s e = others.each i s e

        callers : EachAt (IsSeatOfCaller heap) (ticket ∷ [])
        callers zero q e = let is : ticket ≡ q = same_Some ticket q e in
            subst (IsSeatOfCaller heap 0) is (of_caller, caller)
        callers (suc i) q e = absurd (cc)

  pub home_gathered : seat.known.turn.out ≡ false → AreAtHome units
  home_gathered home = subst AreAtHome (sym gathered)
      (All-cons (λ (s : UnitShown). s.known.turn.out ≡ false) seat rest home others.home)
