-- What the seats of a store that was never used show.
use Rattle.std.proofs.Common.{◌≡◌, ℕ, zero, suc, ◌+◌, ◌≤◌, ◌<◌, List, [], ◌∷◌, ◌++◌, length, refl, sym, ap, ◌∙◌, subst, arith, length-append}
use Rattle.std.specs.Prelude.{map, IsTrue, All, slice_get, Option, Some, None, IsSome, Box}
use Rattle.std.specs.Option.{option_to_list}
use Rattle.std.proofs.lemmas.Bool.{false≢true}
use Rattle.std.proofs.lemmas.List.{length-replicate}
use Rattle.std.proofs.lemmas.List.Elements.{All-nil, All-push, All-head, All-tail, All-cons}
use Rattle.mont_base.specs.declared.constants.TheConstants.{FIRST_CLOCK}
use Rattle.mont_base.specs.declared.gate.Gate.{Ghosts}
use Rattle.mont_base.specs.declared.record.Held.{Held}
use Rattle.mont_base.specs.Image.{clock_of, empty_states, records_of, IsRecovered}
use Rattle.mont_base.specs.State.{State}
use Rattle.mont_base.specs.Layout.{Shape, IsLayout, kind_of, units_of}
use Rattle.core_steps.specs.declared.parts.UnitPart.{UnitPart}
use Rattle.core_steps.specs.Fresh.{fresh_unit, fresh_words}
use Rattle.core_steps.specs.Opened.{recovered_unit, by_version}
use Rattle.mont_laws.specs.Retiring.{retired_among}
use Rattle.heap_rule.specs.declared.rule.Opening.{Opening}
use Rattle.heap_rule.specs.Views.{first_unit, first_caller, first_advancer, are_clean, clean_at}
use Rattle.core_steps.specs.Places.{EachAt}
use Rattle.core_steps.proofs.RowFacts.{each_push}
use Rattle.heap.specs.FreshOpening.{fresh_opening, OpensEmpty}
use Rattle.heap.specs.HeapShown.{HeapShown, UnitShown, AdvShown, CallerShown}
use Rattle.heap.specs.Opens.{dealt_units, dealt_callers, Opens}
use Rattle.heap.proofs.AllSeats.{opened_are_all}
use Rattle.heap.proofs.EmptyStores.{opens_empty}
use Rattle.heap_rule.specs.declared.views.UnitKnown.{UnitKnown}
use Rattle.mont_laws.specs.Records.{live_of}
use Rattle.slots.specs.RegionBeginning.{BeginsWith, fresh_books}
use Rattle.slots.specs.Books.{RegionShown, BooksShown, Agrees}
use Rattle.structure_call.specs.CountedNumbers.{HasCounted, records_opened}
use Rattle.structure_call.specs.Standing.{IsIdle, IsStanding}
use Rattle.structure_call.proofs.Counted.{fresh_are_counted}
use Rattle.store.specs.FreshStore.{IsFirstSeat, AreFirstSeats, AreUnitsFrom, IsFreshHeap, IsNeverUsed}
use Rattle.store.specs.declared.unit_structure.Structure.{Structure}
use Rattle.store.specs.Store.{AreAllCallers, IsFirstPass}
use Rattle.store.specs.UnitAt.{region_of, structure_kind, IsSeated, StandsAt, FitsNumber}
use Rattle.store.proofs.AskedKeys.{is_its_kind}
use Rattle.store.proofs.UnitStands.{seated_by}
use Rattle.store_stop.specs.Headline.{IsBaseOf}
use Rattle.heap_pass.specs.declared.pass.Pass.{Pass}
use Rattle.heap_pass.specs.OfHeap.{IsAdvancerOf}
use Rattle.caller.specs.Continued.{IsUnanswered}
use Rattle.heap_rule.specs.declared.views.AdvKnown.{AdvKnown}
use Rattle.advance.specs.Stage.{IsAtRest}

-- ---- one after the other
module _ (heap : HeapShown) where
  many_dealt : (n : ℕ) → length (dealt_units heap.table heap.opening n) ≡ n
  many_dealt zero = refl
  many_dealt (suc n) =
      let x : UnitShown = record { table = heap.table; known = first_unit heap.opening n } in
      let more = length-append (dealt_units heap.table heap.opening n) (x ∷ []) in
      omega (arith, more, many_dealt n)

  each_dealt : (n : ℕ) → n ≤ units_of heap.opening.layout → EachAt (IsFirstSeat heap) (dealt_units heap.table heap.opening n)
  each_dealt zero low = λ i x e. absurd (cc)
  each_dealt (suc n) low =
      each_push (IsFirstSeat heap) (dealt_units heap.table heap.opening n)
      (record { table = heap.table; known = first_unit heap.opening n })
      (each_dealt n (omega (arith, low)))
      (subst (λ (k : ℕ). IsFirstSeat heap k (record { table = heap.table; known = first_unit heap.opening n })) (sym (many_dealt n))
      (record { inside = omega (arith, low); shows = refl }))

-- the structures of all units, by their numbers
pub units_from : {I Z : Type 0} (heap : HeapShown) (n : ℕ) (bs : List (Box (Structure I) Z)) → n + length bs ≡ units_of heap.opening.layout
    → ((i : ℕ) (b : Box (Structure I) Z) → slice_get bs i ≡ Some b → StandsAt heap (n + i) b.value) → AreUnitsFrom heap n bs
units_from heap n [] many each = omega (arith, many)
units_from heap n (b ∷ bs) many each = (
  subst (λ (k : ℕ). StandsAt heap k b.value) (omega arith) (each 0 b refl),
  units_from heap (suc n) bs (omega (arith, many)) (λ i t e. subst (λ (k : ℕ). StandsAt heap k t.value) (omega arith) (each (suc i) t e)),
)

-- the next of them is that of its number, if there is one
pub next_fits : {I Z : Type 0} (heap : HeapShown) (n : ℕ) (old new : List (Box (Structure I) Z)) (found : Option (Box (Structure I) Z))
    → old ≡ option_to_list found ++ new → (0 < length old → IsSome found) → AreUnitsFrom heap n old
    → FitsNumber heap n found × AreUnitsFrom heap (n + 1) new
next_fits heap n [] new None items some k =
    (k, subst (AreUnitsFrom heap (n + 1)) items (omega (arith, k)))
next_fits heap n (b ∷ old) new None items some k = absurd (false≢true (some (omega arith)))
next_fits heap n old new (Some b) items some k =
    let both : AreUnitsFrom heap n (b ∷ new) = subst (AreUnitsFrom heap n) items k in
    (both.0, subst (λ (m : ℕ). AreUnitsFrom heap m new) (omega arith) both.1)

-- the ticket of a caller that was neither answered nor cut yet
pub record IsFirstTicket (heap : HeapShown) (t : CallerShown) : Type 0 where
  pub own : t.table ≡ heap.table
  pub unanswered : IsUnanswered t.known
  pub uncut : t.known.part.cuts ≡ []

dealt_are_first : (heap : HeapShown) (n : ℕ) → All (IsFirstTicket heap) (dealt_callers heap.table heap.opening n)
dealt_are_first heap zero = All-nil (IsFirstTicket heap)
dealt_are_first heap (suc n) =
    All-push (IsFirstTicket heap) (dealt_callers heap.table heap.opening n)
    (record { table = heap.table; known = first_caller heap.opening n }) (dealt_are_first heap n)
    (record { own = refl; unanswered = record { calls = refl; receipts = refl }; uncut = refl })

-- A pass without receipts has all of a ticket that was answered nothing.
module _ {G : Type 0} {gate : Ghosts G} (heap : HeapShown) where
  first_pass : (p : Pass G gate) → IsFirstTicket heap p.ticket → p.receipts.items ≡ [] → IsFirstPass heap p
  first_pass p first empty = record {
    own = record { own = first.own; whole = empty ∙ sym first.unanswered.receipts };
    unanswered = first.unanswered;
    uncut = first.uncut;
  }

  pub fresh_passes : (ps : List (Pass G gate)) → All (IsFirstTicket heap) (map (λ (p : Pass G gate). p.ticket) ps)
      → All (λ (p : Pass G gate). p.receipts.items ≡ []) ps → All (IsFirstPass heap) ps
  fresh_passes [] first empty = All-nil (IsFirstPass heap)
  fresh_passes (p ∷ ps) first empty =
      let tickets = map (λ (q : Pass G gate). q.ticket) ps in
      All-cons (IsFirstPass heap) p ps
      (first_pass p (All-head (IsFirstTicket heap) p.ticket tickets first)
      (All-head (λ (q : Pass G gate). q.receipts.items ≡ []) p ps empty))
      (fresh_passes ps (All-tail (IsFirstTicket heap) p.ticket tickets first)
      (All-tail (λ (q : Pass G gate). q.receipts.items ≡ []) p ps empty))

-- ---- what a unit's seat shows
module _ (s : Shape) (layout : IsLayout s) (callers u : ℕ) (low : u < units_of s) where
  abbrev part : UnitPart
  part = recovered_unit s (fresh_words s) u

  is_fresh : part ≡ fresh_unit
  is_fresh = (opens_empty s layout callers).each_unit u low

  pub begins_with_nothing : BeginsWith (first_unit (fresh_opening s callers) u).part [] []
  begins_with_nothing = record {
    rests = record {
      stage = ap (λ (p : UnitPart). p.stage) is_fresh;
      written = ap (λ (p : UnitPart). p.written) is_fresh;
      writing = ap (λ (p : UnitPart). p.writing) is_fresh;
    };
    frozen = ap (λ (p : UnitPart). p.frozen) is_fresh;
    history = ap (λ (p : UnitPart). p.history) is_fresh;
    records_are = ap (λ (p : UnitPart). p.records) is_fresh;
    retired = ap (λ (rs : List Held). retired_among (by_version rs)) (ap (λ (p : UnitPart). p.records) is_fresh);
    lost_are = ap (λ (p : UnitPart). p.lost) is_fresh;
  }

  pub knows_all_clean : IsTrue (are_clean (units_of s) (first_unit (fresh_opening s callers) u).clean)
  knows_all_clean = (opens_empty s layout callers).clean

-- ---- a heap that was never used
module _ (heap : HeapShown) (units : List UnitShown) (advancer : AdvShown) (callers : List CallerShown)
    (k : IsFreshHeap heap units advancer callers) where
  pub never_used : IsNeverUsed heap
  never_used = k.opens.opening ∙ ap (λ (o : Opening). fresh_opening o.layout o.callers) (sym k.opens.opening)

  opens : Opens heap.opening heap units advancer callers
  opens = subst (λ (o : Opening). Opens o heap units advancer callers) (sym k.opens.opening) k.opens

  pub seats_are_first : AreFirstSeats heap units
  seats_are_first = subst (AreFirstSeats heap) (sym opens.each_unit) (record {
    many = many_dealt heap (units_of heap.opening.layout);
    each = each_dealt heap (units_of heap.opening.layout) (omega arith);
  })

  pub tickets_are_first : All (IsFirstTicket heap) callers
  tickets_are_first = subst (All (IsFirstTicket heap)) (sym opens.each_caller) (dealt_are_first heap heap.opening.callers)

  pub as_many_callers : length callers ≡ heap.opening.callers
  as_many_callers = (opened_are_all heap.opening heap units advancer callers opens).caller_count

  pub all_callers : AreAllCallers heap callers
  all_callers = record {
    many = as_many_callers;
    each = (opened_are_all heap.opening heap units advancer callers opens).each_caller;
  }

  -- the advancer's seat
  pub advancer_is : advancer ≡ record { table = heap.table; known = first_advancer heap.opening }
  advancer_is = opens.the_advancer

  module _ (layout : IsLayout heap.opening.layout) where
    empty : OpensEmpty heap.opening.layout heap.opening.callers
    empty = opens_empty heap.opening.layout layout heap.opening.callers

    first_advancer_fits : IsAdvancerOf heap (record { table = heap.table; known = first_advancer heap.opening })
    first_advancer_fits = record {
      of_heap = record {
        of_table = refl;
        all_clean = subst (λ (o : Opening). IsTrue (are_clean (units_of o.layout) (clean_at o))) (sym never_used) empty.clean;
      };
      of_layout = record { units = refl; room = refl; lists = length-replicate (units_of heap.opening.layout) [] };
    }

    pub advancer_fits : IsAdvancerOf heap advancer
    advancer_fits = subst (IsAdvancerOf heap) (sym advancer_is) first_advancer_fits

    pub clock_is_first : clock_of heap.opening.words ≡ FIRST_CLOCK
    clock_is_first = ap (λ (o : Opening). clock_of o.words) never_used

    pub is_base : (clock : ℕ) (states : List State) → clock ≡ FIRST_CLOCK → states ≡ empty_states heap.opening.layout
        → IsBaseOf heap.opening clock states
    is_base clock states first none = record {
      clock_is = first ∙ sym clock_is_first;
      recovered = subst (IsRecovered heap.opening.layout heap.opening.words) (sym none)
          (subst (λ (o : Opening). IsRecovered heap.opening.layout o.words (empty_states heap.opening.layout)) (sym never_used) empty.base);
    }

-- ---- a unit in which nobody did anything yet
module _ (heap : HeapShown) (unit : ℕ) (s : UnitShown) (unused : IsNeverUsed heap) (k : IsFirstSeat heap unit s)
    (layout : IsLayout heap.opening.layout) where
  abbrev first : UnitKnown
  first = first_unit (fresh_opening heap.opening.layout heap.opening.callers) unit

  held_is : s.known ≡ first
  held_is = ap (λ (x : UnitShown). x.known) k.shows ∙ ap (λ (o : Opening). first_unit o unit) unused

  pub seat_of_unit : s.known.unit ≡ unit
  seat_of_unit = ap (λ (h : UnitKnown). h.unit) held_is

  pub seat_begins : BeginsWith s.known.part [] []
  seat_begins = subst (λ (h : UnitKnown). BeginsWith h.part [] []) (sym held_is)
      (begins_with_nothing heap.opening.layout layout heap.opening.callers unit k.inside)

  module _ (r : RegionShown) (seat : r.seat ≡ s) (books : r.books ≡ fresh_books heap.opening.layout unit) where
    idle : IsIdle first
    idle = record {
      rests = (begins_with_nothing heap.opening.layout layout heap.opening.callers unit k.inside).rests;
      home = refl;
    }

    pub first_stands : IsStanding heap r
    first_stands = record {
      of_heap = record {
        table = ap (λ (x : UnitShown). x.table) (seat ∙ k.shows);
        layout = ap (λ (b : BooksShown). b.layout) books;
      };
      clean = subst (λ (h : UnitKnown). IsTrue (are_clean (units_of heap.opening.layout) h.clean))
          (sym (ap (λ (x : UnitShown). x.known) seat ∙ held_is))
          (knows_all_clean heap.opening.layout layout heap.opening.callers unit k.inside);
      home = ap (λ (h : UnitKnown). h.turn.out) (ap (λ (x : UnitShown). x.known) seat ∙ held_is);
      idle = λ running. subst IsIdle (sym (ap (λ (x : UnitShown). x.known) seat ∙ held_is)) idle;
    }

    pub first_is_empty : (identity : ℕ) → live_of identity r.seat.known.part.records ≡ None
    first_is_empty identity =
        ap (λ (rs : List Held). live_of identity rs) (ap (λ (x : UnitShown). x.known.part.records) seat ∙ seat_begins.records_are)

    pub first_of_unit : r.books.unit ≡ unit
    first_of_unit = ap (λ (b : BooksShown). b.unit) books

    -- nothing was stored in it
    none_opened : records_opened heap unit ≡ []
    none_opened =
        ap (λ (o : Opening). records_of o.layout o.words unit) unused
        ∙ ap (λ (p : UnitPart). p.records) (is_fresh heap.opening.layout layout heap.opening.callers unit k.inside)

    first_counted : HasCounted heap r
    first_counted =
        fresh_are_counted heap r (ap (records_opened heap) first_of_unit ∙ none_opened)
        (books ∙ ap (fresh_books heap.opening.layout) (sym first_of_unit))
        (subst (λ (x : UnitShown). BeginsWith x.known.part [] []) (sym seat) seat_begins)

    pub first_stands_at : {I : Type 0} → Agrees r → (s : Structure I) → region_of s ≡ r
        → kind_of heap.opening.layout unit ≡ Some (structure_kind s) → StandsAt heap unit s
    first_stands_at agrees s same of_kind = record {
      of_unit = ap (λ (x : RegionShown). x.books.unit) same ∙ first_of_unit;
      kind = is_its_kind (kind_of heap.opening.layout unit) (structure_kind s) of_kind;
      seated = subst IsSeated (sym same) (seated_by r agrees);
      stands = subst (IsStanding heap) (sym same) first_stands;
      counted = subst (HasCounted heap) (sym same) first_counted;
    }

-- ---- the advancer, which may begin
module _ (heap : HeapShown) (units : List UnitShown) (advancer : AdvShown) (callers : List CallerShown)
    (k : IsFreshHeap heap units advancer callers) where
  first_held : advancer.known ≡ first_advancer heap.opening
  first_held = ap (λ (a : AdvShown). a.known) (advancer_is heap units advancer callers k)

  pub advancer_rests : IsAtRest advancer.known
  advancer_rests = subst IsAtRest (sym first_held) (record { part = refl; turn = refl })

  pub advancer_clock : FIRST_CLOCK ≡ advancer.known.clock
  advancer_clock = sym (ap (λ (a : AdvKnown). a.clock) first_held
      ∙ ap (λ (o : Opening). clock_of o.words) (never_used heap units advancer callers k))
