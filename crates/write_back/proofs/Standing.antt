-- A flush that stands where the seat stands, and each of its moves.
use Rattle.std.proofs.Common.{◌≡◌, ℕ, ◌+◌, ◌*◌, ◌<◌, Bool, true, false, List, [], length, cond, refl, sym, ap, ◌∙◌, subst, arith}
use Rattle.std.specs.Prelude.{slice_get, slice_index, is_some, Some, None}
use Rattle.std.proofs.lemmas.Bool.{lt-ltb}
use Rattle.std.proofs.lemmas.List.Elements.{All-nil, All-get_or}
use Rattle.std.proofs.lemmas.Option.{get_or_from_slice_get, slice_get_within}
use Rattle.mont_base.specs.SlotLists.{Roomy}
use Rattle.mont_base.specs.Layout.{Shape, total_of}
use Rattle.core_steps.specs.declared.parts.AdvPart.TheVariants.{Flushing, Holding}
use Rattle.core_steps.specs.Flushing.{can_load_word}
use Rattle.heap_rule.specs.declared.views.AdvKnown.{AdvKnown}
use Rattle.heap_rule.specs.Views.{joined, list_at, place_at_hand, slot_at_hand, advancer_took, advancer_gave}
use Rattle.write_back.specs.declared.flush.Flush.{Flush}
use Rattle.heap_pass.specs.OfLayout.{IsOfLayout}
use Rattle.write_back.specs.Flush.{StandsAt, slots_out, lists_taken, slots_given}
use Rattle.write_back.proofs.JoinedLists.{joined_at, joined_next}

-- ---- lists that are out
at_out : (b : Bool) (l : List ℕ) (k s : ℕ) → slice_get (cond b l []) k ≡ Some s → b ≡ true
at_out true l k s e = refl
at_out false l k s e = absurd (cc)

module _ (f : Flush) (a : AdvKnown) (s : StandsAt f a) where
  -- the unit is one of the store's
  pub taken_inside : a.turn.out ≡ true → a.turn.emptied < a.units
  taken_inside out =
      let t : lists_taken a ≡ a.turn.emptied + 1 = ap (λ (b : Bool). cond b (a.turn.emptied + 1) a.turn.emptied) out in
      let l = s.units in
      omega arith

  -- ---- the list is given back
  pub gave : a.turn.out ≡ true → f.at ≡ length (slots_out a)
      → StandsAt (record f { unit = f.unit + 1; list = None; at = 0 }) (advancer_gave a)
  gave out end =
      let whole : slots_out a ≡ list_at a.lists a.turn.emptied = ap (λ (b : Bool). cond b (list_at a.lists a.turn.emptied) []) out in
      let many : length (slots_out a) ≡ length (list_at a.lists a.turn.emptied) = ap length whole in
      let more = joined_next a.lists a.turn.emptied in
      let given : slots_given a + f.at ≡ slots_given (advancer_gave a) + 0 = omega arith in
      let inside = taken_inside out in record {
        part = s.part
            ∙ ap (λ (n : ℕ). cond f.held (Holding n f.field a.loaded) (Flushing n f.field)) given;
        unit = ap (λ (n : ℕ). n + 1) s.unit;
        units = omega arith;
        list = refl;
        slots = All-nil (λ (slot : ℕ). slot < a.units * a.room);
        place = omega arith;
        field = s.field;
        none_left = λ _. s.none_left end;
      }

  -- without a list the seat has none out
  pub is_home : is_some f.list ≡ false → a.turn.out ≡ false
  is_home none = by a.turn.out (sym (ap is_some s.list) ∙ none)
    where
      by : (b : Bool)
          → is_some {T = Roomy} (cond b (Some (record { slots = list_at a.lists a.turn.emptied; room = a.room })) None) ≡ false
          → b ≡ false
      by true e = e
      by false e = refl

  -- ---- a unit that listed nothing is after
  pub skipped : a.turn.out ≡ false → a.turn.emptied < a.units → list_at a.lists a.turn.emptied ≡ []
      → StandsAt (record f { unit = f.unit + 1 }) (advancer_gave (advancer_took a))
  skipped home inside none =
      let long : length (slots_out a) ≡ 0 = ap (λ (b : Bool). length (cond b (list_at a.lists a.turn.emptied) [])) home in
      let empty : length (list_at a.lists a.turn.emptied) ≡ 0 = ap length none in
      let more = joined_next a.lists a.turn.emptied in
      let given : slots_given a + f.at ≡ slots_given (advancer_gave (advancer_took a)) + f.at = omega arith in
      let place = s.place in record {
        part = s.part
            ∙ ap (λ (n : ℕ). cond f.held (Holding n f.field a.loaded) (Flushing n f.field)) given;
        unit = ap (λ (n : ℕ). n + 1) s.unit;
        units = omega arith;
        list = s.list
            ∙ ap (λ (b : Bool). cond b (Some (record { slots = list_at a.lists a.turn.emptied; room = a.room })) None) home;
        slots = All-nil (λ (slot : ℕ). slot < a.units * a.room);
        place = omega arith;
        field = s.field;
        none_left = λ _. s.none_left (omega arith);
      }

  -- ---- the word at hand
  hand_place : place_at_hand a.part ≡ slots_given a + f.at
  hand_place = ap place_at_hand s.part ∙ by f.held
    where
      by : (b : Bool) → place_at_hand (cond b (Holding (slots_given a + f.at) f.field a.loaded) (Flushing (slots_given a + f.at) f.field))
          ≡ slots_given a + f.at
      by true = refl
      by false = refl

  module _ (slot : ℕ) (at : slice_get (slots_out a) f.at ≡ Some slot) where
    out : a.turn.out ≡ true
    out = at_out a.turn.out (list_at a.lists a.turn.emptied) f.at slot at

    before_end : f.at < length (slots_out a)
    before_end = slice_get_within (slots_out a) f.at slot at

    listed : slice_get (joined a.lists) (slots_given a + f.at) ≡ Some slot
    listed = joined_at a.lists a.turn.emptied f.at slot
        (ap (λ (b : Bool). slice_get (cond b (list_at a.lists a.turn.emptied) []) f.at) (sym out) ∙ at)

    pub slot_is : slot ≡ slot_at_hand a
    slot_is = sym (ap (slice_index (joined a.lists)) hand_place
        ∙ get_or_from_slice_get (joined a.lists) (slots_given a + f.at) slot 0 listed)

    pub slot_inside : (l : Shape) → IsOfLayout l a → slot < total_of l
    slot_inside l h =
        let is = get_or_from_slice_get (slots_out a) f.at slot 0 at in
        let below : slot < a.units * a.room = subst (λ (n : ℕ). n < a.units * a.room) is
        (All-get_or (λ (n : ℕ). n < a.units * a.room) (slots_out a) f.at 0 before_end s.slots) in
        subst (λ (n : ℕ). slot < n) (λ i. h.units i * h.room i) below

    pub may_load : f.held ≡ false → can_load_word (length (joined a.lists)) a.part ≡ true
    may_load held =
        ap (can_load_word (length (joined a.lists))) s.part
        ∙ (ap (λ (b : Bool). can_load_word (length (joined a.lists))
        (cond b (Holding (slots_given a + f.at) f.field a.loaded) (Flushing (slots_given a + f.at) f.field))) held
        ∙ lt-ltb (slots_given a + f.at) (length (joined a.lists)) (slice_get_within (joined a.lists) (slots_given a + f.at) slot listed))
