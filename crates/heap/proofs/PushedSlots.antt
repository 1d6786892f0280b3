-- Slots that are pushed after a list.
use Rattle.std.proofs.Common.{◌≡◌, ◌<◌, ◌≤◌, ◌+◌, ℕ, List, [], ◌∷◌, ◌++◌, append-nil, length, length-append, map, None, Some, sym, ap, ◌∙◌, arith}
use Rattle.std.proofs.lemmas.List.{length-map, nil_from_length}
use Rattle.mont_base.specs.declared.record.Held.{Held}
use Rattle.mont_base.specs.SlotLists.{Roomy}
use Rattle.heap_rule.specs.declared.views.UnitKnown.{UnitKnown}
use Rattle.heap_rule.specs.declared.views.UnitTurn.{UnitTurn}
use Rattle.heap_rule.specs.Plays.{HasRoom}
use Rattle.heap_rule.specs.Views.{Cell, home_turn, listed_in, slots_written}

-- as long as there is one to push, there is room
pub room_to_push : {W : Type 0} (slot : W → ℕ) (now before : List ℕ) (left all : List W) (room : ℕ)
    → now ++ map slot left ≡ before ++ map slot all → 1 ≤ length left → length before + length all ≤ room → length now < room
room_to_push slot now before left all room e some fits =
    let left_long : length (map slot left) ≡ length left = length-map left slot in
    let all_long : length (map slot all) ≡ length all = length-map all slot in
    let long : length now + length (map slot left) ≡ length before + length (map slot all) =
    sym (length-append now (map slot left)) ∙ ap length e ∙ length-append before (map slot all) in
    omega (arith, long, left_long, all_long)

-- the list that lies in the first place, if one does
list_or : Roomy → Cell → Roomy
list_or d None = d
list_or d (Some l) = l

first_list : Roomy → List (ℕ × Cell) → Roomy
first_list d [] = d
first_list d (c ∷ cs) = list_or d c.1

-- the list that was found is the one that lies there
pub found_list : (cells others behind : List (ℕ × Cell)) (i place : ℕ) (x : Cell) (l m : Roomy)
    → cells ≡ (i, x) ∷ others → x ≡ Some l → cells ≡ (place, Some m) ∷ behind → l ≡ m
unfolding first_list list_or
found_list cells others behind i place x l m found is lies =
    sym (ap (first_list l) (found ∙ (λ j. (i, is j) ∷ others))) ∙ ap (first_list l) lies

-- one without slots is the empty one of its room
pub none_found : (l : Roomy) (slots : List ℕ) (room : ℕ) → l ≡ record { slots = slots; room = room } → length l.slots ≡ 0
    → l ≡ record { slots = []; room = room }
none_found l slots room is none = λ j. record { slots = nil_from_length l.slots none j; room = (ap (λ (l : Roomy). l.room) is) j }

-- the list with all slots that were written after it
pub list_due : {W : Type 0} (slot : W → ℕ) (h : UnitKnown) (written : List W) (l n : Roomy) → h.turn ≡ home_turn
    → map slot written ≡ slots_written h.part → l ≡ record { slots = listed_in h ++ h.turn.pushed; room = h.room }
    → n ≡ record { slots = l.slots ++ map slot written; room = l.room }
    → n ≡ record { slots = listed_in h ++ slots_written h.part; room = h.room }
list_due slot h written l n home same taken pushed =
    let none : l.slots ≡ listed_in h =
    ap (λ (l : Roomy). l.slots) taken ∙ ap (λ (t : UnitTurn). listed_in h ++ t.pushed) home ∙ append-nil (listed_in h) in
    pushed ∙ (λ j. record { slots = none j ++ same j; room = (ap (λ (l : Roomy). l.room) taken) j })

-- there is room for all that was written
pub room_due : {W : Type 0} (slot : W → ℕ) (h : UnitKnown) (written : List W) (l : Roomy) → h.turn ≡ home_turn
    → map slot written ≡ slots_written h.part → l ≡ record { slots = listed_in h ++ h.turn.pushed; room = h.room }
    → HasRoom h → length l.slots + length written ≤ l.room
room_due slot h written l home same taken room =
    let none : length l.slots ≡ length (listed_in h) = ap length
    (ap (λ (l : Roomy). l.slots) taken ∙ ap (λ (t : UnitTurn). listed_in h ++ t.pushed) home ∙ append-nil (listed_in h)) in
    let rooms : l.room ≡ h.room = ap (λ (l : Roomy). l.room) taken in
    let long : length written ≡ length h.part.written =
    sym (length-map written slot) ∙ ap length same ∙ length-map h.part.written (λ (w : Held). w.slot) in
    omega (arith, none, rooms, long, room)
