-- The slots of a unit that are in use: each for one thing, and all the unit's own.
use Rattle.std.proofs.Common.{◌≡◌, ◌≢◌, ℕ, suc, ◌<◌, ◌≤◌, List, [], ◌∷◌, ◌++◌, map, sym, refl, ap, subst, ⊎_elim, arith}
use Rattle.std.specs.Prelude.{slice_get, Option, Some, None, AllPairs}
use Rattle.std.specs.List.{Contains}
use Rattle.std.proofs.lemmas.List.Elements.{All-map, Contains-append_cases}
use Rattle.std.proofs.lemmas.List.Kept.{AllPairs-cons}
use Rattle.mont_base.specs.declared.record.Held.{Held}
use Rattle.mont_base.specs.Layout.{Shape, total_of, unit_of_slot}
use Rattle.mont_laws.proofs.Members.{no_element, first_element, later_element, element_cases, pairs_head, pairs_tail, all_elements}
use Rattle.mont_laws.specs.Records.{AreApart}
use Rattle.core_steps.specs.declared.parts.UnitPart.{UnitPart}
use Rattle.core_steps.specs.declared.parts.Writing.{Writing}
use Rattle.core_steps.specs.Roles.{Role, Free, Unfinished, Written, Kept, Lost, Says, HasRole, HasSlots}
use Rattle.core_steps.specs.Stages.{is_closing}
use Rattle.core_steps.proofs.RoleFacts.{said_once}
use Rattle.core_steps.proofs.UnitQueues.{pairs_append}
use Rattle.heap_rule.specs.SoundUnits.{slot_begun, slots_in_use, HasOwnSlots}

-- ---- lists that are mapped
pub element_of_map : {A B : Type 0} (f : A → B) (xs : List A) (b : B) → Contains (map f xs) b → (a : A) × Contains xs a × (f a ≡ b)
element_of_map f [] b h = absurd (no_element b h)
element_of_map f (x ∷ xs) b h = ⊎_elim
    (λ (e : b ≡ f x). (x, first_element x xs, sym e))
    (λ (c : Contains (map f xs) b). let rest = element_of_map f xs b c in (rest.0, later_element x xs rest.0 rest.1, rest.2))
    (element_cases (f x) (map f xs) b h)

pub pairs_map : {A B : Type 0} (R : B → B → Type 0) (f : A → B) (xs : List A) → AllPairs (λ (a c : A). R (f a) (f c)) xs
    → AllPairs R (map f xs)
pairs_map R f [] h = λ i j d lt within. absurd (omega arith)
pairs_map R f (x ∷ xs) h = AllPairs-cons R (f x) (map f xs)
    (All-map (R (f x)) f xs (pairs_head (λ a c. R (f a) (f c)) x xs h)) (pairs_map R f xs (pairs_tail (λ a c. R (f a) (f c)) x xs h))

-- ---- roles in the order in which the slots stand
abbrev rank : Role → ℕ
rank Free = 0
rank (Kept r closing) = 1
rank (Written w) = 2
rank (Unfinished w) = 3
rank (Lost closing) = 4

-- the part gives the slot a role of this rank, or of this one or a later one
abbrev IsOf : UnitPart → ℕ → ℕ → Type 0
IsOf p n slot = (x : Role) × Says p slot x × (rank x ≡ n)

abbrev IsFrom : UnitPart → ℕ → ℕ → Type 0
IsFrom p n slot = (x : Role) × Says p slot x × (n ≤ rank x)

of_from : (p : UnitPart) (n slot : ℕ) → IsOf p n slot → IsFrom p n slot
of_from p n slot h = let e = h.2 in (h.0, h.1, omega arith)

later_from : (p : UnitPart) (n slot : ℕ) → IsFrom p (suc n) slot → IsFrom p n slot
later_from p n slot h = let l = h.2 in (h.0, h.1, omega arith)

-- what is first of one rank and then of later ones
from_append : (p : UnitPart) (n : ℕ) (xs ys : List ℕ) → ((a : ℕ) → Contains xs a → IsOf p n a)
    → ((a : ℕ) → Contains ys a → IsFrom p (suc n) a) → (a : ℕ) → Contains (xs ++ ys) a → IsFrom p n a
from_append p n xs ys first rest a h = ⊎_elim
    (λ (c : Contains xs a). of_from p n a (first a c)) (λ (c : Contains ys a). later_from p n a (rest a c))
    (Contains-append_cases xs ys a h)

module _ (p : UnitPart) where
  records_of_part : (slot : ℕ) → Contains (map (λ (r : Held). r.slot) p.records) slot → IsOf p 1 slot
  records_of_part slot h = let r = element_of_map (λ (r : Held). r.slot) p.records slot h in
      (Kept r.0 (is_closing p.stage slot), (r.2, refl, r.1), refl)

  written_of_part : (slot : ℕ) → Contains (map (λ (w : Held). w.slot) p.written) slot → IsOf p 2 slot
  written_of_part slot h = let w = element_of_map (λ (w : Held). w.slot) p.written slot h in (Written w.0, (w.2, w.1), refl)

  writing_of_part : (slot : ℕ) → Contains (slot_begun p.writing) slot → IsOf p 3 slot
  writing_of_part slot h = by p.writing refl h
    where
      by : (o : Option Writing) → p.writing ≡ o → Contains (slot_begun o) slot → IsOf p 3 slot
      by None e c = absurd (no_element slot c)
      by (Some w) e c = ⊎_elim
          (λ (is : slot ≡ w.slot). (Unfinished w, (sym is, e), refl)) (λ (c : Contains [] slot). absurd (no_element slot c))
          (element_cases w.slot [] slot c)

  lost_of_part : (slot : ℕ) → Contains p.lost slot → IsFrom p 4 slot
  lost_of_part slot h = (Lost (is_closing p.stage slot), (refl, h), omega arith)

  from_writing : (slot : ℕ) → Contains (slot_begun p.writing ++ p.lost) slot → IsFrom p 3 slot
  from_writing = from_append p 3 (slot_begun p.writing) p.lost writing_of_part lost_of_part

  from_written : (slot : ℕ) → Contains (map (λ (w : Held). w.slot) p.written ++ (slot_begun p.writing ++ p.lost)) slot → IsFrom p 2 slot
  from_written = from_append p 2 (map (λ (w : Held). w.slot) p.written) (slot_begun p.writing ++ p.lost) written_of_part from_writing

  from_records : (slot : ℕ) → Contains (slots_in_use p) slot → IsFrom p 1 slot
  from_records = from_append p 1 (map (λ (r : Held). r.slot) p.records)
      (map (λ (w : Held). w.slot) p.written ++ (slot_begun p.writing ++ p.lost)) records_of_part from_written

writing_once : (o : Option Writing) → AllPairs (λ (a b : ℕ). a ≢ b) (slot_begun o)
writing_once None = λ i j d lt within. absurd (omega arith)
writing_once (Some w) = λ i j d lt within. absurd (omega arith)

-- ---- of all slots of a store
module _ (s : Shape) (now : ℕ) (cur dur : List ℕ) (units : List UnitPart) (u : ℕ) (p : UnitPart)
    (h : HasSlots s now cur dur units) (at : slice_get units u ≡ Some p) where
  role_of : (slot : ℕ) → Contains (slots_in_use p) slot → (x : Role) × HasRole s h.role u slot x
  role_of slot c = let x = from_records p slot c in (x.0, (h.shows u p at).says slot x.0 x.1)

  -- slots of one rank aren't those of later ones
  across : (n a b : ℕ) → IsOf p n a → IsFrom p (suc n) b → a ≢ b
  across n a b x y same =
      let one = ap rank (said_once s now cur dur units u p h at b x.0 y.0 (subst (λ (z : ℕ). Says p z x.0) same x.1) y.1) in
      let first = x.2 in let second = y.2 in omega arith

  pub own_slots : AreApart p.records → HasOwnSlots s u p
  own_slots apart =
      let shows = h.shows u p at in
      let lost : List ℕ = p.lost in
      let writing : List ℕ = slot_begun p.writing in
      let written : List ℕ = map (λ (w : Held). w.slot) p.written in
      let records : List ℕ = map (λ (r : Held). r.slot) p.records in record {
        inside = all_elements (λ (slot : ℕ). slot < total_of s) (slots_in_use p) (λ slot c. (role_of slot c).1.inside);
        of_unit = all_elements (λ (slot : ℕ). unit_of_slot s slot ≡ u) (slots_in_use p) (λ slot c. (role_of slot c).1.of_unit);
        apart = pairs_append (λ (a b : ℕ). a ≢ b) records (written ++ (writing ++ lost))
            (pairs_map (λ (a b : ℕ). a ≢ b) (λ (r : Held). r.slot) p.records apart.slots)
            (pairs_append (λ (a b : ℕ). a ≢ b) written (writing ++ lost)
            (pairs_map (λ (a b : ℕ). a ≢ b) (λ (w : Held). w.slot) p.written shows.written_once)
            (pairs_append (λ (a b : ℕ). a ≢ b) writing lost (writing_once p.writing) shows.lost_once
            (λ a b c d. across 3 a b (writing_of_part p a c) (lost_of_part p b d)))
            (λ a b c d. across 2 a b (written_of_part p a c) (from_writing p b d)))
            (λ a b c d. across 1 a b (records_of_part p a c) (from_written p b d));
      }
