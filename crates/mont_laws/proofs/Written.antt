-- Written records keep the records apart, and retire what they follow.
use Rattle.std.proofs.Common.{◌≡◌, ℕ, ◌+◌, List, [], ◌∷◌, ◌++◌, append_assoc, append-nil, sym, refl, ap, ◌∙◌, subst, arith, Bool, true, false, inl, inr}
use Rattle.std.specs.Prelude.{◌≢◌, Option, Some, nat_lt, sum_by, All, if◌then◌else◌}
use Rattle.std.specs.List.{AllZip, Contains, flat_map}
use Rattle.std.proofs.lemmas.List.Elements.{All-contains, All-head, All-tail}
use Rattle.std.proofs.lemmas.List.Sums.{sum_by-append, sum_by-cons}
use Rattle.mont_base.specs.declared.record.Held.{Held}
use Rattle.mont_base.specs.declared.effect.Effect.{Effect}
use Rattle.mont_base.specs.declared.effect.Effect.TheVariants.{Inserts, Replaces, Removes}
use Rattle.mont_base.specs.declared.effect.Thing.{Thing}
use Rattle.mont_base.specs.declared.operation.Op.{Op}
use Rattle.mont_base.specs.State.{State, step}
use Rattle.mont_base.specs.Room.{retires}
use Rattle.mont_base.specs.Versions.{is_delete, newest_of}
use Rattle.mont_laws.specs.Records.{AreApart}
use Rattle.mont_laws.specs.Effects.{IsNextVersion, IsEffect, AreEffects}
use Rattle.mont_laws.specs.declared.retiring.Retired.{Retired}
use Rattle.mont_laws.specs.Retiring.{Retires, retired_by, retired_by_all, HaveNewSlots, is_late, count_late}
use Rattle.mont_laws.proofs.Members.{no_element, first_element, later_element, element_cases, pairs_head, pairs_tail}
use Rattle.mont_laws.proofs.Apart.{apart_push}
use Rattle.mont_laws.proofs.Newest.{newest_past}
use Rattle.mont_laws.proofs.Edits.{live_facts}
use Rattle.mont_laws.proofs.InTurn.{OtherIdentities, step_apart}
use Rattle.mont_laws.proofs.Due.{Succeeds, above_all, push_cases, retires_push}

flat_map_same : {A B : Type 0} (f g : A → List B) (xs : List A) → ((a : A) → Contains xs a → f a ≡ g a) → flat_map f xs ≡ flat_map g xs
flat_map_same f g [] h = refl
flat_map_same f g (a ∷ xs) h = λ i. h a (first_element a xs) i ++ flat_map_same f g xs (λ b c. h b (later_element a xs b c)) i

zip_element : {A B : Type 0} (R : A → B → Type 0) (xs : List A) (bs : List B) (b : B) → AllZip R xs bs → Contains bs b → (a : A) × R a b
zip_element R [] [] b h c = absurd (no_element b c)
zip_element R [] (d ∷ bs) b h c = absurd h
zip_element R (a ∷ xs) [] b h c = absurd h
zip_element R (a ∷ xs) (d ∷ bs) b h c =
    elim (element_cases d bs b c) [ inl e ↦ (a, subst (R a) (sym e) h.0) | inr k ↦ zip_element R xs bs b h.1 k ]

abbrev OtherSlots : Held → Held → Type 0
OtherSlots w z = w.slot ≢ z.slot

abbrev OtherIdentity : Held → Held → Type 0
OtherIdentity w z = w.label.identity ≢ z.label.identity

new_slots_rest : (rs : List Held) (w : Held) (ws : List Held) → HaveNewSlots rs (w ∷ ws) → HaveNewSlots (rs ++ w ∷ []) ws
new_slots_rest rs w ws new = record {
  unused = λ r z a b. elim (push_cases rs w r a) [
    | inl c ↦ new.unused r z c (later_element w ws z b)
    | inr e ↦ subst (λ (q : Held). q.slot ≢ z.slot) (sym e) (All-contains (OtherSlots w) ws z (pairs_head OtherSlots w ws new.apart) b)
  ];
  apart = pairs_tail OtherSlots w ws new.apart;
}

-- records of different identities that each succeed what was there
pub retires_all : (rs ws : List Held) (ts : List Retired) → AreApart rs → HaveNewSlots rs ws → OtherIdentities ws
    → ((w : Held) → Contains ws w → Succeeds (newest_of w.label.identity rs) w) → Retires rs ts
    → AreApart (rs ++ ws) × Retires (rs ++ ws) (ts ++ retired_by_all rs ws)
retires_all rs [] ts apart new other n h = (
  subst AreApart (sym (append-nil rs)) apart,
  subst (λ qs. Retires qs (ts ++ [])) (sym (append-nil rs))
      (subst (Retires rs) (sym (append-nil ts)) h),
)
retires_all rs (w ∷ ws) ts apart new other n h =
    let here = first_element w ws in
    let o = newest_of w.label.identity rs in
    let unused : (r : Held) → Contains rs r → r.slot ≢ w.slot = λ r a. new.unused r w a here in
    let next = retires_push w ts rs o apart refl (n w here) unused h in
    let wide = apart_push rs apart w unused (above_all o rs w refl (n w here)) in
    let past : (z : Held) → Contains ws z → newest_of z.label.identity (rs ++ w ∷ []) ≡ newest_of z.label.identity rs =
    λ z b. newest_past z.label.identity rs w (All-contains (OtherIdentity w) ws z (pairs_head OtherIdentity w ws other) b) in
    let rest = retires_all (rs ++ w ∷ []) ws (ts ++ retired_by o w) wide (new_slots_rest rs w ws new)
    (pairs_tail OtherIdentity w ws other)
    (λ z b. subst (λ (p : Option Held). Succeeds p z) (sym (past z b)) (n z (later_element w ws z b))) next in
    let e = append_assoc rs (w ∷ []) ws in
    let same : retired_by_all (rs ++ w ∷ []) ws ≡ retired_by_all rs ws =
    flat_map_same (λ (z : Held). retired_by (newest_of z.label.identity (rs ++ w ∷ [])) z)
    (λ (z : Held). retired_by (newest_of z.label.identity rs) z) ws (λ z b. ap (λ (p : Option Held). retired_by p z) (past z b)) in (
      subst AreApart e rest.0,
      subst (λ (qs : List Held). Retires qs (ts ++ retired_by_all rs (w ∷ ws))) e
          (subst (Retires ((rs ++ w ∷ []) ++ ws))
          (append_assoc ts (retired_by o w) (retired_by_all (rs ++ w ∷ []) ws)
          ∙ ap (λ (us : List Retired). ts ++ (retired_by o w ++ us)) same) rest.1),
    )

-- ---- what an effect writes
next_newest : (rs : List Held) (thing : Thing) (w : Held) (next : IsNextVersion rs thing w) → newest_of w.label.identity rs ≡ Some next.last
next_newest rs thing w next = (live_facts (newest_of w.label.identity rs) next.last next.live).0

next_succeeds : (rs : List Held) (thing : Thing) (w : Held) → IsNextVersion rs thing w → Succeeds (newest_of w.label.identity rs) w
next_succeeds rs thing w next = rw (next_newest rs thing w next)
    ((live_facts (newest_of w.label.identity rs) next.last next.live).1, omega (arith, next.version))

pub effect_succeeds : (unit : ℕ) (rs : List Held) (e : Effect) (w : Held) → IsEffect unit rs e w
    → Succeeds (newest_of w.label.identity rs) w
effect_succeeds unit rs (Inserts thing) w h = rw h.writes.1.unused (ap is_delete h.writes.0)
effect_succeeds unit rs (Replaces thing) w h = next_succeeds rs thing w h.writes.1
effect_succeeds unit rs (Removes thing) w h = next_succeeds rs thing w h.writes.1

pub effects_retire : (unit : ℕ) (rs ws : List Held) (ts : List Retired) (es : List Effect) → AreApart rs → HaveNewSlots rs ws
    → OtherIdentities ws → AreEffects unit rs es ws → Retires rs ts
    → AreApart (rs ++ ws) × Retires (rs ++ ws) (ts ++ retired_by_all rs ws)
effects_retire unit rs ws ts es apart new other are h = retires_all rs ws ts apart new other
    (λ w c. let b = zip_element (IsEffect unit rs) es ws w are c in effect_succeeds unit rs b.0 w b.1) h

-- the records of an operation
pub step_retires : (unit : ℕ) (rs ws : List Held) (ts : List Retired) (state : State) (op : Op) → AreApart rs → HaveNewSlots rs ws
    → AreEffects unit rs (step state op).effects ws → Retires rs ts
    → AreApart (rs ++ ws) × Retires (rs ++ ws) (ts ++ retired_by_all rs ws)
step_retires unit rs ws ts state op apart new are h = effects_retire unit rs ws ts (step state op).effects apart new
    (step_apart unit rs ws state op are) are h

-- ---- how many
module _ (unit x epoch : ℕ) (rs : List Held) where
  late_one : (e : Effect) (w : Held) → IsEffect unit rs e w → w.label.epoch ≡ epoch
      → count_late x (retired_by (newest_of w.label.identity rs) w) ≡ (if nat_lt x (epoch + 2) then retires e else 0)
  late_one (Inserts thing) w h at = rw h.writes.1.unused (by (nat_lt x (epoch + 2)))
    where
      by : (t : Bool) → ◌≡◌ {A = ℕ} 0 (if t then 0 else 0)
      by true = refl
      by false = refl
  late_one (Replaces thing) w h at = rw (next_newest rs thing w h.writes.1, h.writes.0, at) (by (nat_lt x (epoch + 2)))
    where
      by : (t : Bool) → 0 + (if t then 1 else 0) ≡ (if t then 1 else 0)
      by true = refl
      by false = refl
  late_one (Removes thing) w h at = rw (next_newest rs thing w h.writes.1, h.writes.0, at) (by (nat_lt x (epoch + 2)))
    where
      by : (t : Bool) → (0 + (if t then 1 else 0)) + (if t then 1 else 0) ≡ (if t then 2 else 0)
      by true = refl
      by false = refl

  late_all : (es : List Effect) (ws : List Held) → AreEffects unit rs es ws → All (λ (w : Held). w.label.epoch ≡ epoch) ws
      → count_late x (retired_by_all rs ws) ≡ (if nat_lt x (epoch + 2) then sum_by retires es else 0)
  late_all [] [] are at = by (nat_lt x (epoch + 2))
    where
      by : (t : Bool) → ◌≡◌ {A = ℕ} 0 (if t then 0 else 0)
      by true = refl
      by false = refl
  late_all [] (w ∷ ws) are at = absurd are
  late_all (e ∷ es) [] are at = absurd are
  late_all (e ∷ es) (w ∷ ws) are at =
      sum_by-append (λ t. if is_late x t then 1 else 0) (retired_by (newest_of w.label.identity rs) w) (retired_by_all rs ws)
      ∙ add (late_one e w are.0 (All-head (λ (w : Held). w.label.epoch ≡ epoch) w ws at))
      (late_all es ws are.1 (All-tail (λ (w : Held). w.label.epoch ≡ epoch) w ws at))
      ∙ by (nat_lt x (epoch + 2))
    where
      add : {a b c d : ℕ} → a ≡ b → c ≡ d → a + c ≡ b + d
      add p q = omega arith

      by : (t : Bool) → (if t then retires e else 0) + (if t then sum_by retires es else 0) ≡ (if t then sum_by retires (e ∷ es) else 0)
      by true = sym (sum_by-cons retires e es)
      by false = refl

  -- written records of one epoch retire as many as their effects do
  pub effects_count : (es : List Effect) (ws : List Held) (ts : List Retired) → AreEffects unit rs es ws
      → All (λ (w : Held). w.label.epoch ≡ epoch) ws → count_late x
      (ts ++ retired_by_all rs ws) ≡ count_late x ts + (if nat_lt x (epoch + 2) then sum_by retires es else 0)
  effects_count es ws ts are at = sum_by-append (λ t. if is_late x t then 1 else 0) ts (retired_by_all rs ws)
      ∙ ap (λ n. count_late x ts + n) (late_all es ws are at)
