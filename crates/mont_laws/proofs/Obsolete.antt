-- What is live with a record dropped that is obsolete, and in another order.
use Rattle.std.proofs.Common.{◌≡◌, ℕ, List, [], ◌∷◌, sym, refl, ap, ◌∙◌, subst, arith, Bool, true, false, cond, inl, inr}
use Rattle.std.specs.Prelude.{Option, Some, None, nat_le, not, ◌==◌, filter}
use Rattle.std.specs.List.{Contains}
use Rattle.std.proofs.lemmas.Bool.Decides.{nat_tests}
use Rattle.std.proofs.lemmas.Option.{same_Some}
use Rattle.mont_base.specs.declared.record.Held.{Held}
use Rattle.mont_base.specs.Versions.{newest_of}
use Rattle.mont_laws.specs.Records.{AreApart, AreSameRecords, IsObsolete, IsAlone, live_if, live_of, cut_records, without_slot}
use Rattle.mont_laws.proofs.Members.{kept_element, element_kept}
use Rattle.mont_laws.proofs.Apart.{same_slot, apart_filter, stays, stayed}
use Rattle.mont_laws.proofs.Newest.{IsNewest, newest_is, newest_same, identity_of, version_of, slot_of}

-- the same records are live
abbrev pub AreLiveAlike : List Held → List Held → Type 0
AreLiveAlike rs qs = (i : ℕ) → live_of i rs ≡ live_of i qs

module _ (x : ℕ) (rs : List Held) (d : Held) (apart : AreApart rs) (here : Contains rs d) where
  in_cut : (q : Held) → Contains (cut_records x rs) q → Contains rs q
  in_cut q a = (kept_element (λ (r : Held). nat_le r.label.epoch x) q rs a).0

  apart_cut : AreApart (without_slot d.slot (cut_records x rs))
  apart_cut = apart_filter (cut_records x rs) (apart_filter rs apart _) _

  same : (i : ℕ) → ((r : Held) → newest_of i (cut_records x rs) ≡ Some r → Contains (without_slot d.slot (cut_records x rs)) r)
      → live_of i (without_slot d.slot (cut_records x rs)) ≡ live_of i (cut_records x rs)
  same i has = ap live_if
      (sym (newest_same i (cut_records x rs) (without_slot d.slot (cut_records x rs)) apart_cut has
      (λ q a is. (stayed q d.slot (cut_records x rs) a).0)))

  -- an anti-payload that is dropped was alone
  none : (i : ℕ) → d.label.identity ≡ i → IsAlone rs d → (o : Option Held) → newest_of i (without_slot d.slot (cut_records x rs)) ≡ o
      → o ≡ None
  none i at alone None e = refl
  none i at alone (Some q) e =
      let c : IsNewest i (without_slot d.slot (cut_records x rs)) q = newest_is i (without_slot d.slot (cut_records x rs)) q e in
      let b = stayed q d.slot (cut_records x rs) c.there in
      absurd (b.1 (slot_of q d (alone q (in_cut q b.0) (c.identity ∙ sym at))))

  -- where the newest version is the one that is dropped, it is an anti-payload, and none is left
  gone : IsObsolete x rs d → (i : ℕ) (r : Held) → newest_of i (cut_records x rs) ≡ Some r → r ≡ d
      → live_of i (without_slot d.slot (cut_records x rs)) ≡ live_if (Some r)
  gone obsolete i r e is =
      let b : IsNewest i (cut_records x rs) r = newest_is i (cut_records x rs) r e in
      let at : d.label.identity ≡ i = identity_of d r (sym is) ∙ b.identity in
      let version = version_of r d is in
      elim obsolete [
        | inl h ↦
            let q : Held = h.0 in
            let late = h.2 in
            let u = b.greatest q (element_kept (λ (r : Held). nat_le r.label.epoch x) q rs h.1.there (grind (arith, nat_tests)))
            (h.1.identity ∙ at) in
            absurd (omega (arith, h.1.version, u))
        | inr h ↦ rw (is, h.0) (ap live_if (none i at h.1 (newest_of i (without_slot d.slot (cut_records x rs))) refl))
      ]

  drop_each : IsObsolete x rs d → (i : ℕ) → live_of i (without_slot d.slot (cut_records x rs)) ≡ live_of i (cut_records x rs)
  drop_each obsolete i = by (newest_of i (cut_records x rs)) refl
    where
      by_slot : (r : Held) → newest_of i (cut_records x rs) ≡ Some r → (t : Bool) → (r.slot == d.slot) ≡ t
          → live_of i (without_slot d.slot (cut_records x rs)) ≡ live_of i (cut_records x rs)
      by_slot r e true f = gone obsolete i r e
          (same_slot rs apart r d (in_cut r (newest_is i (cut_records x rs) r e).there) here (grind (arith, nat_tests)))
          ∙ ap live_if (sym e)
      by_slot r e false f = same i
          (λ s g. subst (Contains (without_slot d.slot (cut_records x rs))) (same_Some r s (sym e ∙ g))
          (stays r d.slot (cut_records x rs) (newest_is i (cut_records x rs) r e).there (λ is. absurd (grind (arith, nat_tests)))))

      by : (o : Option Held) → newest_of i (cut_records x rs) ≡ o
          → live_of i (without_slot d.slot (cut_records x rs)) ≡ live_of i (cut_records x rs)
      by None e = same i (λ r f. let n : None ≡ Some r = sym e ∙ f in absurd (cc))
      by (Some r) e = by_slot r e (r.slot == d.slot) refl

  -- an obsolete record can be dropped, and added again
  pub live_drop : IsObsolete x rs d → AreLiveAlike (without_slot d.slot (cut_records x rs)) (cut_records x rs)
  live_drop obsolete i = drop_each obsolete i

-- the order in which records stand makes no difference
pub live_order : (rs qs : List Held) → AreApart qs → AreSameRecords rs qs → AreLiveAlike rs qs
live_order rs qs apart same i = ap live_if
    (newest_same i rs qs apart (λ r e. (same r).0 (newest_is i rs r e).there) (λ q a is. (same q).1 a))

filter_swap : {A : Type 0} (p q : A → Bool) (xs : List A) → filter p (filter q xs) ≡ filter q (filter p xs)
filter_swap p q [] = refl
filter_swap p q (a ∷ xs) = by (p a) refl (q a) refl (filter_swap p q xs)
  where
    by : (t : Bool) → p a ≡ t → (u : Bool) → q a ≡ u → filter p (filter q xs) ≡ filter q (filter p xs)
        → filter p (cond u (a ∷ filter q xs) (filter q xs)) ≡ filter q (cond t (a ∷ filter p xs) (filter p xs))
    by true e true f rest = rw (e, f) (ap (λ ys. a ∷ ys) rest)
    by true e false f rest = rw f rest
    by false e true f rest = rw e rest
    by false e false f rest = rest

-- to drop a record and to cut go in either order
pub without_cut : (x slot : ℕ) (rs : List Held) → cut_records x (without_slot slot rs) ≡ without_slot slot (cut_records x rs)
without_cut x slot rs = filter_swap (λ (r : Held). nat_le r.label.epoch x) (λ (r : Held). not (r.slot == slot)) rs
