-- The newest version of an identity, in whatever order the records stand.
use Rattle.std.proofs.Common.{◌≡◌, ℕ, ◌≤◌, ◌<◌, List, [], ◌∷◌, ◌++◌, sym, refl, ap, ◌∙◌, subst, arith, Bool, true, false, inl, inr, ◌⊎◌}
use Rattle.std.specs.Prelude.{Option, Some, None, nat_lt, ◌==◌, ◌≢◌, if◌then◌else◌}
use Rattle.std.specs.List.{Contains}
use Rattle.std.proofs.lemmas.Bool.Decides.{nat_tests}
use Rattle.std.proofs.lemmas.Option.{same_Some}
use Rattle.mont_base.specs.declared.record.Held.{Held}
use Rattle.mont_base.specs.Versions.{later_of, only_of, newest_of}
use Rattle.mont_laws.specs.Records.{AreApart}
use Rattle.mont_laws.proofs.Members.{no_element, first_element, later_element, element_cases}
use Rattle.mont_laws.proofs.Apart.{same_version}

later_of_none : (o : Option Held) → later_of o None ≡ o
later_of_none None = refl
later_of_none (Some r) = refl

pick : (p q r : Held) → later_of (Some p) (later_of (Some q) (Some r)) ≡ later_of (later_of (Some p) (Some q)) (Some r)
pick p q r = by (nat_lt p.label.version q.label.version) refl (nat_lt q.label.version r.label.version) refl
  where
    over : (a b c : ℕ) → nat_lt a b ≡ true → nat_lt b c ≡ true → nat_lt a c ≡ true
    over a b c e f = grind (arith, nat_tests)

    under : (a b c : ℕ) → nat_lt a b ≡ false → nat_lt b c ≡ false → nat_lt a c ≡ false
    under a b c e f = grind (arith, nat_tests)

    by : (t : Bool) → nat_lt p.label.version q.label.version ≡ t → (u : Bool) → nat_lt q.label.version r.label.version ≡ u
        → later_of (Some p) (if u then Some r else Some q) ≡ later_of (if t then Some q else Some p) (Some r)
    by true e true f = rw f (rw (over p.label.version q.label.version r.label.version e f) refl)
    by true e false f = rw (e, f) refl
    by false e true f = refl
    by false e false f = rw e (rw (under p.label.version q.label.version r.label.version e f) refl)

later_of_assoc : (a b c : Option Held) → later_of a (later_of b c) ≡ later_of (later_of a b) c
later_of_assoc None b c = refl
later_of_assoc (Some p) None c = refl
later_of_assoc (Some p) (Some q) None = sym (later_of_none (later_of (Some p) (Some q)))
later_of_assoc (Some p) (Some q) (Some r) = pick p q r

pub newest_append : (i : ℕ) (rs qs : List Held) → newest_of i (rs ++ qs) ≡ later_of (newest_of i rs) (newest_of i qs)
newest_append i [] qs = refl
newest_append i (r ∷ rs) qs = ap (later_of (only_of i r)) (newest_append i rs qs)
    ∙ later_of_assoc (only_of i r) (newest_of i rs) (newest_of i qs)

-- a record among these, with the greatest version of its identity
pub record IsNewest (i : ℕ) (rs : List Held) (r : Held) : Type 0 where
  pub there : Contains rs r
  pub identity : r.label.identity ≡ i
  pub greatest : (q : Held) → Contains rs q → q.label.identity ≡ i → q.label.version ≤ r.label.version

-- of two, the later one is either, and has the greater version
either : (p q r : Held) → later_of (Some p) (Some q) ≡ Some r
    → ((r ≡ p) × (q.label.version ≤ p.label.version)) ⊎ ((r ≡ q) × (p.label.version ≤ q.label.version))
either p q r h = by (nat_lt p.label.version q.label.version) refl h
  where
    by : (t : Bool) → nat_lt p.label.version q.label.version ≡ t → (if t then Some q else Some p) ≡ Some r
        → ((r ≡ p) × (q.label.version ≤ p.label.version)) ⊎ ((r ≡ q) × (p.label.version ≤ q.label.version))
    by true e f = inr (sym (same_Some q r f), grind (arith, nat_tests))
    by false e f = inl (sym (same_Some p r f), grind (arith, nat_tests))

pub identity_of : (q r : Held) → q ≡ r → q.label.identity ≡ r.label.identity
identity_of q r e = ap (λ (p : Held). p.label.identity) e

pub version_of : (q r : Held) → q ≡ r → q.label.version ≡ r.label.version
version_of q r e = ap (λ (p : Held). p.label.version) e

pub slot_of : (q r : Held) → q ≡ r → q.slot ≡ r.slot
slot_of q r e = ap (λ (p : Held). p.slot) e

pub no_newest : (i : ℕ) (rs : List Held) (q : Held) → newest_of i rs ≡ None → Contains rs q → q.label.identity ≡ i → ⊥
no_newest i [] q e a is = no_element q a
no_newest i (r ∷ rs) q e a is = by (r.label.identity == i) refl (newest_of i rs) refl (λ n b. no_newest i rs q n b is) e
    (element_cases r rs q a)
  where
    by : (t : Bool) → (r.label.identity == i) ≡ t → (o : Option Held) → newest_of i rs ≡ o → (o ≡ None → Contains rs q → ⊥)
        → later_of (if t then Some r else None) o ≡ None → (q ≡ r) ⊎ Contains rs q → ⊥
    by true f None g behind h a = absurd (cc)
    by true f (Some p) g behind h a = by_test (nat_lt r.label.version p.label.version) h
      where
        by_test : (t : Bool) → (if t then Some p else Some r) ≡ None → ⊥
        by_test true h = absurd (cc)
        by_test false h = absurd (cc)
    by false f o g behind h (inl same) = let e = identity_of q r same in absurd (grind (arith, nat_tests))
    by false f o g behind h (inr b) = behind h b

pub newest_is : (i : ℕ) (rs : List Held) (r : Held) → newest_of i rs ≡ Some r → IsNewest i rs r
newest_is i [] r e = absurd (cc)
newest_is i (p ∷ rs) r e = by (p.label.identity == i) refl (newest_of i rs) refl (newest_is i rs) e
  where
    by : (t : Bool) → (p.label.identity == i) ≡ t → (o : Option Held) → newest_of i rs ≡ o → ((q : Held) → o ≡ Some q → IsNewest i rs q)
        → later_of (if t then Some p else None) o ≡ Some r → IsNewest i (p ∷ rs) r
    by false f o g behind h =
        let b : IsNewest i rs r = behind r h in
        record {
          there = later_element p rs r b.there;
          identity = b.identity;
          greatest =
              λ q a is. elim (element_cases p rs q a) [
                | inl e ↦ let s = identity_of q p e in absurd (grind (arith, nat_tests))
                | inr c ↦ b.greatest q c is
              ];
        }
    by true f None g behind h =
        let is : r ≡ p = sym (same_Some p r h) in
        let at : p.label.identity ≡ i = grind (arith, nat_tests) in
        record {
          there = subst (Contains (p ∷ rs)) (sym is) (first_element p rs);
          identity = identity_of r p is ∙ at;
          greatest =
              λ q a is'. elim (element_cases p rs q a) [
                | inl e ↦ let s = version_of q p e in let u = version_of r p is in omega arith
                | inr c ↦ absurd (no_newest i rs q g c is')
              ];
        }
    by true f (Some q) g behind h =
        let b : IsNewest i rs q = behind q refl in
        let at : p.label.identity ≡ i = grind (arith, nat_tests) in
        elim (either p q r h) [
          | inl c ↦ record {
            there = subst (Contains (p ∷ rs)) (sym c.0) (first_element p rs);
            identity = identity_of r p c.0 ∙ at;
            greatest =
                λ s a is'. elim (element_cases p rs s a) [
                  | inl e ↦ let u = version_of s p e in let v = version_of r p c.0 in omega arith
                  | inr d ↦ let u = b.greatest s d is' in let v = version_of r p c.0 in omega (arith, c.1)
                ];
          }
          | inr c ↦ record {
            there = subst (Contains (p ∷ rs)) (sym c.0) (later_element p rs q b.there);
            identity = identity_of r q c.0 ∙ b.identity;
            greatest =
                λ s a is'. elim (element_cases p rs s a) [
                  | inl e ↦ let u = version_of s p e in let v = version_of r q c.0 in omega
                      (arith, c.1)
                  | inr d ↦ let u = b.greatest s d is' in let v = version_of r q c.0 in omega arith
                ];
          }
        ]

-- no other record has the greatest version
pub newest_at : (i : ℕ) (rs : List Held) (r : Held) → AreApart rs → IsNewest i rs r → newest_of i rs ≡ Some r
newest_at i rs r apart h = by (newest_of i rs) refl
  where
    by : (o : Option Held) → newest_of i rs ≡ o → o ≡ Some r
    by None e = absurd (no_newest i rs r e h.there h.identity)
    by (Some q) e =
        let b : IsNewest i rs q = newest_is i rs q e in
        let u = b.greatest r h.there h.identity in
        let v = h.greatest q b.there b.identity in
        ap Some (same_version rs apart q r b.there h.there (b.identity ∙ sym h.identity) (omega arith))

-- Records that are among others, and have the newest version among them, have the same one.
pub newest_same : (i : ℕ) (rs qs : List Held) → AreApart qs → ((r : Held) → newest_of i rs ≡ Some r → Contains qs r)
    → ((q : Held) → Contains qs q → q.label.identity ≡ i → Contains rs q) → newest_of i rs ≡ newest_of i qs
newest_same i rs qs apart has within = by (newest_of i rs) refl (newest_of i qs) refl
  where
    by : (o : Option Held) → newest_of i rs ≡ o → (p : Option Held) → newest_of i qs ≡ p → o ≡ p
    by (Some r) e p f =
        let b : IsNewest i rs r = newest_is i rs r e in
        sym (newest_at i qs r apart
        (record { there = has r e; identity = b.identity; greatest = λ q a is. b.greatest q (within q a is) is })) ∙ f
    by None e None f = refl
    by None e (Some q) f = let b : IsNewest i qs q = newest_is i qs q f in
        absurd (no_newest i rs q e (within q b.there b.identity) b.identity)

-- a record stands above the newest version of its identity
abbrev pub IsAbove : Option Held → Held → Type 0
IsAbove None w = Unit {0}
IsAbove (Some q) w = q.label.version < w.label.version

pub newest_push : (i : ℕ) (rs : List Held) (w : Held) → IsAbove (newest_of w.label.identity rs) w
    → newest_of i (rs ++ w ∷ []) ≡ (if w.label.identity == i then Some w else newest_of i rs)
newest_push i rs w above = newest_append i rs (w ∷ []) ∙ by (w.label.identity == i) refl
  where
    over : (o : Option Held) → IsAbove o w → later_of o (Some w) ≡ Some w
    over None h = refl
    over (Some q) h = let l : nat_lt q.label.version w.label.version ≡ true = grind (arith, nat_tests) in rw l refl

    by : (t : Bool) → (w.label.identity == i) ≡ t → later_of (newest_of i rs)
        (later_of (if t then Some w else None) None) ≡ (if t then Some w else newest_of i rs)
    by true e = let is : w.label.identity ≡ i = grind (arith, nat_tests) in
        over (newest_of i rs) (subst (λ (j : ℕ). IsAbove (newest_of j rs) w) is above)
    by false e = later_of_none (newest_of i rs)

-- a record of another identity makes no difference
pub newest_past : (i : ℕ) (rs : List Held) (w : Held) → w.label.identity ≢ i → newest_of i (rs ++ w ∷ []) ≡ newest_of i rs
newest_past i rs w ne = newest_append i rs (w ∷ []) ∙ by (w.label.identity == i) refl
  where
    by : (t : Bool) → (w.label.identity == i) ≡ t → later_of (newest_of i rs) (later_of (if t then Some w else None) None) ≡ newest_of i rs
    by true e = absurd (ne (grind (arith, nat_tests)))
    by false e = later_of_none (newest_of i rs)
