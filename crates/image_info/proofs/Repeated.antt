-- The lowest slots of versions in a sorted map.
use Rattle.std.proofs.Common.{◌≡◌, ℕ, Bool, true, false, cond, ◌&&◌, ◌==◌, List, [], ◌∷◌, ◌++◌, refl, sym, ap, ◌∙◌, subst, arith, eq-eqb}
use Rattle.std.specs.Prelude.{Option, Some, None}
use Rattle.std.specs.declared.cmp.Ordering.{Ordering}
use Rattle.std.specs.declared.cmp.Ordering.TheVariants.{Less, Equal, Greater}
use Rattle.std.specs.List.{find}
use Rattle.std.specs.Option.{option_map, option_or}
use Rattle.std.specs.Ordering.{eq_by_cmp, is_eq, nat_cmp, ordering_then}
use Rattle.std.proofs.lemmas.Bool.{eqb-true}
use Rattle.std.proofs.lemmas.Bool.Decides.{nat_tests}
use Rattle.std.proofs.lemmas.List.Folds.{find-append}
use Rattle.mont_base.specs.declared.record.Held.{Held}
use Rattle.image_units.specs.declared.image_fault.ImageFault.TheVariants as faults
use Rattle.image_units.specs.FoundVersions.{version_of}
use Rattle.image_units.proofs.FirstRepeats.{version_cmp}
use Rattle.image_info.specs.AllFaults.{is_version, repeat_fault}

abbrev pub slot_of : Held → ℕ
slot_of r = r.slot

-- the lowest slot of a version, as the map has it
abbrev pub lowest_slot : ℕ × ℕ × ℕ → List Held → Option ℕ
lowest_slot v rs = option_map slot_of (find (is_version v) rs)

-- ---- the test of the map
eq_number : (a b : ℕ) → is_eq (nat_cmp a b) ≡ (a == b)
eq_number a b = grind (arith, nat_tests)

eq_then : (x y : Ordering) → is_eq (ordering_then x y) ≡ (is_eq x && is_eq y)
eq_then Less y = refl
eq_then Equal y = refl
eq_then Greater y = refl

pub same_test : (v : ℕ × ℕ × ℕ) (r : Held) → eq_by_cmp version_cmp (version_of r) v ≡ is_version v r
same_test v r =
    eq_then (ordering_then (nat_cmp r.label.unit v.0) (nat_cmp r.label.identity v.1)) (nat_cmp r.label.version v.2)
    ∙ ap (λ (b : Bool). b && is_eq (nat_cmp r.label.version v.2)) (eq_then (nat_cmp r.label.unit v.0) (nat_cmp r.label.identity v.1))
    ∙ (λ i. eq_number r.label.unit v.0 i && eq_number r.label.identity v.1 i && eq_number r.label.version v.2 i)

-- ---- with one record more
both_true : (a b : Bool) → (a && b) ≡ true → (a ≡ true) × (b ≡ true)
both_true true true e = (refl, refl)
both_true true false e = cc
both_true false b e = cc

pub is_that : (v : ℕ × ℕ × ℕ) (r : Held) → is_version v r ≡ true → version_of r ≡ v
is_that v r e =
    let last = both_true ((r.label.unit == v.0) && (r.label.identity == v.1)) (r.label.version == v.2) e in
    let first = both_true (r.label.unit == v.0) (r.label.identity == v.1) last.0 in
    λ i. (
      eqb-true r.label.unit v.0 first.0 i,
      eqb-true r.label.identity v.1 first.1 i,
      eqb-true r.label.version v.2 last.1 i,
    )

pub that_is : (v : ℕ × ℕ × ℕ) (r : Held) → version_of r ≡ v → is_version v r ≡ true
that_is v r e = subst (λ (w : ℕ × ℕ × ℕ). is_version w r ≡ true) e
    (rw (eq-eqb r.label.unit r.label.unit refl, eq-eqb r.label.identity r.label.identity refl, eq-eqb r.label.version r.label.version refl)
    refl)

module _ (rs : List Held) (r : Held) where
  lowest_more : (v : ℕ × ℕ × ℕ)
      → lowest_slot v (rs ++ r ∷ [])
      ≡ option_map slot_of (option_or (find (is_version v) rs) (cond (is_version v r) (Some r) None))
  lowest_more v = ap (option_map slot_of) (find-append (is_version v) rs (r ∷ []))

  -- a version that wasn't there yet
  pub lowest_new : (v : ℕ × ℕ × ℕ) → lowest_slot (version_of r) rs ≡ None
      → lowest_slot v (rs ++ r ∷ []) ≡ cond (is_version v r) (Some r.slot) (lowest_slot v rs)
  lowest_new v none = lowest_more v ∙ by (is_version v r) refl (find (is_version v) rs) refl
    where
      some_not_none : (s : ℕ) → Some s ≡ None → ⊥
      some_not_none s e = cc

      by : (b : Bool) → is_version v r ≡ b → (o : Option Held) → find (is_version v) rs ≡ o
          → option_map slot_of (option_or o (cond b (Some r) None)) ≡ cond b (Some r.slot) (option_map slot_of o)
      by true is None e = refl
      by true is (Some q) e =
          let that : lowest_slot v rs ≡ None = subst (λ (w : ℕ × ℕ × ℕ). lowest_slot w rs ≡ None) (is_that v r is) none in
          absurd (some_not_none q.slot (sym (ap (option_map slot_of) e) ∙ that))
      by false is None e = refl
      by false is (Some q) e = refl

  -- one that was there
  pub lowest_old : (v : ℕ × ℕ × ℕ) (other : ℕ) → lowest_slot (version_of r) rs ≡ Some other
      → lowest_slot v (rs ++ r ∷ []) ≡ lowest_slot v rs
  lowest_old v other some = lowest_more v ∙ by (is_version v r) refl (find (is_version v) rs) refl
    where
      none_not_some : None ≡ Some other → ⊥
      none_not_some e = cc

      by : (b : Bool) → is_version v r ≡ b → (o : Option Held) → find (is_version v) rs ≡ o
          → option_map slot_of (option_or o (cond b (Some r) None)) ≡ option_map slot_of o
      by true is None e =
          let that : lowest_slot v rs ≡ Some other =
          subst (λ (w : ℕ × ℕ × ℕ). lowest_slot w rs ≡ Some other) (is_that v r is) some in
          absurd (none_not_some (sym (ap (option_map slot_of) e) ∙ that))
      by true is (Some q) e = refl
      by false is None e = refl
      by false is (Some q) e = refl

  -- what is told of the record
  pub repeat_told : (o : Option ℕ) → lowest_slot (version_of r) rs ≡ o
      → repeat_fault rs r ≡ option_map (λ (other : ℕ). faults.Twice r.slot other) o
  repeat_told o is = through (find (is_version (version_of r)) rs) ∙ ap (option_map (λ (other : ℕ). faults.Twice r.slot other)) is
    where
      through : (e : Option Held)
          → option_map (λ (q : Held). faults.Twice r.slot q.slot) e
          ≡ option_map (λ (other : ℕ). faults.Twice r.slot other) (option_map slot_of e)
      through None = refl
      through (Some q) = refl
