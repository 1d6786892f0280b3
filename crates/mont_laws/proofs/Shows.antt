-- One assignment at most is shown, and a written record is an edit of one thing.
use Rattle.std.proofs.Common.{◌≡◌, ℕ, List, [], ◌∷◌, ◌++◌, sym, refl, ap, ◌∙◌, subst, arith, Bool, true, false, cond, inl, inr, ◌⊎◌}
use Rattle.std.specs.Prelude.{◌≢◌, Option, Some, None, ◌==◌, if◌then◌else◌}
use Rattle.std.specs.Bool.{Decides}
use Rattle.std.specs.Map.{update}
use Rattle.std.proofs.Math.Path.{fun_ext}
use Rattle.std.proofs.lemmas.Bool.Decides.{nat_tests}
use Rattle.std.proofs.lemmas.Option.{same_Some}
use Rattle.mont_base.specs.declared.record.Held.{Held}
use Rattle.mont_base.specs.Versions.{newest_of}
use Rattle.mont_laws.specs.Records.{live_if}
use Rattle.mont_laws.specs.Shows.{held_in, live_things, Shows}
use Rattle.mont_laws.proofs.Newest.{IsAbove, newest_push}

-- a function that differs at one place
pub record IsUpdate {K X : Type 0} (f : K → Option X) (k : K) (o : Option X) (g : K → Option X) : Type 0 where
  pub here : g k ≡ o
  pub other : (q : K) → q ≢ k → g q ≡ f q

same_id : (i j : ℕ) → (i ≡ j) ⊎ (i ≢ j)
same_id i j = grind arith

pub decided : {T : Type 0} (eq : T → T → Bool) → ((a b : T) → Decides (eq a b) (a ≡ b)) → (a b : T) → (a ≡ b) ⊎ (a ≢ b)
decided eq one a b = by (eq a b) refl
  where
    by : (t : Bool) → eq a b ≡ t → (a ≡ b) ⊎ (a ≢ b)
    by true e = inl ((one a b).0 e)
    by false e = inr (λ is. let f = (one a b).1 is in let g : true ≡ false = sym f ∙ e in absurd (cc))

pub is_update : (T V : Type 0) (eq : T → T → Bool) → ((a b : T) → Decides (eq a b) (a ≡ b)) → (d : T → Option V) (t : T) (o : Option V)
    → IsUpdate d t o (update eq d t o)
is_update T V eq one d t o = record {
  here = ap (λ (b : Bool). cond b o (d t)) ((one t t).1 refl);
  other = λ q ne. by q ne (eq t q) refl;
}
  where
    by : (q : T) → q ≢ t → (b : Bool) → eq t q ≡ b → cond b o (d q) ≡ d q
    by q ne true e = absurd (ne (sym ((one t q).0 e)))
    by q ne false e = refl

module _ {T V : Type 0} where
  -- one identity has a thing, or nothing
  abbrev pub holding : T → Option V → Option (Option (T × V))
  holding t None = None
  holding t (Some v) = Some (Some (t, v))

  held_thing : (t q : T) (o : Option V) (w : V) → holding t o ≡ Some (Some (q, w)) → (q ≡ t) × (o ≡ Some w)
  held_thing t q None w e = absurd (cc)
  held_thing t q (Some v) w e = let p : (t, v) ≡ (q, w) = same_Some (t, v) (q, w) (same_Some _ _ e) in
      (ap (λ (b : T × V). b.0) (sym p), ap (λ (b : T × V). Some b.1) p)

  no_fault : (t : T) (o : Option V) → holding t o ≢ Some None
  no_fault t None e = absurd (cc)
  no_fault t (Some v) e = let f : ◌≡◌ {A = Option (T × V)} (Some (t, v)) None = same_Some (Some (t, v)) None e in absurd (cc)

  pub shows_once : (l : ℕ → Option (Option (T × V))) (d e : T → Option V) → Shows l d → Shows l e → d ≡ e
  shows_once l d e g h = fun_ext (λ t. by t (d t) refl (e t) refl)
    where
      by : (t : T) → (o : Option V) → d t ≡ o → (p : Option V) → e t ≡ p → o ≡ p
      by t (Some v) is p q = let i = g.there t v is in sym (h.found i.0 t v i.1) ∙ q
      by t None is None q = refl
      by t None is (Some v) q = let i = h.there t v q in let f = g.found i.0 t v i.1 in absurd (cc)

  -- what an identity has that is edited: nothing, where the thing is absent, or the thing
  abbrev pub MayEdit : Option (Option (T × V)) → (T → Option V) → T → Type 0
  MayEdit was d t = ((was ≡ None) × (d t ≡ None)) ⊎ ((v : V) × (was ≡ Some (Some (t, v))))

  module _ (same : (a b : T) → (a ≡ b) ⊎ (a ≢ b)) (l m : ℕ → Option (Option (T × V))) (d e : T → Option V) (i : ℕ) (t : T) (o : Option V)
      (s : Shows l d) (may : MayEdit (l i) d t) (at : IsUpdate l i (holding t o) m) (to : IsUpdate d t o e) where
    -- another identity has another thing
    else_thing : (j : ℕ) (q : T) (w : V) → j ≢ i → l j ≡ Some (Some (q, w)) → q ≢ t
    else_thing j q w ne h is = elim may [
      | inl n ↦ let f : d t ≡ Some w = subst (λ (r : T). d r ≡ Some w) is (s.found j q w h) in let g = n.1 in absurd (cc)
      | inr n ↦ ne (s.once j i t w n.0 (subst (λ (r : T). l j ≡ Some (Some (r, w))) is h) n.1)
    ]

    -- and another thing another identity
    else_id : (j : ℕ) (q : T) (w : V) → q ≢ t → l j ≡ Some (Some (q, w)) → j ≢ i
    else_id j q w ne h is = elim may [
      | inl n ↦ let f : l i ≡ Some (Some (q, w)) = subst (λ (k : ℕ). l k ≡ Some (Some (q, w))) is h in let g = n.0 in absurd (cc)
      | inr n ↦ let f : l i ≡ Some (Some (q, w)) = subst (λ (k : ℕ). l k ≡ Some (Some (q, w))) is h in
          ne (ap (λ (b : T × V). b.0) (same_Some (q, w) (t, n.0) (same_Some _ _ (sym f ∙ n.1))))
    ]

    here : (j : ℕ) (q : T) (w : V) → j ≡ i → m j ≡ Some (Some (q, w)) → (q ≡ t) × (o ≡ Some w)
    here j q w is h = held_thing t q o w (sym at.here ∙ subst (λ (k : ℕ). m k ≡ Some (Some (q, w))) is h)

    readable_after : (j : ℕ) → m j ≢ Some None
    readable_after j h = elim (same_id j i) [
      | inl is ↦ no_fault t o (sym at.here ∙ ap m (sym is) ∙ h)
      | inr ne ↦ s.readable j (sym (at.other j ne) ∙ h)
    ]

    found_after : (j : ℕ) (q : T) (w : V) → m j ≡ Some (Some (q, w)) → e q ≡ Some w
    found_after j q w h = elim (same_id j i) [
      | inl is ↦ let b = here j q w is h in ap e b.0 ∙ to.here ∙ b.1
      | inr ne ↦ let f = sym (at.other j ne) ∙ h in to.other q (else_thing j q w ne f) ∙ s.found j q w f
    ]

    there_after : (q : T) (w : V) → e q ≡ Some w → (j : ℕ) × (m j ≡ Some (Some (q, w)))
    there_after q w h = elim (same q t) [
      | inl is ↦ (i, at.here ∙ ap (holding t) (sym to.here ∙ ap e (sym is) ∙ h) ∙ ap (λ (r : T). Some (Some (r, w))) (sym is))
      | inr ne ↦ let f = s.there q w (sym (to.other q ne) ∙ h) in (f.0, at.other f.0 (else_id f.0 q w ne f.1) ∙ f.1)
    ]

    once_after : (j k : ℕ) (q : T) (v w : V) → m j ≡ Some (Some (q, v)) → m k ≡ Some (Some (q, w)) → j ≡ k
    once_after j k q v w g h = elim (same_id j i) [
      | inl is ↦ elim (same_id k i) [
        | inl is' ↦ is ∙ sym is'
        | inr ne ↦ absurd (else_thing k q w ne (sym (at.other k ne) ∙ h) (here j q v is g).0)
      ]
      | inr ne ↦ elim (same_id k i) [
        | inl is' ↦ absurd (else_thing j q v ne (sym (at.other j ne) ∙ g) (here k q w is' h).0)
        | inr ne' ↦ s.once j k q v w (sym (at.other j ne) ∙ g) (sym (at.other k ne') ∙ h)
      ]
    ]

    -- where one identity changes what it holds, one thing changes
    pub shows_update : Shows m e
    shows_update = record { readable = readable_after; found = found_after; there = there_after; once = once_after }

module _ {A : Type 0} (read : List ℕ → Option A) (rs : List Held) (w : Held) (above : IsAbove (newest_of w.label.identity rs) w) where
  pub live_push : IsUpdate (live_things read rs) w.label.identity (held_in read (live_if (Some w))) (live_things read (rs ++ w ∷ []))
  live_push = record {
    here = ap (λ o. held_in read (live_if o)) (newest_push w.label.identity rs w above ∙ at (w.label.identity == w.label.identity) refl);
    other = λ j ne. ap (λ o. held_in read (live_if o)) (newest_push j rs w above ∙ else_at j ne (w.label.identity == j) refl);
  }
    where
      at : (t : Bool) → (w.label.identity == w.label.identity) ≡ t → (if t then Some w else newest_of w.label.identity rs) ≡ Some w
      at true e = refl
      at false e = absurd (grind (arith, nat_tests))

      else_at : (j : ℕ) → j ≢ w.label.identity → (t : Bool) → (w.label.identity == j) ≡ t
          → (if t then Some w else newest_of j rs) ≡ newest_of j rs
      else_at j ne true e = absurd (ne (grind (arith, nat_tests)))
      else_at j ne false e = refl

-- A written record is an edit: it puts something in the place of what a thing had.
pub record IsEdit {T V : Type 0} (read : List ℕ → Option (T × V)) (rs : List Held) (d : T → Option V) (t : T) (o : Option V)
    (w : Held) : Type 0 where
  pub above : IsAbove (newest_of w.label.identity rs) w
  pub leaves : held_in read (live_if (Some w)) ≡ holding t o
  pub finds : MayEdit (live_things read rs w.label.identity) d t

pub shows_edit : {T V : Type 0} (eq : T → T → Bool) → ((a b : T) → Decides (eq a b) (a ≡ b))
    → (read : List ℕ → Option (T × V)) (rs : List Held) (d : T → Option V) (t : T) (o : Option V) (w : Held)
    → Shows (live_things read rs) d → IsEdit read rs d t o w → Shows (live_things read (rs ++ w ∷ [])) (update eq d t o)
shows_edit {T} {V} eq one read rs d t o w s h =
    shows_update (decided eq one) (live_things read rs) (live_things read (rs ++ w ∷ [])) d (update eq d t o) w.label.identity t o s h.finds
    (subst (λ (p : Option (Option (T × V))). IsUpdate (live_things read rs) w.label.identity p (live_things read (rs ++ w ∷ []))) h.leaves
    (live_push read rs w h.above))
    (is_update T V eq one d t o)
