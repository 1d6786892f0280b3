-- What the bodies of objects are read as, one by one, and what each name finds among it.
use Rattle.std.proofs.Common.{◌≡◌, ℕ, List, [], ◌∷◌, ◌++◌, sym, refl, ap, ◌∙◌, subst, Bool, true, false, cond, inl, inr, ◌⊎◌}
use Rattle.std.specs.Prelude.{Option, Some, None, is_some, ◌||◌}
use Rattle.std.specs.Bool.{Decides}
use Rattle.std.specs.List.{AllZip, Contains, list_any}
use Rattle.std.specs.Map.{lookup}
use Rattle.std.proofs.lemmas.Option.{same_Some}
use Rattle.std.proofs.lemmas.List.Elements.{Contains-append_left, Contains-push, Contains-push_cases}
use Rattle.mont_laws.proofs.Members.{no_element, first_element, later_element, element_cases}

-- each body is read, as these entries
abbrev pub Reads : {A E : Type 0} → (A → List ℕ) → (List ℕ → Option E) → List A → List E → Type 0
Reads body read xs es = AllZip (λ a e. read (body a) ≡ Some e) xs es

-- and no two name one thing
abbrev pub AllDiffer : {T V : Type 0} → (T → T → Bool) → List (T × V) → Type 0
AllDiffer eq [] = Unit {0}
AllDiffer eq (e ∷ es) = (lookup (eq e.0) es ≡ None) × AllDiffer eq es

-- whether a name stands there
abbrev pub is_named : {T V : Type 0} → (T → T → Bool) → T → List (T × V) → Bool
is_named {T} {V} eq t es = list_any (λ (d : T × V). eq t d.0) es

pub read_push : {A E : Type 0} (body : A → List ℕ) (read : List ℕ → Option E) (xs : List A) (es : List E) (a : A) (e : E)
    → Reads body read xs es → read (body a) ≡ Some e → Reads body read (xs ++ a ∷ []) (es ++ e ∷ [])
read_push body read [] [] a e h is = (is, tt)
read_push body read [] (d ∷ es) a e h is = absurd h
read_push body read (b ∷ xs) [] a e h is = absurd h
read_push body read (b ∷ xs) (d ∷ es) a e h is = (h.0, read_push body read xs es a e h.1 is)

-- none of these names stands in front of it
abbrev pub AllNew : {T V : Type 0} → (T → T → Bool) → List (T × V) → List (T × V) → Type 0
AllNew eq front [] = Unit {0}
AllNew eq front (e ∷ es) = (is_named eq e.0 front ≡ false) × AllNew eq (front ++ e ∷ []) es

module _ {A T V : Type 0} (body : A → List ℕ) (eq : T → T → Bool) (one : (a b : T) → Decides (eq a b) (a ≡ b))
    (read : List ℕ → Option (T × V)) where
  body_of : (p q : A) → p ≡ q → read (body p) ≡ read (body q)
  body_of p q e = ap (λ (a : A). read (body a)) e

  differs : (t : T) (e : T × V) (es : List (T × V)) (v : V) → lookup (eq t) (e ∷ es) ≡ Some v
      → ((t ≡ e.0) × (e.1 ≡ v)) ⊎ (lookup (eq t) es ≡ Some v)
  differs t e es v h = by (eq t e.0) refl h
    where
      by : (b : Bool) → eq t e.0 ≡ b → cond b (Some e.1) (lookup (eq t) es) ≡ Some v → ((t ≡ e.0) × (e.1 ≡ v)) ⊎ (lookup (eq t) es ≡ Some v)
      by true f h = inl ((one t e.0).0 f, same_Some e.1 v h)
      by false f h = inr h

  pub entry_found : (xs : List A) (es : List (T × V)) (r : A) (t : T) (v : V) → Reads body read xs es → AllDiffer eq es → Contains xs r
      → read (body r) ≡ Some (t, v) → lookup (eq t) es ≡ Some v
  entry_found [] es r t v h d a e = absurd (no_element r a)
  entry_found (q ∷ xs) [] r t v h d a e = absurd h
  entry_found (q ∷ xs) (x ∷ es) r t v h d a e = by (element_cases q xs r a) (λ b. entry_found xs es r t v h.1 d.1 b e)
    where
      first : r ≡ q → lookup (eq t) (x ∷ es) ≡ Some v
      first is =
          let f : x ≡ (t, v) = same_Some x (t, v) (sym h.0 ∙ body_of q r (sym is) ∙ e) in
          ap (λ b. cond b (Some x.1) (lookup (eq t) es)) ((one t x.0).1 (ap (λ (p : T × V). p.0) (sym f))) ∙ ap (λ (p : T × V). Some p.1) f

      later : (b : Bool) → eq t x.0 ≡ b → lookup (eq t) es ≡ Some v → cond b (Some x.1) (lookup (eq t) es) ≡ Some v
      later true f rest = let n : lookup (eq t) es ≡ None = ap (λ (s : T). lookup (eq s) es) ((one t x.0).0 f) ∙ d.0 in absurd (cc)
      later false f rest = rest

      by : (r ≡ q) ⊎ Contains xs r → (Contains xs r → lookup (eq t) es ≡ Some v) → lookup (eq t) (x ∷ es) ≡ Some v
      by (inl is) rest = first is
      by (inr b) rest = later (eq t x.0) refl (rest b)

  pub entry_there : (xs : List A) (es : List (T × V)) (t : T) (v : V) → Reads body read xs es → lookup (eq t) es ≡ Some v
      → (r : A) × Contains xs r × (read (body r) ≡ Some (t, v))
  entry_there [] [] t v h e = absurd (cc)
  entry_there [] (x ∷ es) t v h e = absurd h
  entry_there (q ∷ xs) [] t v h e = absurd h
  entry_there (q ∷ xs) (x ∷ es) t v h e = elim (differs t x es v e) [
    | inl c ↦ (q, first_element q xs, h.0 ∙ (λ i. Some (sym c.0 i, c.1 i)))
    | inr c ↦ let b = entry_there xs es t v h.1 c in (b.0, later_element q xs b.0 b.1, b.2)
  ]

  -- what a name finds isn't found again
  found_again : (p q : A) (xs : List A) (x : T × V) (es : List (T × V)) (t : T) (v w : V) → read (body p) ≡ Some x
      → lookup (eq x.0) es ≡ None → q ≡ p → read (body q) ≡ Some (t, v) → lookup (eq t) es ≡ Some w → ⊥
  found_again p q xs x es t v w g d is e l =
      let at : x ≡ (t, v) = same_Some x (t, v) (sym g ∙ body_of p q (sym is) ∙ e) in
      let n : lookup (eq t) es ≡ None = ap (λ (s : T × V). lookup (eq s.0) es) (sym at) ∙ d in
      absurd (cc)

  pub entry_once : (xs : List A) (es : List (T × V)) (q r : A) (t : T) (v w : V) → Reads body read xs es → AllDiffer eq es → Contains xs q
      → Contains xs r → read (body q) ≡ Some (t, v) → read (body r) ≡ Some (t, w) → q ≡ r
  entry_once [] es q r t v w h d a b e f = absurd (no_element q a)
  entry_once (p ∷ xs) [] q r t v w h d a b e f = absurd h
  entry_once (p ∷ xs) (x ∷ es) q r t v w h d a b e f = by (element_cases p xs q a) (element_cases p xs r b)
      (λ a b. entry_once xs es q r t v w h.1 d.1 a b e f)
    where
      by : (q ≡ p) ⊎ Contains xs q → (r ≡ p) ⊎ Contains xs r → (Contains xs q → Contains xs r → q ≡ r) → q ≡ r
      by (inl is) (inl it) rest = is ∙ sym it
      by (inr a) (inr b) rest = rest a b
      by (inl is) (inr b) rest = absurd (found_again p q xs x es t v w h.0 d.0 is e (entry_found xs es r t w h.1 d.1 b f))
      by (inr a) (inl it) rest = absurd (found_again p r xs x es t w v h.0 d.0 it f (entry_found xs es q t v h.1 d.1 a e))

  pub each_read : (xs : List A) (es : List (T × V)) (r : A) → Reads body read xs es → Contains xs r → read (body r) ≡ None → ⊥
  each_read [] es r h a e = no_element r a
  each_read (q ∷ xs) [] r h a e = h
  each_read (q ∷ xs) (x ∷ es) r h a e = elim (element_cases q xs r a) [
    | inl is ↦ let f : Some x ≡ None = sym h.0 ∙ body_of q r (sym is) ∙ e in absurd (cc)
    | inr b ↦ each_read xs es r h.1 b e
  ]

-- ---- names that differ, told from the front
eq_turned : {T : Type 0} (eq : T → T → Bool) → ((a b : T) → Decides (eq a b) (a ≡ b)) → (a b : T) → eq a b ≡ false → eq b a ≡ false
eq_turned eq one a b e = by (eq b a) refl
  where
    by : (t : Bool) → eq b a ≡ t → t ≡ false
    by true f = let g : eq a b ≡ true = (one a b).1 (sym ((one b a).0 f)) in let h : true ≡ false = sym g ∙ e in absurd (cc)
    by false f = refl

module _ {T V : Type 0} (eq : T → T → Bool) (one : (a b : T) → Decides (eq a b) (a ≡ b)) where
  -- a name is there where it is found
  pub named_lookup : (t : T) (es : List (T × V)) → is_named eq t es ≡ is_some (lookup (eq t) es)
  named_lookup t [] = refl
  named_lookup t (e ∷ es) = by (eq t e.0) (named_lookup t es)
    where
      by : (b : Bool) → is_named eq t es ≡ is_some (lookup (eq t) es)
          → (b || is_named eq t es) ≡ is_some (cond b (Some e.1) (lookup (eq t) es))
      by true h = refl
      by false h = h

  not_named : (t : T) (front : List (T × V)) (d : T × V) → is_named eq t front ≡ false → Contains front d → eq t d.0 ≡ false
  not_named t [] d e a = absurd (no_element d a)
  not_named t (c ∷ front) d e a = by (eq t c.0) refl e (element_cases c front d a) (λ f b. not_named t front d f b)
    where
      by : (b : Bool) → eq t c.0 ≡ b → (b || is_named eq t front) ≡ false → (d ≡ c) ⊎ Contains front d
          → (is_named eq t front ≡ false → Contains front d → eq t d.0 ≡ false) → eq t d.0 ≡ false
      by true f g h rest = absurd (cc)
      by false f g (inl is) rest = ap (λ (x : T × V). eq t x.0) is ∙ f
      by false f g (inr b) rest = rest g b

  named_none : (t : T) (front : List (T × V)) → ((d : T × V) → Contains front d → eq t d.0 ≡ false) → is_named eq t front ≡ false
  named_none t [] h = refl
  named_none t (c ∷ front) h = rw (h c (first_element c front)) (named_none t front (λ d a. h d (later_element c front d a)))

  -- no name stands among these
  abbrev Misses : List (T × V) → List (T × V) → Type 0
  Misses front es = (d : T × V) → Contains front d → lookup (eq d.0) es ≡ None

  pub new_differ : (front es : List (T × V)) → AllNew eq front es → AllDiffer eq es × Misses front es
  new_differ front [] h = (tt, λ d a. refl)
  new_differ front (e ∷ es) h =
      let rest = new_differ (front ++ e ∷ []) es h.1 in (
        (rest.1 e (Contains-push front e), rest.0),
        λ d a. ap (λ b. cond b (Some e.1) (lookup (eq d.0) es)) (eq_turned eq one e.0 d.0 (not_named e.0 front d h.0 a))
            ∙ rest.1 d (Contains-append_left front (e ∷ []) d a),
      )

  missed : (d e : T × V) (es : List (T × V)) → lookup (eq d.0) (e ∷ es) ≡ None → (eq d.0 e.0 ≡ false) × (lookup (eq d.0) es ≡ None)
  missed d e es h = by (eq d.0 e.0) refl h
    where
      by : (b : Bool) → eq d.0 e.0 ≡ b → cond b (Some e.1) (lookup (eq d.0) es) ≡ None → (eq d.0 e.0 ≡ false) × (lookup (eq d.0) es ≡ None)
      by true f g = absurd (cc)
      by false f g = (f, g)

  pub differ_new : (front es : List (T × V)) → AllDiffer eq es → Misses front es → AllNew eq front es
  differ_new front [] h m = tt
  differ_new front (e ∷ es) h m = (
    named_none e.0 front (λ d a. eq_turned eq one d.0 e.0 (missed d e es (m d a)).0),
    differ_new (front ++ e ∷ []) es h.1
        (λ d a. elim (Contains-push_cases front e d a) [
          | inl b ↦ (missed d e es (m d b)).1
          | inr is ↦ subst (λ (x : T × V). lookup (eq x.0) es ≡ None) is h.0
        ]),
  )
