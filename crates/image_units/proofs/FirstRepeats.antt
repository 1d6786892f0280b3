-- The first record that repeats a version, of records by rising slot.
use Rattle.std.proofs.Common.{◌≡◌, ℕ, ◌+◌, ◌<◌, ◌≤◌, Bool, true, false, cond, List, [], ◌∷◌, ◌++◌, length, get_or, take, refl, sym, ap, ◌∙◌, subst, arith, ⊎_elim, inl, inr, ◌⊎◌, length-take}
use Rattle.std.specs.Prelude.{Option, Some, None, AllPairs}
use Rattle.std.specs.declared.cmp.Ordering.{Ordering}
use Rattle.std.specs.declared.cmp.Ordering.TheVariants.{Less, Equal, Greater}
use Rattle.std.specs.Bool.{Decides}
use Rattle.std.specs.Cmp.{IsTotalOrder, nat_cmp_total, eq_by_cmp_equiv}
use Rattle.std.specs.List.{Contains, find}
use Rattle.std.specs.Option.{option_map, option_or}
use Rattle.std.specs.Ordering.{nat_cmp, eq_by_cmp, ordering_then}
use Rattle.std.proofs.lemmas.Bool.{true≢false, cases_lt}
use Rattle.std.proofs.lemmas.Cmp.{on_total, then_total}
use Rattle.std.proofs.lemmas.List.{get_or-take, get_or_default, take_more}
use Rattle.std.proofs.lemmas.List.Elements.{Contains-push_cases, Contains-get_or}
use Rattle.std.proofs.lemmas.List.Folds.{find-append}
use Rattle.std.proofs.lemmas.Map.Lookups.{CmpEqualImpliesEq, exact_unsigned}
use Rattle.std.proofs.lemmas.Map.Views.{tells_apart}
use Rattle.mont_base.specs.declared.record.Held.{Held}
use Rattle.mont_laws.specs.UnitRecords.{HasLowerSlot}
use Rattle.mont_laws.proofs.Members.{no_element, first_element, later_element, element_cases, pair_cases}
use Rattle.image_units.specs.FoundVersions.{HasNoRepeat, IsFirstRepeat, IsSameVersion, Repeats, version_of}

-- the order of versions in the map
abbrev pub version_cmp : ℕ × ℕ × ℕ → ℕ × ℕ × ℕ → Ordering
version_cmp a b = ordering_then (ordering_then (nat_cmp a.0 b.0) (nat_cmp a.1 b.1)) (nat_cmp a.2 b.2)

-- the record is one of a version
abbrev pub has_version : ℕ × ℕ × ℕ → Held → Bool
has_version version r = eq_by_cmp version_cmp (version_of r) version

-- the slot of the first record of a version
abbrev pub slot_of_version : ℕ × ℕ × ℕ → List Held → Option ℕ
slot_of_version version records = option_map (λ (r : Held). r.slot) (find (has_version version) records)

versions_total : IsTotalOrder version_cmp
versions_total = then_total
    (then_total (on_total (λ (v : ℕ × ℕ × ℕ). v.0) nat_cmp_total) (on_total (λ (v : ℕ × ℕ × ℕ). v.1) nat_cmp_total))
    (on_total (λ (v : ℕ × ℕ × ℕ). v.2) nat_cmp_total)

then_equal : (x y : Ordering) → ordering_then x y ≡ Equal → (x ≡ Equal) × (y ≡ Equal)
then_equal Less y e = absurd (cc)
then_equal Equal y e = (refl, e)
then_equal Greater y e = absurd (cc)

versions_differ : CmpEqualImpliesEq version_cmp
versions_differ a b e =
    let two = then_equal (ordering_then (nat_cmp a.0 b.0) (nat_cmp a.1 b.1)) (nat_cmp a.2 b.2) e in
    let one = then_equal (nat_cmp a.0 b.0) (nat_cmp a.1 b.1) two.0 in
    λ i. (exact_unsigned a.0 b.0 one.0 i, exact_unsigned a.1 b.1 one.1 i, exact_unsigned a.2 b.2 two.1 i)

one_version : (r : Held) (v : ℕ × ℕ × ℕ) → Decides (has_version v r) (version_of r ≡ v)
one_version r v = (
  tells_apart versions_differ (version_of r) v,
  λ e. subst (λ (w : ℕ × ℕ × ℕ). has_version w r ≡ true) e ((eq_by_cmp_equiv versions_total).refl (version_of r)),
)

same_version : (r q : Held) → version_of r ≡ version_of q → IsSameVersion r q
same_version r q e = record {
  unit = ap (λ (v : ℕ × ℕ × ℕ). v.0) e;
  identity = ap (λ (v : ℕ × ℕ × ℕ). v.1) e;
  version = ap (λ (v : ℕ × ℕ × ℕ). v.2) e;
}

version_same : (r q : Held) → IsSameVersion r q → version_of r ≡ version_of q
version_same r q h = λ i. (h.unit i, h.identity i, h.version i)

-- ---- a version's first record
same_slot : (r : Held) (slot : ℕ) → option_map (λ (q : Held). q.slot) (Some r) ≡ Some slot → r.slot ≡ slot
same_slot r slot e = cc

pub found : (v : ℕ × ℕ × ℕ) (rs : List Held) (slot : ℕ) → slot_of_version v rs ≡ Some slot
    → (e : Held) × Contains rs e × (version_of e ≡ v) × (e.slot ≡ slot)
found v [] slot is = absurd (cc)
found v (r ∷ rs) slot is = by (has_version v r) refl is (found v rs slot)
  where
    IsFound : List Held → Type 0
    IsFound qs = (e : Held) × Contains qs e × (version_of e ≡ v) × (e.slot ≡ slot)

    by : (b : Bool) → has_version v r ≡ b
        → option_map (λ (q : Held). q.slot) (cond b (Some r) (find (has_version v) rs)) ≡ Some slot
        → (slot_of_version v rs ≡ Some slot → IsFound rs) → IsFound (r ∷ rs)
    by true t is rest = (r, first_element r rs, (one_version r v).0 t, same_slot r slot is)
    by false t is rest = let e = rest is in (e.0, later_element r rs e.0 e.1, e.2, e.3)

absent : (v : ℕ × ℕ × ℕ) (rs : List Held) → slot_of_version v rs ≡ None → (e : Held) → Contains rs e → version_of e ≡ v → ⊥
absent v [] none e h is = no_element e h
absent v (r ∷ rs) none e h is = by (has_version v r) refl none (λ behind k. absent v rs behind e k is)
  where
    by : (b : Bool) → has_version v r ≡ b
        → option_map (λ (q : Held). q.slot) (cond b (Some r) (find (has_version v) rs)) ≡ None
        → (slot_of_version v rs ≡ None → Contains rs e → ⊥) → ⊥
    by true t none rest = absurd (cc)
    by false t none rest = ⊎_elim
        (λ (same : e ≡ r). true≢false (sym ((one_version r v).1 (ap version_of (sym same) ∙ is)) ∙ t))
        (λ (k : Contains rs e). rest none k)
        (element_cases r rs e h)

-- with one record more
pub slot_more : (v : ℕ × ℕ × ℕ) (rs : List Held) (r : Held) → slot_of_version (version_of r) rs ≡ None
    → slot_of_version v (rs ++ r ∷ []) ≡ cond (has_version v r) (Some r.slot) (slot_of_version v rs)
slot_more v rs r none =
    ap (option_map (λ (q : Held). q.slot)) (find-append (has_version v) rs (r ∷ []))
    ∙ step (has_version v r) (find (has_version v) rs)
    (λ t. unmapped (find (has_version v) rs) (subst (λ (w : ℕ × ℕ × ℕ). slot_of_version w rs ≡ None) ((one_version r v).0 t) none))
  where
    unmapped : (o : Option Held) → option_map (λ (q : Held). q.slot) o ≡ None → o ≡ None
    unmapped None e = refl
    unmapped (Some q) e = absurd (cc)

    step : (b : Bool) (o : Option Held) → (b ≡ true → o ≡ None)
        → option_map (λ (q : Held). q.slot) (option_or o (cond b (Some r) None))
        ≡ cond b (Some r.slot) (option_map (λ (q : Held). q.slot) o)
    step true None h = refl
    step true (Some q) h = let e = h refl in absurd (cc)
    step false None h = refl
    step false (Some q) h = refl

pub no_repeat : HasNoRepeat []
no_repeat slot other h = no_element h.later h.has_later

-- ---- a record after others
module _ (records : List Held) (rising : AllPairs HasLowerSlot records) (i : ℕ) (d : Held) (within : i < length records) where
  abbrev pub here : Held
  here = get_or records i d

  abbrev pub front : List Held
  front = take i records

  is_listed : Contains records here
  is_listed = Contains-get_or records i d within

  place_of_lower : (k : ℕ) (x : Held) → k < length records → get_or records k x ≡ x → x.slot < here.slot → k < i
  place_of_lower k x lt is lower = ⊎_elim
      (λ (l : k < i). l)
      (λ (l : i ≤ k). absurd (above l))
      (cases_lt k i)
    where
      above : i ≤ k → ⊥
      above l = ⊎_elim
          (λ (m : i < k). higher (rising i k d m lt) (ap (λ (r : Held). r.slot) (sym is ∙ get_or_default records k x d lt)))
          (λ (m : k ≤ i).
          let same : k ≡ i = omega arith in
          equal (ap (λ (r : Held). r.slot) (sym is ∙ get_or_default records k x d lt ∙ ap (λ (n : ℕ). get_or records n d) same)))
          (cases_lt i k)
        where
          higher : here.slot < (get_or records k d).slot → x.slot ≡ (get_or records k d).slot → ⊥
          higher up e = absurd (omega arith)

          equal : x.slot ≡ here.slot → ⊥
          equal e = absurd (omega arith)

  lower_in_front : (x : Held) → Contains records x → x.slot < here.slot → Contains front x
  lower_in_front x h lower =
      let k = h.0 in
      let low = place_of_lower k x h.1 h.2 lower in
      (k, omega (arith, length-take i records, h.1), get_or-take i records k x low ∙ h.2)

  front_is_lower : (x : Held) → Contains front x → Contains records x × (x.slot < here.slot)
  front_is_lower x h =
      let k = h.0 in
      let low : k < i = omega (arith, length-take i records, h.1) in
      let lt : k < length records = omega arith in
      let is : get_or records k x ≡ x = sym (get_or-take i records k x low) ∙ h.2 in
      ((k, lt, is), subst (λ (r : Held). r.slot < here.slot) (sym (get_or_default records k x d lt) ∙ is) (rising k i d low within))

  alone : (x : Held) → Contains records x → x.slot ≡ here.slot → x ≡ here
  alone x h same = ⊎_elim
      (λ (e : x ≡ here). e)
      (λ o. ⊎_elim
      (λ (l : x.slot < here.slot). absurd (omega arith))
      (λ (l : here.slot < x.slot). absurd (omega arith))
      o)
      (pair_cases HasLowerSlot records x here rising h is_listed)

  fewer : (slot other : ℕ) → slot < here.slot → Repeats records slot other → Repeats front slot other
  fewer slot other low h = record {
    later = h.later;
    earlier = h.earlier;
    has_later = lower_in_front h.later h.has_later (omega (arith, h.stands));
    has_earlier = lower_in_front h.earlier h.has_earlier (omega (arith, h.stood, h.lower));
    stands = h.stands;
    stood = h.stood;
    lower = h.lower;
    same = h.same;
  }

  -- two records in front, of one version
  both : (a b : Held) → Contains front a → Contains front b → version_of a ≡ version_of b → b.slot < a.slot
      → Repeats front a.slot b.slot
  both a b ha hb same lower = record {
    later = a;
    earlier = b;
    has_later = ha;
    has_earlier = hb;
    stands = refl;
    stood = refl;
    lower = lower;
    same = same_version a b same;
  }

  module _ (apart : HasNoRepeat front) where
    pub first_repeat : (e : Held) → Contains front e → version_of e ≡ version_of here → IsFirstRepeat records here.slot e.slot
    first_repeat e h same = record {
      repeats = record {
        later = here;
        earlier = e;
        has_later = is_listed;
        has_earlier = (front_is_lower e h).0;
        stands = refl;
        stood = refl;
        lower = (front_is_lower e h).1;
        same = same_version here e (sym same);
      };
      lowest = λ s o q. ⊎_elim
          (λ (l : s < here.slot). absurd (apart s o (fewer s o l q)))
          (λ (l : here.slot ≤ s). l)
          (cases_lt s here.slot);
      only = λ o q. one o q (lower_in_front q.earlier q.has_earlier (omega (arith, q.stood, q.lower)))
          (version_same q.later q.earlier q.same);
    }
      where
        one : (o : ℕ) (q : Repeats records here.slot o) → Contains front q.earlier → version_of q.later ≡ version_of q.earlier → o ≡ e.slot
        one o q k alike =
            let there : q.later ≡ here = alone q.later q.has_later q.stands in
            let like : version_of q.earlier ≡ version_of e = sym alike ∙ ap version_of there ∙ sym same in
            ⊎_elim
            (λ (l : o < e.slot). absurd (apart e.slot q.earlier.slot (both e q.earlier h k (sym like) (omega (arith, q.stood)))))
            (λ (l : e.slot ≤ o). ⊎_elim
            (λ (m : e.slot < o). absurd (apart q.earlier.slot e.slot (both q.earlier e k h like (omega (arith, q.stood)))))
            (λ (m : o ≤ e.slot). omega arith)
            (cases_lt e.slot o))
            (cases_lt o e.slot)

    pub no_repeat_more : slot_of_version (version_of here) front ≡ None → HasNoRepeat (take (i + 1) records)
    no_repeat_more none slot other h =
        let more = take_more records i d within in
        by (Contains-push_cases front here h.later (subst (λ (xs : List Held). Contains xs h.later) more h.has_later))
        (Contains-push_cases front here h.earlier (subst (λ (xs : List Held). Contains xs h.earlier) more h.has_earlier))
      where
        by : Contains front h.later ⊎ (here ≡ h.later) → Contains front h.earlier ⊎ (here ≡ h.earlier) → ⊥
        by (inl a) (inl b) = apart slot other (record {
          later = h.later;
          earlier = h.earlier;
          has_later = a;
          has_earlier = b;
          stands = h.stands;
          stood = h.stood;
          lower = h.lower;
          same = h.same;
        })
        by (inl a) (inr b) =
            let low = (front_is_lower h.later a).1 in
            let e : here.slot ≡ h.earlier.slot = ap (λ (r : Held). r.slot) b in
            absurd (omega (arith, h.stands, h.stood, h.lower))
        by (inr a) (inl b) = absent (version_of here) front none h.earlier b
            (sym (version_same h.later h.earlier h.same) ∙ ap version_of (sym a))
        by (inr a) (inr b) =
            let e : h.later.slot ≡ h.earlier.slot = ap (λ (r : Held). r.slot) (sym a ∙ b) in
            absurd (omega (arith, h.stands, h.stood, h.lower))

  -- the slots of versions, told by a map that takes this record's
  module _ (old new : ℕ × ℕ × ℕ → Option ℕ) (key : ℕ × ℕ × ℕ) (is : key ≡ version_of here)
      (so_far : (q : ℕ × ℕ × ℕ) → old q ≡ slot_of_version q front) (none : old key ≡ None) where
    pub unseen : slot_of_version (version_of here) front ≡ None
    unseen = sym (so_far (version_of here)) ∙ ap old (sym is) ∙ none

    pub seen_more : ((q : ℕ × ℕ × ℕ) → new q ≡ cond (eq_by_cmp version_cmp key q) (Some here.slot) (old q))
        → (q : ℕ × ℕ × ℕ) → new q ≡ slot_of_version q (take (i + 1) records)
    seen_more puts q =
        puts q
        ∙ ap (λ (w : ℕ × ℕ × ℕ). cond (eq_by_cmp version_cmp w q) (Some here.slot) (old q)) is
        ∙ ap (cond (has_version q here) (Some here.slot)) (so_far q)
        ∙ sym (slot_more q front here unseen)
        ∙ ap (slot_of_version q) (sym (take_more records i d within))
