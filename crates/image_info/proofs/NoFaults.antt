-- Lists of faults in which there is none.
use Rattle.std.proofs.Common.{◌≡◌, ℕ, ◌<◌, Bool, true, false, cond, ◌⊎◌, inl, inr, List, [], ◌∷◌, ◌++◌, refl, sym, ap, ◌∙◌, subst, arith, ⊎_elim}
use Rattle.std.specs.Prelude.{Option, Some, None, AllPairs, if◌then◌else◌}
use Rattle.std.specs.List.{Contains, cons_option, filter_map, find, flat_map}
use Rattle.std.specs.Option.{option_map}
use Rattle.std.proofs.lemmas.Bool.{true≢false}
use Rattle.std.proofs.lemmas.List.Elements.{All-contains, Contains-append_left, Contains-push, Contains-push_cases}
use Rattle.mont_base.specs.declared.kinds.UnitKind.{UnitKind}
use Rattle.mont_base.specs.declared.kinds.UnitKind.TheVariants as kinds
use Rattle.mont_base.specs.declared.record.Held.{Held}
use Rattle.mont_base.specs.declared.record.Object.{Object}
use Rattle.mont_base.specs.declared.record.ObjectFault.{ObjectFault}
use Rattle.mont_base.specs.declared.record.ObjectFault.TheVariants as object_faults
use Rattle.mont_base.specs.Layout.{Shape}
use Rattle.mont_base.specs.Structure.{at_slot, edge_at, end_fault, first_fault, lacks_end, map_fault, object_fault, or_else, part_fault, queue_fault}
use Rattle.mont_laws.specs.UnitRecords.{HasLowerSlot}
use Rattle.mont_laws.proofs.Members.{element_cases, first_element, later_element, no_element, pairs_head, pairs_tail}
use Rattle.image_units.specs.declared.image_fault.ImageFault.{ImageFault}
use Rattle.image_units.specs.declared.image_fault.ImageFault.TheVariants as faults
use Rattle.image_units.specs.FoundVersions.{HasNoRepeat, IsSameVersion, version_of}
use Rattle.old_image.specs.OldStructure.{old_map_fault, old_object_fault}
use Rattle.image_info.specs.AllFaults.{each_behind, end_fault_at, end_faults, is_version, judged, judged_fault, kind_faults, object_fault_told, repeat_fault, repeats}
use Rattle.image_info.proofs.Repeated.{is_that, that_is}

-- ---- lists and options
cons_none : {B : Type 0} (o : Option B) (xs : List B) → cons_option o xs ≡ [] → (o ≡ None) × (xs ≡ [])
cons_none None xs e = (refl, e)
cons_none (Some b) xs e = cc

pub append_none : {B : Type 0} (xs ys : List B) → xs ++ ys ≡ [] → (xs ≡ []) × (ys ≡ [])
append_none [] ys e = (refl, e)
append_none (x ∷ xs) ys e = cc

pub map_none : {A B : Type 0} (f : A → B) (o : Option A) → option_map f o ≡ None → o ≡ None
map_none f None e = refl
map_none f (Some a) e = cc

either_none : (a b : Option (ℕ × ObjectFault)) → or_else a b ≡ None → (a ≡ None) × (b ≡ None)
either_none None b e = (refl, e)
either_none (Some x) b e = cc

slot_none : (slot : ℕ) (o : Option ObjectFault) → at_slot slot o ≡ None → o ≡ None
slot_none slot None e = refl
slot_none slot (Some fault) e = cc

module _ {A B : Type 0} (f : A → Option B) where
  pub none_of : (xs : List A) → filter_map f xs ≡ [] → (a : A) → Contains xs a → f a ≡ None
  none_of [] e a h = absurd (no_element a h)
  none_of (x ∷ xs) e a h =
      let parts = cons_none (f x) (filter_map f xs) e in
      ⊎_elim
      (λ (is : a ≡ x). ap f is ∙ parts.0)
      (λ (k : Contains xs a). none_of xs parts.1 a k)
      (element_cases x xs a h)

  pub all_none : (xs : List A) → ((a : A) → Contains xs a → f a ≡ None) → filter_map f xs ≡ []
  all_none [] h = refl
  all_none (x ∷ xs) h =
      (λ i. cons_option (h x (first_element x xs) i) (filter_map f xs)) ∙ all_none xs (λ a k. h a (later_element x xs a k))

module _ {A B : Type 0} (f : A → List B) where
  pub empty_of : (xs : List A) → flat_map f xs ≡ [] → (a : A) → Contains xs a → f a ≡ []
  empty_of [] e a h = absurd (no_element a h)
  empty_of (x ∷ xs) e a h =
      let parts = append_none (f x) (flat_map f xs) e in
      ⊎_elim
      (λ (is : a ≡ x). ap f is ∙ parts.0)
      (λ (k : Contains xs a). empty_of xs parts.1 a k)
      (element_cases x xs a h)

  pub all_empty : (xs : List A) → ((a : A) → Contains xs a → f a ≡ []) → flat_map f xs ≡ []
  all_empty [] h = refl
  all_empty (x ∷ xs) h =
      (λ i. h x (first_element x xs) i ++ flat_map f xs) ∙ all_empty xs (λ a k. h a (later_element x xs a k))

-- ---- objects
module _ (unit : ℕ) (fault_of : List Object → Object → Option ObjectFault) where
  none_first : (lower os : List Object) → each_behind (judged_fault unit fault_of) lower os ≡ [] → first_fault fault_of lower os ≡ None
  none_first lower [] e = refl
  none_first lower (o ∷ os) e =
      let parts = cons_none (judged_fault unit fault_of lower o) (each_behind (judged_fault unit fault_of) (lower ++ o ∷ []) os) e in
      let own = map_none (object_fault_told unit o) (fault_of lower o) parts.0 in
      λ i. or_else (at_slot o.slot (own i)) (none_first (lower ++ o ∷ []) os parts.1 i)

  none_judged : (lower os : List Object) → first_fault fault_of lower os ≡ None → each_behind (judged_fault unit fault_of) lower os ≡ []
  none_judged lower [] e = refl
  none_judged lower (o ∷ os) e =
      let parts = either_none (at_slot o.slot (fault_of lower o)) (first_fault fault_of (lower ++ o ∷ []) os) e in
      let own = slot_none o.slot (fault_of lower o) parts.0 in
      λ i. cons_option (option_map (object_fault_told unit o) (own i)) (none_judged (lower ++ o ∷ []) os parts.1 i)

module _ (unit : ℕ) (all : List Object) where
  abbrev end_of : Object → ImageFault
  end_of o = faults.Object unit o.slot object_faults.End

  none_end : (os : List Object) → filter_map (end_fault_at unit all) os ≡ [] → end_fault all os ≡ None
  none_end [] e = refl
  none_end (o ∷ os) e = by (lacks_end all (edge_at o)) e (λ k. none_end os k)
    where
      by : (b : Bool)
          → cons_option (if b then Some (end_of o) else None) (filter_map (end_fault_at unit all) os) ≡ []
          → (filter_map (end_fault_at unit all) os ≡ [] → end_fault all os ≡ None)
          → (if b then Some (o.slot, object_faults.End) else end_fault all os) ≡ None
      by true e rest = cc
      by false e rest = rest e

  none_lacks : (os : List Object) → end_fault all os ≡ None → filter_map (end_fault_at unit all) os ≡ []
  none_lacks [] e = refl
  none_lacks (o ∷ os) e = by (lacks_end all (edge_at o)) e (λ k. none_lacks os k)
    where
      by : (b : Bool) → (if b then Some (o.slot, object_faults.End) else end_fault all os) ≡ None
          → (end_fault all os ≡ None → filter_map (end_fault_at unit all) os ≡ [])
          → cons_option (if b then Some (end_of o) else None) (filter_map (end_fault_at unit all) os) ≡ []
      by true e rest = cc
      by false e rest = rest e

-- the first fault of objects of a kind, in an image of the first version and in others
abbrev pub kind_fault : Bool → Shape → ℕ → UnitKind → List Object → Option (ℕ × ObjectFault)
kind_fault true = old_object_fault
kind_fault false = object_fault

module _ (s : Shape) (unit : ℕ) (os : List Object) where
  graph_sound : judged unit part_fault os ++ end_faults unit os ≡ [] → object_fault s unit kinds.Graph os ≡ None
  graph_sound e =
      let parts = append_none (judged unit part_fault os) (end_faults unit os) e in
      λ i. or_else (none_first unit part_fault [] os parts.0 i) (none_end unit os os parts.1 i)

  graph_told : object_fault s unit kinds.Graph os ≡ None → judged unit part_fault os ++ end_faults unit os ≡ []
  graph_told e =
      let parts = either_none (first_fault part_fault [] os) (end_fault os os) e in
      λ i. none_judged unit part_fault [] os parts.0 i ++ none_lacks unit os os parts.1 i

  pub kind_sound : (old : Bool) (kind : UnitKind) → kind_faults old s unit kind os ≡ [] → kind_fault old s unit kind os ≡ None
  kind_sound true kinds.Map e = none_first unit (old_map_fault s unit) [] os e
  kind_sound true kinds.Queue e = none_first unit queue_fault [] os e
  kind_sound true kinds.Graph e = graph_sound e
  kind_sound true kinds.Ordered e = none_first unit (map_fault s unit) [] os e
  kind_sound false kinds.Map e = none_first unit (map_fault s unit) [] os e
  kind_sound false kinds.Queue e = none_first unit queue_fault [] os e
  kind_sound false kinds.Graph e = graph_sound e
  kind_sound false kinds.Ordered e = none_first unit (map_fault s unit) [] os e

  pub kind_told : (old : Bool) (kind : UnitKind) → kind_fault old s unit kind os ≡ None → kind_faults old s unit kind os ≡ []
  kind_told true kinds.Map e = none_judged unit (old_map_fault s unit) [] os e
  kind_told true kinds.Queue e = none_judged unit queue_fault [] os e
  kind_told true kinds.Graph e = graph_told e
  kind_told true kinds.Ordered e = none_judged unit (map_fault s unit) [] os e
  kind_told false kinds.Map e = none_judged unit (map_fault s unit) [] os e
  kind_told false kinds.Queue e = none_judged unit queue_fault [] os e
  kind_told false kinds.Graph e = graph_told e
  kind_told false kinds.Ordered e = none_judged unit (map_fault s unit) [] os e

-- ---- versions that stand twice
none_found : (p : Held → Bool) (xs : List Held) → find p xs ≡ None → (a : Held) → Contains xs a → p a ≡ true → ⊥
none_found p [] e a h is = no_element a h
none_found p (x ∷ xs) e a h is = by (p x) refl e (λ k. none_found p xs k)
  where
    by : (b : Bool) → p x ≡ b → cond b (Some x) (find p xs) ≡ None
        → (find p xs ≡ None → (c : Held) → Contains xs c → p c ≡ true → ⊥) → ⊥
    by true t e rest = cc
    by false t e rest = ⊎_elim
        (λ (same : a ≡ x). true≢false (sym is ∙ ap p same ∙ t))
        (λ (k : Contains xs a). rest e a k is)
        (element_cases x xs a h)

some_found : (p : Held → Bool) (xs : List Held) (q : Held) → find p xs ≡ Some q → Contains xs q × (p q ≡ true)
some_found p [] q e = cc
some_found p (x ∷ xs) q e = by (p x) refl e (λ k. some_found p xs q k)
  where
    by : (b : Bool) → p x ≡ b → cond b (Some x) (find p xs) ≡ Some q
        → (find p xs ≡ Some q → Contains xs q × (p q ≡ true)) → Contains (x ∷ xs) q × (p q ≡ true)
    by true t e rest =
        let same : x ≡ q = cc in
        (subst (Contains (x ∷ xs)) same (first_element x xs), ap p (sym same) ∙ t)
    by false t e rest = let k = rest e in (later_element x xs q k.0, k.1)

same_version : (r q : Held) → version_of q ≡ version_of r → IsSameVersion r q
same_version r q e = record {
  unit = ap (λ (v : ℕ × ℕ × ℕ). v.0) (sym e);
  identity = ap (λ (v : ℕ × ℕ × ℕ). v.1) (sym e);
  version = ap (λ (v : ℕ × ℕ × ℕ). v.2) (sym e);
}

version_same : (r q : Held) → IsSameVersion r q → version_of q ≡ version_of r
version_same r q h = λ i. (sym h.unit i, sym h.identity i, sym h.version i)

apart_behind : (lower xs : List Held) → each_behind repeat_fault lower xs ≡ [] → AllPairs HasLowerSlot xs
    → (later earlier : Held) → Contains xs later → Contains lower earlier ⊎ Contains xs earlier → IsSameVersion later earlier
    → earlier.slot < later.slot → ⊥
apart_behind lower [] e rising later earlier h k same low = no_element later h
apart_behind lower (x ∷ xs) e rising later earlier h k same low =
    here (cons_none (repeat_fault lower x) (each_behind repeat_fault (lower ++ x ∷ []) xs) e)
    (λ rest there k. apart_behind (lower ++ x ∷ []) xs rest (pairs_tail HasLowerSlot x xs rising) later earlier there k same low)
    (element_cases x xs later h) k
  where
    above : (q : Held) → Contains xs q → x.slot < q.slot
    above q j = All-contains (HasLowerSlot x) xs q (pairs_head HasLowerSlot x xs rising) j

    Rest : Type 0
    Rest = each_behind repeat_fault (lower ++ x ∷ []) xs ≡ [] → Contains xs later
        → Contains (lower ++ x ∷ []) earlier ⊎ Contains xs earlier → ⊥

    in_front : (later ≡ x) → Contains lower earlier → repeat_fault lower x ≡ None → ⊥
    in_front is j none =
        none_found (is_version (version_of x)) lower
        (map_none (λ (q : Held). faults.Twice x.slot q.slot) (find (is_version (version_of x)) lower) none) earlier j
        (that_is (version_of x) earlier (version_same later earlier same ∙ ap version_of is))

    behind : (later ≡ x) → (earlier ≡ x) ⊎ Contains xs earlier → ⊥
    behind is (inl e) =
        let same_slot : earlier.slot ≡ later.slot = ap (λ (r : Held). r.slot) (e ∙ sym is) in
        absurd (omega (arith, low))
    behind is (inr j) =
        let up = above earlier j in
        let slot : later.slot ≡ x.slot = ap (λ (r : Held). r.slot) is in
        absurd (omega (arith, low, up))

    first : (later ≡ x) → repeat_fault lower x ≡ None → Contains lower earlier ⊎ Contains (x ∷ xs) earlier → ⊥
    first is none (inl j) = in_front is j none
    first is none (inr j) = behind is (element_cases x xs earlier j)

    further : (earlier ≡ x) ⊎ Contains xs earlier → Contains (lower ++ x ∷ []) earlier ⊎ Contains xs earlier
    further (inl e) = inl (subst (Contains (lower ++ x ∷ [])) (sym e) (Contains-push lower x))
    further (inr j) = inr j

    pushed : Contains lower earlier ⊎ Contains (x ∷ xs) earlier → Contains (lower ++ x ∷ []) earlier ⊎ Contains xs earlier
    pushed (inl j) = inl (Contains-append_left lower (x ∷ []) earlier j)
    pushed (inr j) = further (element_cases x xs earlier j)

    here : (repeat_fault lower x ≡ None) × (each_behind repeat_fault (lower ++ x ∷ []) xs ≡ []) → Rest
        → (later ≡ x) ⊎ Contains xs later → Contains lower earlier ⊎ Contains (x ∷ xs) earlier → ⊥
    here parts rest (inl is) k = first is parts.0 k
    here parts rest (inr there) k = rest parts.1 there (pushed k)

pub no_repeat : (records : List Held) → AllPairs HasLowerSlot records → repeats records ≡ [] → HasNoRepeat records
no_repeat records rising none slot other h =
    apart_behind [] records none rising h.later h.earlier h.has_later (inr h.has_earlier) h.same (omega (arith, h.stands, h.stood, h.lower))

behind_apart : (lower xs : List Held) → AllPairs HasLowerSlot xs
    → ((q x : Held) → Contains lower q → Contains xs x → q.slot < x.slot)
    → ((later earlier : Held) → Contains xs later → Contains lower earlier ⊎ Contains xs earlier → IsSameVersion later earlier
    → earlier.slot < later.slot → ⊥)
    → each_behind repeat_fault lower xs ≡ []
behind_apart lower [] rising below apart = refl
behind_apart lower (x ∷ xs) rising below apart =
    (λ i. cons_option (option_map (λ (q : Held). faults.Twice x.slot q.slot) (none i)) (each_behind repeat_fault (lower ++ x ∷ []) xs))
    ∙ behind_apart (lower ++ x ∷ []) xs (pairs_tail HasLowerSlot x xs rising)
    (λ q y j k. under q y (Contains-push_cases lower x q j) k)
    (λ later earlier j k same low. apart later earlier (later_element x xs later j) (back earlier k) same low)
  where
    under : (q y : Held) → Contains lower q ⊎ (x ≡ q) → Contains xs y → q.slot < y.slot
    under q y (inl j) k = below q y j (later_element x xs y k)
    under q y (inr is) k = subst (λ (r : Held). r.slot < y.slot) is
        (All-contains (HasLowerSlot x) xs y (pairs_head HasLowerSlot x xs rising) k)

    moved : (earlier : Held) → Contains lower earlier ⊎ (x ≡ earlier) → Contains lower earlier ⊎ Contains (x ∷ xs) earlier
    moved earlier (inl j) = inl j
    moved earlier (inr is) = inr (subst (Contains (x ∷ xs)) is (first_element x xs))

    back : (earlier : Held) → Contains (lower ++ x ∷ []) earlier ⊎ Contains xs earlier → Contains lower earlier ⊎ Contains (x ∷ xs) earlier
    back earlier (inl j) = moved earlier (Contains-push_cases lower x earlier j)
    back earlier (inr j) = inr (later_element x xs earlier j)

    by : (o : Option Held) → find (is_version (version_of x)) lower ≡ o → o ≡ None
    by None e = refl
    by (Some q) e =
        let k = some_found (is_version (version_of x)) lower q e in
        absurd (apart x q (first_element x xs) (inl k.0) (same_version x q (is_that (version_of x) q k.1))
        (below q x k.0 (first_element x xs)))

    none : find (is_version (version_of x)) lower ≡ None
    none = by (find (is_version (version_of x)) lower) refl

pub none_repeats : (records : List Held) → AllPairs HasLowerSlot records → HasNoRepeat records → repeats records ≡ []
none_repeats records rising none = behind_apart [] records rising (λ q x j k. absurd (no_element q j)) apart
  where
    apart : (later earlier : Held) → Contains records later → Contains [] earlier ⊎ Contains records earlier
        → IsSameVersion later earlier → earlier.slot < later.slot → ⊥
    apart later earlier h (inl j) same low = no_element earlier j
    apart later earlier h (inr j) same low = none later.slot earlier.slot (record {
      later = later;
      earlier = earlier;
      has_later = h;
      has_earlier = j;
      stands = refl;
      stood = refl;
      lower = low;
      same = same;
    })
