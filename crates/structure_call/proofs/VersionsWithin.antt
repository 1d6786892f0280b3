-- Each change makes a version later by one at most.
use Rattle.std.proofs.Common.{◌≡◌, ℕ, ◌+◌, ◌≤◌, ◌⊎◌, inl, inr, Bool, true, false, cond, suc, List, [], ◌∷◌, ◌++◌, length, map, refl, sym, ap, ◌∙◌, subst, arith}
use Rattle.std.specs.Prelude.{◌||◌, nat_lt, nat_le, max, fold, Any, Option, Some, None}
use Rattle.std.specs.List.{AllZip, Contains, list_any}
use Rattle.std.proofs.lemmas.Bool.Decides.{nat_tests}
use Rattle.mont_base.specs.declared.constants.TheConstants.{LAST}
use Rattle.mont_base.specs.declared.effect.Effect.{Effect}
use Rattle.mont_base.specs.declared.effect.Effect.TheVariants.{Inserts, Replaces, Removes}
use Rattle.mont_base.specs.declared.effect.Thing.{Thing}
use Rattle.mont_base.specs.declared.kinds.UnitKind.{UnitKind}
use Rattle.mont_base.specs.declared.record.Change.{Change}
use Rattle.mont_base.specs.declared.record.Change.TheVariants.{Insert, Replace, Remove}
use Rattle.mont_base.specs.declared.record.Held.{Held}
use Rattle.mont_base.specs.declared.record.Object.{Object}
use Rattle.mont_base.specs.Layout.{Shape, kind_of}
use Rattle.mont_base.specs.Versions.{is_delete, later_of, live_objects, newest_of, object_of}
use Rattle.mont_laws.specs.Effects.{IsEffect, AreEffects}
use Rattle.mont_laws.specs.Records.{live_of}
use Rattle.mont_laws.proofs.Edits.{live_facts, live_from}
use Rattle.mont_laws.proofs.LiveObjects.{live_records, record_live}
use Rattle.mont_laws.proofs.Members.{no_element, first_element, later_element, element_cases}
use Rattle.mont_laws.proofs.Newest.{newest_append, newest_is}
use Rattle.slots.specs.Books.{BooksShown}
use Rattle.slots.specs.WrittenRecords.{ends_version, greatest_version, version_in}
use Rattle.mont_base.specs.Counting.{LacksVersion, is_version_of, version_among, version_if}
use Rattle.structure_call.specs.CountedNumbers.{AreVersionsWithin, is_thing_of, may_hold}
use Rattle.structure_call.specs.Planning.{Makes, NamesThing}
use Rattle.structure_call.proofs.KeptPlans.{newest_live}
use Rattle.structure_call.proofs.NamedThings.{Names, AllName, named_is, same_name}

-- ---- at first
image_there : {A B : Type 0} (f : A → B) (xs : List A) (x : A) → Contains xs x → Contains (map f xs) (f x)
image_there f [] x c = absurd (no_element x c)
image_there f (y ∷ xs) x c = elim (element_cases y xs x c) [
  | inl e ↦ subst (λ z. Contains (map f (y ∷ xs)) (f z)) (sym e) (first_element (f y) (map f xs))
  | inr k ↦ later_element (f y) (map f xs) (f x) (image_there f xs x k)
]

-- a number isn't above the greatest
module _ {A : Type 0} (number : A → ℕ) where
  least_greatest : (m : ℕ) (xs : List A) → m ≤ fold (λ most x. max most (number x)) m xs
  least_greatest m [] = omega arith
  least_greatest m (x ∷ xs) = let low = least_greatest (max m (number x)) xs in omega (arith, low)

  not_above_greatest : (m : ℕ) (x : A) (xs : List A) → Contains xs x → number x ≤ fold (λ most y. max most (number y)) m xs
  not_above_greatest m x [] c = absurd (no_element x c)
  not_above_greatest m x (y ∷ xs) c = elim (element_cases y xs x c) [
    | inl e ↦ let low = least_greatest (max m (number y)) xs in let same = ap number e in omega (arith, same, low)
    | inr k ↦ not_above_greatest (max m (number y)) x xs k
  ]

pub first_versions : (s : Shape) (unit : ℕ) (records : List Held) → AreVersionsWithin s unit (live_objects records) 0 records
first_versions s unit records thing kind identity r live is =
    let there = image_there object_of (live_records records) r (record_live records identity r live) in
    let low : version_if thing (object_of r) ≤ version_among (live_objects records) thing =
    not_above_greatest (version_if thing) 0 (object_of r) (live_objects records) there in
    let own : version_if thing (object_of r) ≡ r.label.version = ap (λ (t : Bool). cond t r.label.version 0) is in
    omega (arith, low, own)

-- ---- where the same records are live
pub kept_versions : (s : Shape) (unit : ℕ) (objects : List Object) (changes : ℕ) (old new : List Held)
    → ((identity : ℕ) → live_of identity new ≡ live_of identity old) → AreVersionsWithin s unit objects changes old
    → AreVersionsWithin s unit objects changes new
kept_versions s unit objects changes old new same within thing kind identity r live is =
    within thing kind identity r (sym (same identity) ∙ live) is

-- ---- after more records
-- a live record is one of these, and no anti-payload, or it was live before
live_among : (rs ws : List Held) (identity : ℕ) (r : Held) → live_of identity (rs ++ ws) ≡ Some r
    → (Contains ws r × (is_delete r.label.kind ≡ false)) ⊎ (live_of identity rs ≡ Some r)
live_among rs ws identity r live =
    let f = live_facts (newest_of identity (rs ++ ws)) r live in
    by (newest_of identity rs) refl (newest_of identity ws) refl (sym (newest_append identity rs ws) ∙ f.0) f.1
  where
    written : newest_of identity ws ≡ Some r → is_delete r.label.kind ≡ false
        → (Contains ws r × (is_delete r.label.kind ≡ false)) ⊎ (live_of identity rs ≡ Some r)
    written e kind = inl ((newest_is identity ws r e).there, kind)

    before : newest_of identity rs ≡ Some r → is_delete r.label.kind ≡ false
        → (Contains ws r × (is_delete r.label.kind ≡ false)) ⊎ (live_of identity rs ≡ Some r)
    before e kind = inr (live_from (newest_of identity rs) r e kind)

    later : (p q : Held) (t : Bool) → newest_of identity rs ≡ Some p → newest_of identity ws ≡ Some q
        → (cond t (Some q) (Some p)) ≡ Some r → is_delete r.label.kind ≡ false
        → (Contains ws r × (is_delete r.label.kind ≡ false)) ⊎ (live_of identity rs ≡ Some r)
    later p q true e f is kind = written (f ∙ is) kind
    later p q false e f is kind = before (e ∙ is) kind

    by : (o : Option Held) → newest_of identity rs ≡ o → (n : Option Held) → newest_of identity ws ≡ n → later_of o n ≡ Some r
        → is_delete r.label.kind ≡ false
        → (Contains ws r × (is_delete r.label.kind ≡ false)) ⊎ (live_of identity rs ≡ Some r)
    by None e n f is kind = written (f ∙ is) kind
    by (Some p) e None f is kind = before (e ∙ is) kind
    by (Some p) e (Some q) f is kind = later p q (nat_lt p.label.version q.label.version) e f is kind

module _ (s : Shape) (unit : ℕ) (objects : List Object) (changes : ℕ) (rs : List Held)
    (within : AreVersionsWithin s unit objects changes rs) (kind : UnitKind) (of_unit : kind_of s unit ≡ Some kind) where
  held_by : (thing : Thing) → may_hold (kind_of s unit) thing ≡ is_thing_of kind thing
  held_by thing = ap (λ (o : Option UnitKind). may_hold o thing) of_unit

  held : (thing : Thing) → is_thing_of kind thing ≡ true → may_hold (kind_of s unit) thing ≡ true
  held thing is = held_by thing ∙ is

  -- a record that an effect writes
  effect_within : (thing : Thing) → is_thing_of kind thing ≡ true → (e : Effect) (w : Held) → IsEffect unit rs e w → Names kind e
      → is_delete w.label.kind ≡ false → is_version_of thing (object_of w) ≡ true
      → w.label.version ≤ version_among objects thing + changes + 1
  effect_within thing is_kind (Inserts set) w k named alive is = let first = k.writes.1.version in omega (arith, first)
  effect_within thing is_kind (Replaces set) w k named alive is =
      let next = k.writes.1 in
      let low = within thing (held thing is_kind) w.label.identity next.last next.live
      (same_name kind rs thing set next.last w is_kind named.0 named.1 next.named k.writes.2 ∙ is) in
      let one = next.version in omega (arith, low, one)
  effect_within thing is_kind (Removes set) w k named alive is =
      absurd (let gone = ap is_delete k.writes.0 in cc)

  written_within : (thing : Thing) → is_thing_of kind thing ≡ true → (es : List Effect) (ws : List Held)
      → AllZip (IsEffect unit rs) es ws → AllName kind es → (w : Held) → Contains ws w
      → is_delete w.label.kind ≡ false → is_version_of thing (object_of w) ≡ true
      → w.label.version ≤ version_among objects thing + changes + length es
  written_within thing is_kind [] [] k named w c alive is = absurd (no_element w c)
  written_within thing is_kind [] (v ∷ ws) k named w c alive is = absurd k
  written_within thing is_kind (e ∷ es) [] k named w c alive is = absurd k
  written_within thing is_kind (e ∷ es) (v ∷ ws) k named w c alive is = elim (element_cases v ws w c) [
    | inl same ↦
        let one = effect_within thing is_kind e w (subst (IsEffect unit rs e) (sym same) k.0) named.0 alive is in
        omega (arith, one)
    | inr there ↦ let more = written_within thing is_kind es ws k.1 named.1 w there alive is in omega (arith, more)
  ]

  pub more_versions : (es : List Effect) (ws : List Held) → AreEffects unit rs es ws → AllName kind es
      → AreVersionsWithin s unit objects (changes + length es) (rs ++ ws)
  more_versions es ws k named thing fits identity r live is = elim (live_among rs ws identity r live) [
    | inl new ↦
        let low = written_within thing (sym (held_by thing) ∙ fits) es ws k named r new.0 new.1 is in
        omega (arith, low)
    | inr old ↦ let low = within thing fits identity r old is in omega (arith, low)
  ]

-- ---- at the end
at_least : (m n : ℕ) → nat_le m n ≡ true → m ≤ n
at_least m n e = grind (arith, nat_tests)

module _ (s : Shape) (unit : ℕ) (objects : List Object) (changes : ℕ) (rs : List Held)
    (within : AreVersionsWithin s unit objects changes rs) (kind : UnitKind) (of_unit : kind_of s unit ≡ Some kind)
    (b : BooksShown) where
  last_named : (thing : Thing) (slot identity : ℕ) → is_thing_of kind thing ≡ true → NamesThing rs thing slot identity
      → nat_le LAST (greatest_version identity rs) ≡ true → LAST ≤ version_among objects thing + changes
  last_named thing slot identity is_kind k ends =
      let last = at_least LAST (greatest_version identity rs) ends in
      let own : greatest_version identity rs ≡ k.live.label.version = ap version_in (newest_live rs identity k.live k.is) in
      let low = within thing (ap (λ (o : Option UnitKind). may_hold o thing) of_unit ∙ is_kind)
      identity k.live k.is (named_is rs thing k.live k.named) in
      omega (arith, last, own, low)

  effect_ends : (e : Effect) (c : Change) → Makes b rs e c → Names kind e → ends_version rs c ≡ true → LacksVersion objects changes e
  effect_ends (Inserts thing) (Insert body) k named ends = absurd (cc)
  effect_ends (Replaces thing) (Replace slot identity body) k named ends = last_named thing slot identity named.0 k.0 ends
  effect_ends (Removes thing) (Remove slot identity) k named ends = last_named thing slot identity named k ends
  effect_ends _ _ k named ends = absurd k

  pub versions_end : (es : List Effect) (cs : List Change) → AllZip (Makes b rs) es cs → AllName kind es
      → list_any (ends_version rs) cs ≡ true → Any (LacksVersion objects changes) es
  versions_end [] [] k named ends = absurd (cc)
  versions_end [] (c ∷ cs) k named ends = absurd k
  versions_end (e ∷ es) [] k named ends = absurd k
  versions_end (e ∷ es) (c ∷ cs) k named ends = by (ends_version rs c) refl ends (versions_end es cs k.1 named.1)
    where
      by : (t : Bool) → ends_version rs c ≡ t → (t || list_any (ends_version rs) cs) ≡ true
          → (list_any (ends_version rs) cs ≡ true → Any (LacksVersion objects changes) es)
          → Any (LacksVersion objects changes) (e ∷ es)
      by true is some more = (0, e, omega arith, refl, effect_ends e c k.0 named.0 is)
      by false is some more = let m = more some in (suc m.0, m.1, omega (arith, m.2), m.3, m.4)
