-- The structure of records is the one that their live objects make in their order.
use Rattle.std.proofs.Common.{◌≡◌, ℕ, ◌+◌, List, [], length, sym, refl, ap, ◌∙◌, subst, true}
use Rattle.std.specs.Prelude.{◌↔◌, Option, Some, None}
use Rattle.std.specs.Ordering.{nat_cmp, eq_by_cmp}
use Rattle.std.specs.FinMap as finite
use Rattle.mont_base.specs.declared.kinds.UnitKind.{UnitKind}
use Rattle.mont_base.specs.declared.kinds.UnitKind.TheVariants as kinds
use Rattle.mont_base.specs.declared.record.Held.{Held}
use Rattle.mont_base.specs.declared.record.Object.{Object}
use Rattle.mont_base.specs.Layout.{Shape, kind_of, keeps_pairs}
use Rattle.mont_base.specs.State.{State, MapOf, QueueOf, GraphOf, Key, Value, Graph, Pairs, key_cmp, is_state_of, is_kind_of, size_of}
use Rattle.mont_base.specs.Versions.{live_objects}
use Rattle.mont_base.specs.Structure.{or_else, object_fault, structure_of, pairs_of, items_of, row_of, graph_of, map_fault, queue_fault, part_fault, first_fault, end_fault, IsStructure}
use Rattle.mont_laws.specs.Records.{AreApart}
use Rattle.mont_laws.specs.Shows.{live_things}
use Rattle.mont_laws.specs.Structures.{pair_for, item_for, part_for, Part, attribute_of, HasPairs, HasItems, HasGraph, HasThings, HasStructure}
use Rattle.mont_base.proofs.KindTable.{one_kind}
use Rattle.mont_laws.proofs.Keys.{one_text, one_number}
use Rattle.mont_laws.proofs.Parts.{same_part, one_part, graph_same}
use Rattle.mont_laws.proofs.SameKind.{has_kind}
use Rattle.mont_laws.proofs.Shows.{shows_once}
use Rattle.mont_laws.proofs.Maps.{pairs_once}
use Rattle.mont_laws.proofs.Queues.{items_once}
use Rattle.mont_laws.proofs.Scans.{neither_fault}
use Rattle.mont_laws.proofs.Found.{finds_pairs, finds_items}
use Rattle.mont_laws.proofs.FoundParts.{finds_parts, ends_from, ends_none}
use Rattle.mont_laws.proofs.Made.{AreEntries, entries_found, none_found, entries_shown, made_pairs, pairs_length, made_row, items_length, part_lookup, made_parts, parts_length}

module _ (s : Shape) (unit : ℕ) (rs : List Held) (apart : AreApart rs) where
  -- ---- the entries of what is shown
  pairs_entries : (m : Pairs) → HasPairs s unit rs m → (es : List (Key × Value)) × AreEntries (eq_by_cmp key_cmp) (pair_for s unit) rs es
  pairs_entries m h = entries_shown (eq_by_cmp key_cmp) one_text (pair_for s unit) rs apart (finite.get m) h

  items_entries : (items : List ℕ) → HasItems rs items → (es : List (ℕ × ℕ)) × AreEntries (eq_by_cmp nat_cmp) item_for rs es
  items_entries items h = entries_shown (eq_by_cmp nat_cmp) one_number item_for rs apart (finite.get h.0) h.1

  parts_entries : (g : Graph) → HasGraph rs g → (es : List (Part × ℕ)) × AreEntries same_part part_for rs es
  parts_entries g h = entries_shown same_part one_part part_for rs apart (attribute_of g) h.parts

  -- ---- what is shown is what the objects make
  pairs_made : (m : Pairs) → HasPairs s unit rs m → m ≡ pairs_of (live_objects rs)
  pairs_made m h = let b = pairs_entries m h in pairs_once s unit rs m (pairs_of (live_objects rs)) h (made_pairs s unit rs b.0 b.1 apart)

  items_made : (items : List ℕ) → HasItems rs items → items ≡ items_of (live_objects rs)
  items_made items h = let b = items_entries items h in items_once rs items (items_of (live_objects rs)) h
      (row_of (live_objects rs), made_row rs b.0 b.1 apart, refl)

  attributes_made : (g : Graph) → HasGraph rs g → attribute_of g ≡ attribute_of (graph_of (live_objects rs))
  attributes_made g h = let b = parts_entries g h in shows_once (live_things part_for rs) (attribute_of g)
      (attribute_of (graph_of (live_objects rs))) h.parts (made_parts rs b.0 b.1 apart)

  graph_sound : (g : Graph) → HasGraph rs g → object_fault s unit kinds.Graph (live_objects rs) ≡ None
  graph_sound g h =
      let b = parts_entries g h in
      let e = attributes_made g h in
      let none = none_found same_part one_part part_for part_fault finds_parts rs b.0 b.1 in
      let ends = ends_none (live_objects rs) b.0 b.1.reads b.1.differ g
      (λ t. part_lookup rs b.0 b.1 t ∙ ap (λ (f : Part → Option ℕ). f t) (sym e)) h.ends in
      λ i. or_else (none i) (ends i)

  -- maps and ordered units make pairs of their objects
  pairs_kind : (kind : UnitKind) (os : List Object) → keeps_pairs kind ≡ true
      → (object_fault s unit kind os ≡ first_fault (map_fault s unit) [] os) × (structure_of kind os ≡ MapOf (pairs_of os))
  pairs_kind kinds.Map os e = (refl, refl)
  pairs_kind kinds.Queue os e = absurd (cc)
  pairs_kind kinds.Graph os e = absurd (cc)
  pairs_kind kinds.Ordered os e = (refl, refl)

  -- the objects have no fault and make the state
  abbrev Makes : UnitKind → State → Type 0
  Makes kind state = (object_fault s unit kind (live_objects rs) ≡ None) × (state ≡ structure_of kind (live_objects rs))

  things_make : (kind : UnitKind) (state : State) → is_state_of kind state ≡ true → HasThings s unit rs state → Makes kind state
  things_make kind (MapOf m) d h =
      let b = pairs_entries m h in
      let k = pairs_kind kind (live_objects rs) d in (
        k.0 ∙ none_found (eq_by_cmp key_cmp) one_text (pair_for s unit) (map_fault s unit) (finds_pairs s unit) rs b.0 b.1,
        ap MapOf (pairs_made m h) ∙ sym k.1,
      )
  things_make kind (QueueOf items) d h =
      let b = items_entries items h in
      subst (λ (k : UnitKind). Makes k (QueueOf items)) (sym (one_kind kind kinds.Queue d))
      (none_found (eq_by_cmp nat_cmp) one_number item_for queue_fault finds_items rs b.0 b.1, ap QueueOf (items_made items h))
  things_make kind (GraphOf g) d h = subst (λ (k : UnitKind). Makes k (GraphOf g)) (sym (one_kind kind kinds.Graph d))
      (graph_sound g h, ap GraphOf (graph_same g (graph_of (live_objects rs)) (attributes_made g h)))

  pub objects_make : (state : State) → HasStructure s unit rs state → IsStructure s unit (live_objects rs) state
  objects_make state h = by (kind_of s unit) refl h.of_unit
    where
      by : (o : Option UnitKind) → kind_of s unit ≡ o → is_kind_of o state ≡ true → IsStructure s unit (live_objects rs) state
      by None e d = absurd (cc)
      by (Some kind) e d =
          let made = things_make kind state d h.things in
          record { kind = kind; of_unit = e; sound = made.0; made = made.1 }

  -- ---- and what they make is shown, where they have no fault
  pairs_shown : first_fault (map_fault s unit) [] (live_objects rs) ≡ None → HasPairs s unit rs (pairs_of (live_objects rs))
  pairs_shown none =
      let b = entries_found (eq_by_cmp key_cmp) one_text (pair_for s unit) (map_fault s unit) (finds_pairs s unit) rs none in
      made_pairs s unit rs b.0 b.1 apart

  made_kind : (kind : UnitKind) (os : List Object) → is_state_of kind (structure_of kind os) ≡ true
  made_kind kinds.Map os = refl
  made_kind kinds.Queue os = refl
  made_kind kinds.Graph os = refl
  made_kind kinds.Ordered os = refl

  of_kind : (kind : UnitKind) → kind_of s unit ≡ Some kind → is_kind_of (kind_of s unit) (structure_of kind (live_objects rs)) ≡ true
  of_kind kind e = has_kind (kind_of s unit) kind (structure_of kind (live_objects rs)) e (made_kind kind (live_objects rs))

  made_shown : (kind : UnitKind) → kind_of s unit ≡ Some kind → object_fault s unit kind (live_objects rs) ≡ None
      → HasStructure s unit rs (structure_of kind (live_objects rs))
  made_shown kinds.Map e none = record { of_unit = of_kind kinds.Map e; things = pairs_shown none }
  made_shown kinds.Queue e none =
      let b = entries_found (eq_by_cmp nat_cmp) one_number item_for queue_fault finds_items rs none in
      record { of_unit = of_kind kinds.Queue e; things = (row_of (live_objects rs), made_row rs b.0 b.1 apart, refl) }
  made_shown kinds.Graph e none =
      let c = neither_fault (first_fault part_fault [] (live_objects rs)) (end_fault (live_objects rs) (live_objects rs)) none in
      let b = entries_found same_part one_part part_for part_fault finds_parts rs c.0 in
      record {
        of_unit = of_kind kinds.Graph e;
        things = record {
          parts = made_parts rs b.0 b.1 apart;
          ends = ends_from (live_objects rs) b.0 b.1.reads b.1.differ
              (graph_of (live_objects rs)) (part_lookup rs b.0 b.1) c.1;
        };
      }
  made_shown kinds.Ordered e none = record { of_unit = of_kind kinds.Ordered e; things = pairs_shown none }

  pub objects_show : (state : State) → IsStructure s unit (live_objects rs) state → HasStructure s unit rs state
  objects_show state h = subst (HasStructure s unit rs) (sym h.made) (made_shown h.kind h.of_unit h.sound)

  -- there are as many live objects as things
  pub as_many : (state : State) → HasStructure s unit rs state → length (live_objects rs) ≡ size_of state
  as_many (MapOf m) h = let b = pairs_entries m h.things in pairs_length s unit rs b.0 b.1 ∙ ap (λ (n : Pairs). finite.len n)
      (sym (pairs_made m h.things))
  as_many (QueueOf items) h = let b = items_entries items h.things in
      items_length rs b.0 b.1 ∙ ap (λ (xs : List ℕ). length xs) (sym (items_made items h.things))
  as_many (GraphOf g) h =
      let b = parts_entries g h.things in
      parts_length rs b.0 b.1 ∙ ap (λ (k : Graph). finite.len k.vertices + finite.len k.edges)
      (sym (graph_same g (graph_of (live_objects rs)) (attributes_made g h.things)))

-- a state is shown exactly where the live objects make it
pub agrees : (s : Shape) (unit : ℕ) (rs : List Held) (state : State) → AreApart rs → HasStructure s unit rs state
    ↔ IsStructure s unit (live_objects rs) state
agrees s unit rs state apart = (objects_make s unit rs apart state, objects_show s unit rs apart state)
