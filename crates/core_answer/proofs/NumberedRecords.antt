-- The newest records in the first slots: they show the same, and they are apart.
use Rattle.std.proofs.Common.{◌≡◌, ◌≢◌, ℕ, zero, suc, ◌+◌, ◌<◌, List, [], ◌∷◌, length, get_or, sym, refl, ap, ◌∙◌, subst, arith, Bool, true, false}
use Rattle.std.specs.Prelude.{Option, Some, None, AllPairs, nat_lt, ◌==◌, if◌then◌else◌}
use Rattle.std.specs.Cmp.{nat_cmp_total}
use Rattle.std.specs.Ordering.{nat_cmp}
use Rattle.std.specs.FinMap as finite
use Rattle.std.specs.BTreeMap as tree
use Rattle.std.proofs.Math.Path.{fun_ext}
use Rattle.std.proofs.lemmas.List.{length-map}
use Rattle.std.proofs.lemmas.Map.Entries.{btree_map_get_place}
use Rattle.std.proofs.lemmas.Map.Keys.{below_from_sorted}
use Rattle.std.proofs.lemmas.Option.{get_or_from_slice_get}
use Rattle.mont_base.specs.declared.record.Held.{Held}
use Rattle.mont_base.specs.Layout.{Shape}
use Rattle.mont_base.specs.State.{State, MapOf, QueueOf, GraphOf}
use Rattle.mont_base.specs.Versions.{is_delete, later_of, only_of, newest_of}
use Rattle.mont_base.specs.Image.{DiffersFrom}
use Rattle.mont_laws.specs.Records.{live_if, AreApart}
use Rattle.mont_laws.specs.Shows.{Shows, held_in, live_things}
use Rattle.mont_laws.specs.Structures.{pair_for, item_for, part_for, attribute_of, HasThings, HasStructure}
use Rattle.core_steps.proofs.RowFacts.{item_at, row_in_map}
use Rattle.core_answer.specs.Newest.{IsKeyed, numbered}

-- ---- what they show hangs on no slot
-- a record without its slot
bare : Option Held → Option Held
bare None = None
bare (Some r) = Some (record r { slot = 0 })

later_bare : (a b : Option Held) → bare (later_of a b) ≡ later_of (bare a) (bare b)
unfolding bare
later_bare None b = refl
later_bare (Some r) None = refl
later_bare (Some r) (Some q) = by (nat_lt r.label.version q.label.version)
  where
    by : (t : Bool) → bare (if t then Some q else Some r) ≡ (if t then bare (Some q) else bare (Some r))
    by true = refl
    by false = refl

only_bare : (i n : ℕ) (r : Held) → bare (only_of i (record r { slot = n })) ≡ bare (only_of i r)
unfolding bare
only_bare i n r = by (r.label.identity == i)
  where
    by : (t : Bool) → bare (if t then Some (record r { slot = n }) else None) ≡ bare (if t then Some r else None)
    by true = refl
    by false = refl

newest_bare : (i n : ℕ) (rs : List Held) → bare (newest_of i (numbered n rs)) ≡ bare (newest_of i rs)
newest_bare i n [] = refl
newest_bare i n (r ∷ rs) =
    later_bare (only_of i (record r { slot = n })) (newest_of i (numbered (n + 1) rs))
    ∙ (λ j. later_of (only_bare i n r j) (newest_bare i (n + 1) rs j))
    ∙ sym (later_bare (only_of i r) (newest_of i rs))

held_bare : {A : Type 0} (read : List ℕ → Option A) (o : Option Held) → held_in read (live_if o) ≡ held_in read (live_if (bare o))
unfolding bare
held_bare read None = refl
held_bare read (Some r) = by (is_delete r.label.kind)
  where
    by : (t : Bool) → held_in read (if t then None else Some r) ≡ held_in read (if t then None else Some (record r { slot = 0 }))
    by true = refl
    by false = refl

numbered_things : {A : Type 0} (read : List ℕ → Option A) (rs : List Held) → live_things read (numbered 0 rs) ≡ live_things read rs
numbered_things read rs =
    fun_ext (λ i. held_bare read (newest_of i (numbered 0 rs)) ∙ ap (λ o. held_in read (live_if o)) (newest_bare i 0 rs)
    ∙ sym (held_bare read (newest_of i rs)))

module _ (s : Shape) (u : ℕ) (rs : List Held) where
  to_numbered : (state : State) → HasThings s u rs state → HasThings s u (numbered 0 rs) state
  to_numbered (MapOf m) h = subst (λ l. Shows l (finite.get m)) (sym (numbered_things (pair_for s u) rs)) h
  to_numbered (QueueOf items) h = (h.0, subst (λ l. Shows l (finite.get h.0)) (sym (numbered_things item_for rs)) h.1, h.2)
  to_numbered (GraphOf g) h =
      record { parts = subst (λ l. Shows l (attribute_of g)) (sym (numbered_things part_for rs)) h.parts; ends = h.ends }

  from_numbered : (state : State) → HasThings s u (numbered 0 rs) state → HasThings s u rs state
  from_numbered (MapOf m) h = subst (λ l. Shows l (finite.get m)) (numbered_things (pair_for s u) rs) h
  from_numbered (QueueOf items) h = (h.0, subst (λ l. Shows l (finite.get h.0)) (numbered_things item_for rs) h.1, h.2)
  from_numbered (GraphOf g) h =
      record { parts = subst (λ l. Shows l (attribute_of g)) (numbered_things part_for rs) h.parts; ends = h.ends }

  pub numbered_show : (state : State) → HasStructure s u rs state → HasStructure s u (numbered 0 rs) state
  numbered_show state h = record { of_unit = h.of_unit; things = to_numbered state h.things }

  pub show_numbered : (state : State) → HasStructure s u (numbered 0 rs) state → HasStructure s u rs state
  show_numbered state h = record { of_unit = h.of_unit; things = from_numbered state h.things }

-- ---- they are apart
pub length-numbered : (n : ℕ) (rs : List Held) → length (numbered n rs) ≡ length rs
length-numbered n [] = refl
length-numbered n (r ∷ rs) = ap suc (length-numbered (n + 1) rs)

slot_at : (n : ℕ) (rs : List Held) (i : ℕ) (d : Held) → i < length rs → (get_or (numbered n rs) i d).slot ≡ n + i
slot_at n [] i d low = absurd (omega arith)
slot_at n (r ∷ rs) zero d low = omega arith
slot_at n (r ∷ rs) (suc i) d low = let behind = slot_at (n + 1) rs i d (omega arith) in omega arith

identity_at : (n : ℕ) (rs : List Held) (i : ℕ) (d : Held) → (get_or (numbered n rs) i d).label.identity ≡ (get_or rs i d).label.identity
identity_at n [] i d = refl
identity_at n (r ∷ rs) zero d = refl
identity_at n (r ∷ rs) (suc i) d = identity_at (n + 1) rs i d

module _ (m : tree.BTreeMap ℕ Held) (s : tree.IsOrdered nat_cmp m) (own : IsKeyed m) where
  -- the identity of each value is its key
  key_at : (i : ℕ) (d : Held) → i < length m.entries → (get_or (tree.values m) i d).label.identity ≡ get_or (tree.keys m) i 0
  key_at i d low =
      let p = item_at m.entries i low in
      let e : ℕ × Held = p.0 in
      let value : get_or (tree.values m) i d ≡ e.1 =
      get_or_from_slice_get (tree.values m) i e.1 d (row_in_map (λ (e : ℕ × Held). e.1) m.entries i e p.1) in
      let key : get_or (tree.keys m) i 0 ≡ e.0 =
      get_or_from_slice_get (tree.keys m) i e.0 0 (row_in_map (λ (e : ℕ × Held). e.0) m.entries i e p.1) in
      ap (λ (r : Held). r.label.identity) value ∙ own e.0 e.1 (btree_map_get_place nat_cmp_total m i e.0 e.1 s p.1) ∙ sym key

  pub numbered_apart : AreApart (numbered 0 (tree.values m))
  numbered_apart = record { slots = slots; versions = versions }
    where
      many : length (numbered 0 (tree.values m)) ≡ length m.entries
      many = length-numbered 0 (tree.values m) ∙ length-map m.entries (λ (e : ℕ × Held). e.1)

      keys_many : length (tree.keys m) ≡ length m.entries
      keys_many = length-map m.entries (λ (e : ℕ × Held). e.0)

      slots : AllPairs (λ (r q : Held). r.slot ≢ q.slot) (numbered 0 (tree.values m))
      slots i j d low within same =
          let size = length-numbered 0 (tree.values m) in
          let a = slot_at 0 (tree.values m) i d (omega arith) in
          let b = slot_at 0 (tree.values m) j d (omega arith) in
          omega arith

      versions : AllPairs DiffersFrom (numbered 0 (tree.values m))
      versions i j d low within same =
          let size = many in
          let size' = keys_many in
          let a = identity_at 0 (tree.values m) i d ∙ key_at i d (omega arith) in
          let b = identity_at 0 (tree.values m) j d ∙ key_at j d (omega arith) in
          let rising = below_from_sorted (tree.keys m) i j 0 s low (omega arith) in
          let one = same.0 in
          omega arith
