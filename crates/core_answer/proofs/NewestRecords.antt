-- The newest record of each identity, kept by identity.
use Rattle.std.proofs.Common.{◌≡◌, ◌≢◌, ℕ, ◌+◌, ◌<◌, List, [], ◌∷◌, length, take, get_or, sym, refl, ap, ◌∙◌, subst, arith, Bool, true, false, cond}
use Rattle.std.specs.Prelude.{slice_get, Option, Some, None, All, nat_lt, ◌==◌, if◌then◌else◌}
use Rattle.std.specs.Cmp.{nat_cmp_total, eq_by_cmp_equiv}
use Rattle.std.specs.Ordering.{nat_cmp}
use Rattle.std.specs.List.{Contains}
use Rattle.std.specs.List.Sorted.{IsStrictlySortedBy}
use Rattle.std.specs.Map.{lookup, keys_of, values_of}
use Rattle.std.specs.BTreeMap as tree
use Rattle.std.proofs.lemmas.Bool.Decides.{nat_tests}
use Rattle.std.proofs.lemmas.List.{take_more}
use Rattle.std.proofs.lemmas.List.Elements.{All-contains}
use Rattle.std.proofs.lemmas.Option.{same_Some, slice_get-get_or}
use Rattle.std.proofs.lemmas.Map.{lookup-none}
use Rattle.std.proofs.lemmas.Map.Entries.{lookup_head, none_past_head, btree_map_get_place}
use Rattle.std.proofs.lemmas.Map.Keys.{sorted_tail, IsDistinct-from_sorted}
use Rattle.mont_base.specs.declared.record.Held.{Held}
use Rattle.mont_base.specs.declared.record.Kind.TheVariants as kinds
use Rattle.mont_base.specs.Bodies.{item_in}
use Rattle.mont_base.specs.Versions.{is_delete, later_of, only_of, newest_of}
use Rattle.mont_laws.specs.Effects.{HasLiveSerial}
use Rattle.mont_laws.proofs.Edits.{live_facts, live_from}
use Rattle.mont_laws.proofs.Keys.{one_number}
use Rattle.mont_laws.proofs.Members.{all_elements}
use Rattle.mont_laws.proofs.Newest.{newest_append, newest_is, identity_of}
use Rattle.core_steps.proofs.RowFacts.{row_of_map}
use Rattle.core_answer.specs.Newest.{IsKeyed, IsNewer, serial_in, live_serial}

-- what is read after the end of a list of records
abbrev pub no_record : Held
no_record = record {
  slot = 0;
  label = record { epoch = 0; kind = kinds.New; unit = 0; identity = 0; version = 0 };
  body = [];
}

-- ---- one more record
only_alone : (q : ℕ) (r : Held) → later_of (only_of q r) None ≡ only_of q r
only_alone q r = by (r.label.identity == q)
  where
    by : (t : Bool) → later_of (if t then Some r else None) None ≡ (if t then Some r else None)
    by true = refl
    by false = refl

pub newest_more : (q : ℕ) (rs : List Held) (i : ℕ) (d : Held) → i < length rs
    → newest_of q (take (i + 1) rs) ≡ later_of (newest_of q (take i rs)) (only_of q (get_or rs i d))
newest_more q rs i d low =
    ap (newest_of q) (take_more rs i d low) ∙ newest_append q (take i rs) (get_or rs i d ∷ [])
    ∙ ap (later_of (newest_of q (take i rs))) (only_alone q (get_or rs i d))

-- ---- entries by rising identity
abbrev AreOwn : List (ℕ × Held) → Type 0
AreOwn es = (q : ℕ) (r : Held) → lookup (tree.is_at (nat_cmp q)) es ≡ Some r → r.label.identity ≡ q

module _ (e : ℕ × Held) (es : List (ℕ × Held)) (s : IsStrictlySortedBy nat_cmp (keys_of (e ∷ es))) where
  -- nothing after has the identity of the first
  none_behind : (q : ℕ) → tree.is_at (nat_cmp q) e.0 ≡ true → lookup (tree.is_at (nat_cmp q)) es ≡ None
  none_behind q is = lookup-none (tree.is_at (nat_cmp q)) es
      (none_past_head (eq_by_cmp_equiv nat_cmp_total) q e es (IsDistinct-from_sorted nat_cmp (keys_of (e ∷ es)) s) is)

  found_behind : (q : ℕ) (r : Held) → lookup (tree.is_at (nat_cmp q)) es ≡ Some r → lookup (tree.is_at (nat_cmp q)) (e ∷ es) ≡ Some r
  found_behind q r at = by (tree.is_at (nat_cmp q) e.0) refl
    where
      by : (t : Bool) → tree.is_at (nat_cmp q) e.0 ≡ t → cond t (Some e.1) (lookup (tree.is_at (nat_cmp q)) es) ≡ Some r
      by true is = let none = none_behind q is in absurd (cc)
      by false is = at

  module _ (own : AreOwn (e ∷ es)) where
    own_behind : AreOwn es
    own_behind q r at = own q r (found_behind q r at)

    own_first : e.1.label.identity ≡ e.0
    own_first = own e.0 e.1 (lookup_head (tree.is_at (nat_cmp e.0)) e es ((one_number e.0 e.0).1 refl))

    newest_first : (q : ℕ) → newest_of q (values_of es) ≡ lookup (tree.is_at (nat_cmp q)) es
        → newest_of q (values_of (e ∷ es)) ≡ lookup (tree.is_at (nat_cmp q)) (e ∷ es)
    newest_first q rest = by (tree.is_at (nat_cmp q) e.0) refl
      where
        by : (t : Bool) → tree.is_at (nat_cmp q) e.0 ≡ t
            → later_of (only_of q e.1) (newest_of q (values_of es)) ≡ cond t (Some e.1) (lookup (tree.is_at (nat_cmp q)) es)
        by true is =
            let same : q ≡ e.0 = (one_number q e.0).0 is in
            let mine = own_first in
            let here : (e.1.label.identity == q) ≡ true = grind (arith, nat_tests) in
            let none : newest_of q (values_of es) ≡ None = rest ∙ none_behind q is in
            rw (here, none) refl
        by false is =
            let mine = own_first in
            let else_at : q ≢ e.0 = λ same. let at = (one_number q e.0).1 same in absurd (cc) in
            let not_here : (e.1.label.identity == q) ≡ false = grind (arith, nat_tests) in
            rw not_here rest

pub newest_entries : (es : List (ℕ × Held)) → IsStrictlySortedBy nat_cmp (keys_of es) → AreOwn es → (q : ℕ)
    → newest_of q (values_of es) ≡ lookup (tree.is_at (nat_cmp q)) es
newest_entries [] s own q = refl
newest_entries (e ∷ es) s own q =
    newest_first e es s own q (newest_entries es (sorted_tail nat_cmp e.0 (keys_of es) s) (own_behind e es s own) q)

-- what is kept under an identity is the newest of it
pub newest_kept : (m : tree.BTreeMap ℕ Held) → tree.IsOrdered nat_cmp m → IsKeyed m → (q : ℕ)
    → newest_of q (tree.values m) ≡ tree.get nat_cmp m q
newest_kept m s own q = newest_entries m.entries s own q

-- so each record that is kept is the newest of its identity
pub value_newest : (m : tree.BTreeMap ℕ Held) → tree.IsOrdered nat_cmp m → IsKeyed m → (r : Held) → Contains (tree.values m) r
    → newest_of r.label.identity (tree.values m) ≡ Some r
value_newest m s own r there =
    let at : slice_get (tree.values m) there.0 ≡ Some r = slice_get-get_or (tree.values m) there.0 r there.1 ∙ ap Some there.2 in
    let p = row_of_map (λ (e : ℕ × Held). e.1) m.entries there.0 r at in
    let e : ℕ × Held = p.0 in
    let found : tree.get nat_cmp m e.0 ≡ Some r =
    btree_map_get_place nat_cmp_total m there.0 e.0 e.1 s p.1 ∙ ap Some p.2 in
    newest_kept m s own r.label.identity ∙ ap (tree.get nat_cmp m) (own e.0 r found) ∙ found

-- ---- serials of live items
serial_shown : (r : Held) (other item : ℕ) → is_delete r.label.kind ≡ false → item_in r.body ≡ Some (other, item)
    → live_serial r ≡ Some other
serial_shown r other item kept at = rw (kept, at) refl

shown_serial : (r : Held) (other : ℕ) → live_serial r ≡ Some other
    → (is_delete r.label.kind ≡ false) × (item : ℕ) × (item_in r.body ≡ Some (other, item))
shown_serial r other e = by (is_delete r.label.kind) refl (item_in r.body) refl e
  where
    by : (t : Bool) → is_delete r.label.kind ≡ t → (o : Option (ℕ × ℕ)) → item_in r.body ≡ o
        → (if t then None else serial_in o) ≡ Some other
        → (is_delete r.label.kind ≡ false) × (item : ℕ) × (item_in r.body ≡ Some (other, item))
    by true f o g h = absurd (cc)
    by false f None g h = absurd (cc)
    by false f (Some p) g h = (f, p.1, g ∙ ap (λ (n : ℕ). Some (n, p.1)) (same_Some p.0 other h))

module _ (m : tree.BTreeMap ℕ Held) (s : tree.IsOrdered nat_cmp m) (own : IsKeyed m) where
  -- what holds of the serials of all kept records holds of those of live items,
  pub each_live : (P : ℕ → Type 0) → All (λ (r : Held). (other : ℕ) → live_serial r ≡ Some other → P other) (tree.values m)
      → (other : ℕ) → HasLiveSerial (tree.values m) other → P other
  each_live P all other h =
      let f = live_facts (newest_of h.0 (tree.values m)) h.1 h.3 in
      All-contains (λ (r : Held). (other : ℕ) → live_serial r ≡ Some other → P other) (tree.values m) h.1 all
      (newest_is h.0 (tree.values m) h.1 f.0).there other (serial_shown h.1 other h.2 f.1 h.4)

  -- and back
  pub all_live : (P : ℕ → Type 0) → ((other : ℕ) → HasLiveSerial (tree.values m) other → P other)
      → All (λ (r : Held). (other : ℕ) → live_serial r ≡ Some other → P other) (tree.values m)
  all_live P each = all_elements (λ (r : Held). (other : ℕ) → live_serial r ≡ Some other → P other) (tree.values m)
      (λ r there other e. let f = shown_serial r other e in
      let newest = value_newest m s own r there in
      each other (r.label.identity, r, f.1, live_from (newest_of r.label.identity (tree.values m)) r newest f.0, f.2))

-- ---- a record is kept where it is newer than the one that is known
module _ (m n : tree.BTreeMap ℕ Held) (h : Held) (s : tree.IsOrdered nat_cmp m) (own : IsKeyed m)
    (up : tree.Updates nat_cmp m n h.label.identity (Some h)) where
  keyed_inserted : IsKeyed n
  keyed_inserted q r at = by (tree.is_at (nat_cmp h.label.identity) q) refl (sym (up.0 q) ∙ at)
    where
      by : (b : Bool) → tree.is_at (nat_cmp h.label.identity) q ≡ b → cond b (Some h) (tree.get nat_cmp m q) ≡ Some r → r.label.identity ≡ q
      by true is e = identity_of r h (sym (same_Some h r e)) ∙ (one_number h.label.identity q).0 is
      by false is e = own q r e

  over : (o : Option Held) → IsNewer o h → Some h ≡ later_of o (Some h)
  over None a = refl
  over (Some r) a = let l : nat_lt r.label.version h.label.version ≡ true = grind (arith, nat_tests) in sym (rw l refl)

  past : (o : Option Held) → o ≡ later_of o None
  past None = refl
  past (Some r) = refl

  pub newest_inserted : tree.IsOrdered nat_cmp n → IsNewer (newest_of h.label.identity (tree.values m)) h → (q : ℕ)
      → newest_of q (tree.values n) ≡ later_of (newest_of q (tree.values m)) (only_of q h)
  newest_inserted t newer q = newest_kept n t keyed_inserted q ∙ up.0 q ∙ by (tree.is_at (nat_cmp h.label.identity) q) refl
    where
      by : (b : Bool) → tree.is_at (nat_cmp h.label.identity) q ≡ b
          → cond b (Some h) (tree.get nat_cmp m q) ≡ later_of (newest_of q (tree.values m)) (only_of q h)
      by true is =
          let same : h.label.identity ≡ q = (one_number h.label.identity q).0 is in
          let here : (h.label.identity == q) ≡ true = grind (arith, nat_tests) in
          rw here (over (newest_of q (tree.values m)) (subst (λ (i : ℕ). IsNewer (newest_of i (tree.values m)) h) same newer))
      by false is =
          let else_at : h.label.identity ≢ q = λ same. let at = (one_number h.label.identity q).1 same in absurd (cc) in
          let not_here : (h.label.identity == q) ≡ false = grind (arith, nat_tests) in
          rw not_here (sym (newest_kept m s own q) ∙ past (newest_of q (tree.values m)))

-- and passed over where it isn't
pub newest_passed : (rs : List Held) (h : Held) → (IsNewer (newest_of h.label.identity rs) h → ⊥) → (q : ℕ)
    → newest_of q rs ≡ later_of (newest_of q rs) (only_of q h)
newest_passed rs h older q = by (h.label.identity == q) refl
  where
    under : (o : Option Held) → (IsNewer o h → ⊥) → o ≡ later_of o (Some h)
    under None a = absurd (a tt)
    under (Some r) a = let l : nat_lt r.label.version h.label.version ≡ false = grind (arith, nat_tests) in sym (rw l refl)

    by : (b : Bool) → (h.label.identity == q) ≡ b → newest_of q rs ≡ later_of (newest_of q rs) (if b then Some h else None)
    by true is =
        let same : h.label.identity ≡ q = grind (arith, nat_tests) in
        under (newest_of q rs) (subst (λ (i : ℕ). IsNewer (newest_of i rs) h → ⊥) same older)
    by false is = sym (only_first (newest_of q rs))
      where
        only_first : (o : Option Held) → later_of o None ≡ o
        only_first None = refl
        only_first (Some r) = refl
