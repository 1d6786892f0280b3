-- The next serial of a queue stays above those of its live items.
use Rattle.std.proofs.Common.{◌≡◌, ℕ, ◌+◌, ◌≤◌, List, [], ◌∷◌, ◌++◌, append-nil, map, sym, refl, ap, ◌∙◌, subst, arith, Bool, true, false, inl, inr, ◌⊎◌}
use Rattle.std.specs.Prelude.{◌==◌, IsTrue, max, Some, None, slice_index, if◌then◌else◌}
use Rattle.std.specs.List.{Contains, fold}
use Rattle.std.proofs.lemmas.List.Sums.{fold-append}
use Rattle.std.proofs.lemmas.Option.{same_Some}
use Rattle.mont_base.specs.declared.effect.Effect.TheVariants.{Inserts, Removes}
use Rattle.mont_base.specs.declared.effect.Thing.TheVariants.{Item}
use Rattle.mont_base.specs.declared.operation.Op.{Op}
use Rattle.mont_base.specs.declared.operation.Op.TheVariants as ops
use Rattle.mont_base.specs.declared.record.Change.{Change}
use Rattle.mont_base.specs.declared.record.Change.TheVariants.{Insert, Replace, Remove}
use Rattle.mont_base.specs.declared.record.Held.{Held}
use Rattle.mont_base.specs.declared.record.Kind.{Kind}
use Rattle.mont_base.specs.Bodies.{item_in, is_clean}
use Rattle.mont_base.specs.Layout.{Shape, kind_of}
use Rattle.mont_base.specs.State.{State, MapOf, QueueOf, GraphOf, step, queue_step, queue_deq}
use Rattle.mont_base.specs.Versions.{newest_of, object_of, is_delete}
use Rattle.mont_laws.specs.Effects.{AreEffects, IsEffect}
use Rattle.mont_laws.specs.Records.{live_of, live_if}
use Rattle.mont_laws.specs.Structures.{HasStructure}
use Rattle.mont_laws.proofs.Edits.{no_zip, one_zip, next_above}
use Rattle.mont_laws.proofs.LiveObjects.{live_records, record_live}
use Rattle.mont_laws.proofs.Members.{no_element, first_element, later_element, element_cases}
use Rattle.mont_laws.proofs.Newest.{IsAbove, newest_push}
use Rattle.mont_laws.proofs.SameKind.{is_queue_by_state}
use Rattle.slots.specs.RegionBeginning.{greatest, serial_of, live_serials, serial_at_first}
use Rattle.slots.specs.Books.{BooksShown}
use Rattle.slots.specs.WrittenRecords.{serial_after, record_by}
use Rattle.slots.specs.Serials.{is_queue, serial_past, IsNextSerial}

-- ---- at first
fold_max : (m : ℕ) (xs : List ℕ) → m ≤ fold max m xs
fold_max m [] = omega arith
fold_max m (x ∷ xs) = let ih = fold_max (max m x) xs in omega arith

pub max_member : (m x : ℕ) (xs : List ℕ) → Contains xs x → x ≤ fold max m xs
max_member m x [] c = absurd (no_element x c)
max_member m x (y ∷ xs) c = elim (element_cases y xs x c) [
  | inl e ↦ let low = fold_max (max m y) xs in omega arith
  | inr k ↦ max_member (max m y) x xs k
]

-- the serial of a body is its first word
pub first_word : (body : List ℕ) (serial item : ℕ) → item_in body ≡ Some (serial, item) → slice_index body 0 ≡ serial
first_word body serial item e = by (is_clean 2 body) e
  where
    by : (b : Bool) → (let e : ℕ × ℕ = (slice_index body 0, slice_index body 1) in (if b then Some e else None) ≡ Some (serial, item))
        → slice_index body 0 ≡ serial
    by true f =
        let e : ℕ × ℕ = (slice_index body 0, slice_index body 1) in
        let d : ℕ × ℕ = (serial, item) in
        ap (λ (x : ℕ × ℕ). x.0) (same_Some e d f)
    by false f = absurd (cc)

serial_there : (rs : List Held) (r : Held) → Contains rs r → Contains (map serial_of (map object_of rs)) (slice_index r.body 0)
serial_there [] r c = absurd (no_element r c)
serial_there (q ∷ rs) r c = elim (element_cases q rs r c) [
  | inl e ↦ subst (λ (z : Held). Contains (map serial_of (map object_of (q ∷ rs))) (slice_index z.body 0)) (sym e)
      (first_element (slice_index q.body 0) (map serial_of (map object_of rs)))
  | inr k ↦ later_element (slice_index q.body 0) (map serial_of (map object_of rs)) (slice_index r.body 0) (serial_there rs r k)
]

pub found_serials : (s : Shape) (u : ℕ) (rs : List Held) → IsTrue (is_queue s u) → IsNextSerial rs [] (serial_at_first s u rs)
found_serials s u rs queue = record {
  before = greatest (live_serials rs) + 1;
  some = omega arith;
  above = λ other h.
      let word : slice_index h.1.body 0 ≡ other = first_word h.1.body other h.2 h.4 in
      let low = max_member 0 (slice_index h.1.body 0) (live_serials rs) (serial_there (live_records rs) h.1 (record_live rs h.0 h.1 h.3)) in
      omega arith;
  is = ap (λ (b : Bool). if b then greatest (live_serials rs) + 1 else 1) queue;
}

pub fresh_serials : IsNextSerial [] [] 1
fresh_serials = record { before = 1; some = omega arith; above = λ other h. absurd (let e = h.3 in cc); is = refl }

-- ---- where the same records are live
pub kept_serials : (rs qs ws : List Held) (next : ℕ) → ((i : ℕ) → live_of i qs ≡ live_of i rs) → IsNextSerial rs ws next
    → IsNextSerial qs ws next
kept_serials rs qs ws next same k = record {
  before = k.before;
  some = k.some;
  above = λ other h. k.above other (h.0, h.1, h.2, sym (same h.0) ∙ h.3, h.4);
  is = k.is;
}

-- ---- one more is written
pub put_serials : (rs ws : List Held) (w : Held) (next : ℕ) → IsNextSerial rs ws next
    → IsNextSerial rs (ws ++ w ∷ []) (serial_past next w)
put_serials rs ws w next k = record {
  before = k.before;
  some = k.some;
  above = k.above;
  is = ap (λ (n : ℕ). serial_past n w) k.is ∙ sym (fold-append serial_past k.before ws (w ∷ []));
}

pub serial_put : (b : BooksShown) (rs : List Held) (change : Change) (epoch slot : ℕ) → IsTrue (is_queue b.layout b.unit)
    → serial_after b change ≡ serial_past b.serial (record_by b.unit b.identity rs change epoch slot)
serial_put b rs (Insert body) epoch slot queue = rw queue refl
serial_put b rs (Replace old i body) epoch slot queue = rw queue refl
serial_put b rs (Remove old i) epoch slot queue = rw queue refl

-- ---- what was written becomes records
-- a record after others is its identity's newest
live_behind : (rs : List Held) (w : Held) (i : ℕ) (r : Held) → IsAbove (newest_of w.label.identity rs) w → live_of i (rs ++ w ∷ []) ≡ Some r
    → (live_if (Some w) ≡ Some r) ⊎ (live_of i rs ≡ Some r)
live_behind rs w i r above e = by (w.label.identity == i) (ap live_if (sym (newest_push i rs w above)) ∙ e)
  where
    by : (b : Bool) → live_if (if b then Some w else newest_of i rs) ≡ Some r → (live_if (Some w) ≡ Some r) ⊎ (live_of i rs ≡ Some r)
    by true f = inl f
    by false f = inr f

module _ (u : ℕ) (rs : List Held) where
  none_written : (ws : List Held) (next : ℕ) → AreEffects u rs [] ws → IsNextSerial rs ws next → IsNextSerial (rs ++ ws) [] next
  none_written ws next are k =
      let none : ws ≡ [] = no_zip (IsEffect u rs) ws are in
      subst (λ (zs : List Held). IsNextSerial zs [] next) (sym (append-nil rs) ∙ ap (λ (zs : List Held). rs ++ zs) (sym none))
      (subst (λ (zs : List Held). IsNextSerial rs zs next) none k)

  item_written : (x next : ℕ) (w : Held) → IsEffect u rs (Inserts (Item x)) w → IsNextSerial rs (w ∷ []) next
      → IsNextSerial (rs ++ w ∷ []) [] next
  item_written x next w is k = record {
    before = next;
    some = omega (arith, next_is);
    above = λ other h. elim (live_behind rs w h.0 h.1 (rw is.writes.1.unused tt) h.3) [
      | inl e ↦
          let body : h.1.body ≡ w.body = sym (ap (λ (z : Held). z.body) (same_live h.1 e)) in
          let other_is : slice_index w.body 0 ≡ other = first_word w.body other h.2 (ap item_in (sym body) ∙ h.4) in
          omega (arith, next_is, word, other_is)
      | inr e ↦ let low = is.writes.2.2.above other (h.0, h.1, h.2, e, h.4) in omega (arith, next_is)
    ];
    is = refl;
  }
    where
      serial : ℕ
      serial = is.writes.2.0

      word : slice_index w.body 0 ≡ is.writes.2.0
      word = ap (λ (b : List ℕ). slice_index b 0) is.writes.2.1

      next_is : next ≡ is.writes.2.0 + 1
      next_is = k.is ∙ ap (λ (d : Kind). serial_past k.before (record w { label = record w.label { kind = d } })) is.writes.0
          ∙ ap (λ (n : ℕ). n + 1) word

      same_live : (r : Held) → live_if (Some w) ≡ Some r → w ≡ r
      same_live r e = by (is_delete w.label.kind) e
        where
          by : (b : Bool) → (if b then None else Some w) ≡ Some r → w ≡ r
          by true f = absurd (cc)
          by false f = same_Some w r f

  item_removed : (x next : ℕ) (w : Held) → IsEffect u rs (Removes (Item x)) w → IsNextSerial rs (w ∷ []) next
      → IsNextSerial (rs ++ w ∷ []) [] next
  item_removed x next w is k = record {
    before = next;
    some = let low = k.some in omega (arith, next_is);
    above = λ other h. elim (live_behind rs w h.0 h.1 (next_above (Item x) is.writes.1) h.3) [
      | inl e ↦ let gone = ap (λ (d : Kind). live_if (Some (record w { label = record w.label { kind = d } }))) is.writes.0 in absurd (cc)
      | inr e ↦ let low = k.above other (h.0, h.1, h.2, e, h.4) in omega (arith, next_is)
    ];
    is = refl;
  }
    where
      next_is : next ≡ k.before
      next_is = k.is ∙ ap (λ (d : Kind). serial_past k.before (record w { label = record w.label { kind = d } })) is.writes.0

  deq_written : (items : List ℕ) (ws : List Held) (next : ℕ) → AreEffects u rs (queue_deq items).effects ws → IsNextSerial rs ws next
      → IsNextSerial (rs ++ ws) [] next
  deq_written [] ws next are k = none_written ws next are k
  deq_written (x ∷ items) ws next are k =
      let b = one_zip (IsEffect u rs) (Removes (Item x)) ws are in
      subst (λ (zs : List Held). IsNextSerial (rs ++ zs) [] next) (sym b.1)
      (item_removed x next b.0 b.2 (subst (λ (zs : List Held). IsNextSerial rs zs next) b.1 k))

  queue_written : (items : List ℕ) (op : Op) (ws : List Held) (next : ℕ) → AreEffects u rs (queue_step items op).effects ws
      → IsNextSerial rs ws next → IsNextSerial (rs ++ ws) [] next
  queue_written items (ops.Enq unit x) ws next are k =
      let b = one_zip (IsEffect u rs) (Inserts (Item x)) ws are in
      subst (λ (zs : List Held). IsNextSerial (rs ++ zs) [] next) (sym b.1)
      (item_written x next b.0 b.2 (subst (λ (zs : List Held). IsNextSerial rs zs next) b.1 k))
  queue_written items (ops.Deq unit) ws next are k = deq_written items ws next are k
  queue_written items (ops.Len unit) ws next are k = none_written ws next are k
  queue_written items _ ws next are k = none_written ws next are k

  -- the effects of an operation on a queue
  pub left_serials : (s : Shape) (state : State) (op : Op) (ws : List Held) (next : ℕ) → IsTrue (is_queue s u) → HasStructure s u rs state
      → AreEffects u rs (step state op).effects ws → IsNextSerial rs ws next → IsNextSerial (rs ++ ws) [] next
  left_serials s (MapOf m) op ws next queue h are k =
      absurd (let e = is_queue_by_state (kind_of s u) (MapOf m) h.of_unit in cc (e, queue))
  left_serials s (QueueOf items) op ws next queue h are k = queue_written items op ws next are k
  left_serials s (GraphOf g) op ws next queue h are k =
      absurd (let e = is_queue_by_state (kind_of s u) (GraphOf g) h.of_unit in cc (e, queue))
