-- The live objects in their order show the same things as the live identities.
use Rattle.std.proofs.Common.{◌≡◌, ℕ, ◌≤◌, List, [], ◌∷◌, map, sym, refl, ap, ◌∙◌, arith, Bool, true, false, inl, inr, ◌⊎◌, ◌==◌}
use Rattle.std.specs.Prelude.{◌≢◌, Option, Some, None, ◌&&◌, ◌||◌, not, filter, AllPairs}
use Rattle.std.specs.Bool.{Decides}
use Rattle.std.specs.List.{Contains, list_any}
use Rattle.std.specs.Map.{lookup}
use Rattle.std.proofs.lemmas.Bool.Decides.{nat_tests}
use Rattle.std.proofs.lemmas.List.Elements.{All-contains}
use Rattle.std.proofs.lemmas.Option.{same_Some}
use Rattle.mont_base.specs.declared.record.Held.{Held}
use Rattle.mont_base.specs.Versions.{is_delete, is_later, is_live, newest_of, object_of}
use Rattle.mont_laws.specs.Records.{AreApart, live_of}
use Rattle.mont_laws.specs.Shows.{held_in, live_things, Shows}
use Rattle.mont_laws.proofs.Members.{no_element, first_element, later_element, element_cases, kept_element, element_kept, pairs_head, pairs_tail}
use Rattle.mont_laws.proofs.Apart.{apart_filter}
use Rattle.mont_laws.proofs.Newest.{IsNewest, newest_is, newest_at, identity_of, version_of, slot_of}
use Rattle.mont_laws.proofs.Edits.{live_facts, live_from}
use Rattle.mont_laws.proofs.Holders.{live_holder}
use Rattle.mont_laws.proofs.Listed.{Reads, AllDiffer, entry_found, entry_there, entry_once, each_read}
use Rattle.mont_laws.proofs.Scans.{body_of}

-- the live ones, in the order of the records
abbrev pub live_records : List Held → List Held
live_records rs = filter (is_live rs) rs

abbrev pub held_body : Held → List ℕ
held_body r = r.body

both_not : (a b : Bool) → (not a && not b) ≡ true → (a ≡ false) × (b ≡ false)
both_not true b e = absurd (cc)
both_not false true e = absurd (cc)
both_not false false e = (refl, refl)

none_later : (r : Held) (rs : List Held) → list_any (is_later r) rs ≡ false → (q : Held) → Contains rs q
    → q.label.identity ≡ r.label.identity → q.label.version ≤ r.label.version
none_later r [] e q a id = absurd (no_element q a)
none_later r (p ∷ rs) e q a id = by (is_later r p) refl e (λ h b. none_later r rs h q b id) (element_cases p rs q a)
  where
    at : q ≡ p → is_later r p ≡ false → q.label.version ≤ r.label.version
    at is f = let i = identity_of q p is in let v = version_of q p is in grind (arith, nat_tests)

    by : (t : Bool) → is_later r p ≡ t → (t || list_any (is_later r) rs) ≡ false
        → (list_any (is_later r) rs ≡ false → Contains rs q → q.label.version ≤ r.label.version) → (q ≡ p) ⊎ Contains rs q
        → q.label.version ≤ r.label.version
    by true f h behind b = absurd (cc)
    by false f h behind (inl is) = at is f
    by false f h behind (inr b) = behind h b

later_none : (r : Held) (rs : List Held)
    → ((q : Held) → Contains rs q → q.label.identity ≡ r.label.identity → q.label.version ≤ r.label.version)
    → list_any (is_later r) rs ≡ false
later_none r [] h = refl
later_none r (p ∷ rs) h = rw (first (p.label.identity == r.label.identity) refl)
    (later_none r rs (λ q a id. h q (later_element p rs q a) id))
  where
    first : (t : Bool) → (p.label.identity == r.label.identity) ≡ t → is_later r p ≡ false
    first true e = let l = h p (first_element p rs) (grind (arith, nat_tests)) in grind (arith, nat_tests)
    first false e = rw e refl

module _ (rs : List Held) (apart : AreApart rs) where
  -- a live record is that of its identity
  pub is_live_of : (r : Held) → Contains rs r → is_live rs r ≡ true → live_of r.label.identity rs ≡ Some r
  is_live_of r a e =
      let c = both_not (is_delete r.label.kind) (list_any (is_later r) rs) e in
      live_from (newest_of r.label.identity rs) r
      (newest_at r.label.identity rs r apart (record { there = a; identity = refl; greatest = none_later r rs c.1 })) c.0

  pub live_record : (r : Held) → Contains (live_records rs) r → live_of r.label.identity rs ≡ Some r
  live_record r a = let b = kept_element (is_live rs) r rs a in is_live_of r b.0 b.1

pub live_there : (rs : List Held) (i : ℕ) (r : Held) → live_of i rs ≡ Some r → IsNewest i rs r × (is_live rs r ≡ true)
live_there rs i r e =
    let f = live_facts (newest_of i rs) r e in
    let b : IsNewest i rs r = newest_is i rs r f.0 in
    (b, rw (f.1, later_none r rs (λ q a id. b.greatest q a (id ∙ b.identity))) refl)

pub record_live : (rs : List Held) (i : ℕ) (r : Held) → live_of i rs ≡ Some r → Contains (live_records rs) r
record_live rs i r e = let b = live_there rs i r e in element_kept (is_live rs) r rs b.0.there b.1

-- what is read of records is read of their objects
pub reads_objects : {E : Type 0} (read : List ℕ → Option E) (qs : List Held) (es : List E) → Reads held_body read qs es
    → Reads body_of read (map object_of qs) es
reads_objects read [] [] h = tt
reads_objects read [] (e ∷ es) h = h
reads_objects read (q ∷ qs) [] h = h
reads_objects read (q ∷ qs) (e ∷ es) h = (h.0, reads_objects read qs es h.1)

pub objects_read : {E : Type 0} (read : List ℕ → Option E) (qs : List Held) (es : List E) → Reads body_of read (map object_of qs) es
    → Reads held_body read qs es
objects_read read [] [] h = tt
objects_read read [] (e ∷ es) h = h
objects_read read (q ∷ qs) [] h = h
objects_read read (q ∷ qs) (e ∷ es) h = (h.0, objects_read read qs es h.1)

module _ {T V : Type 0} (eq : T → T → Bool) (one : (a b : T) → Decides (eq a b) (a ≡ b)) (read : List ℕ → Option (T × V)) (rs : List Held)
    (apart : AreApart rs) where
  live_at : (i : ℕ) (o : Option (T × V)) → live_things read rs i ≡ Some o
      → (r : Held) × Contains (live_records rs) r × (r.label.identity ≡ i) × (read r.body ≡ o)
  live_at i o e =
      let b = live_holder read rs i o e in
      (b.0, record_live rs i b.0 b.1, (live_there rs i b.0 b.1).0.identity, b.2)

  -- what the live records' entries say of each thing is shown by the live identities
  pub listed_shows : (es : List (T × V)) → Reads held_body read (live_records rs) es → AllDiffer eq es
      → Shows (live_things read rs) (λ t. lookup (eq t) es)
  listed_shows es reads differ = record {
    readable = λ i e. let b = live_at i None e in each_read held_body eq one read (live_records rs) es b.0 reads b.1 b.3;
    found = λ i t v e. let b = live_at i (Some (t, v)) e in entry_found held_body eq one read
        (live_records rs) es b.0 t v reads differ b.1 b.3;
    there = λ t v e. let b = entry_there held_body eq one read (live_records rs) es t v reads e in
        (b.0.label.identity, ap (held_in read) (live_record rs apart b.0 b.1) ∙ ap Some b.2);
    once = λ i j t v w e f.
        let b = live_at i (Some (t, v)) e in
        let c = live_at j (Some (t, w)) f in
        sym b.2 ∙ identity_of b.0 c.0 (entry_once held_body eq one read (live_records rs) es b.0 c.0 t v w reads differ b.1 c.1 b.3 c.3)
        ∙ c.2;
  }

  abbrev OtherSlot : Held → Held → Type 0
  OtherSlot q r = q.slot ≢ r.slot

  -- where live identities show what each thing has, each is read, and no two name one thing
  module _ (d : T → Option V) (s : Shows (live_things read rs) d) where
    has : (r : Held) → live_of r.label.identity rs ≡ Some r → live_things read rs r.label.identity ≡ Some (read r.body)
    has r e = ap (held_in read) e

    new_name : (q : Held) (qs : List Held) (x : T × V) (es : List (T × V)) → AllPairs OtherSlot (q ∷ qs)
        → ((r : Held) → Contains (q ∷ qs) r → live_of r.label.identity rs ≡ Some r) → read q.body ≡ Some x → Reads held_body read qs es
        → lookup (eq x.0) es ≡ None
    new_name q qs x es slots live e reads = by (lookup (eq x.0) es) refl
      where
        by : (o : Option V) → lookup (eq x.0) es ≡ o → o ≡ None
        by None f = refl
        by (Some w) f =
            let c = entry_there held_body eq one read qs es x.0 w reads f in
            let here = live q (first_element q qs) in
            let there = live c.0 (later_element q qs c.0 c.1) in
            let id : q.label.identity ≡ c.0.label.identity =
            s.once q.label.identity c.0.label.identity x.0 x.1 w (has q here ∙ ap Some e) (has c.0 there ∙ ap Some c.2) in
            let same : q ≡ c.0 = same_Some q c.0 (sym here ∙ ap (λ (i : ℕ). live_of i rs) id ∙ there) in
            absurd (All-contains (OtherSlot q) qs c.0 (pairs_head OtherSlot q qs slots) c.1 (slot_of q c.0 same))

    list : (qs : List Held) → AllPairs OtherSlot qs → ((r : Held) → Contains qs r → live_of r.label.identity rs ≡ Some r)
        → (es : List (T × V)) × Reads held_body read qs es × AllDiffer eq es
    list [] slots live = ([], tt, tt)
    list (q ∷ qs) slots live = by (read q.body) refl (list qs (pairs_tail OtherSlot q qs slots) (λ r a. live r (later_element q qs r a)))
      where
        by : (o : Option (T × V)) → read q.body ≡ o → (es : List (T × V)) × Reads held_body read qs es × AllDiffer eq es
            → (es : List (T × V)) × Reads held_body read (q ∷ qs) es × AllDiffer eq es
        by None e rest = absurd (s.readable q.label.identity (has q (live q (first_element q qs)) ∙ ap Some e))
        by (Some x) e rest = (x ∷ rest.0, (e, rest.1), (new_name q qs x rest.0 slots live e rest.1, rest.2))

    pub shows_listed : (es : List (T × V)) × Reads held_body read (live_records rs) es × AllDiffer eq es
    shows_listed = list (live_records rs) (apart_filter rs apart (is_live rs)).slots (λ r a. live_record rs apart r a)
