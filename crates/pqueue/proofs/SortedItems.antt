-- Items that are read of the live objects, sorted by their serials, are the live items.
use Rattle.std.proofs.Common.{◌≡◌, ℕ, suc, ◌+◌, ◌<◌, ◌≤◌, List, [], ◌∷◌, map, sym, refl, ap, ◌∙◌, subst, arith, Bool, true, false, inl, inr, ◌⊎◌}
use Rattle.std.specs.Prelude.{◌≢◌, ◌==◌, AllPairs, Option, Some, None, if◌then◌else◌}
use Rattle.std.specs.List.{Contains, filter_map, cons_option, sum_by}
use Rattle.std.specs.List.Sorted.{IsPermutation, IsNonDecreasingBy}
use Rattle.std.specs.FinMap as finite
use Rattle.std.proofs.lemmas.Bool.{eq-eqb}
use Rattle.std.proofs.lemmas.Bool.Decides.{nat_tests}
use Rattle.std.proofs.lemmas.List.Elements.{All-contains}
use Rattle.std.proofs.lemmas.List.Kept.{AllPairs-cons}
use Rattle.std.proofs.lemmas.List.Sorted.{Contains-permutation, IsPermutation-sym, sum_by-IsPermutation}
use Rattle.std.proofs.lemmas.List.Sums.{sum_by-cons}
use Rattle.std.proofs.lemmas.Option.{same_Some}
use Rattle.mont_base.specs.declared.kinds.UnitKind.TheVariants as unit_kinds
use Rattle.mont_base.specs.declared.record.Held.{Held}
use Rattle.mont_base.specs.Bodies.{item_in}
use Rattle.mont_base.specs.Layout.{Shape, kind_of}
use Rattle.mont_base.specs.State.{State, MapOf, QueueOf, GraphOf}
use Rattle.mont_base.specs.Structure.{is_serial, IsStructure}
use Rattle.mont_base.specs.Versions.{live_objects, object_of, is_live}
use Rattle.mont_laws.specs.Records.{AreApart, live_of}
use Rattle.mont_laws.specs.Shows.{live_things, Shows}
use Rattle.mont_laws.specs.Structures.{item_for, HasStructure, HasItems}
use Rattle.mont_laws.proofs.SameKind.{state_fits}
use Rattle.mont_laws.proofs.Agreement.{objects_show}
use Rattle.mont_laws.proofs.Apart.{apart_filter}
use Rattle.mont_laws.proofs.Holders.{fitted, sure_fit, held_live}
use Rattle.mont_laws.proofs.LiveObjects.{live_records, live_record, record_live, live_there}
use Rattle.mont_laws.proofs.Members.{no_element, first_element, later_element, element_cases, pairs_head, pairs_tail, all_elements}
use Rattle.pqueue.specs.declared.queued.Queued.{Queued}
use Rattle.pqueue.specs.Queued.{IsLiveItem, StandsBefore, AreLiveItems, queued_of, queued_as}

-- ---- what is read of records
abbrev items_read : List Held → List Queued
items_read qs = filter_map queued_of (map object_of qs)

item_read : (qs : List Held) (q : Queued) → Contains (items_read qs) q → (r : Held) × Contains qs r × (queued_of (object_of r) ≡ Some q)
item_read [] q c = absurd (no_element q c)
item_read (r ∷ qs) q c = by (queued_of (object_of r)) refl c (λ d. item_read qs q d)
  where
    by : (o : Option Queued) → queued_of (object_of r) ≡ o → Contains (cons_option o (items_read qs)) q
        → (Contains (items_read qs) q → (x : Held) × Contains qs x × (queued_of (object_of x) ≡ Some q))
        → (x : Held) × Contains (r ∷ qs) x × (queued_of (object_of x) ≡ Some q)
    by None e d rest = let b = rest d in (b.0, later_element r qs b.0 b.1, b.2)
    by (Some p) e d rest = elim (element_cases p (items_read qs) q d) [
      | inl is ↦ (r, first_element r qs, e ∙ ap Some (sym is))
      | inr k ↦ let b = rest k in (b.0, later_element r qs b.0 b.1, b.2)
    ]

read_item : (qs : List Held) (r : Held) (q : Queued) → Contains qs r → queued_of (object_of r) ≡ Some q → Contains (items_read qs) q
read_item [] r q c e = absurd (no_element r c)
read_item (p ∷ qs) r q c e = by (element_cases p qs r c) (λ d. read_item qs r q d e)
  where
    behind : (o : Option Queued) → Contains (items_read qs) q → Contains (cons_option o (items_read qs)) q
    behind None d = d
    behind (Some x) d = later_element x (items_read qs) q d

    by : (r ≡ p) ⊎ Contains qs r → (Contains qs r → Contains (items_read qs) q) → Contains (items_read (p ∷ qs)) q
    by (inl is) rest = subst (λ (o : Option Queued). Contains (cons_option o (items_read qs)) q)
        (sym (ap (λ (x : Held). queued_of (object_of x)) (sym is) ∙ e)) (first_element q (items_read qs))
    by (inr d) rest = behind (queued_of (object_of p)) (rest d)

-- an item that is read has the record's identity and slot
read_as : (o : Option (ℕ × ℕ)) (identity slot : ℕ) (q : Queued) → queued_as o identity slot ≡ Some q
    → (o ≡ Some (q.serial, q.item)) × (q.identity ≡ identity) × (q.slot ≡ slot)
read_as None identity slot q e = absurd (cc)
read_as (Some x) identity slot q e =
    let read : Queued = record { serial = x.0; identity = identity; slot = slot; item = x.1 } in
    let same : read ≡ q = same_Some read q e in
    (λ i. Some ((same i).serial, (same i).item), sym (ap (λ (p : Queued). p.identity) same), sym (ap (λ (p : Queued). p.slot) same))

-- ---- how many items have a serial
abbrev count_at : ℕ → List Queued → ℕ
count_at n items = sum_by (λ (q : Queued). if q.serial == n then 1 else 0) items

count_more : (n : ℕ) (q : Queued) (items : List Queued) → count_at n (q ∷ items) ≡ (if q.serial == n then 1 else 0) + count_at n items
count_more n q items = sum_by-cons (λ (p : Queued). if p.serial == n then 1 else 0) q items

count_none : (n : ℕ) (items : List Queued) → ((q : Queued) → Contains items q → q.serial ≢ n) → count_at n items ≡ 0
count_none n [] other = refl
count_none n (q ∷ items) other = count_more n q items ∙ by (q.serial == n) refl
    (count_none n items (λ p c. other p (later_element q items p c)))
  where
    by : (b : Bool) → (q.serial == n) ≡ b → count_at n items ≡ 0 → ◌≡◌ {A = ℕ} ((if b then 1 else 0) + count_at n items) 0
    by true e rest = absurd (other q (first_element q items) (grind (arith, nat_tests)))
    by false e rest = omega arith

count_some : (n : ℕ) (items : List Queued) (q : Queued) → Contains items q → q.serial ≡ n → 1 ≤ count_at n items
count_some n [] q c is = absurd (no_element q c)
count_some n (p ∷ items) q c is =
    let more = count_more n p items in by (p.serial == n) refl more (element_cases p items q c) (λ d. count_some n items q d is)
  where
    by : (b : Bool) → (p.serial == n) ≡ b → count_at n (p ∷ items) ≡ (if b then 1 else 0) + count_at n items → (q ≡ p) ⊎ Contains items q
        → (Contains items q → 1 ≤ count_at n items) → 1 ≤ count_at n (p ∷ items)
    by true e more at rest = omega arith
    by false e more (inl same) rest = let s : q.serial ≡ p.serial = ap (λ (x : Queued). x.serial) same in absurd (grind (arith, nat_tests))
    by false e more (inr d) rest = let some = rest d in omega arith

-- items by serials that don't fall, none of which stands twice
rising_items : (items : List Queued) → IsNonDecreasingBy (λ (q : Queued). q.serial) items → ((n : ℕ) → count_at n items ≤ 1)
    → AllPairs StandsBefore items
rising_items [] sorted once = λ i j d lt within. absurd (omega arith)
rising_items (q ∷ items) sorted once = AllPairs-cons StandsBefore q items
    (all_elements (StandsBefore q) items (λ p c.
    let low : q.serial ≤ p.serial =
    subst (λ (x : Queued). q.serial ≤ x.serial) c.2 (sorted 0 (suc c.0) p (omega arith) (omega (arith, c.1))) in
    let other : p.serial ≢ q.serial = λ e.
    let most = once q.serial in
    let some = count_some q.serial items p c e in
    let more = count_more q.serial q items
    ∙ ap (λ (b : Bool). (if b then 1 else 0) + count_at q.serial items) (eq-eqb q.serial q.serial refl) in
    absurd (omega arith) in
    let below : q.serial < p.serial = grind arith in below))
    (rising_items items (λ i j d le lt. sorted (suc i) (suc j) d (omega arith) (omega arith)) (λ n.
    let most = once n in let more = count_more n q items in omega arith))

module _ (rs : List Held) (apart : AreApart rs) (value_of : ℕ → Option ℕ) (shown : Shows (live_things item_for rs) value_of) where
  -- the body of a live record is an item's
  body_fits : (r : Held) → Contains (live_records rs) r → (e : ℕ × ℕ) → item_in r.body ≡ Some e → item_for r.body ≡ Some e
  body_fits r c e is = sure_fit (λ (x : ℕ × ℕ). is_serial x.0) (item_in r.body) e is
      (λ none. shown.readable r.label.identity (held_live item_for rs r.label.identity r (live_record rs apart r c) ∙ ap Some none))

  body_read : (r : Held) → Contains (live_records rs) r → (e : ℕ × ℕ) × (item_in r.body ≡ Some e)
  body_read r c = by (item_for r.body) refl
    where
      by : (o : Option (ℕ × ℕ)) → item_for r.body ≡ o → (e : ℕ × ℕ) × (item_in r.body ≡ Some e)
      by None f = absurd (shown.readable r.label.identity (held_live item_for rs r.label.identity r (live_record rs apart r c) ∙ ap Some f))
      by (Some e) f = (e, (fitted (λ (x : ℕ × ℕ). is_serial x.0) (item_in r.body) e f).0)

  -- records of one serial are one
  one_record : (p r : Held) → Contains (live_records rs) p → Contains (live_records rs) r → (serial v w : ℕ)
      → item_in p.body ≡ Some (serial, v) → item_in r.body ≡ Some (serial, w) → p ≡ r
  one_record p r c d serial v w e f =
      let here = live_record rs apart p c in
      let there = live_record rs apart r d in
      let id : p.label.identity ≡ r.label.identity = shown.once p.label.identity r.label.identity serial v w
      (held_live item_for rs p.label.identity p here ∙ ap Some (body_fits p c (serial, v) e))
      (held_live item_for rs r.label.identity r there ∙ ap Some (body_fits r d (serial, w) f)) in
      same_Some p r (sym here ∙ ap (λ (i : ℕ). live_of i rs) id ∙ there)

  read_once : (qs : List Held) → AllPairs (λ (p r : Held). p.slot ≢ r.slot) qs → ((r : Held) → Contains qs r → Contains (live_records rs) r)
      → (n : ℕ) → count_at n (items_read qs) ≤ 1
  read_once [] slots live n = omega arith
  read_once (p ∷ qs) slots live n = by (queued_of (object_of p)) refl
      (read_once qs (pairs_tail (λ (x r : Held). x.slot ≢ r.slot) p qs slots) (λ r c. live r (later_element p qs r c)) n)
    where
      at : (q : Queued) → queued_of (object_of p) ≡ Some q → (b : Bool) → (q.serial == n) ≡ b → count_at n (items_read qs) ≤ 1
          → count_at n (q ∷ items_read qs) ≡ (if b then 1 else 0) + count_at n (items_read qs) → count_at n (q ∷ items_read qs) ≤ 1
      at q e true f rest more =
          let here = read_as (item_in p.body) p.label.identity p.slot q e in
          let none : count_at n (items_read qs) ≡ 0 = count_none n (items_read qs) (λ x c is.
          let r = item_read qs x c in
          let there = read_as (item_in r.0.body) r.0.label.identity r.0.slot x r.2 in
          let serials : x.serial ≡ q.serial = grind (arith, nat_tests) in
          let same : p ≡ r.0 = one_record p r.0 (live p (first_element p qs)) (live r.0 (later_element p qs r.0 r.1)) q.serial q.item x.item
          here.0 (there.0 ∙ ap (λ (m : ℕ). Some (m, x.item)) serials) in
          All-contains (λ (y : Held). p.slot ≢ y.slot) qs r.0 (pairs_head (λ (y z : Held). y.slot ≢ z.slot) p qs slots) r.1
          (ap (λ (y : Held). y.slot) same)) in
          omega arith
      at q e false f rest more = omega arith

      by : (o : Option Queued) → queued_of (object_of p) ≡ o → count_at n (items_read qs) ≤ 1
          → count_at n (cons_option o (items_read qs)) ≤ 1
      by None e rest = rest
      by (Some q) e rest = at q e (q.serial == n) refl rest (count_more n q (items_read qs))

  sorted_live : (items : List Queued) → IsPermutation (items_read (live_records rs)) items
      → IsNonDecreasingBy (λ (q : Queued). q.serial) items → AreLiveItems rs items
  sorted_live items moved sorted = record {
    each = all_elements (IsLiveItem rs) items (λ q c.
        let r = item_read (live_records rs) q (Contains-permutation items (items_read (live_records rs)) q
        (IsPermutation-sym (items_read (live_records rs)) items moved) c) in
        let reads = read_as (item_in r.0.body) r.0.label.identity r.0.slot q r.2 in
        record {
          live = r.0;
          is = ap (λ (i : ℕ). live_of i rs) reads.1 ∙ live_record rs apart r.0 r.1;
          in_slot = sym reads.2;
          holds = body_fits r.0 r.1 (q.serial, q.item) reads.0;
        });
    all = λ i r e.
        let c = record_live rs i r e in
        let b = body_read r c in
        let q : Queued = record { serial = b.0.0; identity = r.label.identity; slot = r.slot; item = b.0.1 } in
        let reads : queued_of (object_of r) ≡ Some q = ap (λ (o : Option (ℕ × ℕ)). queued_as o r.label.identity r.slot) b.1 in (
          q,
          Contains-permutation (items_read (live_records rs)) items q moved (read_item (live_records rs) r q c reads),
          (live_there rs i r e).0.identity,
        );
    rising = rising_items items sorted (λ n.
        let same = sum_by-IsPermutation (λ (q : Queued). if q.serial == n then 1 else 0) (items_read (live_records rs)) items moved in
        let once = read_once (live_records rs) (apart_filter rs apart (is_live rs)).slots (λ r c. c) n in
        omega arith);
  }

-- the objects of a queue make a queue
queue_shown : (s : Shape) (u : ℕ) (rs : List Held) (state : State) → kind_of s u ≡ Some unit_kinds.Queue → HasStructure s u rs state
    → (items : List ℕ) × HasItems rs items
queue_shown s u rs (MapOf m) queue h = let e = state_fits (kind_of s u) unit_kinds.Queue (MapOf m) queue h.of_unit in absurd (cc)
queue_shown s u rs (QueueOf items) queue h = (items, h.things)
queue_shown s u rs (GraphOf g) queue h = let e = state_fits (kind_of s u) unit_kinds.Queue (GraphOf g) queue h.of_unit in absurd (cc)

pub items_sorted : (s : Shape) (u : ℕ) (rs : List Held) (state : State) (items : List Queued) → AreApart rs
    → kind_of s u ≡ Some unit_kinds.Queue → IsStructure s u (live_objects rs) state
    → IsPermutation (filter_map queued_of (live_objects rs)) items → IsNonDecreasingBy (λ (q : Queued). q.serial) items
    → AreLiveItems rs items
items_sorted s u rs state items apart queue made moved sorted =
    let h = queue_shown s u rs state queue (objects_show s u rs apart state made) in
    sorted_live rs apart (finite.get h.1.0) h.1.1 items moved sorted
