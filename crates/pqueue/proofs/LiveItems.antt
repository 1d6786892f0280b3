-- What the live items of a queue show, and what one record more does to them.
use Rattle.std.proofs.Common.{◌≡◌, ℕ, ◌<◌, List, [], ◌∷◌, ◌++◌, map, sym, refl, ap, ◌∙◌, subst, arith, Bool, true, false, cond, inl, inr, ◌⊎◌}
use Rattle.std.specs.Prelude.{◌≢◌, ◌==◌, ◌&&◌, T, All, AllPairs, nat_lt, Some, None, if◌then◌else◌}
use Rattle.std.specs.List.{Contains}
use Rattle.std.specs.Ordering.{nat_cmp, eq_by_cmp, is_lt}
use Rattle.std.specs.FinMap.{is_sorted}
use Rattle.std.specs.FinMap.Entries.{below_all}
use Rattle.std.proofs.lemmas.Bool.Decides.{nat_tests}
use Rattle.std.proofs.lemmas.List.Elements.{All-contains, All-head, All-tail, All-nil, Contains-append_left, Contains-append_right}
use Rattle.std.proofs.lemmas.List.Kept.{AllPairs-cons}
use Rattle.std.proofs.lemmas.Option.{same_Some}
use Rattle.mont_base.specs.declared.kinds.UnitKind.TheVariants as unit_kinds
use Rattle.mont_base.specs.declared.record.Held.{Held}
use Rattle.mont_base.specs.Bodies.{item_in}
use Rattle.mont_base.specs.Layout.{Shape, kind_of}
use Rattle.mont_base.specs.State.{QueueOf}
use Rattle.mont_base.specs.Structure.{is_serial}
use Rattle.mont_base.specs.Versions.{newest_of}
use Rattle.mont_laws.specs.Effects.{HasLiveSerial, IsLeastSerial}
use Rattle.mont_laws.specs.Records.{live_of, live_if}
use Rattle.mont_laws.specs.Shows.{live_things, Shows}
use Rattle.mont_laws.specs.Structures.{item_for, HasItems, HasStructure}
use Rattle.mont_laws.proofs.SameKind.{has_kind}
use Rattle.mont_laws.proofs.Holders.{fitted, live_holder, held_live}
use Rattle.mont_laws.proofs.Keys.{one_number}
use Rattle.mont_laws.proofs.Members.{no_element, first_element, later_element, element_cases, pairs_head, pairs_tail, pair_cases, all_elements}
use Rattle.mont_laws.proofs.Newest.{IsAbove, newest_push}
use Rattle.mont_laws.proofs.Queues.{items_from, item_at, values_of}
use Rattle.mont_laws.proofs.Rows.{Serials}
use Rattle.pqueue.specs.declared.queued.Queued.{Queued}
use Rattle.pqueue.specs.Queued.{IsLiveItem, StandsBefore, AreLiveItems}

-- ---- items by rising serial, as what stands at which serial
abbrev pub serials_of : List Queued → Serials
serials_of items = map (λ (q : Queued). (q.serial, q.item)) items

abbrev pub items_in : List Queued → List ℕ
items_in items = map (λ (q : Queued). q.item) items

both : (a b : Bool) → T a → T b → T (a && b)
both true b p q = q
both false b p q = p

less : (k s : ℕ) → k < s → T (is_lt (nat_cmp k s))
less k s l = let e : nat_lt k s ≡ true = grind (arith, nat_tests) in rw e tt

below_serials : (k : ℕ) (items : List Queued) → All (λ (q : Queued). k < q.serial) items → T (below_all nat_cmp k (serials_of items))
below_serials k [] all = tt
below_serials k (q ∷ items) all =
    both (is_lt (nat_cmp k q.serial)) (below_all nat_cmp k (serials_of items))
    (less k q.serial (All-head (λ (q : Queued). k < q.serial) q items all))
    (below_serials k items (All-tail (λ (q : Queued). k < q.serial) q items all))

sorted_serials : (items : List Queued) → AllPairs StandsBefore items → T (is_sorted nat_cmp (serials_of items))
sorted_serials [] rising = tt
sorted_serials (q ∷ items) rising =
    both (below_all nat_cmp q.serial (serials_of items)) (is_sorted nat_cmp (serials_of items))
    (below_serials q.serial items (pairs_head StandsBefore q items rising))
    (sorted_serials items (pairs_tail StandsBefore q items rising))

found_at : (items : List Queued) → AllPairs StandsBefore items → (q : Queued) → Contains items q
    → item_at (serials_of items) q.serial ≡ Some q.item
found_at [] rising q c = absurd (no_element q c)
found_at (p ∷ items) rising q c =
    by (element_cases p items q c) (λ d. found_at items (pairs_tail StandsBefore p items rising) q d)
  where
    later : (b : Bool) → eq_by_cmp nat_cmp q.serial p.serial ≡ b → StandsBefore p q → item_at (serials_of items) q.serial ≡ Some q.item
        → cond b (Some p.item) (item_at (serials_of items) q.serial) ≡ Some q.item
    later true f low ih = let is : q.serial ≡ p.serial = (one_number q.serial p.serial).0 f in absurd (omega arith)
    later false f low ih = ih

    by : (q ≡ p) ⊎ Contains items q → (Contains items q → item_at (serials_of items) q.serial ≡ Some q.item)
        → item_at (serials_of (p ∷ items)) q.serial ≡ Some q.item
    by (inl e) ih = subst (λ (x : Queued). item_at (serials_of (p ∷ items)) x.serial ≡ Some x.item) (sym e)
        (ap (λ (b : Bool). cond b (Some p.item) (item_at (serials_of items) p.serial)) ((one_number p.serial p.serial).1 refl))
    by (inr d) ih = later (eq_by_cmp nat_cmp q.serial p.serial) refl
        (All-contains (StandsBefore p) items q (pairs_head StandsBefore p items rising) d) (ih d)

stands_at : (items : List Queued) (serial item : ℕ) → item_at (serials_of items) serial ≡ Some item
    → (q : Queued) × Contains items q × (q.serial ≡ serial) × (q.item ≡ item)
stands_at [] serial item e = absurd (cc)
stands_at (p ∷ items) serial item e = by (eq_by_cmp nat_cmp serial p.serial) refl e (stands_at items serial item)
  where
    by : (b : Bool) → eq_by_cmp nat_cmp serial p.serial ≡ b → cond b (Some p.item) (item_at (serials_of items) serial) ≡ Some item
        → (item_at (serials_of items) serial ≡ Some item → (q : Queued) × Contains items q × (q.serial ≡ serial) × (q.item ≡ item))
        → (q : Queued) × Contains (p ∷ items) q × (q.serial ≡ serial) × (q.item ≡ item)
    by true f g rest = (p, first_element p items, sym ((one_number serial p.serial).0 f), same_Some p.item item g)
    by false f g rest = let b = rest g in (b.0, later_element p items b.0 b.1, b.2, b.3)

once_at : (items : List Queued) → AllPairs StandsBefore items → (p q : Queued) → Contains items p → Contains items q → p.serial ≡ q.serial
    → p ≡ q
once_at items rising p q c d e = elim (pair_cases StandsBefore items p q rising c d) [
  | inl same ↦ same
  | inr (inl low) ↦ let l : p.serial < q.serial = low in absurd (omega arith)
  | inr (inr low) ↦ let l : q.serial < p.serial = low in absurd (omega arith)
]

values_same : (items : List Queued) → values_of (serials_of items) ≡ items_in items
values_same [] = refl
values_same (q ∷ items) = ap (λ (l : List ℕ). q.item ∷ l) (values_same items)

module _ (rs : List Held) (items : List Queued) (k : AreLiveItems rs items) where
  -- the item of a live identity
  pub item_of : (i : ℕ) (r : Held) → live_of i rs ≡ Some r
      → (q : Queued) × Contains items q × (q.identity ≡ i) × (q.slot ≡ r.slot) × (item_for r.body ≡ Some (q.serial, q.item))
  item_of i r e =
      let h = k.all i r e in
      let l : IsLiveItem rs h.0 = All-contains (IsLiveItem rs) items h.0 k.each h.1 in
      let same : l.live ≡ r = same_Some l.live r (sym l.is ∙ ap (λ (j : ℕ). live_of j rs) h.2 ∙ e) in
      (h.0, h.1, h.2, sym l.in_slot ∙ ap (λ (x : Held). x.slot) same, ap (λ (x : Held). item_for x.body) (sym same) ∙ l.holds)

  pub item_shown : Shows (live_things item_for rs) (item_at (serials_of items))
  item_shown = record {
    readable = λ i e.
        let b = live_holder item_for rs i None e in
        let q = item_of i b.0 b.1 in
        absurd (let f = sym b.2 ∙ q.4 in cc);
    found = λ i serial item e.
        let b = live_holder item_for rs i (Some (serial, item)) e in
        let q = item_of i b.0 b.1 in
        let same : (q.0.serial, q.0.item) ≡ (serial, item) = same_Some (q.0.serial, q.0.item) (serial, item) (sym q.4 ∙ b.2) in
        subst (λ (x : ℕ × ℕ). item_at (serials_of items) x.0 ≡ Some x.1) same (found_at items k.rising q.0 q.1);
    there = λ serial item e.
        let q = stands_at items serial item e in
        let l : IsLiveItem rs q.0 = All-contains (IsLiveItem rs) items q.0 k.each q.1 in
        (q.0.identity, held_live item_for rs q.0.identity l.live l.is ∙ ap Some (l.holds ∙ (λ j. Some (q.2 j, q.3 j))));
    once = λ i j serial v w e f.
        let b = live_holder item_for rs i (Some (serial, v)) e in
        let c = live_holder item_for rs j (Some (serial, w)) f in
        let p = item_of i b.0 b.1 in
        let q = item_of j c.0 c.1 in
        let at_p : (p.0.serial, p.0.item) ≡ (serial, v) = same_Some (p.0.serial, p.0.item) (serial, v) (sym p.4 ∙ b.2) in
        let at_q : (q.0.serial, q.0.item) ≡ (serial, w) = same_Some (q.0.serial, q.0.item) (serial, w) (sym q.4 ∙ c.2) in
        let same : p.0 ≡ q.0 = once_at items k.rising p.0 q.0 p.1 q.1 (ap (λ (x : ℕ × ℕ). x.0) at_p ∙ sym (ap (λ (x : ℕ × ℕ). x.0) at_q)) in
        sym p.2 ∙ ap (λ (x : Queued). x.identity) same ∙ q.2;
  }

  pub items_shown : HasItems rs (items_in items)
  items_shown = subst (HasItems rs) (values_same items)
      (items_from rs (serials_of items) (record { sorted = sorted_serials items k.rising; shown = item_shown }))

  pub structure_shown : (s : Shape) (u : ℕ) → kind_of s u ≡ Some unit_kinds.Queue → HasStructure s u rs (QueueOf (items_in items))
  structure_shown s u queue = record {
    of_unit = has_kind (kind_of s u) unit_kinds.Queue (QueueOf (items_in items)) queue refl;
    things = items_shown;
  }

  -- a live serial is that of an item
  pub serial_stands : (serial : ℕ) → HasLiveSerial rs serial → (q : Queued) × Contains items q × (q.serial ≡ serial)
  serial_stands serial h =
      let q = item_of h.0 h.1 h.3 in
      let reads : item_in h.1.body ≡ Some (q.0.serial, q.0.item) =
      (fitted (λ (e : ℕ × ℕ). is_serial e.0) (item_in h.1.body) (q.0.serial, q.0.item) q.4).0 in
      (q.0, q.1, ap (λ (x : ℕ × ℕ). x.0) (same_Some (q.0.serial, q.0.item) (serial, h.2) (sym reads ∙ h.4)))

  pub serial_lives : (q : Queued) → Contains items q → HasLiveSerial rs q.serial
  serial_lives q c =
      let l : IsLiveItem rs q = All-contains (IsLiveItem rs) items q k.each c in
      (q.identity, l.live, q.item, l.is, (fitted (λ (e : ℕ × ℕ). is_serial e.0) (item_in l.live.body) (q.serial, q.item) l.holds).0)

-- the first item has the least serial
pub first_least : (rs : List Held) (q : Queued) (items : List Queued) → AreLiveItems rs (q ∷ items) → IsLeastSerial rs q.serial
first_least rs q items k other h =
    let p = serial_stands rs (q ∷ items) k other h in
    elim (element_cases q items p.0 p.1) [
      | inl e ↦ let same : p.0.serial ≡ q.serial = ap (λ (x : Queued). x.serial) e in let is = p.2 in omega arith
      | inr c ↦
          let low : q.serial < p.0.serial = All-contains (StandsBefore q) items p.0 (pairs_head StandsBefore q items k.rising) c in
          let is = p.2 in omega arith
    ]

-- ---- where the same records are live
pub live_items_move : (rs qs : List Held) (items : List Queued) → ((i : ℕ) → live_of i qs ≡ live_of i rs) → AreLiveItems rs items
    → AreLiveItems qs items
live_items_move rs qs items same k = record {
  each = all_elements (IsLiveItem qs) items (λ q c.
      let l : IsLiveItem rs q = All-contains (IsLiveItem rs) items q k.each c in
      record { live = l.live; is = same q.identity ∙ l.is; in_slot = l.in_slot; holds = l.holds });
  all = λ i r e. k.all i r (sym (same i) ∙ e);
  rising = k.rising;
}

-- ---- one record more
live_push : (rs : List Held) (w : Held) (i : ℕ) → IsAbove (newest_of w.label.identity rs) w
    → live_of i (rs ++ w ∷ []) ≡ (if w.label.identity == i then live_if (Some w) else live_of i rs)
live_push rs w i above = ap live_if (newest_push i rs w above) ∙ by (w.label.identity == i)
  where
    by : (b : Bool) → live_if (if b then Some w else newest_of i rs) ≡ (if b then live_if (Some w) else live_of i rs)
    by true = refl
    by false = refl

live_else : (rs : List Held) (w : Held) (i : ℕ) → IsAbove (newest_of w.label.identity rs) w → i ≢ w.label.identity
    → live_of i (rs ++ w ∷ []) ≡ live_of i rs
live_else rs w i above other = live_push rs w i above ∙ by (w.label.identity == i) refl
  where
    by : (b : Bool) → (w.label.identity == i) ≡ b → (if b then live_if (Some w) else live_of i rs) ≡ live_of i rs
    by true e = absurd (other (grind (arith, nat_tests)))
    by false e = refl

live_here : (rs : List Held) (w : Held) → IsAbove (newest_of w.label.identity rs) w
    → live_of w.label.identity (rs ++ w ∷ []) ≡ live_if (Some w)
live_here rs w above = live_push rs w w.label.identity above ∙ by (w.label.identity == w.label.identity) refl
  where
    by : (b : Bool) → (w.label.identity == w.label.identity) ≡ b
        → (if b then live_if (Some w) else live_of w.label.identity rs) ≡ live_if (Some w)
    by true e = refl
    by false e = absurd (grind (arith, nat_tests))

same_number : (i j : ℕ) → (i ≡ j) ⊎ (i ≢ j)
same_number i j = grind arith

pairs_push : (items : List Queued) (q : Queued) → AllPairs StandsBefore items → ((p : Queued) → Contains items p → StandsBefore p q)
    → AllPairs StandsBefore (items ++ q ∷ [])
pairs_push [] q rising low = AllPairs-cons StandsBefore q [] (All-nil (StandsBefore q)) (λ i j d lt within. absurd (omega arith))
pairs_push (p ∷ items) q rising low = AllPairs-cons StandsBefore p (items ++ q ∷ [])
    (all_elements (StandsBefore p) (items ++ q ∷ []) (λ x c. at x (last_cases items x c)))
    (pairs_push items q (pairs_tail StandsBefore p items rising) (λ x c. low x (later_element p items x c)))
  where
    last_cases : (xs : List Queued) (x : Queued) → Contains (xs ++ q ∷ []) x → Contains xs x ⊎ (x ≡ q)
    last_cases [] x c = elim (element_cases q [] x c) [ inl e ↦ inr e | inr d ↦ absurd (no_element x d) ]
    last_cases (y ∷ xs) x c = elim (element_cases y (xs ++ q ∷ []) x c) [
      | inl e ↦ inl (subst (Contains (y ∷ xs)) (sym e) (first_element y xs))
      | inr d ↦ elim (last_cases xs x d) [ inl g ↦ inl (later_element y xs x g) | inr g ↦ inr g ]
    ]

    at : (x : Queued) → Contains items x ⊎ (x ≡ q) → StandsBefore p x
    at x (inl c) = All-contains (StandsBefore p) items x (pairs_head StandsBefore p items rising) c
    at x (inr e) = subst (StandsBefore p) (sym e) (low p (first_element p items))

module _ (rs : List Held) (items : List Queued) (w : Held) (k : AreLiveItems rs items)
    (above : IsAbove (newest_of w.label.identity rs) w) where
  -- an item of another identity stays live
  still_live : (q : Queued) → Contains items q → q.identity ≢ w.label.identity → IsLiveItem (rs ++ w ∷ []) q
  still_live q c other =
      let l : IsLiveItem rs q = All-contains (IsLiveItem rs) items q k.each c in
      record { live = l.live; is = live_else rs w q.identity above other ∙ l.is; in_slot = l.in_slot; holds = l.holds }

  -- A new item stands last.
  pub item_comes_in : (q : Queued) → q.identity ≡ w.label.identity → q.slot ≡ w.slot → live_if (Some w) ≡ Some w
      → item_for w.body ≡ Some (q.serial, q.item) → live_of w.label.identity rs ≡ None
      → ((p : Queued) → Contains items p → StandsBefore p q) → AreLiveItems (rs ++ w ∷ []) (items ++ q ∷ [])
  item_comes_in q identity slot alive reads unused low = record {
    each = all_elements (IsLiveItem (rs ++ w ∷ [])) (items ++ q ∷ []) (λ p c. elim (last_one items p c) [
      | inl d ↦ still_live p d (other p d)
      | inr e ↦ subst (IsLiveItem (rs ++ w ∷ [])) (sym e) (record {
        live = w;
        is = ap (λ (i : ℕ). live_of i (rs ++ w ∷ [])) identity ∙ live_here rs w above ∙ alive;
        in_slot = sym slot;
        holds = reads;
      })
    ]);
    all = λ i r e. elim (same_number i w.label.identity) [
      | inl is ↦ (q, Contains-append_right items (q ∷ []) q (first_element q []), identity ∙ sym is)
      | inr ne ↦
          let h = k.all i r (sym (live_else rs w i above ne) ∙ e) in
          (h.0, Contains-append_left items (q ∷ []) h.0 h.1, h.2)
    ];
    rising = pairs_push items q k.rising low;
  }
    where
      other : (p : Queued) → Contains items p → p.identity ≢ w.label.identity
      other p d e =
          let l : IsLiveItem rs p = All-contains (IsLiveItem rs) items p k.each d in
          let f = sym l.is ∙ ap (λ (i : ℕ). live_of i rs) e ∙ unused in absurd (cc f)

      last_one : (xs : List Queued) (x : Queued) → Contains (xs ++ q ∷ []) x → Contains xs x ⊎ (x ≡ q)
      last_one [] x c = elim (element_cases q [] x c) [ inl e ↦ inr e | inr d ↦ absurd (no_element x d) ]
      last_one (y ∷ xs) x c = elim (element_cases y (xs ++ q ∷ []) x c) [
        | inl e ↦ inl (subst (Contains (y ∷ xs)) (sym e) (first_element y xs))
        | inr d ↦ elim (last_one xs x d) [ inl g ↦ inl (later_element y xs x g) | inr g ↦ inr g ]
      ]

-- The first item goes.
pub first_goes : (rs : List Held) (q : Queued) (items : List Queued) (w : Held) → AreLiveItems rs (q ∷ items)
    → IsAbove (newest_of w.label.identity rs) w → w.label.identity ≡ q.identity → live_if (Some w) ≡ None
    → AreLiveItems (rs ++ w ∷ []) items
first_goes rs q items w k above identity gone = record {
  each = all_elements (IsLiveItem (rs ++ w ∷ [])) items (λ p c.
      still_live rs (q ∷ items) w k above p (later_element q items p c) (other p c));
  all = λ i r e. elim (same_number i w.label.identity) [
    | inl is ↦ absurd (let f = sym e ∙ ap (λ (j : ℕ). live_of j (rs ++ w ∷ [])) is ∙ live_here rs w above ∙ gone in cc f)
    | inr ne ↦
        let h = k.all i r (sym (live_else rs w i above ne) ∙ e) in
        elim (element_cases q items h.0 h.1) [
          | inl is ↦ absurd (ne (sym h.2 ∙ ap (λ (x : Queued). x.identity) is ∙ sym identity))
          | inr c ↦ (h.0, c, h.2)
        ]
  ];
  rising = pairs_tail StandsBefore q items k.rising;
}
  where
    other : (p : Queued) → Contains items p → p.identity ≢ w.label.identity
    other p c e =
        let here : IsLiveItem rs q = All-head (IsLiveItem rs) q items k.each in
        let there : IsLiveItem rs p = All-contains (IsLiveItem rs) (q ∷ items) p k.each (later_element q items p c) in
        let low : q.serial < p.serial = All-contains (StandsBefore q) items p (pairs_head StandsBefore q items k.rising) c in
        let same : there.live ≡ here.live =
        same_Some there.live here.live (sym there.is ∙ ap (λ (i : ℕ). live_of i rs) (e ∙ identity) ∙ here.is) in
        let reads : ◌≡◌ {A = ℕ × ℕ} (p.serial, p.item) (q.serial, q.item) = same_Some (p.serial, p.item) (q.serial, q.item)
        (sym there.holds ∙ ap (λ (x : Held). item_for x.body) same ∙ here.holds) in
        let serials : p.serial ≡ q.serial = ap (λ (x : ℕ × ℕ). x.0) reads in
        absurd (omega arith)
