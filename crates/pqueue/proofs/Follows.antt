-- The items follow what was carried out.
use Rattle.std.proofs.Common.{◌≡◌, ℕ, ◌<◌, ◌≤◌, List, [], ◌∷◌, ◌++◌, append-nil, length, sym, refl, ap, ◌∙◌, subst, arith, Bool, true, false, inl, inr, ◌⊎◌}
use Rattle.std.specs.Prelude.{◌≢◌, ◌==◌, IsTrue, AllPairs, Option, Some, None, option_to_list, if◌then◌else◌}
use Rattle.std.specs.List.{Contains}
use Rattle.std.specs.Option.{option_and_then}
use Rattle.std.proofs.lemmas.Bool.{eq-eqb}
use Rattle.std.proofs.lemmas.Bool.Decides.{nat_tests}
use Rattle.std.proofs.lemmas.List.Elements.{All-contains, Contains-append_left, Contains-append_right}
use Rattle.mont_base.specs.declared.constants.TheConstants.{LAST}
use Rattle.mont_base.specs.declared.operation.Receipt.{Receipt}
use Rattle.mont_base.specs.declared.record.Change.{Change}
use Rattle.mont_base.specs.declared.record.Change.TheVariants.{Insert, Replace, Remove}
use Rattle.mont_base.specs.declared.record.Held.{Held}
use Rattle.mont_base.specs.Bodies.{item_body, item_in}
use Rattle.mont_base.specs.Versions.{newest_of}
use Rattle.mont_laws.specs.Records.{live_of}
use Rattle.mont_laws.proofs.Bodies.{item_back, item_fits}
use Rattle.mont_laws.proofs.Edits.{live_facts}
use Rattle.mont_laws.proofs.Members.{no_element, first_element, element_cases, pairs_head, pairs_tail}
use Rattle.mont_laws.proofs.Newest.{IsAbove, IsNewest, newest_is}
use Rattle.slots.specs.Books.{RegionShown, Agrees, HasLowerIdentity, record_in}
use Rattle.slots.specs.WrittenRecords.{record_by, identity_by, greatest_version, version_in}
use Rattle.slots.specs.Serials.{IsNextSerial}
use Rattle.structure_call.specs.Carrying.{HasCarried, records_by, last_of}
use Rattle.pqueue.specs.declared.queued.Queued.{Queued}
use Rattle.pqueue.specs.Queued.{AreLiveItems, queued_in, queued_at, queued_by}
use Rattle.pqueue.specs.QueuePlan.{ChangesQueue, adds_item, items_behind}
use Rattle.pqueue.proofs.LiveItems.{live_items_move, item_comes_in, first_goes, serial_lives}

-- ---- the record in a slot
pub record_there : (rs : List Held) (r : Held) → AllPairs (λ (p q : Held). p.slot ≢ q.slot) rs → Contains rs r
    → record_in rs r.slot ≡ Some r
record_there [] r apart c = absurd (no_element r c)
record_there (p ∷ rs) r apart c = by (element_cases p rs r c)
    (λ d. record_there rs r (pairs_tail (λ (p q : Held). p.slot ≢ q.slot) p rs apart) d)
  where
    behind : (b : Bool) → (p.slot == r.slot) ≡ b → p.slot ≢ r.slot → record_in rs r.slot ≡ Some r
        → (if b then Some p else record_in rs r.slot) ≡ Some r
    behind true e other rest = absurd (other (grind (arith, nat_tests)))
    behind false e other rest = rest

    by : (r ≡ p) ⊎ Contains rs r → (Contains rs r → record_in rs r.slot ≡ Some r) → record_in (p ∷ rs) r.slot ≡ Some r
    by (inl e) rest = subst (λ (x : Held). record_in (p ∷ rs) x.slot ≡ Some x) (sym e)
        (ap (λ (b : Bool). if b then Some p else record_in rs p.slot) (eq-eqb p.slot p.slot refl))
    by (inr d) rest = behind (p.slot == r.slot) refl
        (All-contains (λ (q : Held). p.slot ≢ q.slot) rs r (pairs_head (λ (p q : Held). p.slot ≢ q.slot) p rs apart) d) (rest d)

-- a record that a change writes stands above the newest of its identity
above_newest : (unit next : ℕ) (rs : List Held) (change : Change) (epoch slot : ℕ)
    → IsAbove (newest_of (record_by unit next rs change epoch slot).label.identity rs) (record_by unit next rs change epoch slot)
above_newest unit next rs change epoch slot = by (newest_of (identity_by next change) rs) refl
  where
    by : (o : Option Held) → newest_of (identity_by next change) rs ≡ o → IsAbove o (record_by unit next rs change epoch slot)
    by None e = tt
    by (Some q) e =
        let version : greatest_version (identity_by next change) rs ≡ q.label.version = ap version_in e in
        omega arith

-- so many slots for one change
one_slot : (slots : List ℕ) → length slots ≡ 1 → (slot : ℕ) × (slots ≡ slot ∷ [])
one_slot [] e = absurd (omega arith)
one_slot (slot ∷ []) e = (slot, refl)
one_slot (slot ∷ other ∷ slots) e = absurd (omega arith)

-- ---- one change, after records of which these are the live items
module _ (kept : List Held) (items : List Queued) (live : AreLiveItems kept items) (unit next epoch slot : ℕ) where
  pub comes_in : (serial item : ℕ) (body : List ℕ) → body ≡ item_body serial item → 1 ≤ serial → serial ≤ LAST
      → ((p : Queued) → Contains items p → p.serial < serial) → live_of next kept ≡ None
      → AreLiveItems (kept ++ record_by unit next kept (Insert body) epoch slot ∷ [])
      (items ++ (let q : Queued = record { serial = serial; identity = next; slot = slot; item = item } in q) ∷ [])
  comes_in serial item body is some last low unused =
      item_comes_in kept items (record_by unit next kept (Insert body) epoch slot) live
      (above_newest unit next kept (Insert body) epoch slot)
      (record { serial = serial; identity = next; slot = slot; item = item }) refl refl refl
      (item_fits serial item body some last (ap item_in is ∙ item_back serial item)) unused low

pub goes : (kept : List Held) (q : Queued) (items : List Queued) (unit next epoch slot from identity : ℕ) → AreLiveItems kept (q ∷ items)
    → identity ≡ q.identity → AreLiveItems (kept ++ record_by unit next kept (Remove from identity) epoch slot ∷ []) items
goes kept q items unit next epoch slot from identity live is =
    first_goes kept q items (record_by unit next kept (Remove from identity) epoch slot) live
    (above_newest unit next kept (Remove from identity) epoch slot) is refl

-- ---- of a region
module _ (old new : RegionShown) (items : List Queued) (live : AreLiveItems old.seat.known.part.records items) (agrees : Agrees old)
    (after : Agrees new) (receipt : Receipt) (slot : Option ℕ) where
  -- the next identity isn't live
  next_unused : live_of old.books.identity old.seat.known.part.records ≡ None
  next_unused = by (live_of old.books.identity old.seat.known.part.records) refl
    where
      by : (o : Option Held) → live_of old.books.identity old.seat.known.part.records ≡ o → o ≡ None
      by None e = refl
      by (Some r) e =
          let newest = (live_facts (newest_of old.books.identity old.seat.known.part.records) r e).0 in
          let is : IsNewest old.books.identity old.seat.known.part.records r =
          newest_is old.books.identity old.seat.known.part.records r newest in
          let low : r.label.identity < old.books.identity = All-contains (HasLowerIdentity old.books.identity)
          (old.seat.known.part.records ++ old.seat.known.part.written) r agrees.1.numbered
          (Contains-append_left old.seat.known.part.records old.seat.known.part.written r is.there) in
          let same = is.identity in absurd (omega arith)

  pub none_follows : HasCarried old new [] receipt slot → AreLiveItems new.seat.known.part.records items
  none_follows c = live_items_move old.seat.known.part.records new.seat.known.part.records items
      (λ i. ap (live_of i) (c.records_are ∙ append-nil c.kept) ∙ c.live i) live

  -- one change is written into one slot
  module _ (change : Change) (c : HasCarried old new (change ∷ []) receipt slot) where
    pub written_at : (s : ℕ) × (slot ≡ Some s)
        × (new.seat.known.part.records
        ≡ c.kept ++ record_by old.books.unit old.books.identity c.kept change receipt.entry.epoch s ∷ [])
    written_at =
        let one = one_slot c.slots c.each in (
          one.0,
          c.last_is ∙ ap last_of one.1,
          c.records_are
              ∙ ap (λ (l : List ℕ). c.kept ++ records_by old.books.unit old.books.identity c.kept receipt.entry.epoch (change ∷ []) l)
              one.1,
        )

    pub still_live : AreLiveItems c.kept items
    still_live = live_items_move old.seat.known.part.records c.kept items c.live live

  -- an item came in
  pub item_follows : (body : List ℕ) (item : ℕ) → body ≡ item_body old.books.serial item
      → IsNextSerial old.seat.known.part.records [] old.books.serial → old.books.serial ≤ LAST
      → HasCarried old new (Insert body ∷ []) receipt slot
      → AreLiveItems new.seat.known.part.records (items ++ option_to_list (option_and_then (queued_at new.seat.known.part.records) slot))
  item_follows body item is next last c =
      let at = written_at (Insert body) c in
      let some : 1 ≤ old.books.serial = let low = next.some in let same = next.is in omega arith in
      let below : (p : Queued) → Contains items p → p.serial < old.books.serial = λ p d.
      let low = next.above p.serial (serial_lives old.seat.known.part.records items live p d) in let same = next.is in omega arith in
      let comes = comes_in c.kept items (still_live (Insert body) c) old.books.unit old.books.identity receipt.entry.epoch at.0
      old.books.serial item body is some last below (c.live old.books.identity ∙ next_unused) in
      let w : Held = record_by old.books.unit old.books.identity c.kept (Insert body) receipt.entry.epoch at.0 in
      let there : Contains new.seat.known.part.records w = subst (λ (rs : List Held). Contains rs w) (sym at.2)
      (Contains-append_right c.kept (w ∷ []) w (first_element w [])) in
      let reads : queued_at new.seat.known.part.records at.0
      ≡ Some (record { serial = old.books.serial; identity = old.books.identity; slot = at.0; item = item }) =
      ap queued_by (record_there new.seat.known.part.records w after.1.apart.slots there)
      ∙ ap (λ (b : List ℕ). queued_in b old.books.identity at.0) is in
      let found = ap (option_and_then (queued_at new.seat.known.part.records)) at.1 ∙ reads in
      subst (λ (x : (List Held) × (Option Queued)). AreLiveItems x.0 (items ++ option_to_list x.1)) (λ i. (sym at.2 i, sym found i)) comes

-- the first item went
pub first_follows : (old new : RegionShown) (q : Queued) (items : List Queued) → AreLiveItems old.seat.known.part.records (q ∷ items)
    → (agrees : Agrees old) → (after : Agrees new) → (receipt : Receipt) (slot : Option ℕ) (from identity : ℕ) → identity ≡ q.identity
    → HasCarried old new (Remove from identity ∷ []) receipt slot → AreLiveItems new.seat.known.part.records items
first_follows old new q items live agrees after receipt slot from identity is c =
    let at = written_at old new (q ∷ items) live agrees after receipt slot (Remove from identity) c in
    subst (λ (rs : List Held). AreLiveItems rs items) (sym at.2)
    (goes c.kept q items old.books.unit old.books.identity receipt.entry.epoch at.0 from identity
    (still_live old new (q ∷ items) live agrees after receipt slot (Remove from identity) c) is)

-- any change of a queue
pub items_follow : (old new : RegionShown) (items : List Queued) (change : Option Change) (receipt : Receipt) (slot : Option ℕ)
    → AreLiveItems old.seat.known.part.records items → Agrees old → Agrees new → ChangesQueue old.books.serial items change
    → IsNextSerial old.seat.known.part.records [] old.books.serial → (IsTrue (adds_item change) → old.books.serial ≤ LAST)
    → HasCarried old new (option_to_list change) receipt slot
    → AreLiveItems new.seat.known.part.records
    (items_behind items change (option_and_then (queued_at new.seat.known.part.records) slot))
items_follow old new items None receipt slot live agrees after is next last c = none_follows old new items live agrees after receipt slot c
items_follow old new items (Some (Insert body)) receipt slot live agrees after is next last c =
    item_follows old new items live agrees after receipt slot body is.0 is.1 next (last refl) c
items_follow old new items (Some (Replace from identity body)) receipt slot live agrees after is next last c = absurd is
items_follow old new [] (Some (Remove from identity)) receipt slot live agrees after is next last c = absurd is
items_follow old new (q ∷ items) (Some (Remove from identity)) receipt slot live agrees after is next last c =
    first_follows old new q items live agrees after receipt slot from identity is.1 c
