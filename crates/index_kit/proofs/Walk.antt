-- The walk for a key: what holds on the way, and what filling its seat keeps.
use Rattle.std.proofs.Common.{◌≡◌, ◌≢◌, ℕ, ◌-◌, ◌*◌, ◌/◌, ◌^◌, ◌<◌, ◌≤◌, length, get_or, set, Some, None, inl, inr, refl, sym, ap, subst, ◌∙◌, arith, length-set}
use Rattle.std.specs.Prelude.{IfSome, IsSomeAnd}
use Rattle.std.proofs.Math.Nat.{mod-lt}
use Rattle.std.proofs.lemmas.List.{get_or_default}
use Rattle.std.specs.FinMap as finite
use Rattle.mont_base.specs.State.{Key}
use Rattle.index_kit.specs.Ring.{place_behind, steps}
use Rattle.index_kit.specs.Home.{hash_of, home_of}
use Rattle.index_kit.specs.Cells.{cell_at}
use Rattle.index_kit.specs.Table.{Numbers, Seat, Seats, Holds, IsFree, HasFree, IsReached, IsReachedBut, IsApart, IsTable, IsTableBut, IsSeat, distance, numbers_in}
use Rattle.index_kit.proofs.Round.{steps-lt, steps-self, steps-same, steps-behind, steps-behind-le, place_behind-lt}
use Rattle.index_kit.proofs.Held.{holds-within, not_free, not_none, same_entry, held_set, free_set, free_other, free_cleared, IsFor, number_of, get_own, numbers_filled, numbers_cleared}

hash_of-lt : (key : Key) → hash_of key < 2 ^ 64
unfolding hash_of
hash_of-lt key = mod-lt _ (omega arith)

share-lt : (hash seats : ℕ) → hash < 2 ^ 64 → 0 < seats → hash * seats / 2 ^ 64 < seats
share-lt hash seats h some = grind arith

-- a home is one of the seats
pub home_of-lt : (seats : ℕ) (key : Key) → 0 < seats → home_of seats key < seats
unfolding home_of
home_of-lt seats key some = share-lt (hash_of key) seats (hash_of-lt key) some

pub some_seats : (seats : Seats) (at : ℕ) → at < length seats → 0 < length seats
some_seats seats at within = omega arith

-- other seats are at other distances
pub distance-other : (n : ℕ) (key : Key) (a b : ℕ) → a < n → b < n → a ≢ b → distance n key a ≢ distance n key b
distance-other n key a b ha hb differs same = differs (steps-same n (home_of n key) a b (home_of-lt n key (omega arith)) ha hb same)

-- a walk for a key came to this cell: it passed no free cell, and not the key
pub record IsWalked (seats : Seats) (key : Key) (at : ℕ) : Type 0 where
  pub within : at < length seats
  pub no_free : (free : ℕ) → IsFree seats free → distance (length seats) key at ≤ distance (length seats) key free
  pub not_key : (i : ℕ) (entry : Key × ℕ) → Holds seats i entry → entry.0 ≡ key → distance (length seats) key at ≤ distance
      (length seats) key i

pub walk_begins : (seats : Seats) (key : Key) → 0 < length seats → IsWalked seats key (home_of (length seats) key)
walk_begins seats key some =
    let none = steps-self (length seats) (home_of (length seats) key) in
    record { within = home_of-lt (length seats) key some; no_free = λ f free. omega arith; not_key = λ i e held same. omega arith }

pub walk_home : (seats : Seats) (key : Key) (size at : ℕ) → at ≡ home_of size key → size ≡ length seats → HasFree seats
    → IsWalked seats key at
walk_home seats key size at is sized some =
    subst (IsWalked seats key) (sym (is ∙ ap (λ (n : ℕ). home_of n key) sized)) (walk_begins seats key
    (some_seats seats some.0 some.1.within))

-- two seats hold other entries
pub other_seats : (seats : Seats) (i j : ℕ) (d e : Key × ℕ) → Holds seats i d → Holds seats j e → d.0 ≢ e.0 → i ≢ j
other_seats seats i j d e held held_too differs same =
    differs (ap (λ (x : Key × ℕ). x.0) (same_entry d e (sym held ∙ ap (cell_at seats) same ∙ held_too)))

-- a cell that is held isn't free
pub other_than_free : (seats : Seats) (i f : ℕ) (e : Key × ℕ) → Holds seats i e → IsFree seats f → i ≢ f
other_than_free seats i f e held free same = not_free seats i e held (subst (IsFree seats) (sym same) free)

module _ (seats : Seats) (key : Key) (at : ℕ) (h : IsWalked seats key at) where
  homed : home_of (length seats) key < length seats
  homed = home_of-lt (length seats) key (some_seats seats at h.within)

  module _ (e : Key × ℕ) (held : Holds seats at e) (other : e.0 ≢ key) where
    past_free : (f : ℕ) → IsFree seats f → distance (length seats) key at < distance (length seats) key f
    past_free f free =
        let apart = distance-other (length seats) key at f h.within free.within (other_than_free seats at f e held free) in
        let less = h.no_free f free in omega arith

    -- it goes on from a cell that another key holds
    pub walk_goes_on : IsWalked seats key (place_behind (length seats) at)
    walk_goes_on =
        let next = steps-behind-le (length seats) (home_of (length seats) key) at homed h.within in
        record {
          within = place_behind-lt (length seats) at h.within;
          no_free = λ f free. let less = past_free f free in omega arith;
          not_key = λ i d held_too same.
              let apart = distance-other (length seats) key at i h.within (holds-within seats i d held_too)
              (other_seats seats at i e d held held_too (λ s. other (s ∙ same))) in
              let less = h.not_key i d held_too same in omega arith;
        }

    -- and comes nearer to the end
    pub walk_ends : HasFree seats
        → length seats - distance (length seats) key (place_behind (length seats) at) < length seats - distance (length seats) key at
    walk_ends some =
        let less = past_free some.0 some.1 in
        let short = steps-lt (length seats) (home_of (length seats) key) some.0 homed some.1.within in
        let next = steps-behind (length seats) (home_of (length seats) key) at homed h.within (omega arith) in
        omega arith

  -- it ends at the seat
  pub walk_seat : IsTable seats → ((e : Key × ℕ) → Holds seats at e → e.0 ≡ key) → IsSeat seats key at
  walk_seat table own = record {
    within = h.within;
    own = own;
    only = λ i e held same. only i e held same
        (cell_at seats at) refl;
    first = h.no_free;
  }
    where
      only : (i : ℕ) (e : Key × ℕ) → Holds seats i e → e.0 ≡ key → (c : Seat) → cell_at seats at ≡ c → i ≡ at
      only i e held same None is =
          let free : IsFree seats at = record { within = h.within; empty = is } in
          let near = subst (λ (k : Key). distance (length seats) k i < distance (length seats) k at) same
          (table.reached i at e held free) in
          let far = h.not_key i e held same in absurd (omega arith)
      only i e held same (Some d) is = table.apart i at e d held is (same ∙ sym (own d is))

module _ (seats : Seats) (key : Key) (at : ℕ) (seat : IsSeat seats key at) where
  pub seat_for : IsFor key seats at
  seat_for = record { only = seat.only; own = seat.own }

  module _ (number : ℕ) where
    filled : Seats
    filled = set seats at (Some (key, number))

    -- a free cell is another one, and was free
    filled_free : (f : ℕ) → IsFree (set seats at (Some (key, number))) f → (f ≢ at) × IsFree seats f
    filled_free f free = elim (free_set seats at (Some (key, number)) seat.within f free) [
      | inl x ↦ absurd (not_none (key, number)
          (sym x.1))
      | inr x ↦ x
    ]

    filled_reached : IsReached (length seats) seats → IsReached (length seats) (set seats at (Some (key, number)))
    filled_reached reached i f e held free = elim (held_set seats at (Some (key, number)) seat.within i e held) [
      | inl x ↦
          let same : key ≡ e.0 = ap (λ (d : Key × ℕ). d.0) (same_entry (key, number) e x.1) in
          let there = filled_free f free in
          let first = seat.first f there.1 in
          let apart = distance-other (length seats) key at f seat.within there.1.within (λ s. there.0 (sym s)) in
          let near : distance (length seats) key at < distance (length seats) key f = omega arith in
          let moved = subst (λ (k : Key). distance (length seats) k at < distance (length seats) k f) same near in
          subst (λ (j : ℕ). distance (length seats) e.0 j < distance (length seats) e.0 f) (sym x.0) moved
      | inr x ↦ reached i f e x.1 (filled_free f free).1
    ]

    filled_apart : IsApart seats → IsApart (set seats at (Some (key, number)))
    filled_apart apart i j d e held held_too same = elim (held_set seats at (Some (key, number)) seat.within i d held) [
      | inl x ↦ elim (held_set seats at (Some (key, number)) seat.within j e held_too) [
        | inl y ↦ x.0 ∙ sym y.0
        | inr y ↦
            let k : key ≡ d.0 = ap (λ (c : Key × ℕ). c.0) (same_entry (key, number) d x.1) in
            x.0 ∙ sym (seat.only j e y.1 (sym same ∙ sym k))
      ]
      | inr x ↦ elim (held_set seats at (Some (key, number)) seat.within j e held_too) [
        | inl y ↦
            let k : key ≡ e.0 = ap (λ (c : Key × ℕ). c.0) (same_entry (key, number) e y.1) in
            seat.only i d x.1 (same ∙ sym k) ∙ sym y.0
        | inr y ↦ apart i j d e x.1 y.1 same
      ]
    ]

    -- to fill the seat keeps a table
    pub table_filled : IsTable seats → IsTable (set seats at (Some (key, number)))
    table_filled table = record {
      reached = subst (λ (n : ℕ). IsReached n (set seats at (Some (key, number)))) (sym (length-set seats at (Some (key, number))))
          (filled_reached table.reached);
      apart = filled_apart table.apart;
    }

  -- to clear it leaves a hole
  pub table_cleared : IsTable seats → (e : Key × ℕ) → Holds seats at e → HasFree seats → IsTableBut (set seats at None) at
  table_cleared table e held some = record {
    free = free_cleared seats at seat.within;
    reached = subst (λ (n : ℕ). IsReachedBut n (set seats at None) at) (sym (length-set seats at None)) (λ i f d held_too free differs.
        elim (held_set seats at None seat.within i d held_too) [
          | inl x ↦ absurd (not_none d x.1)
          | inr x ↦ elim (free_set seats at None seat.within f free) [ inl y ↦ absurd (differs y.0) | inr y ↦ table.reached i f d x.1 y.1 ]
        ]);
    apart = λ i j d b held_i held_j same. elim (held_set seats at None seat.within i d held_i) [
      | inl x ↦ absurd (not_none d x.1)
      | inr x ↦ elim (held_set seats at None seat.within j b held_j) [
        | inl y ↦ absurd
            (not_none b y.1)
        | inr y ↦ table.apart i j d b x.1 y.1 same
      ]
    ];
    other =
        let elsewhere : some.0 ≢ at = λ s. not_free seats at e held (subst (IsFree seats) s some.1) in
        (some.0, elsewhere, free_other seats at None seat.within some.0 elsewhere some.1);
  }

-- ---- the seat of a key, and the map
module _ (seats : Seats) (key : Key) (at : ℕ) (seat : IsSeat seats key at) where
  -- the number of a key is what its seat holds
  pub get_seated : (c : Seat) → cell_at seats at ≡ c → number_of c ≡ finite.get (numbers_in seats) key
  get_seated c read = ap number_of (sym read) ∙ sym (get_own key seats at seat.within (seat_for seats key at seat))

  pub set_seated : (number : ℕ) → numbers_in (set seats at (Some (key, number))) ≡ finite.insert (numbers_in seats) key number
  set_seated number = numbers_filled key seats at seat.within (seat_for seats key at seat) number

  pub taken_seated : (after : Numbers) → after ≡ numbers_in (set seats at None) → after ≡ finite.remove (numbers_in seats) key
  taken_seated after same = same ∙ numbers_cleared key seats at seat.within (seat_for seats key at seat)

-- ---- a cell as it was read
pub cell_read : (seats : Seats) (at : ℕ) (c : Seat) → at < length seats → c ≡ get_or seats at c → cell_at seats at ≡ c
cell_read seats at c within is = get_or_default seats at None c within ∙ sym is

module _ (seats : Seats) (key : Key) (at : ℕ) (h : IsWalked seats key at) where
  pub walked_past : (c : Seat) → cell_at seats at ≡ c → IsSomeAnd c (λ e. e.0 ≢ key) → IsWalked seats key (place_behind (length seats) at)
  walked_past None is other = absurd other
  walked_past (Some e) is other = walk_goes_on seats key at h e is other

  pub nearer_past : (c : Seat) → cell_at seats at ≡ c → IsSomeAnd c (λ e. e.0 ≢ key) → HasFree seats
      → length seats - distance (length seats) key (place_behind (length seats) at) < length seats - distance (length seats) key at
  nearer_past None is other some = absurd other
  nearer_past (Some e) is other some = walk_ends seats key at h e is other some

  pub seated : (c : Seat) → cell_at seats at ≡ c → IfSome c (λ e. e.0 ≡ key) → IsTable seats → IsSeat seats key at
  seated None is own table = walk_seat seats key at h table (λ e held. absurd (not_none e (sym is ∙ held)))
  seated (Some d) is own table = walk_seat seats key at h table (λ e held. ap (λ (x : Key × ℕ). x.0) (sym (same_entry d e (sym is
      ∙ held))) ∙ own)

pub cell_known : (seats : Seats) (at : ℕ) (d c : Seat) → at < length seats → get_or seats at d ≡ c → cell_at seats at ≡ c
cell_known seats at d c within is = get_or_default seats at None d within ∙ is

-- distances as they were counted
module _ (n : ℕ) (key : Key) (from : ℕ) (home : from ≡ home_of n key) where
  pub distance_counted : (at s : ℕ) → s ≡ steps n from at → s ≡ distance n key at
  distance_counted at s is = is ∙ ap (λ (h : ℕ). steps n h at) home
