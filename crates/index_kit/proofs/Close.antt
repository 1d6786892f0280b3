-- Closing a hole: entries after it move back over it, until a free cell comes.
use Rattle.std.proofs.Common.{◌≡◌, ◌≢◌, ℕ, ◌+◌, ◌-◌, ◌<◌, ◌≤◌, length, set, Some, None, ◌⊎◌, inl, inr, refl, sym, ap, subst, ◌∙◌, arith, length-set}
use Rattle.std.specs.FinMap as finite
use Rattle.std.proofs.lemmas.Bool.{cases_eq, cases_lt}
use Rattle.mont_base.specs.State.{Key}
use Rattle.index_kit.specs.Ring.{place_behind, steps}
use Rattle.index_kit.specs.Home.{home_of}
use Rattle.index_kit.specs.Cells.{cell_at}
use Rattle.index_kit.specs.Table.{Numbers, Seats, Holds, IsFree, IsReached, IsReachedBut, IsApart, IsTable, IsTableBut, distance, numbers_in}
use Rattle.index_kit.proofs.Round.{steps-lt, steps-self, steps-same, steps-behind, steps-between, place_behind-lt}
use Rattle.index_kit.proofs.Held.{holds-within, not_free, not_none, same_entry, held_set, free_set, free_other, free_cleared, IsFor, get_own, number_of, numbers_filled, numbers_cleared, put_back}
use Rattle.index_kit.proofs.Walk.{home_of-lt, distance-other, other_than_free}

-- The walk after a hole came to this cell. No entry that it passed since needs the hole, and the only free cell that it
-- passed is the hole.
pub record IsClosing (size : ℕ) (seats : Seats) (start hole at : ℕ) : Type 0 where
  pub sized : length seats ≡ size
  pub begun : start < size
  pub within : at < size
  pub free : IsFree seats hole
  pub reached : IsReachedBut size seats hole
  pub apart : IsApart seats
  pub other : (f : ℕ) × (f ≢ hole) × IsFree seats f
  pub behind : steps size start hole < steps size start at
  pub passed : (i : ℕ) (e : Key × ℕ) → Holds seats i e → steps size start hole < steps size start i
      → steps size start i < steps size start at → distance size e.0 i < distance size e.0 hole
  pub ahead : (f : ℕ) → IsFree seats f → f ≢ hole → steps size start at ≤ steps size start f

-- one step is less than any other number is away
next_step : (n start f : ℕ) → start < n → f < n → f ≢ start → steps n start (place_behind n start) ≡ 1
next_step n start f hs hf other =
    let none = steps-self n start in
    let some : steps n start start ≢ steps n start f = λ s. other (sym (steps-same n start start f hs hs hf s)) in
    let short = steps-lt n start f hs hf in
    let next = steps-behind n start start hs hs (omega arith) in
    omega arith

pub closing_begins : (seats : Seats) (start : ℕ) → IsTableBut seats start → IsClosing (length seats) seats start start (place_behind
    (length seats) start)
closing_begins seats start hole =
    let begun = hole.free.within in
    let none = steps-self (length seats) start in
    let next = next_step (length seats) start hole.other.0 begun hole.other.2.within hole.other.1 in
    record {
      sized = refl;
      begun = begun;
      within = place_behind-lt (length seats) start begun;
      free = hole.free;
      reached = hole.reached;
      apart = hole.apart;
      other = hole.other;
      behind = omega arith;
      passed = λ i e held more less. absurd (omega arith);
      ahead = λ f free other.
          let some : steps (length seats) start start ≢ steps (length seats) start f =
          λ s. other (sym (steps-same (length seats) start start f begun begun free.within s)) in
          omega arith;
    }

module _ (n : ℕ) (seats : Seats) (start hole at : ℕ) (h : IsClosing n seats start hole at) where
  homed : (k : Key) → home_of n k < n
  homed k = home_of-lt n k (omega (arith, h.within))

  free_within : (f : ℕ) → IsFree seats f → f < n
  free_within f free = omega (arith, free.within, h.sized)

  held_within : (i : ℕ) (e : Key × ℕ) → Holds seats i e → i < n
  held_within i e held = omega (arith, holds-within seats i e held, h.sized)

  apart_from_hole : at ≢ hole
  apart_from_hole s = let far = ap (steps n start) s in let less = h.behind in omega arith

  -- at a free cell all are reached
  pub closing_ends : cell_at seats at ≡ None → IsTable seats
  closing_ends empty = record { reached = subst (λ (m : ℕ). IsReached m seats) (sym h.sized) reached; apart = h.apart }
    where
      here : IsFree seats at
      here = record { within = omega (arith, h.within, h.sized); empty = empty }

      before_hole : (i : ℕ) (e : Key × ℕ) → Holds seats i e → distance n e.0 i < distance n e.0 hole
      before_hole i e held =
          let own = held_within i e held in
          let gone = free_within hole h.free in
          let far = distance-other n e.0 i hole own gone (other_than_free seats i hole e held h.free) in
          let end = h.reached i at e held here apart_from_hole in
          elim (cases_lt (distance n e.0 i) (distance n e.0 hole)) [
            | inl less ↦ less
            | inr more ↦
                let two = steps-between n (home_of n e.0) start hole i at (homed e.0) h.begun gone own h.within
                (omega arith) end h.behind in
                h.passed i e held two.0 two.1
          ]

      reached : (i f : ℕ) (e : Key × ℕ) → Holds seats i e → IsFree seats f → distance n e.0 i < distance n e.0 f
      reached i f e held free = elim (cases_eq f hole) [
        | inl s ↦ subst (λ (g : ℕ). distance n e.0 i < distance n e.0 g) (sym s) (before_hole i e held)
        | inr other ↦ h.reached i f e held free other
      ]

  module _ (e : Key × ℕ) (held : Holds seats at e) where
    past : (f : ℕ) → IsFree seats f → f ≢ hole → steps n start at < steps n start f
    past f free other =
        let less = h.ahead f free other in
        let apart : steps n start at ≢ steps n start f =
        λ s. other_than_free seats at f e held free (steps-same n start at f h.begun h.within (free_within f free) s) in
        omega arith

    one_more : steps n start (place_behind n at) ≡ steps n start at + 1
    one_more =
        let other = h.other in
        let less = past other.0 other.2 other.1 in
        let short = steps-lt n start other.0 h.begun (free_within other.0 other.2) in
        steps-behind n start at h.begun h.within (omega arith)

    -- the walk comes nearer to its end
    pub closing_nearer : n - steps n start (place_behind n at) < n - steps n start at
    closing_nearer = let more = one_more in let short = steps-lt n start at h.begun h.within in omega arith

    -- an entry that doesn't need the hole stays
    pub closing_stays : distance n e.0 at ≤ distance n e.0 hole → IsClosing n seats start hole (place_behind n at)
    closing_stays near =
        let more = one_more in
        let less = h.behind in
        let far = distance-other n e.0 at hole h.within (free_within hole h.free) apart_from_hole in
        record {
          sized = h.sized;
          begun = h.begun;
          within = place_behind-lt n at h.within;
          free = h.free;
          reached = h.reached;
          apart = h.apart;
          other = h.other;
          behind = omega arith;
          passed = λ i d held_too after before. elim (cases_eq i at) [
            | inl s ↦
                let same : e ≡ d = same_entry e d (sym held ∙ sym (ap (cell_at seats) s) ∙ held_too) in
                let near_hole : distance n e.0 at < distance n e.0 hole = omega arith in
                let moved = subst (λ (x : Key × ℕ). distance n x.0 at < distance n x.0 hole) same near_hole in
                subst (λ (j : ℕ). distance n d.0 j < distance n d.0 hole) (sym s) moved
            | inr other ↦
                let apart : steps n start i ≢ steps n start at =
                λ s. other (steps-same n start i at h.begun (held_within i d held_too) h.within s) in
                h.passed i d held_too after (omega arith)
          ];
          ahead = λ f free other. let less = past f free other in omega arith;
        }

    -- ---- one that needs it moves
    at_within : at < length seats
    at_within = omega (arith, h.within, h.sized)

    hole_within : hole < length (set seats at None)
    hole_within = omega (arith, h.free.within, length-set seats at None)

    held_moved : (i : ℕ) (d : Key × ℕ) → Holds (set (set seats at None) hole (Some e)) i d → ((i ≡ hole) × (e ≡ d)) ⊎ ((i ≢ at)
        × Holds seats i d)
    held_moved i d now = elim (held_set (set seats at None) hole (Some e) hole_within i d now) [
      | inl x ↦ inl (x.0, same_entry e d x.1)
      | inr x ↦ elim (held_set seats at None at_within i d x.1) [ inl y ↦ absurd (not_none d y.1) | inr y ↦ inr y ]
    ]

    free_moved : (f : ℕ) → IsFree (set (set seats at None) hole (Some e)) f → f ≢ at → (f ≢ hole) × IsFree seats f
    free_moved f now differs = elim (free_set (set seats at None) hole (Some e) hole_within f now) [
      | inl x ↦ absurd (not_none e (sym x.1))
      | inr x ↦ elim (free_set seats at None at_within f x.1) [ inl y ↦ absurd (differs y.0) | inr y ↦ (x.0, y.1) ]
    ]

    -- a cell that was free before, and isn't the hole, still is
    free_still : (f : ℕ) → f ≢ hole → IsFree seats f → IsFree (set (set seats at None) hole (Some e)) f
    free_still f other free =
        free_other (set seats at None) hole (Some e) hole_within f other
        (free_other seats at None at_within f (λ s. other_than_free seats at f e held free (sym s)) free)

    free_here : IsFree (set (set seats at None) hole (Some e)) at
    free_here = free_other (set seats at None) hole (Some e) hole_within at apart_from_hole (free_cleared seats at at_within)

    moved_reached : distance n e.0 hole < distance n e.0 at → IsReachedBut n (set (set seats at None) hole (Some e)) at
    moved_reached near i f d now free differs =
        let was = free_moved f free differs in
        elim (held_moved i d now) [
          | inl x ↦
              let end = h.reached at f e held was.1 was.0 in
              let near_free : distance n e.0 hole < distance n e.0 f = omega arith in
              subst (λ (j : ℕ). distance n d.0 j < distance n d.0 f) (sym x.0)
              (subst (λ (y : Key × ℕ). distance n y.0 hole < distance n y.0 f) x.1 near_free)
          | inr x ↦ h.reached i f d x.1 was.1 was.0
        ]

    moved_apart : IsApart (set (set seats at None) hole (Some e))
    moved_apart i j c d now now_too same = elim (held_moved i c now) [
      | inl x ↦ elim (held_moved j d now_too) [
        | inl y ↦ x.0 ∙ sym y.0
        | inr y ↦ absurd (y.0 (h.apart j at d e y.1 held (sym same ∙ sym (ap (λ (z : Key × ℕ). z.0) x.1))))
      ]
      | inr x ↦ elim (held_moved j d now_too) [
        | inl y ↦ absurd (x.0 (h.apart i at c e x.1 held (same ∙ sym (ap (λ (z : Key × ℕ). z.0) y.1))))
        | inr y ↦ h.apart i j c d x.1 y.1 same
      ]
    ]

    pub closing_moves : distance n e.0 hole < distance n e.0 at → IsClosing n (set (set seats at None) hole (Some e)) start at
        (place_behind n at)
    closing_moves near =
        let more = one_more in
        record {
          sized = length-set (set seats at None) hole (Some e) ∙ length-set seats at None ∙ h.sized;
          begun = h.begun;
          within = place_behind-lt n at h.within;
          free = free_here;
          reached = moved_reached near;
          apart = moved_apart;
          other = (h.other.0, (λ s. other_than_free seats at h.other.0 e held h.other.2 (sym s)), free_still h.other.0 h.other.1 h.other.2);
          behind = omega arith;
          passed = λ i d now after before. absurd (omega arith);
          ahead = λ f free other. let was = free_moved f free other in let less = past f was.1 was.0 in omega arith;
        }

    -- and the map stays as it is
    own_cell : IsFor e.0 seats at
    own_cell = record {
      only = λ i d now same. h.apart i at d e now held same;
      own = λ d now. ap (λ (z : Key × ℕ). z.0) (same_entry d e (sym now ∙ held));
    }

    new_cell : IsFor e.0 (set seats at None) hole
    new_cell = record {
      only = λ i d now same. elim (held_set seats at None at_within i d now) [
        | inl x ↦ absurd (not_none d x.1)
        | inr x ↦ absurd (x.0 (h.apart i at d e x.1 held same))
      ];
      own = λ d now. elim (held_set seats at None at_within hole d now) [
        | inl x ↦ absurd (not_none d x.1)
        | inr x ↦ absurd (not_free seats hole d x.1 h.free)
      ];
    }

    pub numbers_moved : numbers_in (set (set seats at None) hole (Some e)) ≡ numbers_in seats
    numbers_moved =
        numbers_filled e.0 (set seats at None) hole hole_within new_cell e.1
        ∙ ap (λ (m : Numbers). finite.insert m e.0 e.1) (numbers_cleared e.0 seats at at_within own_cell)
        ∙ put_back (numbers_in seats) e.0 e.1 (get_own e.0 seats at at_within own_cell ∙ ap number_of held)
