-- Cells, and the keys that sit in them by their numbers.
use Rattle.std.proofs.Common.{◌≡◌, ◌≢◌, ℕ, ◌<◌, [], length, get_or, set, Option, Some, None, ◌⊎◌, inl, inr, refl, sym, ap, subst, ◌∙◌, arith, length-set}
use Rattle.std.specs.Prelude.{◌+◌, ◌≤◌, IfSome, IsSomeAnd, Bool, true, false, not, nat_eq}
use Rattle.std.specs.Bool.{OnTrue, OnFalse}
use Rattle.std.specs.Cmp.Lexicographic.{pointwise, same_text, other_text}
use mathlib.Core.Bool.{true≢false}
use Rattle.std.proofs.Math.ListN.{get_or-map}
use Rattle.std.proofs.lemmas.Bool.{cases_eq, cond-false, ne_eqb}
use Rattle.std.proofs.lemmas.List.{length-map, map-set, get_or-set_same, get_or-set_other, get_or_default}
use Rattle.mont_base.specs.State.{Key}
use Rattle.index_kit.specs.Index.{Entries}
use Rattle.index_kit.specs.Ring.{place_behind}
use Rattle.index_kit.specs.Home.{mark_of}
use Rattle.index_kit.specs.declared.cells.TheConstants.{HELD}
use Rattle.index_kit.specs.Cells.{Cell, Cells, HasGap, cell_at, mark_in, number_in}
use Rattle.std.specs.FinMap as finite
use Rattle.index_kit.specs.Table.{Numbers, Seat, Seats, HasFree, IsMarked, IsSeat, IsTable, IsTableBut, distance, key_at, numbers_in, seat_of, seats_of}
use Rattle.index_kit.proofs.Held.{not_none, same_entry, number_of}
use Rattle.index_kit.proofs.Close.{IsClosing, closing_moves, numbers_moved}
use Rattle.index_kit.proofs.Walk.{IsWalked, walked_past, seated, table_filled, table_cleared, get_seated, set_seated, taken_seated}

pub mark_of-held : (key : Key) → HELD ≤ mark_of key
unfolding mark_of
mark_of-held key = omega arith

same_number : (x y : ℕ) → Some x ≡ Some y → x ≡ y
same_number x y e = cc

module _ (entries : Entries) (cells : Cells) where
  pub length-seats : length (seats_of entries cells) ≡ length cells
  length-seats = length-map cells (seat_of entries)

  pub seat_read : (at : ℕ) → cell_at (seats_of entries cells) at ≡ seat_of entries (cell_at cells at)
  seat_read at = get_or-map (seat_of entries) cells at None

  pub seats-filled : (at mark number : ℕ) → seats_of entries (set cells at (Some (mark, number))) ≡ set (seats_of entries cells) at (Some
      (key_at entries number, number))
  seats-filled at mark number = map-set (seat_of entries) cells at (Some (mark, number))

  pub seats-cleared : (at : ℕ) → seats_of entries (set cells at None) ≡ set (seats_of entries cells) at None
  seats-cleared at = map-set (seat_of entries) cells at None

  -- a cell that is held after one was set
  held_after : (at : ℕ) (c : Cell) (i : ℕ) (held : ℕ × ℕ) → at < length cells → cell_at (set cells at c) i ≡ Some held
      → (c ≡ Some held) ⊎ (cell_at cells i ≡ Some held)
  held_after at c i held within h = elim (cases_eq i at) [
    | inl s ↦ inl (sym (get_or-set_same cells at c None within) ∙ subst (λ (j : ℕ). cell_at (set cells at c) j ≡ Some held) s h)
    | inr d ↦ inr (sym (get_or-set_other cells at i c None d) ∙ h)
  ]

  module _ (marked : IsMarked entries cells) where
    pub marked_filled :
        (at mark number : ℕ) → at < length cells → number < length entries → mark ≡ mark_of (key_at entries number)
        → IsMarked entries (set cells at (Some (mark, number)))
    marked_filled at mark number within there is = record {
      within = λ i held h. elim (held_after at (Some (mark, number)) i held within h) [
        | inl x ↦ subst (λ (p : ℕ × ℕ). p.1 < length entries) (same_entry _ _ x) there
        | inr x ↦ marked.within i held x
      ];
      mark = λ i held h. elim (held_after at (Some (mark, number)) i held within h) [
        | inl x ↦ subst (λ (p : ℕ × ℕ). p.0 ≡ mark_of (key_at entries p.1)) (same_entry _ _ x) is
        | inr x ↦ marked.mark i held x
      ];
    }

    pub marked_cleared : (at : ℕ) → at < length cells → IsMarked entries (set cells at None)
    marked_cleared at within = record {
      within = λ i held h. elim (held_after at None i held within h) [ inl x ↦ absurd (not_none _ x) | inr x ↦ marked.within i held x ];
      mark = λ i held h. elim (held_after at None i held within h) [ inl x ↦ absurd (not_none _ x) | inr x ↦ marked.mark i held x ];
    }

    module _ (at : ℕ) (key : Key) where
      -- what the mark of a cell tells of its key
      pub own_free : (c : Cell) → cell_at cells at ≡ c → 0 ≡ mark_in c → IfSome (seat_of entries c) (λ held. held.0 ≡ key)
      own_free None is free = tt
      own_free (Some held) is free =
          let mark = marked.mark at held is in
          let some = mark_of-held (key_at entries held.1) in absurd (omega arith)

      pub other_mark : (c : Cell) (mark : ℕ) → cell_at cells at ≡ c → mark ≡ mark_in c → mark ≢ 0 → mark ≢ mark_of key
          → IsSomeAnd (seat_of entries c) (λ held. held.0 ≢ key)
      other_mark None mark is m some other = some m
      other_mark (Some held) mark is m some other = λ same. other (m ∙ marked.mark at held is ∙ ap mark_of same)

      -- a cell with the mark of the key isn't free
      pub like_mark : (c : Cell) (mark : ℕ) → cell_at cells at ≡ c → mark ≡ mark_in c → mark ≡ mark_of key → seat_of entries c ≢ None
      like_mark None mark is m same none = let some = mark_of-held key in absurd (omega arith)
      like_mark (Some held) mark is m same none = not_none _ (sym none)

      -- a low mark is that of a free cell
      pub low_free : (c : Cell) → cell_at cells at ≡ c → mark_in c < HELD → c ≡ None
      low_free None is low = refl
      low_free (Some held) is low =
          let mark = marked.mark at held is in
          let some = mark_of-held (key_at entries held.1) in absurd (omega arith)

      -- the number of a cell tells it
      pub number_within : (c : Cell) (number : ℕ) → cell_at cells at ≡ c → Some number ≡ number_in c → number < length entries
      number_within None number is n = absurd (not_none _ (sym n))
      number_within (Some held) number is n = subst (λ (x : ℕ). x < length entries) (sym (same_number number held.1 n))
          (marked.within at held is)

      pub seat_numbered : (c : Cell) (number : ℕ) → cell_at cells at ≡ c → Some number ≡ number_in c → seat_of entries c ≡ Some
          (key_at entries number, number)
      seat_numbered None number is n = absurd (not_none _ (sym n))
      seat_numbered (Some held) number is n = ap (λ (x : ℕ). Some (key_at entries x, x)) (sym (same_number number held.1 n))

-- a seat that holds a key
pub own_told : (s : Seat) (key : Key) → s ≢ None → (another : Bool) → OnFalse another (IfSome s (λ held. held.0 ≡ key))
    → OnTrue (not another) (IsSomeAnd s (λ held. held.0 ≡ key))
own_told None key some another h = absurd (some refl)
own_told (Some held) key some true h = tt
own_told (Some held) key some false h = h

pub own_seat : (s : Seat) (key : Key) → IsSomeAnd s (λ held. held.0 ≡ key) → IfSome s (λ held. held.0 ≡ key)
own_seat None key own = tt
own_seat (Some held) key own = own

-- two keys by their comparison
another_told : (k key : Key) (same : Bool) → same ≡ pointwise nat_eq k key → (differ : Bool) → differ ≡ not same → OnTrue differ
    (k ≢ key) × OnFalse differ (k ≡ key)
another_told k key true e true n = absurd (true≢false n)
another_told k key true e false n = (tt, same_text k key e)
another_told k key false e true n = (other_text k key e, tt)
another_told k key false e false n = absurd (true≢false (sym n))

module _ (s : Seat) (k key : Key) (number : ℕ) (is : s ≡ Some (k, number)) (differ : Bool) (told : differ ≡ not
    (pointwise nat_eq k key)) where
  pub numbered_another : OnTrue differ (IsSomeAnd s (λ held. held.0 ≢ key))
  numbered_another = subst (λ (s : Seat). OnTrue differ (IsSomeAnd s (λ held. held.0 ≢ key))) (sym is)
      (another_told k key _ refl differ told).0

  pub numbered_own : OnFalse differ (IfSome s (λ held. held.0 ≡ key))
  numbered_own = subst (λ (s : Seat). OnFalse differ (IfSome s (λ held. held.0 ≡ key))) (sym is) (another_told k key _ refl differ told).1

-- a cell without a number is free
pub no_seat : (entries : Entries) (c : Cell) → number_in c ≡ None → seat_of entries c ≡ None
no_seat entries None none = refl
no_seat entries (Some held) none = absurd (not_none _ (sym none))

-- the key of an entry as it was read
pub key_read : (entries : Entries) (number : ℕ) (d : Key × ℕ) → number < length entries → key_at entries number ≡
    (get_or entries number d).0
key_read entries number d within = ap (λ (x : Key × ℕ). x.0) (get_or_default entries number ([], 0) d within)

-- to fill a seat is to number the key
module _ (entries : Entries) (cells : Cells) (marked : IsMarked entries cells) (table : IsTable (seats_of entries cells)) (at number : ℕ)
    (there : number < length entries) (seat : IsSeat (seats_of entries cells) (key_at entries number) at) where
  pub at_within : at < length cells
  at_within = omega (arith, seat.within, length-seats entries cells)

  module _ (mark : ℕ) (is : mark ≡ mark_of (key_at entries number)) where
    pub marked_set : IsMarked entries (set cells at (Some (mark, number)))
    marked_set = marked_filled entries cells marked at mark number at_within there is

    pub table_set : IsTable (seats_of entries (set cells at (Some (mark, number))))
    table_set = subst IsTable (sym (seats-filled entries cells at mark number)) (table_filled _ _ _ seat number table)

    pub numbers_set : numbers_in (seats_of entries (set cells at (Some (mark, number)))) ≡ finite.insert (numbers_in
        (seats_of entries cells)) (key_at entries number) number
    numbers_set = ap numbers_in (seats-filled entries cells at mark number) ∙ set_seated _ _ _ seat number

-- where a key isn't in its home, and there or after is a gap, it isn't there
module _ (entries : Entries) (cells : Cells) (marked : IsMarked entries cells) (table : IsTable (seats_of entries cells)) (key : Key)
    (at : ℕ)
    (walk : IsWalked (seats_of entries cells) key at)
    (other : IfSome (cell_at (seats_of entries cells) at) (λ held. held.0 ≢ key)) where
  free_seat : (i : ℕ) → mark_in (cell_at cells i) < HELD → cell_at (seats_of entries cells) i ≡ None
  free_seat i low = seat_read entries cells i ∙ ap (seat_of entries) (low_free entries cells marked i key _ refl low)

  none_from : (i : ℕ) → IsWalked (seats_of entries cells) key i → cell_at (seats_of entries cells) i ≡ None
      → None ≡ finite.get (numbers_in (seats_of entries cells)) key
  none_from i walked free = get_seated _ key i (seated _ key i walked None free tt table) None free

  next_is : at + 1 < length cells → place_behind (length (seats_of entries cells)) at ≡ at + 1
  next_is more = cond-false _ _ _ (ne_eqb _ _ (λ (e : at + 1 ≡ length (seats_of entries cells)). omega
      (arith, e, length-seats entries cells)))

  past_home : (s : Seat) → cell_at (seats_of entries cells) at ≡ s → IfSome s (λ held. held.0 ≢ key) → at + 1 < length cells
      → cell_at (seats_of entries cells) (at + 1) ≡ None → None ≡ finite.get (numbers_in (seats_of entries cells)) key
  past_home None is other more free = none_from at walk is
  past_home (Some held) is other more free =
      none_from (at + 1) (subst (IsWalked (seats_of entries cells) key) (next_is more) (walked_past _ key at walk _ is other)) free

  pub gap_absent : at + 1 < length cells → HasGap cells at → None ≡ finite.get (numbers_in (seats_of entries cells)) key
  gap_absent more gap = elim gap [
    | inl low ↦ none_from at walk (free_seat at low)
    | inr low ↦ past_home _ refl other more (free_seat (at + 1) low)
  ]

-- to clear a seat leaves a hole
module _ (entries : Entries) (cells : Cells) (marked : IsMarked entries cells) (table : IsTable (seats_of entries cells)) (key : Key)
    (at : ℕ)
    (seat : IsSeat (seats_of entries cells) key at) where
  pub get_number : (number : Option ℕ) → number ≡ number_in (cell_at cells at) → number ≡ finite.get (numbers_in
      (seats_of entries cells)) key
  get_number number is = is ∙ number_seat (cell_at cells at) ∙ get_seated _ _ _ seat _ (seat_read entries cells at)
    where
      number_seat : (c : Cell) → number_in c ≡ number_of (seat_of entries c)
      number_seat None = refl
      number_seat (Some held) = refl

  module _ (number : ℕ) (is : Some number ≡ number_in (cell_at cells at)) (room : HasFree (seats_of entries cells)) where
    pub hole_left : IsTableBut (seats_of entries (set cells at None)) at
    hole_left =
        subst (λ (s : Seats). IsTableBut s at) (sym (seats-cleared entries cells at))
        (table_cleared _ _ _ seat table (key_at entries number, number)
        (seat_read entries cells at ∙ seat_numbered entries cells marked at key _ number refl is) room)

  pub numbers_taken : (after : Numbers) → after ≡ numbers_in (seats_of entries (set cells at None)) → after ≡ finite.remove (numbers_in
      (seats_of entries cells)) key
  numbers_taken after same = taken_seated _ _ _ seat after (same ∙ ap numbers_in (seats-cleared entries cells at))

-- a number that moves over a hole
module _ (entries : Entries) (cells : Cells) (marked : IsMarked entries cells) (size start hole at : ℕ)
    (walk : IsClosing size (seats_of entries cells) start hole at) (number : ℕ) (is : Some number ≡ number_in (cell_at cells at)) where
  pub walk_within : at < length cells
  walk_within = omega (arith, walk.within, walk.sized, length-seats entries cells)

  pub hole_within : hole < length (set cells at None)
  hole_within = omega (arith, walk.free.within, length-seats entries cells, length-set cells at None)

  pub held_here : cell_at (seats_of entries cells) at ≡ Some (key_at entries number, number)
  held_here = seat_read entries cells at ∙ seat_numbered entries cells marked at [] _ number refl is

  pub there : number < length entries
  there = number_within entries cells marked at [] _ number refl is

  seats-moved : (mark : ℕ) → seats_of entries (set (set cells at None) hole (Some (mark, number))) ≡ set (set
      (seats_of entries cells) at None) hole (Some (key_at entries number, number))
  seats-moved mark =
      seats-filled entries (set cells at None) hole mark number
      ∙ ap (λ (s : Seats). set s hole (Some (key_at entries number, number))) (seats-cleared entries cells at)

  module _ (mark : ℕ) (same : mark ≡ mark_of (key_at entries number)) where
    pub marked_moved : IsMarked entries (set (set cells at None) hole (Some (mark, number)))
    marked_moved =
        marked_filled entries (set cells at None) (marked_cleared entries cells marked at walk_within) hole mark number hole_within there
        same

    pub walk_moved : distance size (key_at entries number) hole < distance size (key_at entries number) at
        → IsClosing size (seats_of entries (set (set cells at None) hole (Some (mark, number)))) start at (place_behind size at)
    walk_moved near =
        subst (λ (s : Seats). IsClosing size s start at (place_behind size at)) (sym (seats-moved mark))
        (closing_moves size (seats_of entries cells) start hole at walk (key_at entries number, number) held_here near)

    pub numbers_moved_over : numbers_in (seats_of entries (set (set cells at None) hole (Some (mark, number)))) ≡ numbers_in
        (seats_of entries cells)
    numbers_moved_over =
        ap numbers_in (seats-moved mark)
        ∙ numbers_moved size (seats_of entries cells) start hole at walk (key_at entries number, number) held_here

    pub length_moved : length (set (set cells at None) hole (Some (mark, number))) ≡ length cells
    length_moved = length-set (set cells at None) hole (Some (mark, number)) ∙ length-set cells at None
