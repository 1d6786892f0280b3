-- A probe index: what its entries and its cells are after each change.
use Rattle.std.proofs.Common.{◌≡◌, ◌≢◌, ℕ, suc, ◌+◌, ◌-◌, ◌<◌, ◌≤◌, min, Bool, true, false, cond, [], ◌∷◌, ◌++◌, length, get_or, set, take, Option, Some, None, inl, inr, refl, sym, ap, subst, ◌∙◌, arith, length-set, length-append}
use Rattle.std.specs.Prelude.{is_some, ◌==◌}
use Rattle.std.specs.Option.{option_map}
use Rattle.std.specs.FinMap as finite
use Rattle.std.specs.Cmp.Lexicographic.{nat_list_cmp_total}
use Rattle.std.proofs.lemmas.Bool.{cases_lt, eqb-true, eqb-false}
use Rattle.std.proofs.lemmas.List.{get_or-set_same, get_or-set_other, get_or_default, get_or-take, length-take-le}
use Rattle.mont_base.specs.State.{Key, key_cmp}
use Rattle.index_kit.specs.Index.{Places, Entries, IndexView, CanPut}
use Rattle.index_kit.specs.Home.{mark_of}
use Rattle.index_kit.specs.Cells.{Cells, cell_at}
use Rattle.index_kit.specs.Table.{Seats, HasFree, Holds, IsApart, IsKeyed, IsMarked, IsNumbering, IsSeat, IsTable, key_at, numbers_in, seat_of, seats_of}
use Rattle.index_kit.specs.ProbeIndex.{limit_of, IsIndexed}
use Rattle.index_kit.proofs.SortedEntries.{remove_absent}
use Rattle.index_kit.proofs.Held.{holds-within, not_none, same_entry, free_among, counted, number_of, get_own, IsFor}
use Rattle.index_kit.proofs.Seated.{length-seats, seat_read, marked_set, table_set, numbers_set}
use Rattle.index_kit.proofs.Numbering.{place_at, find_none, same_numbers, one_number, get_numbered, get_put, get_taken, numbering_pushed, places_pushed, key_pushed, last_pushed, numbering_replaced, places_replaced, key_replaced, IsWithout, numbering_without_last, places_without_last, numbering_without, places_without, end_there}

-- ---- entries that a table sees alike
Agrees : Entries → Entries → Cells → Type 0
Agrees entries fs cells = (at : ℕ) (held : ℕ × ℕ) → cell_at cells at ≡ Some held → (held.1 < length fs) ×
    (key_at fs held.1 ≡ key_at entries held.1)

seats_agree : (entries fs : Entries) (cells : Cells) → Agrees entries fs cells → seats_of fs cells ≡ seats_of entries cells
unfolding Agrees
seats_agree entries fs [] h = refl
seats_agree entries fs (None ∷ cells) h = ap (λ (s : Seats). None ∷ s) (seats_agree entries fs cells (λ at held is. h (suc at) held is))
seats_agree entries fs (Some held ∷ cells) h =
    (λ i. Some ((h 0 held refl).1 i, held.1) ∷ seats_agree entries fs cells (λ at held is. h (suc at) held is) i)

marked_agree : (entries fs : Entries) (cells : Cells) → Agrees entries fs cells → IsMarked entries cells → IsMarked fs cells
unfolding Agrees
marked_agree entries fs cells h marked = record {
  within = λ at held is. (h at held is).0;
  mark = λ at held is. marked.mark at held is ∙ ap mark_of (sym (h at held is).1);
}

-- ---- what a table numbers
-- what a cell holds is found
held_found : (seats : Seats) → IsApart seats → (at : ℕ) (held : Key × ℕ) → Holds seats at held → finite.get
    (numbers_in seats) held.0 ≡ Some held.1
held_found seats apart at held is =
    let own : IsFor held.0 seats at = record {
      only = λ i d now same. apart i at d held now is same;
      own = λ d now. ap (λ (x : Key × ℕ). x.0) (same_entry d held (sym now ∙ is));
    } in
    get_own held.0 seats at (holds-within seats at held is) own ∙ ap number_of is

-- so no cell has a number that isn't found at its key
not_numbered :
    (entries : Entries) (cells : Cells) → IsTable (seats_of entries cells) → (n : ℕ)
    → (finite.get (numbers_in (seats_of entries cells)) (key_at entries n) ≢ Some n)
    → (at : ℕ) (held : ℕ × ℕ) → cell_at cells at ≡ Some held → held.1 ≢ n
not_numbered entries cells table n absent at held is same =
    absent (ap (λ (j : ℕ). finite.get (numbers_in (seats_of entries cells)) (key_at entries j)) (sym same)
    ∙ held_found (seats_of entries cells) table.apart at (key_at entries held.1, held.1) (seat_read entries cells at ∙ ap
    (seat_of entries) is)
    ∙ ap Some same)

-- a table with fewer keys than cells has a free one
pub room_of : (entries : Entries) (cells : Cells) → IsTable (seats_of entries cells) → finite.len (numbers_in
    (seats_of entries cells)) < length cells → HasFree (seats_of entries cells)
room_of entries cells table less =
    free_among (seats_of entries cells) (omega (arith, counted (seats_of entries cells) table.apart, length-seats entries cells))

module _ (entries : Entries) (cells : Cells) (h : IsIndexed entries cells) where
  pub has_free : 0 < length cells → HasFree (seats_of entries cells)
  has_free some = room_of entries cells h.table (omega (arith, h.counted, h.loaded))

  pub free_where_some : 0 < length entries → HasFree (seats_of entries cells)
  free_where_some some = has_free (omega (arith, h.loaded))

  -- the place of a key
  pub get_indexed : (key : Key) (n : Option ℕ) → n ≡ finite.get (numbers_in (seats_of entries cells)) key → option_map
      (place_at entries) n ≡ finite.get (finite.from_entries {R = key_cmp} entries) key
  get_indexed key n is = sym (get_numbered entries _ h.numbering key n (sym is))

  pub number_within : (key : Key) (n : ℕ) → Some n ≡ finite.get (numbers_in (seats_of entries cells)) key → n < length entries
  number_within key n there = (h.numbering.only key n (sym there)).0

  pub is_keyed : IsKeyed entries
  is_keyed = one_number entries _ h.numbering

  -- a key that is there gets another place
  module _ (key : Key) (place n : ℕ) (there : Some n ≡ finite.get (numbers_in (seats_of entries cells)) key) where
    replaced_agrees : Agrees entries (set entries n (key, place)) cells
    unfolding Agrees
    replaced_agrees at held is = (
      omega (arith, h.marked.within at held is, length-set entries n (key, place)),
      key_replaced entries _ h.numbering key place n
          (sym there) held.1,
    )

    pub indexed_replaced : IsIndexed (set entries n (key, place)) cells
    indexed_replaced =
        let same = seats_agree entries (set entries n (key, place)) cells replaced_agrees in
        record {
          marked = marked_agree entries (set entries n (key, place)) cells replaced_agrees h.marked;
          table = subst IsTable (sym same) h.table;
          numbering = subst (λ (s : Seats). IsNumbering (set entries n (key, place)) (numbers_in s)) (sym same)
              (numbering_replaced entries _ h.numbering key place n (sym there));
          counted = ap (λ (s : Seats). finite.len (numbers_in s)) same ∙ h.counted ∙ sym (length-set entries n (key, place));
          loaded = omega (arith, h.loaded, length-set entries n (key, place));
        }

    -- the entry that stood there has the key
    pub replaced_key : (e : Key × ℕ) → e ≡ get_or entries n e → e.0 ≡ key
    replaced_key e read =
        let own = h.numbering.only key n (sym there) in
        ap (λ (x : Key × ℕ). x.0) (read ∙ get_or_default entries n e ([], 0) own.0) ∙ own.1

    pub places_indexed_replaced : finite.from_entries {R = key_cmp} (set entries n (key, place)) ≡ finite.insert
        (finite.from_entries entries) key place
    places_indexed_replaced = places_replaced entries _ h.numbering key place n (sym there)

  -- a new key
  module _ (key : Key) (place at : ℕ) (new : None ≡ finite.get (numbers_in (seats_of entries cells)) key) (seat : IsSeat
      (seats_of entries cells) key at) where
    pushed_agrees : Agrees entries (entries ++ (key, place) ∷ []) cells
    unfolding Agrees
    pushed_agrees at held is = (
      omega (arith, h.marked.within at held is, length-append entries ((key, place) ∷ [])),
      key_pushed entries _ h.numbering key place
          (sym new) held.1 (h.marked.within at held is),
    )

    pushed_same : seats_of (entries ++ (key, place) ∷ []) cells ≡ seats_of entries cells
    pushed_same = seats_agree entries (entries ++ (key, place) ∷ []) cells pushed_agrees

    pushed_key : key_at (entries ++ (key, place) ∷ []) (length entries) ≡ key
    pushed_key = last_pushed entries _ h.numbering key place (sym new)

    pushed_marked : IsMarked (entries ++ (key, place) ∷ []) cells
    pushed_marked = marked_agree entries (entries ++ (key, place) ∷ []) cells pushed_agrees h.marked

    pushed_table : IsTable (seats_of (entries ++ (key, place) ∷ []) cells)
    pushed_table = subst IsTable (sym pushed_same) h.table

    pushed_within : length entries < length (entries ++ (key, place) ∷ [])
    pushed_within = omega (arith, length-append entries ((key, place) ∷ []))

    pushed_seat : IsSeat (seats_of (entries ++ (key, place) ∷ []) cells) (key_at (entries ++ (key, place) ∷ []) (length entries)) at
    pushed_seat =
        subst (λ (k : Key). IsSeat (seats_of (entries ++ (key, place) ∷ []) cells) k at) (sym pushed_key)
        (subst (λ (s : Seats). IsSeat s key at) (sym pushed_same) seat)

    module _ (mark : ℕ) (is : mark ≡ mark_of key) (less : length entries < limit_of (length cells)) where
      pushed_mark : mark ≡ mark_of (key_at (entries ++ (key, place) ∷ []) (length entries))
      pushed_mark = is ∙ ap mark_of (sym pushed_key)

      pushed_numbers : numbers_in (seats_of (entries ++ (key, place) ∷ []) (set cells at (Some (mark, length entries)))) ≡ finite.insert
          (numbers_in (seats_of entries cells)) key (length entries)
      pushed_numbers =
          numbers_set _ cells pushed_marked pushed_table at (length entries) pushed_within pushed_seat mark pushed_mark
          ∙ (λ i. finite.insert (numbers_in (pushed_same i)) (pushed_key i) (length entries))

      pub indexed_pushed : IsIndexed (entries ++ (key, place) ∷ []) (set cells at (Some (mark, length entries)))
      indexed_pushed = record {
        marked = marked_set _ cells pushed_marked pushed_table at (length entries) pushed_within pushed_seat mark pushed_mark;
        table = table_set _ cells pushed_marked pushed_table at (length entries) pushed_within pushed_seat mark pushed_mark;
        numbering = subst (IsNumbering (entries ++ (key, place) ∷ [])) (sym pushed_numbers)
            (numbering_pushed entries _ h.numbering key place (sym new));
        counted =
            let gone : finite.contains_key (numbers_in (seats_of entries cells)) key ≡ false = ap is_some (sym new) in
            ap finite.len pushed_numbers ∙ finite.len-insert nat_list_cmp_total (numbers_in (seats_of entries cells)) key (length entries)
            ∙ ap (λ (b : Bool). cond b (finite.len (numbers_in (seats_of entries cells))) (finite.len (numbers_in
            (seats_of entries cells)) + 1)) gone
            ∙ ap (λ (n : ℕ). n + 1) h.counted ∙ sym (length-append entries ((key, place) ∷ []));
        loaded =
            subst (λ (n : ℕ). length (entries ++ (key, place) ∷ []) ≤ limit_of n) (sym (length-set cells at (Some (mark, length entries))))
            (omega (arith, less, length-append entries ((key, place) ∷ [])));
      }

    pub places_indexed_pushed : finite.from_entries {R = key_cmp} (entries ++ (key, place) ∷ []) ≡ finite.insert
        (finite.from_entries entries) key place
    places_indexed_pushed = places_pushed entries _ h.numbering key place (sym new)

-- how many keys there are
pub len-entries : (entries : Entries) → IsKeyed entries → finite.len (finite.from_entries {R = key_cmp} entries) ≡ length entries
len-entries [] keyed = finite.len-empty key_cmp ℕ
len-entries (e ∷ entries) keyed =
    let rest = len-entries entries (λ i j hi hj s. let one = keyed (suc i) (suc j) (omega arith) (omega arith) s in omega arith) in
    let new : finite.contains_key (finite.from_entries {R = key_cmp} entries) e.0 ≡ false =
    ap is_some (finite.get-from_entries nat_list_cmp_total entries e.0
    ∙ find_none entries e.0 (λ i within s. let one = keyed 0 (suc i) (omega arith) (omega arith) (sym s) in omega arith)) in
    let more = finite.len-insert nat_list_cmp_total (finite.from_entries {R = key_cmp} entries) e.0 e.1
    ∙ ap (λ (b : Bool). cond b (finite.len (finite.from_entries {R = key_cmp} entries)) (finite.len
    (finite.from_entries {R = key_cmp} entries) + 1)) new in
    omega (arith, more, rest)

-- ---- a key that wasn't there was taken out of the table
pub indexed_still :
    (entries : Entries) (cells : Cells) → IsIndexed entries cells → (key : Key) → None ≡ finite.get (numbers_in
    (seats_of entries cells)) key
    → (after : Cells) → IsMarked entries after → IsTable (seats_of entries after)
    → numbers_in (seats_of entries after) ≡ finite.remove (numbers_in (seats_of entries cells)) key → length after ≡ length cells
    → IsIndexed entries after
indexed_still entries cells h key none after marked table taken size =
    let same = taken ∙ remove_absent (numbers_in (seats_of entries cells)) key (sym none) in
    record {
      marked = marked;
      table = table;
      numbering = subst (IsNumbering entries) (sym same) h.numbering;
      counted = ap finite.len same ∙ h.counted;
      loaded = subst (λ (n : ℕ). length entries ≤ limit_of n) (sym size) h.loaded;
    }

-- ---- a key that was taken out of the table, and its entry
module _ (entries : Entries) (cells : Cells) (h : IsIndexed entries cells) (key : Key) (n : ℕ)
    (there : Some n ≡ finite.get (numbers_in (seats_of entries cells)) key) (after : Cells) (marked : IsMarked entries after)
    (table : IsTable (seats_of entries after)) (taken : numbers_in (seats_of entries after) ≡ finite.remove (numbers_in
    (seats_of entries cells)) key)
    (size : length after ≡ length cells) where
  n_entry : n < length entries
  n_entry = (h.numbering.only key n (sym there)).0

  n_key : key_at entries n ≡ key
  n_key = (h.numbering.only key n (sym there)).1

  -- no cell has its number
  unnumbered : (at : ℕ) (held : ℕ × ℕ) → cell_at after at ≡ Some held → held.1 ≢ n
  unnumbered = not_numbered entries after table n (λ found.
      not_none n (sym (get_taken (numbers_in (seats_of entries cells)) key)
      ∙ (λ i. finite.get (sym taken i) (sym n_key i)) ∙ found))

  one_less : finite.len (finite.remove (numbers_in (seats_of entries cells)) key) + 1 ≡ length entries
  one_less =
      let contains : finite.contains_key (numbers_in (seats_of entries cells)) key ≡ true = ap is_some (sym there) in
      let less = finite.len-remove nat_list_cmp_total (numbers_in (seats_of entries cells)) key
      ∙ ap (λ (b : Bool). cond b (finite.len (numbers_in (seats_of entries cells)) - 1) (finite.len (numbers_in
      (seats_of entries cells)))) contains in
      omega (arith, less, h.counted, n_entry)

  -- ---- where it is the last one
  module _ (last : n + 1 ≡ length entries) where
    shorter : length (take n entries) ≡ n
    shorter = length-take-le n entries (omega arith)

    without_last : IsWithout entries (take n entries) n
    without_last = record {
      size = omega (arith, shorter);
      moved = λ less. absurd (omega arith);
      kept = λ i d less. get_or-take n entries i ([], 0) (omega arith);
    }

    last_agrees : Agrees entries (take n entries) after
    unfolding Agrees
    last_agrees at held is =
        let other = unnumbered at held is in
        let within = marked.within at held is in
        let less : held.1 < n = omega arith in
        (omega (arith, shorter), ap (λ (x : Key × ℕ). x.0) (get_or-take n entries held.1 ([], 0) less))

    pub indexed_last : IsIndexed (take n entries) after
    indexed_last =
        let same = seats_agree entries (take n entries) after last_agrees in
        let numbers = ap numbers_in same ∙ taken in
        record {
          marked = marked_agree entries (take n entries) after last_agrees marked;
          table = subst IsTable (sym same) table;
          numbering = subst (IsNumbering (take n entries)) (sym numbers) (numbering_without_last entries _ h.numbering key n (sym there)
              (take n entries) without_last last);
          counted = ap finite.len numbers ∙ omega (arith, one_less, shorter);
          loaded = subst (λ (m : ℕ). length (take n entries) ≤ limit_of m) (sym size) (omega (arith, shorter, h.loaded));
        }

    pub places_last : finite.from_entries {R = key_cmp} (take n entries) ≡ finite.remove (finite.from_entries entries) key
    places_last = places_without_last entries _ h.numbering key n (sym there) (take n entries) without_last last

  -- ---- and where it isn't: the last one is copied to its place first
  module _ (end : ℕ) (end_is : end + 1 ≡ length entries) (before : n ≢ end) (e : Key × ℕ) (copied : e ≡ get_or entries end e) where
    read_end : e ≡ get_or entries end ([], 0)
    read_end = copied ∙ get_or_default entries end e ([], 0) (omega arith)

    copy_agrees : Agrees entries (set entries n e) after
    unfolding Agrees
    copy_agrees at held is = (
      omega (arith, marked.within at held is, length-set entries n e),
      ap (λ (x : Key × ℕ). x.0) (get_or-set_other entries n held.1 e
          ([], 0) (unnumbered at held is)),
    )

    copy_same : seats_of (set entries n e) after ≡ seats_of entries after
    copy_same = seats_agree entries (set entries n e) after copy_agrees

    pub copy_marked : IsMarked (set entries n e) after
    copy_marked = marked_agree entries (set entries n e) after copy_agrees marked

    pub copy_table : IsTable (seats_of (set entries n e) after)
    copy_table = subst IsTable (sym copy_same) table

    pub copy_within : n < length (set entries n e)
    copy_within = omega (arith, n_entry, length-set entries n e)

    pub copy_room : HasFree (seats_of (set entries n e) after)
    copy_room =
        let few = ap (λ (s : Seats). finite.len (numbers_in s)) copy_same ∙ ap finite.len taken in
        room_of (set entries n e) after copy_table (omega (arith, few, one_less, h.loaded, size, n_entry))

    copy_key : key_at (set entries n e) n ≡ key_at entries end
    copy_key = ap (λ (x : Key × ℕ). x.0) (get_or-set_same entries n e ([], 0) n_entry ∙ read_end)

    kept_end : key_at (set entries n e) end ≡ key_at entries end
    kept_end = ap (λ (x : Key × ℕ). x.0) (get_or-set_other entries n end e ([], 0) (λ s. before (sym s)))

    -- then its cell gets the new number, and the last entry goes
    module _ (final : Cells) (final_marked : IsMarked (set entries n e) final) (final_table : IsTable (seats_of (set entries n e) final))
        (numbered : numbers_in (seats_of (set entries n e) final) ≡ finite.insert (numbers_in (seats_of (set entries n e) after)) (key_at
        (set entries n e) n) n)
        (final_size : length final ≡ length after) where
      final_numbers : numbers_in (seats_of (set entries n e) final) ≡ finite.insert (finite.remove (numbers_in
          (seats_of entries cells)) key) (key_at entries end) n
      final_numbers = numbered ∙ (λ i. finite.insert ((ap numbers_in copy_same ∙ taken) i) (copy_key i) n)

      end_unnumbered : (at : ℕ) (held : ℕ × ℕ) → cell_at final at ≡ Some held → held.1 ≢ end
      end_unnumbered = not_numbered (set entries n e) final final_table end (λ found.
          before (same_numbers n end (sym (get_put (finite.remove (numbers_in (seats_of entries cells)) key) (key_at entries end) n)
          ∙ (λ i. finite.get (sym final_numbers i) (sym kept_end i)) ∙ found)))

      shorter_copy : length (take end (set entries n e)) ≡ end
      shorter_copy = length-take-le end (set entries n e) (omega (arith, length-set entries n e))

      final_agrees : Agrees (set entries n e) (take end (set entries n e)) final
      unfolding Agrees
      final_agrees at held is =
          let other = end_unnumbered at held is in
          let within = final_marked.within at held is in
          let less : held.1 < end = omega (arith, length-set entries n e) in
          (omega (arith, shorter_copy), ap (λ (x : Key × ℕ). x.0) (get_or-take end (set entries n e) held.1 ([], 0) less))

      without : IsWithout entries (take end (set entries n e)) n
      without = record {
        size = omega (arith, shorter_copy);
        moved = λ less.
            let at_end : length entries - 1 ≡ end = omega (arith, end_is) in
            get_or-take end (set entries n e) n ([], 0) (omega (arith, n_entry)) ∙ get_or-set_same entries n e ([], 0) n_entry ∙ read_end
            ∙ ap (λ (j : ℕ). get_or entries j ([], 0)) (sym at_end);
        kept = λ i d less.
            get_or-take end (set entries n e) i ([], 0) (omega (arith, end_is)) ∙ get_or-set_other entries n i e ([], 0) d;
      }

      pub indexed_without : IsIndexed (take end (set entries n e)) final
      indexed_without =
          let same = seats_agree (set entries n e) (take end (set entries n e)) final final_agrees in
          let numbers = ap numbers_in same ∙ final_numbers in
          let kept : finite.contains_key (finite.remove (numbers_in (seats_of entries cells)) key) (key_at entries end) ≡ true =
          ap is_some (end_there entries _ h.numbering key n (sym there) (take end (set entries n e)) without end end_is before) in
          let count = finite.len-insert nat_list_cmp_total (finite.remove (numbers_in (seats_of entries cells)) key) (key_at entries end) n
          ∙ ap (λ (b : Bool). cond b (finite.len (finite.remove (numbers_in (seats_of entries cells)) key)) (finite.len (finite.remove
          (numbers_in (seats_of entries cells)) key) + 1)) kept in
          record {
            marked = marked_agree (set entries n e) (take end (set entries n e)) final final_agrees final_marked;
            table = subst IsTable (sym same) final_table;
            numbering = subst (IsNumbering (take end (set entries n e))) (sym numbers)
                (numbering_without entries _ h.numbering key n (sym there) (take end (set entries n e)) without end end_is before);
            counted = ap finite.len numbers ∙ omega (arith, count, one_less, shorter_copy);
            loaded = subst (λ (m : ℕ). length (take end (set entries n e)) ≤ limit_of m) (sym (final_size ∙ size)) (omega
                (arith, shorter_copy, h.loaded));
          }

      pub places_indexed_without : finite.from_entries {R = key_cmp} (take end (set entries n e)) ≡ finite.remove
          (finite.from_entries entries) key
      places_indexed_without = places_without entries _ h.numbering key n (sym there) (take end (set entries n e)) without end end_is before

-- ---- no entries and no cells
no_cell : (at : ℕ) (held : ℕ × ℕ) → cell_at {A = ℕ × ℕ} [] at ≡ Some held → ⊥
no_cell at held is = not_none held is

pub indexed_none : IsIndexed [] []
indexed_none = record {
  marked = record { within = λ at held is. absurd (no_cell at held is); mark = λ at held is. absurd (no_cell at held is) };
  table = record { reached = λ at free held is _. absurd (not_none held is); apart = λ i j d e is _ _. absurd (not_none d is) };
  numbering = record {
    each = λ n less. absurd (omega arith);
    only = λ key n found. absurd (not_none n (sym
        (finite.get-empty key_cmp key) ∙ found));
  };
  counted = finite.len-empty key_cmp ℕ;
  loaded = omega arith;
}

pub is_empty : (entries : Entries) (n : ℕ) → n ≡ length entries → true ≡ (n == 0) → length entries ≡ 0
is_empty entries n size none = sym size ∙ eqb-true n 0 (sym none)

pub not_empty : (entries : Entries) (n : ℕ) → n ≡ length entries → false ≡ (n == 0) → 0 < length entries
not_empty entries n size some = let other = eqb-false n 0 (sym some) in omega arith

-- ---- what an index of these shows
abbrev shown : Entries → Cells → ℕ → ℕ → IndexView
shown entries cells capacity len = record { places = finite.from_entries entries; spare = min (limit_of (length cells)) capacity - len }

module _ (entries : Entries) (cells : Cells) (h : IsIndexed entries cells) (spare : ℕ) (v : IndexView)
    (is : record { places = finite.from_entries entries; spare = spare } ≡ v) where
  pub places_are : finite.from_entries entries ≡ v.places
  places_are = ap (λ (w : IndexView). w.places) is

  spare_is : spare ≡ v.spare
  spare_is = ap (λ (w : IndexView). w.spare) is

  pub len_shown : length entries ≡ finite.len v.places
  len_shown = sym (len-entries entries (is_keyed entries cells h)) ∙ ap finite.len places_are

  pub none_shown : length entries ≡ 0 → (key : Key) → None ≡ finite.get v.places key
  none_shown none key =
      sym (ap (λ (m : Places). finite.get m key) (finite.empty_of_len (finite.from_entries {R = key_cmp} entries) (len-entries entries
      (is_keyed entries cells h) ∙ none))
      ∙ finite.get-empty key_cmp key) ∙ ap (λ (m : Places). finite.get m key) places_are

  pub absent_shown : (key : Key) → None ≡ finite.get v.places key → v.places ≡ finite.remove v.places key
  absent_shown key none = sym (remove_absent v.places key (sym none))

  pub no_number_shown : (key : Key) → None ≡ finite.get (numbers_in (seats_of entries cells)) key → None ≡ finite.get v.places key
  no_number_shown key none = get_indexed entries cells h key None none ∙ ap (λ (m : Places). finite.get m key) places_are

  pub place_shown : (key : Key) (n : ℕ) → Some n ≡ finite.get (numbers_in (seats_of entries cells)) key → (e : Key × ℕ)
      → e ≡ get_or entries n e → Some e.1 ≡ finite.get v.places key
  place_shown key n there e read =
      let within = (h.numbering.only key n (sym there)).0 in
      ap (λ (x : Key × ℕ). Some x.1) (read ∙ get_or_default entries n e ([], 0) within)
      ∙ get_indexed entries cells h key (Some n) there ∙ ap (λ (m : Places). finite.get m key) places_are

  pub put_shown : (key : Key) (place : ℕ) (m : Places) → m ≡ finite.insert (finite.from_entries entries) key place
      → m ≡ finite.insert v.places key place
  put_shown key place m e = e ∙ ap (λ (m : Places). finite.insert m key place) places_are

  pub taken_shown : (key : Key) (m : Places) → m ≡ finite.remove (finite.from_entries entries) key → m ≡ finite.remove v.places key
  taken_shown key m e = e ∙ ap (λ (m : Places). finite.remove m key) places_are

-- ---- where a key may be put
module _ (entries : Entries) (cells : Cells) (h : IsIndexed entries cells) (capacity len : ℕ) (size : len ≡ length entries) (v : IndexView)
    (is : shown entries cells capacity len ≡ v) (key : Key) (can : CanPut v.places v.spare key) where
  -- a new one finds room
  pub room_new : None ≡ finite.get v.places key → length entries < min (limit_of (length cells)) capacity
  room_new new =
      let spare = spare_is entries cells h _ v is in
      let room : 1 ≤ v.spare = can (sym new) in
      omega arith

  pub room_number : None ≡ finite.get (numbers_in (seats_of entries cells)) key → length entries < min (limit_of (length cells)) capacity
  room_number new = room_new (no_number_shown entries cells h _ v is key new)

  pub free_to_put : HasFree (seats_of entries cells)
  free_to_put = elim (cases_lt 0 (length entries)) [
    | inl some ↦ free_where_some entries cells h some
    | inr none ↦
        let room = room_new (none_shown entries cells h _ v is (omega arith) key) in
        has_free entries cells h (omega arith)
  ]
