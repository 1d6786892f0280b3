-- Entries that get their numbers one after another, in cells that are free.
use Rattle.std.proofs.Common.{◌≡◌, ℕ, zero, suc, ◌+◌, ◌<◌, Bool, false, cond, [], ◌∷◌, length, get_or, take, Option, Some, None, refl, sym, ap, subst, ◌∙◌, arith}
use Rattle.std.specs.Prelude.{is_some}
use Rattle.std.specs.FinMap as finite
use Rattle.std.specs.Cmp.Lexicographic.{nat_list_cmp_total}
use Rattle.std.proofs.lemmas.List.{get_or-take, take_more, length-take-le}
use Rattle.mont_base.specs.State.{Key, key_cmp}
use Rattle.index_kit.specs.Index.{Entries}
use Rattle.index_kit.specs.Cells.{Cells, cell_at}
use Rattle.index_kit.specs.Table.{Numbers, HasFree, IsKeyed, IsMarked, IsNumbering, IsTable, key_at, held_in, numbers_in, seats_of}
use Rattle.index_kit.proofs.Held.{not_none}
use Rattle.index_kit.proofs.Numbering.{numbering_pushed}
use Rattle.index_kit.proofs.Indexed.{room_of}

-- ---- free cells
abbrev AreFree : Cells → Type 0
AreFree cells = (at : ℕ) → cell_at cells at ≡ None

seats_free : (entries : Entries) (cells : Cells) → AreFree cells → (at : ℕ) → cell_at (seats_of entries cells) at ≡ None
seats_free entries [] h at = refl
seats_free entries (None ∷ cells) h zero = refl
seats_free entries (Some held ∷ cells) h zero = absurd (not_none held (sym (h 0)))
seats_free entries (c ∷ cells) h (suc at) = seats_free entries cells (λ i. h (suc i)) at

held_free : (entries : Entries) (cells : Cells) → AreFree cells → held_in (seats_of entries cells) ≡ []
held_free entries [] h = refl
held_free entries (None ∷ cells) h = held_free entries cells (λ i. h (suc i))
held_free entries (Some held ∷ cells) h = absurd (not_none held (sym (h 0)))

module _ (entries : Entries) (cells : Cells) (h : (at : ℕ) → cell_at cells at ≡ None) where
  pub marked_free : IsMarked entries cells
  marked_free = record {
    within = λ at held is. absurd (not_none held (sym (h at) ∙ is));
    mark = λ at held is. absurd (not_none held (sym (h at) ∙ is));
  }

  pub table_free : IsTable (seats_of entries cells)
  table_free = record {
    reached = λ at free held is _. absurd (not_none held (sym (seats_free entries cells h at) ∙ is));
    apart = λ i j d e is _ _. absurd (not_none d (sym (seats_free entries cells h i) ∙ is));
  }

  numbers_free : numbers_in (seats_of entries cells) ≡ finite.empty
  numbers_free = ap finite.from_entries (held_free entries cells h)

  pub numbering_free : IsNumbering [] (numbers_in (seats_of entries cells))
  numbering_free = record {
    each = λ n less. absurd (omega arith);
    only = λ key n found. absurd (not_none n (sym (finite.get-empty key_cmp key) ∙ ap (λ (m : Numbers). finite.get m key)
        (sym numbers_free) ∙ found));
  }

  pub counted_free : finite.len (numbers_in (seats_of entries cells)) ≡ 0
  counted_free = ap finite.len numbers_free ∙ finite.len-empty key_cmp ℕ

-- ---- one more number
module _ (entries : Entries) (keyed : IsKeyed entries) (numbers : Numbers) (n : ℕ) (within : n < length entries) (h : IsNumbering
    (take n entries) numbers) where
  before : length (take n entries) ≡ n
  before = length-take-le n entries (omega arith)

  key_before : (i : ℕ) → i < n → key_at (take n entries) i ≡ key_at entries i
  key_before i less = ap (λ (x : Key × ℕ). x.0) (get_or-take n entries i ([], 0) less)

  new_key : (o : Option ℕ) → finite.get numbers (key_at entries n) ≡ o → o ≡ None
  new_key None e = refl
  new_key (Some i) e =
      let own = h.only (key_at entries n) i e in
      let less : i < n = omega (arith, own.0, before) in
      let one = keyed i n (omega arith) within (sym (key_before i less) ∙ own.1) in
      absurd (omega arith)

  new_is : finite.get numbers (key_at entries n) ≡ None
  new_is = new_key _ refl

  pub numbering_more : (after : Numbers) → after ≡ finite.insert numbers (key_at entries n) n → IsNumbering (take (n + 1) entries) after
  numbering_more after is =
      subst (λ (m : Numbers). IsNumbering (take (n + 1) entries) m) (sym (is ∙ ap (finite.insert numbers (key_at entries n)) (sym before)))
      (subst (λ (es : Entries). IsNumbering es (finite.insert numbers (key_at entries n) (length (take n entries)))) (sym
      (take_more entries n ([], 0) within))
      (numbering_pushed (take n entries) numbers h (key_at entries n) (get_or entries n ([], 0)).1 new_is))

  pub counted_more : (after : Numbers) → after ≡ finite.insert numbers (key_at entries n) n → finite.len numbers ≡ n
      → finite.len after ≡ n + 1
  counted_more after is count =
      let gone : finite.contains_key numbers (key_at entries n) ≡ false = ap is_some new_is in
      ap finite.len is ∙ finite.len-insert nat_list_cmp_total numbers (key_at entries n) n
      ∙ ap (λ (b : Bool). cond b (finite.len numbers) (finite.len numbers + 1)) gone ∙ ap (λ (m : ℕ). m + 1) count

-- there is room while fewer are numbered than there are cells
pub room_for : (entries : Entries) (cells : Cells) → IsTable (seats_of entries cells) → (n : ℕ) → finite.len (numbers_in
    (seats_of entries cells)) ≡ n → n < length cells → HasFree (seats_of entries cells)
room_for entries cells table n count less = room_of entries cells table (omega (arith, count))
