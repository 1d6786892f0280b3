-- What the rule tells of the core: its words among those of the table, its clocks, and which units have no
-- lost slot.
use Rattle.std.proofs.Common.{◌≡◌, ◌≢◌, ℕ, zero, suc, ◌+◌, ◌*◌, ◌<◌, ◌≤◌, List, [], ◌∷◌, ◌++◌, length, set, take, sym, refl, ap, ◌∙◌, arith, Bool, true, false, ◌⊎◌, inl, inr, ⊎_elim}
use Rattle.std.specs.Prelude.{slice_get, slice_index, Some, ◌||◌, ◌==◌}
use Rattle.std.specs.List.{Contains}
use Rattle.std.proofs.lemmas.Option.{slice_get_within, slice_get-get_or}
use mathlib.Core.Logic.{dite}
use native.Mathlib.Decide.{ℕ_discrete}
use Rattle.atomic_table.specs.Table.{State}
use Rattle.mont_base.specs.declared.constants.TheConstants.{FIELDS, LAST}
use Rattle.mont_base.specs.declared.operation.Entry.{Entry}
use Rattle.mont_base.specs.Layout.{Shape, units_of, words_of, total_of, word_of}
use Rattle.mont_laws.proofs.Members.{first_element}
use Rattle.core_steps.specs.declared.parts.Core.{Core}
use Rattle.core_steps.specs.declared.parts.UnitPart.{UnitPart}
use Rattle.core_steps.specs.declared.parts.AdvPart.{AdvPart}
use Rattle.core_steps.specs.declared.parts.AdvPart.TheVariants.{Rest}
use Rattle.core_steps.specs.Places.{on_row}
use Rattle.core_steps.specs.Clock.{clock, durable_clock}
use Rattle.core_steps.specs.Stages.{is_announced, limit_of, passed_of}
use Rattle.core_steps.specs.Events.{AreNoneLost}
use Rattle.core_steps.specs.Notes.{histories_of}
use Rattle.core_steps.specs.Sound.{Base, IsSound, LostWait}
use Rattle.core_steps.proofs.CallerFrames.{history_row}
use Rattle.core_steps.proofs.Decisions.{both}
use Rattle.core_steps.proofs.NoteLaws.{last_within, limit_reached}
use Rattle.heap_rule.specs.declared.rule.Opening.{Opening}
use Rattle.heap_rule.specs.declared.views.CallerKnown.{CallerKnown}
use Rattle.heap_rule.specs.declared.views.Learnt.{Learnt}
use Rattle.heap_rule.specs.declared.views.UnitKnown.{UnitKnown}
use Rattle.heap_rule.specs.declared.views.View.{View}
use Rattle.heap_rule.specs.Views.{Cell, is_among, are_clean}
use Rattle.heap_rule.specs.TableWords.{laid_out, table_words, durable_place, announcement_place}
use Rattle.heap_rule.specs.Rule.{IsLearnt, AreClean, seen_in, ShowsCore}
use Rattle.heap_rule.specs.Plays.{IsClock, IsDurable, IsNotBeyond}
use Rattle.heap_rule.proofs.WordPlaces.{set_current, set_durable, set_announced, get_current, get_durable, get_announced}

-- ---- a part that there is
pub at_row : {A : Type 0} (xs : List A) (u : ℕ) (p : A) (c : Core) (f : A → Core) → slice_get xs u ≡ Some p
    → f p ≡ on_row (slice_get xs u) c f
at_row xs u p c f at = sym (ap (λ o. on_row o c f) at)

-- ---- clean units
among_clean : (n : ℕ) (clean : List ℕ) (u : ℕ) → are_clean n clean ≡ true → u < n → is_among clean u ≡ true
among_clean zero clean u all l = absurd (omega arith)
among_clean (suc n) clean u all l =
    let parts = both (is_among clean n) (are_clean n clean) all in
    dite (ℕ_discrete u n)
    (λ (e : u ≡ n). ap (is_among clean) e ∙ parts.0)
    (λ (e : u ≢ n). among_clean n clean u parts.1 (omega arith))

row_within : {A : Type 0} (l : List A) (i : ℕ) (a : A) → slice_get l i ≡ Some a → i < length l
row_within [] i a e = absurd (cc)
row_within (x ∷ xs) zero a e = omega arith
row_within (x ∷ xs) (suc i) a e = let l = row_within xs i a e in omega arith

pub all_clean : (units : List UnitPart) (n : ℕ) (clean : List ℕ) → AreClean units clean → are_clean n clean ≡ true → length units ≡ n
    → AreNoneLost units
all_clean units n clean are all count u p at =
    let l = row_within units u p at in are u p at (among_clean n clean u all (omega arith))

-- clean for one, or for the other
among_both : (a b : List ℕ) (u : ℕ) → is_among (a ++ b) u ≡ true → (is_among a u ≡ true) ⊎ (is_among b u ≡ true)
among_both [] b u e = inr e
among_both (x ∷ xs) b u e = by (x == u) refl e (among_both xs b u)
  where
    by : (t : Bool) → (x == u) ≡ t → (t || is_among (xs ++ b) u) ≡ true
        → (is_among (xs ++ b) u ≡ true → (is_among xs u ≡ true) ⊎ (is_among b u ≡ true))
        → (is_among (x ∷ xs) u ≡ true) ⊎ (is_among b u ≡ true)
    by true is e rest = inl (ap (λ t. t || is_among xs u) is)
    by false is e rest = ⊎_elim (λ h. inl (ap (λ t. t || is_among xs u) is ∙ h)) inr (rest e)

pub clean_both : (units : List UnitPart) (a b : List ℕ) → AreClean units a → AreClean units b → AreClean units (a ++ b)
clean_both units a b x y u p at among = ⊎_elim (x u p at) (y u p at) (among_both a b u among)

-- no slot is lost while a unit has an epoch announced, or an advance is under way
nothing_in : (lost : List ℕ) → ((slot : ℕ) → Contains lost slot → ⊥) → lost ≡ []
nothing_in [] none = refl
nothing_in (n ∷ ns) none = absurd (none n (first_element n ns))

pub none_announced : (units : List UnitPart) (a : AdvPart) (u : ℕ) (p : UnitPart) → LostWait units a → slice_get units u ≡ Some p
    → is_announced p.stage ≡ true → AreNoneLost units
none_announced units a u p wait at announced v q is =
    nothing_in q.lost (λ slot h. let quiet : is_announced p.stage ≡ false = (wait v slot q is h).unannounced u p at in absurd (cc))

pub none_moving : (units : List UnitPart) (a : AdvPart) → LostWait units a → (a ≡ Rest → ⊥) → AreNoneLost units
none_moving units a wait moves v q is = nothing_in q.lost (λ slot h. moves (wait v slot q is h).advancer)

-- ---- clocks
module _ (base : Base) (c : Core) (sound : IsSound base c) where
  pub clock_low : 2 ≤ clock c
  clock_low = let low = sound.clocks.low in let begun = sound.clocks.begun in let behind = sound.clocks.behind in omega arith

  pub durable_low : 2 ≤ durable_clock c
  durable_low = let low = sound.clocks.low in let begun = sound.clocks.begun in omega arith

  pub durable_last : durable_clock c ≤ LAST
  durable_last = let behind = sound.clocks.behind in let last = sound.clocks.last in omega arith

  pub is_clock : (l : Learnt) (u : ℕ) (p : UnitPart) (found : ℕ) → IsLearnt c l → slice_get c.units u ≡ Some p → found ≡ clock c
      → IsClock l p found
  is_clock l u p found is at e =
      let low = clock_low in let last = sound.clocks.last in let newest = is.newest in let durable = is.durable in
      let behind = sound.clocks.behind in
      let limit = limit_reached base.clock (clock c) (u < passed_of (length c.units) c.advancer) p.stage (sound.registration u p at) in
      let entries = last_within (limit_of (clock c) p.stage) p.history (sound.units u p at).reached.of_entries in
      let known = sound.clocks.of_units u p at in
      record {
        low = omega arith;
        high = omega arith;
        not_before = omega arith;
        not_behind = omega arith;
        after_entries = omega arith;
        after_durable = omega arith;
      }

  pub is_durable : (known found : ℕ) → known ≤ durable_clock c → found ≡ durable_clock c → IsDurable known found
  is_durable known found l e =
      let low = durable_low in let last = durable_last in
      record { low = omega arith; high = omega arith; not_behind = omega arith }

-- ---- what a caller keeps
-- of each unit so many entries
pub seen_at : (ns : List ℕ) (hs : List (List Entry)) (u n : ℕ) (h : List Entry) → slice_get ns u ≡ Some n → slice_get hs u ≡ Some h
    → slice_get (seen_in ns hs) u ≡ Some (take n h)
seen_at [] hs u n h e f = absurd (cc)
seen_at (m ∷ ms) [] u n h e f = absurd (cc)
seen_at (m ∷ ms) (g ∷ gs) zero n h e f = let same : m ≡ n = cc in let of : g ≡ h = cc in λ i. Some (take (same i) (of i))
seen_at (m ∷ ms) (g ∷ gs) (suc u) n h e f = seen_at ms gs u n h e f

-- ---- words
module _ (o : Opening) (s : State Cell View) (k : ShowsCore o s) where
  current_length : length k.board.core.cur ≡ words_of o.layout
  current_length = k.sound.sizes.current ∙ ap words_of k.layout

  durable_length : length k.board.core.dur ≡ words_of o.layout
  durable_length = k.sound.sizes.durable ∙ ap words_of k.layout

  pub stores_announced : (u x : ℕ) → set (table_words k.board.core) (announcement_place o.layout u) x
      ≡ laid_out k.board.core.cur k.board.core.dur (set k.board.core.told u x)
  stores_announced u x = set_announced k.board.core.cur k.board.core.dur k.board.core.told
      (words_of o.layout) u x current_length durable_length

  pub stores_current : (i x : ℕ) → i < words_of o.layout → set (table_words k.board.core) i x
      ≡ laid_out (set k.board.core.cur i x) k.board.core.dur k.board.core.told
  stores_current i x l =
      let n = current_length in set_current k.board.core.cur k.board.core.dur k.board.core.told i x (omega arith)

  pub stores_durable : (i x : ℕ) → i < words_of o.layout → set (table_words k.board.core) (durable_place o.layout i) x
      ≡ laid_out k.board.core.cur (set k.board.core.dur i x) k.board.core.told
  stores_durable i x l =
      let n = durable_length in
      set_durable k.board.core.cur k.board.core.dur k.board.core.told (words_of o.layout) i x current_length (omega arith)

  pub found_current : (i : ℕ) → i < words_of o.layout → slice_index s.words i ≡ slice_index k.board.core.cur i
  found_current i l =
      let n = current_length in
      ap (λ (ws : List ℕ). slice_index ws i) k.words
      ∙ get_current k.board.core.cur k.board.core.dur k.board.core.told i (omega arith)

  pub found_durable : (i : ℕ) → i < words_of o.layout → slice_index s.words (durable_place o.layout i) ≡ slice_index k.board.core.dur i
  found_durable i l =
      let n = durable_length in
      ap (λ (ws : List ℕ). slice_index ws (durable_place o.layout i)) k.words
      ∙ get_durable k.board.core.cur k.board.core.dur k.board.core.told (words_of o.layout) i current_length (omega arith)

  pub found_announced : (u : ℕ) → slice_index s.words (announcement_place o.layout u) ≡ slice_index k.board.core.told u
  found_announced u = ap (λ (ws : List ℕ). slice_index ws (announcement_place o.layout u)) k.words
      ∙ get_announced k.board.core.cur k.board.core.dur k.board.core.told (words_of o.layout) u current_length durable_length

  -- no unit has a lost slot where all are known to be clean
  pub none_clean : (clean : List ℕ) → AreClean k.board.core.units clean → are_clean (units_of o.layout) clean ≡ true
      → AreNoneLost k.board.core.units
  none_clean clean are all =
      all_clean k.board.core.units (units_of o.layout) clean are all (k.sound.sizes.unit_count ∙ ap units_of k.layout)

  -- no front of a caller is beyond the unit's history, and what it keeps are the entries before its front
  pub not_beyond : (h : UnitKnown) (q : CallerKnown) → slice_get k.board.core.units h.unit ≡ Some h.part
      → slice_get k.board.core.callers q.caller ≡ Some q.part
      → q.entries ≡ seen_in q.part.fronts (histories_of k.board.core.units) → IsNotBeyond q h
  not_beyond h q at there kept =
      let hs = histories_of k.board.core.units in
      let seen = (k.sound.callers.each q.caller q.part there).seen in
      let history = history_row k.board.core.units h.unit h.part at in
      let inside = slice_get_within hs h.unit h.part.history history in
      let count = seen.units in
      let n : ℕ = slice_index q.part.fronts h.unit in
      let front = slice_get-get_or q.part.fronts h.unit 0 (omega arith) in record {
        front = (seen.each h.unit n h.part.history front history).there;
        entries = ap (λ (es : List (List Entry)). slice_get es h.unit) kept
            ∙ seen_at q.part.fronts hs h.unit n h.part.history front history;
      }

  pub found_clock : slice_index s.words 0 ≡ clock k.board.core
  found_clock = found_current 0 (omega arith)

  pub found_durable_clock : slice_index s.words (durable_place o.layout 0) ≡ durable_clock k.board.core
  found_durable_clock = found_durable 0 (omega arith)

-- a word of a slot is one of the store's
pub slot_word_within : (s : Shape) (slot field : ℕ) → slot < total_of s → field < FIELDS → word_of slot field < words_of s
slot_word_within s slot field l f = let n : ℕ = total_of s in by n l
  where
    by : (n : ℕ) → slot < n → 1 + 12 * slot + field < 1 + 12 * n
    by n l = omega arith
