-- What a caller that takes a note owes the rule: in a join, and in the load by which it hears a unit.
use Rattle.std.proofs.Common.{◌≡◌, ℕ, zero, suc, ◌<◌, ◌≤◌, List, [], ◌∷◌, length, set, get_or, take, replicate, refl, sym, ap, ◌∙◌, subst, arith, Bool, true, false, cond, length-set}
use Rattle.std.specs.Prelude.{slice_get, slice_index, Some, None, max, nat_lt}
use Rattle.std.proofs.lemmas.List.{take_all}
use Rattle.std.proofs.lemmas.Option.{slice_get_within, slice_get-get_or, get_or_from_slice_get}
use lib.Seq.{length-take-le}
use mathlib.Core.Option.{none}
use Rattle.atomic_table.specs.Table.{State, keeps, step, Allows}
use Rattle.mont_base.specs.declared.operation.Entry.{Entry}
use Rattle.mont_base.specs.Image.{clock_of}
use Rattle.core_steps.specs.declared.event.Event.TheVariants as events
use Rattle.core_steps.specs.declared.parts.CallerPart.{CallerPart}
use Rattle.core_steps.specs.declared.parts.Part.TheVariants as parts
use Rattle.core_steps.specs.declared.parts.UnitPart.{UnitPart}
use Rattle.core_steps.specs.Clock.{clock, durable_clock}
use Rattle.core_steps.specs.Notes.{IsTrueNote, unit_note, advancer_note, histories_of, greater_fronts, after_hear, hear}
use Rattle.core_steps.specs.Opened.{opened_at}
use Rattle.core_steps.specs.Places.{on_row}
use Rattle.core_steps.proofs.CallerFrames.{history_row, histories_length}
use Rattle.core_steps.proofs.Decisions.{lt_true, lt_false}
use Rattle.core_steps.proofs.RowFacts.{row_from}
use Rattle.core_steps.proofs.Rows.{row_here, row_else, row_same}
use Rattle.core_steps.proofs.SplitLaws.{split_is_true}
use Rattle.heap_rule.specs.declared.rule.Opening.{Opening}
use Rattle.heap_rule.specs.declared.views.AdvKnown.{AdvKnown}
use Rattle.heap_rule.specs.declared.views.CallerKnown.{CallerKnown}
use Rattle.heap_rule.specs.declared.views.NoteKnown.{NoteKnown}
use Rattle.heap_rule.specs.declared.views.UnitKnown.{UnitKnown}
use Rattle.heap_rule.specs.declared.views.View.{View}
use Rattle.heap_rule.specs.SeenEntries.{SeesBoth}
use Rattle.heap_rule.specs.Views.{Cell, caller_view, pair_view, news_view, note_of_unit, note_of_advancer, longer, longer_each, caller_heard}
use Rattle.heap_rule.specs.Rule.{Owners, Board, seen_in, FitsUnit, FitsAdvancer, FitsCaller, FitsNote, ShowsCore}
use Rattle.heap_rule.specs.Plays.{IsNotBeyond, HasSeenAll, heard as was_heard, heard_news}
use Rattle.heap_rule.proofs.RuleFrames.{Reached, goes, stays, Moves, loads}
use Rattle.heap_rule.proofs.RunFacts.{unit_sound}
use Rattle.heap_rule.proofs.Growing.{sweeps_itself}
use Rattle.heap_rule.proofs.CoreFacts.{at_row, clean_both, seen_at, not_beyond}
use Rattle.heap_rule.proofs.AnswerPlays.{seen_set}
use Rattle.heap_rule.proofs.SeenFronts.{sees_both}

-- ---- fronts
-- no front rises by fronts of 0
pub greater_none : (ns : List ℕ) → greater_fronts ns (replicate (length ns) 0) ≡ ns
greater_none [] = refl
greater_none (n ∷ ns) = λ i. largest n i ∷ greater_none ns i
  where
    largest : (n : ℕ) → max n 0 ≡ n
    largest n = omega arith

-- and one does by one that isn't lower
pub greater_one : (ns : List ℕ) (u m : ℕ) → u < length ns → get_or ns u 0 ≤ m
    → greater_fronts ns (set (replicate (length ns) 0) u m) ≡ set ns u m
greater_one [] u m l low = absurd (omega arith)
greater_one (n ∷ ns) zero m l low = λ i. largest n m low i ∷ greater_none ns i
  where
    largest : (n m : ℕ) → n ≤ m → max n m ≡ m
    largest n m low = omega arith
greater_one (n ∷ ns) (suc u) m l low = λ i. largest n i ∷ greater_one ns u m (omega arith) low i
  where
    largest : (n : ℕ) → max n 0 ≡ n
    largest n = omega arith

-- ---- entries before fronts
-- of two fronts of one history the longer one is that of the greater number
longer_take : (n m : ℕ) (h : List Entry) → n ≤ length h → m ≤ length h → longer (take n h) (take m h) ≡ take (max n m) h
longer_take n m h a b =
    (λ i. cond (nat_lt (length-take-le n h a i) (length-take-le m h b i)) (take m h) (take n h)) ∙ by (nat_lt n m) refl
  where
    by : (t : Bool) → nat_lt n m ≡ t → cond t (take m h) (take n h) ≡ take (max n m) h
    by true is = let l = lt_true n m is in ap (λ (x : ℕ). take x h) (omega arith)
    by false is = let l = lt_false n m is in ap (λ (x : ℕ). take x h) (omega arith)

-- the fronts are of entries that there are
abbrev AreThere : List ℕ → List (List Entry) → Type 0
AreThere ns hs = (u n : ℕ) (h : List Entry) → slice_get ns u ≡ Some n → slice_get hs u ≡ Some h → n ≤ length h

longer_seen : (ns ms : List ℕ) (hs : List (List Entry)) → AreThere ns hs → AreThere ms hs
    → longer_each (seen_in ns hs) (seen_in ms hs) ≡ seen_in (greater_fronts ns ms) hs
longer_seen [] ms hs a b = refl
longer_seen (n ∷ ns) [] [] a b = refl
longer_seen (n ∷ ns) (m ∷ ms) [] a b = refl
longer_seen (n ∷ ns) [] (h ∷ hs) a b = refl
longer_seen (n ∷ ns) (m ∷ ms) (h ∷ hs) a b =
    λ i. longer_take n m h (a 0 n h refl refl) (b 0 m h refl refl) i
    ∷ longer_seen ns ms hs (λ u x g c d. a (suc u) x g c d) (λ u x g c d. b (suc u) x g c d) i

-- nothing is seen at fronts of 0
seen_none : (n : ℕ) (hs : List (List Entry)) → length hs ≡ n → seen_in (replicate n 0) hs ≡ replicate n []
seen_none zero hs e = refl
seen_none (suc n) [] e = absurd (omega arith)
seen_none (suc n) (h ∷ hs) e = λ i. [] ∷ seen_none n hs (omega arith) i

-- ---- a caller takes a note
abbrev pub heard_board : Board → CallerKnown → NoteKnown → Board
heard_board b q n = record { core = hear b.core q.caller q.part n.note; turn = b.turn; full = b.full }

module _ (o : Opening) (s : State Cell View) (k : ShowsCore o s) (at : ℕ) (q : CallerKnown) (n : NoteKnown)
    (g : FitsCaller k.board k.own at q) (f : FitsNote k.board n) where
  pub heard : Reached o k.states k.board.core (hear k.board.core q.caller q.part n.note)
  heard = goes o s k (hear k.board.core q.caller q.part n.note) (events.Join (parts.Caller q.caller) n.note)
      (row_from (λ (r : CallerPart). Unit {0}) (slice_get k.board.core.callers q.caller) q.part g.part tt, f.is_true)
      (at_row k.board.core.callers q.caller q.part k.board.core (λ (r : CallerPart). hear k.board.core q.caller r n.note) g.part)

  pub heard_moves : (mine : ℕ → Type 0) → mine at → Moves k.own mine k.board (heard_board k.board q n)
  heard_moves mine has = record {
    units = λ u off. (refl, refl);
    advancer = λ off. record {
      part = refl;
      clock_is = refl;
      durable = refl;
      odd = refl;
      full = refl;
      lists = λ u t at passed. (t, at, refl);
    };
    callers = λ j off. row_else k.board.core.callers q.caller j (after_hear q.part n.note)
        (λ e. off (subst mine (sym (ap k.own.caller e ∙ g.mine)) has));
    count = refl;
    caller_count = length-set k.board.core.callers q.caller (after_hear q.part n.note);
    layout = refl;
    sweeps = sweeps_itself k.board.core.units;
  }

  pub caller_fits : (own : Owners) (seat : ℕ) → own.caller q.caller ≡ seat
      → FitsCaller (heard_board k.board q n) own seat (caller_heard q n)
  caller_fits own seat mine =
      let seen = (k.sound.callers.each q.caller q.part g.part).seen in
      let note = f.is_true.fits in
      record {
        mine = mine;
        part = row_here k.board.core.callers q.caller (after_hear q.part n.note) q.part g.part;
        entries = (λ i. longer_each (g.entries i) (f.entries i))
            ∙ longer_seen q.part.fronts n.note.fronts (histories_of k.board.core.units)
            (λ u x h a b. (seen.each u x h a b).there) (λ u x h a b. (note.each u x h a b).there);
        left = g.left;
        clean = clean_both k.board.core.units q.clean n.clean g.clean f.clean;
      }

-- what else there is fits as before
module _ (b : Board) (own : Owners) (seat : ℕ) (q : CallerKnown) (n : NoteKnown) where
  pub unit_heard : (h : UnitKnown) → FitsUnit b own seat h → FitsUnit (heard_board b q n) own seat h
  unit_heard h x = record {
    mine = x.mine;
    part = x.part;
    turn = x.turn;
    room = x.room;
    learnt = record { newest = x.learnt.newest; durable = x.learnt.durable };
    clean = x.clean;
  }

  pub advancer_heard : (a : AdvKnown) → FitsAdvancer b own seat a → FitsAdvancer (heard_board b q n) own seat a
  advancer_heard a x = record {
    mine = x.mine;
    part = x.part;
    clock_is = x.clock_is;
    durable = x.durable;
    odd = x.odd;
    units = x.units;
    room = x.room;
    list_count = x.list_count;
    lists = x.lists;
    turn = x.turn;
    learnt = record { newest = x.learnt.newest; durable = x.learnt.durable };
    clean = x.clean;
  }

-- ---- what a unit and the advancer show is true
module _ (o : Opening) (s : State Cell View) (k : ShowsCore o s) (own : Owners) (seat n : ℕ) (count : length k.board.core.units ≡ n) where
  pub unit_shows : (h : UnitKnown) → FitsUnit k.board own seat h → FitsNote k.board (note_of_unit n h)
  unit_shows h f =
      let core = k.board.core in
      let hs = histories_of core.units in
      let there : slice_get hs h.unit ≡ Some h.part.history = history_row core.units h.unit h.part f.part in
      record {
        is_true = subst (λ (m : ℕ). IsTrueNote core (unit_note m h.unit h.part)) count
            (split_is_true (opened_at (clock_of o.words) k.states) core k.sound (parts.Unit h.unit) (unit_note
            (length core.units) h.unit h.part)
            (ap (λ z. on_row z None (λ (p : UnitPart). Some (unit_note (length core.units) h.unit p))) f.part));
        entries = ap (λ (es : List (List Entry)). set es h.unit h.part.history) (sym (seen_none n hs (histories_length core.units
            ∙ count)))
            ∙ (sym (seen_set (replicate n 0) hs h.unit (length h.part.history) h.part.history refl)
            ∙ ap (seen_in (set (replicate n 0) h.unit (length h.part.history))) (row_same hs h.unit h.part.history there));
        clean = f.clean;
      }

  pub advancer_shows : (a : AdvKnown) → FitsAdvancer k.board own seat a → FitsNote k.board (note_of_advancer n a)
  advancer_shows a f =
      let core = k.board.core in
      record {
        is_true = subst (λ (z : ℕ × ℕ × List ℕ). IsTrueNote core (advancer_note z.0 z.1 z.2)) (λ i. (count i, f.durable i, f.odd i))
            (split_is_true (opened_at (clock_of o.words) k.states) core k.sound parts.Advancer
            (advancer_note (length core.units) (durable_clock core) core.odd) refl);
        entries = sym (seen_none n (histories_of core.units) (histories_length core.units ∙ count));
        clean = f.clean;
      }

-- as many fronts as units
pub fronts_count : (o : Opening) (s : State Cell View) (k : ShowsCore o s) (own : Owners) (at : ℕ) (q : CallerKnown)
    → FitsCaller k.board own at q
    → length k.board.core.units ≡ length q.part.fronts
fronts_count o s k own at q g =
    sym ((k.sound.callers.each q.caller q.part g.part).seen.units ∙ histories_length k.board.core.units)

-- ---- a load by which it takes a note of the unit
-- after it, the caller has seen all
seen_all : (hs : List (List Entry)) (h : UnitKnown) (q r : CallerKnown) → slice_get hs h.unit ≡ Some h.part.history
    → h.unit < length q.part.fronts → IsNotBeyond q h
    → r.part.fronts ≡ greater_fronts q.part.fronts (set (replicate (length q.part.fronts) 0) h.unit (length h.part.history))
    → r.entries ≡ seen_in r.part.fronts hs → HasSeenAll r h
seen_all hs h q r there inside low fronts entries =
    let u : ℕ = h.unit in
    let n : ℕ = length h.part.history in
    let now : r.part.fronts ≡ set q.part.fronts u n = fronts ∙ greater_one q.part.fronts u n inside low.front in
    let front : slice_get r.part.fronts u ≡ Some n = ap (λ (ns : List ℕ). slice_get ns u) now
    ∙ row_here q.part.fronts u n (slice_index q.part.fronts u) (slice_get-get_or q.part.fronts u 0 inside) in
    record {
      front = get_or_from_slice_get r.part.fronts u n 0 front;
      entries = ap (λ (es : List (List Entry)). slice_get es u) entries
          ∙ (seen_at r.part.fronts hs u n h.part.history front there ∙ ap Some (take_all n h.part.history (omega arith)));
    }

pub hears : (o : Opening) (slots seat : ℕ) (h : UnitKnown) (q : CallerKnown) (c : List (ℕ × Cell))
    → Allows (ShowsCore o) slots seat (pair_view h q, c) 0 (λ n. n) (was_heard o (step slots 0 0 0 none) (pair_view h q, c))
hears o slots seat h q c s k long at small =
    let view = k.views seat (pair_view h q) at in
    let f = view.units.0 in
    let g = view.callers.0 in
    let core = k.board.core in
    let hs = histories_of core.units in
    let count = fronts_count o s k k.own seat q g in
    let n : NoteKnown = note_of_unit (length q.part.fronts) h in
    let note = unit_shows o s k k.own seat (length q.part.fronts) count h f in
    let fits = caller_fits o s k seat q n g note k.own seat g.mine in
    let there : slice_get hs h.unit ≡ Some h.part.history = history_row core.units h.unit h.part f.part in
    let within = slice_get_within core.units h.unit h.part f.part in
    let low = not_beyond o s k h q f.part g.part g.entries in (
      pair_view h (caller_heard q n),
      keeps,
      tt,
      loads o s k seat 0 c (pair_view h (caller_heard q n)) keeps (heard_board k.board q n) (heard o s k seat q n g note)
          (heard_moves o s k seat q n g note (λ j. j ≡ seat) refl) refl k.passed k.homes
          (record {
            units = (unit_heard k.board k.own seat q n h f, tt);
            advancers = tt;
            callers = (fits, tt);
            notes = tt;
          }),
      (
        refl,
        low,
        seen_all hs h q (caller_heard q n) there (omega arith) low refl fits.entries,
        (clock core, durable_clock core, unit_sound o s k core (stays o s k) refl h f.part f.clean),
      ),
    )

-- ---- a load by which it takes the note of another
pub hears_news : (o : Opening) (slots seat : ℕ) (q : CallerKnown) (n : NoteKnown) (c : List (ℕ × Cell))
    → Allows (ShowsCore o) slots seat (news_view q n, c) 0 (λ n. n) (heard_news (step slots 0 0 0 none) (news_view q n, c))
hears_news o slots seat q n c s k long at small =
    let view = k.views seat (news_view q n) at in
    let g = view.callers.0 in
    let note = view.notes.0 in
    let hs = histories_of k.board.core.units in
    let as_many : length q.part.fronts ≡ length n.note.fronts =
    (k.sound.callers.each q.caller q.part g.part).seen.units ∙ sym note.is_true.fits.units in
    let fits = caller_fits o s k seat q n g note k.own seat g.mine in (
      caller_view (caller_heard q n),
      keeps,
      tt,
      loads o s k seat 0 c (caller_view (caller_heard q n)) keeps (heard_board k.board q n) (heard o s k seat q n g note)
          (heard_moves o s k seat q n g note (λ j. j ≡ seat) refl) refl k.passed k.homes
          (record { units = tt; advancers = tt; callers = (fits, tt); notes = tt }),
      (
        refl,
        subst (λ (z : List (List Entry) × List (List Entry) × List (List Entry)). SeesBoth z.0 z.1 z.2)
            (λ i. (sym g.entries i, sym note.entries i, sym fits.entries i))
            (sees_both q.part.fronts n.note.fronts hs as_many),
      ),
    )
