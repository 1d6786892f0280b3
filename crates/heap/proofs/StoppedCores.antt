-- What the words of a table are whose seats were all taken back.
use Rattle.std.proofs.Common.{◌≡◌, ℕ, zero, suc, List, [], ◌∷◌, ◌++◌, length, map, take, drop, ap, sym, refl, ◌∙◌, subst, arith}
use Rattle.std.specs.Prelude.{slice_get, Some, All}
use Rattle.std.proofs.lemmas.List.{length-map}
use Rattle.std.proofs.lemmas.List.Elements.{All-nil, All-cons}
use Rattle.std.proofs.lemmas.Option.{same_Some, slice_get-map, slice_get_within}
use Rattle.std.specs.Option.{option_map}
use lib.Seq.{take-append_seam, drop-append_seam}
use Rattle.atomic_table.specs.Table.{Final, Seen}
use Rattle.mont_base.specs.declared.memory.Words.{Words}
use Rattle.mont_base.specs.Image.{IsRecovered, clock_of}
use Rattle.mont_base.specs.Layout.{Shape, units_of, words_of}
use Rattle.mont_base.specs.State.{State}
use Rattle.core_steps.specs.declared.parts.Core.{Core}
use Rattle.core_steps.specs.Opened.{opened_at}
use Rattle.core_steps.specs.Sound.{IsSound}
use Rattle.core_steps.specs.Notes.{histories_of}
use Rattle.core_steps.proofs.RowFacts.{item_at}
use Rattle.heap_rule.specs.declared.rule.Opening.{Opening}
use Rattle.heap_rule.specs.declared.views.View.{View}
use Rattle.heap_rule.specs.Rule.{Each, FitsUnit, FitsCaller, FitsView, AreLeft, IsLearnt, ShowsCore, seen_in}
use Rattle.heap_rule.specs.TableWords.{spread, laid_out}
use Rattle.heap_rule.specs.Views.{Cell}
use Rattle.heap_rule.proofs.RunFacts.{always_sound}
use Rattle.heap.specs.HeapShown.{HeapShown, UnitShown, AdvShown, CallerShown}
use Rattle.heap.specs.Stops.{AreAllSeats, HasParts, IsToldTruly, StopsAt}
use Rattle.heap.proofs.GatheredSeats.{gathered_view}

-- ---- lists by their places
same_rows : {A : Type 0} (xs ys : List A) → length xs ≡ length ys
    → ((i : ℕ) (a b : A) → slice_get xs i ≡ Some a → slice_get ys i ≡ Some b → a ≡ b) → xs ≡ ys
same_rows [] [] e same = refl
same_rows [] (y ∷ ys) e same = absurd (omega arith)
same_rows (x ∷ xs) [] e same = absurd (omega arith)
same_rows (x ∷ xs) (y ∷ ys) e same =
    λ k. same 0 x y refl refl k ∷ same_rows xs ys (omega arith) (λ i a b f g. same (suc i) a b f g) k

each_at : {X Y : Type 0} (P : Y → Type 0) (f : X → Y) (xs : List X) → Each P (map f xs) → (i : ℕ) (x : X) → slice_get xs i ≡ Some x
    → P (f x)
each_at P f [] h i x e = absurd (cc)
each_at P f (y ∷ ys) h zero x e = subst (λ (z : _). P (f z)) (same_Some y x e) h.0
each_at P f (y ∷ ys) h (suc i) x e = each_at P f ys h.1 i x e

pub all_at : {X : Type 0} (P : X → Type 0) (xs : List X) → ((i : ℕ) (x : X) → slice_get xs i ≡ Some x → P x) → All P xs
all_at P [] each = All-nil P
all_at P (x ∷ xs) each = All-cons P x xs (each 0 x refl) (all_at P xs (λ i y e. each (suc i) y e))

-- a list whose items are found at their places
rows_are : {X Y : Type 0} (f : X → Y) (xs : List X) (ys : List Y) → length ys ≡ length xs
    → ((i : ℕ) (x : X) → slice_get xs i ≡ Some x → slice_get ys i ≡ Some (f x)) → ys ≡ map f xs
rows_are f xs ys count at = same_rows ys (map f xs) (count ∙ sym (length-map xs f)) by
  where
    by : (i : ℕ) (a b : _) → slice_get ys i ≡ Some a → slice_get (map f xs) i ≡ Some b → a ≡ b
    by i a b e g =
        let low = slice_get_within ys i a e in
        let x = item_at xs i (omega (arith, low, count)) in
        same_Some a b (sym e ∙ (at i x.0 x.1 ∙ (sym (slice_get-map f xs i ∙ ap (option_map f) x.1) ∙ g)))

-- ---- the words
current_words : (cur dur told : List ℕ) (n : ℕ) → length cur ≡ n → take n (drop 0 (laid_out cur dur told)) ≡ cur
current_words cur dur told n e =
    ap (λ (k : ℕ). take k (cur ++ (dur ++ spread told))) (sym e) ∙ take-append_seam cur (dur ++ spread told)

durable_words : (cur dur told : List ℕ) (n : ℕ) → length cur ≡ n → length dur ≡ n → take n (drop n (laid_out cur dur told)) ≡ dur
durable_words cur dur told n e f =
    ap (λ (k : ℕ). take n (drop k (cur ++ (dur ++ spread told)))) (sym e)
    ∙ (ap (take n) (drop-append_seam cur (dur ++ spread told))
    ∙ (ap (λ (k : ℕ). take k (dur ++ spread told)) (sym f) ∙ take-append_seam dur (spread told)))

-- ---- the core
module _ (o : Opening) (heap : HeapShown) (seat : ℕ) (v : View) (all : List ℕ) (slots : List Cell) (units : List UnitShown)
    (advancer : AdvShown) (callers : List CallerShown) (key : heap.opening ≡ o)
    (f : Final (Seen (ShowsCore o) seat v) all slots) (seats : AreAllSeats heap units advancer callers)
    (is : v ≡ gathered_view units advancer callers) where
  abbrev shows : ShowsCore o f.0
  shows = f.1.0

  abbrev core : Core
  core = shows.board.core

  fits : FitsView shows.board shows.own seat (gathered_view units advancer callers)
  fits = subst (FitsView shows.board shows.own seat) is (shows.views seat v f.1.1)

  unit_fits : (u : ℕ) (s : UnitShown) → slice_get units u ≡ Some s → FitsUnit shows.board shows.own seat s.known
  unit_fits = each_at (FitsUnit shows.board shows.own seat) (λ (s : UnitShown). s.known) units fits.units

  caller_fits : (k : ℕ) (s : CallerShown) → slice_get callers k ≡ Some s → FitsCaller shows.board shows.own seat s.known
  caller_fits = each_at (FitsCaller shows.board shows.own seat) (λ (s : CallerShown). s.known) callers fits.callers

  unit_there : (u : ℕ) (s : UnitShown) → slice_get units u ≡ Some s → slice_get core.units u ≡ Some s.known.part
  unit_there u s e = ap (slice_get core.units) (sym (seats.each_unit u s e).1) ∙ (unit_fits u s e).part

  caller_there : (k : ℕ) (s : CallerShown) → slice_get callers k ≡ Some s → slice_get core.callers k ≡ Some s.known.part
  caller_there k s e = ap (slice_get core.callers) (sym (seats.each_caller k s e).1) ∙ (caller_fits k s e).part

  unit_count : length core.units ≡ length units
  unit_count = shows.sound.sizes.unit_count ∙ (ap units_of shows.layout
      ∙ (ap (λ (x : Opening). units_of x.layout) (sym key) ∙ sym seats.unit_count))

  caller_count : length core.callers ≡ length callers
  caller_count = shows.callers ∙ (ap (λ (x : Opening). x.callers) (sym key) ∙ sym seats.caller_count)

  has_parts : HasParts core units advancer callers
  has_parts = record {
    units_are = rows_are (λ (s : UnitShown). s.known.part) units core.units unit_count unit_there;
    advancer_is = fits.advancers.0.part;
    odd_is = fits.advancers.0.odd;
    callers_are = rows_are (λ (s : CallerShown). s.known.part) callers core.callers caller_count caller_there;
  }

  told_truly : IsToldTruly core units advancer callers
  told_truly = record {
    clock_is = fits.advancers.0.clock_is;
    durable_is = fits.advancers.0.durable;
    lists_are = fits.advancers.0.lists;
    learnt_by_units = all_at (λ (s : UnitShown). IsLearnt core s.known.learnt) units (λ u s e. (unit_fits u s e).learnt);
    learnt_by_advancer = fits.advancers.0.learnt;
    seen = all_at (λ (s : CallerShown). s.known.entries ≡ seen_in s.known.part.fronts (histories_of core.units)) callers
        (λ k s e. (caller_fits k s e).entries);
    left = all_at (λ (s : CallerShown). AreLeft core.units s.known.within) callers (λ k s e. (caller_fits k s e).left);
  }

  sound_for : (states : List State) → IsRecovered o.layout o.words states → IsSound (opened_at (clock_of o.words) states) core
  sound_for states base = always_sound o shows.accepted states base shows.events core shows.run

  words_are : all ≡ laid_out core.cur core.dur core.told
  words_are = sym f.2 ∙ shows.words

  current_count : length core.cur ≡ words_of o.layout
  current_count = shows.sound.sizes.current ∙ ap words_of shows.layout

  durable_count : length core.dur ≡ words_of o.layout
  durable_count = shows.sound.sizes.durable ∙ ap words_of shows.layout

  pub stops_at : (words : Words) → words.layout ≡ o.layout → words.cur ≡ take (words_of o.layout) (drop 0 all)
      → words.dur ≡ take (words_of o.layout) (drop (words_of o.layout) all) → StopsAt o units advancer callers words
  stops_at words layout cur dur = record {
    core = core;
    events = shows.events;
    run = shows.run;
    sound = sound_for;
    layout = (layout, shows.layout);
    current = cur ∙ (ap (λ (ws : List ℕ). take (words_of o.layout) (drop 0 ws)) words_are
        ∙ current_words core.cur core.dur core.told (words_of o.layout) current_count);
    durable = dur ∙ (ap (λ (ws : List ℕ). take (words_of o.layout) (drop (words_of o.layout) ws)) words_are
        ∙ durable_words core.cur core.dur core.told (words_of o.layout) current_count durable_count);
    parts = has_parts;
    told = told_truly;
  }

  -- the same at what contracts see of the heap
  pub stops_shown : (layout : Shape) (words : Words) → layout ≡ o.layout
      → (words.layout ≡ layout) × (words.cur ≡ take (words_of layout) (drop 0 all))
      × (words.dur ≡ take (words_of layout) (drop (words_of layout) all))
      → StopsAt heap.opening units advancer callers words
  stops_shown layout words same read = subst (λ (x : Opening). StopsAt x units advancer callers words) (sym key)
      (stops_at words (read.0 ∙ same)
      (read.1 ∙ ap (λ (s : Shape). take (words_of s) (drop 0 all)) same)
      (read.2 ∙ ap (λ (s : Shape). take (words_of s) (drop (words_of s) all)) same))
