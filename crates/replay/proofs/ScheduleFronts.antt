-- Texts that begin with a schedule's.
use Rattle.std.proofs.Common.{◌≡◌, ◌≢◌, ℕ, ◌+◌, ◌<◌, inl, inr, List, [], ◌∷◌, ◌++◌, length, map, All, sym, ap, ◌∙◌, refl, subst, arith, lit≤}
use Rattle.std.proofs.lemmas.List.{append_assoc, append-nil, length-append, map-append}
use Rattle.std.proofs.lemmas.List.Elements.{All-cons, All-nil, All-head, All-tail, All-map, All-append, All-weaker}
use Rattle.std.proofs.lemmas.Grind.{flat_map-append}
use Rattle.mont_base.specs.Layout.{Shape}
use Rattle.job_text.specs.Lines.{spaced, line_of, text_of, line_at, HasLine}
use Rattle.job_text.specs.Parts.{Lacks}
use Rattle.job_text.specs.Runs.{kept_run}
use Rattle.job_text.proofs.SeenWords.{spaced_lacks}
use Rattle.replay.specs.declared.schedule.Schedule.{Schedule}
use Rattle.replay.specs.declared.schedule_limits.TheConstants.{SCHEDULE_BYTES}
use Rattle.replay.specs.EventWords.{has_pairs}
use Rattle.replay.specs.Schedules.{Move, moves, IsMove, IsShort, IsTitle, IsSchedule, title_words, move_words, schedule_lines}
use Rattle.replay.specs.ScheduleText.{schedule_text, IsFirstRefused}
use Rattle.replay.specs.SchedulesRead.{MayExtend, BeginsWith, IsNoLine}
use Rattle.replay.proofs.TitleWords.{title_seen, title_once}
use Rattle.replay.proofs.Moves.{moves_push, has_push, run_suits}
use Rattle.replay.proofs.MoveWords.{event_seen}
use Rattle.replay.proofs.Fronts.{Row, IsFront, NoneGoesOn, front_count, front_line, front_more, front_stands, has_next, next_refused, no_line, split_more, split_once_only, text_long, lines_long}

-- ---- a schedule's lines
pub title_of : (s : Schedule) → IsSchedule s → IsTitle s.layout s.callers
title_of s is = (is.layout, is.some_callers, is.few_callers)

lines_lack : (s : Schedule) → IsSchedule s → All (λ (w : Row). Lacks 10 (spaced w)) (schedule_lines s)
lines_lack s is =
    let P : Row → Type 0 = λ w. Lacks 10 (spaced w) in
    All-cons P (title_words s.layout s.callers) (map move_words (moves s))
    (spaced_lacks (title_words s.layout s.callers) (title_seen s.layout s.callers (title_of s is)))
    (All-map P move_words (moves s)
    (All-weaker (IsMove s.layout s.callers) (λ (m : Move). P (move_words m))
    (λ m h. spaced_lacks (move_words m) (event_seen m.0 m.1 h.named h.run)) (moves s) is.moves))

-- the text begins with the schedule's
pub record IsSoFar (text : List ℕ) (s : Schedule) (rest : List ℕ) : Type 0 where
  pub is_schedule : IsSchedule s
  pub joined : text ≡ schedule_text s ++ rest

pub front_of : (text : List ℕ) (s : Schedule) (rest : List ℕ) → IsSoFar text s rest → IsFront text (schedule_lines s) rest
front_of text s rest f = record { joined = f.joined; lack = lines_lack s f.is_schedule; short = f.is_schedule.short_lines }

-- nothing of the text was read
pub front_start : (text : List ℕ) → IsFront text [] text
front_start text = record { joined = refl; lack = All-nil (λ (w : Row). Lacks 10 (spaced w)); short = All-nil IsShort }

-- ---- the first line
pub first_refused : (text more : List ℕ) → NoneGoesOn (text ++ more) [] (text ++ more) (front_more text [] text more (front_start text))
    → IsFirstRefused (text ++ more) 1
first_refused text more none =
    let f = front_more text [] text more (front_start text) in
    record {
      place = 0;
      counted = refl;
      there = has_next (text ++ more) [] (text ++ more) f (inr refl);
      refused = next_refused (text ++ more) [] (text ++ more) f none;
      first_line = λ i below. absurd (omega arith);
    }

pub no_first_line : (text more : List ℕ) → MayExtend text more → IsNoLine text 0 → IsFirstRefused (text ++ more) 1
no_first_line text more extends h = first_refused text more (no_line text [] text more (front_start text) extends h)

pub no_title : (text more line after : List ℕ) → BeginsWith text 0 line after
    → ((s : Shape) (n : ℕ) → IsTitle s n → line ≢ spaced (title_words s n)) → IsFirstRefused (text ++ more) 1
no_title text more line after b none =
    first_refused text more (λ k is other beyond behind split lines.
    let same = split_once_only (text ++ more) line (after ++ more) other beyond (split_more text line after more b.ended) split in
    let first : spaced (title_words k.layout k.callers) ≡ other = cc in
    none k.layout k.callers (title_of k is) (same ∙ sym first))

pub begun : (text : List ℕ) (s : Shape) (n : ℕ) (line after : List ℕ) → BeginsWith text 0 line after → IsTitle s n
    → line ≡ spaced (title_words s n) → IsSoFar text (record { layout = s; callers = n; events = []; runs = [] }) after
begun text s n line after b is same = record {
  is_schedule = record {
    layout = is.0;
    some_callers = is.1;
    few_callers = is.2;
    runs = refl;
    moves = All-nil (IsMove s n);
    few_lines = lit≤ tt;
    short_lines = All-cons IsShort (title_words s n) [] (omega (arith, b.short, ap length same)) (All-nil IsShort);
  };
  joined = b.ended.joined ∙ ap (λ (l : List ℕ). l ++ 10 ∷ after) same ∙ one_line (spaced (title_words s n)) after;
}
  where
    one_line : (l a : List ℕ) → l ++ 10 ∷ a ≡ ((l ++ 10 ∷ []) ++ []) ++ a
    one_line l a = simp (append-nil, append_assoc)

-- ---- the next line
module _ (text : List ℕ) (s : Schedule) (rest more : List ℕ) (f : IsSoFar text s rest) (some : 0 < length rest) where
  grown : IsFront (text ++ more) (schedule_lines s) (rest ++ more)
  grown = front_more text (schedule_lines s) rest more (front_of text s rest f)

  line_refused : NoneGoesOn (text ++ more) (schedule_lines s) (rest ++ more) grown → IsFirstRefused (text ++ more)
      (length (schedule_lines s) + 1)
  line_refused none = record {
    place = length (schedule_lines s);
    counted = refl;
    there = has_next (text ++ more) (schedule_lines s) (rest ++ more) grown (inl (omega (arith, length-append rest more)));
    refused = next_refused (text ++ more) (schedule_lines s) (rest ++ more) grown none;
    first_line = front_stands (text ++ more) (schedule_lines s) (rest ++ more) grown s f.is_schedule refl;
  }

  pub no_next_line : MayExtend text more → IsNoLine rest (length (schedule_lines s))
      → IsFirstRefused (text ++ more) (length (schedule_lines s) + 1)
  no_next_line extends h = line_refused (no_line text (schedule_lines s) rest more (front_of text s rest f) extends h)

  some_move : (P : Move → Type 0) (ms ns : List Move) (line : List ℕ) (behind : List (List ℕ))
      → map spaced (map move_words ms) ≡ map spaced (map move_words ns) ++ line ∷ behind → All P ms
      → (m : Move) × P m × (line ≡ spaced (move_words m))
  some_move P [] [] line behind e all = absurd (cc)
  some_move P [] (n ∷ ns) line behind e all = absurd (cc)
  some_move P (m ∷ ms) [] line behind e all = (m, All-head P m ms all, (let first : spaced (move_words m) ≡ line = cc in sym first))
  some_move P (m ∷ ms) (n ∷ ns) line behind e all =
      some_move P ms ns line behind
      (let rest : map spaced (map move_words ms) ≡ map spaced (map move_words ns) ++ line ∷ behind = cc in rest) (All-tail P m ms all)

  pub no_event : (line after : List ℕ) → BeginsWith rest (length (schedule_lines s)) line after
      → ((m : Move) → IsMove s.layout s.callers m → line ≢ spaced (move_words m))
      → IsFirstRefused (text ++ more) (length (schedule_lines s) + 1)
  no_event line after b none =
      line_refused (λ k is other beyond behind split lines.
      let same = split_once_only (rest ++ more) line (after ++ more) other beyond (split_more rest line after more b.ended) split in
      let first : spaced (title_words k.layout k.callers) ≡ spaced (title_words s.layout s.callers) = cc in
      let behind_first : map spaced (map move_words (moves k)) ≡ map spaced (map move_words (moves s)) ++ other ∷ behind = cc in
      let store = title_once k.layout s.layout k.callers s.callers (title_of k is) (title_of s f.is_schedule) first in
      let found = some_move (IsMove k.layout k.callers) (moves k) (moves s) other behind behind_first is.moves in
      none found.0
      (subst (λ (n : ℕ). IsMove s.layout n found.0) store.1 (subst (λ (t : Shape). IsMove t k.callers found.0) store.0 found.1))
      (same ∙ found.2))

-- ---- one event more
abbrev pub with_move : Schedule → Move → Schedule
with_move s m = record s { events = s.events ++ m.0 ∷ []; runs = s.runs ++ kept_run (has_pairs m.0) m.1 }

module _ (text : List ℕ) (s : Schedule) (rest : List ℕ) (f : IsSoFar text s rest) (m : Move) (line after : List ℕ)
    (b : BeginsWith rest (length (schedule_lines s)) line after) (is : IsMove s.layout s.callers m)
    (same : line ≡ spaced (move_words m)) where
  moves_more : moves (with_move s m) ≡ moves s ++ m ∷ []
  moves_more = moves_push s.events s.runs m.0 m.1 f.is_schedule.runs (run_suits m.0 m.1 is.run)

  lines_more : schedule_lines (with_move s m) ≡ schedule_lines s ++ move_words m ∷ []
  lines_more =
      ap (λ (ms : List Move). title_words s.layout s.callers ∷ map move_words ms) moves_more
      ∙ ap (λ (ls : List Row). title_words s.layout s.callers ∷ ls) (map-append move_words (moves s) (m ∷ []))

  pub one_more : IsSoFar text (with_move s m) after
  one_more = record {
    is_schedule = record {
      layout = f.is_schedule.layout;
      some_callers = f.is_schedule.some_callers;
      few_callers = f.is_schedule.few_callers;
      runs = has_push s.events s.runs m.0 m.1 f.is_schedule.runs;
      moves =
          subst (All (IsMove s.layout s.callers)) (sym moves_more)
          (All-append (IsMove s.layout s.callers) (moves s) (m ∷ []) f.is_schedule.moves
          (All-cons (IsMove s.layout s.callers) m [] is (All-nil (IsMove s.layout s.callers))));
      few_lines = omega (arith, b.early, lines_long s, length-append s.events (m.0 ∷ []));
      short_lines =
          subst (All IsShort) (sym lines_more)
          (All-append IsShort (schedule_lines s) (move_words m ∷ []) f.is_schedule.short_lines
          (All-cons IsShort (move_words m) [] (omega (arith, b.short, ap length same)) (All-nil IsShort)));
    };
    joined =
        f.joined
        ∙ ap (λ (xs : List ℕ). schedule_text s ++ xs) (b.ended.joined ∙ ap (λ (l : List ℕ). l ++ 10 ∷ after) same)
        ∙ one_line (schedule_text s) (spaced (move_words m)) after
        ∙ ap (λ (xs : List ℕ). xs ++ after) (sym (ap text_of lines_more ∙ flat_map-append line_of (schedule_lines s) (move_words m ∷ [])));
  }
    where
      one_line : (t l a : List ℕ) → t ++ (l ++ 10 ∷ a) ≡ (t ++ ((l ++ 10 ∷ []) ++ [])) ++ a
      one_line t l a = simp (append-nil, append_assoc)

-- with nothing after it the text is the schedule's
pub whole : (text : List ℕ) (s : Schedule) → IsSoFar text s [] → IsSchedule s × (text ≡ schedule_text s) × (length text < SCHEDULE_BYTES)
whole text s f =
    let joined : text ≡ schedule_text s = f.joined ∙ append-nil (schedule_text s) in (
      f.is_schedule,
      joined,
      omega (arith, ap length joined, text_long (schedule_lines s) f.is_schedule.short_lines, lines_long s, f.is_schedule.few_lines),
    )

-- ---- the text of a schedule
pub alone : (s : Schedule) → IsSchedule s → IsSoFar (schedule_text s) s []
alone s is = record { is_schedule = is; joined = sym (append-nil (schedule_text s)) }

-- no line of it is refused
within_lines : (text : List ℕ) (s : Schedule) → IsSoFar text s [] → (i : ℕ) → HasLine text i → i < length (schedule_lines s)
within_lines text s f i (inl ended) = omega (arith, front_count text (schedule_lines s) [] (front_of text s [] f))
within_lines text s f i (inr (last, inl some)) =
    let count = front_count text (schedule_lines s) [] (front_of text s [] f) in
    let at : i ≡ length (schedule_lines s) = omega (arith, count) in
    let none : length (line_at text i) ≡ 0 = ap (λ (n : ℕ). length (line_at text n)) at
    ∙ ap length (front_line text (schedule_lines s) [] (front_of text s [] f)) in
    absurd (omega arith)
within_lines text s f i (inr (last, inr first)) = omega (arith, lines_long s)

pub not_refused : (s : Schedule) (line : ℕ) → IsSchedule s → IsFirstRefused (schedule_text s) line → ⊥
not_refused s line is r =
    let f = alone s is in
    r.refused (front_stands (schedule_text s) (schedule_lines s) [] (front_of (schedule_text s) s [] f) s is refl r.place
    (within_lines (schedule_text s) s f r.place r.there))
