-- Texts that begin with lines.
use Rattle.std.proofs.Common.{◌≡◌, ℕ, suc, ◌+◌, ◌*◌, ◌<◌, ◌≤◌, ◌⊎◌, inl, inr, Option, Some, None, List, [], ◌∷◌, ◌++◌, length, map, take, drop, get_or, All, ◌==◌, sym, ap, ◌∙◌, refl, subst, arith}
use Rattle.std.specs.List.{position}
use Rattle.std.proofs.Math.Seq.{get_or-append_seam}
use Rattle.std.proofs.lemmas.List.{append_assoc, append-nil, length-append, length-map, get_or-append-add, take_at, take-append-le, take-append-drop}
use Rattle.std.proofs.lemmas.List.Elements.{All-map}
use Rattle.std.proofs.lemmas.Bool.{cases_eq}
use Rattle.job_text.specs.Lines.{spaced, text_of, parts_of, line_at, IsEnded, HasLine}
use Rattle.job_text.specs.Parts.{Lacks, IsSplit}
use Rattle.job_text.proofs.Parted.{parts_split, parts_lacking, parts_front, some_part, whole_line, line_lacking}
use Rattle.job_text.proofs.Splits.{Lacks-from_none, IsSplit-from_some, split_at_first, not_split_lacking}
use Rattle.replay.specs.declared.schedule.Schedule.{Schedule}
use Rattle.replay.specs.declared.schedule_limits.TheConstants.{SCHEDULE_LINES, SCHEDULE_LINE_BYTES}
use Rattle.replay.specs.Schedules.{IsSchedule, IsShort, schedule_lines, moves, move_words}
use Rattle.replay.specs.ScheduleText.{MayStand}
use Rattle.replay.specs.SchedulesRead.{MayExtend, IsNoLine}
use Rattle.replay.proofs.Moves.{moves_long}

abbrev pub Row : Type 0
Row = List (List ℕ)

-- ---- splits
-- a text has a line feed or has none
abbrev pub Begun : List ℕ → Type 0
Begun rest = (line : List ℕ) × (after : List ℕ) × IsSplit 10 rest line after

split_or_lacks : (rest : List ℕ) → Lacks 10 rest ⊎ Begun rest
split_or_lacks rest = by (position (λ b. b == 10) rest) refl
  where
    by : (o : Option ℕ) → position (λ b. b == 10) rest ≡ o → Lacks 10 rest ⊎ Begun rest
    by None e = inl (Lacks-from_none 10 rest e)
    by (Some at) e = inr (_, _, IsSplit-from_some 10 rest at e)

pub first_split : (rest : List ℕ) → 1 < length (parts_of rest) → Begun rest
first_split rest more = elim (split_or_lacks rest) [
  | inl lacks ↦ absurd (omega (arith, ap length (parts_lacking rest lacks)))
  | inr begun ↦ begun
]

pub split_more : (rest line after more : List ℕ) → IsSplit 10 rest line after → IsSplit 10 (rest ++ more) line (after ++ more)
split_more rest line after more split = record {
  joined = ap (λ (xs : List ℕ). xs ++ more) split.joined ∙ append_assoc line (10 ∷ after) more;
  first = split.first;
}

-- the first line of a text is one
pub split_once_only : (text line after other behind : List ℕ) → IsSplit 10 text line after → IsSplit 10 text other behind → line ≡ other
split_once_only text line after other behind a b = (split_at_first 10 line after other behind a.first b.first (sym a.joined ∙ b.joined)).0

-- a text without a line feed stands in the first line, whatever follows
within_line : (rest more line after : List ℕ) → Lacks 10 rest → IsSplit 10 (rest ++ more) line after → length rest ≤ length line
within_line rest more line after lacks split =
    let here : line_at (rest ++ more) 0 ≡ line =
    ap (λ (xs : List ℕ). line_at xs 0) split.joined ∙ ap (λ (ps : List (List ℕ)). get_or ps 0 []) (parts_split line after split.first) in
    omega (arith, ap length (sym here ∙ line_lacking rest more lacks), length-append rest (line_at more 0))

-- the lines of a text are no longer than a schedule's, besides their line feeds
pub text_long : (ws : List Row) → All IsShort ws → length (text_of ws) ≤ (SCHEDULE_LINE_BYTES + 1) * length ws
text_long [] short = omega arith
text_long (w ∷ ws) short =
    let first : length (spaced w) ≤ SCHEDULE_LINE_BYTES = short 0 w (omega arith) in
    let rest = text_long ws (λ k d within. short (suc k) d (omega arith)) in
    simp length-append (omega arith)

-- ---- a schedule's lines
pub lines_long : (s : Schedule) → length (schedule_lines s) ≡ 1 + length s.events
lines_long s = omega (arith, length-map (moves s) move_words, moves_long s.events s.runs)

-- the line after some of a schedule's lines is short, and not one too many
module _ (k : Schedule) (is : IsSchedule k) (own : List (List ℕ)) (line : List ℕ) (behind : List (List ℕ))
    (lines : map spaced (schedule_lines k) ≡ own ++ line ∷ behind) where
  pub line_early : length own < SCHEDULE_LINES
  line_early = omega (
    arith,
    ap length lines,
    length-append own (line ∷ behind),
    length-map (schedule_lines k) spaced,
    lines_long k,
    is.few_lines,
  )

  pub line_short : length line ≤ SCHEDULE_LINE_BYTES
  line_short =
      let P : List ℕ → Type 0 = λ l. length l ≤ SCHEDULE_LINE_BYTES in
      let all : All P (own ++ line ∷ behind) = subst (All P) lines (All-map P spaced (schedule_lines k) is.short_lines) in
      subst P (get_or-append_seam own line behind []) (all (length own) [] (omega (arith, length-append own (line ∷ behind))))

-- ---- a text that begins with lines
pub record IsFront (text : List ℕ) (ls : List Row) (rest : List ℕ) : Type 0 where
  pub joined : text ≡ text_of ls ++ rest
  pub lack : All (λ (w : Row). Lacks 10 (spaced w)) ls
  pub short : All IsShort ls

pub front_more : (text : List ℕ) (ls : List Row) (rest more : List ℕ) → IsFront text ls rest → IsFront (text ++ more) ls (rest ++ more)
front_more text ls rest more f = record {
  joined = ap (λ (xs : List ℕ). xs ++ more) f.joined ∙ append_assoc (text_of ls) rest more;
  lack = f.lack;
  short = f.short;
}

module _ (text : List ℕ) (ls : List Row) (rest : List ℕ) (f : IsFront text ls rest) where
  pub front_parts : parts_of text ≡ map spaced ls ++ parts_of rest
  front_parts = ap parts_of f.joined ∙ parts_front ls rest f.lack

  pub front_count : length (parts_of text) ≡ length ls + length (parts_of rest)
  front_count = ap length front_parts ∙ omega (arith, length-map ls spaced, length-append (map spaced ls) (parts_of rest))

  pub front_line : line_at text (length ls) ≡ line_at rest 0
  front_line =
      let at : length (map spaced ls) + 0 ≡ length ls = omega (arith, length-map ls spaced) in
      ap (λ (ps : List (List ℕ)). get_or ps (length ls) []) front_parts
      ∙ subst (λ (n : ℕ). get_or (map spaced ls ++ parts_of rest) n [] ≡ get_or (parts_of rest) 0 []) at
      (get_or-append-add (map spaced ls) (parts_of rest) 0 [])

  -- the next line is there unless nothing follows
  pub has_next : (0 < length rest) ⊎ (length ls ≡ 0) → HasLine text (length ls)
  has_next some = elim (cases_eq (length (parts_of rest)) 1) [
    | inl one ↦ inr (
      omega (arith, front_count),
      elim some [
        | inl here ↦ inl (omega (arith, ap length front_line, ap length (whole_line rest one)))
        | inr first ↦ inr first
      ],
    )
    | inr more ↦ inl (omega (arith, front_count, some_part rest))
  ]

  -- the next line, where it is ended
  pub next_split : IsEnded text (length ls) → Begun rest
  next_split ended = first_split rest (omega (arith, front_count, ended))

  -- the lines up to it
  pub front_next : (line after : List ℕ) → IsSplit 10 rest line after → take (length ls + 1) (parts_of text) ≡ map spaced ls ++ line ∷ []
  front_next line after split =
      let own : List (List ℕ) = map spaced ls in
      let parts : parts_of text ≡ (own ++ line ∷ []) ++ parts_of after =
      front_parts
      ∙ ap (λ (xs : List ℕ). own ++ parts_of xs) split.joined
      ∙ ap (λ (ps : List (List ℕ)). own ++ ps) (parts_split line after split.first)
      ∙ sym (append_assoc own (line ∷ []) (parts_of after)) in
      ap (λ (ps : List (List ℕ)). take (length ls + 1) ps) parts
      ∙ take_at (own ++ line ∷ []) (parts_of after) (length ls + 1) (omega (arith, length-append own (line ∷ []), length-map ls spaced))

  -- no line is ended here that a schedule has there, so the next line is refused
  abbrev pub NoneGoesOn : Type 0
  NoneGoesOn =
      (k : Schedule) → IsSchedule k → (line after : List ℕ) (behind : List (List ℕ)) → IsSplit 10 rest line after
      → map spaced (schedule_lines k) ≡ map spaced ls ++ line ∷ behind → ⊥

  pub next_refused : NoneGoesOn → ¬ MayStand text (length ls)
  next_refused none m =
      let begun = next_split m.ended in
      none m.schedule m.is_schedule begun.0 begun.1 m.behind begun.2
      (m.lines ∙ ap (λ (ps : List (List ℕ)). ps ++ m.behind) (front_next begun.0 begun.1 begun.2)
      ∙ append_assoc (map spaced ls) (begun.0 ∷ []) m.behind)

  -- lines that are those of a schedule may stand
  pub front_stands : (s : Schedule) → IsSchedule s → ls ≡ schedule_lines s → (i : ℕ) → i < length ls → MayStand text i
  front_stands s is own i within = record {
    ended = omega (arith, front_count, some_part rest);
    schedule = s;
    is_schedule = is;
    behind = drop (i + 1) (map spaced ls);
    lines =
        let low : i + 1 ≤ length (map spaced ls) = omega (arith, length-map ls spaced) in
        ap (map spaced) (sym own) ∙ sym (take-append-drop (i + 1) (map spaced ls))
        ∙ ap (λ (ps : List (List ℕ)). ps ++ drop (i + 1) (map spaced ls))
        (sym (ap (take (i + 1)) front_parts ∙ take-append-le (i + 1) (map spaced ls) (parts_of rest) low));
  }

-- ---- what is wrong with the bytes of the next line
module _ (text : List ℕ) (ls : List Row) (rest more : List ℕ) (f : IsFront text ls rest) (extends : MayExtend text more) where
  lacks_refused : Lacks 10 rest → (k : Schedule) (line after : List ℕ) → length ls < SCHEDULE_LINES → length line ≤ SCHEDULE_LINE_BYTES
      → IsSplit 10 (rest ++ more) line after → ⊥
  lacks_refused lacks k line after early short split = elim extends [
    | inl none ↦ not_split_lacking 10 rest line after lacks
        (sym (ap (λ (xs : List ℕ). rest ++ xs) none ∙ append-nil rest) ∙ split.joined)
    | inr all ↦ omega (
      arith,
      within_line rest more line after lacks split,
      text_long ls f.short,
      ap length f.joined,
      length-append (text_of ls) rest,
    )
  ]

  pub no_line : IsNoLine rest (length ls) → NoneGoesOn (text ++ more) ls (rest ++ more) (front_more text ls rest more f)
  no_line h k is line after behind split lines =
      let early = line_early k is (map spaced ls) line behind lines in
      let short = line_short k is (map spaced ls) line behind lines in
      let few : length ls < SCHEDULE_LINES = omega (arith, early, length-map ls spaced) in
      elim h [
        | inl many ↦ omega arith
        | inr other ↦ elim other [
          | inl lacks ↦ lacks_refused lacks k line after few short split
          | inr long ↦ omega (
            arith,
            long.long,
            ap length (split_once_only (rest ++ more) long.line (long.after ++ more) line after
                (split_more rest long.line long.after more long.ended) split),
          )
        ]
      ]
