-- Texts that begin with a job's.
use Rattle.std.proofs.Common.{◌≡◌, ℕ, ◌+◌, ◌-◌, ◌<◌, ◌≤◌, inl, inr, List, [], ◌∷◌, ◌++◌, length, map, take, get_or, All, sym, ap, ◌∙◌, refl, subst, arith, add-one}
use Rattle.std.proofs.Math.Seq.{take-append-add}
use Rattle.std.specs.List.{take-map}
use Rattle.std.proofs.lemmas.List.{append_assoc, append-nil, length-append, length-map, get_or-append-add, take_at, take-append-le, map-append}
use Rattle.std.proofs.lemmas.List.Elements.{All-cons, All-map, All-append, All-weaker}
use Rattle.std.proofs.lemmas.Bool.{cases_eq, cases_lt}
use Rattle.job_text.specs.declared.header.Head.{Head}
use Rattle.job_text.specs.declared.job.Job.{Job}
use Rattle.job_text.specs.declared.job.Line.{Line}
use Rattle.job_text.specs.declared.job.Stop.{Stop}
use Rattle.job_text.specs.declared.limits.TheConstants.{MOST_LINES}
use Rattle.job_text.specs.Lines.{spaced, line_of, text_of, parts_of, line_at, IsEnded, HasLine}
use Rattle.job_text.specs.Grammar.{head_of, job_of, IsStop, IsLine, IsJob}
use Rattle.job_text.specs.JobText.{head_words, stop_words, line_words, job_lines, job_text, MayStand}
use Rattle.job_text.specs.Parts.{IsSplit}
use Rattle.job_text.specs.Refused.{BeginsWithHead}
use Rattle.job_text.proofs.SeenWords.{IsShortLine, head_short, stop_short, line_short}
use Rattle.job_text.proofs.Grammars.{begun_job, stops_cut, lines_cut}
use Rattle.job_text.proofs.Parted.{whole_line, parts_front, parts_split, some_part}

-- each line of a job is short and has no line feed
pub job_short : (j : Job) → IsJob j → All (λ (w : List (List ℕ)). IsShortLine (spaced w)) (job_lines j)
job_short j h =
    let P : List (List ℕ) → Type 0 = λ w. IsShortLine (spaced w) in
    All-cons P (head_words (head_of j)) (map stop_words j.stops ++ map line_words j.lines) (head_short (head_of j) h.head)
    (All-append P (map stop_words j.stops) (map line_words j.lines)
    (All-map P stop_words j.stops
    (All-weaker (IsStop (head_of j)) (λ (s : Stop). P (stop_words s)) (λ s is. stop_short (head_of j) s h.head is) j.stops h.stops))
    (All-map P line_words j.lines
    (All-weaker (IsLine (head_of j)) (λ (l : Line). P (line_words l)) (λ l is. line_short (head_of j) l h.head is) j.lines h.lines)))

pub job_long : (j : Job) → length (job_lines j) ≡ 1 + length j.stops + length j.lines
job_long j = omega (
  arith,
  length-append (map stop_words j.stops) (map line_words j.lines),
  length-map j.stops stop_words,
  length-map j.lines line_words,
)

pub few_job_lines : (j : Job) → IsJob j → length (job_lines j) ≤ MOST_LINES
few_job_lines j h = omega (arith, job_long j, h.few_lines)

-- a text that begins with the text of a job
pub record IsFront (text : List ℕ) (j : Job) (rest : List ℕ) : Type 0 where
  pub is_job : IsJob j
  pub joined : text ≡ job_text j ++ rest

pub front_more : (text : List ℕ) (j : Job) (rest more : List ℕ) → IsFront text j rest
    → IsFront (text ++ more) j (rest ++ more)
front_more text j rest more f = record {
  is_job = f.is_job;
  joined = ap (λ (xs : List ℕ). xs ++ more) f.joined ∙ append_assoc (job_text j) rest more;
}

spaced_long : (j : Job) → length (map spaced (job_lines j)) ≡ length (job_lines j)
spaced_long j = length-map (job_lines j) spaced

module _ (text : List ℕ) (j : Job) (rest : List ℕ) (f : IsFront text j rest) where
  pub front_job : IsJob j
  front_job = f.is_job

  pub front_parts : parts_of text ≡ map spaced (job_lines j) ++ parts_of rest
  front_parts = ap parts_of f.joined ∙ parts_front (job_lines j) rest (λ k d within. (job_short j front_job k d within).0)

  -- what follows these lines begins with the next line
  pub front_line : line_at text (length (job_lines j)) ≡ line_at rest 0
  front_line =
      let at : length (map spaced (job_lines j)) + 0 ≡ length (job_lines j) = omega (arith, spaced_long j) in
      ap (λ (ps : List (List ℕ)). get_or ps (length (job_lines j)) []) front_parts
      ∙ subst (λ (n : ℕ). get_or (map spaced (job_lines j) ++ parts_of rest) n [] ≡ get_or (parts_of rest) 0 []) at
      (get_or-append-add (map spaced (job_lines j)) (parts_of rest) 0 [])

  pub front_count : length (parts_of text) ≡ length (job_lines j) + length (parts_of rest)
  front_count = ap length front_parts ∙ omega (arith, spaced_long j, length-append (map spaced (job_lines j)) (parts_of rest))

  -- the next line is there unless nothing follows
  pub has_next : 0 < length rest → HasLine text (length (job_lines j))
  has_next some = elim (cases_eq (length (parts_of rest)) 1) [
    | inl one ↦ inr (omega (arith, front_count), inl (omega (arith, ap length front_line, ap length (whole_line rest one))))
    | inr more ↦ inl (omega (arith, front_count, some_part rest))
  ]

  pub front_ended : (line after : List ℕ) → IsSplit 10 rest line after → IsEnded text (length (job_lines j))
  front_ended line after split =
      let parts : length (parts_of rest) ≡ length (line ∷ parts_of after) =
      ap (λ (xs : List ℕ). length (parts_of xs)) split.joined ∙ ap length (parts_split line after split.first) in
      omega (arith, front_count, some_part after)

  -- the lines up to the next one
  pub front_next : (line after : List ℕ) → IsSplit 10 rest line after
      → take (length (job_lines j) + 1) (parts_of text) ≡ map spaced (job_lines j) ++ line ∷ []
  front_next line after split =
      let own : List (List ℕ) = map spaced (job_lines j) in
      let parts : parts_of text ≡ (own ++ line ∷ []) ++ parts_of after =
      front_parts
      ∙ ap (λ (xs : List ℕ). own ++ parts_of xs) split.joined
      ∙ ap (λ (ps : List (List ℕ)). own ++ ps) (parts_split line after split.first)
      ∙ sym (append_assoc own (line ∷ []) (parts_of after)) in
      ap (λ (ps : List (List ℕ)). take (length (job_lines j) + 1) ps) parts
      ∙ take_at (own ++ line ∷ []) (parts_of after) (length (job_lines j) + 1)
      (omega (arith, length-append own (line ∷ []), spaced_long j))

-- with nothing after a job's lines there are no others
pub no_next : (text : List ℕ) (j : Job) → IsFront text j [] → (i : ℕ) → HasLine text i → i < length (job_lines j)
no_next text j f i (inl ended) = omega (arith, front_count text j [] f)
no_next text j f i (inr (last, inl some)) =
    let at : i ≡ length (job_lines j) = omega (arith, front_count text j [] f) in
    let none : length (line_at text i) ≡ 0 = ap (λ (n : ℕ). length (line_at text n)) at ∙ ap length (front_line text j [] f) in
    absurd (omega arith)
no_next text j f i (inr (last, inr first)) = omega (arith, job_long j)

-- ---- the first lines of a job are a job's
abbrev FirstLines : Job → ℕ → Type 0
FirstLines j i = (k : Job) × IsJob k × (take (i + 1) (map spaced (job_lines j)) ≡ map spaced (job_lines k))

first_of : (w : List ℕ) (ws vs : List (List ℕ)) (i : ℕ) → take i ws ≡ vs → take (i + 1) (w ∷ ws) ≡ w ∷ vs
first_of w ws vs i e = ap (λ (n : ℕ). take n (w ∷ ws)) (add-one i) ∙ ap (λ (us : List (List ℕ)). w ∷ us) e

tail_apart : (ss : List Stop) (ls : List Line) → map spaced (map stop_words ss ++ map line_words ls)
    ≡ map spaced (map stop_words ss) ++ map spaced (map line_words ls)
tail_apart ss ls = map-append spaced (map stop_words ss) (map line_words ls)

take_stops : (ss : List Stop) (ls : List Line) (i : ℕ) → i ≤ length ss → take i (map spaced (map stop_words ss ++ map line_words ls))
    ≡ map spaced (map stop_words (take i ss) ++ map line_words [])
take_stops ss ls i within =
    ap (take i) (tail_apart ss ls)
    ∙ take-append-le i (map spaced (map stop_words ss)) (map spaced (map line_words ls))
    (omega (arith, length-map (map stop_words ss) spaced, length-map ss stop_words))
    ∙ take-map spaced i (map stop_words ss)
    ∙ ap (map spaced) (take-map stop_words i ss)
    ∙ ap (map spaced) (sym (append-nil (map stop_words (take i ss))))

take_lines : (ss : List Stop) (ls : List Line) (n : ℕ) → take (length ss + n) (map spaced (map stop_words ss ++ map line_words ls))
    ≡ map spaced (map stop_words ss ++ map line_words (take n ls))
take_lines ss ls n =
    let long : length (map spaced (map stop_words ss)) ≡ length ss =
    length-map (map stop_words ss) spaced ∙ length-map ss stop_words in
    ap (take (length ss + n)) (tail_apart ss ls)
    ∙ ap (λ (m : ℕ). take (m + n) (map spaced (map stop_words ss) ++ map spaced (map line_words ls))) (sym long)
    ∙ take-append-add (map spaced (map stop_words ss)) (map spaced (map line_words ls)) n
    ∙ ap (λ (ws : List (List ℕ)). map spaced (map stop_words ss) ++ ws)
    (take-map spaced n (map line_words ls) ∙ ap (map spaced) (take-map line_words n ls))
    ∙ sym (tail_apart ss (take n ls))

first_lines : (j : Job) (i : ℕ) → IsJob j → i < length (job_lines j) → FirstLines j i
first_lines j i t within = elim (cases_lt i (length j.stops + 1)) [
  | inl early ↦ (
    job_of (head_of j) (take i j.stops) [],
    stops_cut (head_of j) j.stops j.lines i (omega arith) t,
    first_of (spaced (head_words (head_of j))) (map spaced (map stop_words j.stops ++ map line_words j.lines))
        (map spaced (map stop_words (take i j.stops) ++ map line_words [])) i (take_stops j.stops j.lines i (omega arith)),
  )
  | inr late ↦
      let n : ℕ = i - length j.stops in
      let at : length j.stops + n ≡ i = omega arith in (
        job_of (head_of j) j.stops (take n j.lines),
        lines_cut (head_of j) j.stops j.lines n (omega (arith, job_long j)) t,
        first_of (spaced (head_words (head_of j))) (map spaced (map stop_words j.stops ++ map line_words j.lines))
            (map spaced (map stop_words j.stops ++ map line_words (take n j.lines))) i
            (subst (λ (m : ℕ). take m (map spaced (map stop_words j.stops ++ map line_words j.lines))
            ≡ map spaced (map stop_words j.stops ++ map line_words (take n j.lines))) at (take_lines j.stops j.lines n)),
      )
]

-- so each of these lines may stand in the text
pub front_stands : (text : List ℕ) (j : Job) (rest : List ℕ) → IsFront text j rest → (i : ℕ) → i < length (job_lines j)
    → MayStand text i
front_stands text j rest f i within =
    let first = first_lines j i f.is_job within in
    record {
      job = first.0;
      is_job = first.1;
      lines =
          ap (take (i + 1)) (front_parts text j rest f)
          ∙ take-append-le (i + 1) (map spaced (job_lines j)) (parts_of rest) (omega (arith, spaced_long j))
          ∙ first.2;
    }

-- ---- lines that are added
start_text : (h after : List ℕ) → h ++ 10 ∷ after ≡ ((h ++ 10 ∷ []) ++ []) ++ after
start_text h after = simp (append-nil, append_assoc)

-- a text that begins with its header
pub front_start : (text : List ℕ) (h : Head) (after : List ℕ) → BeginsWithHead text h after
    → IsFront text (job_of h [] []) after
front_start text h after b = record {
  is_job = begun_job h b.is_head;
  joined = b.begins.ended.joined ∙ ap (λ (xs : List ℕ). xs ++ 10 ∷ after) b.spelled ∙ start_text (spaced (head_words h)) after;
}

-- the text of lines, by the lines' bytes
abbrev ended_lines : List (List ℕ) → List ℕ
ended_lines [] = []
ended_lines (line ∷ lines) = (line ++ 10 ∷ []) ++ ended_lines lines

text_ended : (ws : List (List (List ℕ))) → text_of ws ≡ ended_lines (map spaced ws)
text_ended [] = refl
text_ended (w ∷ ws) = ap (λ (xs : List ℕ). line_of w ++ xs) (text_ended ws)

ended_push : (lines : List (List ℕ)) (line : List ℕ) → ended_lines (lines ++ line ∷ []) ≡ ended_lines lines ++ (line ++ 10 ∷ [])
ended_push [] line = append-nil (line ++ 10 ∷ [])
ended_push (l ∷ ls) line =
    ap (λ (xs : List ℕ). (l ++ 10 ∷ []) ++ xs) (ended_push ls line) ∙ sym (append_assoc (l ++ 10 ∷ []) (ended_lines ls) (line ++ 10 ∷ []))

pub text_more : (j k : Job) (line : List ℕ) → map spaced (job_lines k) ≡ map spaced (job_lines j) ++ line ∷ []
    → job_text k ≡ job_text j ++ (line ++ 10 ∷ [])
text_more j k line e =
    text_ended (job_lines k) ∙ ap ended_lines e ∙ ended_push (map spaced (job_lines j)) line
    ∙ ap (λ (xs : List ℕ). xs ++ (line ++ 10 ∷ [])) (sym (text_ended (job_lines j)))

pub front_push : (text : List ℕ) (j k : Job) (rest line after : List ℕ) → IsFront text j rest → IsJob k
    → map spaced (job_lines k) ≡ map spaced (job_lines j) ++ line ∷ [] → IsSplit 10 rest line after → IsFront text k after
front_push text j k rest line after f is_job e split = record {
  is_job = is_job;
  joined = f.joined ∙ ap (λ (xs : List ℕ). job_text j ++ xs) split.joined
      ∙ ap (λ (xs : List ℕ). job_text j ++ xs) (sym (append_assoc line (10 ∷ []) after))
      ∙ sym (append_assoc (job_text j) (line ++ 10 ∷ []) after)
      ∙ ap (λ (xs : List ℕ). xs ++ after) (sym (text_more j k line e));
}
