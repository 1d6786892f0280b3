-- Which line of a text is refused first.
use Rattle.std.proofs.Common.{◌≡◌, ℕ, ◌+◌, ◌*◌, ◌<◌, ◌≤◌, lit<, lit≤, inl, inr, List, [], ◌∷◌, ◌++◌, length, map, take, get_or, sym, ap, ◌∙◌, refl, subst, arith}
use Rattle.std.proofs.lemmas.List.{append_assoc, append-nil, length-append, length-map, get_or_append_left}
use Rattle.std.proofs.Math.ListN.{get_or-map}
use Rattle.std.proofs.lemmas.Bool.{cases_eq}
use Rattle.job_text.specs.declared.job.Job.{Job}
use Rattle.job_text.specs.declared.job.JobFault.{JobFault}
use Rattle.job_text.specs.declared.job.JobFault.TheVariants as faults
use Rattle.job_text.specs.Lines.{spaced, parts_of, line_at, IsEnded, HasLine}
use Rattle.job_text.specs.declared.limits.TheConstants.{MOST_LINES, LINE_BYTES}
use Rattle.job_text.specs.Grammar.{IsJob, head_of}
use Rattle.job_text.specs.JobText.{head_words, job_lines, job_text, rank, BeginsStop, MayStand, IsFaultOf, IsFirstRefused}
use Rattle.job_text.specs.Parts.{Lacks, IsSplit}
use Rattle.job_text.specs.Refused.{MayExtend, BeginsWith, IsNoLine, HasNoHead, IsNoHead}
use Rattle.job_text.proofs.Parted.{parts_split, parts_lacking, line_split, length_front, some_part}
use Rattle.job_text.proofs.Front.{IsFront, job_short, job_long, few_job_lines, front_line, front_count, front_parts, front_ended, front_next, has_next, front_more, front_stands}

-- ---- what holds of each fault that is tried before another
module _ (P : JobFault → Type 0) where
  by_rank : (n : ℕ) → (0 < n → P faults.Many) → (1 < n → P faults.Long) → (2 < n → P faults.Unended) → (3 < n → P faults.Header)
      → (4 < n → P faults.Stop) → n < 6 → (other : JobFault) → rank other < n → P other
  by_rank n many long unended header stop small faults.Many h = many h
  by_rank n many long unended header stop small faults.Long h = long h
  by_rank n many long unended header stop small faults.Unended h = unended h
  by_rank n many long unended header stop small faults.Header h = header h
  by_rank n many long unended header stop small faults.Stop h = stop h
  by_rank n many long unended header stop small faults.Operation h = absurd (omega arith)

  none_of : {A : Type 0} (m n : ℕ) → n ≤ m → m < n → A
  none_of m n above below = absurd (omega arith)

  below_long : P faults.Many → (other : JobFault) → rank other < rank faults.Long → P other
  below_long many = by_rank 1 (λ _. many) (none_of 1 1 (lit≤ tt)) (none_of 2 1 (lit≤ tt)) (none_of 3 1 (lit≤ tt)) (none_of 4 1 (lit≤ tt))
      (lit< tt)

  below_unended : P faults.Many → P faults.Long → (other : JobFault) → rank other < rank faults.Unended → P other
  below_unended many long = by_rank 2 (λ _. many) (λ _. long) (none_of 2 2 (lit≤ tt)) (none_of 3 2 (lit≤ tt)) (none_of 4 2 (lit≤ tt))
      (lit< tt)

  below_header : P faults.Many → P faults.Long → P faults.Unended → (other : JobFault) → rank other < rank faults.Header → P other
  below_header many long unended = by_rank 3 (λ _. many) (λ _. long) (λ _. unended) (none_of 3 3 (lit≤ tt)) (none_of 4 3 (lit≤ tt))
      (lit< tt)

  below_stop : P faults.Many → P faults.Long → P faults.Unended → P faults.Header → (other : JobFault) → rank other < rank faults.Stop
      → P other
  below_stop many long unended header = by_rank 4 (λ _. many) (λ _. long) (λ _. unended) (λ _. header) (none_of 4 4 (lit≤ tt)) (lit< tt)

  below_operation : ((other : JobFault) → rank other < rank faults.Stop → P other) → P faults.Stop → (other : JobFault)
      → rank other < rank faults.Operation → P other
  below_operation lower stop = by_rank 5 (λ _. lower faults.Many (lit< tt)) (λ _. lower faults.Long (lit< tt))
      (λ _. lower faults.Unended (lit< tt)) (λ _. lower faults.Header (lit< tt)) (λ _. stop) (lit< tt)

-- ---- lines of a job have no fault
-- the bytes of one of them
line_of_job : (text : List ℕ) (j : Job) (rest : List ℕ) → IsFront text j rest → (i : ℕ) → i < length (job_lines j)
    → line_at text i ≡ spaced (get_or (job_lines j) i [])
line_of_job text j rest f i within =
    ap (λ (ps : List (List ℕ)). get_or ps i []) (front_parts text j rest f)
    ∙ get_or_append_left (map spaced (job_lines j)) (parts_of rest) [] i (omega (arith, length-map (job_lines j) spaced))
    ∙ get_or-map spaced (job_lines j) i []

pub fine_so_far : (text : List ℕ) (j : Job) (rest : List ℕ) → IsFront text j rest → (i : ℕ) → i < length (job_lines j)
    → (other : JobFault) → ¬ IsFaultOf text i other
fine_so_far text j rest f i within faults.Many x = omega (arith, few_job_lines j f.is_job)
fine_so_far text j rest f i within faults.Long x =
    let short = (job_short j f.is_job i [] within).1 in
    omega (arith, ap length (line_of_job text j rest f i within))
fine_so_far text j rest f i within faults.Unended x = x (omega (arith, front_count text j rest f, some_part rest))
fine_so_far text j rest f i within faults.Header x = x.1 (front_stands text j rest f i within)
fine_so_far text j rest f i within faults.Stop x = x.2 (front_stands text j rest f i within)
fine_so_far text j rest f i within faults.Operation x = x.2 (front_stands text j rest f i within)

IsSplit-more : (rest line after more : List ℕ) → IsSplit 10 rest line after → IsSplit 10 (rest ++ more) line (after ++ more)
IsSplit-more rest line after more split = record {
  joined = ap (λ (xs : List ℕ). xs ++ more) split.joined ∙ append_assoc line (10 ∷ after) more;
  first = split.first;
}

-- what is read of a text with so few short lines is less than what would be read
pub front_small : (text : List ℕ) (j : Job) (rest : List ℕ) → IsFront text j rest
    → length text ≤ (LINE_BYTES + 1) * length (job_lines j) + length rest
front_small text j rest f =
    let short = job_short j f.is_job in
    let front = length_front (job_lines j) (λ k d within. (short k d within).1) in
    omega (arith, ap length f.joined, length-append (job_text j) rest)

-- ---- the line after the front of a text
module _ (text : List ℕ) (j : Job) (rest more : List ℕ) (f : IsFront text j rest) (some : 0 < length rest) where
  longer : IsFront (text ++ more) j (rest ++ more)
  longer = front_more text j rest more f

  next_is : line_at (text ++ more) (length (job_lines j)) ≡ line_at (rest ++ more) 0
  next_is = front_line (text ++ more) j (rest ++ more) longer

  next_split : (line after : List ℕ) → IsSplit 10 rest line after → line_at (text ++ more) (length (job_lines j)) ≡ line
  next_split line after split = next_is ∙ line_split rest line after more split

  next_ended : (line after : List ℕ) → IsSplit 10 rest line after → IsEnded (text ++ more) (length (job_lines j))
  next_ended line after split = front_ended (text ++ more) j (rest ++ more) longer line (after ++ more)
      (IsSplit-more rest line after more split)

  abbrev Lacking : JobFault → Type 0
  Lacking fault = ¬ IsFaultOf (text ++ more) (length (job_lines j)) fault

  no_many : length (job_lines j) < MOST_LINES → Lacking faults.Many
  no_many early many = omega arith

  no_header : Lacking faults.Header
  no_header header = omega (arith, header.0, job_long j)

  refused_next : (fault : JobFault) → IsFaultOf (text ++ more) (length (job_lines j)) fault
      → ((other : JobFault) → rank other < rank fault → Lacking other) → IsFirstRefused (text ++ more) (length (job_lines j) + 1) fault
  refused_next fault has first = record {
    place = length (job_lines j);
    counted = refl;
    there = has_next (text ++ more) j (rest ++ more) longer (omega (arith, length-append rest more));
    has_fault = has;
    first_fault = first;
    first_line = λ i below other. fine_so_far (text ++ more) j (rest ++ more) longer i below other;
  }

  -- one line too many
  refused_many : MOST_LINES ≤ length (job_lines j) → IsFirstRefused (text ++ more) (length (job_lines j) + 1) faults.Many
  refused_many late = refused_next faults.Many (omega (arith, few_job_lines j f.is_job))
      (λ other below. absurd (omega arith))

  refused_long : length (job_lines j) < MOST_LINES → LINE_BYTES < length (line_at (rest ++ more) 0)
      → IsFirstRefused (text ++ more) (length (job_lines j) + 1) faults.Long
  refused_long early long = refused_next faults.Long (omega (arith, ap length next_is)) (below_long Lacking (no_many early))

  refused_unended : MayExtend text more → length (job_lines j) < MOST_LINES → Lacks 10 rest → length rest ≤ LINE_BYTES
      → IsFirstRefused (text ++ more) (length (job_lines j) + 1) faults.Unended
  refused_unended (inr all) early lacks short = absurd (omega (arith, front_small text j rest f))
  refused_unended (inl none) early lacks short =
      let only : rest ++ more ≡ rest = ap (λ (xs : List ℕ). rest ++ xs) none ∙ append-nil rest in
      let one : length (parts_of (rest ++ more)) ≡ 1 = ap (λ (xs : List ℕ). length (parts_of xs)) only
      ∙ ap length (parts_lacking rest lacks) in
      let whole : length (line_at (rest ++ more) 0) ≡ length rest =
      ap (λ (xs : List ℕ). length (line_at xs 0)) only ∙ ap (λ (ps : List (List ℕ)). length (get_or ps 0 [])) (parts_lacking rest lacks)
      in
      refused_next faults.Unended (λ ended. omega (arith, front_count (text ++ more) j (rest ++ more) longer))
      (below_unended Lacking (no_many early) (λ long. omega (arith, ap length next_is)))

  -- what is wrong with the bytes of the next line
  pub refused_line : MayExtend text more → (fault : JobFault) → IsNoLine rest (length (job_lines j)) fault
      → IsFirstRefused (text ++ more) (length (job_lines j) + 1) fault
  refused_line extends faults.Many h = refused_many h
  refused_line extends faults.Long h = refused_long h.0 (h.1 more)
  refused_line extends faults.Unended h = refused_unended extends h.0 h.1 h.2
  refused_line extends faults.Header h = absurd h
  refused_line extends faults.Stop h = absurd h
  refused_line extends faults.Operation h = absurd h

  -- a line that is ended, short and not one too many has none of the first three faults, and isn't the first
  module _ (line after : List ℕ) (b : BeginsWith rest (length (job_lines j)) line after)
      (none : (k : Job) → IsJob k → map spaced (job_lines k) ≡ map spaced (job_lines j) ++ line ∷ [] → ⊥) where
    line_fine : (other : JobFault) → rank other < rank faults.Stop → Lacking other
    line_fine = below_stop Lacking (no_many b.early) (λ long. omega (arith, ap length (next_split line after b.ended), b.short))
        (λ unended. unended (next_ended line after b.ended)) no_header

    none_stands : ¬ MayStand (text ++ more) (length (job_lines j))
    none_stands m = none m.job m.is_job (sym m.lines
        ∙ front_next (text ++ more) j (rest ++ more) longer line (after ++ more) (IsSplit-more rest line after more b.ended))

    pub refused_stop : BeginsStop line → IsFirstRefused (text ++ more) (length (job_lines j) + 1) faults.Stop
    refused_stop stop = refused_next faults.Stop
        (omega (arith, job_long j), subst BeginsStop (sym (next_split line after b.ended)) stop, none_stands) line_fine

    pub refused_operation : ¬ BeginsStop line → IsFirstRefused (text ++ more) (length (job_lines j) + 1) faults.Operation
    refused_operation no_stop =
        let here : ¬ BeginsStop (line_at (text ++ more) (length (job_lines j))) = λ stop.
        no_stop (subst BeginsStop (next_split line after b.ended) stop) in
        refused_next faults.Operation (omega (arith, job_long j), here, none_stands)
        (below_operation Lacking line_fine (λ stop. here stop.1))

-- ---- the first line
first_there : (text : List ℕ) → HasLine text 0
first_there text =
    elim (cases_eq (length (parts_of text)) 1) [ inl one ↦ inr (omega arith, inr refl) | inr more ↦ inl (omega (arith, some_part text)) ]

one_line : (line : List ℕ) (k : Job) → line ∷ [] ≡ map spaced (job_lines k) → line ≡ spaced (head_words (head_of k))
one_line line k e = cc

module _ (text more : List ℕ) where
  head_is : (line after : List ℕ) → IsSplit 10 text line after → line_at (text ++ more) 0 ≡ line
  head_is line after split = line_split text line after more split

  head_parts : (line after : List ℕ) → IsSplit 10 text line after → parts_of (text ++ more) ≡ line ∷ parts_of (after ++ more)
  head_parts line after split =
      let all = IsSplit-more text line after more split in
      ap parts_of all.joined ∙ parts_split line (after ++ more) all.first

  head_ended : (line after : List ℕ) → IsSplit 10 text line after → IsEnded (text ++ more) 0
  head_ended line after split = omega (arith, ap length (head_parts line after split), some_part (after ++ more))

  abbrev Without : JobFault → Type 0
  Without fault = ¬ IsFaultOf (text ++ more) 0 fault

  not_many : Without faults.Many
  not_many many = omega (arith, many)

  refused_first : (fault : JobFault) → IsFaultOf (text ++ more) 0 fault → ((other : JobFault) → rank other < rank fault → Without other)
      → IsFirstRefused (text ++ more) 1 fault
  refused_first fault has first = record {
    place = 0;
    counted = refl;
    there = first_there (text ++ more);
    has_fault = has;
    first_fault = first;
    first_line = λ i below other. absurd (omega arith);
  }

  refused_head_unended : MayExtend text more → Lacks 10 text → length text ≤ LINE_BYTES → IsFirstRefused (text ++ more) 1 faults.Unended
  refused_head_unended (inr all) lacks short = absurd (omega arith)
  refused_head_unended (inl none) lacks short =
      let only : text ++ more ≡ text = ap (λ (xs : List ℕ). text ++ xs) none ∙ append-nil text in
      let one : length (parts_of (text ++ more)) ≡ 1 = ap (λ (xs : List ℕ). length (parts_of xs)) only
      ∙ ap length (parts_lacking text lacks) in
      let whole : length (line_at (text ++ more) 0) ≡ length text =
      ap (λ (xs : List ℕ). length (line_at xs 0)) only ∙ ap (λ (ps : List (List ℕ)). length (get_or ps 0 [])) (parts_lacking text lacks)
      in
      refused_first faults.Unended (λ ended. omega (arith, ended)) (below_unended Without not_many (λ long. omega (arith, long)))

  -- no job's first line is this one
  none_begins : (w : HasNoHead text) → ¬ MayStand (text ++ more) 0
  none_begins w m =
      let first : take 1 (parts_of (text ++ more)) ≡ w.line ∷ [] = ap (take 1) (head_parts w.line w.after w.begins.ended) in
      w.none (head_of m.job) m.is_job.head (one_line w.line m.job (sym first ∙ m.lines))

  refused_no_head : HasNoHead text → IsFirstRefused (text ++ more) 1 faults.Header
  refused_no_head w =
      let here = head_is w.line w.after w.begins.ended in
      refused_first faults.Header (refl, none_begins w)
      (below_header Without not_many (λ long. omega (arith, ap length here, w.begins.short))
      (λ unended. unended (head_ended w.line w.after w.begins.ended)))

  pub refused_header : MayExtend text more → (fault : JobFault) → IsNoHead text fault → IsFirstRefused (text ++ more) 1 fault
  refused_header extends faults.Many h = absurd (omega (arith, h))
  refused_header extends faults.Long h = refused_first faults.Long (h.1 more) (below_long Without not_many)
  refused_header extends faults.Unended h = refused_head_unended extends h.1 h.2
  refused_header extends faults.Header h = refused_no_head h
  refused_header extends faults.Stop h = absurd h
  refused_header extends faults.Operation h = absurd h
