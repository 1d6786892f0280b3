-- The generated job is a job.
use Rattle.std.proofs.Common.{◌≡◌, ℕ, zero, suc, ◌+◌, ◌*◌, ◌<◌, ◌≤◌, List, [], ◌∷◌, ◌++◌, length, get_or, All, arith, lit≤, refl, subst, sym, ap, ◌∙◌, add-one, append_assoc}
use Rattle.std.specs.List.{flat_map, range_with_len}
use Rattle.std.proofs.lemmas.List.{length-append, map-id, flat_map_more}
use Rattle.std.proofs.lemmas.List.Elements.{All-nil, All-append, All-map}
use Rattle.std.proofs.lemmas.List.FromFn.{length-range_with_len, get_or-range_with_len, length-map-range_with_len, map-range_with_len_more}
use Rattle.mont_base.specs.declared.operation.Op.{Op}
use Rattle.mont_base.specs.Layout.{Shape}
use Rattle.job_text.specs.declared.job.Job.{Job}
use Rattle.job_text.specs.declared.job.Line.{Line}
use Rattle.job_text.specs.declared.job.Stop.{Stop}
use Rattle.job_text.specs.declared.job.Deed.TheVariants.{Call}
use Rattle.job_text.specs.Grammar.{job_of, IsJob, IsLine, IsStop}
use Rattle.big_job.specs.CallerWords.{first_word, next_word, word_after}
use Rattle.big_job.specs.GeneratedLines.{op_of}
use Rattle.big_job.specs.Generated.{line_of_caller, first_lines, lines_of_callers, generated_head, generated_job}
use Rattle.big_job.proofs.Asked.{asked, has_unit, word_small}

-- ---- lists of lines, line by line and caller by caller
pub first_none : (number caller : ℕ) → first_lines number caller 0 ≡ []
unfolding first_lines
first_none number caller = refl

pub first_more : (number caller line : ℕ) → first_lines number caller (line + 1)
    ≡ first_lines number caller line ++ line_of_caller number caller line ∷ []
unfolding first_lines
first_more number caller line = map-range_with_len_more (line_of_caller number caller) 0 line line (omega arith)

range_more : (n : ℕ) → range_with_len 0 (n + 1) ≡ range_with_len 0 n ++ n ∷ []
range_more n =
    sym (map-id (range_with_len 0 (n + 1))) ∙ map-range_with_len_more (λ i. i) 0 n n (omega arith)
    ∙ ap (λ ns. ns ++ n ∷ []) (map-id (range_with_len 0 n))

pub callers_none : (number count : ℕ) → lines_of_callers number count 0 ≡ []
unfolding lines_of_callers
callers_none number count = refl

pub callers_more : (number count caller : ℕ) → lines_of_callers number count (caller + 1)
    ≡ lines_of_callers number count caller ++ first_lines number caller count
unfolding lines_of_callers
callers_more number count caller =
    let of = λ (caller : ℕ). first_lines number caller count in
    ap (flat_map of) (range_more caller) ∙ sym (flat_map_more of [] (range_with_len 0 caller) caller)

-- ---- each of them is a line of the job
is_line : (number caller line : ℕ) → caller < 4 → line < 5000 → IsLine generated_head (line_of_caller number caller line)
is_line number caller line low few = record {
  caller = low;
  asked = asked caller line _ low few (word_small (first_word number caller) (line + 1) (omega arith));
  unit = has_unit caller line _ low few;
}

first_are : (number caller count : ℕ) → caller < 4 → count ≤ 5000 → All (IsLine generated_head) (first_lines number caller count)
unfolding first_lines
first_are number caller count low few =
    All-map (IsLine generated_head) (line_of_caller number caller) (range_with_len 0 count)
    (λ i d within. is_line number caller (get_or (range_with_len 0 count) i d) low
    (omega (arith, get_or-range_with_len 0 count i d (omega (arith, length-range_with_len 0 count)), length-range_with_len 0 count)))

lines_are : (number count a n : ℕ) → count ≤ 5000 → a + n ≤ 4
    → All (IsLine generated_head) (flat_map (λ caller. first_lines number caller count) (range_with_len a n))
lines_are number count a zero few low = All-nil (IsLine generated_head)
lines_are number count a (suc n) few low =
    All-append (IsLine generated_head) (first_lines number a count) _ (first_are number a count (omega arith) few)
    (lines_are number count (a + 1) n few (omega arith))

first_length : (number caller count : ℕ) → length (first_lines number caller count) ≡ count
unfolding first_lines
first_length number caller count = length-map-range_with_len (line_of_caller number caller) 0 count

lines_length : (number count a n : ℕ) → count ≤ 5000
    → length (flat_map (λ caller. first_lines number caller count) (range_with_len a n)) ≤ 5000 * n
lines_length number count a zero few = omega arith
lines_length number count a (suc n) few =
    let rest = flat_map (λ caller. first_lines number caller count) (range_with_len (a + 1) n) in
    omega (arith, length-append (first_lines number a count) rest, first_length number a count, lines_length number count (a + 1) n few)

pub is_job : (number : ℕ) → IsJob (generated_job number)
unfolding lines_of_callers
is_job number = record {
  head = record {
    layout = record {
      kinds = record { some = lit≤ tt; few = lit≤ tt };
      some_slots = lit≤ tt;
      few_slots = lit≤ tt;
    };
    some_callers = lit≤ tt;
    few_callers = lit≤ tt;
    few_attempts = lit≤ tt;
    mask = omega arith;
  };
  stops = All-nil (IsStop generated_head);
  rising = λ i k d low high. omega arith;
  lines = lines_are number 5000 0 4 (omega arith) (omega arith);
  few_lines = omega (arith, lines_length number 5000 0 4 (omega arith));
}

-- ---- as the program makes it
pub word_more : (first steps : ℕ) → word_after first (steps + 1) ≡ next_word (word_after first steps)
word_more first steps = rw add-one refl

pub lines_pushed : (number caller line word : ℕ) (op : Op) (start was now : List Line) → was ≡ start ++ first_lines number caller line
    → word ≡ word_after (first_word number caller) (line + 1) → op ≡ op_of caller line word
    → now ≡ was ++ record { caller = caller; deed = Call op } ∷ [] → now ≡ start ++ first_lines number caller (line + 1)
lines_pushed number caller line word op start was now before stepped made pushed =
    let so_far = first_lines number caller line in
    let with = λ (o : Op). let l : Line = record { caller = caller; deed = Call o } in l ∷ [] in
    pushed ∙ ap (λ ls. ls ++ with op) before ∙ append_assoc start so_far (with op)
    ∙ ap (λ o. start ++ (so_far ++ with o)) (made ∙ ap (op_of caller line) stepped)
    ∙ ap (λ ls. start ++ ls) (sym (first_more number caller line))

-- the job of the head, but for its layout
abbrev pub made_of : Shape → List Stop → List Line → Job
made_of layout stops lines = job_of (record generated_head { layout = layout }) stops lines

pub is_job_of : (number : ℕ) (layout : Shape) (stops : List Stop) (lines : List Line) → layout ≡ generated_head.layout → stops ≡ []
    → lines ≡ lines_of_callers number 5000 4 → IsJob (made_of layout stops lines)
is_job_of number layout stops lines same none all =
    let whole = generated_head.layout in
    let of_layout : Shape → Type 0 = λ s. IsJob (made_of s stops lines) in
    let of_stops : List Stop → Type 0 = λ ss. IsJob (made_of whole ss lines) in
    let of_lines : List Line → Type 0 = λ ls. IsJob (made_of whole [] ls) in
    subst of_layout (sym same) (subst of_stops (sym none) (subst of_lines (sym all) (is_job number)))
