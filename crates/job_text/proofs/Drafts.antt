-- Jobs in the making, with a stop or a line more.
use Rattle.std.proofs.Common.{◌≡◌, ◌≢◌, ℕ, ◌+◌, ◌<◌, false, ◌==◌, codes, decimal, inl, inr, List, [], ◌∷◌, ◌++◌, length, map, sym, ap, ◌∙◌, refl, subst, arith}
use Rattle.std.proofs.lemmas.List.{length-append, map-append}
use Rattle.std.proofs.lemmas.List.Elements.{All-nil}
use Rattle.std.proofs.lemmas.Bool.{ne_eqb}
use Rattle.job_text.specs.declared.draft.Draft.{Draft}
use Rattle.job_text.specs.declared.job.Job.{Job}
use Rattle.job_text.specs.declared.job.Line.{Line}
use Rattle.job_text.specs.declared.job.Stop.{Stop}
use Rattle.job_text.specs.declared.limits.TheConstants.{MOST_LINES}
use Rattle.job_text.specs.declared.job.JobFault.{JobFault}
use Rattle.job_text.specs.declared.job.JobFault.TheVariants as faults
use Rattle.job_text.specs.declared.job_refusal.JobRefusal.{JobRefusal}
use Rattle.job_text.specs.declared.job_refusal.JobRefusal.TheVariants.{Text, Read, Memory}
use Rattle.job_text.specs.Refused.{BeginsWith, IsRefusal}
use Rattle.job_text.proofs.Front.{IsFront, job_long}
use Rattle.job_text.proofs.Verdicts.{refused_stop, refused_operation}
use Rattle.job_text.specs.Lines.{spaced}
use Rattle.job_text.specs.Grammar.{head_of, job_of, IsJob, IsLine}
use Rattle.job_text.specs.JobText.{head_words, stop_words, line_words, deed_words, job_lines, first_word, BeginsStop, IsFirstRefused}
use Rattle.job_text.specs.Parts.{Lacks}
use Rattle.job_text.proofs.Splits.{Lacks-cons, Lacks-tested}
use Rattle.job_text.proofs.FirstWords.{first_word_split}
use Rattle.job_text.proofs.SeenWords.{line_parts, caller_digit}
use Rattle.job_text.specs.Draft.{so_far, lines_so_far, MayStop, Adds, NoneGoesOn, IsFaultBehind, IsNotAdded}
use Rattle.job_text.proofs.Grammars.{line_added, line_is, stop_added, stop_is, stop_rises}
use Rattle.job_text.proofs.JobItems.{job_goes_on}
use Rattle.job_text.proofs.JobWritten.{line_pushed, stop_pushed}

pub with_line : (d : Draft) (l : Line) (lines : List Line) → IsJob (so_far d) → lines_so_far d < MOST_LINES → IsLine d.head l
    → lines ≡ d.lines ++ l ∷ [] → Adds d (record { head = d.head; stops = d.stops; lines = lines }) (spaced (line_words l))
with_line d l lines h few is_line pushed =
    let first : List (List ℕ) = head_words d.head in
    subst (λ (ls : List Line). Adds d (record { head = d.head; stops = d.stops; lines = ls }) (spaced (line_words l))) (sym pushed)
    (record {
      draft = line_added d.head d.stops d.lines l h is_line (omega arith);
      lines = ap (map spaced) (sym (line_pushed first d.stops d.lines l))
          ∙ map-append spaced (first ∷ (map stop_words d.stops ++ map line_words d.lines)) (line_words l ∷ []);
      count = omega (arith, length-append d.lines (l ∷ []));
    })

pub with_stop : (d : Draft) (s : Stop) (stops : List Stop) → IsJob (so_far d) → lines_so_far d < MOST_LINES → MayStop d s
    → stops ≡ d.stops ++ s ∷ [] → Adds d (record { head = d.head; stops = stops; lines = d.lines }) (spaced (stop_words s))
with_stop d s stops h few may pushed =
    let first : List (List ℕ) = head_words d.head in
    let none : d.lines ≡ [] = may.early in
    let own : IsJob (job_of d.head d.stops []) = subst (λ (ls : List Line). IsJob (job_of d.head d.stops ls)) none h in
    subst (λ (ss : List Stop). Adds d (record { head = d.head; stops = ss; lines = d.lines }) (spaced (stop_words s))) (sym pushed)
    (record {
      draft = subst (λ (ls : List Line). IsJob (job_of d.head (d.stops ++ s ∷ []) ls)) (sym none)
          (stop_added d.head d.stops s own may.is_stop may.rising (omega arith));
      lines = subst
          (λ (ls : List Line). map spaced (first ∷ (map stop_words (d.stops ++ s ∷ []) ++ map line_words ls))
          ≡ map spaced (first ∷ (map stop_words d.stops ++ map line_words ls)) ++ spaced (stop_words s) ∷ []) (sym none)
          (ap (map spaced) (sym (stop_pushed first d.stops s))
          ∙ map-append spaced (first ∷ (map stop_words d.stops ++ map line_words [])) (stop_words s ∷ []));
      count = omega (arith, length-append d.stops (s ∷ []));
    })

-- ---- a job that goes on with a line has a stop or a line more, which may come next
module _ (d : Draft) (k : Job) (is_job : IsJob k) where
  more_line : (l : Line) → head_of k ≡ d.head → k.stops ≡ d.stops → k.lines ≡ d.lines ++ l ∷ [] → IsLine d.head l
  more_line l head stops lines =
      line_is d.head d.stops d.lines l (subst IsJob (λ i. job_of (head i) (stops i) (lines i)) is_job)

  more_stop : (s : Stop) → head_of k ≡ d.head → k.stops ≡ d.stops ++ s ∷ [] → k.lines ≡ [] → d.lines ≡ [] → MayStop d s
  more_stop s head stops lines none =
      let own : IsJob (job_of d.head (d.stops ++ s ∷ []) []) = subst IsJob (λ i. job_of (head i) (stops i) (lines i)) is_job in
      record { early = none; is_stop = stop_is d.head d.stops s own; rising = stop_rises d.head d.stops s own }

-- no job goes on with a line that spells neither
pub none_goes_on : (d : Draft) (line : List ℕ) → IsJob (so_far d) → ((l : Line) → IsLine d.head l → line ≢ spaced (line_words l))
    → ((s : Stop) → MayStop d s → line ≢ spaced (stop_words s)) → NoneGoesOn d line
none_goes_on d line h no_line no_stop k is_job e =
    let more = job_goes_on (so_far d) k line h is_job e in
    elim more.1 [
      | inl w ↦ no_line w.0 (more_line d k is_job w.0 more.0 w.1 w.2) w.3
      | inr w ↦ no_stop w.0 (more_stop d k is_job w.0 more.0 w.1 w.2 w.3) w.4
    ]

-- ---- which of both a line is, its first word tells
pub line_no_stop : (d : Draft) (line : List ℕ) (l : Line) → IsJob (so_far d) → IsLine d.head l → line ≡ spaced (line_words l)
    → BeginsStop line → ⊥
line_no_stop d line l h is_line is stop =
    let digit : decimal l.caller ≡ (48 + l.caller) ∷ [] = caller_digit d.head l h.head is_line in
    let whole : line ≡ (48 + l.caller) ∷ 32 ∷ spaced (deed_words l.deed) =
    is ∙ line_parts l ∙ ap (λ (c : List ℕ). c ++ 32 ∷ spaced (deed_words l.deed)) digit in
    let first : first_word line ≡ (48 + l.caller) ∷ [] = first_word_split line ((48 + l.caller) ∷ []) (spaced (deed_words l.deed))
    (record { joined = whole; first = caller_lacks l.caller }) in
    let same : (48 + l.caller) ∷ [] ≡ codes "stop" = sym first ∙ stop in
    omega (arith, ap length same)
  where
    caller_lacks : (n : ℕ) → Lacks 32 ((48 + n) ∷ [])
    caller_lacks n = Lacks-cons 32 (48 + n) [] (ne_eqb (48 + n) 32 (λ is. omega arith)) (All-nil (λ b. (b == 32) ≡ false))

pub stop_begins : (line : List ℕ) (s : Stop) → line ≡ spaced (stop_words s) → BeginsStop line
stop_begins line s is = first_word_split line (codes "stop") (spaced (decimal s.who ∷ decimal s.steps ∷ []))
    (record { joined = is; first = Lacks-tested 32 (codes "stop") refl })

-- ---- what is wrong with the line after a draft is what the text is refused for
module _ (text : List ℕ) (d : Draft) (rest line after : List ℕ) (f : IsFront text (so_far d) rest)
    (some : 0 < length rest) (b : BeginsWith rest (lines_so_far d) line after) where
  counted : lines_so_far d ≡ length (job_lines (so_far d))
  counted = sym (job_long (so_far d))

  begins : BeginsWith rest (length (job_lines (so_far d))) line after
  begins = subst (λ (n : ℕ). BeginsWith rest n line after) counted b

  refused_fault : (fault : JobFault) (more : List ℕ) → IsFaultBehind d line fault
      → IsFirstRefused (text ++ more) (length (job_lines (so_far d)) + 1) fault
  refused_fault faults.Many more h = absurd h
  refused_fault faults.Long more h = absurd h
  refused_fault faults.Unended more h = absurd h
  refused_fault faults.Header more h = absurd h
  refused_fault faults.Stop more h = refused_stop text (so_far d) rest more f some line after begins h.1 h.0
  refused_fault faults.Operation more h = refused_operation text (so_far d) rest more f some line after begins h.1 h.0

  pub refused_behind : (e : JobRefusal) → IsNotAdded d line e → IsRefusal text e
  refused_behind (Text at fault) h = λ more follows.
      subst (λ (n : ℕ). IsFirstRefused (text ++ more) n fault) (sym (h.0 ∙ ap (λ (n : ℕ). n + 1) counted)) (refused_fault fault more h.1)
  refused_behind Read h = h
  refused_behind Memory h = tt
