-- The outcomes of a caller answer the caller's lines where each does as it comes.
use Rattle.std.proofs.Common.{◌≡◌, ℕ, ◌+◌, ◌<◌, Bool, true, false, ◌==◌, List, [], ◌∷◌, ◌++◌, length, get_or, take, drop, Option, Some, below_more, refl, sym, ap, ◌∙◌, subst, arith}
use Rattle.std.specs.Prelude.{◌↔◌, AllPairs, IsTrue, slice_get}
use Rattle.std.proofs.lemmas.Bool.Decides.{nat_tests}
use Rattle.std.proofs.lemmas.List.{get_or_default}
use Rattle.std.proofs.lemmas.List.Elements.{All-cons, All-head, All-nil, filter_passes}
use Rattle.std.proofs.lemmas.Option.{same_Some, slice_get-get_or, slice_get_within}
use Rattle.mont_base.specs.declared.record.Held.{Held}
use Rattle.job_text.specs.declared.job.Job.{Job}
use Rattle.job_text.specs.declared.job.Line.{Line}
use Rattle.job_text.specs.declared.outcome.Outcome.{Outcome}
use Rattle.job_text.specs.AnsweredLines.{Answers, AnswersLines}
use Rattle.job_text.specs.Faithful.{AnsweredAt, HasStop}
use Rattle.job_text.specs.Outcomes.{InOrder}
use Rattle.job_text.specs.Report.{Report, lines_of}
use Rattle.mont_check.specs.declared.progress.Progress.{Progress}
use Rattle.mont_check.specs.declared.moments.Finding.{Finding}
use Rattle.mont_check.specs.declared.moments.Finding.TheVariants.{Right, Wrong, Asks}
use Rattle.mont_check.specs.declared.moments.Question.{Question}
use Rattle.mont_check.specs.Ahead.{AreAhead}
use Rattle.mont_check.specs.AnsweredCallers.{Adds, AllMet, AnsweredLine, AnswersInOrder, AreCounted, TellsCaller}
use Rattle.mont_check.specs.Moments.{IsAheadOf, IsMet, IsRight, is_wrong, questions_in}
use Rattle.mont_check.specs.LineAnswers.{TellsAnswer}
use Rattle.mont_check.specs.Progress.{Allows, HasShown, Notes}
use Rattle.mont_check.proofs.Places.{pairs_at, pairs_more}
use Rattle.mont_check.proofs.QuestionLaws.{all_apart}
use Rattle.mont_check.proofs.ProgressLaws.{allows_where_in_order, one_more_shown}

module _ (j : Job) (r : Report) (records : List (List Held)) (lines : List Line) (os : List Outcome) (i : ℕ) (d : Outcome) (p : Progress)
    (within : i < length os) (shown : HasShown r.histories (take i os) p) where
  -- the answer to the line at hand
  pub line_told :
      (l : Line) (ahead : Option ℕ) (f : Finding) → i < length lines → l ≡ get_or lines i l
      → IsAheadOf r.layout (drop (i + 1) os) l.deed ahead → TellsAnswer j r l p (get_or os i d) ahead f
      → IsRight r records f ↔ AnsweredLine j r records lines os i
  line_told l ahead f low is first tells =
      let says : IsRight r records f
      ↔ Answers r (HasStop j l.caller) records l.caller (take i os) (drop (i + 1) os) l.deed (get_or os i d) =
      tells records (take i os) (drop (i + 1) os) shown first in
      let line_there : slice_get lines i ≡ Some l = slice_get-get_or lines i l low ∙ ap Some (sym is) in
      let outcome_there = slice_get-get_or os i d within in (
        λ yes k o at there.
            let line_same : l ≡ k = same_Some l k (sym line_there ∙ at) in
            let outcome_same : get_or os i d ≡ o = same_Some (get_or os i d) o (sym outcome_there ∙ there) in
            subst
            (λ (t : Line × Outcome). Answers r (HasStop j t.0.caller) records t.0.caller (take i os) (drop (i + 1) os) t.0.deed t.1)
            (λ n. (line_same n, outcome_same n)) (says.0 yes),
        λ each. says.1 (each l (get_or os i d) line_there outcome_there),
      )

  -- the same, where the places ahead are in a list
  pub line_found :
      (l : Line) (ahead : List (Option ℕ)) (e : Option ℕ) (f : Finding) → i < length lines → l ≡ get_or lines i l
      → AreAhead r.layout lines os ahead → TellsAnswer j r l p (get_or os i d) (get_or ahead i e) f
      → IsRight r records f ↔ AnsweredLine j r records lines os i
  line_found l ahead e f low is first tells =
      let many = first.as_many in
      line_told l (get_or ahead i e) f low is
      (first.each i l (get_or ahead i e) (slice_get-get_or lines i l low ∙ ap Some (sym is)) (slice_get-get_or ahead i e (omega arith)))
      tells

  -- an outcome that isn't allowed is out of order
  pub not_allowed : (Allows r.histories p (get_or os i d) → IsTrue false) → IsTrue false ↔ AnswersInOrder j r records lines os
  not_allowed refuted = (
    λ yes. absurd cc,
    λ a. refuted
        ((allows_where_in_order r.histories (take i os) p (get_or os i d) shown).1 (pairs_at (InOrder r.histories) os i d within a.order)),
  )

  pub more_in_order : Allows r.histories p (get_or os i d) → AllPairs (InOrder r.histories) (take i os)
      → AllPairs (InOrder r.histories) (take (i + 1) os)
  more_in_order allows before =
      pairs_more (InOrder r.histories) os i d within before
      ((allows_where_in_order r.histories (take i os) p (get_or os i d) shown).0 allows)

  pub more_shown : (q : Progress) → Notes r.histories (get_or os i d) p q → HasShown r.histories (take (i + 1) os) q
  more_shown q notes =
      one_more_shown r.histories os i (get_or os i d) p q within (get_or_default os i d (get_or os i d) within) shown notes

-- ---- the lines of one caller
own_lines : (j : Job) (caller i : ℕ) (l : Line) → slice_get (lines_of j caller) i ≡ Some l → l.caller ≡ caller
own_lines j caller i l there =
    let within = slice_get_within (lines_of j caller) i l there in
    let here : get_or (lines_of j caller) i l ≡ l = same_Some (get_or (lines_of j caller) i l) l
    (sym (slice_get-get_or (lines_of j caller) i l within) ∙ there) in
    let own : (l.caller == caller) ≡ true =
    subst (λ (k : Line). (k.caller == caller) ≡ true) here (filter_passes (λ (k : Line). k.caller == caller) j.lines i l within) in
    grind (arith, nat_tests)

pub answered_where :
    (j : Job) (r : Report) (records : List (List Held)) (caller : ℕ) (os : List Outcome) → slice_get r.outcomes caller ≡ Some os
    → AreCounted (lines_of j caller) os → AnswersInOrder j r records (lines_of j caller) os ↔ AnsweredAt j records r caller
answered_where j r records caller os known counted = (
  λ a qs at.
      let same : os ≡ qs = same_Some os qs (sym known ∙ at) in
      subst (AnswersLines r (HasStop j caller) records caller (lines_of j caller)) same
      (record {
        few = counted.few;
        all = counted.all;
        each = λ i l o line_at out_at.
            subst (λ (c : ℕ). Answers r (HasStop j c) records c (take i os) (drop (i + 1) os) l.deed o)
            (own_lines j caller i l line_at) (a.each i l o line_at out_at);
        order = a.order;
      }),
  λ answered.
      let a = answered os known in
      record {
        each = λ i l o line_at out_at.
            subst (λ (c : ℕ). Answers r (HasStop j c) records c (take i os) (drop (i + 1) os) l.deed o)
            (sym (own_lines j caller i l line_at)) (a.each i l o line_at out_at);
        order = a.order;
      },
)

-- who isn't counted doesn't answer
pub not_counted :
    (j : Job) (r : Report) (records : List (List Held)) (caller : ℕ) (os : List Outcome) → slice_get r.outcomes caller ≡ Some os
    → (AreCounted (lines_of j caller) os → IsTrue false) → ¬ AnsweredAt j records r caller
not_counted j r records caller os known refuted answered =
    let a = answered os known in absurd (let no = refuted (record { few = a.few; all = a.all }) in cc)

-- ---- questions that are added
-- what is told together with questions, of equal facts
pub adds_as :
    (r : Report) (P Q : List (List Held) → Type 0) (old new : List Question) (b : Bool)
    → ((records : List (List Held)) → P records ↔ Q records)
    → Adds r P old new b → Adds r Q old new b
adds_as r P Q old new b same adds records = (
  λ t. let both = (adds records).0 t in ((same records).0 both.0, both.1),
  λ t. (adds records).1 ((same records).1 t.0, t.1),
)

-- what isn't so
pub adds_never :
    (r : Report) (P : List (List Held) → Type 0) (old new : List Question) → ((records : List (List Held)) → ¬ P records)
    → Adds r P old new false
adds_never r P old new not records = (λ t. absurd (let no = t.0 in cc), λ t. absurd (not records t.0))

right_added :
    (r : Report) (records : List (List Held)) (f : Finding) (old : List Question) → is_wrong f ≡ false
    → AllMet r records (old ++ questions_in f) ↔ (IsRight r records f × AllMet r records old)
right_added r records Right old was =
    let apart = all_apart (IsMet r records) old [] in (λ all. (tt, (apart.0 all).0), λ both. apart.1 (both.1, All-nil (IsMet r records)))
right_added r records Wrong old was = absurd cc
right_added r records (Asks q) old was =
    let apart = all_apart (IsMet r records) old (q ∷ []) in (
      λ all. let both = apart.0 all in (All-head (IsMet r records) q [] both.1, both.0),
      λ both. apart.1 (both.1, All-cons (IsMet r records) q [] both.0 (All-nil (IsMet r records))),
    )

wrong_never : (r : Report) (records : List (List Held)) (f : Finding) → is_wrong f ≡ true → ¬ IsRight r records f
wrong_never r records Right was right = absurd cc
wrong_never r records Wrong was right = right
wrong_never r records (Asks q) was right = absurd cc

module _ (j : Job) (r : Report) (lines : List Line) (os : List Outcome) (old : List Question) where
  -- the lines until this one are answered
  abbrev pub AnsweredBelow : ℕ → List (List Held) → Type 0
  AnsweredBelow n records = (i : ℕ) → i < n → AnsweredLine j r records lines os i

  -- these questions ask for what the lines until this one want, besides the old ones
  abbrev pub AskFor : ℕ → List Question → Type 0
  AskFor n qs = (records : List (List Held)) → AllMet r records qs ↔ (AnsweredBelow n records × AllMet r records old)

  module _ (n : ℕ) (qs : List Question) (f : Finding) (asked : AskFor n qs)
      (says : (records : List (List Held)) → IsRight r records f ↔ AnsweredLine j r records lines os n) where
    pub ask_more : (new : List Question) → is_wrong f ≡ false → new ≡ qs ++ questions_in f → AskFor (n + 1) new
    ask_more new was is records = (
      λ all.
          let both = (right_added r records f qs was).0 (subst (AllMet r records) is all) in
          let earlier = (asked records).0 both.1 in
          (below_more (λ (i : ℕ). AnsweredLine j r records lines os i) n earlier.0 ((says records).0 both.0), earlier.1),
      λ both.
          subst (AllMet r records) (sym is)
          ((right_added r records f qs was).1
          ((says records).1 (both.0 n (omega arith)), (asked records).1 ((λ i low. both.0 i (omega arith)), both.1))),
    )

    pub ask_never : is_wrong f ≡ true → Adds r (λ records. AnswersInOrder j r records lines os) old qs false
    ask_never was records =
        (λ t. absurd (let never = t.0 in cc), λ t. absurd (wrong_never r records f was ((says records).1 (t.0.each n))))

  -- all lines are answered in order, with what these questions ask
  pub asked_for_all : (qs : List Question) → AskFor (length os) qs → AllPairs (InOrder r.histories) os
      → Adds r (λ records. AnswersInOrder j r records lines os) old qs true
  asked_for_all qs asked order records = (
    λ t.
        let both = (asked records).0 t.1 in
        (record { each = λ i l o line out. both.0 i (slice_get_within os i o out) l o line out; order = order }, both.1),
    λ t. (refl, (asked records).1 ((λ i low. t.0.each i), t.1)),
  )

-- ---- the questions of all callers
pub ask_caller :
    (j : Job) (r : Report) (n : ℕ) (old new : List Question) (b : Bool) → b ≡ true
    → ((records : List (List Held)) → AllMet r records old ↔ ((u : ℕ) → u < n → AnsweredAt j records r u)) → TellsCaller j r n old new b
    → (records : List (List Held)) → AllMet r records new ↔ ((u : ℕ) → u < n + 1 → AnsweredAt j records r u)
ask_caller j r n old new b was before tells records = (
  λ all.
      let both = (tells records).0 (subst (λ (v : Bool). IsTrue v) (sym was) refl, all) in
      below_more (λ (u : ℕ). AnsweredAt j records r u) n ((before records).0 both.1) both.0,
  λ each. ((tells records).1 (each n (omega arith), (before records).1 (λ u low. each u (omega arith)))).1,
)

pub never_caller :
    (j : Job) (r : Report) (n : ℕ) (old new : List Question) (b : Bool) → b ≡ false
    → ((records : List (List Held)) → AllMet r records old ↔ ((u : ℕ) → u < n → AnsweredAt j records r u)) → TellsCaller j r n old new b
    → (records : List (List Held)) → IsTrue false ↔ ((u : ℕ) → AnsweredAt j records r u)
never_caller j r n old new b was before tells records = (
  λ yes. absurd cc,
  λ each. subst (λ (v : Bool). IsTrue v) was ((tells records).1 (each n, (before records).1 (λ u low. each u))).0,
)
