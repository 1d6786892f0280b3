-- The lines so far, and one more.
use Rattle.std.proofs.Common.{◌≡◌, ℕ, ◌+◌, ◌<◌, ◌≤◌, ◌==◌, true, false, Bool, filter, List, [], ◌∷◌, ◌++◌, length, map, take, drop, slice_get, refl, sym, ap, ◌∙◌, subst, arith, append_assoc, length-append, ◌⊎◌, inl, inr, cond, zero, suc, get_or}
use Rattle.std.specs.Prelude.{All, Any, Option, Some, None, count_by}
use Rattle.std.specs.List.{list_any, cons_option}
use Rattle.std.proofs.Math.Seq.{take-append_seam, drop-append-add, get_or-append_seam}
use Rattle.std.proofs.lemmas.List.{append-nil, take-append-le, drop-append-le}
use Rattle.std.proofs.lemmas.List.Elements.{All-append, All-cons, All-nil, filter_map-append}
use Rattle.std.proofs.lemmas.List.Filters.{length-filter_more}
use Rattle.std.proofs.lemmas.List.Sums.{sum_by-append}
use Rattle.std.proofs.lemmas.List.Quantifiers.{all_pairs_push}
use Rattle.std.proofs.lemmas.Bool.{false≢true}
use Rattle.std.proofs.lemmas.List.Folds.{list_any_none, list_any-from_Any}
use Rattle.std.proofs.lemmas.Option.{none-some, slice_get_within}
use Rattle.mont_base.specs.declared.operation.Receipt.{Receipt}
use Rattle.mont_base.specs.Faults.{Rose}
use Rattle.heap.specs.GateAsked.{IsAskedOften}
use Rattle.heap_rule.specs.declared.rule.Opening.{Opening}
use Rattle.heap_rule.specs.declared.views.CallerKnown.{CallerKnown}
use Rattle.job_text.specs.declared.job.Line.{Line}
use Rattle.job_text.specs.declared.outcome.Outcome.{Outcome}
use Rattle.job_text.specs.declared.outcome.Outcome.TheVariants as outcomes
use Rattle.job_text.specs.AnsweredLines.{Answers}
use Rattle.job_text.specs.Outcomes.{place_of, is_at, is_cut, InOrder}
use Rattle.job_text.specs.Report.{Report, lines_by}
use Rattle.caller.specs.Continued.{opened_records, GoesOn, IsUnanswered}
use Rattle.job_worker.specs.Ending.{IsBefore, IsAhead, IsTold, Ends, AreUncut, AreTold, AreEnds, cut_of, places_named, units_cut, place_answered}
use Rattle.job_worker.specs.Worked.{HasWorked}
use Rattle.job_worker.proofs.Fronts.{one_found}
use Rattle.job_worker.proofs.Gates.{asked_more}
use Rattle.job_worker.proofs.Later.{goes_same, goes_trans, continues_before, all_before, all_ahead, in_order}

-- ---- none yet
pub no_ends : (o : Opening) (q : CallerKnown) (lines : List Line) → IsUnanswered q → AreEnds o q q lines []
no_ends o q lines u = record {
  goes_on = goes_same q;
  calls = u.calls;
  receipts = ap (λ (v : List Receipt). map place_answered v) u.receipts;
  cuts = sym (append-nil q.part.cuts);
  stops = λ i j d less below. (let n : ⊥ = omega (arith, below) in absurd n);
  told = λ t c. record {
    answers = λ first last after cut a i l x hl hx. absurd (none-some x hx);
    before = All-nil (IsBefore t.histories q);
    order = λ i j d less below. (let n : ⊥ = omega (arith, below) in absurd n);
  };
}

-- ---- one more
-- an item of the longer list is one of the shorter, or the new one
pushed : {A : Type 0} (xs : List A) (x y : A) (i : ℕ) → slice_get (xs ++ x ∷ []) i ≡ Some y
    → ((i < length xs) × (slice_get xs i ≡ Some y)) ⊎ ((i ≡ length xs) × (y ≡ x))
pushed [] x y zero e = inr (refl, sym (one_found (Some x) x y refl e))
pushed [] x y (suc i) e = absurd (none-some y e)
pushed (z ∷ xs) x y zero e = inl (omega arith, e)
pushed (z ∷ xs) x y (suc i) e =
    elim (pushed xs x y i e) [ inl h ↦ (let n = h.0 in inl (omega (arith, n), h.1)) | inr h ↦ (let n = h.0 in inr (omega (arith, n), h.1)) ]

-- one that was cut is among the longer list
cut_pushed : (xs : List Outcome) (x : Outcome) → is_cut x ≡ true → Any (λ y. is_cut y ≡ true) (xs ++ x ∷ [])
cut_pushed xs x cut = (length xs, x, omega (arith, length-append xs (x ∷ [])), get_or-append_seam xs x [] x, cut)

uncut_none : (xs : List Outcome) → AreUncut xs → Any (λ y. is_cut y ≡ true) xs → ⊥
uncut_none xs u (k, x, below, is, cut) = false≢true (sym (u k x below) ∙ ap is_cut is ∙ cut)

-- what was before and after an earlier line, with one outcome more
answers_along : (o : Opening) (t : Report) (M : Type 0) (who : ℕ) (l : Line) (y : Outcome) (xs : List Outcome) (x : Outcome)
    (after : List Outcome) (i : ℕ) → i < length xs
    → Answers t M (opened_records o) who (take i xs) (drop (i + 1) xs ++ x ∷ after) l.deed y
    → Answers t M (opened_records o) who (take i (xs ++ x ∷ [])) (drop (i + 1) (xs ++ x ∷ []) ++ after) l.deed y
answers_along o t M who l y xs x after i below h =
    let fronts : take i xs ≡ take i (xs ++ x ∷ []) = sym (take-append-le i xs (x ∷ []) (omega (arith, below))) in
    let rests : drop (i + 1) xs ++ x ∷ after ≡ drop (i + 1) (xs ++ x ∷ []) ++ after =
    sym (append_assoc (drop (i + 1) xs) (x ∷ []) after)
    ∙ ap (λ (v : List Outcome). v ++ after) (sym (drop-append-le (i + 1) xs (x ∷ []) (omega (arith, below)))) in
    subst (λ (v : List Outcome). Answers t M (opened_records o) who v (drop (i + 1) (xs ++ x ∷ []) ++ after) l.deed y) fronts
    (subst (λ (v : List Outcome). Answers t M (opened_records o) who (take i xs) v l.deed y) rests h)

answers_last : (o : Opening) (t : Report) (M : Type 0) (who : ℕ) (l : Line) (xs : List Outcome) (x : Outcome)
    (after : List Outcome) → Answers t M (opened_records o) who xs after l.deed x
    → Answers t M (opened_records o) who (take (length xs) (xs ++ x ∷ [])) (drop (length xs + 1) (xs ++ x ∷ []) ++ after) l.deed x
answers_last o t M who l xs x after h =
    subst (λ (v : List Outcome). Answers t M (opened_records o) who v (drop (length xs + 1) (xs ++ x ∷ []) ++ after) l.deed x)
    (sym (take-append_seam xs (x ∷ [])))
    (subst (λ (v : List Outcome). Answers t M (opened_records o) who xs (v ++ after) l.deed x)
    (sym (drop-append-add xs (x ∷ []) 1)) h)

more_answers : (o : Opening) (t : Report) (q r s : CallerKnown) (lines : List Line) (xs : List Outcome) (line : Line)
    (x : Outcome) → AreUncut xs → AreTold o t q r lines xs → IsTold o t r s line.deed x → r.caller ≡ q.caller → GoesOn r s
    → count_by is_at xs ≡ r.part.calls → slice_get lines (length xs) ≡ Some line
    → (first last : ℕ) (after : List Outcome)
    → (Any (λ y. is_cut y ≡ true) (xs ++ x ∷ []) → Rose first last) → All (IsAhead s) after
    → (i : ℕ) (l : Line) (y : Outcome) → slice_get lines i ≡ Some l → slice_get (xs ++ x ∷ []) i ≡ Some y
    → Answers t (Rose first last) (opened_records o) q.caller (take i (xs ++ x ∷ []))
    (drop (i + 1) (xs ++ x ∷ []) ++ after) l.deed y
more_answers o t q r s lines xs line x u told new same g calls here first last after cut a i l y hl hy =
    elim (pushed xs x y i hy) [
      | inl h ↦ answers_along o t (Rose first last) q.caller l y xs x after i h.0
          (told.answers first last (x ∷ after) (λ any. absurd (uncut_none xs u any))
          (All-cons (IsAhead r) x after new.behind.places (all_ahead r s after g a)) i l y hl h.1)
      | inr h ↦ (
          let last_line : l ≡ line =
          one_found (slice_get lines (length xs)) l line (ap (λ (n : ℕ). slice_get lines n) (sym h.0) ∙ hl) here in
          let answer = new.answers first last xs after (λ e. cut (cut_pushed xs x e)) told.before a calls in
          let mine = subst (λ (who : ℕ). Answers t (Rose first last) (opened_records o) who xs after line.deed x) same answer in
          let at = subst (λ (v : Line). Answers t (Rose first last) (opened_records o) q.caller xs after v.deed x) (sym last_line) mine in
          let there = answers_last o t (Rose first last) q.caller l xs x after at in
          let out = subst (λ (n : ℕ). Answers t (Rose first last) (opened_records o) q.caller (take n (xs ++ x ∷ []))
          (drop (n + 1) (xs ++ x ∷ []) ++ after) l.deed x) (sym h.0) there in
          subst (λ (v : Outcome). Answers t (Rose first last) (opened_records o) q.caller (take i (xs ++ x ∷ []))
          (drop (i + 1) (xs ++ x ∷ []) ++ after) l.deed v) (sym h.1) out)
    ]

more_told : (o : Opening) (t : Report) (q r s : CallerKnown) (lines : List Line) (xs : List Outcome) (line : Line)
    (x : Outcome) → AreUncut xs → AreTold o t q r lines xs → IsTold o t r s line.deed x → r.caller ≡ q.caller → GoesOn r s
    → count_by is_at xs ≡ r.part.calls → slice_get lines (length xs) ≡ Some line
    → AreTold o t q s lines (xs ++ x ∷ [])
more_told o t q r s lines xs line x u told new same g calls here = record {
  answers = more_answers o t q r s lines xs line x u told new same g calls here;
  before = All-append (IsBefore t.histories s) xs (x ∷ []) (all_before t.histories r s xs g told.before)
      (All-cons (IsBefore t.histories s) x [] new.before (All-nil (IsBefore t.histories s)));
  order = all_pairs_push (InOrder t.histories) xs x told.order
      (λ k d below. in_order t.histories r _ x (u k d below) (told.before k d below) new.behind);
}

pub more_ends : (o : Opening) (q r s : CallerKnown) (lines : List Line) (xs : List Outcome) (line : Line) (x : Outcome)
    → AreUncut xs → AreEnds o q r lines xs → Ends o r s line.deed x → slice_get lines (length xs) ≡ Some line
    → AreEnds o q s lines (xs ++ x ∷ [])
more_ends o q r s lines xs line x u w e here = record {
  goes_on = goes_trans q r s w.goes_on e.goes_on;
  calls = e.calls ∙ ap (λ (n : ℕ). n + count_by is_at (x ∷ [])) w.calls
      ∙ sym (sum_by-append (λ y. cond (is_at y) 1 0) xs (x ∷ []));
  receipts = e.receipts ∙ ap (λ (v : List (ℕ × ℕ)). v ++ places_named (x ∷ [])) w.receipts
      ∙ sym (filter_map-append place_of xs (x ∷ []));
  cuts = e.cuts ∙ ap (λ (v : List ℕ). v ++ units_cut (x ∷ [])) w.cuts
      ∙ append_assoc q.part.cuts (units_cut xs) (units_cut (x ∷ []))
      ∙ ap (λ (v : List ℕ). q.part.cuts ++ v) (sym (filter_map-append cut_of xs (x ∷ [])));
  stops = all_pairs_push (λ a b. is_cut a ≡ false) xs x w.stops (λ k d below. u k d below);
  told = λ t c. more_told o t q r s lines xs line x u (w.told t (continues_before o t r s e.goes_on c)) (e.told t c)
      w.goes_on.caller e.goes_on (sym w.calls) here;
}

pub more_uncut : (xs : List Outcome) (x : Outcome) → AreUncut xs → is_cut x ≡ false → AreUncut (xs ++ x ∷ [])
more_uncut xs x u e =
    All-append (λ y. is_cut y ≡ false) xs (x ∷ []) u (All-cons (λ y. is_cut y ≡ false) x [] e (All-nil (λ y. is_cut y ≡ false)))

-- ---- all of them
pub all_lines : (o : Opening) (q r : CallerKnown) (lines : List Line) (xs : List Outcome) (first last : ℕ)
    → AreEnds o q r lines xs → length xs ≤ length lines
    → (length xs < length lines → Any (λ x. is_cut x ≡ true) xs)
    → (Any (λ x. is_cut x ≡ true) xs → Rose first last) → HasWorked o (Rose first last) q r lines xs
all_lines o q r lines xs first last w few all cut = record {
  answers = λ t c. record {
    few = few;
    all = all;
    each = λ i l x hl hx.
        subst
        (λ (v : List Outcome). Answers t (Rose first last) (opened_records o) q.caller (take i xs) v l.deed x)
        (append-nil (drop (i + 1) xs))
        ((w.told t c).answers first last [] cut (All-nil (IsAhead r)) i l x hl hx);
    order = (w.told t c).order;
  };
  receipts = sym w.receipts;
  cuts = w.cuts;
  stops = w.stops;
}

-- ---- how the lines end
uncut_unit : (x : Outcome) → is_cut x ≡ false → cut_of x ≡ None
uncut_unit (outcomes.CutIn unit) e = absurd (false≢true (sym e))
uncut_unit _ e = refl

no_units : (xs : List Outcome) → AreUncut xs → units_cut xs ≡ []
no_units [] u = refl
no_units (x ∷ xs) u =
    ap (λ (v : Option ℕ). cons_option v (units_cut xs)) (uncut_unit x (u 0 x (omega arith)))
    ∙ no_units xs (λ k d below. u (suc k) d (omega (arith, below)))

pub uncut_cuts : (o : Opening) (q r : CallerKnown) (lines : List Line) (xs : List Outcome) → AreEnds o q r lines xs
    → AreUncut xs → r.part.cuts ≡ q.part.cuts
uncut_cuts o q r lines xs w u =
    w.cuts ∙ ap (λ (v : List ℕ). q.part.cuts ++ v) (no_units xs u) ∙ append-nil q.part.cuts

-- one line more of the caller
pub own_more : (caller : ℕ) (lines : List Line) (i : ℕ) (line : Line) (n : ℕ) → i < length lines → line ≡ get_or lines i line
    → n ≡ length (lines_by caller (take i lines)) → (line.caller == caller) ≡ true → n + 1 ≡ length (lines_by caller (take (i + 1) lines))
own_more caller lines i line n below is count own =
    let at = ap (λ (l : Line). cond {A = ℕ} (l.caller == caller) 1 0) (sym is) ∙ ap (λ (t : Bool). cond {A = ℕ} t 1 0) own in
    omega (arith, length-filter_more (λ (l : Line). l.caller == caller) lines i line below, at, count)

-- a line that passes a test stands in the list of those that do after those of them before it
one_behind : (p : Line → Bool) (l : Line) (ls before : List Line) (line : Line) (b : Bool)
    → slice_get (filter p ls) (length (filter p before)) ≡ Some line
    → slice_get (cond b (l ∷ filter p ls) (filter p ls)) (length (cond b (l ∷ filter p before) (filter p before))) ≡ Some line
one_behind p l ls before line true there = there
one_behind p l ls before line false there = there

passing_there : (p : Line → Bool) (lines : List Line) (i : ℕ) (line : Line) → i < length lines → line ≡ get_or lines i line → p line ≡ true
    → slice_get (filter p lines) (length (filter p (take i lines))) ≡ Some line
passing_there p [] i line below is passes = absurd (omega arith)
passing_there p (l ∷ ls) zero line below is passes =
    let first : p l ≡ true = ap p (sym is) ∙ passes in
    ap (λ (b : Bool). slice_get (cond b (l ∷ filter p ls) (filter p ls)) 0) first ∙ ap Some (sym is)
passing_there p (l ∷ ls) (suc i) line below is passes =
    one_behind p l ls (take i ls) line (p l) (passing_there p ls i line (omega arith) is passes)

-- where a line of the caller stands whose outcome is the next
pub own_there : (caller : ℕ) (lines : List Line) (xs : List Outcome) (i : ℕ) (line : Line)
    → length xs ≡ length (lines_by caller (take i lines)) → i < length lines → line ≡ get_or lines i line
    → (line.caller == caller) ≡ true → slice_get (lines_by caller lines) (length xs) ≡ Some line
own_there caller lines xs i line count below is own =
    subst (λ (n : ℕ). slice_get (lines_by caller lines) n ≡ Some line) (sym count)
    (passing_there (λ (l : Line). l.caller == caller) lines i line below is own)

-- What is shown when the caller has stopped. The passes show what their gates counted.
pub record HasDone {P : Type 0} (cuts : P → ℕ) (endless : P → Bool) (held : P → CallerKnown) (has : P → Type 0)
    (o : Opening) (lines : List Line) (start now : P) (xs : List Outcome) : Type 0 where
  pub pass : has now
  pub goes_on : GoesOn (held start) (held now)
  pub gate : IsAskedOften cuts endless start now (list_any is_cut xs)
  pub worked : HasWorked o (Rose (cuts start) (cuts now)) (held start) (held now) lines xs

module _ {P : Type 0} (cuts : P → ℕ) (endless : P → Bool) (held : P → CallerKnown) (has : P → Type 0) (o : Opening)
    (lines : List Line) where
  pub done_all : (start now : P) (xs : List Outcome) → has now → IsAskedOften cuts endless start now false
      → length xs ≡ length lines → AreUncut xs → AreEnds o (held start) (held now) lines xs
      → HasDone cuts endless held has o lines start now xs
  done_all start now xs here gate count u w = record {
    pass = here;
    goes_on = w.goes_on;
    gate = subst (λ (b : Bool). IsAskedOften cuts endless start now b) (sym (list_any_none is_cut xs u)) gate;
    worked = all_lines o (held start) (held now) lines xs (cuts start) (cuts now) w (omega (arith, count))
        (λ less. let n : ⊥ = omega (arith, count, less) in absurd n) (λ any. absurd (uncut_none xs u any));
  }

  pub done_cut : (start mid now : P) (xs : List Outcome) (line : Line) (x : Outcome) → has now
      → IsAskedOften cuts endless start mid false → IsAskedOften cuts endless mid now (is_cut x) → is_cut x ≡ true
      → slice_get lines (length xs) ≡ Some line → AreUncut xs → AreEnds o (held start) (held mid) lines xs
      → Ends o (held mid) (held now) line.deed x → HasDone cuts endless held has o lines start now (xs ++ x ∷ [])
  done_cut start mid now xs line x here old new cut there u w e =
      let asked = asked_more cuts endless start mid now (is_cut x) old new in
      let any = cut_pushed xs x cut in
      let all = more_ends o (held start) (held mid) (held now) lines xs line x u w e there in
      record {
        pass = here;
        goes_on = all.goes_on;
        gate = subst (λ (b : Bool). IsAskedOften cuts endless start now b)
            (cut ∙ sym (list_any-from_Any is_cut (xs ++ x ∷ []) any)) asked;
        worked = all_lines o (held start) (held now) lines (xs ++ x ∷ []) (cuts start) (cuts now) all
            (let n = length-append xs (x ∷ []) in let m = slice_get_within lines (length xs) line there in omega (arith, n, m))
            (λ less. any) (λ more. asked.counted cut);
      }

  pub done_along : (start now then : P) (xs ys : List Outcome) → now ≡ then → xs ≡ ys
      → HasDone cuts endless held has o lines start then ys → HasDone cuts endless held has o lines start now xs
  done_along start now then xs ys e f d =
      subst (λ (p : P). HasDone cuts endless held has o lines start p xs) (sym e)
      (subst (λ (v : List Outcome). HasDone cuts endless held has o lines start then v) (sym f) d)
