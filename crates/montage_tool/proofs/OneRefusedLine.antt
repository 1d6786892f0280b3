-- Texts of reports and of schedules have one first line that is refused, and a schedule one first event that isn't allowed.
use Rattle.std.proofs.Common.{◌≡◌, ℕ, zero, suc, ◌<◌, ◌≤◌, List, [], ◌∷◌, ◌++◌, length, take, inl, inr, refl, sym, ap, ◌∙◌, subst, arith, ⊎_elim}
use Rattle.std.specs.Prelude.{Option, Some, None, slice_get}
use Rattle.std.proofs.lemmas.Bool.{cases_lt}
use Rattle.std.proofs.lemmas.List.{append_assoc}
use Rattle.core_steps.specs.declared.parts.Core.{Core}
use Rattle.core_steps.specs.declared.event.Event.{Event}
use Rattle.core_steps.specs.CoreRuns.{after_all}
use Rattle.core_steps.specs.Events.{after}
use Rattle.job_text.specs.ReportRanges.{IsFirstWrong}
use Rattle.job_text.specs.TextParts.{Row}
use Rattle.replay.specs.declared.schedule.Schedule.{Schedule}
use Rattle.replay.specs.Replays.{IsFirstNotAllowed, MayMake, MayMakeAll, fresh_core}
use Rattle.replay.specs.Schedules.{Move, moves}
use Rattle.replay.specs.ScheduleText.{IsFirstRefused}
use Rattle.replay.proofs.Moves.{events_back, events_in}
use Rattle.montage_tool.specs.Judged.{IsWrongReport}

-- ---- reports
record IsLonger {A : Type 0} (xs ys others : List A) : Type 0 where
  next : A
  behind : List A
  rest : List A
  others_are : others ≡ next ∷ behind
  ys_is : ys ≡ xs ++ (next ∷ rest)

head_of : {A : Type 0} (x y : A) (xs ys : List A) → ◌≡◌ {A = List A} (x ∷ xs) (y ∷ ys) → x ≡ y
head_of x y xs ys e = cc

tail_of : {A : Type 0} (x y : A) (xs ys : List A) → ◌≡◌ {A = List A} (x ∷ xs) (y ∷ ys) → xs ≡ ys
tail_of x y xs ys e = cc

longer : {A : Type 0} (xs others ys bs : List A) → xs ++ others ≡ ys ++ bs → length xs < length ys → IsLonger xs ys others
longer [] others [] bs e few = absurd (omega arith)
longer [] others (y ∷ ys) bs e few = record { next = y; behind = ys ++ bs; rest = ys; others_are = e; ys_is = refl }
longer (x ∷ xs) others [] bs e few = absurd (omega arith)
longer {A} (x ∷ xs) others (y ∷ ys) bs e few =
    let more = longer xs others ys bs (tail_of x y (xs ++ others) (ys ++ bs) e) (omega arith) in
    record {
      next = more.next;
      behind = more.behind;
      rest = more.rest;
      others_are = more.others_are;
      ys_is = λ i. sym (head_of x y (xs ++ others) (ys ++ bs) e) i ∷ more.ys_is i;
    }

module _ (text : List ℕ) (m n : ℕ) (a : IsFirstWrong text m) (b : IsFirstWrong text n) where
  not_earlier : length a.before < length b.before → ⊥
  not_earlier few =
      let more = longer a.before a.after b.before b.after (sym a.lines ∙ b.lines) few in
      let begun = b.begins in
      a.wrong more.next more.behind more.others_are (
        begun.0,
        begun.1,
        more.rest ++ begun.2,
        begun.3
            ∙ ap (λ (rows : List Row). rows ++ begun.2) (more.ys_is ∙ sym (append_assoc a.before (more.next ∷ []) more.rest))
            ∙ append_assoc (a.before ++ (more.next ∷ [])) more.rest begun.2,
      )

one_wrong : (text : List ℕ) (m n : ℕ) → IsFirstWrong text m → IsFirstWrong text n → m ≡ n
one_wrong text m n a b = ⊎_elim
    (λ (l : length a.before < length b.before). absurd (not_earlier text m n a b l))
    (λ (l : length b.before ≤ length a.before). ⊎_elim
    (λ (k : length b.before < length a.before). absurd (not_earlier text n m b a k))
    (λ (k : length a.before ≤ length b.before). omega (arith, a.counted, b.counted))
    (cases_lt (length b.before) (length a.before)))
    (cases_lt (length a.before) (length b.before))

pub one_wrong_report : (text : List ℕ) (m n : ℕ) → IsWrongReport text m → IsWrongReport text n → m ≡ n
one_wrong_report text m n (inl a) (inl b) = a.0 ∙ sym b.0
one_wrong_report text m n (inl a) (inr b) = let many = a.1 in let few = b.0 in absurd (omega arith)
one_wrong_report text m n (inr a) (inl b) = let many = b.1 in let few = a.0 in absurd (omega arith)
one_wrong_report text m n (inr a) (inr b) = one_wrong text m n a.1 b.1

-- ---- schedules
pub one_refused_line : (text : List ℕ) (m n : ℕ) → IsFirstRefused text m → IsFirstRefused text n → m ≡ n
one_refused_line text m n a b = ⊎_elim
    (λ (l : a.place < b.place). absurd (a.refused (b.first_line a.place l)))
    (λ (l : b.place ≤ a.place). ⊎_elim
    (λ (k : b.place < a.place). absurd (b.refused (a.first_line b.place k)))
    (λ (k : a.place ≤ b.place). omega (arith, a.counted, b.counted))
    (cases_lt b.place a.place))
    (cases_lt a.place b.place)

-- where the moves up to a later place may be made, each of them may
allowed_at : (c : Core) (ms : List Move) (n i : ℕ) (m : Move) → i < n → MayMakeAll c (take n ms) → slice_get ms i ≡ Some m
    → MayMake (after_all c (take i (events_in ms))) m
allowed_at c [] n i m low all at = absurd (let none : ◌≡◌ {A = Option Move} None (Some m) = at in cc)
allowed_at c (x ∷ ms) zero i m low all at = absurd (omega arith)
allowed_at c (x ∷ ms) (suc n) zero m low all at =
    let same : x ≡ m = (let both : ◌≡◌ {A = Option Move} (Some x) (Some m) = at in cc) in subst (MayMake c) same all.0
allowed_at c (x ∷ ms) (suc n) (suc i) m low all at = allowed_at (after c x.0) ms n i m (omega arith) all.1 at

not_sooner : (s : Schedule) (m n : ℕ) (a : IsFirstNotAllowed s m) (b : IsFirstNotAllowed s n) → a.place < b.place → ⊥
not_sooner s m n a b low =
    a.not_allowed
    (subst (λ (es : List Event). MayMake (after_all (fresh_core s) (take a.place es)) a.move) (events_back s.events s.runs)
    (allowed_at (fresh_core s) (moves s) b.place a.place a.move low b.before a.there))

pub one_not_allowed : (s : Schedule) (m n : ℕ) → IsFirstNotAllowed s m → IsFirstNotAllowed s n → m ≡ n
one_not_allowed s m n a b = ⊎_elim
    (λ (l : a.place < b.place). absurd (not_sooner s m n a b l))
    (λ (l : b.place ≤ a.place). ⊎_elim
    (λ (k : b.place < a.place). absurd (not_sooner s n m b a k))
    (λ (k : a.place ≤ b.place). omega (arith, a.counted, b.counted))
    (cases_lt b.place a.place))
    (cases_lt a.place b.place)
