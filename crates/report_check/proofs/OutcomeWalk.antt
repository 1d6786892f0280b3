-- A walk along the outcomes of a caller.
use Rattle.std.proofs.Common.{◌≡◌, ℕ, ◌+◌, ◌<◌, ◌≤◌, ⊎_elim, Bool, true, false, List, [], ◌∷◌, ◌++◌, length, get_or, take, Option, Some, None, refl, sym, ap, ◌∙◌, subst, arith, count_by}
use Rattle.std.specs.Prelude.{◌==◌, slice_get, slice_set, if◌then◌else◌}
use Rattle.std.proofs.lemmas.Bool.{and_parts, cases_lt, eqb-true}
use Rattle.std.proofs.lemmas.Bool.Decides.{nat_tests}
use Rattle.std.proofs.lemmas.List.{get_or_default, take_all, take_more}
use Rattle.std.proofs.lemmas.List.Sums.{sum_by_more, sum_by_push}
use Rattle.std.proofs.lemmas.Option.{same_Some, slice_get_within, slice_get-get_or, get_or_from_slice_get}
use Rattle.mont_base.specs.declared.operation.Entry.{Entry}
use Rattle.job_text.specs.declared.outcome.Outcome.{Outcome}
use Rattle.job_text.specs.declared.outcome.Outcome.TheVariants.{At, Synced, Ticked, Stuck, ClockEnd, Full, CountEnd, Halted, CutIn, Cut}
use Rattle.job_text.specs.Outcomes.{names_entry, times_named}
use Rattle.job_text.specs.Report.{Report}
use Rattle.report_check.specs.HeldOutcomes.{IsFirstName, IsRight, OutcomeHolds, times_before}
use Rattle.report_check.specs.Marks.{AreMarks, MarksOne, mark_at}
use Rattle.report_check.specs.declared.shown_names.ShownNames.{ShownNames}
use Rattle.report_check.specs.ShownNames.{HaveShown, IsNextEntry}
use Rattle.report_check.proofs.MarkLaws.{marked, marked_more, marks_same, unmarked}
use Rattle.report_check.proofs.NameLaws.{NamesNothing, named_rightly, names_nothing, next_of_right, shown_more, shown_same}

-- an entry is named by the outcome that names it, and by no other
pub names_itself : (unit place : ℕ) → names_entry unit place (At unit place) ≡ true
names_itself unit place = grind (arith, nat_tests)

pub names_other : (u p unit place : ℕ) → ((u ≡ unit) × (p ≡ place) → ⊥) → names_entry u p (At unit place) ≡ false
names_other u p unit place apart = by (names_entry u p (At unit place)) refl
  where
    by : (b : Bool) → names_entry u p (At unit place) ≡ b → names_entry u p (At unit place) ≡ false
    by false is = is
    by true is =
        let both = and_parts (unit == u) (place == p) is in
        absurd (apart (sym (eqb-true unit u both.0), sym (eqb-true place p both.1)))

count_more : (u p : ℕ) (os : List Outcome) (o : Outcome)
    → count_by (names_entry u p) (os ++ o ∷ []) ≡ count_by (names_entry u p) os + (if names_entry u p o then 1 else 0)
count_more u p os o = sum_by_push (λ (x : Outcome). if names_entry u p x then 1 else 0) os o

module _ (r : Report) (caller : ℕ) (before : List Outcome) (ms : List (List Bool)) where
  -- one outcome more, with its mark
  pub marks_with : (new : List (List Bool)) (unit place : ℕ) → AreMarks r.histories (times_before r caller before) ms
      → MarksOne unit place ms new → AreMarks r.histories (times_before r caller (before ++ At unit place ∷ [])) new
  marks_with new unit place are one =
      marked_more r.histories (times_before r caller before) (times_before r caller (before ++ At unit place ∷ [])) ms new unit place
      are one
      (let more = count_more unit place before (At unit place) in
      let yes : ◌≡◌ {A = ℕ} (if names_entry unit place (At unit place) then 1 else 0) 1 =
      ap (λ (b : Bool). if b then 1 else 0) (names_itself unit place) in
      omega (arith, more, yes))
      (λ u p apart.
      let more = count_more u p before (At unit place) in
      let none : ◌≡◌ {A = ℕ} (if names_entry u p (At unit place) then 1 else 0) 0 =
      ap (λ (b : Bool). if b then 1 else 0) (names_other u p unit place apart) in
      omega (arith, more, none))

  -- or without one, where it names nothing
  pub marks_without : (o : Outcome) → NamesNothing r.histories o → AreMarks r.histories (times_before r caller before) ms
      → AreMarks r.histories (times_before r caller (before ++ o ∷ [])) ms
  marks_without o free are =
      marks_same r.histories (times_before r caller before) (times_before r caller (before ++ o ∷ [])) ms
      (λ u p.
      let more = count_more u p before o in
      let none : ◌≡◌ {A = ℕ} (if names_entry u p o then 1 else 0) 0 = ap (λ (b : Bool). if b then 1 else 0) (free.names u p) in
      omega (arith, more, none)) are

-- ---- the outcomes of a caller that is there
module _ (r : Report) (caller : ℕ) (os : List Outcome) (known : slice_get r.outcomes caller ≡ Some os) where
  -- before the first outcome, and after the last
  pub marks_begin : (ms : List (List Bool)) → AreMarks r.histories (λ u p. times_named (take caller r.outcomes) u p) ms
      → AreMarks r.histories (times_before r caller []) ms
  marks_begin ms are =
      marks_same r.histories (λ u p. times_named (take caller r.outcomes) u p) (times_before r caller []) ms
      (λ u p. omega arith) are

  pub marks_end : (i : ℕ) (ms : List (List Bool)) → length os ≤ i → AreMarks r.histories (times_before r caller (take i os)) ms
      → AreMarks r.histories (λ u p. times_named (take (caller + 1) r.outcomes) u p) ms
  marks_end i ms past are =
      let within = slice_get_within r.outcomes caller os known in
      marks_same r.histories (times_before r caller (take i os)) (λ u p. times_named (take (caller + 1) r.outcomes) u p) ms
      (λ u p.
      let more = sum_by_more (λ (x : List Outcome). count_by (names_entry u p) x) r.outcomes caller os within in
      let own : count_by (names_entry u p) (get_or r.outcomes caller os) ≡ count_by (names_entry u p) (take i os) =
      ap (count_by (names_entry u p)) (get_or_from_slice_get r.outcomes caller os os known ∙ sym (take_all i os past)) in
      omega (arith, more, own)) are

  module _ (i : ℕ) (o : Outcome) (inside : i < length os) (is : o ≡ get_or os i o) where
    pub longer_outcomes : take i os ++ o ∷ [] ≡ take (i + 1) os
    longer_outcomes = ap (λ (x : Outcome). take i os ++ x ∷ []) is ∙ sym (take_more os i o inside)

    at_line : slice_get os i ≡ Some o
    at_line = slice_get-get_or os i o inside ∙ ap Some (sym is)

    pub outcome_holds : IsRight r caller (take i os) o → IsFirstName r caller (take i os) o → OutcomeHolds r caller i
    outcome_holds right first qs q e f =
        let one : os ≡ qs = same_Some os qs (sym known ∙ e) in
        let two : o ≡ q = same_Some o q (sym at_line ∙ ap (λ (x : List Outcome). slice_get x i) one ∙ f) in
        subst (λ (x : Outcome). IsRight r caller (take i qs) x × IsFirstName r caller (take i qs) x) two
        (subst (λ (x : List Outcome). IsRight r caller (take i x) o × IsFirstName r caller (take i x) o) one (right, first))

    pub outcome_needs : OutcomeHolds r caller i → IsRight r caller (take i os) o × IsFirstName r caller (take i os) o
    outcome_needs holds = holds os o known at_line

  pub outcomes_past : (i : ℕ) → length os ≤ i → ((n : ℕ) → n < i → OutcomeHolds r caller n) → (n : ℕ) → OutcomeHolds r caller n
  outcomes_past i past below n qs q e f = ⊎_elim
      (λ (low : n < i). below n low qs q e f)
      (λ (high : i ≤ n).
      let one : os ≡ qs = same_Some os qs (sym known ∙ e) in
      let within = slice_get_within qs n q f in
      let long : length os ≡ length qs = ap (λ (x : List Outcome). length x) one in
      absurd (omega (arith, within, long)))
      (cases_lt n i)

-- nothing is asked of an outcome that names nothing
asks_nothing : (r : Report) (caller : ℕ) (before : List Outcome) (o : Outcome) → ((u p : ℕ) → o ≡ At u p → ⊥)
    → IsRight r caller before o × IsFirstName r caller before o
asks_nothing r caller before (At u p) not = absurd (not u p refl)
asks_nothing r caller before (Synced e) not = (tt, tt)
asks_nothing r caller before (Ticked e) not = (tt, tt)
asks_nothing r caller before (Stuck u e) not = (tt, tt)
asks_nothing r caller before ClockEnd not = (tt, tt)
asks_nothing r caller before (Full a b c) not = (tt, tt)
asks_nothing r caller before (CountEnd w) not = (tt, tt)
asks_nothing r caller before (Halted u b) not = (tt, tt)
asks_nothing r caller before (CutIn u) not = (tt, tt)
asks_nothing r caller before Cut not = (tt, tt)

-- nothing is asked of a caller that isn't there
pub no_outcomes : (r : Report) (caller : ℕ) → slice_get r.outcomes caller ≡ None → (n : ℕ) → OutcomeHolds r caller n
no_outcomes r caller none n qs q e f = absurd (let t : ◌≡◌ {A = Option (List Outcome)} None (Some qs) = sym none ∙ e in cc)

-- ---- an outcome of a caller, after what was shown
module _ (r : Report) (caller : ℕ) (os : List Outcome) (known : slice_get r.outcomes caller ≡ Some os) (i : ℕ) (inside : i < length os)
    (n : ShownNames) (shown : HaveShown r.histories (take i os) n) (ms : List (List Bool))
    (are : AreMarks r.histories (times_before r caller (take i os)) ms) where
  module _ (d : Outcome) (unit place : ℕ) (at : get_or os i d ≡ At unit place) where
    is_item : At unit place ≡ get_or os i (At unit place)
    is_item = sym at ∙ get_or_default os i d (At unit place) inside

    pub line_fails_next : ((e : Entry) → IsNextEntry r caller n unit place e → ⊥) → ¬ OutcomeHolds r caller i
    line_fails_next none holds =
        let needs = outcome_needs r caller os known i (At unit place) inside is_item holds in
        let next = next_of_right r caller (take i os) n shown unit place needs.0 in
        none next.0 next.1

    pub line_fails_marked : mark_at ms unit place ≡ Some true → ¬ OutcomeHolds r caller i
    line_fails_marked is holds =
        let needs = outcome_needs r caller os known i (At unit place) inside is_item holds in
        let first : times_before r caller (take i os) unit place ≡ 0 = needs.1 in
        let some : 1 ≤ times_before r caller (take i os) unit place =
        marked r.histories (times_before r caller (take i os)) ms are unit place is in
        absurd (omega arith)

    module _ (e : Entry) (next : IsNextEntry r caller n unit place e) where
      pub line_holds : (mark_at ms unit place ≡ Some true → ⊥) → OutcomeHolds r caller i
      line_holds not =
          outcome_holds r caller os known i (At unit place) inside is_item
          (named_rightly r caller (take i os) n shown unit place e next)
          (unmarked r.histories (times_before r caller (take i os)) ms are unit place e next.there not)

      pub line_shown : (new : ShownNames) → new.calls ≡ n.calls + 1 → new.newest ≡ e.epoch
          → new.fronts ≡ slice_set n.fronts unit (place + 1) → HaveShown r.histories (take (i + 1) os) new
      line_shown new calls newest fronts =
          subst (λ (xs : List Outcome). HaveShown r.histories xs new)
          (longer_outcomes r caller os known i (At unit place) inside is_item)
          (shown_more r.histories (take i os) n new unit place next.front e shown next.there next.later next.known next.behind calls newest
          fronts)

    pub line_marked : (new : List (List Bool)) → MarksOne unit place ms new
        → AreMarks r.histories (times_before r caller (take (i + 1) os)) new
    line_marked new one =
        subst (λ (xs : List Outcome). AreMarks r.histories (times_before r caller xs) new)
        (longer_outcomes r caller os known i (At unit place) inside is_item)
        (marks_with r caller (take i os) ms new unit place are one)

  module _ (d : Outcome) (not : (u p : ℕ) → get_or os i d ≡ At u p → ⊥) where
    other_item : get_or os i d ≡ get_or os i (get_or os i d)
    other_item = get_or_default os i d (get_or os i d) inside

    pub other_holds : OutcomeHolds r caller i
    other_holds =
        let free = asks_nothing r caller (take i os) (get_or os i d) not in
        outcome_holds r caller os known i (get_or os i d) inside other_item free.0 free.1

    pub other_shown : HaveShown r.histories (take (i + 1) os) n
    other_shown =
        subst (λ (xs : List Outcome). HaveShown r.histories xs n)
        (longer_outcomes r caller os known i (get_or os i d) inside other_item)
        (shown_same r.histories (take i os) (get_or os i d) n shown (names_nothing r.histories (get_or os i d) not))

    pub other_marked : AreMarks r.histories (times_before r caller (take (i + 1) os)) ms
    other_marked =
        subst (λ (xs : List Outcome). AreMarks r.histories (times_before r caller xs) ms)
        (longer_outcomes r caller os known i (get_or os i d) inside other_item)
        (marks_without r caller (take i os) ms (get_or os i d) (names_nothing r.histories (get_or os i d) not) are)
