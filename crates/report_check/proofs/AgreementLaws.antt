-- Yes is the verdict where a report agrees with an image.
use Rattle.std.proofs.Common.{◌≡◌, ℕ, zero, suc, ◌+◌, ◌<◌, ◌≤◌, ⊎_elim, Bool, true, false, List, [], ◌∷◌, ◌++◌, length, get_or, take, drop, Some, refl, sym, ap, ◌∙◌, subst, arith, add-one, count_by}
use Rattle.std.specs.Prelude.{◌↔◌, ◌==◌, filter, slice_get, if◌then◌else◌}
use Rattle.std.proofs.lemmas.Bool.{and_parts, cases_lt, eqb-true}
use Rattle.std.proofs.lemmas.List.{append-nil, length-append, take_all, take-append-drop}
use Rattle.std.proofs.lemmas.List.Elements.{All-take}
use Rattle.std.proofs.lemmas.List.Sums.{count_by_more_no, count_by_more_yes, sum_by_more, sum_by_more_le}
use Rattle.std.proofs.lemmas.Option.{get_or_from_slice_get, same_Some, slice_get_within, slice_get-get_or}
use Rattle.mont_base.specs.declared.operation.Entry.{Entry}
use Rattle.mont_base.specs.Layout.{Shape}
use Rattle.mont_base.specs.State.{State, Run}
use Rattle.mont_base.specs.History.{runs_of, state_after}
use Rattle.plain.proofs.Lists.{empty_of_length}
use Rattle.job_text.specs.declared.outcome.Outcome.{Outcome}
use Rattle.job_text.specs.declared.outcome.Outcome.TheVariants.{At, Synced, Ticked, Stuck, ClockEnd, Full, CountEnd, Halted, CutIn, Cut}
use Rattle.job_text.specs.Faithful.{AllNamedAt, LegalAt, RunsAt}
use Rattle.job_text.specs.Outcomes.{names_entry, times_named}
use Rattle.job_text.specs.Report.{Report}
use Rattle.job_text.specs.ReportRanges.{IsReport}
use Rattle.job_text.specs.Runs.{HasRuns, HaveRuns, is_range}
use Rattle.job_text.proofs.Runs.{spelled_all_long}
use Rattle.report_check.specs.declared.verdict.Verdict.TheVariants as verdicts
use Rattle.report_check.specs.HeldEntries.{EntryHolds, HoldTogether}
use Rattle.report_check.specs.HeldOutcomes.{AnswersRightly, IsFirstName, IsNamed, IsRight, OutcomeHolds, times_before}
use Rattle.report_check.specs.Lowest.{AllHold}
use Rattle.report_check.specs.ReportShape.{HasShape}
use Rattle.report_check.specs.ReportVerdict.{Agrees, CallersAt, IsVerdict}
use Rattle.report_check.proofs.ListRows.{item_there}
use Rattle.report_check.proofs.LongerHistories.{legal_front, runs_longer}
use Rattle.report_check.proofs.OutcomeWalk.{names_itself}
use Rattle.report_check.proofs.RangeReplies.{as_many_runs}

-- ---- the shape of reports
pub shape_of_report : (r : Report) → IsReport r → HasShape r
shape_of_report r is = record {
  base = is.base.1;
  histories = sym (spelled_all_long r.histories r.runs) ∙ is.histories.1;
  runs = is.runs;
  outcomes = is.callers;
  contents = is.contents.1;
}

runs_there : (hs : List (List Entry)) (rss : List (List Run)) (u : ℕ) (h : List Entry) → HaveRuns hs rss → slice_get hs u ≡ Some h
    → (rs : List Run) × (slice_get rss u ≡ Some rs) × HasRuns h rs
runs_there [] [] u h have there = absurd (cc)
runs_there [] (rs ∷ rss) u h have there = absurd (cc)
runs_there (g ∷ hs) [] u h have there = absurd have
runs_there (g ∷ hs) (rs ∷ rss) zero h have there =
    (rs, refl, subst (λ (x : List Entry). HasRuns x rs) (same_Some g h there) have.0)
runs_there (g ∷ hs) (rs ∷ rss) (suc u) h have there = runs_there hs rss u h have.1 there

-- ---- entries
module _ (r : Report) (shape : HasShape r) (all : AllHold (EntryHolds r)) where
  whole : (u : ℕ) (base : State) (h : List Entry) (rs : List Run) → slice_get r.base u ≡ Some base → slice_get r.histories u ≡ Some h
      → slice_get r.runs u ≡ Some rs → HoldTogether r u base rs h
  whole u base h rs e f k =
      subst (HoldTogether r u base rs) (take_all (length h + 1) h (omega arith)) (all u (length h) base h rs e f k)

  pub callers_at : (u : ℕ) → CallersAt r u
  callers_at u h f =
      let within = slice_get_within r.histories u h f in
      let one = shape.base in
      let two = shape.histories in
      let base = item_there r.base u (omega (arith, within, one, two)) in
      let rs = runs_there r.histories r.runs u h shape.runs f in
      (whole u base.0 h rs.0 base.1 f rs.1).callers

  pub legal_at : (u : ℕ) → LegalAt r.layout r.base_clock r.base r.histories u
  legal_at u base h e f =
      let rs = runs_there r.histories r.runs u h shape.runs f in
      (whole u base h rs.0 e f rs.1).legal

  pub runs_at : (u : ℕ) → RunsAt r r.base u
  runs_at u base h e f =
      let rs = runs_there r.histories r.runs u h shape.runs f in
      let held = whole u base h rs.0 e f rs.1 in
      let behind = held.runs.0 in
      let many : length rs.0 ≡ length (filter is_range h) = rs.2 in
      let own : length (runs_of base h) ≡ length (filter is_range h) = as_many_runs base h held.legal.replies in
      let both : length rs.0 ≡ length (runs_of base h) + length behind =
      ap (λ (x : List Run). length x) held.runs.1 ∙ length-append (runs_of base h) behind in
      let none : behind ≡ [] = empty_of_length behind (omega arith) in
      rs.1 ∙ ap Some (held.runs.1 ∙ ap (λ (x : List Run). runs_of base h ++ x) none ∙ append-nil (runs_of base h))

pub entries_hold : (r : Report) → ((u : ℕ) → CallersAt r u) → ((u : ℕ) → LegalAt r.layout r.base_clock r.base r.histories u)
    → ((u : ℕ) → RunsAt r r.base u) → AllHold (EntryHolds r)
entries_hold r callers legal runs u place base h rs e f k =
    let n = place + 1 in
    let own : rs ≡ runs_of base h = same_Some rs (runs_of base h) (sym k ∙ runs u base h e f) in
    record {
      legal = legal_front r.layout u base r.base_clock n h (legal u base h e f);
      runs = (
        runs_of (state_after base (take n h)) (drop n h),
        own ∙ ap (runs_of base) (sym (take-append-drop n h)) ∙ runs_longer base (take n h) (drop n h),
      );
      callers = All-take (λ (d : Entry). d.caller < r.callers) n h (callers u h f);
    }

-- ---- how often an entry is named
named_by : (u p : ℕ) (o : Outcome) → names_entry u p o ≡ true → o ≡ At u p
named_by u p (At unit place) is =
    let both = and_parts (unit == u) (place == p) is in
    let one = eqb-true unit u both.0 in
    let two = eqb-true place p both.1 in
    λ i. At (one i) (two i)
named_by u p (Synced e) is = absurd (cc)
named_by u p (Ticked e) is = absurd (cc)
named_by u p (Stuck a e) is = absurd (cc)
named_by u p ClockEnd is = absurd (cc)
named_by u p (Full a b c) is = absurd (cc)
named_by u p (CountEnd w) is = absurd (cc)
named_by u p (Halted a b) is = absurd (cc)
named_by u p (CutIn a) is = absurd (cc)
named_by u p Cut is = absurd (cc)

module _ (r : Report) (u p : ℕ) where
  -- an outcome that names it counts
  pub counts_once : (c i : ℕ) (os : List Outcome) → slice_get r.outcomes c ≡ Some os → slice_get os i ≡ Some (At u p)
      → times_before r c (take i os) u p + 1 ≤ times_named r.outcomes u p
  counts_once c i os known at =
      let within = slice_get_within r.outcomes c os known in
      let inside = slice_get_within os i (At u p) at in
      let callers = sum_by_more_le (λ (x : List Outcome). count_by (names_entry u p) x) r.outcomes c os within in
      let own : count_by (names_entry u p) (get_or r.outcomes c os) ≡ count_by (names_entry u p) os =
      ap (count_by (names_entry u p)) (get_or_from_slice_get r.outcomes c os os known) in
      let lines = sum_by_more_le (λ (x : Outcome). if names_entry u p x then 1 else 0) os i (At u p) inside in
      let one : ◌≡◌ {A = ℕ} (if names_entry u p (get_or os i (At u p)) then 1 else 0) 1 =
      ap (λ (o : Outcome). if names_entry u p o then 1 else 0) (get_or_from_slice_get os i (At u p) (At u p) at)
      ∙ ap (λ (b : Bool). if b then 1 else 0) (names_itself u p) in
      omega (arith, callers, own, lines, one)

  module _ (all : AllHold (OutcomeHolds r)) where
    at_most : (c : ℕ) (os : List Outcome) → slice_get r.outcomes c ≡ Some os → times_named (take c r.outcomes) u p ≤ 1 → (i : ℕ)
        → times_before r c (take i os) u p ≤ 1
    at_most c os known few zero = omega (arith, few)
    at_most c os known few (suc i) = ⊎_elim
        (λ (inside : i < length os). step inside (at_most c os known few i) (names_entry u p (get_or os i (At u p))) refl)
        (λ (past : length os ≤ i).
        subst (λ (x : List Outcome). times_before r c x u p ≤ 1)
        (take_all i os past ∙ sym (take_all (suc i) os (omega arith))) (at_most c os known few i))
        (cases_lt i (length os))
      where
        step : i < length os → times_before r c (take i os) u p ≤ 1 → (b : Bool) → names_entry u p (get_or os i (At u p)) ≡ b
            → times_before r c (take (suc i) os) u p ≤ 1
        step inside before true is =
            let o : get_or os i (At u p) ≡ At u p = named_by u p (get_or os i (At u p)) is in
            let at : slice_get os i ≡ Some (At u p) = slice_get-get_or os i (At u p) inside ∙ ap Some o in
            let first : times_before r c (take i os) u p ≡ 0 = (all c i os (At u p) known at).1 in
            let more = count_by_more_yes (names_entry u p) os i (At u p) inside is in
            subst (λ (n : ℕ). times_before r c (take n os) u p ≤ 1) (add-one i) (omega (arith, first, more))
        step inside before false is =
            let more = count_by_more_no (names_entry u p) os i (At u p) inside is in
            subst (λ (n : ℕ). times_before r c (take n os) u p ≤ 1) (add-one i) (omega (arith, before, more))

    few_callers : (c : ℕ) → times_named (take c r.outcomes) u p ≤ 1
    few_callers zero = omega arith
    few_callers (suc c) = ⊎_elim
        (λ (inside : c < length r.outcomes). step inside (few_callers c))
        (λ (past : length r.outcomes ≤ c).
        subst (λ (x : List (List Outcome)). times_named x u p ≤ 1)
        (take_all c r.outcomes past ∙ sym (take_all (suc c) r.outcomes (omega arith))) (few_callers c))
        (cases_lt c (length r.outcomes))
      where
        step : c < length r.outcomes → times_named (take c r.outcomes) u p ≤ 1 → times_named (take (suc c) r.outcomes) u p ≤ 1
        step inside few =
            let os = get_or r.outcomes c [] in
            let known : slice_get r.outcomes c ≡ Some os = slice_get-get_or r.outcomes c [] inside in
            let lines : times_before r c (take (length os) os) u p ≤ 1 = at_most c os known few (length os) in
            let own : count_by (names_entry u p) (take (length os) os) ≡ count_by (names_entry u p) os =
            ap (count_by (names_entry u p)) (take_all (length os) os (omega arith)) in
            let more = sum_by_more (λ (x : List Outcome). count_by (names_entry u p) x) r.outcomes c [] inside in
            subst (λ (n : ℕ). times_named (take n r.outcomes) u p ≤ 1) (add-one c) (omega (arith, lines, own, more))

    pub named_at_most_once : times_named r.outcomes u p ≤ 1
    named_at_most_once =
        subst (λ (x : List (List Outcome)). times_named x u p ≤ 1) (take_all (length r.outcomes) r.outcomes (omega arith))
        (few_callers (length r.outcomes))

-- ---- outcomes
pub named_once : (r : Report) → AllHold (OutcomeHolds r) → AllHold (IsNamed r) → (u : ℕ) → AllNamedAt r u
named_once r all named u p e there =
    let most = named_at_most_once r u p all in
    let least = named u p e there in
    omega (arith, most, least)

first_name : (r : Report) → ((u : ℕ) → AllNamedAt r u) → (c i : ℕ) (os : List Outcome) (o : Outcome) → slice_get r.outcomes c ≡ Some os
    → slice_get os i ≡ Some o → IsRight r c (take i os) o → IsFirstName r c (take i os) o
first_name r once c i os (At u p) known at right =
    let one = once u p right.answer.entry right.answer.there in
    let count = counts_once r u p c i os known at in
    omega (arith, one, count)
first_name r once c i os (Synced e) known at right = tt
first_name r once c i os (Ticked e) known at right = tt
first_name r once c i os (Stuck a e) known at right = tt
first_name r once c i os ClockEnd known at right = tt
first_name r once c i os (Full a b d) known at right = tt
first_name r once c i os (CountEnd w) known at right = tt
first_name r once c i os (Halted a b) known at right = tt
first_name r once c i os (CutIn a) known at right = tt
first_name r once c i os Cut known at right = tt

pub outcomes_hold : (r : Report) → AllHold (AnswersRightly r) → ((u : ℕ) → AllNamedAt r u) → AllHold (OutcomeHolds r)
outcomes_hold r right once c i os o known at =
    let is = right c i os o known at in (is, first_name r once c i os o known at is)

-- ---- the whole
pub yes_where_agreed : (r : Report) (s : Shape) (image : List ℕ) → HasShape r → IsVerdict r s image verdicts.Yes ↔ Agrees r s image
yes_where_agreed r s image shape = (
  λ yes.
      let names = yes.0.before.before in
      let outcomes = names.before in
      let histories = outcomes.before in
      record {
        layout = histories.layout;
        callers = callers_at r shape histories.entries;
        legal = legal_at r shape histories.entries;
        runs = runs_at r shape histories.entries;
        answers = λ c i os o known at. (outcomes.outcomes c i os o known at).0;
        named_once = named_once r outcomes.outcomes names.named;
        accepted = yes.0.before.accepted;
        clock = yes.0.clock;
        structures = λ u. (yes.1 u).0;
        cut = λ u. (yes.1 u).1;
      },
  λ agrees. (
    record {
      before = record {
        before = record {
          before = record {
            before = record {
              layout = agrees.layout;
              entries = entries_hold r agrees.callers agrees.legal agrees.runs;
            };
            outcomes = outcomes_hold r agrees.answers agrees.named_once;
          };
          named = λ u p e there. let one = agrees.named_once u p e there in omega (arith, one);
        };
        accepted = agrees.accepted;
      };
      clock = agrees.clock;
    },
    λ u. (agrees.structures u, agrees.cut u),
  ),
)
