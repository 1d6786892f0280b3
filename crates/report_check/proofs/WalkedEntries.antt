-- A walk along the entries of a unit's history.
use Rattle.std.proofs.Common.{◌≡◌, ℕ, ◌+◌, ◌<◌, ◌≤◌, ⊎_elim, List, [], ◌∷◌, ◌++◌, length, get_or, take, Option, Some, None, refl, sym, ap, ◌∙◌, subst, arith}
use Rattle.std.specs.Prelude.{All, slice_get}
use Rattle.std.specs.List.{cons_option}
use Rattle.std.specs.Option.{option_to_list}
use Rattle.std.proofs.lemmas.List.{append_assoc, append_cancel_left, take_all, take_more}
use Rattle.std.proofs.lemmas.List.Elements.{All-nil, All-push}
use Rattle.std.proofs.lemmas.Option.{same_Some}
use Rattle.std.proofs.lemmas.Bool.{cases_lt}
use Rattle.mont_base.specs.declared.operation.Entry.{Entry}
use Rattle.mont_base.specs.declared.operation.Reply.{Reply}
use Rattle.mont_base.specs.State.{State, Run, step, run_of}
use Rattle.mont_base.specs.History.{IsLegal, runs_of, state_after}
use Rattle.mont_laws.proofs.Histories.{after_push}
use Rattle.plain.specs.Continues.{ContinuesHistory}
use Rattle.plain.proofs.Legal.{legal_none}
use Rattle.job_text.specs.Report.{Report}
use Rattle.report_check.specs.HeldEntries.{HoldTogether, EntryHolds, FrontHolds}
use Rattle.report_check.specs.Lowest.{IsFirst}
use Rattle.report_check.specs.NextEntry.{MayFollow}
use Rattle.report_check.proofs.LongerHistories.{IsNewest, newest_none, newest_more, legal_more, legal_next, runs_longer, the_last}

-- what a walk knows after these entries: the state, the newest epoch, and the runs that are left
pub record HasWalked (r : Report) (unit : ℕ) (base : State) (beside : List Run) (xs : List Entry)
    (now : State) (newest : ℕ) (left : List Run) : Type 0 where
  pub legal : IsLegal r.layout unit base r.base_clock xs
  pub callers : All (λ (e : Entry). e.caller < r.callers) xs
  pub state : now ≡ state_after base xs
  pub epochs : IsNewest r.base_clock xs newest
  pub runs : beside ≡ runs_of base xs ++ left

one_run : (o : Option Run) → cons_option o [] ≡ option_to_list o
one_run None = refl
one_run (Some run) = refl

module _ (r : Report) (unit : ℕ) (base : State) (beside : List Run) where
  pub walked_none : (now : State) (left : List Run) → now ≡ base → beside ≡ left
      → HasWalked r unit base beside [] now r.base_clock left
  walked_none now left stands all = record {
    legal = legal_none r.layout unit base r.base_clock;
    callers = All-nil (λ (e : Entry). e.caller < r.callers);
    state = stands;
    epochs = newest_none r.base_clock;
    runs = all;
  }

  pub walked_hold : (xs : List Entry) (now : State) (newest : ℕ) (left : List Run)
      → HasWalked r unit base beside xs now newest left → HoldTogether r unit base beside xs
  walked_hold xs now newest left w = record { legal = w.legal; runs = (left, w.runs); callers = w.callers }

  module _ (xs : List Entry) (now : State) (newest : ℕ) (left : List Run) (w : HasWalked r unit base beside xs now newest left)
      (e : Entry) where
    one_more_run : runs_of base (xs ++ e ∷ []) ≡ runs_of base xs ++ option_to_list (run_of now e.op)
    one_more_run =
        runs_longer base xs (e ∷ []) ∙ ap (λ rs. runs_of base xs ++ rs) (one_run (run_of (state_after base xs) e.op))
        ∙ ap (λ s. runs_of base xs ++ option_to_list (run_of s e.op)) (sym w.state)

    pub walked_more : (behind : List Run) (reply : Reply) (next : State) → MayFollow r unit newest e
        → left ≡ option_to_list (run_of now e.op) ++ behind → reply ≡ (step now e.op).reply → e.reply ≡ reply
        → next ≡ (step now e.op).state → HasWalked r unit base beside (xs ++ e ∷ []) next e.epoch behind
    walked_more behind reply next may run answered same stepped = record {
      legal = legal_more r.layout unit base r.base_clock xs e newest w.epochs w.legal (record {
        of_unit = may.of_unit;
        replied = same ∙ answered ∙ ap (λ s. (step s e.op).reply) w.state;
        later = may.later;
        last = may.last;
      });
      callers = All-push (λ (d : Entry). d.caller < r.callers) xs e w.callers may.caller;
      state = stepped ∙ ap (λ s. (step s e.op).state) w.state ∙ sym (after_push base xs e);
      epochs = newest_more r.base_clock xs newest e w.epochs may.later;
      runs = w.runs ∙ ap (λ rs. runs_of base xs ++ rs) run
          ∙ sym (append_assoc (runs_of base xs) (option_to_list (run_of now e.op)) behind)
          ∙ ap (λ rs. rs ++ behind) (sym one_more_run);
    }

    -- what the next entry needs
    module _ (h : HoldTogether r unit base beside (xs ++ e ∷ [])) where
      next : ContinuesHistory r.layout unit newest (step (state_after base xs) e.op).reply e
      next = legal_next r.layout unit base r.base_clock xs e newest w.epochs h.legal

      pub needs_follow : MayFollow r unit newest e
      needs_follow = record {
        of_unit = next.of_unit;
        later = next.later;
        last = next.last;
        caller = the_last xs e (λ (d : Entry). d.caller < r.callers) h.callers;
      }

      pub needs_reply : e.reply ≡ (step now e.op).reply
      needs_reply = next.replied ∙ ap (λ s. (step s e.op).reply) (sym w.state)

      pub needs_run : (behind : List Run) × (left ≡ option_to_list (run_of now e.op) ++ behind)
      needs_run = (
        h.runs.0,
        append_cancel_left (runs_of base xs) left (option_to_list (run_of now e.op) ++ h.runs.0)
            (sym w.runs ∙ h.runs.1 ∙ ap (λ rs. rs ++ h.runs.0) one_more_run
            ∙ append_assoc (runs_of base xs) (option_to_list (run_of now e.op)) h.runs.0),
      )

-- ---- a place
module _ (r : Report) (unit : ℕ) (base : State) (beside : List Run) (h : List Entry) where
  -- after the last entry nothing is added
  pub all_fronts : (i : ℕ) → length h ≤ i → HoldTogether r unit base beside (take i h)
      → ((place : ℕ) → place < i → FrontHolds r unit base beside h place) → (place : ℕ) → FrontHolds r unit base beside h place
  all_fronts i past whole below place = ⊎_elim
      (λ (low : place < i). below place low)
      (λ (high : i ≤ place).
      subst (HoldTogether r unit base beside) (take_all i h past ∙ sym (take_all (place + 1) h (omega arith))) whole)
      (cases_lt place i)

  module _ (i : ℕ) (e : Entry) (inside : i < length h) (is : e ≡ get_or h i e) where
    longer : take i h ++ e ∷ [] ≡ take (i + 1) h
    longer = ap (λ (x : Entry). take i h ++ x ∷ []) is ∙ sym (take_more h i e inside)

    pub at_place : FrontHolds r unit base beside h i → HoldTogether r unit base beside (take i h ++ e ∷ [])
    at_place holds = subst (HoldTogether r unit base beside) (sym longer) holds

    pub walked_on : (now : State) (newest : ℕ) (left : List Run)
        → HasWalked r unit base beside (take i h ++ e ∷ []) now newest left
        → HasWalked r unit base beside (take (i + 1) h) now newest left
    walked_on now newest left w = subst (λ (xs : List Entry). HasWalked r unit base beside xs now newest left) longer w

-- ---- a unit that is there
module _ (r : Report) (unit : ℕ) (base : State) (h : List Entry) (beside : List Run) (opened : slice_get r.base unit ≡ Some base)
    (kept : slice_get r.histories unit ≡ Some h) (told : slice_get r.runs unit ≡ Some beside) where
  holds_at : (place : ℕ) → FrontHolds r unit base beside h place → EntryHolds r unit place
  holds_at place is b g rs e f k =
      let one : base ≡ b = same_Some base b (sym opened ∙ e) in
      let two : h ≡ g = same_Some h g (sym kept ∙ f) in
      let three : beside ≡ rs = same_Some beside rs (sym told ∙ k) in
      subst (λ (x : State). FrontHolds r unit x rs g place) one
      (subst (λ (x : List Entry). FrontHolds r unit base rs x place) two
      (subst (λ (x : List Run). FrontHolds r unit base x h place) three is))

  pub first_of_unit : (o : Option ℕ) → IsFirst (FrontHolds r unit base beside h) o → IsFirst (EntryHolds r unit) o
  first_of_unit None all = λ place. holds_at place (all place)
  first_of_unit (Some place) is = record {
    before = λ p low. holds_at p (is.before p low);
    fails = λ holds. is.fails (holds base h beside opened kept told);
  }

-- nothing is asked of a unit that isn't there
pub no_base : (r : Report) (unit : ℕ) → slice_get r.base unit ≡ None → IsFirst (EntryHolds r unit) None
no_base r unit none place b g rs e f k = absurd (cc)

pub no_history : (r : Report) (unit : ℕ) → slice_get r.histories unit ≡ None → IsFirst (EntryHolds r unit) None
no_history r unit none place b g rs e f k = absurd (cc)

pub no_runs : (r : Report) (unit : ℕ) → slice_get r.runs unit ≡ None → IsFirst (EntryHolds r unit) None
no_runs r unit none place b g rs e f k = absurd (cc)
