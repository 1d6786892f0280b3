-- What a caller's outcomes have shown, and one outcome more.
use Rattle.std.proofs.Common.{◌≡◌, ◌≢◌, ℕ, zero, suc, ◌+◌, ◌<◌, ◌≤◌, ⊎_elim, Bool, false, List, [], ◌∷◌, ◌++◌, length, get_or, replicate, Option, Some, None, refl, sym, ap, ◌∙◌, subst, arith, count_by}
use Rattle.std.specs.Prelude.{◌↔◌, slice_get, slice_set, if◌then◌else◌}
use Rattle.std.proofs.lemmas.List.{length-set}
use Rattle.std.proofs.lemmas.List.Elements.{All-nil, All-push}
use Rattle.std.proofs.lemmas.List.Sums.{sum_by_push}
use Rattle.std.proofs.lemmas.Option.{same_Some, slice_get_within, some_pair_parts}
use Rattle.mont_base.specs.declared.operation.Entry.{Entry}
use Rattle.mont_base.specs.Seen.{IsEntryAt}
use Rattle.mont_base.specs.State.{unit_of_op}
use Rattle.job_text.specs.declared.outcome.Outcome.{Outcome}
use Rattle.job_text.specs.declared.outcome.Outcome.TheVariants.{At, Synced, Ticked, Stuck, ClockEnd, Full, CountEnd, Halted, CutIn, Cut}
use Rattle.job_text.specs.Outcomes.{HasEpoch, is_at, place_of, names_entry}
use Rattle.job_text.specs.Report.{Report}
use Rattle.report_check.specs.declared.shown_names.ShownNames.{ShownNames}
use Rattle.report_check.specs.HeldOutcomes.{NamesRightly}
use Rattle.report_check.specs.ShownNames.{AreBefore, HaveShown, IsNextEntry}
use Rattle.report_check.proofs.ListRows.{item_there, set_cases}
use Rattle.report_check.proofs.LongerHistories.{all_but_last, the_last}

pub same_entry : (hs : List (List Entry)) (unit place : ℕ) (d e : Entry) → IsEntryAt hs unit place d → IsEntryAt hs unit place e → d ≡ e
same_entry hs unit place d e one two =
    let rows : one.0 ≡ two.0 = same_Some one.0 two.0 (sym one.1 ∙ two.1) in
    same_Some d e (sym one.2 ∙ ap (λ (h : List Entry). slice_get h place) rows ∙ two.2)

zeros : (n i front : ℕ) → slice_get (replicate n 0) i ≡ Some front → front ≡ 0
zeros zero i front there = absurd (cc)
zeros (suc n) zero front there = sym (same_Some 0 front there)
zeros (suc n) (suc i) front there = zeros n i front there

pub nothing_shown : (hs : List (List Entry)) (n : ShownNames) → n.calls ≡ 0 → n.newest ≡ 0 → length n.fronts ≡ length hs
    → n.fronts ≡ replicate (length hs) 0 → HaveShown hs [] n
nothing_shown hs n calls newest long zeroed = record {
  calls = calls;
  units = long;
  newest = λ epoch.
      (λ h. All-nil (λ (o : Outcome). (d : ℕ) → HasEpoch hs o d → d ≤ epoch), λ all. omega (arith, newest));
  fronts = λ unit front place known.
      let none : front ≡ 0 = zeros (length hs) unit front (ap (λ (v : List ℕ). slice_get v unit) (sym zeroed) ∙ known) in
      (λ h. All-nil (λ (o : Outcome). (m : ℕ) → place_of o ≡ Some (unit, m) → m < place), λ all. omega (arith, none));
}

-- ---- an outcome that may be named is one that is named rightly
module _ (r : Report) (caller : ℕ) (before : List Outcome) (n : ShownNames) (shown : HaveShown r.histories before n)
    (unit place : ℕ) where
  pub named_rightly : (x : Entry) → IsNextEntry r caller n unit place x → NamesRightly r caller before unit place
  named_rightly x m = record {
    op = x.op;
    answer = record {
      of_unit = m.of_unit;
      entry = x;
      there = m.there;
      by = m.by;
      number = m.number ∙ shown.calls;
      asked = refl;
    };
    order = λ k d inside. record {
      epochs = λ f e early late.
          let same : late.0 ≡ x = same_entry r.histories unit place late.0 x late.1 m.there in
          let last : x.epoch ≡ e = ap (λ (y : Entry). y.epoch) (sym same) ∙ late.2 in
          let by : f ≤ x.epoch = (shown.newest x.epoch).0 m.later k d inside f early in
          omega (arith, by, last);
      places = λ u a b early late.
          let parts = some_pair_parts unit u place b late in
          let own : place_of (get_or before k d) ≡ Some (unit, a) = early ∙ ap (λ (y : ℕ). Some (y, a)) (sym parts.0) in
          let low : a < place = (shown.fronts unit m.front place m.known).0 m.behind k d inside a own in
          let last = parts.1 in
          omega (arith, low, last);
    };
  }

  pub next_of_right : NamesRightly r caller before unit place → (x : Entry) × IsNextEntry r caller n unit place x
  next_of_right is =
      let a = is.answer in
      let within = slice_get_within r.histories unit a.there.0 a.there.1 in
      let long = shown.units in
      let found = item_there n.fronts unit (omega (arith, within, long)) in (
        a.entry,
        record {
          there = a.there;
          by = a.by;
          number = a.number ∙ sym shown.calls;
          of_unit = ap (unit_of_op r.layout) a.asked ∙ a.of_unit;
          later = (shown.newest a.entry.epoch).1
              (λ k d inside f early. (is.order k d inside).epochs f a.entry.epoch early (a.entry, a.there, refl));
          front = found.0;
          known = found.1;
          behind = (shown.fronts unit found.0 place found.1).1
              (λ k d inside m early. (is.order k d inside).places unit m place early refl);
        },
      )

-- ---- one outcome more
count_push : (before : List Outcome) (o : Outcome) → count_by is_at (before ++ o ∷ []) ≡ count_by is_at before + (if is_at o then 1 else 0)
count_push before o = sum_by_push (λ (x : Outcome). if is_at x then 1 else 0) before o

pub shown_more : (hs : List (List Entry)) (before : List Outcome) (n next : ShownNames) (unit place front : ℕ) (e : Entry)
    → HaveShown hs before n → IsEntryAt hs unit place e → n.newest ≤ e.epoch → slice_get n.fronts unit ≡ Some front → front ≤ place
    → next.calls ≡ n.calls + 1 → next.newest ≡ e.epoch → next.fronts ≡ slice_set n.fronts unit (place + 1)
    → HaveShown hs (before ++ At unit place ∷ []) next
shown_more hs before n next unit place front e shown there later known behind calls newest fronts = record {
  calls = let one = count_push before (At unit place) in let old = shown.calls in omega (arith, one, old, calls);
  units = ap length fronts ∙ length-set n.fronts unit (place + 1) ∙ shown.units;
  newest = λ epoch. (
    λ h. All-push (λ (o : Outcome). (d : ℕ) → HasEpoch hs o d → d ≤ epoch) before (At unit place)
        ((shown.newest epoch).0 (omega (arith, newest)))
        (λ d named.
        let same = same_entry hs unit place named.0 e named.1 there in
        let is : e.epoch ≡ d = ap (λ (x : Entry). x.epoch) (sym same) ∙ named.2 in
        omega (arith, newest, is)),
    λ all.
        let own : e.epoch ≤ epoch =
        the_last before (At unit place) (λ (o : Outcome). (d : ℕ) → HasEpoch hs o d → d ≤ epoch) all e.epoch (e, there, refl) in
        omega (arith, newest, own),
  );
  fronts = λ u f p at. ⊎_elim
      (λ (here : (u ≡ unit) × (f ≡ place + 1)). at_unit u f p here.0 here.1)
      (λ (other : (u ≢ unit) × (slice_get n.fronts u ≡ Some f)). elsewhere u f p other.0 other.1)
      (set_cases n.fronts unit (place + 1) u f (ap (λ (v : List ℕ). slice_get v u) (sym fronts) ∙ at));
}
  where
    Low : ℕ → ℕ → Outcome → Type 0
    Low u p o = (m : ℕ) → place_of o ≡ Some (u, m) → m < p

    at_unit : (u f p : ℕ) → u ≡ unit → f ≡ place + 1 → (f ≤ p) ↔ AreBefore u p (before ++ At unit place ∷ [])
    at_unit u f p eu ef = (
      λ h. All-push (λ (o : Outcome). (m : ℕ) → place_of o ≡ Some (u, m) → m < p) before (At unit place)
          (subst (λ (v : ℕ). AreBefore v p before) (sym eu) ((shown.fronts unit front p known).0 (omega (arith, ef))))
          (λ m is. let parts = some_pair_parts unit u place m is in omega (arith, ef, parts.1)),
      λ all.
          let own : place < p =
          the_last before (At unit place) (λ (o : Outcome). (m : ℕ) → place_of o ≡ Some (u, m) → m < p) all place
          (ap (λ (v : ℕ). Some (v, place)) (sym eu)) in
          omega (arith, ef, own),
    )

    elsewhere : (u f p : ℕ) → u ≢ unit → slice_get n.fronts u ≡ Some f → (f ≤ p) ↔ AreBefore u p (before ++ At unit place ∷ [])
    elsewhere u f p apart at = (
      λ h. All-push (λ (o : Outcome). (m : ℕ) → place_of o ≡ Some (u, m) → m < p) before (At unit place)
          ((shown.fronts u f p at).0 h)
          (λ m is. let parts = some_pair_parts unit u place m is in absurd (apart (sym parts.0))),
      λ all. (shown.fronts u f p at).1
          (all_but_last before (At unit place) (λ (o : Outcome). (m : ℕ) → place_of o ≡ Some (u, m) → m < p) all),
    )

-- an outcome that names nothing shows nothing
pub record NamesNothing (hs : List (List Entry)) (o : Outcome) : Type 0 where
  pub counts : is_at o ≡ false
  pub epoch : (d : ℕ) → HasEpoch hs o d → ⊥
  pub place : place_of o ≡ None
  pub names : (u p : ℕ) → names_entry u p o ≡ false

pub names_nothing : (hs : List (List Entry)) (o : Outcome) → ((u p : ℕ) → o ≡ At u p → ⊥) → NamesNothing hs o
names_nothing hs (At u p) not = absurd (not u p refl)
names_nothing hs (Synced e) not = record { counts = refl; epoch = λ d h. h; place = refl; names = λ u p. refl }
names_nothing hs (Ticked e) not = record { counts = refl; epoch = λ d h. h; place = refl; names = λ u p. refl }
names_nothing hs (Stuck u e) not = record { counts = refl; epoch = λ d h. h; place = refl; names = λ u p. refl }
names_nothing hs ClockEnd not = record { counts = refl; epoch = λ d h. h; place = refl; names = λ u p. refl }
names_nothing hs (Full a b c) not = record { counts = refl; epoch = λ d h. h; place = refl; names = λ u p. refl }
names_nothing hs (CountEnd w) not = record { counts = refl; epoch = λ d h. h; place = refl; names = λ u p. refl }
names_nothing hs (Halted u b) not = record { counts = refl; epoch = λ d h. h; place = refl; names = λ u p. refl }
names_nothing hs (CutIn u) not = record { counts = refl; epoch = λ d h. h; place = refl; names = λ u p. refl }
names_nothing hs Cut not = record { counts = refl; epoch = λ d h. h; place = refl; names = λ u p. refl }

pub shown_same : (hs : List (List Entry)) (before : List Outcome) (o : Outcome) (n : ShownNames) → HaveShown hs before n
    → NamesNothing hs o → HaveShown hs (before ++ o ∷ []) n
shown_same hs before o n shown free = record {
  calls =
      let one = count_push before o in
      let none : ◌≡◌ {A = ℕ} (if is_at o then 1 else 0) 0 = ap (λ (b : Bool). if b then 1 else 0) free.counts in
      let old = shown.calls in
      omega (arith, one, none, old);
  units = shown.units;
  newest = λ epoch. (
    λ h. All-push (λ (x : Outcome). (d : ℕ) → HasEpoch hs x d → d ≤ epoch) before o ((shown.newest epoch).0 h)
        (λ d named. absurd (free.epoch d named)),
    λ all. (shown.newest epoch).1
        (all_but_last before o (λ (x : Outcome). (d : ℕ) → HasEpoch hs x d → d ≤ epoch) all),
  );
  fronts = λ u f p at. (
    λ h. All-push (λ (x : Outcome). (m : ℕ) → place_of x ≡ Some (u, m) → m < p) before o ((shown.fronts u f p at).0 h)
        (λ m is. absurd (let t : ◌≡◌ {A = Option (ℕ × ℕ)} None (Some (u, m)) = sym free.place ∙ is in cc)),
    λ all. (shown.fronts u f p at).1
        (all_but_last before o (λ (x : Outcome). (m : ℕ) → place_of x ≡ Some (u, m) → m < p) all),
  );
}
