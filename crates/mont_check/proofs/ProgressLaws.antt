-- What was shown bounds what may come next.
use Rattle.std.proofs.Common.{◌≡◌, ℕ, ◌+◌, ◌<◌, ◌≤◌, Bool, true, false, ◌||◌, ◌==◌, List, [], length, get_or, take, max, count_by, Option, Some, None, refl, sym, ap, ◌∙◌, subst, arith}
use Rattle.std.specs.Prelude.{◌↔◌, All, IsTrue, if◌then◌else◌}
use Rattle.std.specs.List.{list_any}
use Rattle.std.specs.Ordering.{nat_cmp}
use Rattle.std.specs.BTreeMap as tree
use Rattle.std.proofs.lemmas.Option.{same_Some}
use Rattle.std.proofs.lemmas.Bool.Decides.{nat_tests}
use Rattle.std.proofs.lemmas.List.{get_or_default}
use Rattle.std.proofs.lemmas.List.Folds.{Any-from_list_any, list_any-from_Any, list_any_more}
use Rattle.std.proofs.lemmas.List.Sums.{fold_more, sum_by_more}
use Rattle.mont_base.specs.declared.operation.Entry.{Entry}
use Rattle.job_text.specs.declared.outcome.Outcome.{Outcome}
use Rattle.job_text.specs.Outcomes.{InOrder, clock_of, is_at, is_cut, place_of}
use Rattle.mont_check.specs.declared.progress.Progress.{Progress}
use Rattle.mont_check.specs.Bounds.{IsAtMost, IsBelow, IsSettled, joined, greatest}
use Rattle.mont_check.specs.Progress.{Allows, AllowsPlace, HasShown, IsFresh, Notes}
use Rattle.mont_check.specs.Shown.{epoch_in, only_in, place_in}
use Rattle.mont_check.proofs.Joined.{AllShow, all_bounded}
use Rattle.mont_check.proofs.ShownLaws.{epoch_shown, shown_epoch}

-- a place that is below no known one
pub place_allowed :
    (p : Progress) (named : Option (ℕ × ℕ)) (unit place : ℕ) (last : Option ℕ) (b : Bool) → named ≡ Some (unit, place)
    → last ≡ tree.get nat_cmp p.places unit → (IsTrue b ↔ IsBelow last place) → IsTrue b ↔ AllowsPlace p named
place_allowed p named unit place last b is known says = (
  λ yes u n at m here.
      let same : (unit, place) ≡ (u, n) = same_Some (unit, place) (u, n) (sym is ∙ at) in
      subst (λ (k : ℕ). m < k) (ap (λ (t : ℕ × ℕ). t.1) same)
      (says.0 yes m (known ∙ ap (λ (t : ℕ × ℕ). tree.get nat_cmp p.places t.0) same ∙ here)),
  λ allows. says.1 (λ m here. allows unit place is m (sym known ∙ here)),
)

-- ---- what was shown
pub nothing_shown : (hs : List (List Entry)) (p : Progress) → IsFresh p → HasShown hs [] p
nothing_shown hs p fresh = record {
  calls = fresh.calls;
  newest = fresh.newest;
  clock = fresh.clock;
  places = fresh.places;
  was_cut = fresh.uncut;
}

greatest_more :
    {A : Type 0} (shown : A → Option ℕ) (xs : List A) (i : ℕ) (x : A) → i < length xs → x ≡ get_or xs i x
    → greatest shown (take (i + 1) xs) ≡ joined max (greatest shown (take i xs)) (shown x)
greatest_more {A} shown xs i x within is =
    fold_more (λ m y. joined max m (shown y)) None xs i x within ∙ ap (λ y. joined max (greatest shown (take i xs)) (shown y)) (sym is)

pub one_more_shown :
    (hs : List (List Entry)) (os : List Outcome) (i : ℕ) (o : Outcome) (p q : Progress) → i < length os → o ≡ get_or os i o
    → HasShown hs (take i os) p → Notes hs o p q → HasShown hs (take (i + 1) os) q
one_more_shown hs os i o p q within is shown notes = record {
  calls =
      notes.calls ∙ ap (λ n. n + (if is_at o then 1 else 0)) shown.calls
      ∙ ap (λ y. count_by is_at (take i os) + (if is_at y then 1 else 0)) is
      ∙ sym (sum_by_more (λ y. if is_at y then 1 else 0) os i o within);
  newest =
      notes.newest ∙ ap (λ m. joined max m (epoch_in hs o)) shown.newest ∙ sym (greatest_more (epoch_in hs) os i o within is);
  clock = notes.clock ∙ ap (λ m. joined max m (clock_of o)) shown.clock ∙ sym (greatest_more clock_of os i o within is);
  places = λ unit.
      notes.places unit ∙ ap (λ m. joined max m (place_in unit o)) (shown.places unit)
      ∙ sym (greatest_more (place_in unit) os i o within is);
  was_cut =
      notes.was_cut ∙ ap (λ c. c || is_cut o) shown.was_cut ∙ ap (λ y. list_any is_cut (take i os) || is_cut y) is
      ∙ sym (list_any_more is_cut os i o within);
}

-- ---- bounds
module _ {A : Type 0} (shown : A → Option ℕ) (xs : List A) where
  pub all_at_most : (e : ℕ) → AllShow shown (λ n. n ≤ e) xs ↔ IsAtMost (greatest shown xs) e
  all_at_most e = all_bounded max (λ n. n ≤ e) (λ m n p q. omega arith) (λ m n p. omega arith) (λ m n p. omega arith) shown xs

  pub all_below : (e : ℕ) → AllShow shown (λ n. n < e) xs ↔ IsBelow (greatest shown xs) e
  all_below e = all_bounded max (λ n. n < e) (λ m n p q. omega arith) (λ m n p. omega arith) (λ m n p. omega arith) shown xs

  pub all_settled : (e : ℕ) → AllShow shown (λ n. n + 2 ≤ e) xs ↔ IsSettled (greatest shown xs) e
  all_settled e = all_bounded max (λ n. n + 2 ≤ e) (λ m n p q. omega arith) (λ m n p. omega arith) (λ m n p. omega arith) shown xs

-- ---- places of one unit
pub place_shown : (unit m : ℕ) (q : Outcome) → place_of q ≡ Some (unit, m) → place_in unit q ≡ Some m
place_shown unit m q named = ap (only_in unit) named ∙ own
  where
    own : only_in unit (Some (unit, m)) ≡ Some m
    own = grind (arith, nat_tests)

pub shown_place : (unit m : ℕ) (q : Option (ℕ × ℕ)) → only_in unit q ≡ Some m → q ≡ Some (unit, m)
shown_place unit m None is = absurd cc
shown_place unit m (Some t) is = by_case (t.0 == unit) refl
  where
    by_case : (b : Bool) → (t.0 == unit) ≡ b → Some t ≡ Some (unit, m)
    by_case true own =
        let unit_same : t.0 ≡ unit = grind (arith, nat_tests) in
        let place_same : t.1 ≡ m = same_Some t.1 m (ap (λ (b : Bool). if b then Some t.1 else None) (sym own) ∙ is) in
        λ i. Some (unit_same i, place_same i)
    by_case false other =
        absurd (let none : None ≡ Some m = ap (λ (b : Bool). if b then Some t.1 else None) (sym other) ∙ is in cc)

none_passes : {A : Type 0} (p : A → Bool) (xs : List A) → list_any p xs ≡ false → All (λ x. p x ≡ false) xs
none_passes p xs none k d low = by_case (p (get_or xs k d)) refl
  where
    by_case : (b : Bool) → p (get_or xs k d) ≡ b → p (get_or xs k d) ≡ false
    by_case false is = is
    by_case true is =
        absurd
        (let some : list_any p xs ≡ true = list_any-from_Any p xs (k, get_or xs k d, low, get_or_default xs k (get_or xs k d) d low, is)
        in cc)

passes_none : {A : Type 0} (p : A → Bool) (xs : List A) → All (λ x. p x ≡ false) xs → list_any p xs ≡ false
passes_none p xs all = by_case (list_any p xs) refl
  where
    by_case : (b : Bool) → list_any p xs ≡ b → list_any p xs ≡ false
    by_case false is = is
    by_case true is =
        let some = Any-from_list_any p xs is in
        absurd
        (let here : p some.1 ≡ true = some.4 in
        let never : p (get_or xs some.0 some.1) ≡ false = all some.0 some.1 some.2 in
        let same : get_or xs some.0 some.1 ≡ some.1 = some.3 in
        let back = ap p same in cc)

-- An outcome may come next exactly where it is in order with each before it.
module _ (hs : List (List Entry)) (os : List Outcome) (p : Progress) (o : Outcome) (shown : HasShown hs os p) where
  in_order : Allows hs p o → All (λ earlier. InOrder hs earlier o) os
  in_order allows k d low =
      let uncut : list_any is_cut os ≡ false = sym shown.was_cut ∙ allows.uncut in
      record {
        uncut = none_passes is_cut os uncut k d low;
        epochs = λ m e earlier later.
            let bound = (allows.call.entry e (epoch_shown hs o e later)).0 in
            (all_at_most (epoch_in hs) os e).1 (λ n is. bound n (shown.newest ∙ is)) k d low m (epoch_shown hs (get_or os k d) m earlier);
        places = λ unit m n earlier later.
            let bound = allows.call.place unit n later in
            (all_below (place_in unit) os n).1 (λ q is. bound q (shown.places unit ∙ is)) k d low m
            (place_shown unit m (get_or os k d) earlier);
        learnt = λ m e earlier later.
            let bound = (allows.call.entry e (epoch_shown hs o e later)).1 in
            (all_at_most clock_of os e).1 (λ n is. bound n (shown.clock ∙ is)) k d low m earlier;
        ticks = λ m e earlier later.
            let bound = (allows.clock.tick e later).1 in
            (all_below clock_of os e).1 (λ n is. bound n (shown.clock ∙ is)) k d low m earlier;
        reached = λ m e earlier later.
            let bound = (allows.clock.tick e later).0 in
            (all_at_most (epoch_in hs) os e).1 (λ n is. bound n (shown.newest ∙ is)) k d low m (epoch_shown hs (get_or os k d) m earlier);
        clocks = λ m e earlier later.
            let bound = (allows.clock.settled e later).1 in
            (all_at_most clock_of os e).1 (λ n is. bound n (shown.clock ∙ is)) k d low m earlier;
        settled = λ m e earlier later.
            let bound = (allows.clock.settled e later).0 in
            (all_settled (epoch_in hs) os e).1 (λ n is. bound n (shown.newest ∙ is)) k d low m (epoch_shown hs (get_or os k d) m earlier);
      }

  allowed : All (λ earlier. InOrder hs earlier o) os → Allows hs p o
  allowed all = record {
    uncut = shown.was_cut ∙ passes_none is_cut os (λ k d low. (all k d low).uncut);
    call = record {
      entry = λ e later. let has = shown_epoch hs o e later in (
        λ n is. (all_at_most (epoch_in hs) os e).0
            (λ k d low m earlier. (all k d low).epochs m e (shown_epoch hs (get_or os k d) m earlier) has) n (sym shown.newest ∙ is),
        λ n is. (all_at_most clock_of os e).0 (λ k d low m earlier. (all k d low).learnt m e earlier has) n (sym shown.clock ∙ is),
      );
      place = λ unit place later n is.
          (all_below (place_in unit) os place).0
          (λ k d low m earlier. (all k d low).places unit m place (shown_place unit m (place_of (get_or os k d)) earlier) later) n
          (sym (shown.places unit) ∙ is);
    };
    clock = record {
      tick = λ e later. (
        λ n is. (all_at_most (epoch_in hs) os e).0
            (λ k d low m earlier. (all k d low).reached m e (shown_epoch hs (get_or os k d) m earlier) later) n (sym shown.newest ∙ is),
        λ n is. (all_below clock_of os e).0 (λ k d low m earlier. (all k d low).ticks m e earlier later) n (sym shown.clock ∙ is),
      );
      settled = λ e later. (
        λ n is. (all_settled (epoch_in hs) os e).0
            (λ k d low m earlier. (all k d low).settled m e (shown_epoch hs (get_or os k d) m earlier) later) n (sym shown.newest ∙ is),
        λ n is. (all_at_most clock_of os e).0 (λ k d low m earlier. (all k d low).clocks m e earlier later) n (sym shown.clock ∙ is),
      );
    };
  }

  pub allows_where_in_order : Allows hs p o ↔ All (λ earlier. InOrder hs earlier o) os
  allows_where_in_order = (in_order, allowed)
