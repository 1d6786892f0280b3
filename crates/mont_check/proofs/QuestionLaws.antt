-- Questions that are asked point by point: what is asked from a point on, and of which questions.
use Rattle.std.proofs.Common.{◌≡◌, ℕ, ◌+◌, ◌<◌, ◌≤◌, ◌⊎◌, inl, inr, false, List, [], ◌∷◌, ◌++◌, length, take, drop, get_or, refl, sym, ap, ◌∙◌, subst, arith, length-take}
use Rattle.std.specs.Prelude.{◌↔◌, All, Any, Contains, IsTrue}
use Rattle.std.proofs.lemmas.Bool.{cases_lt}
use Rattle.std.proofs.lemmas.List.{take-append-drop, take_more}
use Rattle.std.proofs.lemmas.List.Elements.{All-append, All-contains, All-drop, All-more, All-nil, All-push, All-take, All-weaker, Contains-append_left, Contains-append_right, Contains-get_or, Contains-push}
use Rattle.mont_base.specs.declared.operation.Entry.{Entry}
use Rattle.mont_base.specs.declared.record.Held.{Held}
use Rattle.mont_base.specs.State.{State}
use Rattle.mont_check.specs.declared.asked.Asked.{Asked}
use Rattle.mont_check.specs.Moments.{Fits}
use Rattle.mont_check.specs.Questions.{AreTried, BeginBy, EndsBy, FitsAt, FitsNow, IsMetIn, IsReady}
use Rattle.mont_check.specs.Walk.{Facts, facts_after}

-- the question fits some point from this one on
pub record MetFrom (base : State) (h : List Entry) (records : List Held) (n : ℕ) (a : Asked) : Type 0 where
  pub point : ℕ
  pub from : n ≤ point
  pub there : point ≤ length h
  pub fits : FitsAt base h records a point

module _ (base : State) (h : List Entry) (records : List Held) where
  -- ---- one question
  module _ (a : Asked) where
    pub from_start : IsMetIn base h records a ↔ MetFrom base h records 0 a
    from_start = (
      λ some. record { point = some.point; from = omega arith; there = some.there; fits = some.fits },
      λ met. record { point = met.point; there = met.there; fits = met.fits },
    )

    pub from_earlier : (n : ℕ) → MetFrom base h records (n + 1) a → MetFrom base h records n a
    from_earlier n met =
        record { point = met.point; from = (let later = met.from in omega arith); there = met.there; fits = met.fits }

    pub from_later : (n : ℕ) → ¬ FitsAt base h records a n → MetFrom base h records n a → MetFrom base h records (n + 1) a
    from_later n not met = by_case (cases_lt n met.point)
      where
        by_case : (n < met.point) ⊎ (met.point ≤ n) → MetFrom base h records (n + 1) a
        by_case (inl low) = record { point = met.point; from = omega arith; there = met.there; fits = met.fits }
        by_case (inr high) =
            let same : met.point ≡ n = (let from = met.from in omega arith) in
            absurd (not (subst (FitsAt base h records a) same met.fits))

    pub never_past : MetFrom base h records (length h + 1) a → ⊥
    never_past met = let from = met.from in let there = met.there in omega arith

    pub never_ended : (n : ℕ) → EndsBy n a → ¬ FitsAt base h records a n → ¬ MetFrom base h records n a
    never_ended n ends not met =
        let later = from_later n not met in
        let high = later.fits.within.ahead ends.0 ends.1 in
        let low = ends.2 in
        let from = later.from in
        let there = later.there in
        let entries = length-take later.point h in
        omega arith

    -- what a walk shows of a question that was made ready
    pub fits_here : IsReady base h records a → (n : ℕ) (f : Facts) → f ≡ facts_after 0 base (take n h)
        → FitsNow f records a ↔ FitsAt base h records a n
    fits_here ready n f is = (
      λ now. subst (λ (g : Facts). Fits g a.question.span a.question.case records) (ready.closed n)
          (subst (λ (g : Facts). FitsNow g records a) is now),
      λ at. subst (λ (g : Facts). FitsNow g records a) (sym is)
          (subst (λ (g : Facts). Fits g a.question.span a.question.case records) (sym (ready.closed n)) at),
    )

  -- ---- all of them
  pub all_from_start : (qs : List Asked) → All (IsMetIn base h records) qs ↔ All (MetFrom base h records 0) qs
  all_from_start qs = (
    λ all k d low. (from_start (get_or qs k d)).0 (all k d low),
    λ all k d low. (from_start (get_or qs k d)).1 (all k d low),
  )

  -- those that aren't asked yet
  pub still_waiting : (n : ℕ) (waiting : List Asked) → n ≤ length h → All (IsReady base h records) waiting
      → All (λ (a : Asked). n < a.start) waiting → All (MetFrom base h records n) waiting ↔ All (MetFrom base h records (n + 1)) waiting
  still_waiting n waiting within ready later = (
    λ all k d low. from_later (get_or waiting k d) n ((ready k d low).start n (later k d low) within) (all k d low),
    λ all k d low. from_earlier (get_or waiting k d) n (all k d low),
  )

  module _ (n : ℕ) (f : Facts) (is : f ≡ facts_after 0 base (take n h)) (tried left : List Asked)
      (ready : All (IsReady base h records) tried) where
    pub left_ready : AreTried f records tried left → All (IsReady base h records) left
    left_ready are k d low = All-contains (IsReady base h records) tried (get_or left k d) ready (are.only k d low).0

    pub tried_here : AreTried f records tried left → n ≤ length h
        → All (MetFrom base h records n) tried ↔ All (MetFrom base h records (n + 1)) left
    tried_here are within = (
      λ all k d low.
          let one = are.only k d low in
          let a = get_or left k d in
          from_later a n (λ at. one.1 ((fits_here a (left_ready are k d low) n f is).1 at))
          (All-contains (MetFrom base h records n) tried a all one.0),
      λ all k d low. by_case all (get_or tried k d) (ready k d low) (are.each k d low),
    )
      where
        by_case : All (MetFrom base h records (n + 1)) left → (a : Asked) → IsReady base h records a
            → FitsNow f records a ⊎ Contains left a → MetFrom base h records n a
        by_case all a one (inl now) =
            record { point = n; from = omega arith; there = within; fits = (fits_here a one n f is).0 now }
        by_case all a one (inr has) = from_earlier a n (All-contains (MetFrom base h records (n + 1)) left a all has)

    -- where one has no later point, they aren't all answered with yes
    pub never_all : Any (λ a. (¬ FitsNow f records a) × EndsBy f.entries a) tried → n ≤ length h
        → ¬ All (MetFrom base h records n) tried
    never_all some within all =
        let k = some.0 in
        let a = some.1 in
        let low = some.2 in
        let here : get_or tried k a ≡ a = some.3 in
        let one : IsReady base h records a = subst (IsReady base h records) here (ready k a low) in
        let met : MetFrom base h records n a = subst (MetFrom base h records n) here (all k a low) in
        let entries : f.entries ≡ n = ap (λ (g : Facts). g.entries) is ∙ (omega (arith, length-take n h)) in
        never_ended a n (subst (λ (m : ℕ). EndsBy m a) entries some.4.1) (λ at. some.4.0 ((fits_here a one n f is).1 at)) met

-- ---- one question more was tried
module _ (f : Facts) (records : List Held) (tried left : List Asked) (i : ℕ) (a : Asked) (within : i < length tried)
    (is : a ≡ get_or tried i a) (before : AreTried f records (take i tried) left) where
  of_more : (b : Asked) → Contains (take i tried) b → Contains (take (i + 1) tried) b
  of_more b has =
      subst (λ (xs : List Asked). Contains xs b) (sym (take_more tried i a within))
      (Contains-append_left (take i tried) (get_or tried i a ∷ []) b has)

  this_too : Contains (take (i + 1) tried) a
  this_too =
      subst (λ (xs : List Asked). Contains xs a) (sym (take_more tried i a within))
      (subst (λ (b : Asked). Contains (take i tried ++ b ∷ []) a) is (Contains-push (take i tried) a))

  pub tried_fits : FitsNow f records a → AreTried f records (take (i + 1) tried) left
  tried_fits fits = record {
    each =
        All-more (λ (b : Asked). FitsNow f records b ⊎ Contains left b) tried i a within before.each
        (inl (subst (FitsNow f records) is fits));
    only = λ k d low. let one = before.only k d low in (of_more (get_or left k d) one.0, one.1);
  }

  pub tried_left : ¬ FitsNow f records a → AreTried f records (take (i + 1) tried) (left ++ a ∷ [])
  tried_left not = record {
    each =
        All-more (λ (b : Asked). FitsNow f records b ⊎ Contains (left ++ a ∷ []) b) tried i a within
        (All-weaker (λ (b : Asked). FitsNow f records b ⊎ Contains left b)
        (λ (b : Asked). FitsNow f records b ⊎ Contains (left ++ a ∷ []) b) still (take i tried) before.each)
        (inr (subst (Contains (left ++ a ∷ [])) is (Contains-push left a)));
    only =
        All-push (λ (b : Asked). Contains (take (i + 1) tried) b × (¬ FitsNow f records b)) left a
        (λ k d low. let one = before.only k d low in (of_more (get_or left k d) one.0, one.1)) (this_too, not);
  }
    where
      still : (b : Asked) → FitsNow f records b ⊎ Contains left b → FitsNow f records b ⊎ Contains (left ++ a ∷ []) b
      still b (inl fits) = inl fits
      still b (inr has) = inr (Contains-append_left left (a ∷ []) b has)

-- ---- questions that are moved
pub all_apart : {A : Type 0} (P : A → Type 0) (xs ys : List A) → All P (xs ++ ys) ↔ (All P xs × All P ys)
all_apart P xs ys = (
  λ all. (
    λ k d low. All-contains P (xs ++ ys) (get_or xs k d) all (Contains-append_left xs ys (get_or xs k d) (Contains-get_or xs k d low)),
    λ k d low. All-contains P (xs ++ ys) (get_or ys k d) all (Contains-append_right xs ys (get_or ys k d) (Contains-get_or ys k d low)),
  ),
  λ both. All-append P xs ys both.0 both.1,
)

-- some of those after are moved to those before
pub all_moved :
    {A : Type 0} (P : A → Type 0) (xs ys : List A) (i : ℕ)
    → (All P xs × All P ys) ↔ (All P (xs ++ take i ys) × All P (drop i ys))
all_moved P xs ys i = (
  λ both. (All-append P xs (take i ys) both.0 (All-take P i ys both.1), All-drop P i ys both.1),
  λ both. let apart = (all_apart P xs (take i ys)).0 both.0 in
      (apart.0, subst (All P) (take-append-drop i ys) (All-append P (take i ys) (drop i ys) apart.1 both.1)),
)

-- ---- what is asked from a point on
-- All of these questions are met exactly where those that weren't met yet are from the point on, and those that aren't asked yet.
pub record Asks (base : State) (h : List Entry) (records : List Held) (asked : List Asked) (n : ℕ) (unmet waiting : List Asked)
    : Type 0 where
  pub ready_unmet : All (IsReady base h records) unmet
  pub ready_waiting : All (IsReady base h records) waiting
  pub same :
      All (IsMetIn base h records) asked
      ↔ (All (MetFrom base h records n) unmet × All (MetFrom base h records n) waiting)

module _ (base : State) (h : List Entry) (records : List Held) (asked : List Asked) where
  pub asks_first : All (IsReady base h records) asked → Asks base h records asked 0 [] asked
  asks_first ready = record {
    ready_unmet = All-nil (IsReady base h records);
    ready_waiting = ready;
    same = (
      λ all. (All-nil (MetFrom base h records 0), (all_from_start base h records asked).0 all),
      λ both. (all_from_start base h records asked).1 both.1,
    );
  }

  pub asks_moved : (n : ℕ) (unmet waiting : List Asked) (i : ℕ) → Asks base h records asked n unmet waiting
      → Asks base h records asked n (unmet ++ take i waiting) (drop i waiting)
  asks_moved n unmet waiting i asks =
      let ready = (all_moved (IsReady base h records) unmet waiting i).0 (asks.ready_unmet, asks.ready_waiting) in
      let moved = all_moved (MetFrom base h records n) unmet waiting i in
      record {
        ready_unmet = ready.0;
        ready_waiting = ready.1;
        same = (λ all. moved.0 (asks.same.0 all), λ both. asks.same.1 (moved.1 both));
      }

  module _ (n : ℕ) (unmet waiting : List Asked) (f : Facts) (asks : Asks base h records asked n unmet waiting) (within : n ≤ length h)
      (is : f ≡ facts_after 0 base (take n h)) where
    pub asks_next : (left : List Asked) → AreTried f records unmet left → All (λ (a : Asked). n < a.start) waiting
        → Asks base h records asked (n + 1) left waiting
    asks_next left tried later =
        let here = tried_here base h records n f is unmet left asks.ready_unmet tried within in
        let still = still_waiting base h records n waiting within asks.ready_waiting later in
        record {
          ready_unmet = left_ready base h records n f is unmet left asks.ready_unmet tried;
          ready_waiting = asks.ready_waiting;
          same = (
            λ all. let both = asks.same.0 all in (here.0 both.0, still.0 both.1),
            λ both. asks.same.1 (here.1 both.0, still.1 both.1),
          );
        }

    pub asks_never : Any (λ a. (¬ FitsNow f records a) × EndsBy f.entries a) unmet → ¬ All (IsMetIn base h records) asked
    asks_never some all = never_all base h records n f is unmet [] asks.ready_unmet some within (asks.same.0 all).0

  none_past : (qs : List Asked) → All (MetFrom base h records (length h + 1)) qs → length qs ≡ 0
  none_past [] all = refl
  none_past (a ∷ qs) all = absurd (never_past base h records a (all 0 a (omega arith)))

  none_left : (n : ℕ) (qs : List Asked) → length qs ≡ 0 → All (MetFrom base h records n) qs
  none_left n qs none k d low = absurd (omega arith)

  pub asks_last : (n : ℕ) (unmet waiting : List Asked) → n ≡ length h + 1 → Asks base h records asked n unmet waiting
      → All (IsMetIn base h records) asked ↔ ((length unmet ≡ 0) × (length waiting ≡ 0))
  asks_last n unmet waiting last asks = (
    λ all.
        let both = subst (λ (m : ℕ). All (MetFrom base h records m) unmet × All (MetFrom base h records m) waiting) last
        (asks.same.0 all) in (none_past unmet both.0, none_past waiting both.1),
    λ both. asks.same.1 (none_left n unmet both.0, none_left n waiting both.1),
  )

  -- one point more: those begun were moved, all unmet were tried
  pub asks_more :
      (n : ℕ) (unmet waiting left : List Asked) (count : ℕ) (f : Facts) → Asks base h records asked n unmet waiting → n ≤ length h
      → f ≡ facts_after 0 base (take n h) → BeginBy waiting n count → AreTried f records (unmet ++ take count waiting) left
      → Asks base h records asked (n + 1) left (drop count waiting)
  asks_more n unmet waiting left count f asks within is begun tried =
      asks_next n (unmet ++ take count waiting) (drop count waiting) f (asks_moved n unmet waiting count asks) within is left tried
      begun.later

  pub asks_ended :
      (n : ℕ) (unmet waiting : List Asked) (count : ℕ) (f : Facts) → Asks base h records asked n unmet waiting → n ≤ length h
      → f ≡ facts_after 0 base (take n h)
      → Any (λ a. (¬ FitsNow f records a) × EndsBy f.entries a) (unmet ++ take count waiting)
      → IsTrue false ↔ All (IsMetIn base h records) asked
  asks_ended n unmet waiting count f asks within is some = (
    λ yes. absurd cc,
    λ all. absurd
        (asks_never n (unmet ++ take count waiting) (drop count waiting) f (asks_moved n unmet waiting count asks) within is some all),
  )
