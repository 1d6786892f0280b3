-- Questions that were made ready by the points of a history, and those of one unit among others.
use Rattle.std.proofs.Common.{◌≡◌, ℕ, ◌+◌, ◌-◌, ◌<◌, ◌≤◌, ◌⊎◌, inl, inr, Bool, true, false, ◌==◌, List, [], ◌∷◌, ◌++◌, length, take, get_or, max, Some, refl, sym, ap, ◌∙◌, subst, arith, length-append, length-take}
use Rattle.std.specs.Prelude.{◌↔◌, All, IsTrue, filter, slice_get, if◌then◌else◌}
use Rattle.std.specs.List.Sorted.{IsPermutation}
use Rattle.std.proofs.lemmas.Bool.{cases_lt}
use Rattle.std.proofs.lemmas.Bool.Decides.{nat_tests}
use Rattle.std.proofs.lemmas.List.{get_or-take, get_or_append_left, get_or_default, get_or_push}
use Rattle.std.proofs.lemmas.List.Elements.{All-cons, All-filter, All-head, All-nil, All-tail, filter_passes}
use Rattle.std.proofs.lemmas.List.Sorted.{All-permutation, IsPermutation-sym}
use Rattle.std.proofs.lemmas.Option.{get_or_from_slice_get, same_Some, slice_get-get_or, slice_get_within}
use Rattle.mont_base.specs.declared.operation.Entry.{Entry}
use Rattle.mont_base.specs.declared.record.Held.{Held}
use Rattle.mont_base.specs.State.{State}
use Rattle.mont_base.specs.Counting.{records_in}
use Rattle.job_text.specs.Report.{Report}
use Rattle.mont_check.specs.declared.asked.Asked.{Asked}
use Rattle.mont_check.specs.declared.cause.Case.{Case}
use Rattle.mont_check.specs.declared.moments.Question.{Question}
use Rattle.mont_check.specs.declared.moments.Span.{Span}
use Rattle.mont_check.specs.declared.opened_numbers.Opening.{Opening}
use Rattle.mont_check.specs.declared.points.Point.{Point}
use Rattle.mont_check.specs.JudgedCauses.{FreesAtMost, clock_of_cause}
use Rattle.mont_check.specs.Moments.{IsMet, IsWithin, SomePoint}
use Rattle.mont_check.specs.OpenedNumbers.{IsOpening}
use Rattle.mont_check.specs.Points.{ArePoints, UsesFewer}
use Rattle.mont_check.specs.Questions.{AreReady, FitsAt, HasRoom, IsMetIn, IsReady, IsReadyFor, TellsMet, facts_then}
use Rattle.mont_check.specs.Walk.{closed_later, facts_after}
use Rattle.mont_check.proofs.PointLaws.{facts_closed, room_left}

-- before the span begins it allows no point, and until so many slots are in use the cause doesn't hold
pub begins_later :
    (span : Span) (c : Case) (closed begun used first free : ℕ) (points : List Point) → ((n : ℕ) → n < begun → ¬ IsWithin span n)
    → FreesAtMost c free → used ≡ c.slots - free → UsesFewer points used closed first → (n : ℕ) (p : Point) → n < max begun first
    → slice_get points n ≡ Some p → (¬ IsWithin span n) ⊎ HasRoom c closed p
begins_later span c closed begun used first free points without frees is fewer n p low at = by_case (cases_lt n begun)
  where
    by_case : (n < begun) ⊎ (begun ≤ n) → (¬ IsWithin span n) ⊎ HasRoom c closed p
    by_case (inl early) = inl (without n early)
    by_case (inr later) =
        let both = fewer n p (omega arith) at in
        let live = both.0 in
        let taken = both.1 in
        inr (record { most = free; frees = frees; live = omega arith; taken = omega arith })

-- one question more was made ready
pub ready_more :
    (h : List Entry) (points : List Point) (qs : List Question) (those : List Asked) (i : ℕ) (q : Question) (a : Asked) → i < length qs
    → q ≡ get_or qs i q → AreReady h points (take i qs) those → IsReadyFor h points q a
    → AreReady h points (take (i + 1) qs) (those ++ a ∷ [])
ready_more h points qs those i q a within is before one = record { as_many = as_many; each = each }
  where
    many : length those ≡ i
    many = let before_many = before.as_many in omega (arith, length-take i qs)

    as_many : length (those ++ a ∷ []) ≡ length (take (i + 1) qs)
    as_many = omega (arith, many, length-append those (a ∷ []), length-take (i + 1) qs)

    by_case : (k : ℕ) (p : Question) (b : Asked) → slice_get (take (i + 1) qs) k ≡ Some p → slice_get (those ++ a ∷ []) k ≡ Some b
        → (k < i) ⊎ (i ≤ k) → IsReadyFor h points p b
    by_case k p b at there (inl low) =
        let asked_here : get_or (take (i + 1) qs) k p ≡ p = get_or_from_slice_get (take (i + 1) qs) k p p at in
        let early : get_or (take i qs) k p ≡ get_or (take (i + 1) qs) k p =
        get_or-take i qs k p low ∙ sym (get_or-take (i + 1) qs k p (omega arith)) in
        let one_at : slice_get (take i qs) k ≡ Some p =
        slice_get-get_or (take i qs) k p (omega (arith, length-take i qs)) ∙ ap Some (early ∙ asked_here) in
        let ready_here : get_or (those ++ a ∷ []) k b ≡ b = get_or_from_slice_get (those ++ a ∷ []) k b b there in
        let b_at : slice_get those k ≡ Some b =
        slice_get-get_or those k b (omega (arith, many))
        ∙ ap Some (sym (get_or_append_left those (a ∷ []) b k (omega (arith, many))) ∙ ready_here) in
        before.each k p b one_at b_at
    by_case k p b at there (inr high) =
        let low = slice_get_within (those ++ a ∷ []) k b there in
        let last : k ≡ i = omega (arith, many, length-append those (a ∷ [])) in
        let a_is : a ≡ b =
        sym (get_or_push those a b k (omega (arith, many))) ∙ get_or_from_slice_get (those ++ a ∷ []) k b b there in
        let q_is : q ≡ p =
        is ∙ get_or_default qs i q p within ∙ ap (λ (m : ℕ). get_or qs m p) (sym last) ∙ sym (get_or-take (i + 1) qs k p (omega arith))
        ∙ get_or_from_slice_get (take (i + 1) qs) k p p at in
        subst (λ (x : Question). IsReadyFor h points x b) q_is (subst (IsReadyFor h points q) a_is one)

    each : (k : ℕ) (p : Question) (b : Asked) → slice_get (take (i + 1) qs) k ≡ Some p → slice_get (those ++ a ∷ []) k ≡ Some b
        → IsReadyFor h points p b
    each k p b at there = by_case k p b at there (cases_lt k i)

module _ (base : State) (h : List Entry) (records : List Held) (points : List Point) (are : ArePoints base h points) where
  ready_here : (q : Question) (a : Asked) → IsReadyFor h points q a → IsReady base h records a
  ready_here q a ready = record { closed = closed; start = start }
    where
      closed : (n : ℕ) → closed_later a.closed (facts_after 0 base (take n h)) ≡ facts_then base h a n
      closed n = facts_closed base h points (clock_of_cause a.question.case.cause) a.closed are ready.closed n

      none : Point
      none = record { retired = 0; live = 0; taken = 0 }

      by_case : (n : ℕ) (p : Point) → slice_get points n ≡ Some p → n ≤ length h
          → (¬ IsWithin a.question.span n) ⊎ HasRoom a.question.case a.closed p → ¬ FitsAt base h records a n
      by_case n p at within (inl without) fits =
          let entries : length (take n h) ≡ n = omega (arith, length-take n h) in
          without (subst (IsWithin a.question.span) entries fits.within)
      by_case n p at within (inr room) fits =
          room_left base (take n h) records a.question.case a.closed p (closed n) (are.each n p at) room fits.held

      start : (n : ℕ) → n < a.start → n ≤ length h → ¬ FitsAt base h records a n
      start n low within =
          let many = are.as_many in
          let at : slice_get points n ≡ Some (get_or points n none) = slice_get-get_or points n none (omega arith) in
          by_case n (get_or points n none) at within (ready.start n (get_or points n none) low at)

  module _ (qs : List Question) (those : List Asked) (ready : AreReady h points qs those) where
    one_ready : (k : ℕ) (q : Question) (a : Asked) → k < length those → IsReadyFor h points (get_or qs k q) (get_or those k a)
    one_ready k q a low =
        let many = ready.as_many in
        ready.each k (get_or qs k q) (get_or those k a) (slice_get-get_or qs k q (omega arith)) (slice_get-get_or those k a low)

    pub all_ready : All (IsReady base h records) those
    all_ready k d low =
        ready_here (get_or qs k d.question) (get_or those k d) (one_ready k d.question d low)

    all_asked : All (IsMetIn base h records) those ↔ All (λ (q : Question). SomePoint base h q.span q.case records) qs
    all_asked = (
      λ all k d low.
          let many = ready.as_many in
          let a : Asked = record { question = d; closed = 0; start = 0 } in
          let one = one_ready k d a (omega arith) in
          subst (λ (q : Question). SomePoint base h q.span q.case records) one.question (all k a (omega arith)),
      λ all k d low.
          let many = ready.as_many in
          let one = one_ready k d.question d low in
          subst (λ (q : Question). SomePoint base h q.span q.case records) (sym one.question) (all k d.question (omega arith)),
    )

    -- what is told of them in the order in which they are asked
    pub met_told :
        (bs : List Asked) (opening : Opening) (b : Bool) → IsPermutation those bs → IsOpening records opening → TellsMet base h opening bs b
        → IsTrue b ↔ All (λ (q : Question). SomePoint base h q.span q.case records) qs
    met_told bs opening b moved opened tells =
        let says = tells records opened (All-permutation (IsReady base h records) those bs moved all_ready) in (
          λ yes. all_asked.0 (All-permutation (IsMetIn base h records) bs those (IsPermutation-sym those bs moved) (says.0 yes)),
          λ all. says.1 (All-permutation (IsMetIn base h records) those bs moved (all_asked.1 all)),
        )

-- ---- the questions of one unit
passed : {A : Type 0} (p : A → Bool) (P : A → Type 0) (xs : List A) → All P (filter p xs) → All (λ x. p x ≡ true → P x) xs
passed p P [] all = All-nil (λ x. p x ≡ true → P x)
passed p P (x ∷ xs) all = by_case (p x) refl all (passed p P xs)
  where
    by_case : (b : Bool) → p x ≡ b → All P (filter p (x ∷ xs)) → (All P (filter p xs) → All (λ y. p y ≡ true → P y) xs)
        → All (λ y. p y ≡ true → P y) (x ∷ xs)
    by_case true is all rest =
        let kept : filter p (x ∷ xs) ≡ x ∷ filter p xs = ap (λ (b : Bool). if b then x ∷ filter p xs else filter p xs) is in
        let those : All P (x ∷ filter p xs) = subst (All P) kept all in
        All-cons (λ y. p y ≡ true → P y) x xs (λ _. All-head P x (filter p xs) those) (rest (All-tail P x (filter p xs) those))
    by_case false is all rest =
        let kept : filter p (x ∷ xs) ≡ filter p xs = ap (λ (b : Bool). if b then x ∷ filter p xs else filter p xs) is in
        All-cons (λ y. p y ≡ true → P y) x xs (λ yes. absurd (let no = sym is ∙ yes in cc)) (rest (subst (All P) kept all))

pub all_of_unit :
    (unit : ℕ) (P : Question → Type 0) (qs : List Question)
    → All P (filter (λ (q : Question). q.unit == unit) qs) ↔ All (λ (q : Question). q.unit ≡ unit → P q) qs
all_of_unit unit P qs = (
  λ all k d low same. passed (λ (q : Question). q.unit == unit) P qs all k d low (is_same (get_or qs k d).unit same),
  λ all k d low.
      All-filter (λ (q : Question). q.unit == unit) (λ (q : Question). q.unit ≡ unit → P q) qs all k d low
      (same_is (get_or (filter (λ (q : Question). q.unit == unit) qs) k d).unit
      (filter_passes (λ (q : Question). q.unit == unit) qs k d low)),
)
  where
    is_same : (n : ℕ) → n ≡ unit → (n == unit) ≡ true
    is_same n same = grind (arith, nat_tests)

    same_is : (n : ℕ) → (n == unit) ≡ true → n ≡ unit
    same_is n is = grind (arith, nat_tests)

module _ (r : Report) (records : List (List Held)) (unit : ℕ) where
  module _ (base : State) (h : List Entry) (opened : slice_get r.base unit ≡ Some base) (kept : slice_get r.histories unit ≡ Some h) where
    -- a question of the unit, in the words of its history
    met_of_unit :
        (q : Question) → q.unit ≡ unit → SomePoint base h q.span q.case (records_in records unit) ↔ IsMet r records q
    met_of_unit q same = (
      λ some. record {
        base = base;
        opened = subst (λ (u : ℕ). slice_get r.base u ≡ Some base) (sym same) opened;
        history = h;
        kept = subst (λ (u : ℕ). slice_get r.histories u ≡ Some h) (sym same) kept;
        some = subst (λ (u : ℕ). SomePoint base h q.span q.case (records_in records u)) (sym same) some;
      },
      λ met.
          let base_is : met.base ≡ base =
          same_Some met.base base (sym (subst (λ (u : ℕ). slice_get r.base u ≡ Some met.base) same met.opened) ∙ opened) in
          let history_is : met.history ≡ h =
          same_Some met.history h (sym (subst (λ (u : ℕ). slice_get r.histories u ≡ Some met.history) same met.kept) ∙ kept) in
          subst (λ (b : State). SomePoint b h q.span q.case (records_in records unit)) base_is
          (subst (λ (g : List Entry). SomePoint met.base g q.span q.case (records_in records unit)) history_is
          (subst (λ (u : ℕ). SomePoint met.base met.history q.span q.case (records_in records u)) same met.some)),
    )

    pub unit_met :
        (qs : List Question) (b : Bool)
        → IsTrue b
        ↔ All (λ (q : Question). SomePoint base h q.span q.case (records_in records unit)) (filter (λ (q : Question). q.unit == unit) qs)
        → IsTrue b ↔ All (λ (q : Question). q.unit ≡ unit → IsMet r records q) qs
    unit_met qs b says =
        let those = all_of_unit unit (λ (q : Question). SomePoint base h q.span q.case (records_in records unit)) qs in (
          λ yes k d low same. (met_of_unit (get_or qs k d) same).0 (those.0 (says.0 yes) k d low same),
          λ all. says.1 (those.1 (λ k d low same. (met_of_unit (get_or qs k d) same).1 (all k d low same))),
        )

  pub none_asked :
      (qs : List Question) → length (filter (λ (q : Question). q.unit == unit) qs) ≡ 0
      → IsTrue true ↔ All (λ (q : Question). q.unit ≡ unit → IsMet r records q) qs
  none_asked qs none = (
    λ yes. (all_of_unit unit (IsMet r records) qs).0 (λ k d low. absurd (omega arith)),
    λ all. refl,
  )

  -- a unit that isn't there meets none of its questions
  pub never_met :
      (qs : List Question) → ((q : Question) → q.unit ≡ unit → ¬ IsMet r records q)
      → 0 < length (filter (λ (q : Question). q.unit == unit) qs)
      → IsTrue false ↔ All (λ (q : Question). q.unit ≡ unit → IsMet r records q) qs
  never_met qs not some = (
    λ yes. absurd cc,
    λ all.
        absurd (one (filter (λ (q : Question). q.unit == unit) qs) some ((all_of_unit unit (IsMet r records) qs).1 all)
        (λ k d low. filter_passes (λ (q : Question). q.unit == unit) qs k d low)),
  )
    where
      same_unit : (n : ℕ) → (n == unit) ≡ true → n ≡ unit
      same_unit n is = grind (arith, nat_tests)

      one : (those : List Question) → 0 < length those → All (IsMet r records) those
          → ((k : ℕ) (d : Question) → k < length those → ((get_or those k d).unit == unit) ≡ true) → ⊥
      one [] below met passed = omega arith
      one (q ∷ those) below met passed = not q (same_unit q.unit (passed 0 q below)) (met 0 q below)
