-- The slots in use at a point, told of the slots that were retired until then and of those that a clock closed.
use Rattle.std.proofs.Common.{◌≡◌, ℕ, zero, suc, ◌+◌, ◌-◌, ◌<◌, ◌≤◌, ◌⊎◌, inl, inr, List, [], ◌∷◌, ◌++◌, length, take, get_or, sum_by, refl, sym, ap, ◌∙◌, subst, arith, length-append, length-take}
use Rattle.std.specs.List.Sorted.{IsNonDecreasingBy}
use Rattle.std.specs.Prelude.{nat_lt, slice_get, Some, if◌then◌else◌}
use Rattle.std.proofs.lemmas.Bool.{cases_lt}
use Rattle.std.proofs.lemmas.Bool.Decides.{nat_tests}
use Rattle.std.proofs.lemmas.List.{get_or_append_left, get_or_default, get_or_push, take-take}
use Rattle.std.proofs.lemmas.List.Sorted.{IsNonDecreasingBy-push, IsNonDecreasingBy-short}
use Rattle.std.proofs.lemmas.Option.{get_or_from_slice_get, same_Some, slice_get-get_or, slice_get_within}
use Rattle.mont_base.specs.declared.operation.Entry.{Entry}
use Rattle.mont_base.specs.declared.record.Held.{Held}
use Rattle.mont_base.specs.Room.{retires, retired_late}
use Rattle.mont_base.specs.State.{State, step}
use Rattle.mont_check.specs.declared.cause.Case.{Case}
use Rattle.mont_check.specs.declared.points.Point.{Point}
use Rattle.mont_check.specs.JudgedCauses.{HeldAfter, clock_of_cause}
use Rattle.mont_check.specs.Points.{ArePoints, EpochsRise, IsClosed, IsNextPoint, PointsRise, TellsPoint}
use Rattle.mont_check.specs.Questions.{HasRoom}
use Rattle.mont_check.specs.Walk.{closed_later, facts_after, no_facts}

late : (a b n : ℕ) → a < b → (if nat_lt a b then n else 0) ≡ n
late a b n below = grind (arith, nat_tests)

not_late : (a b n : ℕ) → b ≤ a → (if nat_lt a b then n else 0) ≡ 0
not_late a b n above = grind (arith, nat_tests)

-- what waits at a clock was retired until the point, and not by the entries that the clock closes
pub waiting_less :
    (clock : ℕ) (base : State) (h : List Entry) (count n : ℕ)
    → ((k : ℕ) (e : Entry) → k < count → slice_get h k ≡ Some e → e.epoch + 2 ≤ clock)
    → ((k : ℕ) (e : Entry) → count ≤ k → slice_get h k ≡ Some e → clock < e.epoch + 2)
    → retired_late clock base (take n h) ≡ retired_late 0 base (take n h) - retired_late 0 base (take count h)
waiting_less clock base h count zero before behind = omega arith
waiting_less clock base [] count (suc n) before behind = omega arith
waiting_less clock base (e ∷ h) zero (suc n) before behind =
    let next = (step base e.op).state in
    let rest = waiting_less clock next h zero n (λ k f low at. absurd (omega arith)) (λ k f high at. behind (suc k) f (omega arith) at) in
    let retired = sum_by retires (step base e.op).effects in
    let here = behind 0 e (omega arith) refl in
    let one = late clock (e.epoch + 2) retired here in
    let all = late 0 (e.epoch + 2) retired (omega arith) in
    omega arith
waiting_less clock base (e ∷ h) (suc count) (suc n) before behind =
    let next = (step base e.op).state in
    let rest =
    waiting_less clock next h count n (λ k f low at. before (suc k) f (omega arith) at)
    (λ k f high at. behind (suc k) f (omega arith) at) in
    let retired = sum_by retires (step base e.op).effects in
    let here = before 0 e (omega arith) refl in
    let one = not_late clock (e.epoch + 2) retired here in
    let all = late 0 (e.epoch + 2) retired (omega arith) in
    omega arith

-- what is true at a clock is what is true where nothing is closed, less the slots that the clock closes
pub facts_closed :
    (base : State) (h : List Entry) (points : List Point) (clock closed : ℕ) → ArePoints base h points → IsClosed h points clock closed
    → (n : ℕ) → closed_later closed (facts_after 0 base (take n h)) ≡ facts_after clock base (take n h)
facts_closed base h points clock closed are is n =
    let many = are.as_many in
    let below = is.settled.there in
    let p : Point = get_or points is.count (record { retired = 0; live = 0; taken = 0 }) in
    let here : slice_get points is.count ≡ Some p =
    slice_get-get_or points is.count (record { retired = 0; live = 0; taken = 0 }) (omega arith) in
    let same : closed ≡ retired_late 0 base (take is.count h) = is.retired p here ∙ (are.each is.count p here).retired in
    let less = waiting_less clock base h is.count n is.settled.before is.settled.behind in
    let waiting : retired_late 0 base (take n h) - closed ≡ retired_late clock base (take n h) =
    ap (λ k. retired_late 0 base (take n h) - k) same ∙ sym less in
    λ i. record {
      state = (facts_after clock base (take n h)).state;
      entries = (facts_after clock base (take n h)).entries;
      waiting = waiting i;
      inserted = (facts_after clock base (take n h)).inserted;
      changed = (facts_after clock base (take n h)).changed;
      enqueued = (facts_after clock base (take n h)).enqueued;
    }

-- where more is free than the cause allows, it doesn't hold
pub room_left :
    (base : State) (g : List Entry) (records : List Held) (c : Case) (closed : ℕ) (p : Point)
    → closed_later closed (facts_after 0 base g) ≡ facts_after (clock_of_cause c.cause) base g → TellsPoint base g p → HasRoom c closed p
    → ¬ HeldAfter c records (facts_after (clock_of_cause c.cause) base g)
room_left base g records c closed p same tells room held =
    let low = room.frees records (facts_after (clock_of_cause c.cause) base g) held in
    let waiting : retired_late 0 base g - closed ≡ retired_late (clock_of_cause c.cause) base g = λ i. (same i).waiting in
    let live = tells.live in
    let taken = tells.taken in
    let few = room.live in
    let less = room.taken in
    omega arith

-- ---- the points until an entry, with one more
pub one_point :
    (base : State) (p : Point) → IsNextPoint (no_facts base) 0 0 p → ArePoints base [] (p ∷ [])
one_point base p next = record { as_many = refl; each = each; rise = rise }
  where
    each : (n : ℕ) (q : Point) → slice_get (p ∷ []) n ≡ Some q → TellsPoint base (take n []) q
    each zero q at =
        subst (TellsPoint base []) (same_Some p q at)
        (record {
          retired = next.retired;
          live = (let most = next.live in omega arith);
          taken = (let most = next.taken in omega arith);
        })
    each (suc n) q at = absurd cc

    rise : PointsRise (p ∷ [])
    rise = record {
      live = IsNonDecreasingBy-short (λ (q : Point). q.live) (p ∷ []) (omega arith);
      taken = IsNonDecreasingBy-short (λ (q : Point). q.taken) (p ∷ []) (omega arith);
    }

pub points_more :
    (base : State) (h : List Entry) (points : List Point) (i : ℕ) (last p : Point) → i < length h → ArePoints base (take i h) points
    → get_or points i last ≡ last → IsNextPoint (facts_after 0 base (take (i + 1) h)) last.live last.taken p
    → ArePoints base (take (i + 1) h) (points ++ p ∷ [])
points_more base h points i last p within are is next = record { as_many = as_many; each = each; rise = rise }
  where
    many : length points ≡ i + 1
    many = let before = are.as_many in omega (arith, length-take i h)

    as_many : length (points ++ p ∷ []) ≡ length (take (i + 1) h) + 1
    as_many = omega (arith, many, length-append points (p ∷ []), length-take (i + 1) h)

    -- which point it is
    at_point : (n : ℕ) (q : Point) → slice_get (points ++ p ∷ []) n ≡ Some q → (n < i + 1) ⊎ (i + 1 ≤ n)
        → TellsPoint base (take n (take (i + 1) h)) q
    at_point n q at (inl low) =
        let here : get_or (points ++ p ∷ []) n q ≡ q = get_or_from_slice_get (points ++ p ∷ []) n q q at in
        let same : get_or points n q ≡ q = sym (get_or_append_left points (p ∷ []) q n (omega (arith, many))) ∙ here in
        let there : slice_get points n ≡ Some q = slice_get-get_or points n q (omega (arith, many)) ∙ ap Some same in
        subst (λ (g : List Entry). TellsPoint base g q) (take-take n i h (omega arith) ∙ sym (take-take n (i + 1) h (omega arith)))
        (are.each n q there)
    at_point n q at (inr high) =
        let low = slice_get_within (points ++ p ∷ []) n q at in
        let here : get_or (points ++ p ∷ []) n q ≡ q = get_or_from_slice_get (points ++ p ∷ []) n q q at in
        let end : length points ≡ n = omega (arith, many, length-append points (p ∷ [])) in
        let same : p ≡ q = sym (get_or_push points p q n end) ∙ here in
        let whole : take (i + 1) h ≡ take n (take (i + 1) h) =
        sym (take-take n (i + 1) h (omega (arith, many)) ∙ ap (λ (m : ℕ). take m h) (omega (arith, many))) in
        subst (TellsPoint base (take n (take (i + 1) h))) same
        (subst (λ (g : List Entry). TellsPoint base g p) whole
        (record {
          retired = next.retired;
          live = (let most = next.live in omega arith);
          taken = (let most = next.taken in omega arith);
        }))

    each : (n : ℕ) (q : Point) → slice_get (points ++ p ∷ []) n ≡ Some q → TellsPoint base (take n (take (i + 1) h)) q
    each n q at = at_point n q at (cases_lt n (i + 1))

    last_is : (d : Point) → get_or points (length points - 1) d ≡ last
    last_is d =
        ap (λ (k : ℕ). get_or points k d) (omega (arith, many)) ∙ get_or_default points i d last (omega (arith, many)) ∙ is

    rise : PointsRise (points ++ p ∷ [])
    rise = record {
      live =
          IsNonDecreasingBy-push (λ (q : Point). q.live) points p are.rise.live
          (λ d pos. subst (λ (q : Point). q.live ≤ p.live) (sym (last_is d)) (let most = next.live in omega arith));
      taken =
          IsNonDecreasingBy-push (λ (q : Point). q.taken) points p are.rise.taken
          (λ d pos. subst (λ (q : Point). q.taken ≤ p.taken) (sym (last_is d)) (let most = next.taken in omega arith));
    }

-- epochs that never fall, in the words of a search
pub rises : (h : List Entry) → EpochsRise h → IsNonDecreasingBy (λ (e : Entry). e.epoch) h
rises h pairs i j d above low = by_case (cases_lt i j)
  where
    by_case : (i < j) ⊎ (j ≤ i) → (get_or h i d).epoch ≤ (get_or h j d).epoch
    by_case (inl below) = pairs i j d below low
    by_case (inr other) =
        let same : i ≡ j = omega arith in
        subst (λ (k : ℕ). (get_or h i d).epoch ≤ (get_or h k d).epoch) same (omega arith)
