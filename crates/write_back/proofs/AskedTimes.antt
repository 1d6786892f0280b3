-- How the questions of several calls make those of one.
use Rattle.std.proofs.Common.{◌≡◌, ℕ, zero, suc, ◌+◌, Bool, true, false, refl, sym, ap, subst, ◌∙◌, ⊎_elim, arith}
use Rattle.heap_rule.specs.declared.views.AdvKnown.{AdvKnown}
use Rattle.heap.specs.FlushSteps.{IsLoad, IsPersist, IsFlushStep, AreFlushSteps, Flushes}
use Rattle.write_back.specs.AskedSteps.{IsAskedTimes, AsksEachStep}

module _ {G : Type 0} (asked : G → G → Bool → Type 0) where
  times_more : (n m : ℕ) (x y z : G) → IsAskedTimes asked n x y → IsAskedTimes asked m y z → IsAskedTimes asked (n + m) x z
  times_more n zero x y z h e =
      let same : n ≡ n + 0 = omega arith in
      subst (λ (k : ℕ). IsAskedTimes asked k x z) same (subst (IsAskedTimes asked n x) (sym e) h)
  times_more n (suc m) x y z h (i, j, k) =
      let same : suc (n + m) ≡ n + suc m = omega arith in
      subst (λ (l : ℕ). IsAskedTimes asked l x z) same (i, times_more n m x y i h j, k)

  pub asks_none : (n : ℕ) (g : G) → AsksEachStep asked n n g g false
  asks_none n g = record {
    many = 0;
    counted = grind arith;
    passing = g;
    steps = refl;
    passed = λ _. refl;
    refused = λ e. absurd (cc);
  }

  pub asks_once : (first last : ℕ) (g h : G) (cut : Bool) → asked g h cut → (cut ≡ false → last ≡ first + 1) → (cut ≡ true → last ≡ first)
      → AsksEachStep asked first last g h cut
  asks_once first last g h true told ok err = record {
    many = 0;
    counted = err refl ∙ grind arith;
    passing = g;
    steps = refl;
    passed = λ e. absurd (cc);
    refused = λ _. told;
  }
  asks_once first last g h false told ok err = record {
    many = 1;
    counted = ok refl;
    passing = h;
    steps = (g, refl, told);
    passed = λ _. refl;
    refused = λ e. absurd (cc);
  }

  pub asks_more : (first middle last : ℕ) (x y z : G) (cut : Bool) → AsksEachStep asked first middle x y false
      → AsksEachStep asked middle last y z cut → AsksEachStep asked first last x z cut
  asks_more first middle last x y z cut h j = record {
    many = h.many + j.many;
    counted = let one = h.counted in let other = j.counted in omega arith;
    passing = j.passing;
    steps = times_more h.many j.many x y j.passing (subst (IsAskedTimes asked h.many x) (sym (h.passed refl)) h.steps) j.steps;
    passed = j.passed;
    refused = j.refused;
  }

  -- between two calls the steps stand still
  pub asks_then : (first middle begun ended last : ℕ) (x y z : G) (cut : Bool) → begun ≡ middle → last ≡ ended
      → AsksEachStep asked first middle x y false → AsksEachStep asked begun ended y z cut → AsksEachStep asked first last x z cut
  asks_then first middle begun ended last x y z cut same still h j =
      subst (λ (n : ℕ). AsksEachStep asked first n x z cut) (sym still)
      (asks_more first middle ended x y z cut h (subst (λ (n : ℕ). AsksEachStep asked n ended y z cut) same j))

  -- ---- the words of a slot
  step_counts : (a b : AdvKnown) → IsFlushStep a b → b.steps ≡ a.steps + 1
  step_counts a b s = ⊎_elim (λ (l : IsLoad a b). ap (λ (x : AdvKnown). x.steps) l.is)
      (λ (p : IsPersist a b). ap (λ (x : AdvKnown). x.steps) p.is) s

  words_count : (n : ℕ) (a : AdvKnown) (g : G) (b : AdvKnown) (h : G) → AreFlushSteps asked n a g b h
      → (b.steps ≡ a.steps + n) × IsAskedTimes asked n g h
  words_count zero a g b h (e, f) = (ap (λ (x : AdvKnown). x.steps) e ∙ grind arith, f)
  words_count (suc n) a g b h (m, i, before, told, step) =
      let p = words_count n a g m i before in
      let counted = p.0 in
      let next = step_counts m b step in
      (omega arith, (i, p.1, told))

  pub asks_words : (a b : AdvKnown) (g h : G) (cut : Bool) → Flushes asked a g b h cut → AsksEachStep asked a.steps b.steps g h cut
  asks_words a b g h cut f =
      let p = words_count f.many a g b f.last f.steps in record {
        many = f.many;
        counted = p.0;
        passing = f.last;
        steps = p.1;
        passed = f.passed;
        refused = f.refused;
      }
