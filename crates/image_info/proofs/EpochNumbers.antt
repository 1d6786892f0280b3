-- Numbers of records in a sorted map.
use Rattle.std.proofs.Common.{◌≡◌, ℕ, zero, suc, ◌+◌, ◌<◌, Bool, true, false, cond, ◌==◌, List, [], ◌∷◌, ◌++◌, map, refl, sym, ap, ◌∙◌, subst, arith, add-one, add-zero}
use Rattle.std.specs.Prelude.{Option, Some, AllPairs, All, unwrap_or}
use Rattle.std.specs.declared.cmp.Ordering.TheVariants.{Less}
use Rattle.std.specs.List.{AllByRecursion, find}
use Rattle.std.specs.List.Sorted.{IsStrictlySortedBy}
use Rattle.std.specs.Map.{keys_of, lookup}
use Rattle.std.specs.Option.{option_map}
use Rattle.std.specs.Ordering.{eq_by_cmp, is_eq, nat_cmp}
use Rattle.std.specs.BTreeMap as tree
use Rattle.std.specs.BTreeMap.{is_at}
use Rattle.std.proofs.lemmas.Bool.{eqb-true}
use Rattle.std.proofs.lemmas.Bool.Decides.{nat_tests}
use Rattle.std.proofs.lemmas.List.Elements.{All-cons, All-nil}
use Rattle.std.proofs.lemmas.List.Kept.{AllPairs-cons}
use Rattle.std.proofs.lemmas.List.Sums.{sum_by_push}
use Rattle.std.proofs.lemmas.Map.Keys.{sorted_head, sorted_tail}
use Rattle.mont_base.specs.declared.record.Held.{Held}
use Rattle.image_info.specs.declared.epoch_counts.EpochCount.{EpochCount}
use Rattle.image_info.specs.EpochCounts.{AreEpochs, HasNumbers, count_of, if_some, records_at, told_of}

pub number_if_some : (n : ℕ) → unwrap_or (if_some n) 0 ≡ n
number_if_some zero = refl
number_if_some (suc n) = refl

eq_number : (a b : ℕ) → is_eq (nat_cmp a b) ≡ (a == b)
eq_number a b = grind (arith, nat_tests)

-- ---- one record more
pub numbers_more : (m n : tree.BTreeMap ℕ ℕ) (rs : List Held) (r : Held) (number : ℕ) → HasNumbers m rs
    → number ≡ unwrap_or (tree.get nat_cmp m r.label.epoch) 0
    → ((q : ℕ) → tree.get nat_cmp n q ≡ cond (eq_by_cmp nat_cmp r.label.epoch q) (Some (number + 1)) (tree.get nat_cmp m q))
    → HasNumbers n (rs ++ r ∷ [])
numbers_more m n rs r number h is grown epoch =
    grown epoch
    ∙ ap (λ (b : Bool). cond b (Some (number + 1)) (tree.get nat_cmp m epoch)) (eq_number r.label.epoch epoch)
    ∙ by (r.label.epoch == epoch) refl
    ∙ ap if_some (sym (sum_by_push (λ (q : Held). cond (q.label.epoch == epoch) 1 0) rs r))
  where
    suc_some : (k : ℕ) → Some (k + 1) ≡ if_some (k + 1)
    suc_some k = rw add-one refl

    by : (b : Bool) → (r.label.epoch == epoch) ≡ b
        → cond b (Some (number + 1)) (tree.get nat_cmp m epoch) ≡ if_some (records_at epoch rs + cond b 1 0)
    by true e =
        let same = eqb-true r.label.epoch epoch e in
        let counted : number ≡ records_at epoch rs =
        is ∙ ap (λ (k : ℕ). unwrap_or (tree.get nat_cmp m k) 0) same ∙ ap (λ (o : Option ℕ). unwrap_or o 0) (h epoch)
        ∙ number_if_some (records_at epoch rs) in
        ap (λ (k : ℕ). Some (k + 1)) counted ∙ suc_some (records_at epoch rs)
    by false e = h epoch ∙ ap if_some (sym (add-zero (records_at epoch rs)))

-- ---- the entries of the map
less : (a b : ℕ) → nat_cmp a b ≡ Less → a < b
less a b e = grind (arith, nat_tests)

all_above : (k : ℕ) (es : List (ℕ × ℕ)) → AllByRecursion (λ (y : ℕ). nat_cmp k y ≡ Less) (keys_of es)
    → All (λ (c : EpochCount). k < c.epoch) (map count_of es)
all_above k [] h = All-nil (λ (c : EpochCount). k < c.epoch)
all_above k (e ∷ es) h = All-cons (λ (c : EpochCount). k < c.epoch) (count_of e) (map count_of es) (less k e.0 h.0) (all_above k es h.1)

rises : (es : List (ℕ × ℕ)) → IsStrictlySortedBy nat_cmp (keys_of es)
    → AllPairs (λ (a b : EpochCount). a.epoch < b.epoch) (map count_of es)
rises [] h = λ i j d low high. absurd (omega arith)
rises (e ∷ es) h = AllPairs-cons (λ (a b : EpochCount). a.epoch < b.epoch) (count_of e) (map count_of es)
    (all_above e.0 es (sorted_head nat_cmp e.0 (keys_of es) h)) (rises es (sorted_tail nat_cmp e.0 (keys_of es) h))

found : (epoch : ℕ) (es : List (ℕ × ℕ))
    → find (λ (c : EpochCount). c.epoch == epoch) (map count_of es)
    ≡ option_map (λ (n : ℕ). count_of (epoch, n)) (lookup (is_at (nat_cmp epoch)) es)
found epoch [] = refl
found epoch (e ∷ es) =
    by (e.0 == epoch) refl (found epoch es)
    ∙ ap (λ (b : Bool). option_map (λ (n : ℕ). count_of (epoch, n)) (cond b (Some e.1) (lookup (is_at (nat_cmp epoch)) es))) (same e.0)
  where
    same : (k : ℕ) → (k == epoch) ≡ is_eq (nat_cmp epoch k)
    same k = grind (arith, nat_tests)

    by : (b : Bool) → (e.0 == epoch) ≡ b
        → find (λ (c : EpochCount). c.epoch == epoch) (map count_of es)
        ≡ option_map (λ (n : ℕ). count_of (epoch, n)) (lookup (is_at (nat_cmp epoch)) es)
        → cond b (Some (count_of e)) (find (λ (c : EpochCount). c.epoch == epoch) (map count_of es))
        ≡ option_map (λ (n : ℕ). count_of (epoch, n)) (cond b (Some e.1) (lookup (is_at (nat_cmp epoch)) es))
    by true is rest = ap (λ (k : ℕ). Some (count_of (k, e.1))) (eqb-true e.0 epoch is)
    by false is rest = rest

told_if_some : (epoch n : ℕ) → option_map (λ (k : ℕ). count_of (epoch, k)) (if_some n) ≡ told_of epoch n
told_if_some epoch zero = refl
told_if_some epoch (suc n) = refl

pub are_epochs : (m : tree.BTreeMap ℕ ℕ) (rs : List Held) (counts : List EpochCount) → HasNumbers m rs → tree.IsOrdered nat_cmp m
    → counts ≡ map count_of m.entries → AreEpochs rs counts
are_epochs m rs counts h sorted is = subst (AreEpochs rs) (sym is) (record {
  rising = rises m.entries sorted;
  told = λ epoch.
      found epoch m.entries ∙ ap (option_map (λ (k : ℕ). count_of (epoch, k))) (h epoch)
      ∙ told_if_some epoch (records_at epoch rs);
})
