-- The first place that outcomes name, with one outcome more before them.
use Rattle.std.proofs.Common.{◌≡◌, ℕ, suc, ◌+◌, ◌-◌, ◌<◌, ◌≤◌, ◌≢◌, ◌⊎◌, inl, inr, List, [], ◌∷◌, length, get_or, set, drop, min, Option, Some, None, add-one, drop-cons, refl, sym, ap, ◌∙◌, subst, arith}
use Rattle.std.specs.Prelude.{fold, slice_get}
use Rattle.std.proofs.lemmas.Bool.{cases_eq}
use Rattle.std.proofs.lemmas.List.{get_or-set_other, get_or-set_same, get_or_default, length-set}
use Rattle.std.proofs.lemmas.Option.{get_or_from_slice_get, slice_get-get_or, slice_get_within}
use Rattle.std.specs.BTreeMap as tree
use Rattle.mont_base.specs.Layout.{Shape}
use Rattle.job_text.specs.declared.job.Deed.{Deed}
use Rattle.job_text.specs.declared.job.Deed.TheVariants.{Call, Tick, Sync}
use Rattle.job_text.specs.declared.job.Line.{Line}
use Rattle.job_text.specs.declared.outcome.Outcome.{Outcome}
use Rattle.job_text.specs.Outcomes.{place_of}
use Rattle.mont_check.specs.Ahead.{IsKnownAhead, KnowsFirst, LowersPlace}
use Rattle.mont_check.specs.Bounds.{joined, least}
use Rattle.mont_check.specs.Moments.{IsAheadOf}
use Rattle.mont_check.specs.Shown.{place_in}

joined_turn : (a m y : Option ℕ) → joined min a (joined min m y) ≡ joined min (joined min a y) m
joined_turn None None None = refl
joined_turn None None (Some y) = refl
joined_turn None (Some m) None = refl
joined_turn None (Some m) (Some y) = ap Some (omega arith)
joined_turn (Some a) None None = refl
joined_turn (Some a) None (Some y) = refl
joined_turn (Some a) (Some m) None = refl
joined_turn (Some a) (Some m) (Some y) = ap Some (omega arith)

joined_none : (a : Option ℕ) → joined min a None ≡ a
joined_none None = refl
joined_none (Some a) = refl

module _ {A : Type 0} (shown : A → Option ℕ) where
  from_any : (m : Option ℕ) (xs : List A) → fold (λ k x. joined min k (shown x)) m xs ≡ joined min (least shown xs) m
  from_any m [] = refl
  from_any m (x ∷ xs) =
      from_any (joined min m (shown x)) xs ∙ joined_turn (least shown xs) m (shown x)
      ∙ ap (λ k. joined min k m) (sym (from_any (shown x) xs))

  -- one more in front
  least_cons : (x : A) (xs : List A) → least shown (x ∷ xs) ≡ joined min (least shown xs) (shown x)
  least_cons x xs = from_any (shown x) xs

-- after each of the last outcomes, so many, it is told which place comes first
abbrev pub ToldFrom : Shape → List Line → List Outcome → ℕ → List (Option ℕ) → Type 0
ToldFrom s lines os passed ahead =
    (i : ℕ) (l : Line) (a : Option ℕ) → length os ≤ i + passed → slice_get lines i ≡ Some l → slice_get ahead i ≡ Some a
    → IsAheadOf s (drop (i + 1) os) l.deed a

pub knows_more :
    (os : List Outcome) (at : ℕ) (o : Outcome) (old new : tree.BTreeMap ℕ ℕ) → at < length os → o ≡ get_or os at o
    → KnowsFirst (drop (at + 1) os) old → LowersPlace (place_of o) old new → KnowsFirst (drop at os) new
knows_more os at o old new within is knows lowers unit =
    lowers unit ∙ ap (λ k. joined min k (place_in unit o)) (knows unit) ∙ sym (least_cons (place_in unit) o (drop (at + 1) os))
    ∙ ap (least (place_in unit)) (sym whole)
  where
    whole : drop at os ≡ o ∷ drop (at + 1) os
    whole = rw add-one (drop-cons os at o within ∙ ap (λ (x : Outcome). x ∷ drop (suc at) os) (sym is))

pub known_ahead :
    (s : Shape) (after : List Outcome) (first : tree.BTreeMap ℕ ℕ) (deed : Deed) (a : Option ℕ) → KnowsFirst after first
    → IsKnownAhead s first deed a → IsAheadOf s after deed a
known_ahead s after first (Call op) a knows is = λ unit of_unit. is unit of_unit ∙ knows unit
known_ahead s after first Tick a knows is = tt
known_ahead s after first Sync a knows is = tt

-- one outcome more was passed, from the last one back
pub one_passed :
    (s : Shape) (lines : List Line) (os : List Outcome) (passed at : ℕ) (ahead : List (Option ℕ)) (first new : tree.BTreeMap ℕ ℕ) (l : Line)
    (o : Outcome) (a : Option ℕ) → passed < length os → at ≡ length os - 1 - passed → length ahead ≡ length os
    → ToldFrom s lines os passed ahead → KnowsFirst (drop (length os - passed) os) first → at < length lines → l ≡ get_or lines at l
    → o ≡ get_or os at o → IsKnownAhead s first l.deed a → LowersPlace (place_of o) first new
    → ToldFrom s lines os (passed + 1) (set ahead at a) × KnowsFirst (drop (length os - (passed + 1)) os) new
one_passed s lines os passed at ahead first new l o a within place many told knows low line out is lowers = (each, known)
  where
    knows_here : KnowsFirst (drop (at + 1) os) first
    knows_here = subst (λ (n : ℕ). KnowsFirst (drop n os) first) (omega arith) knows

    known : KnowsFirst (drop (length os - (passed + 1)) os) new
    known =
        subst (λ (n : ℕ). KnowsFirst (drop n os) new) (omega arith) (knows_more os at o first new (omega arith) out knows_here lowers)

    by_case : (i : ℕ) (k : Line) (b : Option ℕ) → length os ≤ i + (passed + 1) → slice_get lines i ≡ Some k
        → slice_get (set ahead at a) i ≡ Some b
        → (i ≡ at) ⊎ (i ≢ at) → IsAheadOf s (drop (i + 1) os) k.deed b
    by_case i k b far line_at there (inl here) =
        let a_is : a ≡ b =
        sym (get_or-set_same ahead at a b (omega arith)) ∙ ap (λ (n : ℕ). get_or (set ahead at a) n b) (sym here)
        ∙ get_or_from_slice_get (set ahead at a) i b b there in
        let l_is : l ≡ k =
        line ∙ get_or_default lines at l k low ∙ ap (λ (n : ℕ). get_or lines n k) (sym here) ∙ get_or_from_slice_get lines i k k line_at in
        let says = known_ahead s (drop (at + 1) os) first l.deed a knows_here is in
        subst (λ (n : ℕ). IsAheadOf s (drop (n + 1) os) k.deed b) (sym here)
        (subst (λ (x : Line). IsAheadOf s (drop (at + 1) os) x.deed b) l_is (subst (IsAheadOf s (drop (at + 1) os) l.deed) a_is says))
    by_case i k b far line_at there (inr other) =
        let low_i = slice_get_within (set ahead at a) i b there in
        let b_is : get_or ahead i b ≡ b =
        sym (get_or-set_other ahead at i a b other) ∙ get_or_from_slice_get (set ahead at a) i b b there in
        told i k b (omega arith) line_at (slice_get-get_or ahead i b (omega (arith, length-set ahead at a)) ∙ ap Some b_is)

    each : ToldFrom s lines os (passed + 1) (set ahead at a)
    each i k b far line_at there = by_case i k b far line_at there (cases_eq i at)
