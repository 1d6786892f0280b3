-- What a caller has seen once it has taken a note: its marks and its fronts.
use Rattle.std.proofs.Common.{◌≡◌, ℕ, zero, suc, ⊎_elim, Bool, true, false, List, [], ◌∷◌, length, max, replicate, refl, sym, ap, ◌∙◌, arith}
use Rattle.std.specs.Prelude.{◌==◌, ◌&&◌, ◌||◌, not, slice_get, map, filter, Option, Some, None}
use Rattle.std.specs.List.{list_any}
use Rattle.std.proofs.lemmas.Bool.Decides.{nat_tests}
use Rattle.std.proofs.lemmas.List.Folds.{list_any-append}
use Rattle.std.proofs.lemmas.Map.Views.{any-filter_same}
use Rattle.std.proofs.lemmas.Option.{same_Some}
use Rattle.core_steps.specs.declared.parts.CallerPart.{CallerPart}
use Rattle.core_steps.specs.declared.parts.Mark.{Mark}
use Rattle.core_steps.specs.declared.parts.Note.{Note}
use Rattle.core_steps.specs.Notes.{greater_fronts, same_caller, same_mark, joined_marks, after_hear}
use Rattle.core_steps.proofs.Decisions.{both, either_true, eq_true}
use Rattle.heap_rule.specs.Views.{is_among}
use Rattle.caller.specs.Telling.{has_mark, TakesGreater}

-- ---- marks
same_by : (a b : Option ℕ) → same_caller a b ≡ true → a ≡ b
same_by None None e = refl
same_by None (Some k) e = absurd (cc)
same_by (Some j) None e = absurd (cc)
same_by (Some j) (Some k) e = ap Some (eq_true j k e)

is_same_mark : (m n : Mark) → same_mark m n ≡ true → m ≡ n
is_same_mark m n e =
    let parts = both (m.unit == n.unit) (same_caller m.by n.by) e in
    let unit = eq_true m.unit n.unit parts.0 in
    let by = same_by m.by n.by parts.1 in
    λ i. record { unit = unit i; by = by i }

pub or_left : (a b : Bool) → a ≡ true → (a || b) ≡ true
or_left a b e = ap (λ (x : Bool). x || b) e

pub or_right : (a b : Bool) → b ≡ true → (a || b) ≡ true
or_right true b e = refl
or_right false b e = e

-- a mark of the others is kept where it isn't among the marks
kept_of_others : (marks others : List Mark) (m : Mark) → has_mark marks m ≡ false
    → has_mark (filter (λ (x : Mark). not (list_any (same_mark x) marks)) others) m ≡ has_mark others m
kept_of_others marks others m none = any-filter_same (same_mark m) (λ (x : Mark). not (list_any (same_mark x) marks)) true
    (λ x same. ap (λ (y : Mark). not (has_mark marks y)) (sym (is_same_mark m x same)) ∙ ap not none) others

pub joined_has : (marks others : List Mark) (m : Mark) → (has_mark marks m || has_mark others m) ≡ true
    → has_mark (joined_marks marks others) m ≡ true
joined_has marks others m one =
    list_any-append (same_mark m) marks (filter (λ (x : Mark). not (list_any (same_mark x) marks)) others)
    ∙ by (has_mark marks m) refl
  where
    rest : Bool
    rest = has_mark (filter (λ (x : Mark). not (list_any (same_mark x) marks)) others) m

    by : (b : Bool) → has_mark marks m ≡ b → (has_mark marks m || rest) ≡ true
    by true e = or_left (has_mark marks m) rest e
    by false e = ap (λ (b : Bool). b || rest) e
        ∙ (kept_of_others marks others m e ∙ (sym (ap (λ (b : Bool). b || has_mark others m) e) ∙ one))

-- the mark of a unit whose announcement the advancer has loaded odd
same_turned : (a b : ℕ) → (a == b) ≡ true → (b == a) ≡ true
same_turned a b e = grind (arith, nat_tests)

pub odd_has : (odd : List ℕ) (unit : ℕ) → is_among odd unit ≡ true
    → has_mark (map (λ (u : ℕ). let m : Mark = record { unit = u; by = None } in m) odd) (record { unit = unit; by = None }) ≡ true
odd_has [] unit e = absurd (cc)
odd_has (u ∷ us) unit e = ⊎_elim
    (λ (same : (u == unit) ≡ true). or_left ((unit == u) && true) _ (ap (λ (b : Bool). b && true) (same_turned u unit same)))
    (λ (more : is_among us unit ≡ true). or_right ((unit == u) && true) _ (odd_has us unit more))
    (either_true (u == unit) (is_among us unit) e)

-- ---- fronts
-- none rises by fronts of 0
pub greater_none : (fronts : List ℕ) → greater_fronts fronts (replicate (length fronts) 0) ≡ fronts
greater_none [] = refl
greater_none (n ∷ ns) = λ i. largest n i ∷ greater_none ns i
  where
    largest : (n : ℕ) → max n 0 ≡ n
    largest n = omega arith

greater_at : (ns ms : List ℕ) (u n m : ℕ) → slice_get ns u ≡ Some n → slice_get ms u ≡ Some m
    → slice_get (greater_fronts ns ms) u ≡ Some (max n m)
greater_at [] ms u n m e f = absurd (cc)
greater_at (x ∷ xs) [] u n m e f = absurd (cc)
greater_at (x ∷ xs) (y ∷ ys) zero n m e f = λ i. Some (max (same_Some x n e i) (same_Some y m f i))
greater_at (x ∷ xs) (y ∷ ys) (suc u) n m e f = greater_at xs ys u n m e f

length-greater_fronts : (ns ms : List ℕ) → length (greater_fronts ns ms) ≡ length ns
length-greater_fronts [] ms = refl
length-greater_fronts (n ∷ ns) [] = refl
length-greater_fronts (n ∷ ns) (m ∷ ms) = ap suc (length-greater_fronts ns ms)

-- ---- a note is taken
pub takes_greater : (q : CallerPart) (note : Note) → TakesGreater q note (after_hear q note)
takes_greater q note = record {
  units = length-greater_fronts q.fronts note.fronts;
  fronts = greater_at q.fronts note.fronts;
  newest = refl;
  durable = refl;
  marks = joined_has q.marks note.marks;
}
