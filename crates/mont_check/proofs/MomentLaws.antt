-- The moments of a call, told of the places of its caller before and after it.
use Rattle.std.proofs.Common.{◌≡◌, ℕ, zero, suc, ◌≤◌, List, [], ◌∷◌, map, length, take, min, Some, get_or, sym, ap, ◌∙◌, subst, arith, length-take}
use Rattle.std.specs.Prelude.{◌↔◌, All, slice_get}
use Rattle.std.proofs.lemmas.Option.{same_Some}
use Rattle.mont_base.specs.declared.operation.Entry.{Entry}
use Rattle.mont_base.specs.declared.operation.Op.{Op}
use Rattle.mont_base.specs.declared.record.Held.{Held}
use Rattle.mont_base.specs.State.{State, unit_of_op}
use Rattle.job_text.specs.declared.outcome.Outcome.{Outcome}
use Rattle.mont_base.specs.Counting.{records_in}
use Rattle.job_text.specs.Causes.{IsPoint, SomeMoment}
use Rattle.job_text.specs.Outcomes.{place_of}
use Rattle.job_text.specs.Report.{Report}
use Rattle.mont_check.specs.declared.cause.Cause.{Cause}
use Rattle.mont_check.specs.declared.moments.Question.{Question}
use Rattle.mont_check.specs.declared.progress.Progress.{Progress}
use Rattle.mont_check.specs.Bounds.{IsAtLeast, least}
use Rattle.mont_check.specs.JudgedCauses.{IsCause, clock_of_cause}
use Rattle.mont_check.specs.Moments.{HasMoment, IsMet, IsWithin, case_of, span_of}
use Rattle.mont_check.specs.Progress.{HasShown}
use Rattle.mont_check.specs.Shown.{place_in}
use Rattle.mont_check.specs.Walk.{facts_after}
use Rattle.mont_check.proofs.Joined.{all_bounded}
use Rattle.mont_check.proofs.ProgressLaws.{all_below, place_shown, shown_place}

-- ---- places as bounds
all_at_least :
    (unit : ℕ) (os : List Outcome) (n : ℕ)
    → All (λ o. (m : ℕ) → place_in unit o ≡ Some m → n ≤ m) os ↔ IsAtLeast (least (place_in unit) os) n
all_at_least unit os n =
    all_bounded min (λ m. n ≤ m) (λ m k p q. omega arith) (λ m k p. omega arith) (λ m k p. omega arith) (place_in unit) os

module _ (hs : List (List Entry)) (before after : List Outcome) (p : Progress) (shown : HasShown hs before p) (unit : ℕ) (h : List Entry)
    (n : ℕ) where
  pub within_of_point : IsPoint before after unit h n → IsWithin (span_of p after unit) n
  within_of_point point = record {
    behind = λ m is. (all_below (place_in unit) before n).0
        (λ k d low q here. point.behind k d low q (shown_place unit q (place_of (get_or before k d)) here)) m
        (sym (shown.places unit) ∙ is);
    ahead = (all_at_least unit after n).0
        (λ k d low q here. point.ahead k d low q (shown_place unit q (place_of (get_or after k d)) here));
  }

  pub point_of_within : n ≤ length h → IsWithin (span_of p after unit) n → IsPoint before after unit h n
  point_of_within there within = record {
    there = there;
    behind = λ k d low q named. (all_below (place_in unit) before n).1 (λ m is. within.behind m (shown.places unit ∙ is)) k d low q
        (place_shown unit q (get_or before k d) named);
    ahead = λ k d low q named. (all_at_least unit after n).1 within.ahead k d low q (place_shown unit q (get_or after k d) named);
  }

-- ---- the moments of a call
-- the cause held of the unit, of what it held at the opening and of these entries
abbrev pub HeldThen : Report → List (List Held) → Op → Cause → ℕ → State → List Entry → Type 0
HeldThen r records op cause unit base h =
    IsCause r.layout.slots op (records_in records unit) cause (facts_after (clock_of_cause cause) base h)

module _ (r : Report) (records : List (List Held)) (before after : List Outcome) (p : Progress) (op : Op) (cause : Cause)
    (shown : HasShown r.histories before p) where
  moment : HasMoment r records p after op cause → SomeMoment r before after op (HeldThen r records op cause)
  moment m =
      let some = m.some in
      let entries : length (take some.point m.history) ≡ some.point =
      (let there = some.there in omega (arith, length-take some.point m.history)) in
      record {
        unit = m.unit;
        of_unit = m.of_unit;
        base = m.base;
        opened = m.opened;
        history = m.history;
        kept = m.kept;
        point = some.point;
        is_point =
            point_of_within r.histories before after p shown m.unit m.history some.point some.there
            (subst (IsWithin (span_of p after m.unit)) entries some.fits.within);
        held = some.fits.held;
      }

  moment_back : SomeMoment r before after op (HeldThen r records op cause) → HasMoment r records p after op cause
  moment_back m =
      let entries : m.point ≡ length (take m.point m.history) =
      (let there = m.is_point.there in omega (arith, length-take m.point m.history)) in
      record {
        unit = m.unit;
        of_unit = m.of_unit;
        base = m.base;
        opened = m.opened;
        history = m.history;
        kept = m.kept;
        some = record {
          point = m.point;
          there = m.is_point.there;
          fits = record {
            within =
                subst (IsWithin (span_of p after m.unit)) entries
                (within_of_point r.histories before after p shown m.unit m.history m.point m.is_point);
            held = m.held;
          };
        };
      }

  pub moments : HasMoment r records p after op cause ↔ SomeMoment r before after op (HeldThen r records op cause)
  moments = (moment, moment_back)

-- what has to be asked where the unit is known
pub known_moment :
    (r : Report) (records : List (List Held)) (p : Progress) (after : List Outcome) (op : Op) (cause : Cause) (unit : ℕ) (q : Question)
    → unit_of_op r.layout op ≡ Some unit → q ≡ record { unit = unit; span = span_of p after unit; case = case_of r op cause }
    → IsMet r records q ↔ HasMoment r records p after op cause
known_moment r records p after op cause unit q of_unit is = (
  λ met. let m = subst (IsMet r records) is met in
      record { unit = unit; of_unit = of_unit; base = m.base; opened = m.opened; history = m.history; kept = m.kept; some = m.some },
  λ m. subst (IsMet r records) (sym is)
      (let same : m.unit ≡ unit = same_Some m.unit unit (sym m.of_unit ∙ of_unit) in
      subst (λ (u : ℕ). IsMet r records (record { unit = u; span = span_of p after u; case = case_of r op cause })) same
      (record { base = m.base; opened = m.opened; history = m.history; kept = m.kept; some = m.some })),
)

-- what a list has at a place, in another form
pub map_there :
    {A B : Type 0} (f : A → B) (xs : List A) (k : ℕ) (x : A) → slice_get xs k ≡ Some x → slice_get (map f xs) k ≡ Some (f x)
map_there f [] k x there = absurd cc
map_there f (y ∷ xs) zero x there = ap (λ z. Some (f z)) (same_Some y x there)
map_there f (y ∷ xs) (suc k) x there = map_there f xs k x there
