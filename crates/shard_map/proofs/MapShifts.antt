-- How a shift is planned, and why it can't be.
use Rattle.std.proofs.Common.{◌≡◌, ℕ, ◌+◌, ◌-◌, Bool, true, false, [], ◌∷◌, refl, sym, ap, ◌∙◌, subst, arith}
use Rattle.std.specs.Prelude.{Option, Some, None, IfSome, decimal}
use Rattle.std.proofs.lemmas.List.Elements.{All-head}
use Rattle.mont_base.specs.declared.effect.Thing.TheVariants.{Pair}
use Rattle.mont_base.specs.declared.operation.Op.TheVariants as ops
use Rattle.mont_base.specs.declared.operation.Reply.TheVariants.{WasText}
use Rattle.mont_base.specs.Bodies.{pair_body}
use Rattle.mont_base.specs.State.{Key, Value, step}
use Rattle.mont_base.specs.Texts.{IsText}
use Rattle.core_steps.specs.declared.parts.CallerPart.{CallerPart}
use Rattle.index_kit.specs.Index.{Places}
use Rattle.slots.specs.Books.{RegionShown}
use Rattle.slots.specs.WrittenRecords.{NamesLive}
use Rattle.structure_call.specs.Planning.{NamesThing}
use Rattle.structure_call.proofs.ChangeNumbers.{all_live}
use Rattle.shard_map.specs.declared.map_plan.Found.{Found}
use Rattle.shard_map.specs.declared.pair_carrying.PlannedChange.{PlannedChange}
use Rattle.shard_map.specs.declared.shift_refusal.ShiftRefusal.{ShiftRefusal}
use Rattle.shard_map.specs.declared.shift_refusal.ShiftRefusal.TheVariants.{Halted, Missing, Short, Over}
use Rattle.shard_map.specs.MapPlan.{HasValue, value_found}
use Rattle.shard_map.specs.MapShard.{IsMapUnit}
use Rattle.shard_map.specs.PairCarrying.{IsPlanned}
use Rattle.shard_map.specs.MapShift.{ArePlanned, CannotShift, IsMove, KeepsKey, LacksAmount, ReplacesRecord, TellsMark, put_planned}
use Rattle.shard_map.specs.MovedNumbers.{AreMoved, CannotMove, of_high, of_low}
use Rattle.shard_map.proofs.MapPlans.{put_plan}

-- ---- sides that are put in order, and back
pub back_low : {A : Type 0} (up : Bool) (a b : A) → of_low up (of_low up (a, b), of_high up (a, b)) ≡ a
back_low true a b = refl
back_low false a b = refl

pub back_high : {A : Type 0} (up : Bool) (a b : A) → of_high up (of_low up (a, b), of_high up (a, b)) ≡ b
back_high true a b = refl
back_high false a b = refl

-- ---- why there is none
module _ (up : Bool) (low high : RegionShown) (q : CallerPart) (from to : Key) (amount : ℕ) where
  pub marked : (why : ShiftRefusal) → TellsMark low high why → CannotShift up low high q from to amount why
  marked (Halted unit by) k = k
  marked _ k = absurd k

  module _ (low_runs : low.books.halted ≡ None) (high_runs : high.books.halted ≡ None) where
    lacks : (vl vh : Option Value) (why : ShiftRefusal) → HasValue low (of_low up (from, to)) vl
        → HasValue high (of_high up (from, to)) vh → CannotMove from to (of_low up (vl, vh)) (of_high up (vl, vh)) amount why
        → LacksAmount up low high from to amount why
    lacks vl vh why first second k = record {
      low_running = low_runs;
      high_running = high_runs;
      out = of_low up (vl, vh);
      into = of_high up (vl, vh);
      low_value = subst (HasValue low (of_low up (from, to))) (sym (back_low up vl vh)) first;
      high_value = subst (HasValue high (of_high up (from, to))) (sym (back_high up vl vh)) second;
      cannot = k;
    }

    pub cannot_shift : (vl vh : Option Value) (why : ShiftRefusal) → HasValue low (of_low up (from, to)) vl
        → HasValue high (of_high up (from, to)) vh → CannotMove from to (of_low up (vl, vh)) (of_high up (vl, vh)) amount why
        → CannotShift up low high q from to amount why
    cannot_shift vl vh (Missing key) first second k = lacks vl vh (Missing key) first second k
    cannot_shift vl vh (Short have) first second k = lacks vl vh (Short have) first second k
    cannot_shift vl vh (Over have) first second k = lacks vl vh (Over have) first second k
    cannot_shift vl vh _ first second k = absurd k

-- ---- the two puts move the amount
less_is : (n amount : ℕ) → n ≡ n + amount - amount
less_is n amount = omega arith

move_of : (from to : Key) (amount : ℕ) (out into : Option Found) (less more : ℕ)
    → AreMoved (value_found out) (value_found into) amount (less, more)
    → IsMove from to amount (put_planned from out less).op (put_planned from out less).reply (put_planned to into more).op
    (put_planned to into more).reply
    × ReplacesRecord (put_planned from out less).change × ReplacesRecord (put_planned to into more).change
move_of from to amount None into less more k = absurd k.less
move_of from to amount (Some f) None less more k = absurd k.into_what
move_of from to amount (Some f) (Some h) less more k = (
  record {
    have = less + amount;
    had = k.had;
    enough = omega arith;
    short = k.less.short;
    fits = let more_is = k.more in let fits = k.fits in omega arith;
    less = ap (λ (n : ℕ). ops.Put from (decimal n)) (less_is less amount);
    out_of = ap WasText k.less.is;
    more = ap (λ (n : ℕ). ops.Put to (decimal n)) k.more;
    into_what = ap WasText k.into_what.is;
  },
  tt,
  tt,
)

pub are_planned : (up : Bool) (low high : RegionShown) (from to : Key) (amount : ℕ) (fl fh : Option Found) (less more : ℕ)
    → low.books.halted ≡ None → high.books.halted ≡ None
    → AreMoved (of_low up (value_found fl, value_found fh)) (of_high up (value_found fl, value_found fh)) amount (less, more)
    → IsPlanned low (put_planned (of_low up (from, to)) fl (of_low up (less, more)))
    → IsPlanned high (put_planned (of_high up (from, to)) fh (of_high up (less, more)))
    → ArePlanned up low high from to amount (put_planned (of_low up (from, to)) fl (of_low up (less, more)))
    (put_planned (of_high up (from, to)) fh (of_high up (less, more)))
are_planned true low high from to amount fl fh less more low_runs high_runs k first second =
    let m = move_of from to amount fl fh less more k in
    record {
      low_running = low_runs;
      high_running = high_runs;
      lower = first;
      higher = second;
      move = m.0;
      low_there = m.1;
      high_there = m.2;
    }
are_planned false low high from to amount fl fh less more low_runs high_runs k first second =
    let m = move_of from to amount fh fl less more k in
    record {
      low_running = low_runs;
      high_running = high_runs;
      lower = first;
      higher = second;
      move = m.0;
      low_there = m.2;
      high_there = m.1;
    }

-- ---- each put is planned
pub put_is_planned : (r : RegionShown) (places : Places) → IsMapUnit r places → r.books.halted ≡ None → (key : Key) (found : Option Found)
    (number : ℕ) → KeepsKey r key → IsText key → IsText (decimal number) → HasValue r key (value_found found)
    → IfSome found (λ f. NamesThing r.seat.known.part.records (Pair key f.value) f.slot f.identity)
    → IsPlanned r (put_planned key found number)
put_is_planned r places unit running key found number keeps text digits value named =
    put_plan r places unit running (ops.Put key (decimal number)) (record { of_unit = keeps; texts = (text, digits) }) key (decimal number)
    found (pair_body key (decimal number)) refl value named refl

-- and names a live record
pub planned_live : (r : RegionShown) (plan : PlannedChange) → IsPlanned r plan → NamesLive r.seat.known.part.records plan.change
planned_live r plan k = All-head (NamesLive r.seat.known.part.records) plan.change []
    (all_live r.books r.seat.known.part.records (step k.state plan.op).effects (plan.change ∷ []) k.makes)

-- ---- what was found under both keys, handed on by sides
module _ (up : Bool) (low high : RegionShown) (from to : Key) (amount : ℕ) (low_runs : low.books.halted ≡ None)
    (high_runs : high.books.halted ≡ None) (keys : Key × Key) (fl fh : Option Found) (a b : Option Value)
    (sides : Option Value × Option Value) (keys_are : keys ≡ (of_low up (from, to), of_high up (from, to))) (first : a ≡ value_found fl)
    (second : b ≡ value_found fh) (sides_are : sides ≡ (of_low up (a, b), of_high up (a, b))) where
  values_are : sides
      ≡ (of_low up (value_found fl, value_found fh), of_high up (value_found fl, value_found fh))
  values_are = sides_are ∙ (λ i. (of_low up (first i, second i), of_high up (first i, second i)))

  pub cannot_move : (q : CallerPart) (why : ShiftRefusal) → HasValue low keys.0 (value_found fl) → HasValue high keys.1 (value_found fh)
      → CannotMove from to sides.0 sides.1 amount why → CannotShift up low high q from to amount why
  cannot_move q why low_value high_value k =
      cannot_shift up low high q from to amount low_runs high_runs (value_found fl) (value_found fh) why
      (subst (λ (key : Key). HasValue low key (value_found fl)) (ap (λ (x : Key × Key). x.0) keys_are) low_value)
      (subst (λ (key : Key). HasValue high key (value_found fh)) (ap (λ (x : Key × Key). x.1) keys_are) high_value)
      (subst (λ (x : Option Value × Option Value). CannotMove from to x.0 x.1 amount why) values_are k)

  pub planned_both : (less more : ℕ) (order : ℕ × ℕ) (low_plan high_plan : PlannedChange)
      → order ≡ (of_low up (less, more), of_high up (less, more)) → low_plan ≡ put_planned keys.0 fl order.0
      → high_plan ≡ put_planned keys.1 fh order.1 → AreMoved sides.0 sides.1 amount (less, more) → IsPlanned low low_plan
      → IsPlanned high high_plan → ArePlanned up low high from to amount low_plan high_plan
  planned_both less more order low_plan high_plan order_is low_is high_is k lower higher =
      subst (λ (x : PlannedChange × PlannedChange). ArePlanned up low high from to amount x.0 x.1)
      (λ i. (sym low_then i, sym high_then i))
      (are_planned up low high from to amount fl fh less more low_runs high_runs
      (subst (λ (x : Option Value × Option Value). AreMoved x.0 x.1 amount (less, more)) values_are k)
      (subst (IsPlanned low) low_then lower) (subst (IsPlanned high) high_then higher))
    where
      low_then : low_plan ≡ put_planned (of_low up (from, to)) fl (of_low up (less, more))
      low_then = low_is ∙ (λ i. put_planned (keys_are i).0 fl (order_is i).0)

      high_then : high_plan ≡ put_planned (of_high up (from, to)) fh (of_high up (less, more))
      high_then = high_is ∙ (λ i. put_planned (keys_are i).1 fh (order_is i).1)
