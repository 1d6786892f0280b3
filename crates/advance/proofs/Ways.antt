-- How the parts of an advance make the whole.
use Rattle.std.proofs.Common.{◌≡◌, ◌≢◌, ℕ, ◌+◌, ◌<◌, ◌≤◌, Bool, true, false, cond, refl, sym, ap, ◌∙◌, subst, arith}
use Rattle.std.specs.Prelude.{nat_lt}
use Rattle.std.proofs.lemmas.Bool.{lt-ltb}
use Rattle.core_steps.proofs.Decisions.{lt_true}
use Rattle.advance.specs.Stage.{has_passed}
use Rattle.mont_base.specs.Layout.{Shape}
use Rattle.core_steps.specs.declared.parts.AdvPart.{AdvPart}
use Rattle.core_steps.specs.declared.parts.AdvPart.TheVariants as parts
use Rattle.core_steps.specs.Advancing.{can_check, unit_at_hand, past_unit, is_clocked}
use Rattle.heap_rule.specs.declared.rule.Opening.{Opening}
use Rattle.heap_rule.specs.declared.views.AdvKnown.{AdvKnown}
use Rattle.heap_rule.specs.Plays.{IsAhead}
use Rattle.heap_rule.specs.Views.{full_rest, advancer_rested}
use Rattle.heap.specs.HeapShown.{AdvShown}
use Rattle.heap_pass.specs.OfLayout.{IsOfLayout}
use Rattle.advance.specs.declared.advance_refusal.AdvanceRefusal.{AdvanceRefusal}
use Rattle.advance.specs.declared.advance_refusal.AdvanceRefusal.TheVariants.{NotYet, Cut, ClockEnd}
use Rattle.advance.specs.Advance.{IsSameSeat, HasChecked, clock_ahead, IsAdvanced, IsUnderWay, HasReason}

-- ---- the same seat
pub same_more : (x y z : AdvShown) → IsSameSeat x y → IsSameSeat y z → IsSameSeat x z
same_more x y z h j = record {
  table = j.table ∙ h.table;
  units = j.units ∙ h.units;
  room = j.room ∙ h.room;
  list_count = j.list_count ∙ h.list_count;
  learnt = j.learnt ∙ h.learnt;
  clean = j.clean ∙ h.clean;
  odd = λ u e. j.odd u (h.odd u e);
}

pub same_layout : (l : Shape) (x y : AdvShown) → IsSameSeat x y → IsOfLayout l x.known → IsOfLayout l y.known
same_layout l x y h o = record {
  units = h.units ∙ o.units;
  room = h.room ∙ o.room;
  lists = h.list_count ∙ (o.lists ∙ sym h.units);
}

-- ---- the same advance
pub checked_more : (a b c : AdvKnown) → HasChecked a b → HasChecked b c → HasChecked a c
checked_more a b c h j =
    let first = h.steps in
    let then = j.steps in record {
      current = j.current ∙ h.current;
      durable = j.durable ∙ h.durable;
      waits = j.waits;
      steps = omega arith;
    }

ahead_waits : (a : AdvKnown) → is_clocked a.part ≡ false → clock_ahead a ≡ a.clock + 1
ahead_waits a e = ap (λ (b : Bool). cond b a.clock (a.clock + 1)) e

ahead_moved : (a : AdvKnown) → is_clocked a.part ≡ true → clock_ahead a ≡ a.clock
ahead_moved a e = ap (λ (b : Bool). cond b a.clock (a.clock + 1)) e

pub checked_way : (a b : AdvKnown) → is_clocked a.part ≡ false → HasChecked a b → IsUnderWay a b
checked_way a b waits h = record {
  durable = h.durable;
  ahead = ahead_waits b h.waits ∙ (ap (λ (n : ℕ). n + 1) h.current ∙ sym (ahead_waits a waits));
}

-- ---- reasons
pub reason_more : (why : AdvanceRefusal) (a b c : AdvKnown) → a.steps ≤ b.steps → why ≢ ClockEnd → HasReason why b c → HasReason why a c
reason_more (NotYet unit epoch cut) a b c l not h =
    let loads = h.loads in record {
      loads = omega arith;
      holds = h.holds;
      epoch_is = h.epoch_is;
      begun = h.begun;
      below = h.below;
      below_durable = h.below_durable;
      cut_is = h.cut_is;
      stays = h.stays;
      marked = h.marked;
    }
reason_more Cut a b c l not h = tt
reason_more ClockEnd a b c l not h = absurd (not refl)

-- ---- the end
pub rested_advanced : (o : Opening) (a b : AdvKnown) (n : ℕ) → b ≡ advancer_rested a → n ≡ a.clock → is_clocked a.part ≡ true
    → a.turn ≡ full_rest → IsAhead o a → IsAdvanced a n b
rested_advanced o a b n made now moved turn h =
    subst (λ (z : ℕ × AdvKnown). IsAdvanced a z.0 z.1) (λ i. (sym now i, sym made i)) (record {
      steps = grind arith;
      ahead = sym (ahead_moved a moved);
      current = refl;
      durable = refl;
      rests = record { part = refl; turn = turn };
      above = h.ahead;
      reached = h.reached;
    })

-- ---- from unit to unit
pub past_here : (n j now : ℕ) (p : AdvPart) → p ≡ past_unit n j → j + 1 < n → (can_check now p ≡ true) × (j + 1 ≡ unit_at_hand p)
past_here n j now p is l =
    let next : p ≡ parts.Checking (j + 1) = is
    ∙ ap (λ (b : Bool). cond b (parts.Checking (j + 1)) (parts.Flushing 0 0)) (lt-ltb (j + 1) n l) in
    (ap (can_check now) next, sym (ap unit_at_hand next))

pub past_end : (n j : ℕ) (p : AdvPart) → p ≡ past_unit n j → n ≤ j + 1 → has_passed p ≡ true
past_end n j p is l =
    ap has_passed is ∙ by (nat_lt (j + 1) n) refl
  where
    by : (b : Bool) → nat_lt (j + 1) n ≡ b → has_passed (cond b (parts.Checking (j + 1)) (parts.Flushing 0 0)) ≡ true
    by true e = let more = lt_true (j + 1) n e in absurd (omega arith)
    by false e = refl

pub past_moves : (n j : ℕ) (p : AdvPart) → p ≡ past_unit n j → p ≡ parts.Rest → ⊥
past_moves n j p is rest = by (nat_lt (j + 1) n) (sym is ∙ rest)
  where
    by : (b : Bool) → cond b (parts.Checking (j + 1)) (parts.Flushing 0 0) ≡ parts.Rest → ⊥
    by true e = cc
    by false e = cc
