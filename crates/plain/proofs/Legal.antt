-- A legal history from its first entry on.
use Rattle.std.proofs.Common.{◌≡◌, ℕ, suc, ◌+◌, ◌≤◌, ◌<◌, List, [], ◌∷◌, length, drop, get_or, sym, ap, subst, ◌∙◌, arith}
use Rattle.std.specs.Prelude.{◌↔◌, Bool, false, IsTrue, Some}
use Rattle.std.specs.List.{All, AllPairs}
use Rattle.std.proofs.lemmas.List.Elements.{All-nil, All-cons, All-head, All-tail, All-weaker}
use Rattle.std.proofs.lemmas.List.{drop_all}
use Rattle.std.proofs.lemmas.List.Kept.{AllPairs-cons}
use Rattle.mont_base.specs.declared.constants.TheConstants.{LAST}
use Rattle.mont_base.specs.declared.operation.Entry.{Entry}
use Rattle.mont_base.specs.declared.operation.Reply.{Reply}
use Rattle.mont_base.specs.Layout.{Shape}
use Rattle.mont_base.specs.State.{State, step, unit_of_op}
use Rattle.mont_base.specs.History.{IsLegal}
use Rattle.plain.specs.Continues.{ContinuesHistory}
use Rattle.plain.proofs.Lists.{opened}

pairs_head : {X : Type 0} (R : X → X → Type 0) (x : X) (xs : List X) → AllPairs R (x ∷ xs) → All (R x) xs
pairs_head R x xs h k d lt = h 0 (suc k) d (omega arith) (omega arith)

pairs_tail : {X : Type 0} (R : X → X → Type 0) (x : X) (xs : List X) → AllPairs R (x ∷ xs) → AllPairs R xs
pairs_tail R x xs h i j d lt within = h (suc i) (suc j) d (omega arith) (omega arith)

pub legal_none : (s : Shape) (unit : ℕ) (base : State) (clock : ℕ) → IsLegal s unit base clock []
legal_none s unit base clock = record {
  of_unit = All-nil _;
  replies = tt;
  rising = λ i j d lt within. absurd (omega arith);
  begins = All-nil _;
  ends = All-nil _;
}

pub legal_first : (s : Shape) (unit : ℕ) (base : State) (clock : ℕ) (e : Entry) (es : List Entry) → IsLegal s unit base clock (e ∷ es)
    → ContinuesHistory s unit clock (step base e.op).reply e
legal_first s unit base clock e es h = record {
  of_unit = All-head (λ (x : Entry). unit_of_op s x.op ≡ Some unit) e es h.of_unit;
  replied = h.replies.0;
  later = All-head (λ (x : Entry). clock ≤ x.epoch) e es h.begins;
  last = All-head (λ (x : Entry). x.epoch ≤ LAST) e es h.ends;
}

pub legal_rest : (s : Shape) (unit : ℕ) (base : State) (clock : ℕ) (e : Entry) (es : List Entry) → IsLegal s unit base clock (e ∷ es)
    → IsLegal s unit (step base e.op).state e.epoch es
legal_rest s unit base clock e es h = record {
  of_unit = All-tail (λ (x : Entry). unit_of_op s x.op ≡ Some unit) e es h.of_unit;
  replies = h.replies.1;
  rising = pairs_tail (λ (c d : Entry). c.epoch ≤ d.epoch) e es h.rising;
  begins = pairs_head (λ (c d : Entry). c.epoch ≤ d.epoch) e es h.rising;
  ends = All-tail (λ (x : Entry). x.epoch ≤ LAST) e es h.ends;
}

pub legal_whole : (s : Shape) (unit : ℕ) (base : State) (clock : ℕ) (e : Entry) (es : List Entry)
    → ContinuesHistory s unit clock (step base e.op).reply e → IsLegal s unit (step base e.op).state e.epoch es
    → IsLegal s unit base clock (e ∷ es)
legal_whole s unit base clock e es first rest = record {
  of_unit = All-cons (λ (x : Entry). unit_of_op s x.op ≡ Some unit) e es first.of_unit rest.of_unit;
  replies = (first.replied, rest.replies);
  rising = AllPairs-cons (λ (c d : Entry). c.epoch ≤ d.epoch) e es rest.begins rest.rising;
  begins =
      let From : ℕ → Entry → Type 0 = λ n x. n ≤ x.epoch in
      let later = All-weaker (From e.epoch) (From clock) (λ x above. omega (arith, first.later, above)) es rest.begins in
      All-cons (From clock) e es first.later later;
  ends = All-cons (λ (x : Entry). x.epoch ≤ LAST) e es first.last rest.ends;
}

module _ (s : Shape) (unit : ℕ) (base : State) (clock : ℕ) (es : List Entry) (i : ℕ) (e : Entry) (inside : i < length es)
    (is : e ≡ get_or es i e) where
  left : drop i es ≡ e ∷ drop (i + 1) es
  left = opened es i e inside ∙ ap (λ (x : Entry). x ∷ drop (i + 1) es) (sym is)

  first_at : IsLegal s unit base clock (drop i es) → ContinuesHistory s unit clock (step base e.op).reply e
  first_at h = legal_first s unit base clock e (drop (i + 1) es) (subst (IsLegal s unit base clock) left h)

  -- what is left is legal where it is after its first entry
  pub legal_on : (reply : Reply) (state : State) → reply ≡ (step base e.op).reply → state ≡ (step base e.op).state
      → ContinuesHistory s unit clock reply e → (Whole : Type 0) → (IsLegal s unit base clock (drop i es) ↔ Whole)
      → IsLegal s unit state e.epoch (drop (i + 1) es) ↔ Whole
  legal_on reply state gives leads first Whole so_far =
      let follows = subst (λ (r : Reply). ContinuesHistory s unit clock r e) gives first in
      let P : State → Type 0 = λ t. IsLegal s unit t e.epoch (drop (i + 1) es) in (
        λ h. so_far.0
            (subst (IsLegal s unit base clock) (sym left) (legal_whole s unit base clock e (drop (i + 1) es) follows (subst P leads h))),
        λ h. subst P (sym leads) (legal_rest s unit base clock e (drop (i + 1) es) (subst (IsLegal s unit base clock) left (so_far.1 h))),
      )

  -- where the first entry may not come next, nothing is legal
  pub legal_stops : (reply : Reply) (may : Bool) → reply ≡ (step base e.op).reply → may ≡ false
      → IsTrue may ↔ ContinuesHistory s unit clock reply e → (Whole : Type 0)
      → (IsLegal s unit base clock (drop i es) ↔ Whole) → IsTrue false ↔ Whole
  legal_stops reply may gives refused decided Whole so_far = (
    λ t. cc,
    λ whole. sym refused ∙ decided.1 (subst (λ (r : Reply). ContinuesHistory s unit clock r e) (sym gives) (first_at (so_far.1 whole))),
  )

pub legal_end : (s : Shape) (unit : ℕ) (base : State) (clock : ℕ) (es : List Entry) (i : ℕ) → length es ≤ i
    → IsLegal s unit base clock (drop i es)
legal_end s unit base clock es i past = rw (drop_all i es past) (legal_none s unit base clock)
