-- The runs of a history, entry by entry.
use Rattle.std.proofs.Common.{◌≡◌, ◌≢◌, ℕ, ◌≤◌, Bool, true, false, ◌&&◌, List, [], ◌∷◌, Option, Some, None, sym, ap, ◌∙◌, refl, subst}
use Rattle.std.specs.Prelude.{◌↔◌, IsTrue, All, nat_le, slice_get}
use Rattle.std.specs.List.{cons_option}
use Rattle.std.specs.Bool.{Decides}
use Rattle.std.proofs.lemmas.List.Elements.{All-weaker}
use Rattle.std.proofs.lemmas.Bool.{and_parts, leb-true}
use Rattle.mont_base.specs.declared.constants.TheConstants.{MOST_PAIRS}
use Rattle.mont_base.specs.declared.operation.Entry.{Entry}
use Rattle.mont_base.specs.declared.operation.Op.{Op}
use Rattle.mont_base.specs.declared.operation.Op.TheVariants as ops
use Rattle.mont_base.specs.History.{runs_of, IsShort}
use Rattle.mont_base.specs.Layout.{Shape}
use Rattle.mont_base.specs.State.{State, Run, IsShortOp, step, run_of, unit_of_op, unit_aimed, range_aim, can_range}

-- ---- ranges of a legal history have room
short_range : (s : Shape) (unit own most : ℕ) (b : Bool) → can_range most ≡ b → unit_aimed s (range_aim b own) ≡ Some unit
    → most ≤ MOST_PAIRS
short_range s unit own most true is aimed = leb-true most MOST_PAIRS (and_parts (nat_le 1 most) (nat_le most MOST_PAIRS) is).1
short_range s unit own most false is aimed = absurd (cc)

short_op : (s : Shape) (unit : ℕ) (op : Op) → unit_of_op s op ≡ Some unit → IsShortOp op
short_op s unit (ops.ORange own from to most) aimed = short_range s unit own most (can_range most) refl aimed
short_op s unit _ aimed = tt

pub all_short : (s : Shape) (unit : ℕ) (h : List Entry) → All (λ (e : Entry). unit_of_op s e.op ≡ Some unit) h → All IsShort h
all_short s unit h of = All-weaker (λ (e : Entry). unit_of_op s e.op ≡ Some unit) IsShort (λ e is. short_op s unit e.op is) h of

-- ---- one entry
module _ (s next : State) (e : Entry) (es : List Entry) (stepped : next ≡ (step s e.op).state) where
  with_run : (o : Option Run) → run_of s e.op ≡ o → runs_of s (e ∷ es) ≡ cons_option o (runs_of next es)
  with_run o is = λ i. cons_option (is i) (runs_of (sym stepped i) es)

  pub run_none : (left : List Run) → run_of s e.op ≡ None → (left ≡ runs_of s (e ∷ es)) ↔ (left ≡ runs_of next es)
  run_none left is = (λ h. h ∙ with_run None is, λ h. h ∙ sym (with_run None is))

  pub run_some : (left behind : List Run) (run : Run) → run_of s e.op ≡ Some run → left ≡ run ∷ behind
      → (left ≡ runs_of s (e ∷ es)) ↔ (behind ≡ runs_of next es)
  run_some left behind run is there = (
    λ h. let both : run ∷ behind ≡ run ∷ runs_of next es = sym there ∙ h ∙ with_run (Some run) is in cc,
    λ h. there ∙ ap (λ (rs : List Run). run ∷ rs) h ∙ sym (with_run (Some run) is),
  )

pub run_differs : (s : State) (e : Entry) (es : List Entry) (left : List Run) (run : Run) → run_of s e.op ≡ Some run
    → ((behind : List Run) → left ≢ run ∷ behind) → left ≢ runs_of s (e ∷ es)
run_differs s e es left run is none h =
    none (runs_of (step s e.op).state es) (h ∙ (λ i. cons_option (is i) (runs_of (step s e.op).state es)))

-- ---- the runs of a unit that is there
module _ (base : List State) (hs : List (List Entry)) (rss : List (List Run)) (unit : ℕ) (state : State) (h : List Entry)
    (opened : slice_get base unit ≡ Some state) (kept : slice_get hs unit ≡ Some h) where
  pub runs_missing : slice_get rss unit ≡ None
      → IsTrue false ↔ ((s : State) (g : List Entry) → slice_get base unit ≡ Some s → slice_get hs unit ≡ Some g
      → slice_get rss unit ≡ Some (runs_of s g))
  runs_missing none = (
    λ yes. absurd cc,
    λ all. absurd (let both : ◌≡◌ {A = Option (List Run)} None (Some (runs_of state h)) = sym none ∙ all state h opened kept in cc),
  )

  pub runs_there : (own : List Run) (b : Bool) → slice_get rss unit ≡ Some own → (IsTrue b ↔ (own ≡ runs_of state h))
      → IsTrue b ↔ ((s : State) (g : List Entry) → slice_get base unit ≡ Some s → slice_get hs unit ≡ Some g
      → slice_get rss unit ≡ Some (runs_of s g))
  runs_there own b there says = (
    λ yes s g e f.
        let one : state ≡ s = (let both : Some state ≡ Some s = sym opened ∙ e in cc) in
        let two : h ≡ g = (let both : Some h ≡ Some g = sym kept ∙ f in cc) in
        there ∙ ap Some (says.0 yes ∙ (λ i. runs_of (one i) (two i))),
    λ all. says.1 (let both : Some own ≡ Some (runs_of state h) = sym there ∙ all state h opened kept in cc),
  )
