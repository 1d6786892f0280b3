-- The runs of a history, entry by entry, and of histories, unit by unit.
use Rattle.std.proofs.Common.{◌≡◌, ℕ, ◌+◌, ◌<◌, ◌≤◌, Bool, true, false, List, [], ◌∷◌, ◌++◌, length, drop, get_or, Option, Some, None, refl, sym, ap, ◌∙◌, subst, arith}
use Rattle.std.specs.Prelude.{All, nat_le, nat_lt, slice_get}
use Rattle.std.specs.List.{cons_option, list_any}
use Rattle.std.specs.Option.{option_to_list}
use Rattle.std.proofs.lemmas.Bool.{or_parts}
use Rattle.std.proofs.lemmas.List.{append_assoc, length-append}
use Rattle.std.proofs.lemmas.List.Elements.{All-get_or, All-weaker}
use Rattle.std.proofs.lemmas.Option.{slice_get_within}
use Rattle.mont_base.specs.declared.constants.TheConstants.{MOST_PAIRS}
use Rattle.mont_base.specs.declared.operation.Entry.{Entry}
use Rattle.mont_base.specs.declared.operation.Op.{Op}
use Rattle.mont_base.specs.declared.operation.Op.TheVariants as ops
use Rattle.mont_base.specs.History.{runs_of, IsShort}
use Rattle.mont_base.specs.Layout.{Shape}
use Rattle.mont_base.specs.State.{State, MapOf, Run, IsShortOp, step, run_of, unit_of_op, unit_aimed, range_aim, can_range}
use Rattle.plain.proofs.Lists.{opened}
use Rattle.core_steps.proofs.Decisions.{both, le_true, lt_true, lt_false}
use Rattle.core_steps.proofs.RowFacts.{row_before, row_last, same_item}
use Rattle.job_report.specs.FoundRuns.{AreRuns, asks_range}

-- ---- ranges of a legal history have room
short_range : (s : Shape) (unit own most : ℕ) (b : Bool) → can_range most ≡ b → unit_aimed s (range_aim b own) ≡ Some unit
    → most ≤ MOST_PAIRS
short_range s unit own most true is aimed = le_true most MOST_PAIRS (both (nat_le 1 most) (nat_le most MOST_PAIRS) is).1
short_range s unit own most false is aimed = absurd (cc)

short_op : (s : Shape) (unit : ℕ) (op : Op) → unit_of_op s op ≡ Some unit → IsShortOp op
short_op s unit (ops.ORange own from to most) aimed = short_range s unit own most (can_range most) refl aimed
short_op s unit _ aimed = tt

pub all_short : (s : Shape) (unit : ℕ) (h : List Entry) → All (λ (e : Entry). unit_of_op s e.op ≡ Some unit) h → All IsShort h
all_short s unit h of = All-weaker (λ (e : Entry). unit_of_op s e.op ≡ Some unit) IsShort (λ e is. short_op s unit e.op is) h of

-- ---- one entry
with_option : {A : Type 0} (o : Option A) (xs : List A) → option_to_list o ++ xs ≡ cons_option o xs
with_option None xs = refl
with_option (Some x) xs = refl

-- the runs so far go on with that of an entry
pub goes_on : (s next : State) (e : Entry) (es : List Entry) (so_far more all : List Run)
    → so_far ++ runs_of s (e ∷ es) ≡ all → next ≡ (step s e.op).state → more ≡ so_far ++ option_to_list (run_of s e.op)
    → more ++ runs_of next es ≡ all
goes_on s next e es so_far more all was stepped added =
    (λ i. added i ++ runs_of (stepped i) es)
    ∙ append_assoc so_far (option_to_list (run_of s e.op)) (runs_of (step s e.op).state es)
    ∙ ap (λ (v : List Run). so_far ++ v) (with_option (run_of s e.op) (runs_of (step s e.op).state es))
    ∙ was

-- so they do at each entry of a history of short ranges
pub at_entry : (s next : State) (h : List Entry) (i : ℕ) (e : Entry) → i < length h → e ≡ get_or h i e
    → (so_far more all : List Run) → so_far ++ runs_of s (drop i h) ≡ all → next ≡ (step s e.op).state → All IsShort h
    → (IsShort e → more ≡ so_far ++ option_to_list (run_of s e.op)) → more ++ runs_of next (drop (i + 1) h) ≡ all
at_entry s next h i e inside is so_far more all was stepped short added =
    let here : drop i h ≡ e ∷ drop (i + 1) h =
    opened h i e inside ∙ ap (λ (x : Entry). x ∷ drop (i + 1) h) (sym is) in
    let own : IsShort e = subst IsShort (sym is) (All-get_or IsShort h i e inside short) in
    goes_on s next e (drop (i + 1) h) so_far more all
    (ap (λ (es : List Entry). so_far ++ runs_of s es) (sym here) ∙ was) stepped (added own)

-- ---- a history without a range
no_run : (s : State) (op : Op) → asks_range op ≡ false → run_of s op ≡ None
no_run s (ops.ORange unit from to most) is = absurd (cc)
no_run (MapOf m) _ is = refl
no_run _ _ is = refl

pub no_runs : (s : State) (h : List Entry) → list_any (λ (e : Entry). asks_range e.op) h ≡ false → runs_of s h ≡ []
no_runs s [] is = refl
no_runs s (e ∷ es) is =
    let none = or_parts (asks_range e.op) (list_any (λ (x : Entry). asks_range x.op) es) is in
    ap (λ (o : Option Run). cons_option o (runs_of (step s e.op).state es)) (no_run s e.op none.0)
    ∙ no_runs (step s e.op).state es none.1

-- ---- one unit
-- the runs of a unit, if its ranges are short
abbrev pub IsOwn : List State → ℕ → List Entry → List Run → Type 0
IsOwn base unit h runs = (state : State) → slice_get base unit ≡ Some state → All IsShort h → runs ≡ runs_of state h

-- of the first units
pub record AreFirst (base : List State) (histories : List (List Entry)) (runs : List (List Run)) (units : ℕ) : Type 0 where
  pub many : length runs ≡ units
  pub each :
      (unit : ℕ) (state : State) (h : List Entry) → unit < units → slice_get base unit ≡ Some state
      → slice_get histories unit ≡ Some h → All IsShort h → slice_get runs unit ≡ Some (runs_of state h)

module _ (base : List State) (histories : List (List Entry)) (runs : List (List Run)) (units : ℕ)
    (first : AreFirst base histories runs units) (own : List Run) (g : List Entry) (there : slice_get histories units ≡ Some g)
    (is_own : IsOwn base units g own) where
  at_unit : (b : Bool) (unit : ℕ) (state : State) (h : List Entry) → nat_lt unit units ≡ b → unit < units + 1
      → slice_get base unit ≡ Some state → slice_get histories unit ≡ Some h → All IsShort h
      → slice_get (runs ++ own ∷ []) unit ≡ Some (runs_of state h)
  at_unit true unit state h is below e f short =
      row_before runs (own ∷ []) unit (runs_of state h) (first.each unit state h (lt_true unit units is) e f short)
  at_unit false unit state h is below e f short =
      let least = lt_false unit units is in
      let many = first.many in
      let last : unit ≡ length runs = omega (arith, least, below, many) in
      let same : unit ≡ units = omega (arith, least, below) in
      let kept : g ≡ h =
      same_item histories unit g h (ap (λ (n : ℕ). slice_get histories n) same ∙ there) f in
      let found : slice_get base units ≡ Some state = ap (λ (n : ℕ). slice_get base n) (sym same) ∙ e in
      ap (λ (n : ℕ). slice_get (runs ++ own ∷ []) n) last ∙ row_last runs own
      ∙ ap Some (is_own state found (subst (λ (v : List Entry). All IsShort v) (sym kept) short))
      ∙ (λ i. Some (runs_of state (kept i)))

  pub one_more : AreFirst base histories (runs ++ own ∷ []) (units + 1)
  one_more = record {
    many = let many = first.many in let long = length-append runs (own ∷ []) in omega (arith, many, long);
    each = λ unit state h below e f short. at_unit (nat_lt unit units) unit state h refl below e f short;
  }

-- none has a run before the first unit
pub none_yet : (base : List State) (histories : List (List Entry)) → AreFirst base histories [] 0
none_yet base histories = record {
  many = refl;
  each = λ unit state h below e f short. absurd (omega (arith, below));
}

-- the first units are all after the last
pub whole : (base : List State) (histories : List (List Entry)) (runs : List (List Run)) (units : ℕ)
    → AreFirst base histories runs units → units ≡ length histories → AreRuns base histories runs
whole base histories runs units first all = record {
  units = first.many ∙ all;
  each = λ unit state h e f short.
      let below = slice_get_within histories unit h f in
      first.each unit state h (omega (arith, below, all)) e f short;
}
