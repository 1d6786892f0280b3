-- The answered operations of one unit, in their order.
use Rattle.std.specs.Prelude.{◌≡◌, ℕ, ◌≤◌, List, [], ◌∷◌, All, AllPairs, filter, nat_le, Some}
use Rattle.std.specs.List.{cons_option}
use Rattle.mont_base.specs.declared.constants.TheConstants.{LAST}
use Rattle.mont_base.specs.declared.operation.Entry.{Entry}
use Rattle.mont_base.specs.Layout.{Shape}
use Rattle.mont_base.specs.State.{State, Run, IsShortOp, step, run_of, unit_of_op}

-- the state that the operations of these entries lead to
abbrev pub state_after : State → List Entry → State
state_after s [] = s
state_after s (e ∷ es) = state_after (step s e.op).state es

-- each reply is the one that the state reached so far gives
abbrev pub RepliesFollow : State → List Entry → Type 0
RepliesFollow s [] = Unit {0}
RepliesFollow s (e ∷ es) = (e.reply ≡ (step s e.op).reply) × RepliesFollow (step s e.op).state es

-- the runs of the ranges among these entries, each on the state reached so far
abbrev pub runs_of : State → List Entry → List Run
runs_of s [] = []
runs_of s (e ∷ es) = cons_option (run_of s e.op) (runs_of (step s e.op).state es)

-- an entry whose run has room in memory, as each of a legal history has
abbrev pub IsShort : Entry → Type 0
IsShort e = IsShortOp e.op

-- A legal history of a unit, from a state at a clock (a sequential history of the structure whose
-- epochs never fall).
pub record IsLegal (s : Shape) (unit : ℕ) (base : State) (clock : ℕ) (h : List Entry) : Type 0 where
  pub of_unit : All (λ (e : Entry). unit_of_op s e.op ≡ Some unit) h
  pub replies : RepliesFollow base h
  pub rising : AllPairs (λ (d e : Entry). d.epoch ≤ e.epoch) h
  pub begins : All (λ (e : Entry). clock ≤ e.epoch) h
  pub ends : All (λ (e : Entry). e.epoch ≤ LAST) h

-- the entries whose epoch is at most x
abbrev pub cut_at : ℕ → List Entry → List Entry
cut_at x h = filter (λ (e : Entry). nat_le e.epoch x) h
