-- What the values of a map or of an ordered unit come to, each counted by a function, and what
-- entries put in and take out.
use Rattle.std.specs.Prelude.{◌≡◌, ℕ, ◌+◌, List, sum_by}
use Rattle.std.specs.FinMap as finite
use Rattle.mont_base.specs.declared.operation.Entry.{Entry}
use Rattle.mont_base.specs.declared.operation.Op.{Op}
use Rattle.mont_base.specs.declared.operation.Op.TheVariants as ops
use Rattle.mont_base.specs.declared.operation.Reply.{Reply}
use Rattle.mont_base.specs.declared.operation.Reply.TheVariants as replies
use Rattle.mont_base.specs.State.{Key, Value, Pairs, State, MapOf}
use Rattle.mont_base.specs.History.{state_after, RepliesFollow}

-- what the values of a map or of an ordered unit come to; other units have none
abbrev pub amount_in : (Value → ℕ) → State → ℕ
amount_in amount (MapOf m) = sum_by (λ (e : Key × Value). amount e.1) (finite.entries m)
amount_in amount _ = 0

-- and those of all units
abbrev pub amount_in_all : (Value → ℕ) → List State → ℕ
amount_in_all amount states = sum_by (amount_in amount) states

-- what an operation puts in
abbrev pub put_amount : (Value → ℕ) → Op → ℕ
put_amount amount (ops.Put key value) = amount value
put_amount amount (ops.OPut unit key value) = amount value
put_amount amount _ = 0

-- what it takes out, as its reply tells: the value that was there
abbrev pub told_amount : (Value → ℕ) → Reply → ℕ
told_amount amount (replies.WasText value) = amount value
told_amount amount _ = 0

abbrev pub taken_amount : (Value → ℕ) → Op → Reply → ℕ
taken_amount amount (ops.Put key value) reply = told_amount amount reply
taken_amount amount (ops.Del key) reply = told_amount amount reply
taken_amount amount (ops.OPut unit key value) reply = told_amount amount reply
taken_amount amount (ops.ODel unit key) reply = told_amount amount reply
taken_amount amount _ reply = 0

abbrev pub put_in : (Value → ℕ) → Entry → ℕ
put_in amount e = put_amount amount e.op

abbrev pub taken_out : (Value → ℕ) → Entry → ℕ
taken_out amount e = taken_amount amount e.op e.reply

-- a history leads from one state to another, and accounts for the difference
abbrev pub Balances : (Value → ℕ) → State → List Entry → State → Type 0
Balances amount before h behind =
    amount_in amount behind + sum_by (taken_out amount) h
    ≡ amount_in amount before + sum_by (put_in amount) h

abbrev pub BooksBalance : Type 0
BooksBalance =
    (amount : Value → ℕ) (m : Pairs) (h : List Entry) → RepliesFollow (MapOf m) h
    → Balances amount (MapOf m) h (state_after (MapOf m) h)
