-- What an entry needs to stand next in a history.
use Rattle.std.specs.Prelude.{◌≡◌, ◌≢◌, ℕ, ◌<◌, ◌≤◌, List, ◌++◌, Option, Some}
use Rattle.std.specs.Option.{option_to_list}
use Rattle.mont_base.specs.declared.constants.TheConstants.{LAST}
use Rattle.mont_base.specs.declared.operation.Entry.{Entry}
use Rattle.mont_base.specs.State.{Run, unit_of_op}
use Rattle.job_text.specs.Report.{Report}

-- but for its reply and its run: after entries of which this is the newest epoch
pub record MayFollow (r : Report) (unit newest : ℕ) (e : Entry) : Type 0 where
  pub of_unit : unit_of_op r.layout e.op ≡ Some unit
  pub later : newest ≤ e.epoch
  pub last : e.epoch ≤ LAST
  pub caller : e.caller < r.callers

-- the runs that are left don't begin with that of an entry, if it has one
abbrev pub LacksRun : List Run → Option Run → Type 0
LacksRun left run = (behind : List Run) → left ≢ option_to_list run ++ behind
