-- How a unit answers a caller: by leaving the epoch in which it has written, or by a read.
use Rattle.std.specs.Prelude.{◌≡◌, ◌≢◌, ℕ, ◌+◌, ◌≤◌, [], ◌∷◌, ◌++◌, length, slice_set, None}
use Rattle.mont_base.specs.declared.constants.TheConstants.{LAST}
use Rattle.mont_base.specs.declared.operation.Op.{Op}
use Rattle.mont_base.specs.declared.operation.Reply.{Reply}
use Rattle.mont_base.specs.declared.operation.Entry.{Entry}
use Rattle.mont_base.specs.Layout.{Shape}
use Rattle.mont_base.specs.State.{State, step}
use Rattle.mont_laws.specs.Effects.{IsOpOf, AreEffects}
use Rattle.mont_laws.specs.Structures.{HasStructure}
use Rattle.mont_laws.specs.Retiring.{retired_by_all}
use Rattle.core_steps.specs.declared.parts.Core.{Core}
use Rattle.core_steps.specs.declared.parts.UnitPart.{UnitPart}
use Rattle.core_steps.specs.declared.parts.CallerPart.{CallerPart}
use Rattle.core_steps.specs.declared.parts.UnitStage.TheVariants.{Idle, Within}

-- ---- what an answer needs
-- The operation is one of the unit, and the reply is the plain step's on the state that the unit's
-- records show.
pub record IsJudged (s : Shape) (u : ℕ) (p : UnitPart) (op : Op) (reply : Reply) : Type 0 where
  pub of_unit : IsOpOf s u op
  pub state : State
  pub shown : HasStructure s u p.records state
  pub replies : reply ≡ (step state op).reply

-- there are numbers for one more entry
pub record HasNumbers (p : UnitPart) (q : CallerPart) : Type 0 where
  pub place : length p.history ≤ LAST
  pub call : q.calls ≤ LAST

-- Leave, in an epoch: what was written are the effects of the operation.
pub record CanLeave
    (s : Shape) (u : ℕ) (p : UnitPart) (q : CallerPart) (op : Op) (reply : Reply) (epoch : ℕ)
    : Type 0 where
  pub unfrozen : p.frozen ≡ None
  pub stage : p.stage ≡ Within epoch
  pub whole : p.writing ≡ None
  pub some : p.written ≢ []
  pub judged : IsJudged s u p op reply
  pub changes : AreEffects u p.records (step judged.state op).effects p.written
  pub numbers : HasNumbers p q
  pub newest : q.newest ≤ epoch

-- Read: the operation changes nothing.
pub record CanRead
    (s : Shape) (u : ℕ) (p : UnitPart) (q : CallerPart) (op : Op) (reply : Reply) : Type 0 where
  pub unfrozen : p.frozen ≡ None
  pub stage : p.stage ≡ Idle
  pub judged : IsJudged s u p op reply
  pub changes : (step judged.state op).effects ≡ []
  pub numbers : HasNumbers p q

-- ---- what it leaves
abbrev pub entry_of : ℕ → CallerPart → Op → Reply → ℕ → Entry
entry_of k q op reply epoch =
    record { caller = k; call = q.calls; op = op; reply = reply; epoch = epoch }

-- the caller has seen the entry at this place of the unit's history
abbrev pub after_answer : CallerPart → ℕ → ℕ → Entry → CallerPart
after_answer q u place e = record q {
  calls = q.calls + 1;
  receipts = q.receipts ++ record { unit = u; place = place; entry = e } ∷ [];
  fronts = slice_set q.fronts u (place + 1);
  newest = e.epoch;
}

-- What was written becomes records, and what it supersedes retires.
abbrev pub after_leave : UnitPart → Entry → UnitPart
after_leave p e = record p {
  stage = Idle;
  history = p.history ++ e ∷ [];
  records = p.records ++ p.written;
  retired = p.retired ++ retired_by_all p.records p.written;
  written = [];
}

abbrev pub after_read : UnitPart → Entry → UnitPart
after_read p e = record p { history = p.history ++ e ∷ [] }

abbrev pub leave : Core → ℕ → UnitPart → ℕ → CallerPart → Entry → Core
leave c u p k q e = record c {
  told = slice_set c.told u 0;
  units = slice_set c.units u (after_leave p e);
  callers = slice_set c.callers k (after_answer q u (length p.history) e);
}

abbrev pub read : Core → ℕ → UnitPart → ℕ → CallerPart → Entry → Core
read c u p k q e = record c {
  units = slice_set c.units u (after_read p e);
  callers = slice_set c.callers k (after_answer q u (length p.history) e);
}
