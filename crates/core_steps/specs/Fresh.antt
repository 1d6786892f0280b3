-- The core of an empty store.
use Rattle.std.specs.Prelude.{ℕ, ◌*◌, List, [], ◌∷◌, replicate, None}
use Rattle.mont_base.specs.declared.constants.TheConstants.{FIELDS, FIRST_CLOCK}
use Rattle.mont_base.specs.Layout.{Shape, units_of, total_of}
use Rattle.core_steps.specs.declared.parts.Core.{Core}
use Rattle.core_steps.specs.declared.parts.UnitPart.{UnitPart}
use Rattle.core_steps.specs.declared.parts.CallerPart.{CallerPart}
use Rattle.core_steps.specs.declared.parts.UnitStage.TheVariants.{Idle}
use Rattle.core_steps.specs.declared.parts.AdvPart.TheVariants.{Rest}

-- the clock, and slots that are all closed
abbrev pub fresh_words : Shape → List ℕ
fresh_words s = FIRST_CLOCK ∷ replicate (FIELDS * total_of s) 0

abbrev pub fresh_unit : UnitPart
fresh_unit = record {
  stage = Idle;
  history = [];
  records = [];
  retired = [];
  written = [];
  writing = None;
  lost = [];
  durable = 0;
  frozen = None;
}

abbrev pub fresh_caller : ℕ → CallerPart
fresh_caller units = record {
  calls = 0;
  receipts = [];
  fronts = replicate units 0;
  synced = replicate units 0;
  newest = 0;
  durable = 0;
  cuts = [];
  marks = [];
}

abbrev pub fresh : Shape → ℕ → Core
fresh s callers = record {
  layout = s;
  cur = fresh_words s;
  dur = fresh_words s;
  told = replicate (units_of s) 0;
  units = replicate (units_of s) fresh_unit;
  advancer = Rest;
  odd = [];
  callers = replicate callers (fresh_caller (units_of s));
}
