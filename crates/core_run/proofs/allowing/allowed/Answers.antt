use Rattle.std.proofs.Common.{List, subst}
use Rattle.core_steps.specs.declared.parts.UnitPart.{UnitPart}
use Rattle.core_steps.specs.Events.{AreNoneLost}
use Rattle.core_run.proofs.AllowedSteps.{unswept_decided}
use Rattle.core_run.proofs.allowing.allowed.Goals as goal

pub returns-else-not-are_none_lost : goal.returns-else-not-are_none_lost
returns-else-not-are_none_lost c =
    let d = c.in_default in
    let none : AreNoneLost c.args.core.now.units =
    subst (λ (units : List UnitPart). AreNoneLost units) c.as_slice.ensures (c.are_none_lost.ensures.0 c.if-not-are_none_lost.false) in
    record {
      allowed = unswept_decided c.unit_may.result c.args.core.now c.args.event.now (record {
        not_look = d.not-Look;
        not_load = d.not-LoadDurable;
        not_close = d.not-CloseLabel;
        not_persist = d.not-PersistClose;
        not_split = d.not-Split;
        not_join = d.not-Join;
        not_exchange = d.not-Exchange;
      }) none c.unit_may.ensures.allowed;
      memory = c.unit_may.ensures.memory;
    }
