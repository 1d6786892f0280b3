use Rattle.std.proofs.Common.{◌≡◌, ◌<◌, ◌≤◌, true, false}
use Rattle.mont_base.specs.Layout.{units_of}
use Rattle.core_steps.specs.declared.parts.AdvPart.TheVariants.{Rest}
use Rattle.core_steps.specs.Advancing.{can_check, unit_at_hand, is_clocked}
use Rattle.heap_rule.specs.Views.{are_clean}
use Rattle.heap.specs.GateAsked.{IsAskedOften}
use Rattle.write_back.specs.AskedSteps.{AsksEachStep}
use Rattle.advance.specs.Stage.{has_passed}
use Rattle.advance.specs.Advance.{IsSameSeat, HasChecked}
use Rattle.advance.proofs.advancer.Advancer.pass_units.Given as goal

abbrev pub invariant-loop-unit : goal.invariant-loop-unit
invariant-loop-unit g l = record {
  gate : IsAskedOften g.G.Gate.cuts g.G.Gate.endless l.fn.gate l.gate false;
  asked : AsksEachStep g.G.Gate.asked l.fn.self.known.steps l.self.known.steps l.fn.gate l.gate false;
  same : IsSameSeat l.fn.self l.self;
  first : is_clocked l.fn.self.known.part ≡ false;
  checked : HasChecked l.fn.self.known l.self.known;
  clean : l.self.known.part ≡ Rest → are_clean (units_of l.heap.opening.layout) l.self.known.clean ≡ true;
  here : l.unit < l.unit-end → (can_check l.self.known.clock l.self.known.part ≡ true) × (l.unit ≡ unit_at_hand l.self.known.part);
  past : l.unit-end ≤ l.unit → has_passed l.self.known.part ≡ true;
  count : l.unit-end ≡ l.self.known.units;
}
