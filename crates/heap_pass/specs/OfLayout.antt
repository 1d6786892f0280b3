-- When the advancer's seat is of a heap with a layout.
use Rattle.std.specs.Prelude.{◌≡◌, length}
use Rattle.mont_base.specs.Layout.{Shape, units_of}
use Rattle.heap_rule.specs.declared.views.AdvKnown.{AdvKnown}

-- it has the layout's units and room, and knows a list of each unit
pub record IsOfLayout (l : Shape) (a : AdvKnown) : Type 0 where
  pub units : a.units ≡ units_of l
  pub room : a.room ≡ l.slots
  pub lists : length a.lists ≡ a.units
