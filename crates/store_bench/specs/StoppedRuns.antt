-- What is left of a store that was timed.
use Rattle.std.specs.Prelude.{List}
use Rattle.mont_base.specs.Layout.{Shape}
use Rattle.heap.specs.HeapShown.{CallerShown}
use Rattle.store_stop.specs.declared.headline.Stopped.{Stopped}
use Rattle.store_stop.specs.Headline.{IsStopped}

-- A store of this layout was stopped so, with what these tickets showed.
pub record WasStopped (t : Stopped) : Type 0 where
  pub layout : Shape
  pub callers : List CallerShown
  pub stopped : IsStopped layout t.base_clock t.base callers t
