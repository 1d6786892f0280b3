-- A store that was stopped.
use Rattle.std.specs.Prelude.{List}
use Rattle.mont_base.specs.Layout.{Shape}
use Rattle.heap.specs.HeapShown.{CallerShown}
use Rattle.store_stop.specs.declared.headline.Stopped.{Stopped}
use Rattle.store_stop.specs.Headline.{IsStopped}

-- it had this layout, and its callers some tickets
pub record WasStopped (s : Shape) (t : Stopped) : Type 0 where
  pub callers : List CallerShown
  pub stopped : IsStopped s t.base_clock t.base callers t
