-- What the example promises of its store, which is stopped and crashes.
use Rattle.std.specs.Prelude.{◌≡◌, ℕ, List}
use Rattle.mont_base.specs.Image.{IsPermitted, IsRecovered, cut_of}
use Rattle.mont_base.specs.Layout.{Shape}
use Rattle.mont_base.specs.State.{State}
use Rattle.plain.specs.States.{states_of}
use Rattle.heap.specs.HeapShown.{CallerShown}
use Rattle.store_stop.specs.declared.headline.Stopped.{Stopped}
use Rattle.store_stop.specs.Headline.{IsStopped, OutlivesCrash, parts_shown}

-- A store of this layout was stopped so, with what these tickets showed.
pub record IsStore (t : Stopped) : Type 0 where
  pub layout : Shape
  pub callers : List CallerShown
  pub stopped : IsStopped layout t.base_clock t.base callers t

-- The states are those that recovery rebuilds from an image that a crash permits of this stopped
-- store: those to which the entries up to one epoch lead, of its legal histories, with each call
-- that its caller knew to be durable among these entries.
pub record OutlivesStop (t : Stopped) (states : List State) : Type 0 where
  pub store : IsStore t
  pub image : List ℕ
  pub permitted : IsPermitted t.words.cur t.words.dur image
  pub recovered : IsRecovered store.layout image states
  pub outlives : OutlivesCrash store.layout t.base_clock (cut_of image) (states_of t.base)
      t.histories (parts_shown store.callers) states
