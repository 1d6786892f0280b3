-- That no image which a crash permits of a stopped store is refused.
use Rattle.std.specs.Prelude.{◌≡◌, ℕ, List}
use Rattle.mont_base.specs.Image.{IsPermitted}
use Rattle.mont_base.specs.Layout.{Shape}
use Rattle.plain.specs.declared.contents.Contents.{Contents}
use Rattle.heap.specs.HeapShown.{CallerShown}
use Rattle.store_stop.specs.declared.headline.Stopped.{Stopped}
use Rattle.store_stop.specs.Headline.{IsStopped}
use Rattle.image_units.specs.declared.recovery_refusal.RecoverRefusal.{RecoverRefusal}
use Rattle.image_units.specs.declared.recovery_refusal.RecoverRefusal.TheVariants.{Memory}
use Rattle.image_units.specs.FirstRefusal.{IsFirstRefusal}
use Rattle.recover.specs.StoppedWords.{HoldsBase}

-- where recovery refuses it, it is for want of memory
abbrev pub IsRefusedForMemory : Shape → List ℕ → Type 0
IsRefusedForMemory s image = (why : RecoverRefusal) → IsFirstRefusal s image why → why ≡ Memory

-- an image of a store that was stopped after a run
abbrev pub StoppedStoresAreRecovered : Type 0
StoppedStoresAreRecovered =
    (s : Shape) (clock : ℕ) (base : Contents) (callers : List CallerShown) (t : Stopped)
    (image : List ℕ) → IsStopped s clock base callers t → IsPermitted t.words.cur t.words.dur image
    → IsRefusedForMemory s image

-- and of one that was opened from an image and stopped, wherever its sweep was cut
abbrev pub SweptStoresAreRecovered : Type 0
SweptStoresAreRecovered =
    (s : Shape) (opened image : List ℕ) → HoldsBase s opened image → IsRefusedForMemory s image
