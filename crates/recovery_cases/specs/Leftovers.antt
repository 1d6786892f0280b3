-- What is left of a store that was opened from an image.
use Rattle.std.specs.Prelude.{◌≡◌, false}
use Rattle.mont_image.specs.declared.stored_image.Image.{Image}
use Rattle.recover.specs.StoppedWords.{HoldsBase}

-- an image with the same clock, of which recovery rebuilds the same structures and no others
pub record HoldsSame (image left : Image) : Type 0 where
  pub layout : left.layout ≡ image.layout
  pub new : left.old ≡ false
  pub base : HoldsBase image.layout image.words left.words
