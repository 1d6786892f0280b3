-- The words of an image, twelve to a slot in each version.
use Rattle.std.specs.Prelude.{ℕ, Bool, true, false, List}
use Rattle.mont_base.specs.Layout.{Shape}
use Rattle.mont_image.specs.declared.stored_image.Image.{Image}
use Rattle.old_image.specs.OldSlots.{widened}

-- those of an image of the first version are widened
abbrev pub wide_words : Bool → Shape → List ℕ → List ℕ
wide_words true s words = widened s words
wide_words false s words = words

abbrev pub wide_of : Image → List ℕ
wide_of image = wide_words image.old image.layout image.words
