-- The words of an image with twelve to a slot.
use Rattle.std.proofs.Common.{◌≡◌, ◌≤◌, ℕ, Bool, true, false, List, length, refl, sym, subst}
use Rattle.mont_base.specs.declared.constants.TheConstants.{LAST}
use Rattle.mont_base.specs.Image.{clock_of}
use Rattle.mont_base.specs.Layout.{Shape, words_of}
use Rattle.mont_image.specs.StoredImage.{IsImage}
use Rattle.old_image.proofs.Widened.{clock_is, size_wide}
use Rattle.image_info.specs.WideWords.{wide_words}

pub wide_size : (old : Bool) (s : Shape) (words : List ℕ) → IsImage s words old → length (wide_words old s words) ≡ words_of s
wide_size true s words is = size_wide s words is
wide_size false s words is = is.size

pub wide_clock : (old : Bool) (s : Shape) (words : List ℕ) → IsImage s words old → clock_of (wide_words old s words) ≡ clock_of words
wide_clock true s words is = clock_is s words is
wide_clock false s words is = refl

pub wide_last : (old : Bool) (s : Shape) (words : List ℕ) → IsImage s words old → clock_of (wide_words old s words) ≤ LAST
wide_last old s words is = subst (λ (c : ℕ). c ≤ LAST) (sym (wide_clock old s words is)) is.clock_last
