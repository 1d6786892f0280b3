-- Which of the images that a crash permits a mask picks.
use Rattle.std.specs.Prelude.{◌≡◌, ℕ, ◌<◌, ◌≤◌, ◌%◌, ◌==◌, List, length, slice_index, if◌then◌else◌}
use Rattle.std.specs.Int.{bit_at}
use Rattle.mont_base.specs.declared.constants.TheConstants.{FIRST_CLOCK, LAST}
use Rattle.mont_base.specs.Image.{clock_of}

-- word 0 is a clock
pub record HasClock (words : List ℕ) : Type 0 where
  pub begun : FIRST_CLOCK ≤ clock_of words
  pub last : clock_of words ≤ LAST

-- a word is current where the mask has a 1 at its number modulo 64, else durable
abbrev pub picked_at : ℕ → List ℕ → List ℕ → ℕ → ℕ
picked_at mask cur dur word =
    if bit_at mask (word % 64) == 1 then slice_index cur word else slice_index dur word

pub record IsPick (mask : ℕ) (cur dur image : List ℕ) : Type 0 where
  pub as_long : length image ≡ length cur
  pub each :
      (word : ℕ) → word < length image → slice_index image word ≡ picked_at mask cur dur word
