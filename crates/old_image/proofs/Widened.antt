-- An image of the first version whose slots were widened.
use Rattle.std.proofs.Common.{◌≡◌, ℕ, ◌+◌, ◌*◌, ◌<◌, ◌≤◌, true, List, length, drop, replicate, refl, sym, subst, arith}
use Rattle.std.proofs.lemmas.List.{length-append, length-drop, length-take-le}
use Rattle.mont_base.specs.declared.constants.TheConstants.{FIELDS, LAST}
use Rattle.mont_base.specs.Image.{clock_of}
use Rattle.mont_base.specs.Layout.{Shape, total_of, words_of}
use Rattle.mont_image.specs.declared.image_text.TheConstants.{OLD_FIELDS}
use Rattle.mont_image.specs.StoredImage.{IsImage}
use Rattle.old_image.specs.OldSlots.{old_slot, wide_slot, widened}
use Rattle.old_image.proofs.FlatSlots.{length-flat}

long_slot : (image : List ℕ) (slot : ℕ) → 1 + OLD_FIELDS * slot + OLD_FIELDS ≤ length image → length (wide_slot image slot) ≡ FIELDS
long_slot image slot inside =
    let front : length (old_slot image slot) ≡ OLD_FIELDS =
    length-take-le OLD_FIELDS (drop (1 + OLD_FIELDS * slot) image) (omega (arith, length-drop (1 + OLD_FIELDS * slot) image)) in
    omega (arith, length-append (old_slot image slot) (replicate 4 0), front)

module _ (s : Shape) (image : List ℕ) (old : IsImage s image true) where
  pub clock_is : clock_of (widened s image) ≡ clock_of image
  unfolding widened
  clock_is = refl

  pub slot_inside : (slot : ℕ) → slot < total_of s → 1 + OLD_FIELDS * slot + OLD_FIELDS ≤ length image
  slot_inside slot inside = let size = old.size in omega arith

  pub size_wide : length (widened s image) ≡ words_of s
  unfolding widened
  size_wide =
      let slots = length-flat (wide_slot image) (total_of s) (λ slot inside. long_slot image slot (slot_inside slot inside)) 0 (total_of s)
      (omega arith) in
      omega arith

  pub clock_last : clock_of (widened s image) ≤ LAST
  clock_last = subst (λ (c : ℕ). c ≤ LAST) (sym clock_is) old.clock_last
