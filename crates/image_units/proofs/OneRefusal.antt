-- An image has one first refusal at most, but for want of memory.
use Rattle.std.proofs.Common.{◌≡◌, ℕ, ◌<◌, ◌≤◌, List, refl, sym, ap, ◌∙◌, subst, arith, ⊎_elim}
use Rattle.std.specs.Prelude.{◌≢◌, Option, Result, Err}
use Rattle.std.proofs.lemmas.Bool.{cases_lt}
use Rattle.std.proofs.lemmas.Option.{same_Some}
use Rattle.mont_base.specs.declared.kinds.UnitKind.{UnitKind}
use Rattle.mont_base.specs.declared.record.Held.{Held}
use Rattle.mont_base.specs.declared.record.Label.{Label}
use Rattle.mont_base.specs.declared.record.Object.{Object}
use Rattle.mont_base.specs.declared.record.ObjectFault.{ObjectFault}
use Rattle.mont_base.specs.declared.record.SlotFault.{SlotFault}
use Rattle.mont_base.specs.Image.{IsRead, records_of}
use Rattle.mont_base.specs.Layout.{Shape}
use Rattle.mont_base.specs.Structure.{object_fault}
use Rattle.mont_base.specs.Versions.{live_objects}
use Rattle.plain.specs.Built.{IsFirstFault}
use Rattle.plain.proofs.Single.{no_structure}
use Rattle.scan.specs.Scanned.{HasFault, IsLowestFault, IsReadAt}
use Rattle.image_units.specs.declared.recovery_refusal.RecoverRefusal.{RecoverRefusal}
use Rattle.image_units.specs.declared.recovery_refusal.RecoverRefusal.TheVariants as refusals
use Rattle.image_units.specs.FirstRefusal.{IsBadObject, IsFirstRefusal}
use Rattle.image_units.specs.FoundVersions.{IsFirstRepeat, Repeats}

same_fault : (r : Result (Option (Label × List ℕ)) SlotFault) (x y : SlotFault) → r ≡ Err x → r ≡ Err y → x ≡ y
same_fault r x y a b = cc

one_repeat : (rs : List Held) (slot other later earlier : ℕ) → IsFirstRepeat rs slot other → IsFirstRepeat rs later earlier
    → refusals.Twice slot other ≡ refusals.Twice later earlier
one_repeat rs slot other later earlier a b =
    let low = a.lowest later earlier b.repeats in
    let high = b.lowest slot other a.repeats in
    let same : slot ≡ later = omega arith in
    let alike = b.only other (subst (λ (k : ℕ). Repeats rs k other) same a.repeats) in
    λ i. refusals.Twice (same i) (alike i)

one_fault : (s : Shape) (unit : ℕ) (os : List Object) (slot other : ℕ) (f g : ObjectFault) → IsFirstFault s unit os slot f
    → IsFirstFault s unit os other g → (slot ≡ other) × (f ≡ g)
one_fault s unit os slot other f g a b =
    let kind = same_Some a.kind b.kind (sym a.of_unit ∙ b.of_unit) in
    let x : ℕ × ObjectFault = (slot, f) in
    let y : ℕ × ObjectFault = (other, g) in
    let same = same_Some x y (sym a.first ∙ ap (λ (k : UnitKind). object_fault s unit k os) kind ∙ b.first) in
    (ap (λ (p : ℕ × ObjectFault). p.0) same, ap (λ (p : ℕ × ObjectFault). p.1) same)

module _ (s : Shape) (image : List ℕ) where
  unread : (slot : ℕ) (fault : SlotFault) → HasFault s image slot fault → IsReadAt s image slot → ⊥
  unread slot fault has is = subst IsRead has.1 (is has.0)

  one_slot : (slot other : ℕ) (f g : SlotFault) → IsLowestFault s image slot f → IsLowestFault s image other g
      → refusals.Slot slot f ≡ refusals.Slot other g
  one_slot slot other f g a b = ⊎_elim
      (λ (l : slot < other). absurd (unread slot f a.has (b.lower slot l)))
      (λ (l : other ≤ slot). ⊎_elim
      (λ (m : other < slot). absurd (unread other g b.has (a.lower other m)))
      (λ (m : slot ≤ other). same (omega arith))
      (cases_lt other slot))
      (cases_lt slot other)
    where
      same : slot ≡ other → refusals.Slot slot f ≡ refusals.Slot other g
      same e =
          let has = subst (λ (k : ℕ). HasFault s image k f) e a.has in
          let fault = same_fault _ f g has.1 b.has.1 in
          λ i. refusals.Slot (e i) (fault i)

  one_object : (unit slot other_unit other : ℕ) (f g : ObjectFault) → IsBadObject s image unit slot f
      → IsBadObject s image other_unit other g → refusals.Object unit slot f ≡ refusals.Object other_unit other g
  one_object unit slot other_unit other f g a b = ⊎_elim
      (λ (l : unit < other_unit). absurd (no_structure s unit (objects unit) slot f a.first (b.lower unit l)))
      (λ (l : other_unit ≤ unit). ⊎_elim
      (λ (m : other_unit < unit). absurd (no_structure s other_unit (objects other_unit) other g b.first (a.lower other_unit m)))
      (λ (m : unit ≤ other_unit). same (omega arith))
      (cases_lt other_unit unit))
      (cases_lt unit other_unit)
    where
      objects : ℕ → List Object
      objects u = live_objects (records_of s image u)

      same : unit ≡ other_unit → refusals.Object unit slot f ≡ refusals.Object other_unit other g
      same e =
          let here = subst (λ (u : ℕ). IsFirstFault s u (live_objects (records_of s image u)) slot f) e a.first in
          let pair = one_fault s other_unit (live_objects (records_of s image other_unit)) slot other f g here b.first in
          λ i. refusals.Object (e i) (pair.0 i) (pair.1 i)

  pub one_refusal : (a b : RecoverRefusal) → a ≢ refusals.Memory → b ≢ refusals.Memory → IsFirstRefusal s image a
      → IsFirstRefusal s image b → a ≡ b
  one_refusal refusals.Memory b some other x y = absurd (some refl)
  one_refusal (refusals.Slot slot f) refusals.Memory some other x y = absurd (other refl)
  one_refusal (refusals.Twice slot first) refusals.Memory some other x y = absurd (other refl)
  one_refusal (refusals.Object unit slot f) refusals.Memory some other x y = absurd (other refl)
  one_refusal (refusals.Slot slot f) (refusals.Slot k g) some other x y = one_slot slot k f g x y
  one_refusal (refusals.Slot slot f) (refusals.Twice k j) some other x y = absurd (unread slot f x.has (y.readable slot x.inside))
  one_refusal (refusals.Slot slot f) (refusals.Object u k g) some other x y = absurd (unread slot f x.has (y.readable slot x.inside))
  one_refusal (refusals.Twice k j) (refusals.Slot slot f) some other x y = absurd (unread slot f y.has (x.readable slot y.inside))
  one_refusal (refusals.Twice k j) (refusals.Twice m n) some other x y = one_repeat _ k j m n x.first y.first
  one_refusal (refusals.Twice k j) (refusals.Object u m g) some other x y = absurd (y.apart k j x.first.repeats)
  one_refusal (refusals.Object u k g) (refusals.Slot slot f) some other x y = absurd (unread slot f y.has (x.readable slot y.inside))
  one_refusal (refusals.Object u k g) (refusals.Twice m n) some other x y = absurd (x.apart m n y.first.repeats)
  one_refusal (refusals.Object u k f) (refusals.Object v m g) some other x y = one_object u k v m f g x y
