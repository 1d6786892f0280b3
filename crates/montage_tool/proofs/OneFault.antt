-- Texts have one first fault.
use Rattle.std.proofs.Common.{◌≡◌, ◌⊎◌, ℕ, zero, suc, ◌+◌, ◌<◌, ◌≤◌, Bool, true, false, List, inl, inr, refl, sym, ap, ◌∙◌, subst, arith, ⊎_elim}
use Rattle.std.specs.Prelude.{◌≢◌, Option, Some, None, IfSome, Ok, Err, Result}
use Rattle.std.proofs.lemmas.Bool.{cases_lt}
use Rattle.std.proofs.lemmas.Option.{same_Some}
use Rattle.image_units.specs.declared.image_fault.ImageFault.{ImageFault}
use Rattle.image_units.specs.declared.image_fault.ImageFault.TheVariants as faults
use Rattle.image_units.specs.declared.recovery_refusal.RecoverRefusal.{RecoverRefusal}
use Rattle.image_units.specs.declared.recovery_refusal.RecoverRefusal.TheVariants as held
use Rattle.image_units.specs.Refusals.{fault_of_bytes, fault_of_words}
use Rattle.image_units.proofs.OneRefusal.{one_refusal}
use Rattle.job_store.specs.ImageNow.{IsRefused, IsRefusedAs}
use Rattle.job_text.specs.declared.job.JobFault.{JobFault}
use Rattle.job_text.specs.declared.job.JobFault.TheVariants as lines
use Rattle.job_text.specs.JobText.{IsFaultOf, IsFirstRefused, rank}
use Rattle.mont_base.specs.declared.kinds.UnitKind.{UnitKind}
use Rattle.mont_base.specs.declared.record.ObjectFault.{ObjectFault}
use Rattle.mont_base.specs.declared.record.SlotFault.{SlotFault}
use Rattle.mont_base.specs.Image.{IsRead}
use Rattle.mont_base.specs.Layout.{Shape}
use Rattle.mont_image.specs.declared.image_refusal.ImageRefusal.{ImageRefusal}
use Rattle.mont_image.specs.declared.image_refusal.ImageRefusal.TheVariants as bytes
use Rattle.mont_image.specs.ImageText.{ImageParts, IsTextOf, image_in}
use Rattle.mont_image.proofs.Texts.{text_told}
use Rattle.old_image.specs.Migration.{IsBadOldObject, IsFirstIn}
use Rattle.old_image.specs.OldSlots.{objects_in, widened}
use Rattle.old_image.specs.OldStructure.{IsFirstOldFault, MakesOldStructure, old_object_fault}
use Rattle.scan.specs.Scanned.{HasFault, IsReadAt}
use Rattle.montage_tool.specs.declared.status.Status.TheVariants.{BadImage}
use Rattle.montage_tool.specs.Inputs.{HasBadBytes, HasImageFault, HoldsFault}
use Rattle.montage_tool.specs.Judged.{HasFaultyBytes, IsOldImage, RefusesNewImage}

-- ---- of a job's text
fault_of_rank : ℕ → JobFault
fault_of_rank zero = lines.Many
fault_of_rank (suc zero) = lines.Long
fault_of_rank (suc (suc zero)) = lines.Unended
fault_of_rank (suc (suc (suc zero))) = lines.Header
fault_of_rank (suc (suc (suc (suc zero)))) = lines.Stop
fault_of_rank (suc (suc (suc (suc (suc n))))) = lines.Operation

ranked : (f : JobFault) → fault_of_rank (rank f) ≡ f
unfolding fault_of_rank
ranked lines.Many = refl
ranked lines.Long = refl
ranked lines.Unended = refl
ranked lines.Header = refl
ranked lines.Stop = refl
ranked lines.Operation = refl

same_rank : (f g : JobFault) → rank f ≡ rank g → f ≡ g
same_rank f g e = sym (ranked f) ∙ ap fault_of_rank e ∙ ranked g

module _ (text : List ℕ) (line other : ℕ) (f g : JobFault) (a : IsFirstRefused text line f) (b : IsFirstRefused text other g) where
  same_place : a.place ≡ b.place
  same_place = ⊎_elim
      (λ (l : a.place < b.place). absurd (b.first_line a.place l f a.has_fault))
      (λ (l : b.place ≤ a.place). ⊎_elim
      (λ (m : b.place < a.place). absurd (a.first_line b.place m g b.has_fault))
      (λ (m : a.place ≤ b.place). omega arith)
      (cases_lt b.place a.place))
      (cases_lt a.place b.place)

  same_fault : f ≡ g
  same_fault = ⊎_elim
      (λ (l : rank f < rank g). absurd (b.first_fault f l (subst (λ (i : ℕ). IsFaultOf text i f) same_place a.has_fault)))
      (λ (l : rank g ≤ rank f). ⊎_elim
      (λ (m : rank g < rank f). absurd (a.first_fault g m (subst (λ (i : ℕ). IsFaultOf text i g) (sym same_place) b.has_fault)))
      (λ (m : rank f ≤ rank g). same_rank f g (omega arith))
      (cases_lt (rank g) (rank f)))
      (cases_lt (rank f) (rank g))

  pub one_bad_line : (line ≡ other) × (f ≡ g)
  one_bad_line = (a.counted ∙ ap (λ (i : ℕ). i + 1) same_place ∙ sym b.counted, same_fault)

-- ---- of an image of the first version
module _ (s : Shape) (wide : List ℕ) where
  unread : (slot : ℕ) (fault : SlotFault) → HasFault s wide slot fault → IsReadAt s wide slot → ⊥
  unread slot fault has is = subst IsRead has.1 (is has.0)

  no_old : (unit slot : ℕ) (fault : ObjectFault) → IsFirstOldFault s unit (objects_in s wide unit) slot fault
      → MakesOldStructure s unit (objects_in s wide unit) → ⊥
  no_old unit slot fault first made =
      let kind = same_Some first.kind made.1.kind (sym first.of_unit ∙ made.1.of_unit) in
      let both = sym first.first ∙ ap (λ (k : UnitKind). old_object_fault s unit k (objects_in s wide unit)) kind ∙ made.1.sound in
      cc

  one_old_fault : (unit slot other : ℕ) (f g : ObjectFault) → IsFirstOldFault s unit (objects_in s wide unit) slot f
      → IsFirstOldFault s unit (objects_in s wide unit) other g → (slot ≡ other) × (f ≡ g)
  one_old_fault unit slot other f g a b =
      let kind = same_Some a.kind b.kind (sym a.of_unit ∙ b.of_unit) in
      let x : ℕ × ObjectFault = (slot, f) in
      let y : ℕ × ObjectFault = (other, g) in
      let same = same_Some x y
      (sym a.first ∙ ap (λ (k : UnitKind). old_object_fault s unit k (objects_in s wide unit)) kind ∙ b.first) in
      (ap (λ (p : ℕ × ObjectFault). p.0) same, ap (λ (p : ℕ × ObjectFault). p.1) same)

  one_old_object : (unit slot other_unit other : ℕ) (f g : ObjectFault) → IsBadOldObject s wide unit slot f
      → IsBadOldObject s wide other_unit other g → held.Object unit slot f ≡ held.Object other_unit other g
  one_old_object unit slot other_unit other f g a b = ⊎_elim
      (λ (l : unit < other_unit). absurd (no_old unit slot f a.lowest.first (b.lowest.lower unit l)))
      (λ (l : other_unit ≤ unit). ⊎_elim
      (λ (m : other_unit < unit). absurd (no_old other_unit other g b.lowest.first (a.lowest.lower other_unit m)))
      (λ (m : unit ≤ other_unit). same (omega arith))
      (cases_lt other_unit unit))
      (cases_lt unit other_unit)
    where
      same : unit ≡ other_unit → held.Object unit slot f ≡ held.Object other_unit other g
      same e =
          let here = subst (λ (u : ℕ). IsFirstOldFault s u (objects_in s wide u) slot f) e a.lowest.first in
          let pair = one_old_fault other_unit slot other f g here b.lowest.first in
          λ i. held.Object (e i) (pair.0 i) (pair.1 i)

  one_old : (a b : RecoverRefusal) → a ≢ held.Memory → b ≢ held.Memory → IsFirstIn s wide a → IsFirstIn s wide b → a ≡ b
  one_old held.Memory b some other x y = absurd (some refl)
  one_old (held.Slot slot f) held.Memory some other x y = absurd (other refl)
  one_old (held.Twice slot first) held.Memory some other x y = absurd (other refl)
  one_old (held.Object unit slot f) held.Memory some other x y = absurd (other refl)
  one_old (held.Slot slot f) (held.Slot k g) some other x y =
      one_refusal s wide (held.Slot slot f) (held.Slot k g) some other x y
  one_old (held.Slot slot f) (held.Twice k j) some other x y =
      one_refusal s wide (held.Slot slot f) (held.Twice k j) some other x y
  one_old (held.Twice k j) (held.Slot slot f) some other x y =
      one_refusal s wide (held.Twice k j) (held.Slot slot f) some other x y
  one_old (held.Twice k j) (held.Twice m n) some other x y =
      one_refusal s wide (held.Twice k j) (held.Twice m n) some other x y
  one_old (held.Slot slot f) (held.Object u k g) some other x y = absurd (unread slot f x.has (y.readable slot x.inside))
  one_old (held.Twice k j) (held.Object u m g) some other x y = absurd (y.apart k j x.first.repeats)
  one_old (held.Object u k g) (held.Slot slot f) some other x y = absurd (unread slot f y.has (x.readable slot y.inside))
  one_old (held.Object u k g) (held.Twice m n) some other x y = absurd (x.apart m n y.first.repeats)
  one_old (held.Object u k f) (held.Object v m g) some other x y = one_old_object u k v m f g x y

-- ---- of any image
refused_as : (old : Bool) (s : Shape) (words : List ℕ) (a b : RecoverRefusal) → a ≢ held.Memory → b ≢ held.Memory
    → IsRefusedAs old s words a → IsRefusedAs old s words b → a ≡ b
refused_as true s words a b some other x y = one_old s (widened s words) a b some other x y
refused_as false s words a b some other x y = one_refusal s words a b some other x y

pub one_refused : (p : ImageParts) (a b : RecoverRefusal) → a ≢ held.Memory → b ≢ held.Memory → IsRefused p a → IsRefused p b → a ≡ b
one_refused p a b some other x y = refused_as p.old p.layout p.words a b some other x y

-- the cause of a fault, in the text of an image
record IsInBytes (text : List ℕ) (fault : ImageFault) : Type 0 where
  refusal : ImageRefusal
  told : image_in text ≡ Err refusal
  is : fault_of_bytes refusal ≡ Some fault

record IsInWords (text : List ℕ) (fault : ImageFault) : Type 0 where
  parts : ImageParts
  told : image_in text ≡ Ok parts
  why : RecoverRefusal
  some : why ≢ held.Memory
  refused : IsRefused parts why
  is : fault_of_words why ≡ Some fault

module _ (left : Option (List ℕ)) (text : List ℕ) (told : left ≡ Some text) where
  in_bytes : (refusal : ImageRefusal) (fault : ImageFault) → fault_of_bytes refusal ≡ Some fault → HasBadBytes left refusal
      → IsInBytes text fault ⊎ IsInWords text fault
  in_bytes refusal fault is bad = inl (record {
    refusal = refusal;
    told = bad_text left told bad;
    is = is;
  })
    where
      bad_text : (l : Option (List ℕ)) → l ≡ Some text → HasBadBytes l refusal → image_in text ≡ Err refusal
      bad_text None e b = absurd (cc)
      bad_text (Some t) e b = subst (λ (x : List ℕ). image_in x ≡ Err refusal) (same_Some t text e) b

  in_words : (why : RecoverRefusal) (fault : ImageFault) → why ≢ held.Memory → fault_of_words why ≡ Some fault → HoldsFault left why
      → IsInBytes text fault ⊎ IsInWords text fault
  in_words why fault some is holds = inr (record {
    parts = holds.parts;
    told = told_text left told holds.of_image.spelled;
    why = why;
    some = some;
    refused = holds.refused;
    is = is;
  })
    where
      told_text : (l : Option (List ℕ)) → l ≡ Some text → IfSome l (λ t. IsTextOf t holds.parts) → image_in text ≡ Ok holds.parts
      told_text None e b = absurd (cc)
      told_text (Some t) e b = text_told text holds.parts (subst (λ (x : List ℕ). IsTextOf x holds.parts) (same_Some t text e) b)

  cause_of : (fault : ImageFault) → HasImageFault left fault → IsInBytes text fault ⊎ IsInWords text fault
  cause_of faults.Magic bad = in_bytes bytes.Magic faults.Magic refl bad
  cause_of faults.Version bad = in_bytes bytes.Version faults.Version refl bad
  cause_of faults.Layout bad = in_bytes bytes.Layout faults.Layout refl bad
  cause_of faults.Clock bad = in_bytes bytes.Clock faults.Clock refl bad
  cause_of (faults.Short words) bad = in_bytes (bytes.Short words) (faults.Short words) refl bad
  cause_of faults.Long bad = in_bytes bytes.Long faults.Long refl bad
  cause_of (faults.Slot slot fault) bad = in_words (held.Slot slot fault) (faults.Slot slot fault) (λ e. absurd (cc)) refl bad
  cause_of (faults.Twice slot other) bad = in_words (held.Twice slot other) (faults.Twice slot other) (λ e. absurd (cc)) refl bad
  cause_of (faults.Object unit slot fault) bad =
      in_words (held.Object unit slot fault) (faults.Object unit slot fault) (λ e. absurd (cc)) refl bad

  same_cause : (f g : ImageFault) → (IsInBytes text f ⊎ IsInWords text f) → (IsInBytes text g ⊎ IsInWords text g) → f ≡ g
  same_cause f g (inl a) (inl b) =
      let both : Err a.refusal ≡ Err b.refusal = sym a.told ∙ b.told in
      let one : a.refusal ≡ b.refusal = cc in
      same_Some f g (sym a.is ∙ ap fault_of_bytes one ∙ b.is)
  same_cause f g (inl a) (inr b) = let both : Err a.refusal ≡ Ok b.parts = sym a.told ∙ b.told in absurd (cc)
  same_cause f g (inr a) (inl b) = let both : Ok a.parts ≡ Err b.refusal = sym a.told ∙ b.told in absurd (cc)
  same_cause f g (inr a) (inr b) =
      let both : Ok a.parts ≡ Ok b.parts = sym a.told ∙ b.told in
      let one : a.parts ≡ b.parts = cc in
      let why = one_refused b.parts a.why b.why a.some b.some (subst (λ (p : ImageParts). IsRefused p a.why) one a.refused) b.refused in
      same_Some f g (sym a.is ∙ ap fault_of_words why ∙ b.is)

  pub one_fault : (f g : ImageFault) → HasImageFault left f → HasImageFault left g → f ≡ g
  one_fault f g a b = same_cause f g (cause_of f a) (cause_of g b)

  -- the first fault of bytes, among which a whole text of the first version has a wrong version
  faulty_bytes : (fault : ImageFault) → HasFaultyBytes left fault → IsInBytes text fault ⊎ IsInWords text fault
  faulty_bytes faults.Magic bad = in_bytes bytes.Magic faults.Magic refl bad
  faulty_bytes faults.Version bad = in_bytes bytes.Version faults.Version refl bad
  faulty_bytes faults.Layout bad = in_bytes bytes.Layout faults.Layout refl bad
  faulty_bytes faults.Clock bad = in_bytes bytes.Clock faults.Clock refl bad
  faulty_bytes (faults.Short words) bad = in_bytes (bytes.Short words) (faults.Short words) refl bad
  faulty_bytes faults.Long bad = in_bytes bytes.Long faults.Long refl bad
  faulty_bytes (faults.Slot slot fault) bad = absurd bad
  faulty_bytes (faults.Twice slot other) bad = absurd bad
  faulty_bytes (faults.Object unit slot fault) bad = absurd bad

  -- such a text isn't refused for its bytes
  old_or_bad : (refusal : ImageRefusal) → IsOldImage left → HasBadBytes left refusal → ⊥
  old_or_bad refusal old bad =
      two (image_in text) (told_text_of old.parts old.of_image.spelled) (bad_text_of refusal bad)
    where
      told_text_of : (p : ImageParts) → IfSome left (λ t. IsTextOf t p) → image_in text ≡ Ok p
      told_text_of p b = text_told text p (subst (λ (l : Option (List ℕ)). IfSome l (λ t. IsTextOf t p)) told b)

      bad_text_of : (r : ImageRefusal) → HasBadBytes left r → image_in text ≡ Err r
      bad_text_of r b = subst (λ (l : Option (List ℕ)). HasBadBytes l r) told b

      two : (r : Result ImageParts ImageRefusal) → r ≡ Ok old.parts → r ≡ Err refusal → ⊥
      two r ok err = let both : Ok old.parts ≡ Err refusal = sym ok ∙ err in absurd (cc)

  old_or_faulty : (fault : ImageFault) → IsOldImage left → HasFaultyBytes left fault → ⊥
  old_or_faulty faults.Magic old bad = old_or_bad bytes.Magic old bad
  old_or_faulty faults.Version old bad = old_or_bad bytes.Version old bad
  old_or_faulty faults.Layout old bad = old_or_bad bytes.Layout old bad
  old_or_faulty faults.Clock old bad = old_or_bad bytes.Clock old bad
  old_or_faulty (faults.Short words) old bad = old_or_bad (bytes.Short words) old bad
  old_or_faulty faults.Long old bad = old_or_bad bytes.Long old bad
  old_or_faulty (faults.Slot slot fault) old bad = bad
  old_or_faulty (faults.Twice slot other) old bad = bad
  old_or_faulty (faults.Object unit slot fault) old bad = bad

  -- a fault as it is told where only bytes are judged
  data IsNewFault : ImageFault → Type 0 where
    in_them : (fault : ImageFault) → HasFaultyBytes left fault → IsNewFault fault
    in_version : IsOldImage left → IsNewFault faults.Version

  new_fault_of : (fault : ImageFault) → RefusesNewImage left (BadImage fault) → IsNewFault fault
  new_fault_of faults.Version (inl bad) = in_them faults.Version bad
  new_fault_of faults.Version (inr old) = in_version old
  new_fault_of faults.Magic bad = in_them faults.Magic bad
  new_fault_of faults.Layout bad = in_them faults.Layout bad
  new_fault_of faults.Clock bad = in_them faults.Clock bad
  new_fault_of (faults.Short words) bad = in_them (faults.Short words) bad
  new_fault_of faults.Long bad = in_them faults.Long bad
  new_fault_of (faults.Slot slot fault) bad = absurd bad
  new_fault_of (faults.Twice slot other) bad = absurd bad
  new_fault_of (faults.Object unit slot fault) bad = absurd bad

  both_new : (f g : ImageFault) → IsNewFault f → IsNewFault g → f ≡ g
  both_new f g (in_them a x) (in_them b y) = same_cause f g (faulty_bytes f x) (faulty_bytes g y)
  both_new f g (in_them a x) (in_version y) = absurd (old_or_faulty f y x)
  both_new f g (in_version x) (in_them b y) = absurd (old_or_faulty g x y)
  both_new f g (in_version x) (in_version y) = refl

  pub one_new_fault : (f g : ImageFault) → RefusesNewImage left (BadImage f) → RefusesNewImage left (BadImage g) → f ≡ g
  one_new_fault f g a b = both_new f g (new_fault_of f a) (new_fault_of g b)
