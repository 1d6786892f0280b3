-- What a run on what an image holds comes to, by whether the image is old, and by its refusal.
use Rattle.std.proofs.Common.{◌≡◌, ℕ, Bool, true, false, not, List, refl, sym, ◌∙◌, subst}
use Rattle.std.specs.Prelude.{◌≢◌, Ok, Err, IfErr, IsErrAnd}
use Rattle.std.specs.declared.result.Result.{Result}
use Rattle.mont_base.specs.Image.{IsWellFormed}
use Rattle.mont_base.specs.Layout.{Shape}
use Rattle.image_units.specs.declared.recovery_refusal.RecoverRefusal.{RecoverRefusal}
use Rattle.image_units.specs.declared.recovery_refusal.RecoverRefusal.TheVariants as images
use Rattle.image_units.specs.FirstRefusal.{IsFirstRefusal}
use Rattle.image_units.proofs.Accepted.{malformed}
use Rattle.job_text.specs.declared.job.Job.{Job}
use Rattle.mont_image.specs.declared.stored_image.Image.{Image}
use Rattle.mont_image.specs.ImageText.{ImageParts}
use Rattle.old_image.specs.Migration.{IsOldFirstRefusal, IsOldWellFormed}
use Rattle.store.specs.declared.open_refusal.OpenRefusal.{OpenRefusal}
use Rattle.store.specs.declared.open_refusal.OpenRefusal.TheVariants as openings
use Rattle.store.specs.MapBoxes.{LacksBox}
use Rattle.job_store.specs.ImageNow.{AreWordsAs, IsAccepted, IsAcceptedAs, IsImageNow, IsRefused, IsRefusedAs}
use Rattle.job_store.specs.ResumeRefusal.{of_image, of_opening}
use Rattle.job_store.specs.ResumedRun.{Fits, IsOfOther, RefusesResume}

-- ---- by whether the image is old
module _ (s : Shape) (words : List ℕ) where
  accepted_as : (old : Bool) (now : List ℕ) → AreWordsAs old s words now → (old ≡ true → IsOldWellFormed s words)
      → IsWellFormed s now → IsAcceptedAs old s words
  accepted_as true now are migrated well = migrated refl
  accepted_as false now are migrated well = subst (IsWellFormed s) are well

  refused_old : (old : Bool) (why : RecoverRefusal) → old ≡ true → IsOldFirstRefusal s words why → IsRefusedAs old s words why
  refused_old true why is first = first
  refused_old false why is first = absurd (cc)

  refused_now : (old : Bool) (now : List ℕ) (why : RecoverRefusal) → AreWordsAs old s words now → why ≢ images.Memory
      → IsFirstRefusal s now why → IsRefusedAs old s words why
  refused_now true now why are some first = absurd (malformed s now why some first are.kept.accepted)
  refused_now false now why are some first = subst (λ (x : List ℕ). IsFirstRefusal s x why) are first

module _ (p : ImageParts) where
  pub accepted_image : (i : Image) → IsImageNow p i → (p.old ≡ true → IsOldWellFormed p.layout p.words)
      → IsWellFormed i.layout i.words → IsAccepted p
  accepted_image i is migrated well =
      accepted_as p.layout p.words p.old i.words is.words migrated (subst (λ (s : Shape). IsWellFormed s i.words) is.layout well)

  pub refused_image : (i : Image) (why : RecoverRefusal) → IsImageNow p i → why ≢ images.Memory
      → IsFirstRefusal i.layout i.words why → IsRefused p why
  refused_image i why is some first =
      refused_now p.layout p.words p.old i.words why is.words some
      (subst (λ (s : Shape). IsFirstRefusal s i.words why) is.layout first)

-- ---- refusals
module _ (j : Job) (p : ImageParts) (boxes : List ℕ) where
  refuses : (why : RecoverRefusal) → (why ≢ images.Memory → IsRefused p why) → RefusesResume j p boxes (of_image why)
  refuses images.Memory is = tt
  refuses (images.Slot slot fault) is = (λ e. absurd (cc), is (λ e. absurd (cc)))
  refuses (images.Twice slot other) is = (λ e. absurd (cc), is (λ e. absurd (cc)))
  refuses (images.Object unit slot fault) is = (λ e. absurd (cc), is (λ e. absurd (cc)))

  -- an old image isn't migrated
  pub refuses_old : (why : RecoverRefusal) → p.old ≡ true → IsOldFirstRefusal p.layout p.words why
      → RefusesResume j p boxes (of_image why)
  refuses_old why old first = refuses why (λ some. refused_old p.layout p.words p.old why old first)

  -- recovery refuses what it is now
  pub refuses_now : (i : Image) (why : RecoverRefusal) → IsImageNow p i → IsFirstRefusal i.layout i.words why
      → RefusesResume j p boxes (of_image why)
  refuses_now i why is first = refuses why (λ some. refused_image p i why is some first)

  pub refuses_boxes : (why : OpenRefusal) → Fits j p → LacksBox j.layout boxes why → RefusesResume j p boxes (of_opening why)
  refuses_boxes (openings.Index unit len) fits lacks = (fits, lacks)
  refuses_boxes openings.Memory fits lacks = tt

-- the refusal of which an answer tells
pub refusal_is : {T E : Type 0} (answer : Result T E) (why : E) (P : E → Type 0) → IsErrAnd answer (λ (e : E). e ≡ why) → P why
    → IfErr answer P
refusal_is (Ok t) why P is has = tt
refusal_is (Err e) why P is has = subst P (sym is) has

-- what isn't told to differ is told to be one
pub told_one : (same : Bool) → not same ≡ false → same ≡ true
told_one true e = refl
told_one false e = sym e

pub told_two : (same : Bool) → not same ≡ true → same ≡ true → ⊥
told_two true e f = let g : false ≡ true = e in absurd (cc)
told_two false e f = absurd (cc)

-- ---- layouts
module _
    (j : Job) (p : ImageParts) (i : Image) (is : IsImageNow p i)
    (migrated : p.old ≡ true → IsOldWellFormed p.layout p.words) (well : IsWellFormed i.layout i.words) where
  pub fits : i.layout ≡ j.layout → Fits j p
  fits same = record { accepted = accepted_image p i is migrated well; layout = sym is.layout ∙ same }

  pub of_other : i.layout ≢ j.layout → IsOfOther j p i.layout
  of_other differs = record { accepted = accepted_image p i is migrated well; told = is.layout; differs = differs }
