-- What is told of an image that was read.
use Rattle.std.proofs.Common.{◌≡◌, ℕ, List, true, ap, ◌∙◌, subst}
use Rattle.std.specs.Prelude.{◌≢◌, Option, IfErr, Result, Ok, Err}
use Rattle.image_units.specs.declared.recovery_refusal.RecoverRefusal.{RecoverRefusal}
use Rattle.image_units.specs.declared.recovery_refusal.RecoverRefusal.TheVariants as held
use Rattle.image_units.specs.FirstRefusal.{IsFirstRefusal}
use Rattle.job_store.specs.ImageNow.{IsImageNow, IsRefused}
use Rattle.job_store.proofs.Resumed.{accepted_image, refused_image}
use Rattle.job_text.specs.ReportText.{contents_text}
use Rattle.mont_base.specs.Image.{IsRecovered, IsWellFormed, clock_of}
use Rattle.mont_base.specs.Layout.{Shape}
use Rattle.mont_base.specs.State.{State}
use Rattle.mont_image.specs.declared.stored_image.Image.{Image}
use Rattle.mont_image.specs.ImageText.{ImageParts}
use Rattle.old_image.specs.Migration.{IsOldWellFormed}
use Rattle.montage_tool.specs.declared.status.Status.{Status}
use Rattle.montage_tool.specs.declared.status.Status.TheVariants.{Done, ReadFault}
use Rattle.montage_tool.specs.declared.status.SourceName.{SourceName}
use Rattle.montage_tool.specs.declared.status.SourceName.TheVariants as sources
use Rattle.montage_tool.specs.Devices.{IsRead, SourceSeen, ended_as}
use Rattle.montage_tool.specs.Inputs.{IsImageOf}
use Rattle.montage_tool.specs.Service.{AreContents, RefusesImage}
use Rattle.montage_tool.specs.StatusCauses.{of_words}
use Rattle.montage_tool.proofs.Served.{image_quiet}

module _ (left : Option (List ℕ)) (p : ImageParts) (of : IsImageOf left p) where
  holds_fault : (why : RecoverRefusal) → (why ≢ held.Memory → IsRefused p why) → RefusesImage left (of_words why)
  holds_fault (held.Slot slot fault) refused =
      record { parts = p; of_image = of; refused = refused (λ e. absurd (cc)) }
  holds_fault (held.Twice slot other) refused =
      record { parts = p; of_image = of; refused = refused (λ e. absurd (cc)) }
  holds_fault (held.Object unit slot fault) refused =
      record { parts = p; of_image = of; refused = refused (λ e. absurd (cc)) }
  holds_fault held.Memory refused = tt

  -- what it is now is refused
  pub refused_now : (i : Image) → IsImageNow p i → (why : RecoverRefusal) → IsFirstRefusal i.layout i.words why
      → RefusesImage left (of_words why)
  refused_now i is why first = holds_fault why (λ some. refused_image p i why is some first)

  pub contents_are : (i : Image) → IsImageNow p i → (p.old ≡ true → IsOldWellFormed p.layout p.words) → IsWellFormed i.layout i.words
      → (states : List State) → IsRecovered i.layout i.words states → (clock : ℕ) → clock ≡ clock_of i.words → (text : List ℕ)
      → text ≡ contents_text i.layout clock states → AreContents left text
  contents_are i is migrated well states recovered clock told text spelled = record {
    parts = p;
    of_image = of;
    accepted = accepted_image p i is migrated well;
    now = i.words;
    words = is.words;
    states = states;
    recovered = subst (λ (s : Shape). IsRecovered s i.words states) is.layout recovered;
    text_is = spelled ∙ ap (λ (n : ℕ). contents_text i.layout n states) told
        ∙ ap (λ (s : Shape). contents_text s (clock_of i.words) states) is.layout;
  }

-- no source failed after the reading
pub read_behind : {A : Type 0} (most : ℕ) (left : Option (List ℕ)) (old new : SourceSeen) (result : Result A Status)
    → IfErr result (RefusesImage left) → ((which : SourceName) → result ≢ Err (ReadFault which)) → IsRead most sources.Image old new Done
    → IsRead most sources.Image old new (ended_as result)
read_behind most left old new (Ok a) refused none is = is
read_behind most left old new (Err status) refused none is = record {
  few = is.few;
  ended = λ out. absurd (image_quiet left status refused out);
  failed = λ e. absurd (none sources.Image (ap Err e));
  kept = λ others. is.kept (λ e. absurd (cc));
}
