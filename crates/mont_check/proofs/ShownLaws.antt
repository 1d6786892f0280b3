-- The epoch of the entry that an outcome names.
use Rattle.std.proofs.Common.{◌≡◌, ℕ, List, Option, Some, None, refl, ap, ◌∙◌}
use Rattle.std.specs.Prelude.{slice_get}
use Rattle.mont_base.specs.declared.operation.Entry.{Entry}
use Rattle.mont_base.specs.Seen.{IsEntryAt}
use Rattle.job_text.specs.declared.outcome.Outcome.{Outcome}
use Rattle.job_text.specs.declared.outcome.Outcome.TheVariants.{At}
use Rattle.job_text.specs.Outcomes.{HasEpoch}
use Rattle.mont_check.specs.Shown.{epoch_in, epoch_of_entry, entry_in}

-- a place without an entry shows nothing
pub no_entry : (hs : List (List Entry)) (unit place : ℕ) → ((e : Entry) → ¬ IsEntryAt hs unit place e) → epoch_in hs (At unit place) ≡ None
no_entry hs unit place none = of_history (slice_get hs unit) refl
  where
    of_entry : (h : List Entry) → slice_get hs unit ≡ Some h → (o : Option Entry) → slice_get h place ≡ o → epoch_of_entry o ≡ None
    of_entry h there None is = refl
    of_entry h there (Some e) is = absurd (none e (h, there, is))

    of_history : (o : Option (List Entry)) → slice_get hs unit ≡ o → epoch_of_entry (entry_in o place) ≡ None
    of_history None is = refl
    of_history (Some h) is = of_entry h is (slice_get h place) refl

-- an epoch is that of the entry exactly where it is shown
pub epoch_shown : (hs : List (List Entry)) (o : Outcome) (epoch : ℕ) → HasEpoch hs o epoch → epoch_in hs o ≡ Some epoch
epoch_shown hs (At unit place) epoch has =
    ap (λ (o : Option (List Entry)). epoch_of_entry (entry_in o place)) has.1.1 ∙ ap epoch_of_entry has.1.2 ∙ ap Some has.2
epoch_shown hs _ epoch has = absurd has

pub shown_epoch : (hs : List (List Entry)) (o : Outcome) (epoch : ℕ) → epoch_in hs o ≡ Some epoch → HasEpoch hs o epoch
shown_epoch hs (At unit place) epoch shown = of_history (slice_get hs unit) refl shown
  where
    of_entry : (h : List Entry) → slice_get hs unit ≡ Some h → (o : Option Entry) → slice_get h place ≡ o → epoch_of_entry o ≡ Some epoch
        → HasEpoch hs (At unit place) epoch
    of_entry h there None is shows = absurd cc
    of_entry h there (Some e) is shows = (e, (h, there, is), (let same : e.epoch ≡ epoch = cc in same))

    of_history : (o : Option (List Entry)) → slice_get hs unit ≡ o → epoch_of_entry (entry_in o place) ≡ Some epoch
        → HasEpoch hs (At unit place) epoch
    of_history None is shows = absurd cc
    of_history (Some h) is shows = of_entry h is (slice_get h place) refl shows
shown_epoch hs _ epoch shown = absurd cc
