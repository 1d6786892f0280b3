-- What a caller knows to be durable is in the cut of each image that a crash may leave.
use Rattle.std.proofs.Common.{◌≡◌, ℕ, ◌+◌, ◌<◌, ◌≤◌, List, [], ◌++◌, take, drop, append-nil, length-take, sym, ap, ◌∙◌, subst, arith}
use Rattle.std.specs.Prelude.{slice_get, Option, Some, All, Contains, nat_le}
use Rattle.std.proofs.lemmas.Bool.{le-leb}
use Rattle.std.proofs.lemmas.List.{get_or-take, take-append-drop}
use Rattle.std.proofs.lemmas.List.Elements.{All-nil, All-weaker, filter-append}
use Rattle.std.proofs.lemmas.Option.{slice_get_within, get_or_from_slice_get}
use Rattle.mont_base.specs.declared.operation.Entry.{Entry}
use Rattle.mont_base.specs.History.{cut_at}
use Rattle.mont_base.specs.Image.{clock_of, cut_of}
use Rattle.mont_laws.proofs.Histories.{added_within}
use Rattle.mont_laws.proofs.Members.{element_kept}
use Rattle.core_steps.specs.declared.parts.CallerPart.{CallerPart}
use Rattle.core_steps.specs.CallerClauses.{CallerFits}
use Rattle.core_steps.specs.Notes.{BeginsWith}

module _ (histories : List (List Entry)) (cuts : List (Option ℕ)) (now durable k : ℕ) (q : CallerPart)
    (fit : CallerFits histories cuts now k q) (known : q.durable ≤ durable) (u n : ℕ) (h : List Entry) (at : slice_get q.synced u ≡ Some n)
    (unit : slice_get histories u ≡ Some h) where
  -- the epochs of the entries that the caller knows to be durable are two behind the durable clock,
  pub synced_epochs : All (λ (e : Entry). e.epoch + 2 ≤ durable) (take n h)
  synced_epochs = All-weaker (λ (e : Entry). e.epoch + 2 ≤ q.durable) (λ (e : Entry). e.epoch + 2 ≤ durable) (λ e l. omega arith) (take n h)
      (fit.synced.durable u n h at unit)

  -- entry by entry,
  pub synced_epoch : (place : ℕ) (e : Entry) → place < n → slice_get h place ≡ Some e → e.epoch + 2 ≤ durable
  synced_epoch place e l is =
      let w = slice_get_within h place e is in
      subst (λ (d : Entry). d.epoch + 2 ≤ durable) (get_or-take n h place e l ∙ get_or_from_slice_get h place e e is)
      (synced_epochs place e (omega (arith, length-take n h)))

  -- and so each cut from there on begins with them
  pub synced_cut : (x : ℕ) → durable ≤ x + 2 → BeginsWith (cut_at x h) (take n h)
  synced_cut x l =
      let low = All-weaker (λ (e : Entry). e.epoch + 2 ≤ durable) (λ (e : Entry). e.epoch ≤ x) (λ e m. omega arith) (take n h)
      synced_epochs in
      let whole : cut_at x (take n h) ≡ take n h =
      ap (cut_at x) (sym (append-nil (take n h)))
      ∙ added_within (λ (e : Entry). e.epoch) x (take n h) [] low (All-nil (λ (e : Entry). e.epoch ≤ x)) ∙ append-nil (take n h) in (
        cut_at x (drop n h),
        ap (cut_at x) (sym (take-append-drop n h)) ∙ filter-append (λ (e : Entry). nat_le e.epoch x) (take n h) (drop n h)
            ∙ ap (λ (t : List Entry). t ++ cut_at x (drop n h)) whole,
      )

  -- and so does the cut of each image that isn't older than the durable clock
  pub synced_in_image : (image : List ℕ) → durable ≤ clock_of image → BeginsWith (cut_at (cut_of image) h) (take n h)
  synced_in_image image l = synced_cut (cut_of image) (omega arith)

  -- so such an entry is in the cut of each image that isn't older than the durable clock
  pub synced_entry_in_image : (image : List ℕ) → durable ≤ clock_of image → (place : ℕ) (e : Entry) → place < n → slice_get h place ≡ Some e
      → Contains (cut_at (cut_of image) h) e
  synced_entry_in_image image l place e before is =
      let low = synced_epoch place e before is in
      element_kept (λ (d : Entry). nat_le d.epoch (cut_of image)) e h
      (place, slice_get_within h place e is, get_or_from_slice_get h place e e is)
      (le-leb e.epoch (cut_of image) (omega arith))
