-- Histories that are filled by the entries of receipts.
use Rattle.std.proofs.Common.{◌≡◌, ◌≢◌, ℕ, zero, suc, ◌<◌, ◌≤◌, List, [], ◌∷◌, ◌++◌, length, get_or, ap, sym, ◌∙◌, subst, refl, arith}
use Rattle.std.specs.Prelude.{slice_get, Some, All}
use Rattle.std.proofs.lemmas.List.Elements.{All-nil, All-cons, All-append, All-head}
use Rattle.std.proofs.lemmas.Option.{same_Some, slice_get_within}
use mathlib.Core.Logic.{dite}
use native.Mathlib.Decide.{ℕ_discrete}
use Rattle.mont_base.specs.declared.operation.Entry.{Entry}
use Rattle.mont_base.specs.declared.operation.Receipt.{Receipt}
use Rattle.core_steps.proofs.RowFacts.{same_item}
use Rattle.store_stop.specs.ToldHistories.{HoldsEntryOf, TellsHistory, IsPut, Fills}
use Rattle.store_stop.proofs.Items.{all_gives, all_split, same_items}

module _ (unit : ℕ) where
  -- ---- one entry
  pub fills_none : (old : List Entry) → Fills unit [] old old
  fills_none old h low all = record { long = low; stand = All-nil (HoldsEntryOf unit old); still = λ r there stood. stood }

  -- an entry that stood at its place does so when another one was put
  still_there : (h old new : List Entry) (r q : Receipt) → r.unit ≡ unit → IsPut r old new → HoldsEntryOf unit h r
      → HoldsEntryOf unit h q → HoldsEntryOf unit old q → HoldsEntryOf unit new q
  still_there h old new r q of_unit put there too stood at =
      dite (ℕ_discrete q.place r.place)
      (λ (e : q.place ≡ r.place).
      let same : r.entry ≡ q.entry =
      same_item h r.place r.entry q.entry (there of_unit) (subst (λ (n : ℕ). slice_get h n ≡ Some q.entry) e (too at)) in
      ap (slice_get new) e ∙ (put.here ∙ ap Some same))
      (λ (n : q.place ≢ r.place). put.others q.place (slice_get_within old q.place q.entry (stood at)) n ∙ stood at)

  module _ (rs : List Receipt) (r : Receipt) (old mid new : List Entry) (so_far : Fills unit rs old mid) where
    parts : (h : List Entry) → All (HoldsEntryOf unit h) (rs ++ r ∷ []) → All (HoldsEntryOf unit h) rs × HoldsEntryOf unit h r
    parts h all =
        let p = all_split (HoldsEntryOf unit h) rs (r ∷ []) all in (p.0, All-head (HoldsEntryOf unit h) r [] p.1)

    -- the receipt is another unit's
    pub fills_other : r.unit ≢ unit → Fills unit (rs ++ r ∷ []) old mid
    fills_other other h low all =
        let f = so_far h low (parts h all).0 in
        record {
          long = f.long;
          stand = All-append (HoldsEntryOf unit mid) rs (r ∷ []) f.stand
              (All-cons (HoldsEntryOf unit mid) r [] (λ e. absurd (other e)) (All-nil (HoldsEntryOf unit mid)));
          still = f.still;
        }

    -- the unit's
    pub fills_one : r.unit ≡ unit → IsPut r mid new → Fills unit (rs ++ r ∷ []) old new
    fills_one of_unit put h low all =
        let p = parts h all in
        let f = so_far h low p.0 in
        let inside = slice_get_within h r.place r.entry (p.1 of_unit) in
        let below = f.long in
        let count = put.long in
        record {
          long = omega arith;
          stand = All-append (HoldsEntryOf unit new) rs (r ∷ [])
              (both_stand h p.0 p.1 f.stand)
              (All-cons (HoldsEntryOf unit new) r [] (λ e. put.here) (All-nil (HoldsEntryOf unit new)));
          still = λ q there stood. still_there h mid new r q of_unit put p.1 there (f.still q there stood);
        }
      where
        both_stand : (h : List Entry) → All (HoldsEntryOf unit h) rs → HoldsEntryOf unit h r → All (HoldsEntryOf unit mid) rs
            → All (HoldsEntryOf unit new) rs
        both_stand h there one stood i d inside =
            still_there h mid new r (get_or rs i d) of_unit put one (there i d inside) (stood i d inside)

  -- ---- all receipts
  pub fills_rows : (done : List (List Receipt)) (rs : List Receipt) (h old new : List Entry)
      → length old ≤ length h → All (All (HoldsEntryOf unit h)) done → All (HoldsEntryOf unit h) rs
      → All (All (HoldsEntryOf unit old)) done → Fills unit rs old new
      → (length new ≤ length h) × All (All (HoldsEntryOf unit new)) (done ++ rs ∷ [])
  fills_rows done rs h old new low there one stood fills =
      let f = fills h low one in (
        f.long,
        All-append (All (HoldsEntryOf unit new)) done (rs ∷ [])
            (λ i d inside. λ j e within. f.still (get_or (get_or done i d) j e) (there i d inside j e within) (stood i d inside j e within))
            (All-cons (All (HoldsEntryOf unit new)) rs [] f.stand (All-nil (All (HoldsEntryOf unit new)))),
      )

  -- a list that isn't longer than the history and in which all entries stand is the history
  pub told_is : (rows : List (List Receipt)) (h told : List Entry) → TellsHistory rows unit h → length told ≤ length h
      → All (All (HoldsEntryOf unit told)) rows → told ≡ h
  told_is rows h told tells low stood = same_items told h count same
    where
      stands : (place : ℕ) → place < length h → (e : Entry) × (slice_get told place ≡ Some e) × (slice_get h place ≡ Some e)
      stands place inside =
          let w = tells.whole place inside in
          let a = all_gives (HoldsEntryOf unit told) w.of_caller w.call w.receipt
          (all_gives (All (HoldsEntryOf unit told)) rows w.caller w.of_caller stood w.there) w.kept w.of_unit in
          let b = all_gives (HoldsEntryOf unit h) w.of_caller w.call w.receipt
          (all_gives (All (HoldsEntryOf unit h)) rows w.caller w.of_caller tells.stand w.there) w.kept w.of_unit in (
            w.receipt.entry,
            subst (λ (n : ℕ). slice_get told n ≡ Some w.receipt.entry) w.at_place a,
            subst (λ (n : ℕ). slice_get h n ≡ Some w.receipt.entry) w.at_place b,
          )

      count : length told ≡ length h
      count = by (length h) refl
        where
          by : (n : ℕ) → length h ≡ n → length told ≡ length h
          by zero e = omega arith
          by (suc n) e =
              let s = stands n (omega arith) in
              let inside = slice_get_within told n s.0 s.1 in
              omega arith

      same : (i : ℕ) (a b : Entry) → slice_get told i ≡ Some a → slice_get h i ≡ Some b → a ≡ b
      same i a b e f =
          let s = stands i (slice_get_within h i b f) in
          same_Some a s.0 (sym e ∙ s.1) ∙ same_Some s.0 b (sym s.2 ∙ f)
