-- An opening and transfers: what each puts in and takes out within a cut.
use Rattle.std.proofs.Common.{◌≡◌, ℕ, ◌+◌, ◌≤◌, inl, inr, Bool, true, false, cond, List, [], ◌∷◌, ◌++◌, refl, sym, ap, ◌∙◌, arith}
use Rattle.std.specs.Prelude.{All, sum_by, nat_le}
use Rattle.std.specs.List.{flat_map}
use Rattle.std.proofs.lemmas.Bool.Decides.{nat_tests}
use Rattle.std.proofs.lemmas.List.Elements.{All-head, All-tail}
use Rattle.std.proofs.lemmas.List.Sorted.{sum_by-IsPermutation}
use Rattle.std.proofs.lemmas.List.Sums.{sum_by-append, sum_by-cons}
use Rattle.mont_base.specs.declared.operation.Entry.{Entry}
use Rattle.mont_base.specs.declared.operation.Receipt.{Receipt}
use Rattle.mont_base.specs.Image.{cut_of}
use Rattle.mont_base.specs.State.{Value}
use Rattle.store_stop.proofs.Outliving.{stopped_stores_outlive_crashes}
use Rattle.plain.specs.States.{states_of}
use Rattle.unit_totals.specs.MapBooks.{put_in, taken_out}
use Rattle.unit_totals.specs.Transfers.{IsTransfer, IsNoMatter, AreTransfers, both_of, receipts_in, StoppedStoresKeepTotals}
use Rattle.unit_totals.proofs.Named.{each_once, callers_name}
use Rattle.unit_totals.proofs.Rebuilt.{within, accounts, all_account}

module _ (amount : Value → ℕ) (x : ℕ) where
  abbrev put_then : Receipt → ℕ
  put_then r = within x (put_in amount) r.entry

  abbrev taken_then : Receipt → ℕ
  taken_then r = within x (taken_out amount) r.entry

  -- the whole opening counts
  opened : (count : Entry → ℕ) (rs : List Receipt) → All (λ (r : Receipt). r.entry.epoch ≤ x) rs
      → sum_by (λ (r : Receipt). within x count r.entry) rs ≡ sum_by (λ (r : Receipt). count r.entry) rs
  opened count [] early = refl
  opened count (r ∷ rs) early =
      let low = All-head (λ (q : Receipt). q.entry.epoch ≤ x) r rs early in
      let t : nat_le r.entry.epoch x ≡ true = grind (arith, nat_tests) in
      let first = ap (λ (b : Bool). cond b (count r.entry) 0) t in
      let rest = opened count rs (All-tail (λ (q : Receipt). q.entry.epoch ≤ x) r rs early) in
      let c = sum_by-cons (λ (q : Receipt). within x count q.entry) r rs in
      let d = sum_by-cons (λ (q : Receipt). count q.entry) r rs in
      omega (arith, first, rest, c, d)

  -- both entries of a transfer count, or neither
  pair_even : (d e p q s t : ℕ) → d ≡ e → p + q ≡ s + t
      → cond (nat_le d x) p 0 + cond (nat_le e x) q 0 ≡ cond (nat_le d x) s 0 + cond (nat_le e x) t 0
  pair_even d e p q s t same even = rw same (elim (nat_le e x) as (λ b. cond b p 0 + cond b q 0 ≡ cond b s 0 + cond b t 0) [
    | true ↦ even
    | false ↦ refl
  ])

  transfers_even : (ts : List (Receipt × Receipt)) → All (IsTransfer amount) ts
      → sum_by put_then (flat_map both_of ts) ≡ sum_by taken_then (flat_map both_of ts)
  transfers_even [] all = refl
  transfers_even (t ∷ ts) all =
      let it = All-head (IsTransfer amount) t ts all in
      let here = pair_even t.0.entry.epoch t.1.entry.epoch (put_in amount t.0.entry) (put_in amount t.1.entry)
      (taken_out amount t.0.entry) (taken_out amount t.1.entry) it.epoch it.even in
      let rest = transfers_even ts (All-tail (IsTransfer amount) t ts all) in
      let a = sum_by-cons put_then t.0 (t.1 ∷ flat_map both_of ts) in
      let b = sum_by-cons put_then t.1 (flat_map both_of ts) in
      let c = sum_by-cons taken_then t.0 (t.1 ∷ flat_map both_of ts) in
      let d = sum_by-cons taken_then t.1 (flat_map both_of ts) in
      omega (arith, here, rest, a, b, c, d)

  no_matter : (r : Receipt) → IsNoMatter amount x r → put_then r ≡ taken_then r
  no_matter r (inl late) =
      let t : nat_le r.entry.epoch x ≡ false = grind (arith, nat_tests) in
      ap (λ (b : Bool). cond b (put_in amount r.entry) 0) t ∙ sym (ap (λ (b : Bool). cond b (taken_out amount r.entry) 0) t)
  no_matter r (inr even) = ap (λ (n : ℕ). cond (nat_le r.entry.epoch x) n 0) even

  others_even : (rs : List Receipt) → All (IsNoMatter amount x) rs → sum_by put_then rs ≡ sum_by taken_then rs
  others_even [] all = refl
  others_even (r ∷ rs) all =
      let first = no_matter r (All-head (IsNoMatter amount x) r rs all) in
      let rest = others_even rs (All-tail (IsNoMatter amount x) r rs all) in
      let a = sum_by-cons put_then r rs in
      let c = sum_by-cons taken_then r rs in
      omega (arith, first, rest, a, c)

  -- so all receipts together put in beyond what they take out as much as the opening does
  as_opened : (receipts opening : List Receipt) (ts : List (Receipt × Receipt)) (others : List Receipt)
      → AreTransfers amount x receipts opening ts others
      → sum_by put_then receipts + sum_by (λ (r : Receipt). taken_out amount r.entry) opening
      ≡ sum_by taken_then receipts + sum_by (λ (r : Receipt). put_in amount r.entry) opening
  as_opened receipts opening ts others are =
      let pairs = flat_map both_of ts in
      let put = sum_by-IsPermutation put_then (opening ++ pairs ++ others) receipts are.parts in
      let taken = sum_by-IsPermutation taken_then (opening ++ pairs ++ others) receipts are.parts in
      let put_first = sum_by-append put_then opening pairs in
      let taken_first = sum_by-append taken_then opening pairs in
      let put_more = sum_by-append put_then (opening ++ pairs) others in
      let taken_more = sum_by-append taken_then (opening ++ pairs) others in
      let a = opened (put_in amount) opening are.within in
      let b = opened (taken_out amount) opening are.within in
      let c = transfers_even ts are.transferred in
      let d = others_even others are.still in
      omega (arith, put, taken, put_first, taken_first, put_more, taken_more, a, b, c, d)

pub totals_kept : StoppedStoresKeepTotals
totals_kept amount s clock base callers t image states opening transfers others stopped permitted recovered are =
    let x = cut_of image in
    let lives = stopped_stores_outlive_crashes s clock base callers t image states stopped permitted recovered in
    let named = callers_name t.histories _ _ stopped.order in
    let receipts = receipts_in callers in
    let put = each_once (within x (put_in amount)) t.histories receipts named in
    let taken = each_once (within x (taken_out amount)) t.histories receipts named in
    let units = recovered.0 in
    let based = stopped.legal.based in
    let told = stopped.legal.units in
    let books = all_account amount x states (states_of base) t.histories (units ∙ sym told) (based ∙ sym told)
    (λ unit opened h state i j k. accounts amount s clock x unit _ opened h state (lives.rebuilt unit opened h state i j k)
    (recovered.1 unit state k)) in
    omega (arith, put, taken, books, as_opened amount x receipts opening transfers others are)
