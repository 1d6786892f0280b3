-- The bank's store once it is stopped: its histories, by the receipts that its callers were given.
use Rattle.std.proofs.Common.{◌≡◌, ℕ, ◌+◌, ◌-◌, ◌<◌, ◌≤◌, Bool, true, false, List, [], ◌∷◌, ◌++◌, map, sym, refl, ap, ◌∙◌, subst, arith, append_assoc, inl, inr}
use Rattle.std.specs.Prelude.{◌⊎◌, slice_get, Option, Some, None, All, option_to_list}
use Rattle.std.specs.List.{Contains, flat_map}
use Rattle.std.specs.List.Sorted.{IsPermutation}
use Rattle.std.proofs.lemmas.List.{append-nil}
use Rattle.std.proofs.lemmas.List.Elements.{All-nil, All-cons, All-head, All-tail}
use Rattle.std.proofs.lemmas.List.Sorted.{IsPermutation-refl, IsPermutation-append, IsPermutation-append_comm}
use Rattle.mont_base.specs.declared.constants.TheConstants.{FIRST_CLOCK, LAST}
use Rattle.mont_base.specs.declared.operation.Op.{Op}
use Rattle.mont_base.specs.declared.operation.Receipt.{Receipt}
use Rattle.mont_base.specs.declared.operation.Reply.{Reply}
use Rattle.mont_base.specs.Image.{IsPermitted, clock_of, cut_of}
use Rattle.plain.specs.declared.contents.Contents.{Contents}
use Rattle.core_steps.specs.declared.parts.CallerPart.{CallerPart}
use Rattle.core_steps.specs.declared.parts.Mark.{Mark}
use Rattle.core_steps.specs.CallerClauses.{receipts_of, view_of}
use Rattle.core_steps.specs.Places.{RowHas}
use Rattle.heap.specs.HeapShown.{HeapShown, CallerShown}
use Rattle.caller.specs.Telling.{has_mark}
use Rattle.store_stop.specs.declared.headline.Stopped.{Stopped}
use Rattle.store_stop.specs.Headline.{IsCutAsMarked, IsStopped, parts_shown}
use Rattle.store_stop.proofs.Items.{all_gives}
use Rattle.unit_totals.specs.MapBooks.{taken_amount, put_amount}
use Rattle.unit_totals.specs.Naming.{NameEachOnce, all_receipts}
use Rattle.unit_totals.specs.Transfers.{AreTransfers, IsTransfer, both_of, receipts_in, IsNoMatter}
use Rattle.unit_totals.proofs.Named.{callers_name}
use Rattle.big_job.specs.Digits.{number_spelled}
use Rattle.big_job.proofs.Spelled.{spelled-decimal}
use Rattle.bank_job.specs.declared.shifts.Shift.{Shift}
use Rattle.bank_job.specs.Bank.{bank_layout}
use Rattle.bank_job.specs.Shifts.{first_shifts}
use Rattle.shard_map.specs.MovedNumbers.{of_high, of_low}
use Rattle.store.specs.Shifting.{goes_up}
use Rattle.bank_store.specs.BankCallers.{HasShiftedAll, HaveShifted}
use Rattle.bank_store.specs.BankRun.{ComeAfter, NameHistories, begun_with, rows_from}
use Rattle.bank_store.specs.Ends.{End, HasGone, HoldsOfEach, all_given, receipts_given}
use Rattle.bank_store.specs.MadeShifts.{ComesOnceDurable, EndsBetween}
use Rattle.bank_store.specs.OpenedAccounts.{puts_given}
use Rattle.bank_store.proofs.ShiftsMade.{all_weaker}

-- ---- lists of ends
pub given_append : (xs ys : List End) → all_given (xs ++ ys) ≡ all_given xs ++ all_given ys
given_append [] ys = refl
given_append (x ∷ xs) ys =
    ap (λ (rs : List Receipt). receipts_given x ++ rs) (given_append xs ys)
    ∙ sym (append_assoc (receipts_given x) (all_given xs) (all_given ys))

-- the pairs of receipts of the shifts that were made
abbrev pub pairs_of : List End → List (Receipt × Receipt)
pairs_of ends = flat_map option_to_list ends

both_or : (up : Bool) (pair : Receipt × Receipt) → IsPermutation (both_of pair) (of_low up pair ∷ of_high up pair ∷ [])
both_or true pair = IsPermutation-refl (both_of pair)
both_or false pair = IsPermutation-append_comm (pair.0 ∷ []) (pair.1 ∷ [])

pub pairs_given : (ends : List End) → IsPermutation (flat_map both_of (pairs_of ends)) (all_given ends)
pairs_given [] = IsPermutation-refl []
pairs_given (None ∷ es) = pairs_given es
pairs_given (Some pair ∷ es) =
    IsPermutation-append (both_of pair) (receipts_given (Some pair)) (flat_map both_of (pairs_of es)) (all_given es)
    (both_or (goes_up pair) pair) (pairs_given es)

module _ (Ends : Shift → End → List Receipt → List Receipt → Type 0) (P : Receipt × Receipt → Type 0)
    (gone : (s : Shift) (pair : Receipt × Receipt) (before behind : List Receipt) → Ends s (Some pair) before behind → P pair) where
  pub pairs_hold : (earlier : List Receipt) (shifts : List Shift) (ends : List End) → HoldsOfEach Ends earlier shifts ends
      → All P (pairs_of ends)
  pairs_hold earlier [] [] holds = All-nil P
  pairs_hold earlier (s ∷ ss) (None ∷ es) holds = pairs_hold (earlier ++ []) ss es holds.1
  pairs_hold earlier (s ∷ ss) (Some pair ∷ es) holds =
      All-cons P pair (pairs_of es) (gone s pair earlier (all_given es) holds.0)
      (pairs_hold (earlier ++ receipts_given (Some pair)) ss es holds.1)
  pairs_hold earlier [] (e ∷ es) holds = absurd holds
  pairs_hold earlier (s ∷ ss) [] holds = absurd holds

all_pairs_append : (P : Receipt × Receipt → Type 0) (xs ys : List End) → All P (pairs_of xs) → All P (pairs_of ys)
    → All P (pairs_of (xs ++ ys))
all_pairs_append P [] ys p q = q
all_pairs_append P (None ∷ xs) ys p q = all_pairs_append P xs ys p q
all_pairs_append P (Some x ∷ xs) ys p q =
    All-cons P x (pairs_of (xs ++ ys)) (All-head P x (pairs_of xs) p)
    (all_pairs_append P xs ys (All-tail P x (pairs_of xs) p) q)

-- ---- an answered shift puts in what it takes out
pub gone_transfers : (s : Shift) (pair : Receipt × Receipt) → HasGone s pair → IsTransfer number_spelled pair
gone_transfers s pair g =
    let m = g.moved in
    let put_out = ap (put_amount number_spelled) m.less ∙ spelled-decimal (m.have - s.amount) (omega (arith, m.short)) in
    let put_into = ap (put_amount number_spelled) m.more ∙ spelled-decimal (m.had + s.amount) m.fits in
    let took_out = ap (λ (x : Op × Reply). taken_amount number_spelled x.0 x.1) (λ i. (m.less i, m.out_of i))
    ∙ spelled-decimal m.have m.short in
    let took_into = ap (λ (x : Op × Reply). taken_amount number_spelled x.0 x.1) (λ i. (m.more i, m.into_what i))
    ∙ spelled-decimal m.had (omega (arith, m.fits)) in
    record { epoch = g.epoch; even = omega (arith, put_out, put_into, took_out, took_into, m.enough) }

-- ---- nobody was cut
row_found : {A : Type 0} (o : Option A) (P : A → Type 0) → RowHas o P → (x : A) × (o ≡ Some x) × P x
row_found None P h = absurd h
row_found (Some x) P h = (x, refl, h)

none_marked : (parts : List CallerPart) → All (λ (q : CallerPart). q.cuts ≡ []) parts → (marks : List Mark) (m : Mark)
    → All (IsCutAsMarked parts) marks → has_mark marks m ≡ true → ⊥
none_marked parts uncut [] m all has = absurd (cc has)
none_marked parts uncut (x ∷ marks) m all has =
    let k = All-head (IsCutAsMarked parts) x marks all in
    let f = row_found (slice_get parts k.by) (λ (q : CallerPart). Contains q.cuts x.unit) k.cut in
    let none : f.0.cuts ≡ [] = all_gives (λ (q : CallerPart). q.cuts ≡ []) parts k.by f.0 uncut f.1 in
    let there : Contains [] x.unit = subst (λ (cuts : List ℕ). Contains cuts x.unit) none f.2 in
    omega (arith, there.1)

-- ---- four callers
module _
    (heap : HeapShown) (number : ℕ) (base : Contents) (t : Stopped) (a b c d : CallerShown)
    (sh : HaveShifted heap number (a ∷ b ∷ c ∷ d ∷ []))
    (st : IsStopped bank_layout FIRST_CLOCK base (a ∷ b ∷ c ∷ d ∷ []) t) where
  abbrev pub callers : List CallerShown
  callers = a ∷ b ∷ c ∷ d ∷ []

  abbrev pub opening : List Receipt
  opening = puts_given sh.ends

  of_a : HasShiftedAll heap number opening 0 a
  of_a = sh.each 0 a refl

  of_b : HasShiftedAll heap number opening 1 b
  of_b = sh.each 1 b refl

  of_c : HasShiftedAll heap number opening 2 c
  of_c = sh.each 2 c refl

  of_d : HasShiftedAll heap number opening 3 d
  of_d = sh.each 3 d refl

  abbrev pub ends : List (List End)
  ends = (sh.each 0 a refl).made.ends ∷ (sh.each 1 b refl).made.ends ∷ (sh.each 2 c refl).made.ends ∷ (sh.each 3 d refl).made.ends ∷ []

  row_is : (caller : ℕ) (r : CallerShown) (k : HasShiftedAll heap number opening caller r)
      → r.known.part.receipts ≡ begun_with opening caller ++ all_given k.made.ends
  row_is caller r k = k.made.receipts ∙ ap (λ (rs : List Receipt). rs ++ all_given k.made.ends) k.ready.receipts

  pub rows_are : map receipts_of (parts_shown callers) ≡ rows_from opening 0 ends
  rows_are = λ i.
      row_is 0 a (sh.each 0 a refl) i ∷ row_is 1 b (sh.each 1 b refl) i ∷ row_is 2 c (sh.each 2 c refl) i
      ∷ row_is 3 d (sh.each 3 d refl) i ∷ []

  pub names : NameHistories t.histories (rows_from opening 0 ends)
  names =
      subst (NameHistories t.histories) rows_are
      (record { named = st.order.receipt; order = st.order.order; once = st.order.named_once })

  pub names_once : NameEachOnce t.histories (all_receipts (rows_from opening 0 ends))
  names_once =
      subst (λ (rows : List (List Receipt)). NameEachOnce t.histories (all_receipts rows)) rows_are
      (callers_name t.histories (map receipts_of (parts_shown callers)) (map view_of (parts_shown callers)) st.order)

  -- ---- nobody was cut
  uncut : (caller : ℕ) (r : CallerShown) → HasShiftedAll heap number opening caller r → r.known.part.cuts ≡ []
  uncut caller r k = k.made.cuts ∙ k.ready.cuts

  all_uncut : All (λ (q : CallerPart). q.cuts ≡ []) (parts_shown callers)
  all_uncut =
      All-cons (λ (q : CallerPart). q.cuts ≡ []) a.known.part (b.known.part ∷ c.known.part ∷ d.known.part ∷ []) (uncut 0 a
      (sh.each 0 a refl))
      (All-cons (λ (q : CallerPart). q.cuts ≡ []) b.known.part (c.known.part ∷ d.known.part ∷ []) (uncut 1 b (sh.each 1 b refl))
      (All-cons (λ (q : CallerPart). q.cuts ≡ []) c.known.part (d.known.part ∷ []) (uncut 2 c (sh.each 2 c refl))
      (All-cons (λ (q : CallerPart). q.cuts ≡ []) d.known.part [] (uncut 3 d (sh.each 3 d refl)) (All-nil (λ
      (q : CallerPart). q.cuts ≡ [])))))

  pub unmarked : (caller : ℕ) (q : CallerPart) (m : Mark) → slice_get (parts_shown callers) caller ≡ Some q → has_mark q.marks m ≡ true → ⊥
  unmarked caller q m at has =
      none_marked (parts_shown callers) all_uncut q.marks m
      (all_gives (λ (x : CallerPart). All (IsCutAsMarked (parts_shown callers)) x.marks) (parts_shown callers) caller q st.marks at) has

  -- ---- the total
  abbrev all_ends : List End
  all_ends = (sh.each 0 a refl).made.ends ++ ((sh.each 1 b refl).made.ends ++ ((sh.each 2 c refl).made.ends ++
      (sh.each 3 d refl).made.ends))

  receipts_are : receipts_in callers ≡ opening ++ all_given all_ends
  receipts_are =
      let ga = all_given (sh.each 0 a refl).made.ends in
      let gb = all_given (sh.each 1 b refl).made.ends in
      let gc = all_given (sh.each 2 c refl).made.ends in
      let gd = all_given (sh.each 3 d refl).made.ends in
      ap all_receipts rows_are
      ∙ append_assoc opening ga (gb ++ (gc ++ (gd ++ [])))
      ∙ ap (λ (rs : List Receipt). opening ++ (ga ++ (gb ++ (gc ++ rs)))) (append-nil gd)
      ∙ ap (λ (rs : List Receipt). opening ++ rs)
      (sym (given_append (sh.each 0 a refl).made.ends ((sh.each 1 b refl).made.ends ++ ((sh.each 2 c refl).made.ends ++
      (sh.each 3 d refl).made.ends))
      ∙ ap (λ (rs : List Receipt). ga ++ rs)
      (given_append (sh.each 1 b refl).made.ends ((sh.each 2 c refl).made.ends ++ (sh.each 3 d refl).made.ends)
      ∙ ap (λ (rs : List Receipt). gb ++ rs) (given_append (sh.each 2 c refl).made.ends (sh.each 3 d refl).made.ends))))

  moves : (caller : ℕ) (r : CallerShown) (k : HasShiftedAll heap number opening caller r)
      → All (IsTransfer number_spelled) (pairs_of k.made.ends)
  moves caller r k =
      pairs_hold (EndsBetween heap k.begun r) (IsTransfer number_spelled) (λ s pair before behind gone. gone_transfers s pair gone) []
      (first_shifts number caller 500) k.made.ends k.made.each

  module _ (image : List ℕ) (permitted : IsPermitted t.words.cur t.words.dur image) (below : clock_of image < LAST) where
    -- what a caller knew of the opening before its shifts was durable
    module _ (caller : ℕ) (r : CallerShown) (at : slice_get (parts_shown callers) caller ≡ Some r.known.part)
        (k : HasShiftedAll heap number opening caller r) where
      durable : k.begun.known.part.durable ≤ clock_of image
      durable =
          let learnt = all_gives (λ (q : CallerPart). q.durable ≤ clock_of t.words.dur)
          (parts_shown callers) caller r.known.part st.clocks.learnt at in
          let image_is = (st.images image permitted).not_before in
          let on = k.made.goes_on.durable in
          omega (arith, learnt, image_is, on)

      past : k.begun.known.part.newest + 2 ≤ k.begun.known.part.durable
      past = by k.ready.knows.settled
        where
          by : (k.begun.known.part.newest + 2 ≤ k.begun.known.part.durable)
              ⊎ ((k.begun.known.part.durable ≡ LAST)
              ⊎ ((unit : ℕ) × (has_mark k.begun.known.part.marks (record { unit = unit; by = None }) ≡ true)))
              → k.begun.known.part.newest + 2 ≤ k.begun.known.part.durable
          by (inl two) = two
          by (inr (inl last)) = absurd (let d = durable in omega (arith, last, below, d))
          by (inr (inr (unit, marked))) =
              absurd (unmarked caller r.known.part (record { unit = unit; by = None }) at
              (k.made.goes_on.marks (record { unit = unit; by = None }) marked))

      within_cut : All (λ (x : Receipt). x.entry.epoch ≤ cut_of image) opening
      within_cut =
          all_weaker (λ (x : Receipt). x.entry.epoch ≤ k.begun.known.part.newest) (λ (x : Receipt). x.entry.epoch ≤ cut_of image)
          (λ x l. let d = durable in let p = past in omega (arith, p, l, d)) opening k.ready.knows.epochs

      come_after : ComeAfter opening (all_given k.made.ends)
      come_after =
          all_weaker (ComesOnceDurable k.begun.known) (λ (y : Receipt). All (λ (x : Receipt). x.entry.epoch + 2 ≤ y.entry.epoch) opening)
          (λ y once.
          all_weaker (λ (x : Receipt). x.entry.epoch ≤ k.begun.known.part.newest) (λ (x : Receipt). x.entry.epoch + 2 ≤ y.entry.epoch)
          (λ x l. let p = past in omega (arith, p, l, once)) opening k.ready.knows.epochs) (all_given k.made.ends) k.made.durable

    abbrev After : List End → Type 0
    After of_caller = ComeAfter opening (all_given of_caller)

    pub after : All After ends
    after =
        let ea = (sh.each 0 a refl).made.ends in
        let eb = (sh.each 1 b refl).made.ends in
        let ec = (sh.each 2 c refl).made.ends in
        let ed = (sh.each 3 d refl).made.ends in
        All-cons After ea (eb ∷ ec ∷ ed ∷ []) (come_after 0 a refl (sh.each 0 a refl))
        (All-cons After eb (ec ∷ ed ∷ []) (come_after 1 b refl (sh.each 1 b refl))
        (All-cons After ec (ed ∷ []) (come_after 2 c refl (sh.each 2 c refl))
        (All-cons After ed [] (come_after 3 d refl (sh.each 3 d refl)) (All-nil After))))

    pub transfers : AreTransfers number_spelled (cut_of image) (receipts_in callers) opening (pairs_of all_ends) []
    transfers = record {
      parts =
          subst (IsPermutation ((opening ++ flat_map both_of (pairs_of all_ends)) ++ [])) (sym receipts_are)
          (subst (λ (rs : List Receipt). IsPermutation rs (opening ++ all_given all_ends))
          (sym (append-nil (opening ++ flat_map both_of (pairs_of all_ends))))
          (IsPermutation-append opening opening (flat_map both_of (pairs_of all_ends)) (all_given all_ends) (IsPermutation-refl opening)
          (pairs_given all_ends)));
      within = within_cut 0 a refl (sh.each 0 a refl);
      transferred =
          all_pairs_append (IsTransfer number_spelled) (sh.each 0 a refl).made.ends
          ((sh.each 1 b refl).made.ends ++ ((sh.each 2 c refl).made.ends ++ (sh.each 3 d refl).made.ends)) (moves 0 a (sh.each 0 a refl))
          (all_pairs_append (IsTransfer number_spelled) (sh.each 1 b refl).made.ends
          ((sh.each 2 c refl).made.ends ++ (sh.each 3 d refl).made.ends) (moves 1 b (sh.each 1 b refl))
          (all_pairs_append (IsTransfer number_spelled) (sh.each 2 c refl).made.ends (sh.each 3 d refl).made.ends (moves 2 c
          (sh.each 2 c refl)) (moves 3 d (sh.each 3 d refl))));
      still = All-nil (IsNoMatter number_spelled (cut_of image));
    }
