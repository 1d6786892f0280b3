-- The records of an answered call are those that its changes wrote.
use Rattle.std.proofs.Common.{◌≡◌, ℕ, List, [], ◌∷◌, ◌++◌, length, take, drop, length-append, refl, sym, ap, ◌∙◌, subst, arith}
use Rattle.std.specs.Prelude.{Option}
use Rattle.std.proofs.Math.Seq.{take-append_seam, drop-append_seam}
use Rattle.std.proofs.lemmas.Slice.Zip.{AllZip-long}
use Rattle.mont_base.specs.declared.operation.Op.{Op}
use Rattle.mont_base.specs.declared.operation.Receipt.{Receipt}
use Rattle.mont_base.specs.declared.operation.Reply.{Reply}
use Rattle.mont_base.specs.declared.record.Change.{Change}
use Rattle.mont_base.specs.declared.record.Held.{Held}
use Rattle.mont_base.specs.Layout.{Shape}
use Rattle.mont_base.specs.State.{State, step}
use Rattle.mont_laws.specs.Effects.{IsEffect, AreEffects}
use Rattle.mont_laws.specs.Structures.{HasStructure}
use Rattle.mont_laws.proofs.Shown.{one_state}
use Rattle.heap.specs.HeapShown.{HeapShown, CallerShown}
use Rattle.slots.specs.Books.{RegionShown}
use Rattle.slots.specs.WrittenRecords.{identity_after}
use Rattle.structure_call.specs.Calling.{HasAnsweredCall}
use Rattle.structure_call.specs.Carrying.{HasCarried, records_by}
use Rattle.structure_call.specs.Planning.{IsPlan, Makes}

-- two lists that end in as many elements
same_ends : (xs ys us vs : List Held) → xs ++ us ≡ ys ++ vs → length us ≡ length vs → (xs ≡ ys) × (us ≡ vs)
same_ends xs ys us vs same long =
    let left = length-append xs us in
    let right = length-append ys vs in
    let all : length (xs ++ us) ≡ length (ys ++ vs) = ap length same in
    let first : length xs ≡ length ys = omega arith in (
      sym (take-append_seam xs us) ∙ (λ i. take (first i) (same i)) ∙ take-append_seam ys vs,
      sym (drop-append_seam xs us) ∙ (λ i. drop (first i) (same i)) ∙ drop-append_seam ys vs,
    )

-- one for each change
as_many : (unit next : ℕ) (kept : List Held) (epoch : ℕ) (cs : List Change) (slots : List ℕ) → length slots ≡ length cs
    → length (records_by unit next kept epoch cs slots) ≡ length cs
as_many unit next kept epoch [] slots each = refl
as_many unit next kept epoch (c ∷ cs) [] each = absurd (omega arith)
as_many unit next kept epoch (c ∷ cs) (slot ∷ slots) each =
    let more = as_many unit (identity_after next c) kept epoch cs slots (omega arith) in omega arith

module _ (heap : HeapShown) (old new : RegionShown) (q r : CallerShown) (op : Op) (reply : Reply) (changes : List Change)
    (receipt : Receipt) (last : Option ℕ) (layout : old.books.layout ≡ heap.opening.layout) (plan : IsPlan old op reply changes)
    (a : HasAnsweredCall heap old new q r op receipt) (k : HasCarried old new changes receipt last) where
  -- the state on which the operation was judged is the one on which it was planned
  pub same_state : a.judged.state ≡ plan.state
  same_state =
      one_state heap.opening.layout old.books.unit old.seat.known.part.records a.judged.state plan.state a.judged.shown
      (subst (λ (s : Shape). HasStructure s old.books.unit old.seat.known.part.records plan.state) layout plan.shown)

  abbrev pub written : List Held
  written = records_by old.books.unit old.books.identity k.kept receipt.entry.epoch changes k.slots

  pub same_records : (a.wrote.kept ≡ k.kept) × (a.wrote.written ≡ written)
  same_records =
      let effects = AllZip-long (IsEffect old.books.unit a.wrote.kept) (step a.judged.state op).effects a.wrote.written
      a.wrote.are_effects in
      let asked : length (step a.judged.state op).effects ≡ length (step plan.state op).effects =
      ap (λ (s : State). length (step s op).effects) same_state in
      let made = AllZip-long (Makes old.books old.seat.known.part.records) (step plan.state op).effects changes plan.makes in
      let many = as_many old.books.unit old.books.identity k.kept receipt.entry.epoch changes k.slots k.each in
      same_ends a.wrote.kept k.kept a.wrote.written written (sym a.wrote.records_are ∙ k.records_are) (omega arith)

  -- so they are the effects
  pub carried_effects : AreEffects old.books.unit k.kept (step plan.state op).effects written
  carried_effects =
      subst (λ (x : List Held × State × List Held). AreEffects old.books.unit x.0 (step x.1 op).effects x.2)
      (λ i. (same_records.0 i, same_state i, same_records.1 i)) a.wrote.are_effects
