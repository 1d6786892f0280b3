-- The callers of a core in which nothing was answered yet.
use Rattle.std.proofs.Common.{◌≡◌, ℕ, ◌+◌, ◌<◌, ◌≤◌, List, [], length, take, replicate, sym, refl, ap, ◌∙◌, subst, arith}
use Rattle.std.specs.Prelude.{slice_get, Option, Some, None, All}
use Rattle.std.proofs.lemmas.List.{length-replicate}
use Rattle.std.proofs.lemmas.List.Elements.{All-nil}
use Rattle.mont_base.specs.declared.operation.Entry.{Entry}
use Rattle.mont_base.specs.Seen.{FrontFits, FitsHistories}
use Rattle.core_steps.specs.declared.parts.UnitPart.{UnitPart}
use Rattle.core_steps.specs.CallerClauses.{view_of, IsBehind, IsSynced, CallerFits, IsCut, CallersFit}
use Rattle.core_steps.specs.Fresh.{fresh_unit, fresh_caller}
use Rattle.core_steps.specs.Notes.{IsTrueMark, histories_of, cuts_of}
use Rattle.core_steps.specs.Places.{EachAt}
use Rattle.core_steps.proofs.Rows.{row_copy}
use Rattle.core_steps.proofs.RowFacts.{row_of_map}
use Rattle.core_steps.proofs.CallerFrames.{histories_length}

module _ (histories : List (List Entry)) (cuts : List (Option ℕ)) (now units : ℕ) (size : length histories ≡ units) where
  -- a caller that has seen nothing
  nothing_seen : FitsHistories histories (view_of (fresh_caller units))
  nothing_seen = record {
    units = length-replicate units 0 ∙ sym size;
    each = λ u front h at is.
        subst (λ (n : ℕ). FrontFits 0 n h) (row_copy units u 0 front at).0
        (record { there = omega arith; epochs = All-nil (λ (e : Entry). e.epoch ≤ 0) });
  }

  -- and knows nothing to be durable
  nothing_synced : IsSynced histories (fresh_caller units)
  nothing_synced = record {
    units = length-replicate units 0 ∙ sym size;
    seen = λ u n m at is. let none = (row_copy units u 0 n at).0 in omega arith;
    durable = λ u n h at is.
        subst (λ (n : ℕ). All (λ (e : Entry). e.epoch + 2 ≤ 0) (take n h)) (row_copy units u 0 n at).0
        (All-nil (λ (e : Entry). e.epoch + 2 ≤ 0));
  }

  -- a caller that made no call
  starts : (k : ℕ) → CallerFits histories cuts now k (fresh_caller units)
  starts k = record {
    calls = refl;
    receipts = λ i r e. absurd (cc);
    order = λ i j d l w. absurd (omega arith);
    behind = All-nil (IsBehind (fresh_caller units));
    seen = nothing_seen;
    reached = omega arith;
    synced = nothing_synced;
    cut_in = All-nil (λ (u : ℕ). u < length histories);
    marks = All-nil (IsTrueMark cuts);
  }

-- Callers that made no call fit units that answered none and in which none was cut.
pub callers_start :
    (now n : ℕ) (units : List UnitPart) → EachAt (λ u p. p.history ≡ []) units → EachAt (λ u p. p.frozen ≡ None) units
    → CallersFit (histories_of units) (cuts_of units) now (replicate n (fresh_caller (length units))) []
callers_start now n units empty uncut = record {
  each = λ k q e.
      subst (CallerFits (histories_of units) (cuts_of units) now k) (row_copy n k (fresh_caller (length units)) q e).0
      (starts (histories_of units) (cuts_of units) now (length units) (histories_length units) k);
  named = λ u place e i.
      let p = row_of_map (λ (p : UnitPart). p.history) units u i.0 i.1 in
      let none : None ≡ Some e = ap (λ (h : List Entry). slice_get h place) (sym (empty u p.0 p.1) ∙ p.2) ∙ i.2 in
      absurd (cc);
  cut = λ u k e.
      let p = row_of_map (λ (p : UnitPart). p.frozen) units u (Some k) e in
      let none : None ≡ Some k = sym (uncut u p.0 p.1) ∙ p.2 in
      absurd (cc);
  loaded_odd = All-nil (IsCut (cuts_of units));
}

-- those of a core that was never used
pub callers_fresh : (now n m : ℕ)
    → CallersFit (histories_of (replicate m fresh_unit)) (cuts_of (replicate m fresh_unit)) now (replicate n (fresh_caller m)) []
callers_fresh now n m =
    let same : length (replicate m fresh_unit) ≡ m = length-replicate m fresh_unit in
    subst (λ (x : ℕ). CallersFit (histories_of (replicate m fresh_unit)) (cuts_of (replicate m fresh_unit)) now
    (replicate n (fresh_caller x)) []) same
    (callers_start now n (replicate m fresh_unit)
    (λ u p e. ap (λ (q : UnitPart). q.history) (sym (row_copy m u fresh_unit p e).0))
    (λ u p e. ap (λ (q : UnitPart). q.frozen) (sym (row_copy m u fresh_unit p e).0)))
