-- How often places are named, counted outcome by outcome.
use Rattle.std.proofs.Common.{◌≡◌, ℕ, ◌+◌, ◌<◌, Bool, List, [], ◌∷◌, length, get_or, take, count_by, ap, ◌∙◌, arith}
use Rattle.std.specs.Prelude.{◌↔◌, All, IsTrue, Some, slice_get, slice_index, if◌then◌else◌}
use Rattle.std.proofs.lemmas.List.{get_or_default}
use Rattle.std.proofs.lemmas.List.Sums.{sum_by_more}
use Rattle.mont_base.specs.declared.operation.Entry.{Entry}
use Rattle.job_text.specs.declared.outcome.Outcome.{Outcome}
use Rattle.job_text.specs.Faithful.{AllNamedAt}
use Rattle.job_text.specs.Outcomes.{names_entry}
use Rattle.job_text.specs.Report.{Report}
use Rattle.mont_check.specs.Names.{CountsNames, TellsNames}
use Rattle.mont_check.proofs.Entries.{entry_there, entry_within}

count_more :
    {A : Type 0} (p : A → Bool) (xs : List A) (i : ℕ) (x : A) → i < length xs → x ≡ get_or xs i x
    → count_by p (take (i + 1) xs) ≡ count_by p (take i xs) + count_by p (x ∷ [])
count_more {A} p xs i x within is =
    let more : count_by p (take (i + 1) xs) ≡ count_by p (take i xs) + (if p (get_or xs i x) then 1 else 0) =
    sum_by_more (λ y. if p y then 1 else 0) xs i x within in
    let one = ap (λ y. count_by p (y ∷ [])) is in
    omega arith

-- one outcome more
pub counts_more :
    (unit : ℕ) (os : List Outcome) (i : ℕ) (o : Outcome) (a b c : List ℕ) → i < length os → o ≡ get_or os i o
    → CountsNames unit (take i os) a b → CountsNames unit (o ∷ []) b c → CountsNames unit (take (i + 1) os) a c
counts_more unit os i o a b c within is before one = record {
  as_many = one.as_many ∙ before.as_many;
  each = λ place low.
      let m = before.each place low in
      let n = one.each place (omega (arith, before.as_many)) in
      let more : count_by (names_entry unit place) (take (i + 1) os)
      ≡ count_by (names_entry unit place) (take i os) + count_by (names_entry unit place) (o ∷ []) =
      count_more (names_entry unit place) os i o within is in
      omega arith;
}

-- the outcomes of one caller more
pub tells_more :
    (outcomes : List (List Outcome)) (unit places i : ℕ) (os : List Outcome) (a b : List ℕ) → i < length outcomes
    → os ≡ get_or outcomes i os
    → TellsNames (take i outcomes) unit places a → CountsNames unit os a b → TellsNames (take (i + 1) outcomes) unit places b
tells_more outcomes unit places i os a b within is before one = record {
  as_many = one.as_many ∙ before.as_many;
  each = λ place low.
      let m = before.each place low in
      let n = one.each place (omega (arith, before.as_many)) in
      let more = sum_by_more (λ (ps : List Outcome). count_by (names_entry unit place) ps) outcomes i os within in
      let here = ap (λ (ps : List Outcome). count_by (names_entry unit place) ps) is in
      omega arith;
}

-- each entry is named once where each count is 1
pub named_where_one :
    (r : Report) (unit : ℕ) (h : List Entry) (times : List ℕ) (b : Bool) → slice_get r.histories unit ≡ Some h
    → TellsNames r.outcomes unit (length h) times → (IsTrue b ↔ All (λ (n : ℕ). n ≡ 1) times) → IsTrue b ↔ AllNamedAt r unit
named_where_one r unit h times b known tells says = (
  λ yes place e there.
      let within = entry_within r.histories unit place h e known there in
      let one : slice_index times place ≡ 1 = says.0 yes place 0 (omega (arith, tells.as_many)) in
      let told = tells.each place within in
      omega arith,
  λ named. says.1
      (λ place d low.
      let within : place < length h = omega (arith, tells.as_many) in
      let here = entry_there r.histories unit place h known within in
      let once = named place here.0 here.1 in
      let told = tells.each place within in
      let same : get_or times place d ≡ slice_index times place = get_or_default times place d 0 low in
      omega arith),
)
