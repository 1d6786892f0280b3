-- The lines of a report as parts of one line: each has a value and few words, and spells one value.
use Rattle.std.proofs.Common.{◌≡◌, ℕ, List, [], ◌∷◌, refl, arith, lit<, lit≤, decimal}
use Rattle.std.proofs.lemmas.Fmt.{decimal_injective}
use Rattle.mont_base.specs.declared.kinds.UnitKind.TheVariants as kinds
use Rattle.mont_base.specs.Layout.{shape, letters_of}
use Rattle.mont_base.specs.State.{Key, Value, Ends}
use Rattle.job_text.specs.Spelling.{text_word, pair_words}
use Rattle.job_text.specs.Operations.{IsNumber}
use Rattle.job_text.specs.ReportText.{item_words, vertex_words, edge_words}
use Rattle.job_text.specs.ReportRanges.{IsPair, IsVertex, IsEdge}
use Rattle.job_text.specs.ReportRows.{IsTitle, title_words, clock_words, count_words, graph_counts, end_words}
use Rattle.job_text.proofs.ReadLines.{IsLinePart}
use Rattle.job_text.proofs.TextWords.{text_word_once}
use Rattle.job_text.proofs.Once.{letters_once}

nought : IsNumber 0
nought = lit< tt

-- the numbers of one word are one
same_number : (m n : ℕ) → IsNumber m → IsNumber n → decimal m ≡ decimal n → m ≡ n
same_number m n small few e = decimal_injective m n small few e

pub title_part : IsLinePart IsTitle title_words
title_part = record {
  value = (shape (kinds.Map ∷ []) 8, 1);
  is = (record { kinds = record { some = lit≤ tt; few = lit≤ tt }; some_slots = lit≤ tt; few_slots = lit≤ tt }, lit≤ tt, lit≤ tt);
  short = λ p is. lit≤ tt;
  once = λ p q is are e.
      let letters : letters_of p.0.kinds ≡ letters_of q.0.kinds = cc in
      let slots : decimal p.0.slots ≡ decimal q.0.slots = cc in
      let callers : decimal p.1 ≡ decimal q.1 = cc in
      let few = is.0.few_slots in
      let many = are.0.few_slots in
      let some = is.2 in
      let more = are.2 in
      let same_kinds : p.0.kinds ≡ q.0.kinds = letters_once p.0.kinds q.0.kinds letters in
      let same_slots : p.0.slots ≡ q.0.slots = same_number p.0.slots q.0.slots (omega arith) (omega arith) slots in
      let same_callers : p.1 ≡ q.1 = same_number p.1 q.1 (omega arith) (omega arith) callers in
      λ i. (shape (same_kinds i) (same_slots i), same_callers i);
}

pub clock_part : (word : List ℕ) → IsLinePart IsNumber (clock_words word)
clock_part word = record {
  value = 0;
  is = nought;
  short = λ n is. lit≤ tt;
  once = λ m n is are e. same_number m n is are (let same : decimal m ≡ decimal n = cc in same);
}

pub count_part : (word : List ℕ) (place : ℕ) → IsLinePart IsNumber (count_words word place)
count_part word place = record {
  value = 0;
  is = nought;
  short = λ n is. lit≤ tt;
  once = λ m n is are e. same_number m n is are (let same : decimal m ≡ decimal n = cc in same);
}

pub graph_part : (unit : ℕ) → IsLinePart IsVertex (graph_counts unit)
graph_part unit = record {
  value = (0, 0);
  is = (nought, nought);
  short = λ p is. lit≤ tt;
  once = λ p q is are e.
      let first = same_number p.0 q.0 is.0 are.0 (let same : decimal p.0 ≡ decimal q.0 = cc in same) in
      let second = same_number p.1 q.1 is.1 are.1 (let same : decimal p.1 ≡ decimal q.1 = cc in same) in
      λ i. (first i, second i);
}

pub end_part : IsLinePart (λ _. Unit {0}) end_words
end_part = record {
  value = tt;
  is = tt;
  short = λ x is. lit≤ tt;
  once = λ x y is are e. refl;
}

pub item_part : IsLinePart IsNumber item_words
item_part = record {
  value = 0;
  is = nought;
  short = λ n is. lit≤ tt;
  once = λ m n is are e. same_number m n is are (let same : decimal m ≡ decimal n = cc in same);
}

-- ---- pairs, vertices and edges, each spelled once
pub pair_once : (p q : Key × Value) → IsPair p → IsPair q → pair_words p ≡ pair_words q → p ≡ q
pair_once p q is are e =
    let key = text_word_once p.0 q.0 is.0 are.0 (let same : text_word p.0 ≡ text_word q.0 = cc in same) in
    let value = text_word_once p.1 q.1 is.1 are.1 (let same : text_word p.1 ≡ text_word q.1 = cc in same) in
    λ i. (key i, value i)

pub vertex_once : (p q : ℕ × ℕ) → IsVertex p → IsVertex q → vertex_words p ≡ vertex_words q → p ≡ q
vertex_once p q is are e =
    let first = same_number p.0 q.0 is.0 are.0 (let same : decimal p.0 ≡ decimal q.0 = cc in same) in
    let second = same_number p.1 q.1 is.1 are.1 (let same : decimal p.1 ≡ decimal q.1 = cc in same) in
    λ i. (first i, second i)

pub edge_once : (p q : Ends × ℕ) → IsEdge p → IsEdge q → edge_words p ≡ edge_words q → p ≡ q
edge_once p q is are e =
    let first = same_number p.0.0 q.0.0 is.0 are.0 (let same : decimal p.0.0 ≡ decimal q.0.0 = cc in same) in
    let second = same_number p.0.1 q.0.1 is.1 are.1 (let same : decimal p.0.1 ≡ decimal q.0.1 = cc in same) in
    let third = same_number p.1 q.1 is.2 are.2 (let same : decimal p.1 ≡ decimal q.1 = cc in same) in
    λ i. ((first i, second i), third i)
