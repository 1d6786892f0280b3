-- The ranks of keys of maps and of ends of edges, and the lines of pairs, vertices and edges as parts.
use Rattle.std.proofs.Common.{◌≡◌, ◌≢◌, ℕ, ◌-◌, ◌/◌, ◌%◌, ◌^◌, ◌<◌, ◌≤◌, true, false, Bool, IsTrue, IfSome, ◌↔◌, Option, Some, None, List, [], refl, sym, ap, ◌∙◌, subst, arith, lit<, lit≤}
use Rattle.std.specs.declared.cmp.Ordering.{Ordering}
use Rattle.std.specs.declared.cmp.Ordering.TheVariants.{Less, Equal, Greater}
use Rattle.std.specs.Ordering.{nat_cmp, ordering_then, is_lt}
use Rattle.std.specs.Cmp.{ranked, IsTotalOrder}
use Rattle.std.specs.FinMap.{nat_cmp-IsAntisymmetric, slice_cmp-IsAntisymmetric}
use Rattle.std.proofs.lemmas.Cmp.{nat_list_cmp_total, nat_cmp_total, then_total, on_total}
use Rattle.std.proofs.lemmas.Map.Lookups.{exact_pairs, exact_unsigned}
use Rattle.std.proofs.lemmas.List.Elements.{All-nil}
use Rattle.mont_base.specs.declared.constants.TheConstants.{TEXT_BYTES}
use Rattle.mont_base.specs.State.{Key, Value, Ends, edge_cmp}
use Rattle.mont_base.specs.Texts.{IsText, text_cmp}
use Rattle.job_text.specs.Operations.{IsNumber}
use Rattle.job_text.specs.Ranks.{texts_of, texts_behind, numbers_behind, edges_behind, IsNext}
use Rattle.job_text.specs.Spelling.{pair_words}
use Rattle.job_text.specs.ReportText.{vertex_words, edge_words}
use Rattle.job_text.specs.ReportRanges.{IsPair, IsVertex, IsEdge}
use Rattle.job_text.specs.ReportRows.{pair_behind, vertex_behind, edge_behind, all_pairs, all_vertices, all_edges, behind_last, MayFollow}
use Rattle.job_text.proofs.Ranked.{IsRank, behind_low, text_falls, text_at, rank_of, number_rank, less_is}
use Rattle.job_text.proofs.ReadLines.{IsLinePart}
use Rattle.job_text.proofs.RowParts.{pair_once, vertex_once, edge_once}

pub text_rank : IsRank text_cmp IsText (texts_behind TEXT_BYTES) all_pairs
text_rank = rank_of text_cmp IsText (texts_behind TEXT_BYTES) all_pairs nat_list_cmp_total
    (λ j k e. slice_cmp-IsAntisymmetric nat_cmp-IsAntisymmetric j k e) (λ t is. behind_low TEXT_BYTES t is.short is.bytes)
    (λ s t is are less. text_falls TEXT_BYTES s t is.short are.short is.bytes are.bytes less)
    (λ n low. let t = text_at TEXT_BYTES n low in (t.0, record { short = t.1; bytes = t.2 }, t.3))

abbrev pub IsEnds : Ends → Type 0
IsEnds e = IsNumber e.0 × IsNumber e.1

edges_fall : (d e : Ends) → IsEnds d → IsEnds e → edge_cmp d e ≡ Less → edges_behind e < edges_behind d
edges_fall d e is are less = by_first (nat_cmp d.0 e.0) refl less
  where
    by_first : (o : Ordering) → nat_cmp d.0 e.0 ≡ o → ordering_then o (nat_cmp d.1 e.1) ≡ Less → edges_behind e < edges_behind d
    by_first Less first h =
        let below = less_is d.0 e.0 first in
        let one = is.0 in
        let two = is.1 in
        let three = are.0 in
        let four = are.1 in
        omega arith
    by_first Equal first h =
        let same : d.0 ≡ e.0 = ranked d.0 e.0 Equal (sym first) in
        let below = less_is d.1 e.1 h in
        let two = is.1 in
        let four = are.1 in
        omega arith
    by_first Greater first h = absurd (cc)

pub edges_total : IsTotalOrder edge_cmp
edges_total = then_total (on_total (λ (e : Ends). e.0) nat_cmp_total) (on_total (λ (e : Ends). e.1) nat_cmp_total)

pub edge_rank : IsRank edge_cmp IsEnds edges_behind all_edges
edge_rank = rank_of edge_cmp IsEnds edges_behind all_edges edges_total
    (exact_pairs _ _ exact_unsigned exact_unsigned)
    (λ e is. let one = is.0 in let two = is.1 in omega arith)
    edges_fall
    (λ n low. ((2 ^ 64 - 1 - n / 2 ^ 64, 2 ^ 64 - 1 - n % 2 ^ 64), (omega arith, omega arith), omega arith))

-- ---- a value for each rank
pub some_pair : (n : ℕ) → n < all_pairs → (p : Key × Value) × IsPair p × (pair_behind p ≡ n)
some_pair n low =
    let t = text_rank.each n low in
    ((t.0, []), (t.1, record { short = lit≤ tt; bytes = All-nil (λ b. b < 256) }), t.2)

pub some_vertex : (n : ℕ) → n < all_vertices → (v : ℕ × ℕ) × IsVertex v × (vertex_behind v ≡ n)
some_vertex n low = let t = number_rank.each n low in ((t.0, 0), (t.1, lit< tt), t.2)

pub some_edge : (n : ℕ) → n < all_edges → (e : Ends × ℕ) × IsEdge e × (edge_behind e ≡ n)
some_edge n low = let t = edge_rank.each n low in ((t.0, 0), (t.1.0, t.1.1, lit< tt), t.2)

-- there are more of each than a count can tell
pub many_pairs : 2 ^ 64 ≤ all_pairs
unfolding texts_of
many_pairs = lit≤ tt

-- ---- the lines of a next item
module _ {X : Type 0} (Is : X → Type 0) (behind : X → ℕ) (all limit left : ℕ) (room : left < limit) (low : limit ≤ all)
    (each : (n : ℕ) → n < all → (x : X) × Is x × (behind x ≡ n)) where
  pub next_value : (x : X) × IsNext Is behind limit left x
  next_value =
      let found = each (limit - 1) (omega arith) in
      (found.0, record { is = found.1; below = omega (arith, found.2); enough = omega (arith, found.2) })

pub pair_part : (limit left : ℕ) → left < limit → limit ≤ all_pairs → IsLinePart (IsNext IsPair pair_behind limit left) pair_words
pair_part limit left room low =
    let value = next_value IsPair pair_behind all_pairs limit left room low some_pair in
    record { value = value.0; is = value.1; short = λ p is. lit≤ tt; once = λ p q is are e. pair_once p q is.is are.is e }

pub vertex_part : (limit left : ℕ) → left < limit → limit ≤ all_vertices
    → IsLinePart (IsNext IsVertex vertex_behind limit left) vertex_words
vertex_part limit left room low =
    let value = next_value IsVertex vertex_behind all_vertices limit left room low some_vertex in
    record { value = value.0; is = value.1; short = λ p is. lit≤ tt; once = λ p q is are e. vertex_once p q is.is are.is e }

pub edge_part : (limit left : ℕ) → left < limit → limit ≤ all_edges → IsLinePart (IsNext IsEdge edge_behind limit left) edge_words
edge_part limit left room low =
    let value = next_value IsEdge edge_behind all_edges limit left room low some_edge in
    record { value = value.0; is = value.1; short = λ p is. lit≤ tt; once = λ p q is are e. edge_once p q is.is are.is e }

-- ---- what stands after the last key
pub pairs_left : (last : Option Key) → IfSome last IsText → behind_last (texts_behind TEXT_BYTES) all_pairs last ≤ all_pairs
pairs_left None is = omega arith
pairs_left (Some k) is = let low = text_rank.low k is in omega arith

pub vertices_left : (last : Option ℕ) → behind_last numbers_behind all_vertices last ≤ all_vertices
vertices_left None = omega arith
vertices_left (Some k) = omega arith

pub edges_left : (last : Option Ends) → behind_last edges_behind all_edges last ≤ all_edges
edges_left None = omega arith
edges_left (Some k) = omega arith

-- ---- what may follow
module _ {X K : Type 0} (Is : X → Type 0) (row : X → List (List ℕ)) (once : (x y : X) → Is x → Is y → row x ≡ row y
    → x ≡ y) (key : X → K)
    (behind : K → ℕ) (limit left : ℕ) (ws : List (List ℕ)) (x : X) (b : Bool) (is : Is x) (spelled : ws ≡ row x) where
  pub none_follows : b ≡ false → (MayFollow behind limit left (key x) → IsTrue b) → (y : X)
      → IsNext Is (λ z. behind (key z)) limit left y
      → ws ≢ row y
  none_follows fails may y next e =
      let same : y ≡ x = once y x next.is is (sym e ∙ spelled) in
      let follows = may (subst (λ (z : X). MayFollow behind limit left (key z)) same (next.below, next.enough)) in
      absurd (cc)

  pub it_follows : b ≡ true → (IsTrue b → MayFollow behind limit left (key x))
      → IsNext Is (λ z. behind (key z)) limit left x × (ws ≡ row x)
  it_follows holds may =
      let follows = may holds in
      (record { is = is; below = follows.0; enough = follows.1 }, spelled)

-- keys in order, by what stands after them
pub text_below : (last : Option Key) (k key : Key) (b : Bool) → last ≡ Some k → IfSome last IsText → IsText key
    → b ≡ is_lt (text_cmp k key)
    → IsTrue b ↔ (texts_behind TEXT_BYTES key < behind_last (texts_behind TEXT_BYTES) all_pairs last)
text_below None k key b at is are test = absurd (cc)
text_below (Some j) k key b at is are test =
    let same : j ≡ k = cc in (
      λ holds. text_rank.falls j key is are (less_from (text_cmp j key) (ap (λ (t : Key). is_lt (text_cmp t key)) same ∙ sym test
          ∙ holds)),
      λ low. test ∙ ap (λ (t : Key). is_lt (text_cmp t key)) (sym same) ∙ ap is_lt (text_rank.rises j key is are low),
    )
  where
    less_from : (o : Ordering) → is_lt o ≡ true → o ≡ Less
    less_from Less e = refl
    less_from Equal e = absurd (cc)
    less_from Greater e = absurd (cc)

pub first_below : (last : Option Key) (key : Key) → last ≡ None → IsText key
    → IsTrue true ↔ (texts_behind TEXT_BYTES key < behind_last (texts_behind TEXT_BYTES) all_pairs last)
first_below None key at are = (λ t. text_rank.low key are, λ low. refl)
first_below (Some k) key at are = absurd (cc)
