-- The contents of units as parts of a report's text.
use Rattle.std.proofs.Common.{◌≡◌, ℕ, suc, zero, ◌<◌, ◌≤◌, Option, Some, None, List, [], ◌∷◌, ◌++◌, length, map, codes, slice_get, get_or, refl, sym, ap, ◌∙◌, subst, arith, lit<}
use Rattle.std.specs.Ordering.{nat_cmp}
use Rattle.std.specs.FinMap.{entries, len-entries, same_entries_map}
use Rattle.std.proofs.lemmas.Cmp.{nat_list_cmp_total, nat_cmp_total}
use Rattle.mont_base.specs.declared.constants.TheConstants.{TEXT_BYTES}
use Rattle.mont_base.specs.declared.kinds.UnitKind.{UnitKind}
use Rattle.mont_base.specs.declared.kinds.UnitKind.TheVariants as kinds
use Rattle.mont_base.specs.State.{State, MapOf, QueueOf, GraphOf, Graph, Pairs, Ends, edge_cmp}
use Rattle.mont_base.specs.Texts.{IsText, text_cmp}
use Rattle.job_text.specs.declared.report_refusal.ReportRefusal.{ReportRefusal}
use Rattle.job_text.specs.Operations.{IsNumber}
use Rattle.job_text.specs.TextParts.{Row, BothAre, both_rows}
use Rattle.job_text.specs.Ranks.{texts_behind, numbers_behind, edges_behind}
use Rattle.job_text.specs.Readings.{Unread, Reads, Refuses}
use Rattle.job_text.specs.Spelling.{pair_words}
use Rattle.job_text.specs.ReportText.{pairs_name, item_words, vertex_words, edge_words, state_lines, unit_lines, contents_lines}
use Rattle.job_text.specs.ReportRanges.{IsPair, IsVertex, IsEdge, IsStateOf, IsUnit, AreCounted, AreContents}
use Rattle.job_text.specs.ReportRows.{line_of_row, AllOf, AllRising, RowsOf, count_words, graph_counts, pair_behind, vertex_behind, edge_behind, all_pairs, all_vertices, all_edges}
use Rattle.job_text.proofs.Leaves.{IsOnce, both_once}
use Rattle.job_text.proofs.ReadLines.{line_once, reads_other, refuses_other, reads_both, refuses_first, refuses_second}
use Rattle.job_text.proofs.RowParts.{count_part, graph_part, item_part, pair_once, vertex_once, edge_once}
use Rattle.job_text.proofs.Ranked.{number_rank}
use Rattle.job_text.proofs.KeyRanks.{text_rank, edge_rank, edges_total, IsEnds, some_pair, some_vertex, some_edge, many_pairs}
use Rattle.job_text.proofs.MapParts.{map_of, map_rises}
use Rattle.job_text.proofs.ListParts.{plain_rows, each_some, each_once, rising_some, rising_once, sized_once}

-- ---- items of queues
abbrev pub item_rows : ℕ → ℕ → List Row
item_rows place = line_of_row item_words

pub items_each_once : (k : ℕ) → IsOnce IsNumber (item_rows k)
items_each_once k = line_once IsNumber item_words item_part

pub some_item : (n place : ℕ) → place < n → (i : ℕ) × IsNumber i
some_item n place low = (item_part.value, item_part.is)

pub some_items : (n : ℕ) → IsNumber n → (is : List ℕ) × AllOf (λ (place : ℕ). IsNumber) n is
some_items n small = each_some (λ (place : ℕ). IsNumber) item_rows items_each_once n (some_item n)

items_once : (n : ℕ) → IsNumber n → IsOnce (AllOf (λ (place : ℕ). IsNumber) n) (RowsOf item_words)
items_once n small = each_once (λ (place : ℕ). IsNumber) item_rows items_each_once n (some_item n)

pub queue_is : (is : List ℕ) → IsNumber (length is) → AllOf (λ (place : ℕ). IsNumber) (length is) is → AreCounted IsNumber is
queue_is is count all = record { each = all.0; count = count }

pub queue_back : (is : List ℕ) → AreCounted IsNumber is → IsNumber (length is) × AllOf (λ (place : ℕ). IsNumber) (length is) is
queue_back is h = (h.count, (h.each, refl))

pub queue_rows : (unit : ℕ) (is : List ℕ) → state_lines None unit (QueueOf is)
    ≡ count_words (codes "queue") unit (length is) ∷ RowsOf item_words is
queue_rows unit is = ap (λ (rs : List Row). count_words (codes "queue") unit (length is) ∷ rs) (sym (plain_rows item_words 0 is))

queue_once : (unit : ℕ) → IsOnce (AreCounted IsNumber) (λ is. state_lines None unit (QueueOf is))
queue_once unit = sized_once (count_words (codes "queue") unit) (count_part (codes "queue") unit) (AllOf (λ (place : ℕ). IsNumber))
    (RowsOf item_words)
    length (λ n is h. h.1) (AreCounted IsNumber) (λ is. state_lines None unit (QueueOf is)) queue_is queue_back (queue_rows unit) items_once

-- ---- pairs of maps
abbrev pub PairsOf : ℕ → Pairs → Type 0
PairsOf n m = AllRising IsPair pair_behind all_pairs n (entries m)

abbrev pub pairs_rows : Pairs → List Row
pairs_rows m = RowsOf pair_words (entries m)

abbrev pub pairs_size : Pairs → ℕ
pairs_size m = length (entries m)

pub few_pairs : (n : ℕ) → IsNumber n → n ≤ all_pairs
few_pairs n small = omega (arith, many_pairs)

pub some_pairs : (n : ℕ) → IsNumber n → (m : Pairs) × PairsOf n m
some_pairs n small =
    let xs = rising_some IsPair pair_words pair_once pair_behind all_pairs n some_pair (few_pairs n small) in
    let m = map_of text_cmp IsText (texts_behind TEXT_BYTES) all_pairs text_rank nat_list_cmp_total IsPair
    (λ e is. is.0) pair_words pair_once some_pair
    n xs.0 xs.1 in
    (m.0, m.1)

pairs_once : (n : ℕ) → IsNumber n → IsOnce (PairsOf n) pairs_rows
pairs_once n small x y a b is are e =
    same_entries_map x y (rising_once IsPair pair_words pair_once pair_behind all_pairs n some_pair (entries x)
    (entries y) a b is are e)

pub map_is : (m : Pairs) → IsNumber (pairs_size m) → PairsOf (pairs_size m) m → AreCounted IsPair (entries m)
map_is m count all = record { each = all.0.each; count = count }

pub map_back : (m : Pairs) → AreCounted IsPair (entries m) → IsNumber (pairs_size m) × PairsOf (pairs_size m) m
map_back m is = (
  is.count,
  map_rises text_cmp IsText (texts_behind TEXT_BYTES) all_pairs text_rank nat_list_cmp_total IsPair (λ e h. h.0) pair_words
      pair_once some_pair m is.each,
)

pub map_rows : (kind : Option UnitKind) (unit : ℕ) (m : Pairs)
    → state_lines kind unit (MapOf m) ≡ count_words (pairs_name kind) unit (pairs_size m) ∷ pairs_rows m
map_rows kind unit m =
    ap (λ (n : ℕ). count_words (pairs_name kind) unit n ∷ map pair_words (entries m)) (len-entries m)
    ∙ ap (λ (rs : List Row). count_words (pairs_name kind) unit (pairs_size m) ∷ rs) (sym (plain_rows pair_words 0 (entries m)))

map_once : (kind : Option UnitKind) (unit : ℕ)
    → IsOnce (λ (m : Pairs). AreCounted IsPair (entries m)) (λ m. state_lines kind unit (MapOf m))
map_once kind unit = sized_once (count_words (pairs_name kind) unit) (count_part (pairs_name kind) unit) PairsOf pairs_rows pairs_size
    (λ n m is. is.1)
    (λ (m : Pairs). AreCounted IsPair (entries m)) (λ m. state_lines kind unit (MapOf m)) map_is map_back (map_rows kind unit) pairs_once

-- ---- vertices and edges of graphs
abbrev pub VerticesOf : ℕ × ℕ → List (ℕ × ℕ) → Type 0
VerticesOf p vs = AllRising IsVertex vertex_behind all_vertices p.0 vs

abbrev pub EdgesOf : (ℕ × ℕ) × List (ℕ × ℕ) → List (Ends × ℕ) → Type 0
EdgesOf p es = AllRising IsEdge edge_behind all_edges p.0.1 es

pub some_vertices : (p : ℕ × ℕ) → IsVertex p → (vs : List (ℕ × ℕ)) × VerticesOf p vs
some_vertices p is = rising_some IsVertex vertex_words vertex_once vertex_behind all_vertices p.0 some_vertex
    (let small = is.0 in omega arith)

pub some_edges : (p : ℕ × ℕ) → IsVertex p → (es : List (Ends × ℕ)) × AllRising IsEdge edge_behind all_edges p.1 es
some_edges p is = rising_some IsEdge edge_words edge_once edge_behind all_edges p.1 some_edge (let small = is.1 in omega arith)

module _ (unit : ℕ) where
  abbrev pub counts_rows : ℕ × ℕ → List Row
  counts_rows = line_of_row (graph_counts unit)

  abbrev pub CountsAndVertices : (ℕ × ℕ) × List (ℕ × ℕ) → Type 0
  CountsAndVertices = BothAre IsVertex VerticesOf

  abbrev pub counts_and_rows : (ℕ × ℕ) × List (ℕ × ℕ) → List Row
  counts_and_rows = both_rows counts_rows (λ p. RowsOf vertex_words)

  abbrev pub AllParts : ((ℕ × ℕ) × List (ℕ × ℕ)) × List (Ends × ℕ) → Type 0
  AllParts = BothAre CountsAndVertices EdgesOf

  abbrev pub parts_rows : ((ℕ × ℕ) × List (ℕ × ℕ)) × List (Ends × ℕ) → List Row
  parts_rows = both_rows counts_and_rows (λ p. RowsOf edge_words)

  abbrev pub IsGraph : Graph → Type 0
  IsGraph g = AreCounted IsVertex (entries g.vertices) × AreCounted IsEdge (entries g.edges)

  abbrev pub graph_rows : Graph → List Row
  graph_rows g = state_lines None unit (GraphOf g)

  pub counts_once : IsOnce IsVertex counts_rows
  counts_once = line_once IsVertex (graph_counts unit) (graph_part unit)

  pub vertices_once : IsOnce CountsAndVertices counts_and_rows
  vertices_once = both_once IsVertex counts_rows VerticesOf (λ p. RowsOf vertex_words) counts_once
      (λ p is. rising_once IsVertex vertex_words vertex_once vertex_behind all_vertices p.0 some_vertex)

  pub some_edges_behind : (p : (ℕ × ℕ) × List (ℕ × ℕ)) → CountsAndVertices p → (es : List (Ends × ℕ)) × EdgesOf p es
  some_edges_behind p is = some_edges p.0 is.0

  lines_are : (g : Graph) → graph_rows g ≡ graph_counts unit (length (entries g.vertices), length (entries g.edges))
      ∷ (RowsOf vertex_words (entries g.vertices) ++ RowsOf edge_words (entries g.edges))
  lines_are g = λ i. graph_counts unit (len-entries g.vertices i, len-entries g.edges i)
      ∷ (sym (plain_rows vertex_words 0 (entries g.vertices)) i ++ sym (plain_rows edge_words 0 (entries g.edges)) i)

  pub graph_of : (p : ((ℕ × ℕ) × List (ℕ × ℕ)) × List (Ends × ℕ)) → AllParts p → (g : Graph) × IsGraph g × (graph_rows g ≡ parts_rows p)
  graph_of p is =
      let vs = map_of nat_cmp IsNumber numbers_behind all_vertices number_rank nat_cmp_total IsVertex
      (λ e h. h.0) vertex_words vertex_once some_vertex
      p.0.0.0 p.0.1 is.0.1 in
      let es = map_of edge_cmp IsEnds edges_behind all_edges edge_rank edges_total IsEdge (λ e h.
      (h.0, h.1)) edge_words edge_once some_edge
      p.0.0.1 p.1 is.1 in
      let g : Graph = record { vertices = vs.0; edges = es.0 } in (
        g,
        (
          record { each = vs.1.0.each; count = subst IsNumber (sym vs.1.1) is.0.0.0 },
          record {
            each = es.1.0.each;
            count = subst
                IsNumber (sym es.1.1) is.0.0.1;
          },
        ),
        lines_are g ∙ (λ i. graph_counts unit (vs.1.1 i, es.1.1 i) ∷ (vs.2 i ++ es.2 i)),
      )

  pub parts_of_graph : (g : Graph) → IsGraph g → (p : ((ℕ × ℕ) × List (ℕ × ℕ)) × List (Ends × ℕ)) × AllParts p
      × (parts_rows p ≡ graph_rows g)
  parts_of_graph g is = (
    (((length (entries g.vertices), length (entries g.edges)), entries g.vertices), entries g.edges),
    (
      (
        (is.0.count, is.1.count),
        map_rises nat_cmp IsNumber numbers_behind all_vertices number_rank nat_cmp_total IsVertex
            (λ e h. h.0) vertex_words vertex_once some_vertex g.vertices
            is.0.each,
      ),
      map_rises edge_cmp IsEnds edges_behind all_edges edge_rank edges_total IsEdge (λ e h.
          (h.0, h.1)) edge_words edge_once some_edge g.edges is.1.each,
    ),
    sym (lines_are g),
  )

  graph_once : IsOnce IsGraph graph_rows
  unfolding parts_of_graph
  graph_once x y a b is are e =
      let p = parts_of_graph x is in
      let q = parts_of_graph y are in
      let same = both_once CountsAndVertices counts_and_rows EdgesOf (λ p. RowsOf edge_words) vertices_once
      (λ p is. rising_once IsEdge edge_words edge_once edge_behind all_edges p.0.1 some_edge) p.0 q.0 a b p.1 q.1
      (ap (λ (rs : List Row). rs ++ a) p.2 ∙ e ∙ ap (λ (rs : List Row). rs ++ b) (sym q.2)) in
      let vertices : x.vertices ≡ y.vertices = same_entries_map x.vertices y.vertices (ap (λ t. t.0.1) same) in
      let edges : x.edges ≡ y.edges = same_entries_map x.edges y.edges (ap (λ t. t.1) same) in
      λ i. record { vertices = vertices i; edges = edges i }

  -- ---- a unit
  pub state_back_map : (s : State) → IsStateOf kinds.Map s
      → (m : Pairs) × AreCounted IsPair (entries m)
      × (state_lines (Some kinds.Map) unit (MapOf m) ≡ state_lines (Some kinds.Map) unit s)
  state_back_map (MapOf m) is = (m, is, refl)
  state_back_map (QueueOf items) is = absurd is
  state_back_map (GraphOf g) is = absurd is

  pub state_back_ordered : (s : State) → IsStateOf kinds.Ordered s
      → (m : Pairs) × AreCounted IsPair (entries m)
      × (state_lines (Some kinds.Ordered) unit (MapOf m) ≡ state_lines (Some kinds.Ordered) unit s)
  state_back_ordered (MapOf m) is = (m, is, refl)
  state_back_ordered (QueueOf items) is = absurd is
  state_back_ordered (GraphOf g) is = absurd is

  pub state_back_queue : (s : State) → IsStateOf kinds.Queue s
      → (is : List ℕ) × AreCounted IsNumber is × (state_lines None unit (QueueOf is) ≡ state_lines (Some kinds.Queue) unit s)
  state_back_queue (MapOf m) is = absurd is
  state_back_queue (QueueOf items) is = (items, is, refl)
  state_back_queue (GraphOf g) is = absurd is

  pub state_back_graph : (s : State) → IsStateOf kinds.Graph s
      → (g : Graph) × IsGraph g × (state_lines None unit (GraphOf g) ≡ state_lines (Some kinds.Graph) unit s)
  state_back_graph (MapOf m) is = absurd is
  state_back_graph (QueueOf items) is = absurd is
  state_back_graph (GraphOf g) is = (g, is, refl)

  pub state_once : (kind : UnitKind) → IsOnce (IsStateOf kind) (state_lines (Some kind) unit)
  state_once kinds.Map (MapOf x) (MapOf y) a b is are e = ap MapOf (map_once (Some kinds.Map) unit x y a b is are e)
  state_once kinds.Map (MapOf x) (QueueOf y) a b is are e = absurd are
  state_once kinds.Map (MapOf x) (GraphOf y) a b is are e = absurd are
  state_once kinds.Map (QueueOf x) y a b is are e = absurd is
  state_once kinds.Map (GraphOf x) y a b is are e = absurd is
  state_once kinds.Ordered (MapOf x) (MapOf y) a b is are e = ap MapOf (map_once (Some kinds.Ordered) unit x y a b is are e)
  state_once kinds.Ordered (MapOf x) (QueueOf y) a b is are e = absurd are
  state_once kinds.Ordered (MapOf x) (GraphOf y) a b is are e = absurd are
  state_once kinds.Ordered (QueueOf x) y a b is are e = absurd is
  state_once kinds.Ordered (GraphOf x) y a b is are e = absurd is
  state_once kinds.Queue (QueueOf x) (QueueOf y) a b is are e = ap QueueOf (queue_once unit x y a b is are e)
  state_once kinds.Queue (QueueOf x) (MapOf y) a b is are e = absurd are
  state_once kinds.Queue (QueueOf x) (GraphOf y) a b is are e = absurd are
  state_once kinds.Queue (MapOf x) y a b is are e = absurd is
  state_once kinds.Queue (GraphOf x) y a b is are e = absurd is
  state_once kinds.Graph (GraphOf x) (GraphOf y) a b is are e = ap GraphOf (graph_once x y a b is are e)
  state_once kinds.Graph (GraphOf x) (MapOf y) a b is are e = absurd are
  state_once kinds.Graph (GraphOf x) (QueueOf y) a b is are e = absurd are
  state_once kinds.Graph (MapOf x) y a b is are e = absurd is
  state_once kinds.Graph (QueueOf x) y a b is are e = absurd is

pub some_state : (kind : UnitKind) → (s : State) × IsStateOf kind s
some_state kinds.Map = let m = some_pairs 0 (lit< tt) in (
  MapOf m.0,
  map_is m.0 (subst IsNumber (sym m.1.1) (lit< tt)) (subst (λ
      (n : ℕ). PairsOf n m.0) (sym m.1.1) m.1),
)
some_state kinds.Ordered = let m = some_pairs 0 (lit< tt) in (
  MapOf m.0,
  map_is m.0 (subst IsNumber (sym m.1.1) (lit< tt)) (subst (λ
      (n : ℕ). PairsOf n m.0) (sym m.1.1) m.1),
)
some_state kinds.Queue = (QueueOf [], record { each = tt; count = lit< tt })
some_state kinds.Graph =
    let vs = some_vertices (0, 0) (lit< tt, lit< tt) in
    let es = some_edges (0, 0) (lit< tt, lit< tt) in
    let g = graph_of 0 (((0, 0), vs.0), es.0) (((lit< tt, lit< tt), vs.1), es.1) in
    (GraphOf g.0, g.1)

same_kind : (ks : List UnitKind) (k : ℕ) (a b : UnitKind) → slice_get ks k ≡ Some a → slice_get ks k ≡ Some b → a ≡ b
same_kind ks k a b one two = let both : ◌≡◌ {A = Option UnitKind} (Some a) (Some b) = sym one ∙ two in cc

pub unit_once : (ks : List UnitKind) (k : ℕ) → IsOnce (IsUnit ks k) (unit_lines ks k)
unit_once ks k x y a b is are e =
    let same = same_kind ks k is.0 are.0 is.1 are.1 in
    state_once k is.0 x y a b is.2 (subst (λ (kind : UnitKind). IsStateOf kind y) (sym same) are.2)
    (subst (λ (kind : Option UnitKind). state_lines kind k x ++ a ≡ state_lines kind k y ++ b) is.1 e)

kind_at : (ks : List UnitKind) (k : ℕ) → k < length ks → (kind : UnitKind) × (slice_get ks k ≡ Some kind)
kind_at [] k low = absurd (omega arith)
kind_at (x ∷ ks) zero low = (x, refl)
kind_at (x ∷ ks) (suc k) low = kind_at ks k (omega arith)

pub some_unit : (ks : List UnitKind) (k : ℕ) → k < length ks → (s : State) × IsUnit ks k s
some_unit ks k low =
    let kind = kind_at ks k low in
    let s = some_state kind.0 in
    (s.0, (kind.0, kind.1, s.1))

pub some_contents : (ks : List UnitKind) → (ss : List State) × AreContents ks ss
some_contents ks = each_some (IsUnit ks) (unit_lines ks) (unit_once ks) (length ks) (some_unit ks)

pub contents_once : (ks : List UnitKind) → IsOnce (AreContents ks) (contents_lines ks)
contents_once ks = each_once (IsUnit ks) (unit_lines ks) (unit_once ks) (length ks) (some_unit ks)

-- the state of a unit of this kind is one of the unit
module _ (ks : List UnitKind) (k : ℕ) (kind : UnitKind) (at : slice_get ks k ≡ Some kind) where
  lines_here : (s : State) → unit_lines ks k s ≡ state_lines (Some kind) k s
  lines_here s = ap (λ (t : Option UnitKind). state_lines t k s) at

  pub unit_reads : (old new : Unread) (s : State) → Reads (IsStateOf kind) (state_lines (Some kind) k) old new s
      → Reads (IsUnit ks k) (unit_lines ks k) old new s
  unit_reads old new s r = reads_other (IsStateOf kind) (state_lines (Some kind) k) (IsUnit ks k) (unit_lines ks k) old new s s r
      (kind, at, r.is) (lines_here s)

  pub unit_refuses : (old : Unread) (e : ReportRefusal) → Refuses (IsStateOf kind) (state_lines (Some kind) k) old e
      → Refuses (IsUnit ks k) (unit_lines ks k) old e
  unit_refuses old e r = refuses_other (IsStateOf kind) (state_lines (Some kind) k) (IsUnit ks k) (unit_lines ks k) (λ s is. (
    s,
    (kind, at, is),
    lines_here s,
  ))
      (λ s is. (s, subst (λ (u : UnitKind). IsStateOf u s) (same_kind ks k is.0 kind is.1 at) is.2, sym (lines_here s))) old e r

-- ---- a graph, part by part
module _ (unit : ℕ) (old : Unread) where
  from_parts : (e : ReportRefusal) → Refuses (AllParts unit) (parts_rows unit) old e → Refuses (IsGraph unit) (graph_rows unit) old e
  from_parts e r = refuses_other (AllParts unit) (parts_rows unit) (IsGraph unit) (graph_rows unit) (graph_of unit)
      (parts_of_graph unit) old e r

  pub graph_refuses_counts : (e : ReportRefusal) → Refuses IsVertex (counts_rows unit) old e
      → Refuses (IsGraph unit) (graph_rows unit) old e
  graph_refuses_counts e r =
      from_parts e
      (refuses_first (CountsAndVertices unit) (counts_and_rows unit) EdgesOf (λ p. RowsOf edge_words) (some_edges_behind unit) old e
      (refuses_first IsVertex (counts_rows unit) VerticesOf (λ p. RowsOf vertex_words) some_vertices old e r))

  pub graph_refuses_vertices : (mid : Unread) (p : ℕ × ℕ) (e : ReportRefusal) → Reads IsVertex (counts_rows unit) old mid p
      → Refuses (VerticesOf p) (RowsOf vertex_words) mid e → Refuses (IsGraph unit) (graph_rows unit) old e
  graph_refuses_vertices mid p e first r =
      from_parts e
      (refuses_first (CountsAndVertices unit) (counts_and_rows unit) EdgesOf (λ p. RowsOf edge_words) (some_edges_behind unit) old e
      (refuses_second IsVertex (counts_rows unit) VerticesOf (λ p. RowsOf vertex_words) (counts_once unit) old mid p e first r))

  pub graph_refuses_edges : (mid next : Unread) (p : ℕ × ℕ) (vs : List (ℕ × ℕ)) (e : ReportRefusal)
      → Reads IsVertex (counts_rows unit) old mid p
      → Reads (VerticesOf p) (RowsOf vertex_words) mid next vs → Refuses (EdgesOf (p, vs)) (RowsOf edge_words) next e
      → Refuses (IsGraph unit) (graph_rows unit) old e
  graph_refuses_edges mid next p vs e first second r =
      from_parts e
      (refuses_second (CountsAndVertices unit) (counts_and_rows unit) EdgesOf (λ p. RowsOf edge_words) (vertices_once unit) old next
      (p, vs) e
      (reads_both IsVertex (counts_rows unit) VerticesOf (λ p. RowsOf vertex_words) old mid next p vs first second) r)

  pub graph_reads : (mid next new : Unread) (p : ℕ × ℕ) (g : Graph) → Reads IsVertex (counts_rows unit) old mid p
      → Reads (VerticesOf p) (RowsOf vertex_words) mid next (entries g.vertices)
      → Reads (EdgesOf (p, entries g.vertices)) (RowsOf edge_words) next new (entries g.edges)
      → Reads (IsGraph unit) (graph_rows unit) old new g
  graph_reads mid next new p g first second third =
      let parts = reads_both (CountsAndVertices unit) (counts_and_rows unit) EdgesOf (λ p. RowsOf edge_words) old next new
      (p, entries g.vertices)
      (entries g.edges)
      (reads_both IsVertex (counts_rows unit) VerticesOf (λ p. RowsOf vertex_words) old mid next p
      (entries g.vertices) first second) third in
      reads_other (AllParts unit) (parts_rows unit) (IsGraph unit) (graph_rows unit) old new
      ((p, entries g.vertices), entries g.edges) g parts (
        record { each = second.is.0.each; count = subst IsNumber (sym second.is.1) first.is.0 },
        record { each = third.is.0.each; count = subst IsNumber (sym third.is.1) first.is.1 },
      )
      (lines_are unit g ∙ (λ i. graph_counts unit (second.is.1 i, third.is.1 i)
      ∷ (RowsOf vertex_words (entries g.vertices) ++ RowsOf edge_words (entries g.edges))))

-- the kind that a loop over the kinds has at hand
pub kind_here : (xs ks : List UnitKind) (k : ℕ) → xs ≡ ks → k < length ks → slice_get ks k ≡ Some (get_or xs k kinds.Map)
kind_here xs ks k same low = ap (λ (t : List UnitKind). slice_get t k) (sym same) ∙ here xs k (omega (arith, ap length same))
  where
    here : (ys : List UnitKind) (j : ℕ) → j < length ys → slice_get ys j ≡ Some (get_or ys j kinds.Map)
    here [] j within = absurd (omega arith)
    here (y ∷ ys) zero within = refl
    here (y ∷ ys) (suc j) within = here ys j (omega arith)
