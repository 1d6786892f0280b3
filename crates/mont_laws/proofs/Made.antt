-- What the live objects of each kind make, where they have no fault.
use Rattle.std.proofs.Common.{◌≡◌, ℕ, ◌+◌, suc, List, [], ◌∷◌, length, sym, refl, ap, ◌∙◌, subst, arith, cond, inl, inr}
use Rattle.std.specs.Prelude.{Option, Some, None, is_some, Bool, ◌⊎◌}
use Rattle.std.specs.Bool.{Decides}
use Rattle.std.specs.declared.cmp.Ordering.{Ordering}
use Rattle.std.specs.Cmp.{IsTotalOrder, nat_cmp_total}
use Rattle.std.specs.Cmp.Lexicographic.{nat_list_cmp_total}
use Rattle.std.specs.List.{filter_map, cons_option}
use Rattle.std.specs.Map.{lookup}
use Rattle.std.specs.Ordering.{nat_cmp, eq_by_cmp}
use Rattle.std.specs.FinMap as finite
use Rattle.std.specs.FinMap.{find}
use Rattle.std.proofs.Math.Path.{fun_ext}
use Rattle.std.proofs.lemmas.List.{length-map}
use Rattle.mont_base.specs.declared.record.Held.{Held}
use Rattle.mont_base.specs.declared.record.Object.{Object}
use Rattle.mont_base.specs.declared.record.ObjectFault.{ObjectFault}
use Rattle.mont_base.specs.Layout.{Shape}
use Rattle.mont_base.specs.State.{Key, Value, Ends, key_cmp, edge_cmp}
use Rattle.mont_base.specs.Versions.{live_objects}
use Rattle.mont_base.specs.Bodies.{pair_in, item_in}
use Rattle.mont_base.specs.Structure.{pair_at, item_at, vertex_at, edge_at, pairs_of, row_of, items_of, graph_of, keeps_key, is_serial, first_fault}
use Rattle.mont_laws.specs.Records.{AreApart}
use Rattle.mont_laws.specs.Shows.{live_things, Shows}
use Rattle.mont_laws.specs.Structures.{pair_for, item_for, part_for, Part, AtVertex, AtEdge, attribute_of, HasPairs, HasRow}
use Rattle.mont_laws.proofs.Keys.{one_text, one_number, edges_total}
use Rattle.mont_laws.proofs.Holders.{fitted}
use Rattle.mont_laws.proofs.Parts.{same_part, one_part}
use Rattle.mont_laws.proofs.Listed.{Reads, AllDiffer, differ_new, new_differ}
use Rattle.mont_laws.proofs.LiveObjects.{live_records, reads_objects, objects_read, listed_shows, shows_listed}
use Rattle.mont_laws.proofs.Members.{no_element}
use Rattle.mont_laws.proofs.Scans.{body_of, Finds, scan_reads, reads_scan}
use Rattle.mont_laws.proofs.Found.{IsVertexPart, IsEdgePart, part_cases}
use Rattle.mont_laws.proofs.FoundParts.{no_vertex, no_edge}

-- ---- lists of entries and the maps that they make
pub find_lookup : {K V : Type 0} (R : K → K → Ordering) (q : K) (es : List (K × V)) → lookup (eq_by_cmp R q) es ≡ find R q es
find_lookup R q [] = refl
find_lookup R q (e ∷ es) = ap (cond (eq_by_cmp R q e.0) (Some e.1)) (find_lookup R q es)

get_lookup : {K V : Type 0} {R : K → K → Ordering} → IsTotalOrder R → (es : List (K × V))
    → (λ q. lookup (eq_by_cmp R q) es) ≡ finite.get (finite.from_entries {R = R} es)
get_lookup {R = R} order es = fun_ext (λ q. find_lookup R q es ∙ sym (finite.get-from_entries order es q))

len_new : {K V : Type 0} {R : K → K → Ordering} → IsTotalOrder R → (m : finite.FinMap R V) (k : K) (v : V) → finite.get m k ≡ None
    → finite.len (finite.insert m k v) ≡ finite.len m + 1
len_new order m k v none = finite.len-insert order m k v ∙ ap (λ o. cond (is_some o) (finite.len m) (finite.len m + 1)) none

pub len_entries : {K V : Type 0} {R : K → K → Ordering} → IsTotalOrder R → (es : List (K × V)) → AllDiffer (eq_by_cmp R) es
    → finite.len (finite.from_entries {R = R} es) ≡ length es
len_entries {V = V} {R = R} order [] h = finite.len-empty R V
len_entries {R = R} order (e ∷ es) h =
    let rest = len_entries order es h.1 in
    let one = len_new order (finite.from_entries {R = R} es) e.0 e.1
    (finite.get-from_entries order es e.0 ∙ sym (find_lookup R e.0 es) ∙ h.0) in
    omega arith

-- ---- what is read of objects
read_map : {E F : Type 0} (read : List ℕ → Option E) (f : Object → Option F) (g : E → Option F)
    → ((o : Object) (e : E) → read o.body ≡ Some e → f o ≡ g e) → (os : List Object) (es : List E) → Reads body_of read os es
    → filter_map f os ≡ filter_map g es
read_map read f g same [] [] h = refl
read_map read f g same [] (e ∷ es) h = absurd h
read_map read f g same (o ∷ os) [] h = absurd h
read_map read f g same (o ∷ os) (e ∷ es) h = λ i. cons_option (same o e h.0 i) (read_map read f g same os es h.1 i)

all_some : {E : Type 0} (es : List E) → filter_map (λ (e : E). Some e) es ≡ es
all_some [] = refl
all_some (e ∷ es) = ap (λ fs. e ∷ fs) (all_some es)

pub length_read : {A E : Type 0} (body : A → List ℕ) (read : List ℕ → Option E) (os : List A) (es : List E) → Reads body read os es
    → length os ≡ length es
length_read body read [] [] h = refl
length_read body read [] (e ∷ es) h = absurd h
length_read body read (o ∷ os) [] h = absurd h
length_read body read (o ∷ os) (e ∷ es) h = ap suc (length_read body read os es h.1)

-- the entries of objects that are apart, each read, with no name twice
pub record AreEntries {T V : Type 0} (eq : T → T → Bool) (read : List ℕ → Option (T × V)) (rs : List Held)
    (es : List (T × V)) : Type 0 where
  pub reads : Reads body_of read (live_objects rs) es
  pub differ : AllDiffer eq es

module _ {T V : Type 0} (eq : T → T → Bool) (one : (a b : T) → Decides (eq a b) (a ≡ b)) (read : List ℕ → Option (T × V))
    (fault_of : List Object → Object → Option ObjectFault) (finds : Finds eq read fault_of) (rs : List Held) where
  -- where a test finds no fault there are entries
  pub entries_found : first_fault fault_of [] (live_objects rs) ≡ None → (es : List (T × V)) × AreEntries eq read rs es
  entries_found none =
      let b = scan_reads eq read fault_of finds (live_objects rs) [] [] tt none in
      (b.0, record { reads = b.1; differ = (new_differ eq one [] b.0 b.2).0 })

  -- and where there are it finds none
  pub none_found : (es : List (T × V)) → AreEntries eq read rs es → first_fault fault_of [] (live_objects rs) ≡ None
  none_found es are = reads_scan eq read fault_of finds (live_objects rs) [] [] es tt are.reads
      (differ_new eq one [] es are.differ (λ d a. absurd (no_element d a)))

module _ {T V : Type 0} (eq : T → T → Bool) (one : (a b : T) → Decides (eq a b) (a ≡ b)) (read : List ℕ → Option (T × V)) (rs : List Held)
    (apart : AreApart rs) where
  pub entries_show : (es : List (T × V)) → AreEntries eq read rs es → Shows (live_things read rs) (λ t. lookup (eq t) es)
  entries_show es are = listed_shows eq one read rs apart es (objects_read read (live_records rs) es are.reads) are.differ

  pub entries_shown : (d : T → Option V) → Shows (live_things read rs) d → (es : List (T × V)) × AreEntries eq read rs es
  entries_shown d s = let b = shows_listed eq one read rs apart d s in
      (b.0, record { reads = reads_objects read (live_records rs) b.0 b.1; differ = b.2 })

-- ---- maps
module _ (s : Shape) (unit : ℕ) (rs : List Held) (es : List (Key × Value))
    (are : AreEntries (eq_by_cmp key_cmp) (pair_for s unit) rs es) where
  pairs_are : filter_map pair_at (live_objects rs) ≡ es
  pairs_are = read_map (pair_for s unit) pair_at (λ e. Some e)
      (λ o e is. (fitted (λ (p : Key × Value). keeps_key s unit p.0) (pair_in o.body) e is).0) (live_objects rs) es are.reads
      ∙ all_some es

  pub made_pairs : AreApart rs → HasPairs s unit rs (pairs_of (live_objects rs))
  made_pairs apart =
      subst (λ (fs : List (Key × Value)). Shows (live_things (pair_for s unit) rs) (finite.get (finite.from_entries {R = key_cmp} fs)))
      (sym pairs_are)
      (subst (λ d. Shows (live_things (pair_for s unit) rs) d) (get_lookup nat_list_cmp_total es)
      (entries_show (eq_by_cmp key_cmp) one_text (pair_for s unit) rs apart es are))

  pub pairs_length : length (live_objects rs) ≡ finite.len (pairs_of (live_objects rs))
  pairs_length = length_read body_of (pair_for s unit) (live_objects rs) es are.reads
      ∙ sym (ap (λ (fs : List (Key × Value)). finite.len (finite.from_entries {R = key_cmp} fs)) pairs_are
      ∙ len_entries nat_list_cmp_total es are.differ)

-- ---- queues
module _ (rs : List Held) (es : List (ℕ × ℕ)) (are : AreEntries (eq_by_cmp nat_cmp) item_for rs es) where
  items_are : filter_map item_at (live_objects rs) ≡ es
  items_are = read_map item_for item_at (λ e. Some e) (λ o e is. (fitted (λ (e : ℕ × ℕ). is_serial e.0) (item_in o.body) e is).0)
      (live_objects rs) es are.reads ∙ all_some es

  pub made_row : AreApart rs → HasRow rs (row_of (live_objects rs))
  made_row apart =
      subst (λ (fs : List (ℕ × ℕ)). Shows (live_things item_for rs) (finite.get (finite.from_entries {R = nat_cmp} fs))) (sym items_are)
      (subst (λ d. Shows (live_things item_for rs) d) (get_lookup nat_cmp_total es)
      (entries_show (eq_by_cmp nat_cmp) one_number item_for rs apart es are))

  pub items_length : length (live_objects rs) ≡ length (items_of (live_objects rs))
  items_length =
      length_read body_of item_for (live_objects rs) es are.reads
      ∙ sym (ap (λ (fs : List (ℕ × ℕ)). finite.len (finite.from_entries {R = nat_cmp} fs)) items_are
      ∙ len_entries nat_cmp_total es are.differ)
      ∙ finite.len-entries (row_of (live_objects rs))
      ∙ sym (length-map (finite.entries (row_of (live_objects rs))) (λ (e : ℕ × ℕ). e.1))

-- ---- graphs
abbrev vertex_of : Part × ℕ → Option (ℕ × ℕ)
vertex_of (AtVertex v, a) = Some (v, a)
vertex_of (AtEdge e, a) = None

abbrev edge_of : Part × ℕ → Option (Ends × ℕ)
edge_of (AtVertex v, a) = None
edge_of (AtEdge e, a) = Some (e, a)

vertex_read : (o : Object) (d : Part × ℕ) → part_for o.body ≡ Some d → vertex_at o ≡ vertex_of d
vertex_read o d e = by (part_cases o.body d e)
  where
    by : IsVertexPart o.body d ⊎ IsEdgePart o.body d → vertex_at o ≡ vertex_of d
    by (inl p) = p.read ∙ ap vertex_of (sym p.is)
    by (inr p) = no_vertex o.body p.tag ∙ ap vertex_of (sym p.is)

edge_read : (o : Object) (d : Part × ℕ) → part_for o.body ≡ Some d → edge_at o ≡ edge_of d
edge_read o d e = by (part_cases o.body d e)
  where
    by : IsVertexPart o.body d ⊎ IsEdgePart o.body d → edge_at o ≡ edge_of d
    by (inl p) = no_edge o.body p.tag ∙ ap edge_of (sym p.is)
    by (inr p) = p.read ∙ ap edge_of (sym p.is)

vertex_lookup : (v : ℕ) (es : List (Part × ℕ)) → lookup (same_part (AtVertex v)) es ≡ find nat_cmp v (filter_map vertex_of es)
vertex_lookup v [] = refl
vertex_lookup v ((AtVertex w, a) ∷ es) = ap (cond (eq_by_cmp nat_cmp v w) (Some a)) (vertex_lookup v es)
vertex_lookup v ((AtEdge e, a) ∷ es) = vertex_lookup v es

edge_lookup : (d : Ends) (es : List (Part × ℕ)) → lookup (same_part (AtEdge d)) es ≡ find edge_cmp d (filter_map edge_of es)
edge_lookup d [] = refl
edge_lookup d ((AtVertex w, a) ∷ es) = edge_lookup d es
edge_lookup d ((AtEdge e, a) ∷ es) = ap (cond (eq_by_cmp edge_cmp d e) (Some a)) (edge_lookup d es)

-- names that differ, of vertices and of edges
vertices_differ : (es : List (Part × ℕ)) → AllDiffer same_part es → AllDiffer (eq_by_cmp nat_cmp) (filter_map vertex_of es)
vertices_differ [] h = tt
vertices_differ ((AtVertex v, a) ∷ es) h =
    (find_lookup nat_cmp v (filter_map vertex_of es) ∙ sym (vertex_lookup v es) ∙ h.0, vertices_differ es h.1)
vertices_differ ((AtEdge e, a) ∷ es) h = vertices_differ es h.1

edges_differ : (es : List (Part × ℕ)) → AllDiffer same_part es → AllDiffer (eq_by_cmp edge_cmp) (filter_map edge_of es)
edges_differ [] h = tt
edges_differ ((AtVertex v, a) ∷ es) h = edges_differ es h.1
edges_differ ((AtEdge e, a) ∷ es) h = (find_lookup edge_cmp e (filter_map edge_of es) ∙ sym (edge_lookup e es) ∙ h.0, edges_differ es h.1)

split_length : (es : List (Part × ℕ)) → length es ≡ length (filter_map vertex_of es) + length (filter_map edge_of es)
split_length [] = refl
split_length ((AtVertex v, a) ∷ es) = let rest = split_length es in omega arith
split_length ((AtEdge e, a) ∷ es) = let rest = split_length es in omega arith

module _ (rs : List Held) (es : List (Part × ℕ)) (are : AreEntries same_part part_for rs es) where
  vertices_are : filter_map vertex_at (live_objects rs) ≡ filter_map vertex_of es
  vertices_are = read_map part_for vertex_at vertex_of vertex_read (live_objects rs) es are.reads

  edges_are : filter_map edge_at (live_objects rs) ≡ filter_map edge_of es
  edges_are = read_map part_for edge_at edge_of edge_read (live_objects rs) es are.reads

  pub part_lookup : (t : Part) → lookup (same_part t) es ≡ attribute_of (graph_of (live_objects rs)) t
  part_lookup (AtVertex v) = vertex_lookup v es ∙ sym (finite.get-from_entries nat_cmp_total (filter_map vertex_of es) v)
      ∙ ap (λ (fs : List (ℕ × ℕ)). finite.get (finite.from_entries {R = nat_cmp} fs) v) (sym vertices_are)
  part_lookup (AtEdge d) = edge_lookup d es ∙ sym (finite.get-from_entries edges_total (filter_map edge_of es) d)
      ∙ ap (λ (fs : List (Ends × ℕ)). finite.get (finite.from_entries {R = edge_cmp} fs) d) (sym edges_are)

  pub made_parts : AreApart rs → Shows (live_things part_for rs) (attribute_of (graph_of (live_objects rs)))
  made_parts apart = subst (λ d. Shows (live_things part_for rs) d) (fun_ext part_lookup)
      (entries_show same_part one_part part_for rs apart es are)

  pub parts_length : length (live_objects rs) ≡ finite.len (graph_of (live_objects rs)).vertices + finite.len
      (graph_of (live_objects rs)).edges
  parts_length =
      let all = length_read body_of part_for (live_objects rs) es are.reads in
      let split = split_length es in
      let vs = ap (λ (fs : List (ℕ × ℕ)). finite.len (finite.from_entries {R = nat_cmp} fs)) vertices_are
      ∙ len_entries nat_cmp_total (filter_map vertex_of es) (vertices_differ es are.differ) in
      let ds = ap (λ (fs : List (Ends × ℕ)). finite.len (finite.from_entries {R = edge_cmp} fs)) edges_are
      ∙ len_entries edges_total (filter_map edge_of es) (edges_differ es are.differ) in
      omega arith
