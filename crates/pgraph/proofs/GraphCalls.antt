-- What a graph unit is after each answer of a call.
use Rattle.std.proofs.Common.{◌≡◌, ℕ, ◌+◌, ◌<◌, Bool, true, false, cond, List, [], ◌∷◌, ◌++◌, map, append-nil, length, refl, sym, ap, ◌∙◌, subst, arith, inl, inr, ◌⊎◌}
use Rattle.std.specs.Prelude.{◌≢◌, ◌==◌, not, AllPairs, Option, Some, None, if◌then◌else◌}
use Rattle.std.specs.List.{Contains}
use Rattle.std.proofs.lemmas.Bool.{eq-eqb}
use Rattle.std.proofs.lemmas.Bool.Decides.{nat_tests}
use Rattle.std.proofs.lemmas.List.Elements.{Contains-append_left, Contains-append_right, Contains-append_cases, All-contains}
use Rattle.std.proofs.lemmas.Option.{same_Some}
use Rattle.mont_base.specs.declared.kinds.UnitKind.TheVariants as unit_kinds
use Rattle.mont_base.specs.declared.operation.Op.{Op}
use Rattle.mont_base.specs.declared.operation.Receipt.{Receipt}
use Rattle.mont_base.specs.declared.operation.Reply.{Reply}
use Rattle.mont_base.specs.declared.record.Change.{Change}
use Rattle.mont_base.specs.declared.record.Held.{Held}
use Rattle.mont_base.specs.declared.refusal.CallRefusal.{CallRefusal}
use Rattle.mont_base.specs.declared.refusal.CallRefusal.TheVariants.{CountEnd, Full, Cut}
use Rattle.mont_base.specs.Layout.{Shape, kind_of}
use Rattle.mont_base.specs.State.{State, GraphOf, Ends, graph_step, step}
use Rattle.mont_base.specs.Versions.{newest_of, later_of, is_delete}
use Rattle.mont_laws.specs.Effects.{IsOpOf}
use Rattle.mont_laws.specs.Records.{live_of, live_if}
use Rattle.mont_laws.specs.Structures.{Part, AtVertex, AtEdge, part_for, HasGraph, HasStructure}
use Rattle.mont_laws.proofs.Bodies.{vertex_back, edge_back, vertex_fits, edge_fits}
use Rattle.mont_laws.proofs.Edits.{live_facts}
use Rattle.mont_laws.proofs.Keys.{both_true}
use Rattle.mont_laws.proofs.Members.{no_element, first_element, later_element, element_cases, pairs_head, pairs_tail}
use Rattle.mont_laws.proofs.Newest.{IsAbove, newest_append, newest_push, newest_is}
use Rattle.mont_laws.proofs.Parts.{one_part, same_part}
use Rattle.mont_laws.proofs.Shown.{one_state}
use Rattle.heap.specs.HeapShown.{HeapShown, CallerShown}
use Rattle.slots.specs.Books.{RegionShown, IsRegionOf, HasLowerIdentity, record_in}
use Rattle.slots.specs.WrittenRecords.{record_by, kind_by, body_by, identity_by, identity_after, version_in}
use Rattle.structure_call.specs.Calling.{HasAnsweredCall, LeavesCall}
use Rattle.structure_call.specs.Carrying.{HasCarried, LeavesUncarried, records_by, last_of}
use Rattle.structure_call.specs.Checking.{EndsCount, MayBeCalled}
use Rattle.structure_call.specs.Planning.{IsPlan, first_at_end}
use Rattle.structure_call.specs.Standing.{IsStanding}
use Rattle.pgraph.specs.declared.graph_edit.GraphEdit.{GraphEdit}
use Rattle.pgraph.specs.declared.graph_edit.GraphEdit.TheVariants.{Keep, Set, Remove}
use Rattle.pgraph.specs.declared.node.Name.{Name}
use Rattle.pgraph.specs.declared.node.Node.{Node}
use Rattle.pgraph.specs.GraphCall.{record_at, restored}
use Rattle.pgraph.specs.GraphEdit.{Fits, nodes_with, body_of, setting, removal, edge_removal, effects_of, changes_of, prepared, node_by, nodes_behind, graph_behind}
use Rattle.pgraph.specs.GraphIndex.{Nodes, node_of, part_of, can_stand, with_node, without, graph_in}
use Rattle.pgraph.specs.LiveNodes.{IsNodeOf, HoldsLive}
use Rattle.pgraph.specs.PGraph.{IsGraphUnit}
use Rattle.pgraph.proofs.GraphBehind.{behind_prepared, restored_is, node_with, IsLeft, is_left, graph_is, graph_without}
use Rattle.pgraph.proofs.NodeFacts.{node_kept, holds_kept, structure_is, with_node_of, edit_plan}

-- ---- records that are added
none_newest : (i : ℕ) (ws : List Held) → ((w : Held) → Contains ws w → w.label.identity ≢ i) → newest_of i ws ≡ None
none_newest i [] h = refl
none_newest i (w ∷ ws) h = by (w.label.identity == i) refl (none_newest i ws (λ z c. h z (later_element w ws z c)))
  where
    by : (t : Bool) → (w.label.identity == i) ≡ t → newest_of i ws ≡ None → later_of (if t then Some w else None) (newest_of i ws) ≡ None
    by true e f = absurd (h w (first_element w ws) (grind (arith, nat_tests)))
    by false e f = f

newest_left : (o p : Option Held) → p ≡ None → later_of o p ≡ o
newest_left None p e = e
newest_left (Some r) p e = ap (later_of (Some r)) e

-- a node stays where records of other identities are added
still_node : (records ws : List Held) (t : Part) (m : Node) → IsNodeOf records t m
    → ((w : Held) → Contains ws w → w.label.identity ≢ m.identity) → IsNodeOf (records ++ ws) t m
still_node records ws t m p others = record {
  live = p.live;
  is = ap live_if (newest_append m.identity records ws
      ∙ newest_left (newest_of m.identity records) (newest_of m.identity ws) (none_newest m.identity ws others)) ∙ p.is;
  in_slot = p.in_slot;
  holds = p.holds;
}

-- two nodes of one identity are of one part
one_node : (records : List Held) (s t : Part) (n m : Node) → IsNodeOf records s n → IsNodeOf records t m → n.identity ≡ m.identity → s ≡ t
one_node records s t n m p q same =
    let live : p.live ≡ q.live = same_Some p.live q.live (sym p.is ∙ ap (λ (i : ℕ). live_of i records) same ∙ q.is) in
    ap (λ (x : Part × ℕ). x.0) (same_Some (s, n.attribute) (t, m.attribute)
    (sym p.holds ∙ ap (λ (r : Held). part_for r.body) live ∙ q.holds))

-- ---- what changes wrote
record IsOfChange (cs : List Change) (w : Held) : Type 0 where
  pub change : Change
  pub there : Contains cs change
  pub next : ℕ
  pub identity : w.label.identity ≡ identity_by next change

of_change : (u next epoch : ℕ) (kept : List Held) (cs : List Change) (slots : List ℕ) (w : Held)
    → Contains (records_by u next kept epoch cs slots) w → IsOfChange cs w
of_change u next epoch kept [] slots w c = absurd (no_element w c)
of_change u next epoch kept (d ∷ cs) [] w c = absurd (no_element w c)
of_change u next epoch kept (d ∷ cs) (slot ∷ slots) w c =
    by (element_cases (record_by u next kept d epoch slot) (records_by u (identity_after next d) kept epoch cs slots) w c)
    (λ b. of_change u (identity_after next d) epoch kept cs slots w b)
  where
    by : (w ≡ record_by u next kept d epoch slot) ⊎ Contains (records_by u (identity_after next d) kept epoch cs slots) w
        → (Contains (records_by u (identity_after next d) kept epoch cs slots) w → IsOfChange cs w) → IsOfChange (d ∷ cs) w
    by (inl is) rest = record {
      change = d;
      there = first_element d cs;
      next = next;
      identity = ap (λ (z : Held). z.label.identity) is;
    }
    by (inr b) rest = let r = rest b in record {
      change = r.change;
      there = later_element d cs r.change r.there;
      next = r.next;
      identity = r.identity;
    }

-- a change of those that remove edges
edge_change : (es : List (Ends × Node)) (c : Change) → Contains (map edge_removal es) c
    → (e : Ends × Node) × Contains es e × (c ≡ edge_removal e)
edge_change [] c h = absurd (no_element c h)
edge_change (e ∷ es) c h = by (element_cases (edge_removal e) (map edge_removal es) c h) (λ b. edge_change es c b)
  where
    by : (c ≡ edge_removal e) ⊎ Contains (map edge_removal es) c
        → (Contains (map edge_removal es) c → (d : Ends × Node) × Contains es d × (c ≡ edge_removal d))
        → (d : Ends × Node) × Contains (e ∷ es) d × (c ≡ edge_removal d)
    by (inl is) rest = (e, first_element e es, is)
    by (inr b) rest = let r = rest b in (r.0, later_element e es r.0 r.1, r.2)

-- ---- the record in a slot
record_there : (rs : List Held) (r : Held) → AllPairs (λ (p q : Held). p.slot ≢ q.slot) rs → Contains rs r → record_in rs r.slot ≡ Some r
record_there [] r apart c = absurd (no_element r c)
record_there (p ∷ rs) r apart c = by (element_cases p rs r c)
    (λ d. record_there rs r (pairs_tail (λ (p q : Held). p.slot ≢ q.slot) p rs apart) d)
  where
    behind : (b : Bool) → (p.slot == r.slot) ≡ b → p.slot ≢ r.slot → record_in rs r.slot ≡ Some r
        → (if b then Some p else record_in rs r.slot) ≡ Some r
    behind true e other rest = absurd (other (grind (arith, nat_tests)))
    behind false e other rest = rest

    by : (r ≡ p) ⊎ Contains rs r → (Contains rs r → record_in rs r.slot ≡ Some r) → record_in (p ∷ rs) r.slot ≡ Some r
    by (inl e) rest = subst (λ (x : Held). record_in (p ∷ rs) x.slot ≡ Some x) (sym e)
        (ap (λ (b : Bool). if b then Some p else record_in rs p.slot) (eq-eqb p.slot p.slot refl))
    by (inr d) rest = behind (p.slot == r.slot) refl
        (All-contains (λ (q : Held). p.slot ≢ q.slot) rs r (pairs_head (λ (p q : Held). p.slot ≢ q.slot) p rs apart) d) (rest d)

-- ---- the record of one change
above_version : (o : Option Held) (w : Held) → w.label.version ≡ version_in o + 1 → IsAbove o w
above_version None w e = tt
above_version (Some q) w e = omega (arith, e)

written_live : (u next epoch slot : ℕ) (kept : List Held) (c : Change) → is_delete (kind_by c) ≡ false
    → live_of (identity_by next c) (kept ++ record_by u next kept c epoch slot ∷ []) ≡ Some (record_by u next kept c epoch slot)
written_live u next epoch slot kept c stays =
    let w : Held = record_by u next kept c epoch slot in
    ap live_if (newest_push w.label.identity kept w (above_version (newest_of w.label.identity kept) w refl)
    ∙ by w (w.label.identity == w.label.identity) refl)
    ∙ ap (λ (t : Bool). if t then None else Some w) stays
  where
    by : (w : Held) (t : Bool) → (w.label.identity == w.label.identity) ≡ t
        → (if t then Some w else newest_of w.label.identity kept) ≡ Some w
    by w true e = refl
    by w false e = absurd (grind (arith, nat_tests))

setting_stays : (part : Part) (a : ℕ) (was : Option Node) → is_delete (kind_by (setting part a was)) ≡ false
setting_stays part a None = refl
setting_stays part a (Some n) = refl

setting_body : (part : Part) (a : ℕ) (was : Option Node) → body_by (setting part a was) ≡ body_of part a
setting_body part a None = refl
setting_body part a (Some n) = refl

not_true : (t : Bool) → not t ≡ true → t ≡ false
not_true true e = absurd (cc)
not_true false e = refl

part_of_body : (nodes : Nodes) (part : Part) (a : ℕ) → can_stand nodes part ≡ true → part_for (body_of part a) ≡ Some (part, a)
part_of_body nodes (AtVertex v) a h = vertex_fits v a (body_of (AtVertex v) a) (vertex_back v a)
part_of_body nodes (AtEdge e) a h =
    edge_fits e a (body_of (AtEdge e) a) (not_true (e.0 == e.1) (both_true (not (e.0 == e.1)) _ h).0) (edge_back e a)

-- ---- a graph unit whose operation is to be carried out
pub record IsCalled (heap : HeapShown) (r : RegionShown) (nodes : Nodes) : Type 0 where
  pub unit : IsGraphUnit r nodes
  pub running : r.books.halted ≡ None
  pub of_heap : IsRegionOf heap r

-- the checks before leave the region as it was
pub is_called : (heap : HeapShown) (shown began ran : RegionShown) (nodes : Nodes) → IsStanding heap shown → began ≡ shown
    → IsGraphUnit began nodes → began.books.halted ≡ None → ran ≡ began → IsCalled heap ran nodes
is_called heap shown began ran nodes stands is unit running same = record {
  unit = subst (λ (r : RegionShown). IsGraphUnit r nodes) (sym same) unit;
  running = ap (λ (r : RegionShown). r.books.halted) same ∙ running;
  of_heap = subst (IsRegionOf heap) (sym (same ∙ is)) stands.of_heap;
}

module _ (heap : HeapShown) (old new : RegionShown) (nodes : Nodes) (called : IsCalled heap old nodes) where
  abbrev olds : List Held
  olds = old.seat.known.part.records

  abbrev news : List Held
  news = new.seat.known.part.records

  holds : HoldsLive olds nodes
  holds = called.unit.indexed called.running

  -- it is a graph unit still
  kind_stays : IsRegionOf heap new → new.books.unit ≡ old.books.unit → kind_of new.books.layout new.books.unit ≡ Some unit_kinds.Graph
  kind_stays of_heap unit = subst (λ (s : Shape). kind_of s new.books.unit ≡ Some unit_kinds.Graph)
      (called.of_heap.layout ∙ sym of_heap.layout)
      (subst (λ (u : ℕ). kind_of old.books.layout u ≡ Some unit_kinds.Graph) (sym unit) called.unit.kind)

  same_live : (rs : List Held) → ((i : ℕ) → live_of i rs ≡ live_of i olds) → HoldsLive rs nodes
  same_live rs live = holds_kept olds nodes holds old.books.layout old.books.unit called.unit.kind rs live

  -- ---- after a refusal the same is live, or it is halted
  pub unit_uncarried : (q r : CallerShown) (many : ℕ) (why : CallRefusal) → LeavesUncarried heap old new q r many why
      → IsGraphUnit new nodes
  unit_uncarried q r many (Full need free clock) h = record {
    agrees = h.1.ready.runs.agrees;
    kind = kind_stays h.1.ready.runs.of_heap h.1.keeps.of_unit;
    indexed = λ _. same_live news h.1.keeps.live;
  }
  unit_uncarried q r many (Cut unit) h = record {
    agrees = h.1.agrees;
    kind = kind_stays h.1.of_heap h.1.of_unit;
    indexed = λ e. let f = h.1.by in absurd (cc);
  }
  unit_uncarried q r many _ h = absurd h

  -- ---- after an answer without changes the index stays
  kept_live : (receipt : Receipt) (slot : Option ℕ) → HasCarried old new [] receipt slot → HoldsLive news nodes
  kept_live receipt slot carried = same_live news
      (λ i. ap (live_of i) (carried.records_are ∙ append-nil carried.kept) ∙ carried.live i)

  pub unit_answered : (q r : CallerShown) (op : Op) (receipt : Receipt) (slot : Option ℕ) → HasAnsweredCall heap old new q r op receipt
      → HasCarried old new [] receipt slot → IsGraphUnit new nodes
  unit_answered q r op receipt slot answered carried = record {
    agrees = answered.ready.runs.agrees;
    kind = kind_stays answered.ready.runs.of_heap answered.of_unit;
    indexed = λ _. kept_live receipt slot carried;
  }

  -- ---- where the nodes are after an answer
  lower_identity : (t : Part) (m : Node) → IsNodeOf olds t m → m.identity < old.books.identity
  lower_identity t m p =
      let n = newest_is m.identity olds p.live (live_facts (newest_of m.identity olds) p.live p.is).0 in
      let low = All-contains (HasLowerIdentity old.books.identity) (olds ++ old.seat.known.part.written) p.live
      called.unit.agrees.1.numbered (Contains-append_left olds old.seat.known.part.written p.live n.there) in
      let is = n.identity in omega arith

  module _ (kept : List Held) (live : (i : ℕ) → live_of i kept ≡ live_of i olds) (epoch : ℕ) where
    there : (t : Part) (m : Node) → node_of nodes t ≡ Some m → IsNodeOf kept t m
    there t m e = node_kept kept olds live t m (holds.places t m e)

    -- what was set has the identity of no other node
    other_set : (part : Part) (a : ℕ) (was : Option Node) → was ≡ node_of nodes part → (t : Part) (m : Node) → node_of nodes t ≡ Some m
        → part ≢ t → identity_by old.books.identity (setting part a was) ≢ m.identity
    other_set part a None is t m e ne same = let l = lower_identity t m (holds.places t m e) in absurd (omega arith)
    other_set part a (Some n) is t m e ne same = ne (one_node kept part t n m (there part n (sym is)) (there t m e) same)

    set_placed : (part : Part) (a : ℕ) (was : Option Node) → was ≡ node_of nodes part → can_stand nodes part ≡ true → (slot : ℕ)
        → (t : Part) (m : Node)
        → node_of (with_node nodes part (node_by a (record_by old.books.unit old.books.identity kept (setting part a was) epoch slot))) t
        ≡ Some m
        → IsNodeOf (kept ++ record_by old.books.unit old.books.identity kept (setting part a was) epoch slot ∷ []) t m
    set_placed part a was is stands slot t m h =
        by (same_part part t) refl (sym (node_with nodes part (node_by a w) t) ∙ h)
      where
        w : Held
        w = record_by old.books.unit old.books.identity kept (setting part a was) epoch slot

        here : IsNodeOf (kept ++ w ∷ []) part (node_by a w)
        here = record {
          live = w;
          is = written_live old.books.unit old.books.identity epoch slot kept (setting part a was) (setting_stays part a was);
          in_slot = refl;
          holds = ap part_for (setting_body part a was) ∙ part_of_body nodes part a stands;
        }

        by : (s : Bool) → same_part part t ≡ s → cond s (Some (node_by a w)) (node_of nodes t) ≡ Some m → IsNodeOf (kept ++ w ∷ []) t m
        by true e f = subst (λ (x : Part × Node). IsNodeOf (kept ++ w ∷ []) x.0 x.1)
            (λ i. ((one_part part t).0 e i, same_Some (node_by a w) m f i)) here
        by false e f = still_node kept (w ∷ []) t m (there t m f) others
          where
            apart : part ≢ t
            apart same = let g : same_part part t ≡ true = (one_part part t).1 same in absurd (cc)

            others : (z : Held) → Contains (w ∷ []) z → z.label.identity ≢ m.identity
            others z c same = elim (element_cases w [] z c) [
              | inl is_w ↦ other_set part a was is t m f apart (sym (ap (λ (y : Held). y.label.identity) is_w) ∙ same)
              | inr none ↦ no_element z none
            ]

    removed_placed : (part : Part) (n : Node) → node_of nodes part ≡ Some n → (slots : List ℕ) (t : Part) (m : Node)
        → node_of (without nodes part) t ≡ Some m
        → IsNodeOf (kept ++ records_by old.books.unit old.books.identity kept epoch
        (map edge_removal (nodes_with nodes part) ++ removal n ∷ []) slots) t m
    removed_placed part n is slots t m h = still_node kept ws t m (there t m left.was) others
      where
        cs : List Change
        cs = map edge_removal (nodes_with nodes part) ++ removal n ∷ []

        ws : List Held
        ws = records_by old.books.unit old.books.identity kept epoch cs slots

        left : IsLeft nodes part t m
        left = is_left nodes part t m h

        others : (z : Held) → Contains ws z → z.label.identity ≢ m.identity
        others z c same =
            let o = of_change old.books.unit old.books.identity epoch kept cs slots z c in
            elim (Contains-append_cases (map edge_removal (nodes_with nodes part)) (removal n ∷ []) o.change o.there) [
              | inl d ↦ let e = edge_change (nodes_with nodes part) o.change d in
                  left.no_edge e.0 e.1 (sym (one_node kept (AtEdge e.0.0) t e.0.1 m
                  (node_kept kept olds live (AtEdge e.0.0) e.0.1 (with_node_of olds nodes holds part e.0 e.1)) (there t m left.was)
                  (sym (o.identity ∙ ap (identity_by o.next) e.2) ∙ same)))
              | inr d ↦ elim (element_cases (removal n) [] o.change d) [
                | inl is_last ↦ left.other (sym (one_node kept part t n m (there part n is) (there t m left.was)
                    (sym (o.identity ∙ ap (identity_by o.next) is_last) ∙ same)))
                | inr none ↦ no_element o.change none
              ]
            ]

  -- ---- the plan of the call
  structure : HasStructure old.books.layout old.books.unit olds (GraphOf (graph_in nodes))
  structure = structure_is olds nodes holds old.books.layout old.books.unit called.unit.kind

  pub planned : (op : Op) → IsOpOf heap.opening.layout old.books.unit op → (reply : Reply) (edit : GraphEdit)
      → reply ≡ (graph_step (graph_in nodes) op).reply → effects_of nodes edit ≡ (graph_step (graph_in nodes) op).effects
      → Fits nodes edit → IsPlan old op reply (changes_of nodes edit)
  planned op of_unit reply edit replies effects fits = edit_plan old nodes holds called.unit.kind op
      (subst (λ (s : Shape). IsOpOf s old.books.unit op) (sym called.of_heap.layout) of_unit) reply edit replies effects fits

  -- ---- after an answer the index has followed
  module _ (q r : CallerShown) (op : Op) (receipt : Receipt) (answered : HasAnsweredCall heap old new q r op receipt) (edit : GraphEdit)
      (state : (graph_step (graph_in nodes) op).state ≡ GraphOf (graph_behind (graph_in nodes) edit)) (fits : Fits nodes edit)
      (slot : Option ℕ) (carried : HasCarried old new (changes_of nodes edit) receipt slot) where
    judged_is : answered.judged.state ≡ GraphOf (graph_in nodes)
    judged_is = one_state heap.opening.layout old.books.unit olds answered.judged.state (GraphOf (graph_in nodes)) answered.judged.shown
        (subst (λ (s : Shape). HasStructure s old.books.unit olds (GraphOf (graph_in nodes))) called.of_heap.layout structure)

    graph_shown : HasGraph news (graph_behind (graph_in nodes) edit)
    graph_shown = (subst (λ (st : State). HasStructure heap.opening.layout old.books.unit news st)
        (ap (λ (st : State). (step st op).state) judged_is ∙ state) answered.after).things

    holds_behind : HoldsLive news (nodes_behind (prepared nodes edit) edit (record_at new slot))
    holds_behind = by edit fits carried graph_shown
      where
        set_behind : (name : Name) (a : ℕ) (was : Option Node) → Fits nodes (Set name a was)
            → (k : HasCarried old new (changes_of nodes (Set name a was)) receipt slot)
            → HasGraph news (graph_behind (graph_in nodes) (Set name a was)) → (slots : List ℕ) → length slots ≡ 1
            → slot ≡ last_of slots → news ≡ k.kept ++ records_by old.books.unit old.books.identity k.kept receipt.entry.epoch
            (setting (part_of name) a was ∷ []) slots
            → HoldsLive news (nodes_behind (prepared nodes (Set name a was)) (Set name a was) (record_at new slot))
        set_behind name a was fit k shown [] each last are = absurd (omega arith)
        set_behind name a was fit k shown (n ∷ m ∷ ms) each last are = absurd (omega arith)
        set_behind name a was fit k shown (n ∷ []) each last are =
            let w : Held = record_by old.books.unit old.books.identity k.kept (setting (part_of name) a was) receipt.entry.epoch n in
            let at : record_at new slot ≡ Some w = ap (record_at new) last
            ∙ record_there news w answered.ready.runs.agrees.1.apart.slots
            (subst (λ (rs : List Held). Contains rs w) (sym are) (Contains-append_right k.kept (w ∷ []) w (first_element w []))) in
            subst (λ (o : Option Held). HoldsLive news (nodes_behind (prepared nodes (Set name a was)) (Set name a was) o)) (sym at)
            (subst (HoldsLive news) (sym (behind_prepared nodes (Set name a was) w)) (record {
              graph = subst (HasGraph news) (sym (graph_is nodes (Set name a was) w)) shown;
              places = λ t m h. subst (λ (rs : List Held). IsNodeOf rs t m) (sym are)
                  (set_placed k.kept k.live receipt.entry.epoch (part_of name) a was fit.0 fit.1 n t m h);
            }))

        by : (e : GraphEdit) → Fits nodes e → HasCarried old new (changes_of nodes e) receipt slot
            → HasGraph news (graph_behind (graph_in nodes) e) → HoldsLive news (nodes_behind (prepared nodes e) e (record_at new slot))
        by Keep fit k shown = kept_live receipt slot k
        by (Set name a was) fit k shown = set_behind name a was fit k shown k.slots k.each k.last_is k.records_are
        by (Remove name n) fit k shown = record {
          graph = subst (HasGraph news) (sym (graph_without nodes (part_of name))) shown;
          places = λ t m h. subst (λ (rs : List Held). IsNodeOf rs t m) (sym k.records_are)
              (removed_placed k.kept k.live receipt.entry.epoch (part_of name) n fit k.slots t m h);
        }

    pub unit_behind : IsGraphUnit new (nodes_behind (prepared nodes edit) edit (record_at new slot))
    unit_behind = record {
      agrees = answered.ready.runs.agrees;
      kind = kind_stays answered.ready.runs.of_heap answered.of_unit;
      indexed = λ _. holds_behind;
    }

  -- the index after a refusal
  pub index_restored : (edit : GraphEdit) → Fits nodes edit → restored (prepared nodes edit) edit ≡ nodes
  index_restored edit fits = restored_is nodes holds.graph.ends edit fits

-- ---- an operation that changes nothing, where no caller was cut in the unit
pub answer_planned : (heap : HeapShown) (shown began : RegionShown) (nodes : Nodes) → IsStanding heap shown → began ≡ shown
    → IsGraphUnit began nodes → (op : Op) → IsOpOf heap.opening.layout shown.books.unit op → (reply : Reply)
    → reply ≡ (graph_step (graph_in nodes) op).reply → [] ≡ (graph_step (graph_in nodes) op).effects
    → shown.books.halted ≡ None → IsPlan shown op reply []
answer_planned heap shown began nodes stands is unit op of_unit reply replies effects running = planned heap shown shown nodes
    (is_called heap shown began shown nodes stands is unit (ap (λ (r : RegionShown). r.books.halted) is ∙ running) (sym is))
    op of_unit reply Keep replies effects tt

-- ---- a planned operation, after checks that left the region and the caller as they were
module _ (heap : HeapShown) (shown ran : RegionShown) (q s : CallerShown) (op : Op) (reply : Reply) (changes : List Change)
    (same : ran ≡ shown)
    (caller : s ≡ q) (plan : IsPlan ran op reply changes) where
  plan_shown : IsPlan shown op reply changes
  plan_shown = subst (λ (r : RegionShown). IsPlan r op reply changes) same plan

  both : (r : RegionShown) → r ≡ ran → (c : CallerShown) → c ≡ s → ◌≡◌ {A = RegionShown × CallerShown} (r, c) (shown, q)
  both r was c is = λ i. ((was ∙ same) i, (is ∙ caller) i)

  pub may_be_called : ran.books.halted ≡ None → first_at_end s.known.part ran changes ≡ None → MayBeCalled q shown op
  may_be_called running numbers = record {
    running = subst (λ (r : RegionShown). r.books.halted ≡ None) same running;
    reply = reply;
    changes = changes;
    plan = plan_shown;
    numbers = subst (λ (x : RegionShown × CallerShown). first_at_end x.1.known.part x.0 changes ≡ None) (both ran refl s refl) numbers;
  }

  module _ (new : RegionShown) (r : CallerShown) where
    at_end : shown.books.halted ≡ None → (why : CallRefusal) → EndsCount heap shown new q r changes why
        → LeavesCall heap shown new q r op why
    at_end running (CountEnd which) h = record { running = running; reply = reply; changes = changes; plan = plan_shown; ends = h }
    at_end running _ h = absurd h

    pub leaves_at_end : ran.books.halted ≡ None → (why : CallRefusal) → EndsCount heap ran new s r changes why
        → LeavesCall heap shown new q r op why
    leaves_at_end running why h = at_end (subst (λ (x : RegionShown). x.books.halted ≡ None) same running) why
        (subst (λ (x : RegionShown × CallerShown). EndsCount heap x.0 new x.1 r changes why) (both ran refl s refl) h)

    uncarried : (why : CallRefusal) → LeavesUncarried heap shown new q r (length changes) why → LeavesCall heap shown new q r op why
    uncarried (Full need free clock) h = record { reply = reply; changes = changes; plan = plan_shown; leaves = h }
    uncarried (Cut unit) h = record { reply = reply; changes = changes; plan = plan_shown; leaves = h }
    uncarried _ h = absurd h

    pub leaves_uncarried : (checked : RegionShown) → checked ≡ ran → (t : CallerShown) → t ≡ s → (given : List Change) → given ≡ changes
        → (why : CallRefusal) → LeavesUncarried heap checked new t r (length given) why → LeavesCall heap shown new q r op why
    leaves_uncarried checked was t is given gives why h = uncarried why
        (subst (λ (x : RegionShown × CallerShown). LeavesUncarried heap x.0 new x.1 r (length changes) why) (both checked was t is)
        (subst (λ (cs : List Change). LeavesUncarried heap checked new t r (length cs) why) gives h))
