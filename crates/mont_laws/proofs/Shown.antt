-- The structure of records: there is one at most, and it goes by what is live.
use Rattle.std.proofs.Common.{◌≡◌, ℕ, List, [], ◌++◌, sym, refl, ap, ◌∙◌, subst, Bool, true, false}
use Rattle.std.specs.Prelude.{◌↔◌, Option, Some, None, is_some}
use Rattle.std.specs.List.{Contains}
use Rattle.std.specs.Ordering.{nat_cmp}
use Rattle.std.specs.FinMap as finite
use Rattle.std.proofs.Math.Path.{fun_ext}
use Rattle.mont_base.specs.declared.kinds.UnitKind.{UnitKind}
use Rattle.mont_base.specs.declared.kinds.UnitKind.TheVariants as kinds
use Rattle.mont_base.specs.declared.record.Held.{Held}
use Rattle.mont_base.specs.declared.operation.Op.{Op}
use Rattle.mont_base.specs.Layout.{Shape, kind_of, code_of}
use Rattle.mont_base.specs.State.{State, MapOf, QueueOf, GraphOf, Graph, key_cmp, edge_cmp, empty_state, is_state_of, is_kind_of, step}
use Rattle.mont_laws.specs.Records.{AreApart, AreSameRecords, IsObsolete, cut_records, without_slot}
use Rattle.mont_laws.specs.Shows.{held_in, live_things, Shows}
use Rattle.mont_laws.specs.Structures.{HasThings, HasStructure, Part, AtVertex, AtEdge, attribute_of, item_for, part_for, pair_for}
use Rattle.mont_laws.specs.Effects.{AreEffects, IsOpOf}
use Rattle.mont_laws.proofs.Obsolete.{AreLiveAlike, live_drop, live_order, without_cut}
use Rattle.mont_laws.proofs.SameKind.{has_kind, kind_kept, maps_no_queues, maps_no_graphs, graphs_no_queues}
use Rattle.mont_laws.proofs.Maps.{pairs_once, map_leads}
use Rattle.mont_laws.proofs.Queues.{items_once, items_from, queue_leads}
use Rattle.mont_laws.proofs.Graphs.{graph_once, graph_leads}

module _ (s : Shape) (unit : ℕ) where
  -- ---- one state at most
  differ : (t : Bool) → t ≡ true → t ≡ false → ⊥
  differ t e f = cc

  things_once : (rs : List Held) (kind : UnitKind) (a b : State) → is_state_of kind a ≡ true → is_state_of kind b ≡ true
      → HasThings s unit rs a → HasThings s unit rs b → a ≡ b
  things_once rs kind (MapOf m) (MapOf n) d e g h = ap MapOf (pairs_once s unit rs m n g h)
  things_once rs kind (QueueOf xs) (QueueOf ys) d e g h = ap QueueOf (items_once rs xs ys g h)
  things_once rs kind (GraphOf g) (GraphOf h) d e a b = ap GraphOf (graph_once rs g h a b)
  things_once rs kind (MapOf m) (QueueOf ys) d e g h = absurd (differ _ e (maps_no_queues (code_of kind) d))
  things_once rs kind (MapOf m) (GraphOf k) d e g h = absurd (differ _ e (maps_no_graphs (code_of kind) d))
  things_once rs kind (QueueOf xs) (MapOf n) d e g h = absurd (differ _ d (maps_no_queues (code_of kind) e))
  things_once rs kind (QueueOf xs) (GraphOf k) d e g h = absurd (differ _ d (graphs_no_queues (code_of kind) e))
  things_once rs kind (GraphOf k) (MapOf n) d e g h = absurd (differ _ d (maps_no_graphs (code_of kind) e))
  things_once rs kind (GraphOf k) (QueueOf ys) d e g h = absurd (differ _ e (graphs_no_queues (code_of kind) d))

  pub one_state : (rs : List Held) (a b : State) → HasStructure s unit rs a → HasStructure s unit rs b → a ≡ b
  one_state rs a b g h = by (kind_of s unit) g.of_unit h.of_unit
    where
      by : (o : Option UnitKind) → is_kind_of o a ≡ true → is_kind_of o b ≡ true → a ≡ b
      by None d e = absurd (cc)
      by (Some kind) d e = things_once rs kind a b d e g.things h.things

  -- ---- what is live decides
  module _ (rs qs : List Held) (alike : AreLiveAlike rs qs) where
    same_things : {A : Type 0} (read : List ℕ → Option A) → live_things read rs ≡ live_things read qs
    same_things read = fun_ext (λ i. ap (held_in read) (alike i))

    things_move : (state : State) → HasThings s unit rs state → HasThings s unit qs state
    things_move (MapOf m) h = subst (λ l. Shows l (finite.get m)) (same_things (pair_for s unit)) h
    things_move (QueueOf items) h = (h.0, subst (λ l. Shows l (finite.get h.0)) (same_things item_for) h.1, h.2)
    things_move (GraphOf g) h = record { parts = subst (λ l. Shows l (attribute_of g)) (same_things part_for) h.parts; ends = h.ends }

    pub structure_moves : (state : State) → HasStructure s unit rs state → HasStructure s unit qs state
    structure_moves state h = record { of_unit = h.of_unit; things = things_move state h.things }

  pub in_any_order : (rs qs : List Held) (state : State) → AreApart qs → AreSameRecords rs qs → HasStructure s unit rs state
      → HasStructure s unit qs state
  in_any_order rs qs state apart same h = structure_moves rs qs (live_order rs qs apart same) state h

  pub without_obsolete : (x : ℕ) (rs : List Held) (r : Held) (state : State) → AreApart rs → Contains rs r → IsObsolete x rs r
      → HasStructure s unit (cut_records x (without_slot r.slot rs)) state ↔ HasStructure s unit (cut_records x rs) state
  without_obsolete x rs r state apart here obsolete =
      let alike = live_drop x rs r apart here obsolete in
      let swapped = without_cut x r.slot rs in (
        λ h. structure_moves (without_slot r.slot (cut_records x rs)) (cut_records x rs) alike state
            (subst (λ (qs : List Held). HasStructure s unit qs state) swapped h),
        λ h. subst (λ (qs : List Held). HasStructure s unit qs state) (sym swapped)
            (structure_moves (cut_records x rs) (without_slot r.slot (cut_records x rs)) (λ i. sym (alike i)) state h),
      )

  -- ---- no records
  shows_none : {T V : Type 0} (read : List ℕ → Option (T × V)) (d : T → Option V) → ((t : T) → d t ≡ None) → Shows (live_things read []) d
  shows_none read d none = record {
    readable = λ i e. absurd (cc);
    found = λ i t v e. absurd (cc);
    there = λ t v e. let n = none t in absurd (cc);
    once = λ i j t v w e f. absurd (cc);
  }

  abbrev no_graph : Graph
  no_graph = record { vertices = finite.empty; edges = finite.empty }

  no_part : (t : Part) → attribute_of no_graph t ≡ None
  no_part (AtVertex v) = finite.get-empty nat_cmp v
  no_part (AtEdge e) = finite.get-empty edge_cmp e

  pub empty_structure : (kind : UnitKind) → kind_of s unit ≡ Some kind → HasStructure s unit [] (empty_state kind)
  empty_structure kinds.Map e =
      record {
        of_unit = has_kind (kind_of s unit) kinds.Map (MapOf finite.empty) e refl;
        things = shows_none (pair_for s unit) (finite.get finite.empty) (finite.get-empty key_cmp);
      }
  empty_structure kinds.Queue e =
      record {
        of_unit = has_kind (kind_of s unit) kinds.Queue (QueueOf []) e refl;
        things = items_from [] [] (record { sorted = tt; shown = shows_none item_for (λ q. None) (λ t. refl) });
      }
  empty_structure kinds.Graph e = record {
    of_unit = has_kind (kind_of s unit) kinds.Graph (GraphOf no_graph) e refl;
    things = record {
      parts = shows_none part_for (attribute_of no_graph) no_part;
      ends = λ e there. let n = ap is_some
          (finite.get-empty {X = ℕ} edge_cmp e) in absurd (cc);
    };
  }
  empty_structure kinds.Ordered e = record {
    of_unit = has_kind (kind_of s unit) kinds.Ordered (MapOf finite.empty) e refl;
    things = shows_none (pair_for s unit) (finite.get finite.empty) (finite.get-empty key_cmp);
  }

  -- ---- what effects lead to
  things_lead : (rs ws : List Held) (state : State) (op : Op) → IsOpOf s unit op → HasThings s unit rs state
      → AreEffects unit rs (step state op).effects ws → HasThings s unit (rs ++ ws) (step state op).state
  things_lead rs ws (MapOf m) op is h are = map_leads s unit rs m h op ws is are
  things_lead rs ws (QueueOf items) op is h are = queue_leads rs s unit items op ws h are
  things_lead rs ws (GraphOf g) op is h are = graph_leads unit rs g h s op ws are

  pub effects_lead : (rs ws : List Held) (state : State) (op : Op) → IsOpOf s unit op → HasStructure s unit rs state
      → AreEffects unit rs (step state op).effects ws → HasStructure s unit (rs ++ ws) (step state op).state
  effects_lead rs ws state op is h are = record {
    of_unit = kind_kept (kind_of s unit) state op ∙ h.of_unit;
    things = things_lead rs ws state op is h.things are;
  }
