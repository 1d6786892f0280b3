-- What is built from the live objects of a unit.
use Rattle.std.specs.Prelude.{◌≡◌, ℕ, List, [], ◌∷◌, ◌++◌, Option, Some, None, Result, Ok, Err, IfOk}
use Rattle.std.specs.declared.cmp.Ordering.{Ordering}
use Rattle.std.specs.Ordering.{nat_cmp}
use Rattle.std.specs.List.{filter_map}
use Rattle.std.specs.BTreeMap.{BTreeMap}
use Rattle.std.specs.FinMap as finite
use Rattle.mont_base.specs.declared.record.Object.{Object}
use Rattle.mont_base.specs.declared.record.ObjectFault.{ObjectFault}
use Rattle.mont_base.specs.declared.kinds.UnitKind.{UnitKind}
use Rattle.mont_base.specs.Layout.{Shape, kind_of}
use Rattle.mont_base.specs.State.{State, Pairs, edge_cmp}
use Rattle.mont_base.specs.Structure.{IsStructure, object_fault, structure_of, first_fault, map_fault, pairs_of, vertex_at, edge_at}
use Rattle.plain.specs.declared.graph_parts.GraphParts.{GraphParts}
use Rattle.plain.specs.declared.structure.BuildRefusal.{BuildRefusal}
use Rattle.plain.specs.declared.structure.BuildRefusal.TheVariants as refusals
use Rattle.plain.specs.declared.unit_state.UnitState.{UnitState}
use Rattle.plain.specs.States.{state_of}

-- the map has the entries that the bodies of these objects name
pub record HasNamed {K X : Type 0} (R : K → K → Ordering) (name : Object → Option (K × X))
    (m : BTreeMap K X) (os : List Object) : Type 0 where
  pub same : finite.from_entries {R = R} m.entries ≡ finite.from_entries (filter_map name os)

-- so have both maps of a graph
pub record HasParts (parts : GraphParts) (os : List Object) : Type 0 where
  pub vertices : HasNamed nat_cmp vertex_at parts.vertices os
  pub edges : HasNamed edge_cmp edge_at parts.edges os

-- After lower objects, whose entries the map has, an object adds its own, or it has a fault.
pub record AddsNamed {K X E : Type 0} (R : K → K → Ordering) (name : Object → Option (K × X))
    (fault_of : List Object → Option ObjectFault) (old new : BTreeMap K X) (o : Object)
    (result : Result (Option ObjectFault) E) : Type 0 where
  pub fault : IfOk result (λ f. (lower : List Object)
      → HasNamed R name old lower → f ≡ fault_of lower)
  pub added : result ≡ Ok None → (lower : List Object)
      → HasNamed R name old lower → HasNamed R name new (lower ++ o ∷ [])

-- the first fault of a unit's objects
pub record IsFirstFault (s : Shape) (unit : ℕ) (os : List Object)
    (slot : ℕ) (fault : ObjectFault) : Type 0 where
  pub kind : UnitKind
  pub of_unit : kind_of s unit ≡ Some kind
  pub first : object_fault s unit kind os ≡ Some (slot, fault)

-- the objects make some structure
abbrev pub MakesStructure : Shape → ℕ → List Object → Type 0
MakesStructure s unit os = (state : State) × IsStructure s unit os state

-- The objects of a map or of an ordered unit have no fault and are built, or the first fault is
-- answered.
pub record BuildsPairs
    (s : Shape) (unit : ℕ) (os : List Object) (result : Result Pairs BuildRefusal)
    : Type 0 where
  pub sound : IfOk result (λ m. first_fault (map_fault s unit) [] os ≡ None)
  pub made : IfOk result (λ m. m ≡ pairs_of os)
  pub refused : (slot : ℕ) (fault : ObjectFault) → result ≡ Err (refusals.Object slot fault)
      → first_fault (map_fault s unit) [] os ≡ Some (slot, fault)

-- The objects of a unit of this kind have no fault and are built, or the first fault is answered.
pub record BuildsKind (s : Shape) (unit : ℕ) (kind : UnitKind) (os : List Object)
    (result : Result UnitState BuildRefusal) : Type 0 where
  pub sound : IfOk result (λ u. object_fault s unit kind os ≡ None)
  pub made : IfOk result (λ u. state_of u ≡ structure_of kind os)
  pub refused : (slot : ℕ) (fault : ObjectFault) → result ≡ Err (refusals.Object slot fault)
      → object_fault s unit kind os ≡ Some (slot, fault)
