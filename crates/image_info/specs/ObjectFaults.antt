-- How objects are judged, one after the other, by the names that lower ones have.
use Rattle.std.specs.Prelude.{◌≡◌, ℕ, List, [], ◌∷◌, ◌++◌, Option, Result, IfOk, OnOk, is_some}
use Rattle.std.specs.declared.cmp.Ordering.{Ordering}
use Rattle.std.specs.List.{list_any}
use Rattle.std.specs.Ordering.{eq_by_cmp, nat_cmp}
use Rattle.std.specs.BTreeMap as tree
use Rattle.mont_base.specs.declared.record.Object.{Object}
use Rattle.mont_base.specs.declared.record.ObjectFault.{ObjectFault}
use Rattle.mont_base.specs.State.{edge_cmp}
use Rattle.mont_base.specs.Structure.{edge_at, names, vertex_at}
use Rattle.image_info.specs.declared.graph_faults.PartJudge.{PartJudge}

-- the map has just the names of these objects
pub record HasNames {K X : Type 0} (R : K → K → Ordering) (name : Object → Option (K × X))
    (m : tree.BTreeMap K ℕ) (os : List Object) : Type 0 where
  pub told :
      (k : K)
      → is_some (tree.get R m k) ≡ list_any (λ (o : Object). names (eq_by_cmp R k) (name o)) os

-- the names of vertices and of edges
pub record HasPartNames (parts : PartJudge) (os : List Object) : Type 0 where
  pub vertices : HasNames nat_cmp vertex_at parts.vertices os
  pub edges : HasNames edge_cmp edge_at parts.edges os

-- After lower objects, whose names the map has, an object's fault is told, and its own name is
-- added.
pub record JudgesNamed {K X E : Type 0} (R : K → K → Ordering) (name : Object → Option (K × X))
    (fault_of : List Object → Option ObjectFault) (old new : tree.BTreeMap K ℕ) (o : Object)
    (result : Result (Option ObjectFault) E) : Type 0 where
  pub fault : IfOk result
      (λ f. (lower : List Object) → HasNames R name old lower → f ≡ fault_of lower)
  pub known : OnOk result ((lower : List Object) → HasNames R name old lower
      → HasNames R name new (lower ++ o ∷ []))
