-- The objects of a unit, by their bodies of the first version and by those of now.
use Rattle.std.proofs.Common.{◌≡◌, ℕ, List, [], ◌∷◌, ◌++◌, map, refl, sym, ap, ◌∙◌, subst, append-nil, inl, inr, ◌⊎◌}
use Rattle.std.specs.Prelude.{Option, Some, None, All}
use Rattle.mont_base.specs.declared.kinds.UnitKind.{UnitKind}
use Rattle.mont_base.specs.declared.kinds.UnitKind.TheVariants as kinds
use Rattle.mont_base.specs.declared.record.Object.{Object}
use Rattle.mont_base.specs.declared.record.ObjectFault.{ObjectFault}
use Rattle.mont_base.specs.declared.record.ObjectFault.TheVariants as faults
use Rattle.mont_base.specs.Layout.{Shape, is_of_kind, kind_of}
use Rattle.mont_base.specs.Structure.{first_fault, map_fault, object_fault, structure_of}
use Rattle.mont_image.specs.StoredImage.{IsOldKinds}
use Rattle.plain.specs.Built.{IsFirstFault, MakesStructure}
use Rattle.image_units.specs.declared.recovery_refusal.RecoverRefusal.{RecoverRefusal}
use Rattle.image_units.specs.declared.recovery_refusal.RecoverRefusal.TheVariants as refusals
use Rattle.old_image.specs.OldStructure.{IsFirstOldFault, old_map_fault, old_object_fault, old_structure_of, renewed_object}
use Rattle.old_image.specs.Renewal.{AreFrontPairs, AreRenewed, EndsAt, HoldsNumbers, IsObjectRefusal, IsOldObjectRefusal, RenewsUnit}
use Rattle.old_image.proofs.Fronts.{fault_behind, fault_of_front, front_fault, same_map}

-- a unit has one kind
pub one_kind : (k : Option UnitKind) (a b : UnitKind) → k ≡ Some a → k ≡ Some b → a ≡ b
one_kind k a b x y = cc

module _ (s : Shape) (unit : ℕ) (os : List Object) (kind : UnitKind) (of_unit : kind_of s unit ≡ Some kind) where
  pub sound_is : MakesStructure s unit os → object_fault s unit kind os ≡ None
  sound_is m = ap (λ (k : UnitKind). object_fault s unit k os) (one_kind (kind_of s unit) kind m.1.kind of_unit m.1.of_unit) ∙ m.1.sound

  pub first_is : (slot : ℕ) (fault : ObjectFault) → IsFirstFault s unit os slot fault → object_fault s unit kind os ≡ Some (slot, fault)
  first_is slot fault f =
      ap (λ (k : UnitKind). object_fault s unit k os) (one_kind (kind_of s unit) kind f.kind of_unit f.of_unit) ∙ f.first

-- ---- maps
module _ (s : Shape) (unit : ℕ) (old : IsOldKinds s.kinds) (of_unit : kind_of s unit ≡ Some kinds.Map)
    (os pairs : List Object) (spare : Option ℕ) (f : AreFrontPairs os pairs spare) where
  fault_is : first_fault (old_map_fault s unit) [] f.front ≡ object_fault s unit kinds.Map pairs
  fault_is = sym (front_fault s unit old (ap (λ (o : Option UnitKind). is_of_kind o kinds.Ordered) of_unit) f.front f.numbers)
      ∙ ap (first_fault (map_fault s unit) []) (sym f.pairs_are)

  sound_front : MakesStructure s unit pairs → first_fault (old_map_fault s unit) [] f.front ≡ None
  sound_front m = fault_is ∙ sound_is s unit pairs kinds.Map of_unit m

  first_of : (slot : ℕ) (fault : ObjectFault) → first_fault (old_map_fault s unit) [] os ≡ Some (slot, fault)
      → IsFirstOldFault s unit os slot fault
  first_of slot fault first = record { kind = kinds.Map; of_unit = of_unit; first = first }

  pub refused_pairs : (refusal : RecoverRefusal) → IsObjectRefusal s unit pairs refusal → IsOldObjectRefusal s unit os refusal
  refused_pairs (refusals.Slot slot fault) h = h
  refused_pairs (refusals.Twice slot other) h = h
  refused_pairs (refusals.Object u slot fault) h = (
    h.0,
    first_of slot fault (ap (first_fault (old_map_fault s unit) []) f.all
        ∙ fault_of_front s unit f.front f.behind (slot, fault) (fault_is ∙ first_is s unit pairs kinds.Map of_unit slot fault h.1)),
  )
  refused_pairs refusals.Memory h = tt

  pub refused_spare : (slot : ℕ) → spare ≡ Some slot → MakesStructure s unit pairs → IsFirstOldFault s unit os slot faults.Spare
  refused_spare slot is m = by f.behind f.all (subst (λ (o : Option ℕ). EndsAt o f.behind) is f.ends)
    where
      by : (behind : List Object) → os ≡ f.front ++ behind → EndsAt (Some slot) behind → IsFirstOldFault s unit os slot faults.Spare
      by [] all ends = absurd ends
      by (o ∷ rest) all ends = first_of slot faults.Spare (ap (first_fault (old_map_fault s unit) []) all
          ∙ fault_behind s unit f.front o rest (sound_front m) ends.1 ∙ ap (λ (n : ℕ). Some (n, faults.Spare)) ends.0)

  all_front : spare ≡ None → os ≡ f.front
  all_front is = f.all ∙ ap (λ (behind : List Object). f.front ++ behind) (subst (λ (o : Option ℕ). EndsAt o f.behind) is f.ends)
      ∙ append-nil f.front

  pub pairs_of_all : spare ≡ None → pairs ≡ map (renewed_object kinds.Map) os
  pairs_of_all is = f.pairs_are ∙ ap (map (renewed_object kinds.Map)) (sym (all_front is))

  pub kept_map : spare ≡ None → MakesStructure s unit pairs → RenewsUnit s unit os
  kept_map is m = record {
    kind = kinds.Map;
    of_unit = of_unit;
    sound_old = ap (first_fault (old_map_fault s unit) []) (all_front is) ∙ sound_front m;
    sound_now = ap (object_fault s unit kinds.Map) (sym (pairs_of_all is)) ∙ sound_is s unit pairs kinds.Map of_unit m;
    same = same_map os (subst (All HoldsNumbers) (sym (all_front is)) f.numbers);
  }

pub renewed_map : (s : Shape) (unit : ℕ) (os now : List Object) → kind_of s unit ≡ Some kinds.Map → now ≡ map (renewed_object kinds.Map) os
    → AreRenewed s unit os now
renewed_map s unit os now of_unit is kind of_kind =
    is ∙ ap (λ (k : UnitKind). map (renewed_object k) os) (one_kind (kind_of s unit) kinds.Map kind of_unit of_kind)

-- ---- queues, graphs and ordered units
queue_same : (os : List Object) → map (renewed_object kinds.Queue) os ≡ os
queue_same [] = refl
queue_same (o ∷ os) = ap (λ (rest : List Object). o ∷ rest) (queue_same os)

graph_same : (os : List Object) → map (renewed_object kinds.Graph) os ≡ os
graph_same [] = refl
graph_same (o ∷ os) = ap (λ (rest : List Object). o ∷ rest) (graph_same os)

ordered_same : (os : List Object) → map (renewed_object kinds.Ordered) os ≡ os
ordered_same [] = refl
ordered_same (o ∷ os) = ap (λ (rest : List Object). o ∷ rest) (ordered_same os)

-- their bodies stay
abbrev pub IsPlain : UnitKind → Type 0
IsPlain kinds.Map = ⊥
IsPlain kinds.Queue = Unit {0}
IsPlain kinds.Graph = Unit {0}
IsPlain kinds.Ordered = Unit {0}

pub plain_is : (kind : UnitKind) → (kind ≡ kinds.Queue) ⊎ (kind ≡ kinds.Graph) ⊎ (kind ≡ kinds.Ordered) → IsPlain kind
plain_is kind (inl is) = subst IsPlain (sym is) tt
plain_is kind (inr (inl is)) = subst IsPlain (sym is) tt
plain_is kind (inr (inr is)) = subst IsPlain (sym is) tt

same_plain : (kind : UnitKind) → IsPlain kind → (os : List Object) → map (renewed_object kind) os ≡ os
same_plain kinds.Map h os = absurd h
same_plain kinds.Queue h os = queue_same os
same_plain kinds.Graph h os = graph_same os
same_plain kinds.Ordered h os = ordered_same os

fault_plain : (s : Shape) (unit : ℕ) (kind : UnitKind) → IsPlain kind → (os : List Object)
    → old_object_fault s unit kind os ≡ object_fault s unit kind os
fault_plain s unit kinds.Map h os = absurd h
fault_plain s unit kinds.Queue h os = refl
fault_plain s unit kinds.Graph h os = refl
fault_plain s unit kinds.Ordered h os = refl

structure_plain : (kind : UnitKind) → IsPlain kind → (os : List Object) → structure_of kind os ≡ old_structure_of kind os
structure_plain kinds.Map h os = absurd h
structure_plain kinds.Queue h os = refl
structure_plain kinds.Graph h os = refl
structure_plain kinds.Ordered h os = refl

module _ (s : Shape) (unit : ℕ) (os : List Object) (kind : UnitKind) (plain : IsPlain kind) (of_unit : kind_of s unit ≡ Some kind) where
  pub kept_plain : MakesStructure s unit os → RenewsUnit s unit os
  kept_plain m = let sound = sound_is s unit os kind of_unit m in record {
    kind = kind;
    of_unit = of_unit;
    sound_old = fault_plain s unit kind plain os ∙ sound;
    sound_now = ap (object_fault s unit kind) (same_plain kind plain os) ∙ sound;
    same = ap (structure_of kind) (same_plain kind plain os) ∙ structure_plain kind plain os;
  }

  pub renewed_plain : AreRenewed s unit os os
  renewed_plain k of_kind = sym (same_plain kind plain os) ∙ ap (λ (j : UnitKind). map (renewed_object j) os)
      (one_kind (kind_of s unit) kind k of_unit of_kind)

  pub refused_plain : (refusal : RecoverRefusal) → IsObjectRefusal s unit os refusal → IsOldObjectRefusal s unit os refusal
  refused_plain (refusals.Slot slot fault) h = h
  refused_plain (refusals.Twice slot other) h = h
  refused_plain (refusals.Object u slot fault) h = (
    h.0,
    record {
      kind = kind;
      of_unit = of_unit;
      first = fault_plain s unit kind plain os ∙ first_is s unit os kind of_unit slot fault h.1;
    },
  )
  refused_plain refusals.Memory h = tt
