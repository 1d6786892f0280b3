-- Objects make one structure, or they have one first fault; an image has one list of states.
use Rattle.std.proofs.Common.{◌≡◌, ℕ, suc, List, [], ◌∷◌, length, refl, sym, ap, ◌∙◌, arith}
use Rattle.std.specs.Prelude.{Option, Some, slice_get}
use Rattle.mont_base.specs.declared.kinds.UnitKind.{UnitKind}
use Rattle.mont_base.specs.declared.record.Object.{Object}
use Rattle.mont_base.specs.declared.record.ObjectFault.{ObjectFault}
use Rattle.mont_base.specs.Image.{IsRecovered, records_of}
use Rattle.mont_base.specs.Layout.{Shape}
use Rattle.mont_base.specs.State.{State}
use Rattle.mont_base.specs.Structure.{IsStructure, object_fault, structure_of}
use Rattle.mont_base.specs.Versions.{live_objects}
use Rattle.plain.specs.Built.{IsFirstFault}

-- a unit has one kind
one_kind : (k : Option UnitKind) (a b : UnitKind) → k ≡ Some a → k ≡ Some b → a ≡ b
one_kind k a b x y = cc

module _ (s : Shape) (unit : ℕ) (os : List Object) where
  pub same_structure : (a b : State) → IsStructure s unit os a → IsStructure s unit os b → a ≡ b
  same_structure a b x y = x.made ∙ ap (λ (kind : UnitKind). structure_of kind os) (one_kind _ x.kind y.kind x.of_unit y.of_unit)
      ∙ sym y.made

  -- what has a fault makes no structure
  pub no_structure : (slot : ℕ) (fault : ObjectFault) → IsFirstFault s unit os slot fault → (state : State) × IsStructure s unit os state
      → ⊥
  no_structure slot fault x y =
      let kind = one_kind _ x.kind y.1.kind x.of_unit y.1.of_unit in
      let first = sym x.first ∙ ap (λ (k : UnitKind). object_fault s unit k os) kind ∙ y.1.sound in
      cc

-- lists with the same items are one list
equal_lists : {X : Type 0} (xs ys : List X) → length xs ≡ length ys
    → ((u : ℕ) (x y : X) → slice_get xs u ≡ Some x → slice_get ys u ≡ Some y → x ≡ y) → xs ≡ ys
equal_lists [] [] long each = refl
equal_lists [] (y ∷ ys) long each = absurd (omega (arith, long))
equal_lists (x ∷ xs) [] long each = absurd (omega (arith, long))
equal_lists (x ∷ xs) (y ∷ ys) long each =
    let first : x ≡ y = each 0 x y refl refl in
    let others : xs ≡ ys = equal_lists xs ys (omega (arith, long)) (λ u a b p q. each (suc u) a b p q) in
    cc

pub recovered_once : (s : Shape) (image : List ℕ) (ss ts : List State) → IsRecovered s image ss → IsRecovered s image ts → ss ≡ ts
recovered_once s image ss ts h i =
    equal_lists ss ts (h.0 ∙ sym i.0)
    (λ u a b p q. same_structure s u (live_objects (records_of s image u)) a b (h.1 u a p) (i.1 u b q))
