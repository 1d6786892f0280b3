-- The seats of a store that was never used, and a queue of it that has no items.
use Rattle.std.proofs.Common.{◌≡◌, ℕ, zero, suc, ◌+◌, ◌<◌, List, [], ◌∷◌, ◌++◌, length, refl, sym, ap, ◌∙◌, subst, arith}
use Rattle.std.specs.Prelude.{Option, Some, None}
use Rattle.std.proofs.lemmas.List.{length_push, same_from_push}
use Rattle.mont_base.specs.declared.kinds.UnitKind.TheVariants as kinds
use Rattle.mont_base.specs.declared.operation.Op.TheVariants as ops
use Rattle.mont_base.specs.declared.operation.Reply.TheVariants.{Count}
use Rattle.mont_base.specs.declared.record.Held.{Held}
use Rattle.mont_base.specs.Layout.{Shape, units_of, kind_of}
use Rattle.mont_base.specs.State.{QueueOf, unit_of_op}
use Rattle.mont_laws.specs.Structures.{HasStructure}
use Rattle.mont_laws.proofs.Bodies.{named_kind}
use Rattle.mont_laws.proofs.SameKind.{of_one_kind}
use Rattle.mont_laws.proofs.Shown.{empty_structure}
use Rattle.core_steps.specs.declared.parts.CallerPart.{CallerPart}
use Rattle.core_steps.specs.declared.parts.UnitPart.{UnitPart}
use Rattle.core_steps.specs.declared.parts.UnitStage.TheVariants.{Idle}
use Rattle.core_steps.specs.Fresh.{fresh_unit}
use Rattle.core_steps.specs.CallAnswers.{CanRead}
use Rattle.heap_rule.specs.declared.rule.Opening.{Opening}
use Rattle.heap_rule.specs.Views.{first_unit}
use Rattle.heap.specs.FreshOpening.{fresh_opening, OpensEmpty}
use Rattle.heap.specs.HeapShown.{HeapShown, UnitShown}
use Rattle.heap.specs.Opens.{dealt_units}

-- ---- seats
-- the last of those that were dealt
last_unit : (heap : HeapShown) (o : Opening) (n : ℕ) (rest : List UnitShown) (s : UnitShown) → dealt_units heap.table o n ≡ rest ++ s ∷ []
    → (m : ℕ) × (m < n) × (dealt_units heap.table o m ≡ rest) × (s ≡ record { table = heap.table; known = first_unit o m })
last_unit heap o zero rest s e = let long = ap length e in absurd (omega (arith, long, length_push rest s))
last_unit heap o (suc n) rest s e =
    let parts = same_from_push (dealt_units heap.table o n) rest (record { table = heap.table; known = first_unit o n }) s e in
    (n, omega arith, parts.0, sym parts.1)

-- ---- a queue
-- it may answer how many items it has
pub may_count : (s : Shape) (u v : ℕ) (p : UnitPart) (q : CallerPart) → v ≡ u → unit_of_op s (ops.Len v) ≡ Some v → p.frozen ≡ None
    → p.stage ≡ Idle → p.records ≡ [] → length p.history + q.calls < 9 → CanRead s u p q (ops.Len v) (Count 0)
may_count s u v p q same named unfrozen idle empty few =
    subst (λ (w : ℕ). CanRead s w p q (ops.Len v) (Count 0)) same (record {
      unfrozen = unfrozen;
      stage = idle;
      judged = record {
        of_unit = record { of_unit = named; texts = tt };
        state = QueueOf [];
        shown = subst (λ (r : List Held). HasStructure s v r (QueueOf [])) (sym empty)
            (empty_structure s v kinds.Queue (of_one_kind (kind_of s v) kinds.Queue (named_kind s kinds.Queue v v named)));
        replies = refl;
      };
      changes = refl;
      numbers = record { place = omega arith; call = omega arith };
    })

-- ---- the seat of the last unit but one
pub second_last_unit : (heap : HeapShown) (s : Shape) (callers : ℕ) (rest mid units : List UnitShown) (q g : UnitShown)
    → OpensEmpty s callers → units ≡ dealt_units heap.table (fresh_opening s callers) (units_of s) → units ≡ mid ++ g ∷ []
    → mid ≡ rest ++ q ∷ [] → (q.table ≡ heap.table) × (q.known.part ≡ fresh_unit)
second_last_unit heap s callers rest mid units q g empty dealt last next =
    let o = fresh_opening s callers in
    let first = last_unit heap o (units_of s) mid g (sym dealt ∙ last) in
    let second = last_unit heap o first.0 rest q (first.2 ∙ next) in
    let below = first.1 in
    let lower = second.1 in
    let is = second.3 in (
      ap (λ (v : UnitShown). v.table) is,
      ap (λ (v : UnitShown). v.known.part) is ∙ empty.each_unit second.0 (omega arith),
    )
