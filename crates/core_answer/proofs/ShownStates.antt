-- The state that records show, and that of their live objects.
use Rattle.std.proofs.Common.{◌≡◌, ℕ, List, sym, ap, ◌∙◌, subst}
use Rattle.std.specs.Prelude.{None}
use Rattle.std.proofs.lemmas.Option.{same_Some}
use Rattle.mont_base.specs.declared.kinds.UnitKind.{UnitKind}
use Rattle.mont_base.specs.declared.record.Held.{Held}
use Rattle.mont_base.specs.declared.record.Object.{Object}
use Rattle.mont_base.specs.declared.record.ObjectFault.{ObjectFault}
use Rattle.mont_base.specs.Layout.{Shape}
use Rattle.mont_base.specs.State.{State}
use Rattle.mont_base.specs.Structure.{IsStructure, object_fault}
use Rattle.mont_base.specs.Versions.{live_objects}
use Rattle.mont_laws.specs.Records.{AreApart}
use Rattle.mont_laws.specs.Structures.{HasStructure}
use Rattle.mont_laws.proofs.Agreement.{agrees}
use Rattle.plain.specs.Built.{IsFirstFault}
use Rattle.core_answer.specs.Newest.{numbered}
use Rattle.core_answer.proofs.NumberedRecords.{numbered_show, show_numbered}

-- objects with a fault make no structure
fault_makes_none : (s : Shape) (u : ℕ) (os : List Object) (state : State) (slot : ℕ) (fault : ObjectFault) → IsStructure s u os state
    → IsFirstFault s u os slot fault → ⊥
fault_makes_none s u os state slot fault is first =
    let one : is.kind ≡ first.kind = same_Some is.kind first.kind (sym is.of_unit ∙ first.of_unit) in
    let none : object_fault s u first.kind os ≡ None = ap (λ (k : UnitKind). object_fault s u k os) (sym one) ∙ is.sound in
    let some = first.first in
    absurd (cc)

module _ (s : Shape) (u : ℕ) (rs held : List Held) (os : List Object) (is : held ≡ numbered 0 rs) (apart : AreApart held)
    (live : os ≡ live_objects held) where
  -- what the objects make is shown,
  pub made_shown : (state : State) → IsStructure s u os state → HasStructure s u rs state
  made_shown state made =
      show_numbered s u rs state (subst (λ (qs : List Held). HasStructure s u qs state) is
      ((agrees s u held state apart).1 (subst (λ (ps : List Object). IsStructure s u ps state) live made)))

  -- and nothing is shown where they have a fault
  pub none_shown : (slot : ℕ) (fault : ObjectFault) → IsFirstFault s u os slot fault → (state : State) → HasStructure s u rs state → ⊥
  none_shown slot fault first state h =
      let shown = subst (λ (qs : List Held). HasStructure s u qs state) (sym is) (numbered_show s u rs state h) in
      fault_makes_none s u os state slot fault
      (subst (λ (ps : List Object). IsStructure s u ps state) (sym live) ((agrees s u held state apart).0 shown)) first
