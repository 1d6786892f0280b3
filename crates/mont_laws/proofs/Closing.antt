-- The first retired slot can be closed.
use Rattle.std.proofs.Common.{ℕ, ◌≤◌, List, ◌∷◌, subst}
use Rattle.std.specs.Prelude.{◌↔◌}
use Rattle.mont_base.specs.declared.record.Held.{Held}
use Rattle.mont_base.specs.Layout.{Shape}
use Rattle.mont_laws.specs.Records.{AreApart, cut_records, without_slot}
use Rattle.mont_laws.specs.Structures.{HasStructure}
use Rattle.mont_laws.specs.declared.retiring.Retired.{Retired}
use Rattle.mont_laws.specs.Retiring.{Retires, ShowSameAt}
use Rattle.mont_laws.proofs.Apart.{apart_filter}
use Rattle.mont_laws.proofs.Shown.{without_obsolete}
use Rattle.mont_laws.proofs.Due.{due_obsolete}

pub closes_first : (s : Shape) (unit x : ℕ) (rs : List Held) (t : Retired) (ts : List Retired) → AreApart rs → Retires rs (t ∷ ts)
    → t.epoch ≤ x → AreApart (without_slot t.slot rs) × Retires (without_slot t.slot rs) ts × ShowSameAt s unit x
    (without_slot t.slot rs) rs
closes_first s unit x rs t ts apart h low = (
  apart_filter rs apart _,
  h.1,
  λ state. subst
      (λ (slot : ℕ). HasStructure s unit (cut_records x (without_slot slot rs)) state
      ↔ HasStructure s unit (cut_records x rs) state) h.0.in_slot
      (without_obsolete s unit x rs h.0.due_record state apart h.0.there (due_obsolete x t.epoch rs h.0.due_record low h.0.due)),
)
