-- What the gates that are made here answer when they are asked.
use Rattle.std.specs.Prelude.{◌≡◌, ℕ, suc, zero, Bool, true, false, Option, Some, None, is_none}
use Rattle.mont_base.specs.declared.gate.Fuel.{Fuel}
use Rattle.mont_base.specs.Faults.{RoseByOne}

-- a gate that never cuts
abbrev pub is_endless : Fuel → Bool
is_endless gate = is_none gate.left

-- what is left after one more step, and whether that step is cut
abbrev pub left_after : Option ℕ → Option ℕ
left_after None = None
left_after (Some zero) = Some zero
left_after (Some (suc n)) = Some n

abbrev pub is_spent : Option ℕ → Bool
is_spent (Some zero) = true
is_spent _ = false

-- the count of cuts after a step that was cut or wasn't
abbrev pub CountsCuts : Bool → ℕ → ℕ → Type 0
CountsCuts true before now = RoseByOne before now
CountsCuts false before now = now ≡ before

-- a gate with fuel passes as many steps as it has fuel for, and then cuts
pub record BurnsFuel (old new : Fuel) (cut : Bool) : Type 0 where
  pub answer : cut ≡ is_spent old.left
  pub left : new.left ≡ left_after old.left
  pub counted : CountsCuts cut old.cuts new.cuts
