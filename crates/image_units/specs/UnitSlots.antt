-- Slots that follow one another.
use Rattle.std.specs.Prelude.{◌≡◌, ℕ, ◌≤◌, Bool, true, false, ◌&&◌, nat_le, nat_lt, List, length}
use Rattle.std.specs.List.Sorted.{IsPartitionPoint}
use Rattle.mont_base.specs.declared.record.Held.{Held}

abbrev pub slot_of : Held → ℕ
slot_of r = r.slot

-- a slot stands from one to before another
abbrev pub is_between : ℕ → ℕ → ℕ → Bool
is_between first end slot = nat_le first slot && nat_lt slot end

-- those in front of a place have slots below the end, and no other one has
pub record IsPlaceOf {A : Type 0} (slot : A → ℕ) (xs : List A) (end place : ℕ) : Type 0 where
  pub inside : place ≤ length xs
  pub parts : IsPartitionPoint (λ x. nat_lt (slot x) end ≡ true) (λ x. nat_lt (slot x) end ≡ false)
      xs place
