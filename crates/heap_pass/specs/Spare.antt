-- How much room is left after the items of a vector.
use Rattle.std.specs.Prelude.{ℕ, ◌-◌, Vec, vec_len, vec_capacity}

abbrev pub spare_of : {X Z : Type 0} → Vec X Z → ℕ
spare_of v = vec_capacity v - vec_len v
