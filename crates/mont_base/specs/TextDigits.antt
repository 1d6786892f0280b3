-- The decimal digits of a number in front of the last one.
use Rattle.std.specs.Prelude.{ℕ, ◌/◌, nat_lt, List, [], if◌then◌else◌, decimal}

abbrev pub front_digits : ℕ → List ℕ
front_digits n = if nat_lt n 10 then [] else decimal (n / 10)
