-- How the kinds of a store's units are kept in place.
use Rattle.std.specs.Prelude.{◌≡◌, ℕ, ◌-◌, ◌≤◌, List, [], ◌∷◌, ◌++◌, length, take, replicate}
use Rattle.mont_base.specs.declared.constants.TheConstants.{MOST_UNITS}
use Rattle.mont_base.specs.declared.kinds.UnitKind.{UnitKind}
use Rattle.mont_base.specs.declared.kinds.UnitKind.TheVariants as kinds
use Rattle.mont_base.specs.declared.kinds.Kinds.TheInside.{Inside}
use Rattle.mont_base.specs.Layout.{units_from}
use Rattle.std.proofs.Common.{sym, arith, length-take}

-- maps fill the places after the last unit
abbrev pub padded : List UnitKind → List UnitKind
padded ks = ks ++ replicate (MOST_UNITS - length ks) kinds.Map

-- how many of the units are maps
abbrev pub maps_among : List UnitKind → ℕ
maps_among ks = length (units_from 0 kinds.Map ks)

pub record KindsStand (units maps : ℕ) (of_units : List UnitKind) : Type 0 where
  pub some : 1 ≤ units
  pub few : units ≤ MOST_UNITS
  pub long : length of_units ≡ MOST_UNITS
  pub behind : of_units ≡ padded (take units of_units)
  pub counted : maps ≡ maps_among (take units of_units)

-- so many maps, a queue and a graph
abbrev pub old_kinds : ℕ → List UnitKind
old_kinds maps = replicate maps kinds.Map ++ kinds.Queue ∷ kinds.Graph ∷ []

pub inverse_of_view :
    (k : Inside) → KindsStand k.units k.maps k.of_units → record {
      of_units = padded (take k.units k.of_units);
      units = length (take k.units k.of_units);
      maps = maps_among (take k.units k.of_units);
    } ≡ k
inverse_of_view k h =
    let count : length (take k.units k.of_units) ≡ k.units =
    omega (arith, length-take k.units k.of_units, h.few, h.long) in
    λ i. record { of_units = sym h.behind i; units = count i; maps = sym h.counted i }
