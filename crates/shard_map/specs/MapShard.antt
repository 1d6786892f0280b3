-- What contracts see of a map unit, and what its type keeps.
use Rattle.std.specs.Prelude.{◌≡◌, true, Option, Some, None, refl}
use Rattle.std.specs.Coded.{Coded, code_by, coded×, coded_ℕ, coded_list}
use Rattle.std.specs.FinMap as finite
use Rattle.mont_base.specs.declared.kinds.UnitKind.{UnitKind}
use Rattle.mont_base.specs.Layout.{kind_of, keeps_pairs}
use Rattle.index_kit.specs.Index.{Places}
use Rattle.slots.specs.Books.{RegionShown, Agrees}
use Rattle.slots.specs.contracts.region.Region.{the_row as region_row}
use Rattle.shard_map.specs.LiveKeys.{HoldsLiveKeys}

-- the region, and in which slot the index has each key
pub record MapShown : Type 0 where
  pub region : RegionShown
  pub places : Places

-- it is stored as the pair of its fields
abbrev pub map_shown_code : Coded MapShown
map_shown_code =
    code_by (RegionShown × Places)
    (coded× region_row.coded (finite.code (coded_list coded_ℕ) coded_ℕ))
    (λ m. (m.region, m.places)) (λ p. record { region = p.0; places = p.1 }) (λ _. refl)

-- The index has the live keys, unless a caller was cut in the unit.
abbrev pub HasIndex : RegionShown → Places → Type 0
HasIndex r places = r.books.halted ≡ None
    → HoldsLiveKeys r.books.layout r.books.unit r.seat.known.part.records places

-- a unit of this kind, if there is one, is a map or an ordered unit
abbrev pub KeepsPairs : Option UnitKind → Type 0
KeepsPairs None = ⊥
KeepsPairs (Some kind) = keeps_pairs kind ≡ true

pub record IsMapUnit (r : RegionShown) (places : Places) : Type 0 where
  pub agrees : Agrees r
  pub kind : KeepsPairs (kind_of r.books.layout r.books.unit)
  pub indexed : HasIndex r places
