-- A map unit as it begins.
use Rattle.std.proofs.Common.{◌≡◌, ℕ, List, sym, subst}
use Rattle.std.specs.Prelude.{None}
use Rattle.std.specs.FinMap as finite
use Rattle.mont_base.specs.declared.record.Held.{Held}
use Rattle.mont_base.specs.declared.record.Object.{Object}
use Rattle.mont_base.specs.Layout.{Shape, kind_of}
use Rattle.mont_base.specs.State.{State}
use Rattle.mont_base.specs.Structure.{IsStructure}
use Rattle.mont_base.specs.Versions.{live_objects}
use Rattle.mont_laws.specs.Records.{AreApart, live_of}
use Rattle.mont_laws.specs.Structures.{HasStructure}
use Rattle.mont_laws.proofs.Agreement.{agrees}
use Rattle.index_kit.specs.Index.{Places}
use Rattle.slots.specs.Books.{RegionShown, Agrees}
use Rattle.shard_map.specs.LiveKeys.{HoldsLiveKeys}
use Rattle.shard_map.specs.MapBeginning.{HasKeysOf}
use Rattle.shard_map.specs.MapShard.{IsMapUnit, KeepsPairs}
use Rattle.shard_map.proofs.KeyFacts.{map_state}
use Rattle.shard_map.proofs.KeysFilled.{keys_of_none, keys_filled}

-- its index has the live keys
pub unit_with : (r : RegionShown) (places : Places) (s : Shape) → r.books.layout ≡ s → KeepsPairs (kind_of s r.books.unit)
    → Agrees r → HoldsLiveKeys s r.books.unit r.seat.known.part.records places → IsMapUnit r places
unit_with r places s layout kind agrees holds = record {
  agrees = agrees;
  kind = subst (λ (t : Shape). KeepsPairs (kind_of t r.books.unit)) (sym layout) kind;
  indexed = λ _. subst (λ (t : Shape). HoldsLiveKeys t r.books.unit r.seat.known.part.records places) (sym layout) holds;
}

-- where nothing is live it is empty
pub keys_of_empty : (s : Shape) (u : ℕ) (rs : List Held) (places : Places) → ((i : ℕ) → live_of i rs ≡ None) → finite.len places ≡ 0
    → HoldsLiveKeys s u rs places
keys_of_empty s u rs places none empty = subst (HoldsLiveKeys s u rs) (sym (finite.empty_of_len places empty)) (keys_of_none s u rs none)

-- where the live objects make a map it has their keys
pub keys_of_objects : (s : Shape) (u : ℕ) (rs : List Held) (os : List Object) (state : State) (places : Places) → AreApart rs
    → KeepsPairs (kind_of s u) → os ≡ live_objects rs → IsStructure s u os state → HasKeysOf os places
    → HoldsLiveKeys s u rs places
keys_of_objects s u rs os state places apart kind are makes has =
    let shown : HasStructure s u rs state = (agrees s u rs state apart).1
    (subst (λ (zs : List Object). IsStructure s u zs state) are makes) in
    let m = map_state s u rs state kind shown in
    keys_filled s u rs apart m.0 m.2 places (subst (λ (zs : List Object). HasKeysOf zs places) are has)
