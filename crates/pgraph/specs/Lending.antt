-- What a shelf ends as, where a `&mut` to one of its values is returned.
use Rattle.std.specs.Prelude.{◌≡◌, List, Option, Some, OnSome}
use Rattle.std.specs.Borrow.{Fml, RattleType, MutBor, LendsSo}
use Rattle.std.specs.BTreeMap.Lent.{OrdMembers}
use Rattle.std.specs.HashMap.Lent.{HashMembers}
use Rattle.pgraph.specs.Shelf.{SetsValue}
use Rattle.pgraph.specs.contracts.shelf.Shelf.{the_row}

-- The name has the last value after r, and with no r the shelf stays as it is.
abbrev pub LendsValue :
    (K V : RattleType) (order : OrdMembers K.Denot) (hash : HashMembers K.Denot)
    → MutBor (List (K.Denot × V.Denot)) → K.Denot
    → Option (MutBor V.Denot) → Fml
LendsValue K V order hash s name r =
    LendsSo
    (the_row K V (record { cmp = order.cmp }) (record { eq = order.eq })
    (record { partial_cmp = order.partial_cmp })
    (record { hash_input = hash.hash_input })) V s r
    (λ n w. OnSome r (SetsValue order.cmp s.now n name (Some w))) (λ n. n ≡ s.now)
