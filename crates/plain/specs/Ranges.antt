-- What an ordered unit is asked for, in the parts in which its state finds it.
use Rattle.std.specs.Prelude.{filter, Option, Some, None}
use Rattle.std.specs.FinMap as finite
use Rattle.mont_base.specs.declared.operation.Reply.{Reply}
use Rattle.mont_base.specs.declared.operation.Reply.TheVariants as replies
use Rattle.mont_base.specs.State.{Pairs, Key, Value, Run, is_between}

abbrev pub key_of : Option (Key × Value) → Option Key
key_of None = None
key_of (Some e) = Some e.0

-- the reply that names a key
abbrev pub key_found : Option Key → Reply
key_found None = replies.Nothing
key_found (Some key) = replies.Key key

-- all pairs with a key from one to another
abbrev pub pairs_between : Pairs → Key → Key → Run
pairs_between m from to =
    filter (λ (e : Key × Value). is_between from to e.0) (finite.entries m)
