use Rattle.std.proofs.Common.{arith}
use Rattle.mont_base.specs.declared.kinds.UnitKind.TheVariants as kinds
use Rattle.mont_base.proofs.Units.{length-units_from-le}
use Rattle.mont_base.proofs.layout.Layout.keeper.Goals as goal

pub key_number-requires-clause-few : goal.key_number-requires-clause-few
key_number-requires-clause-few c =
    omega (arith, c.maps-maps.ensures.value, c.maps-maps.ensures.layout.kinds.few, length-units_from-le 0 kinds.Map c.args.self.now.kinds)
