use Rattle.std.proofs.Common.{arith}
use Rattle.mont_base.specs.declared.kinds.UnitKind.TheVariants as kinds
use Rattle.mont_base.proofs.Units.{length-units_from-le}
use Rattle.mont_base.proofs.layout.Layout.unit_of_key.Goals as goal

pub key_number-number-requires-clause-few : goal.key_number-number-requires-clause-few
key_number-number-requires-clause-few c =
    omega (arith, c.maps.ensures.value, c.maps.ensures.layout.kinds.few, length-units_from-le 0 kinds.Map c.args.self.now.kinds)
