use Rattle.std.proofs.Common.{◌≡◌, ◌-◌, length, take, drop, replicate, sym, ap, ◌∙◌, arith, length-set}
use Rattle.std.proofs.lemmas.List.{take_all}
use Rattle.mont_base.specs.declared.constants.TheConstants.{MOST_UNITS}
use Rattle.mont_base.specs.declared.kinds.UnitKind.TheVariants as kinds
use Rattle.mont_base.specs.Layout.{letters_of}
use Rattle.mont_base.proofs.Units.{letters_more, no_letter, maps_behind, filled}
use Rattle.mont_base.proofs.kinds.Kinds.of_letters.Goals as goal

pub returns-in-None : goal.returns-in-None
returns-in-None c = λ kinds is. no_letter c.args.letters.now c.loop-unit.unit (omega arith) c.in-None.ensures kinds

pub loop-unit-preserved : goal.loop-unit-preserved
loop-unit-preserved c = record {
  long = length-set c.loop-unit.of_units c.loop-unit.unit c.in-Some.kind ∙ c.loop-unit.invariant.long;
  spelled =
      letters_more c.loop-unit.of_units c.args.letters.now c.loop-unit.unit c.in-Some.kind (omega arith) (omega arith)
      c.loop-unit.invariant.spelled c.in-Some.ensures;
  behind = maps_behind c.loop-unit.of_units c.loop-unit.unit c.in-Some.kind (omega arith) (omega arith) c.loop-unit.invariant.behind;
}

pub invariant_of-result : goal.invariant_of-result
invariant_of-result c =
    let done : length c.args.letters.now ≡ c.loop-unit.unit = omega arith in
    let behind = c.loop-unit.invariant.behind ∙ ap (λ n. replicate (MOST_UNITS - n) kinds.Map) (sym done) in
    filled c.loop-unit.of_units (length c.args.letters.now) c.count_maps-maps.result (omega arith) (omega arith)
    c.loop-unit.invariant.long (ap (λ n. drop n c.loop-unit.of_units) done ∙ behind) c.count_maps-maps.ensures

pub returns : goal.returns
returns c =
    let done : length c.args.letters.now ≡ c.loop-unit.unit = omega arith in
    sym (take_all (length c.args.letters.now) c.args.letters.now (omega arith))
    ∙ ap (λ n. take n c.args.letters.now) done
    ∙ sym c.loop-unit.invariant.spelled
    ∙ ap (λ n. letters_of (take n c.loop-unit.of_units)) (sym done)
