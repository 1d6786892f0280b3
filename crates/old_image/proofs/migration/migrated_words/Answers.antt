use Rattle.std.proofs.Common.{◌≡◌, ℕ, ◌*◌, List, [], ◌∷◌, ◌++◌, ap, ◌∙◌, arith, below_more}
use Rattle.std.specs.List.{flat_map, range_with_len}
use Rattle.std.proofs.lemmas.Result.{err_from_is_err_and}
use Rattle.mont_base.specs.Image.{clock_of, slots_of}
use Rattle.mont_base.specs.Layout.{units_of}
use Rattle.old_image.specs.Migration.{migrated_slot}
use Rattle.old_image.specs.OldSlots.{objects_in}
use Rattle.old_image.specs.Renewal.{RenewsUnit}
use Rattle.old_image.proofs.LiveSlots.{objects_listed}
use Rattle.old_image.proofs.MigratedUnits.{refused_unit, unit_more}
use Rattle.old_image.proofs.migration.migrated_words.Goals as goal

pub loop-unit-init : goal.loop-unit-init
loop-unit-init c =
    let none : 0 ≡ 0 * c.args.layout.slots = grind arith in
    record {
      words = c.in_ok-push.ensures.items ∙ ap (λ (ws : List ℕ). ws ++ clock_of c.args.wide.now ∷ []) c.new-words.ensures.items
          ∙ ap (λ (n : ℕ). clock_of c.args.wide.now ∷ flat_map (migrated_slot c.args.layout c.args.wide.now) (range_with_len 0 n)) none;
      kept = λ unit low. absurd (omega arith);
    }

pub returns-in_err-objects-clause-refused : goal.returns-in_err-objects-clause-refused
returns-in_err-objects-clause-refused c =
    let failed = err_from_is_err_and c.from_residual-in_err-objects.result c.from_residual-in_err-objects.ensures.1 in
    rw (failed.1, failed.2) (refused_unit c.args.layout c.args.wide.now c.loop-unit.unit
    (omega (arith, c.loop-unit-test.true, c.units-unit-end.ensures.value)) c.loop-unit.invariant.kept c.in_err-objects.field-0.0
    c.in_err-objects.ensures.refused)

pub push_unit-requires-clause-objects : goal.push_unit-requires-clause-objects
push_unit-requires-clause-objects c =
    let k = c.in_ok-objects.ensures.kept in
    let least = c.units-unit-end.ensures.layout.some_slots in
    c.deref.ensures.value ∙ c.in_ok-objects.ensures.renewed k.kind k.of_unit
    ∙ objects_listed c.args.layout c.args.wide.now c.requires.size c.requires.clock c.loop-unit.unit k.kind (omega arith) k.of_unit

pub loop-unit-preserved : goal.loop-unit-preserved
loop-unit-preserved c =
    let s = c.args.layout in
    let wide = c.args.wide.now in
    let unit = c.loop-unit.unit in
    record {
      words = c.in_ok-push_unit.ensures
          ∙ ap (λ (ws : List ℕ). ws ++ flat_map (migrated_slot s wide) (slots_of s unit)) c.loop-unit.invariant.words
          ∙ unit_more (migrated_slot s wide) (clock_of wide ∷ []) unit s.slots;
      kept = below_more (λ (unit : ℕ). RenewsUnit s unit (objects_in s wide unit)) unit c.loop-unit.invariant.kept
          c.in_ok-objects.ensures.kept;
    }

pub returns-clause-words : goal.returns-clause-words
returns-clause-words c =
    let all : c.loop-unit.unit ≡ units_of c.args.layout =
    omega (arith, c.loop-unit.auto.unit-end, c.units-unit-end.ensures.value, c.loop-unit-test.false) in
    c.loop-unit.invariant.words
    ∙ ap (λ (n : ℕ). clock_of c.args.wide.now ∷ flat_map (migrated_slot c.args.layout c.args.wide.now)
    (range_with_len 0 (n * c.args.layout.slots))) all

pub returns-clause-kept : goal.returns-clause-kept
returns-clause-kept c unit inside =
    c.loop-unit.invariant.kept unit (omega (arith, inside, c.units-unit-end.ensures.value, c.loop-unit-test.false))
