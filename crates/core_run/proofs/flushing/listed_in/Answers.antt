use Rattle.std.proofs.Common.{◌≡◌, List, length, take, ap, sym, ◌∙◌, arith, rules}
use Rattle.std.specs.Prelude.{slice_get}
use Rattle.mont_base.specs.declared.record.Held.{Held}
use Rattle.core_run.proofs.FlushPlaces.{record_listed, slots_at}
use Rattle.core_run.proofs.flushing.listed_in.Goals as goal

pub returns-then-left-eq0 : goal.returns-then-left-eq0
returns-then-left-eq0 c =
    let records : List Held = c.as_slice-held-items.result.now in
    let before : c.args.place ≡ length (slots_at c.args.epoch (take c.loop-held.held-index c.args.part.now.records)) =
    omega (arith, c.loop-held.invariant, c.if-left-eq0.true) in
    let at =
    before ∙ ap (λ (rs : List Held). length (slots_at c.args.epoch (take c.loop-held.held-index rs))) (sym c.as_slice-held-items.ensures) in
    ap (λ (rs : List Held). slice_get (slots_at c.args.epoch rs) c.args.place) (sym c.as_slice-held-items.ensures)
    ∙ ap (slice_get (slots_at c.args.epoch records)) at
    ∙ record_listed c.args.epoch records c.loop-held.held-index _ (search rules) (search rules)
