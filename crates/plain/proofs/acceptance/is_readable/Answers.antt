use Rattle.std.proofs.Common.{ℕ, ◌+◌, ◌*◌, refl, subst, arith, below_more}
use Rattle.plain.specs.Acceptable.{Reads}
use Rattle.plain.proofs.Recovered.{slot_within}
use Rattle.plain.proofs.Acceptable.{unread, each_place}
use Rattle.plain.proofs.acceptance.is_readable.Goals as goal

pub reads-requires-clause-slot : goal.reads-requires-clause-slot
reads-requires-clause-slot c =
    slot_within c.args.layout.now c.args.unit c.loop-place.place c.slots.result c.slots.ensures.value c.requires.unit (omega arith)

pub returns-then-not-reads : goal.returns-then-not-reads
returns-then-not-reads c =
    let all = unread c.args.layout.now c.args.image.now c.args.unit c.loop-place.place c.slots.result c.reads.result
    c.slots.ensures.value (omega arith) c.reads.ensures c.if-not-reads.true in
    (λ e. cc, all)

pub loop-place-preserved : goal.loop-place-preserved
loop-place-preserved c =
    let P : ℕ → Type 0 = λ place. Reads c.args.image.now c.args.unit (c.args.unit * c.args.layout.now.slots + place) in
    let Q : ℕ → Type 0 = λ slots. Reads c.args.image.now c.args.unit (c.args.unit * slots + c.loop-place.place) in
    let here : P c.loop-place.place = subst Q c.slots.ensures.value (c.reads.ensures.0 c.if-not-reads.false) in
    below_more P c.loop-place.place c.loop-place.invariant here

pub returns : goal.returns
returns c =
    let all = each_place c.args.layout.now c.args.image.now c.args.unit c.slots.ensures.layout.some_slots
    (λ place within. c.loop-place.invariant place (omega arith)) in
    (λ e. all, λ h. refl)
