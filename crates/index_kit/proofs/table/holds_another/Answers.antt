use Rattle.std.proofs.Common.{refl, sym, ap, ◌∙◌}
use Rattle.std.specs.Prelude.{not, nat_eq}
use Rattle.std.specs.Cmp.Lexicographic.{pointwise}
use Rattle.mont_base.specs.State.{Key}
use Rattle.index_kit.proofs.Seated.{seat_read, own_free, other_mark, number_within, seat_numbered, numbered_another, numbered_own, key_read}
use Rattle.index_kit.proofs.table.holds_another.Goals as goal

pub returns-then-held-eq-FREE-clause-own : goal.returns-then-held-eq-FREE-clause-own
returns-then-held-eq-FREE-clause-own c =
    rw (seat_read c.args.entries.now c.args.cells.now c.args.at)
    (own_free _ _ c.requires.marked c.args.at c.args.key _ refl (sym c.if-held-eq-FREE.true ∙ c.mark-held.ensures))

pub returns-then-held-mark-clause-another : goal.returns-then-held-mark-clause-another
returns-then-held-mark-clause-another c =
    rw (seat_read c.args.entries.now c.args.cells.now c.args.at)
    (other_mark _ _ c.requires.marked c.args.at c.args.key _ _ refl c.mark-held.ensures c.if-held-eq-FREE.false
    (λ e. c.if-held-mark.true (e ∙ sym c.requires.mark)))

pub bounds-entries-number : goal.bounds-entries-number
bounds-entries-number c = number_within _ _ c.requires.marked c.args.at c.args.key _ _ refl c.in-Some.ensures

pub returns-in-Some-clause-another : goal.returns-in-Some-clause-another
returns-in-Some-clause-another c =
    let within = number_within _ _ c.requires.marked c.args.at c.args.key _ _ refl c.in-Some.ensures in
    let seat = seat_read c.args.entries.now c.args.cells.now c.args.at ∙ seat_numbered _ _ c.requires.marked c.args.at c.args.key _ _
    refl c.in-Some.ensures in
    let key = key_read c.args.entries.now _ c.index-entries-number.result within in
    numbered_another _ _ c.args.key _ seat _ (c.ne.ensures ∙ ap (λ (k : Key). not (pointwise nat_eq k c.args.key)) (sym key))

pub returns-in-Some-clause-own : goal.returns-in-Some-clause-own
returns-in-Some-clause-own c =
    let within = number_within _ _ c.requires.marked c.args.at c.args.key _ _ refl c.in-Some.ensures in
    let seat = seat_read c.args.entries.now c.args.cells.now c.args.at ∙ seat_numbered _ _ c.requires.marked c.args.at c.args.key _ _
    refl c.in-Some.ensures in
    let key = key_read c.args.entries.now _ c.index-entries-number.result within in
    numbered_own _ _ c.args.key _ seat _ (c.ne.ensures ∙ ap (λ (k : Key). not (pointwise nat_eq k c.args.key)) (sym key))
