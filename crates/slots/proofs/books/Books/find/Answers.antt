use Rattle.std.proofs.Common.{ℕ, ◌-◌, ◌*◌, ◌≤◌, List, length, refl, ap, ◌∙◌, sym, subst, arith}
use Rattle.std.specs.Prelude.{Option, slice_get}
use Rattle.std.proofs.lemmas.Option.{slice_get_read}
use Rattle.mont_base.specs.declared.record.Held.{Held}
use Rattle.slots.proofs.RowFacts.{row_found}
use Rattle.slots.proofs.books.Books.find.Goals as goal

pub returns : goal.returns
returns c =
    let own = c.self.invariant.own.layout.some_slots in
    let first = ap (λ (n : ℕ). c.self.inside.unit * n) c.slots.ensures.value in
    let behind = c.in_ok-place.ensures in
    let there = c.in_ok-row.ensures.lookup in
    c.as_ref.ensures.value
    ∙ row_found _ c.args.self.now c.self.view_is (omega (arith, own)) c.self.invariant.each c.args.slot c.in_ok-place.place
    c.in_ok-row.row.now (subst (λ (n : ℕ). n ≤ c.args.slot) first behind.0) (behind.1 ∙ ap (λ (n : ℕ). c.args.slot - n) first)
    (ap (λ (rows : List (Option Held)). slice_get rows c.in_ok-place.place) (sym c.deref.ensures.value)
    ∙ slice_get_read c.deref.result.now (length c.deref.result.now) c.in_ok-place.place c.in_ok-row.row.now refl there.3.0 there.1)
