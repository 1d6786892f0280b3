use Rattle.std.proofs.Common.{sym, ◌∙◌, arith}
use Rattle.index_kit.proofs.Indexed.{is_empty, not_empty, number_within, free_where_some, none_shown, no_number_shown, place_shown}
use Rattle.index_kit.proofs.probe_index.ProbeIndexIndex.find.Goals as goal

pub returns-then-is_empty : goal.returns-then-is_empty
returns-then-is_empty c =
    none_shown c.self.inside.entries.items c.self.inside.cells c.self.invariant _ _ c.self.view_is
    (is_empty c.self.inside.entries.items _ c.self.inside.entries.ok.0 c.if-is_empty.ensures) c.args.key

pub number_of-requires-clause-room : goal.number_of-requires-clause-room
number_of-requires-clause-room c =
    rw c.deref.ensures.value (free_where_some c.self.inside.entries.items c.self.inside.cells c.self.invariant
    (not_empty c.self.inside.entries.items _ c.self.inside.entries.ok.0 c.if-is_empty.ensures))

pub index-requires : goal.index-requires
index-requires c =
    let entries = c.self.inside.entries.items in
    let h = c.self.invariant in
    let there = rw c.deref.ensures.value at (sym c.in_ok-number.was ∙ c.number_of.ensures) in
    let within = number_within entries c.self.inside.cells h c.args.key _ there in
    omega (arith, within, c.self.inside.entries.ok.0)

pub returns-in_err-number : goal.returns-in_err-number
returns-in_err-number c =
    let entries = c.self.inside.entries.items in
    let none = rw c.deref.ensures.value at (sym c.in_err-number.was ∙ c.number_of.ensures) in
    c.from_residual.ensures ∙ no_number_shown entries c.self.inside.cells c.self.invariant _ _ c.self.view_is c.args.key none

pub returns : goal.returns
returns c =
    let entries = c.self.inside.entries.items in
    let there = rw c.deref.ensures.value at (sym c.in_ok-number.was ∙ c.number_of.ensures) in
    place_shown entries c.self.inside.cells c.self.invariant _ _ c.self.view_is c.args.key _ there _ c.index.ensures
