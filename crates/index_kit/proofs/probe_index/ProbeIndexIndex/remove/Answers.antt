use Rattle.std.proofs.Common.{◌≡◌, ◌+◌, ◌-◌, length, sym, ◌∙◌, arith}
use Rattle.index_kit.proofs.Indexed.{is_empty, not_empty, none_shown, absent_shown, places_are, number_within, free_where_some, indexed_still, no_number_shown, place_shown, taken_shown, copy_marked, copy_table, copy_room, indexed_last, places_last, indexed_without, places_indexed_without}
use Rattle.index_kit.proofs.probe_index.ProbeIndexIndex.remove.Goals as goal
use Rattle.index_kit.proofs.probe_index.ProbeIndexIndex.remove.Goals.{then-number-last, else-number-last}

pub returns-then-is_empty-clause-earlier : goal.returns-then-is_empty-clause-earlier
returns-then-is_empty-clause-earlier c =
    none_shown c.self.inside.entries.items c.self.inside.cells c.self.invariant _ _ c.self.view_is
    (is_empty c.self.inside.entries.items _ c.self.inside.entries.ok.0 c.if-is_empty.ensures) c.args.key

pub returns-then-is_empty-clause-taken : goal.returns-then-is_empty-clause-taken
returns-then-is_empty-clause-taken c =
    let none = none_shown c.self.inside.entries.items c.self.inside.cells c.self.invariant _ _ c.self.view_is
    (is_empty c.self.inside.entries.items _ c.self.inside.entries.ok.0 c.if-is_empty.ensures) c.args.key in
    absent_shown c.self.inside.entries.items c.self.inside.cells c.self.invariant _ _ c.self.view_is c.args.key none

pub take-requires-clause-room : goal.take-requires-clause-room
take-requires-clause-room c =
    rw c.deref.ensures.value (free_where_some c.self.inside.entries.items c.self.inside.cells c.self.invariant
    (not_empty c.self.inside.entries.items _ c.self.inside.entries.ok.0 c.if-is_empty.ensures))

pub invariant_of-self : goal.invariant_of-self
invariant_of-self c =
    let entries = c.self.inside.entries.items in
    let h = c.self.invariant in
    let none = rw c.deref.ensures.value at (sym c.in_err-number.was ∙ c.take.ensures.earlier) in
    indexed_still entries c.self.inside.cells h c.args.key none c.take.new.cells
    (rw c.deref.ensures.value at c.take.ensures.marked) (rw c.deref.ensures.value at c.take.ensures.table)
    (rw c.deref.ensures.value at c.take.ensures.taken) c.take.ensures.len

pub returns-in_err-number-clause-earlier : goal.returns-in_err-number-clause-earlier
returns-in_err-number-clause-earlier c =
    let entries = c.self.inside.entries.items in
    let h = c.self.invariant in
    let none = rw c.deref.ensures.value at (sym c.in_err-number.was ∙ c.take.ensures.earlier) in
    c.from_residual.ensures ∙ no_number_shown entries c.self.inside.cells h _ _ c.self.view_is c.args.key none

pub returns-in_err-number-clause-taken : goal.returns-in_err-number-clause-taken
returns-in_err-number-clause-taken c =
    let entries = c.self.inside.entries.items in
    let h = c.self.invariant in
    let none = rw c.deref.ensures.value at (sym c.in_err-number.was ∙ c.take.ensures.earlier) in
    let gone = no_number_shown entries c.self.inside.cells h _ _ c.self.view_is c.args.key none in
    places_are entries c.self.inside.cells h _ _ c.self.view_is ∙ absent_shown entries c.self.inside.cells h _ _ c.self.view_is
    c.args.key gone

pub index-requires : goal.index-requires
index-requires c =
    let entries = c.self.inside.entries.items in
    let h = c.self.invariant in
    let there = rw c.deref.ensures.value at (sym c.in_ok-number.was ∙ c.take.ensures.earlier) in
    let within = number_within entries c.self.inside.cells h c.args.key _ there in
    omega (arith, within, c.self.inside.entries.ok.0)

pub set-requires-clause-marked : goal.set-requires-clause-marked
set-requires-clause-marked c =
    let entries = c.self.inside.entries.items in
    let h = c.self.invariant in
    let there = rw c.deref.ensures.value at (sym c.in_ok-number.was ∙ c.take.ensures.earlier) in
    let marked = rw c.deref.ensures.value at c.take.ensures.marked in
    let table = rw c.deref.ensures.value at c.take.ensures.table in
    let taken = rw c.deref.ensures.value at c.take.ensures.taken in
    rw c.deref-then-number-last.ensures.value (copy_marked entries c.self.inside.cells h c.args.key _ there c.take.new.cells marked table
    taken c.take.ensures.len
    (c.len-last.result - 1) (omega (
      arith,
      c.len-last.ensures,
      c.self.inside.entries.ok.0,
      number_within entries c.self.inside.cells h
          c.args.key _ there,
    ))
    (λ s. omega (arith, s, c.if-number-last.true)) _ c.index-then-number-last.ensures)

pub set-requires-clause-table : goal.set-requires-clause-table
set-requires-clause-table c =
    let entries = c.self.inside.entries.items in
    let h = c.self.invariant in
    let there = rw c.deref.ensures.value at (sym c.in_ok-number.was ∙ c.take.ensures.earlier) in
    let marked = rw c.deref.ensures.value at c.take.ensures.marked in
    let table = rw c.deref.ensures.value at c.take.ensures.table in
    let taken = rw c.deref.ensures.value at c.take.ensures.taken in
    rw c.deref-then-number-last.ensures.value (copy_table entries c.self.inside.cells h c.args.key _ there c.take.new.cells marked table
    taken c.take.ensures.len
    (c.len-last.result - 1) (omega (
      arith,
      c.len-last.ensures,
      c.self.inside.entries.ok.0,
      number_within entries c.self.inside.cells h
          c.args.key _ there,
    ))
    (λ s. omega (arith, s, c.if-number-last.true)) _ c.index-then-number-last.ensures)

pub set-requires-clause-room : goal.set-requires-clause-room
set-requires-clause-room c =
    let entries = c.self.inside.entries.items in
    let h = c.self.invariant in
    let there = rw c.deref.ensures.value at (sym c.in_ok-number.was ∙ c.take.ensures.earlier) in
    let marked = rw c.deref.ensures.value at c.take.ensures.marked in
    let table = rw c.deref.ensures.value at c.take.ensures.table in
    let taken = rw c.deref.ensures.value at c.take.ensures.taken in
    rw c.deref-then-number-last.ensures.value (copy_room entries c.self.inside.cells h c.args.key _ there c.take.new.cells marked table
    taken c.take.ensures.len
    (c.len-last.result - 1) (omega (
      arith,
      c.len-last.ensures,
      c.self.inside.entries.ok.0,
      number_within entries c.self.inside.cells h
          c.args.key _ there,
    ))
    (λ s. omega (arith, s, c.if-number-last.true)) _ c.index-then-number-last.ensures)

pub invariant_of-self-2 : goal.invariant_of-self-2
invariant_of-self-2 c =
    let entries = c.self.inside.entries.items in
    let h = c.self.invariant in
    let there = rw c.deref.ensures.value at (sym c.in_ok-number.was ∙ c.take.ensures.earlier) in
    let marked = rw c.deref.ensures.value at c.take.ensures.marked in
    let table = rw c.deref.ensures.value at c.take.ensures.table in
    let taken = rw c.deref.ensures.value at c.take.ensures.taken in
    let end_is : c.len-last.result - 1 + 1 ≡ length entries =
    omega (arith, c.len-last.ensures, c.self.inside.entries.ok.0, number_within entries c.self.inside.cells h c.args.key _ there) in
    elim c.if-number-last.branch [
      | then-number-last w ↦
          let copy = w.deref-then-number-last.ensures.value in
          rw (c.truncate.ensures.items, w.self-inside-is) (indexed_without
          entries c.self.inside.cells h c.args.key _ there c.take.new.cells marked table taken c.take.ensures.len
          (c.len-last.result - 1) end_is (λ s. omega (arith, s, w.if-number-last.true)) _ w.index-then-number-last.ensures w.set.new.cells
          (rw copy at w.set.ensures.marked) (rw copy at w.set.ensures.table) (rw copy at w.set.ensures.numbered) w.set.ensures.len)
      | else-number-last w ↦
          let same : c.len-last.result - 1 ≡ c.in_ok-number.number = omega (arith, w.if-number-last.false) in
          rw (c.truncate.ensures.items, w.self-inside-is, same) (indexed_last
          entries c.self.inside.cells h c.args.key _ there c.take.new.cells marked table taken c.take.ensures.len (omega
          (arith, same, end_is)))
    ]

pub returns-clause-earlier : goal.returns-clause-earlier
returns-clause-earlier c =
    let entries = c.self.inside.entries.items in
    let h = c.self.invariant in
    let there = rw c.deref.ensures.value at (sym c.in_ok-number.was ∙ c.take.ensures.earlier) in
    place_shown entries c.self.inside.cells h _ _ c.self.view_is c.args.key _ there _ c.index.ensures

pub returns-clause-taken : goal.returns-clause-taken
returns-clause-taken c =
    let entries = c.self.inside.entries.items in
    let h = c.self.invariant in
    let there = rw c.deref.ensures.value at (sym c.in_ok-number.was ∙ c.take.ensures.earlier) in
    let marked = rw c.deref.ensures.value at c.take.ensures.marked in
    let table = rw c.deref.ensures.value at c.take.ensures.table in
    let taken = rw c.deref.ensures.value at c.take.ensures.taken in
    let end_is : c.len-last.result - 1 + 1 ≡ length entries =
    omega (arith, c.len-last.ensures, c.self.inside.entries.ok.0, number_within entries c.self.inside.cells h c.args.key _ there) in
    taken_shown entries c.self.inside.cells h _ _ c.self.view_is c.args.key _ (
    elim c.if-number-last.branch [
      | then-number-last w ↦
          let copy = w.deref-then-number-last.ensures.value in
          rw (c.truncate.ensures.items, w.self-inside-is) (places_indexed_without
          entries c.self.inside.cells h c.args.key _ there c.take.new.cells marked table taken c.take.ensures.len
          (c.len-last.result - 1) end_is (λ s. omega (arith, s, w.if-number-last.true)) _ w.index-then-number-last.ensures w.set.new.cells
          (rw copy at w.set.ensures.marked) (rw copy at w.set.ensures.table) (rw copy at w.set.ensures.numbered) w.set.ensures.len)
      | else-number-last w ↦
          let same : c.len-last.result - 1 ≡ c.in_ok-number.number = omega (arith, w.if-number-last.false) in
          rw (c.truncate.ensures.items, w.self-inside-is, same) (places_last
          entries c.self.inside.cells h c.args.key _ there c.take.new.cells marked table taken c.take.ensures.len (omega
          (arith, same, end_is)))
    ])
