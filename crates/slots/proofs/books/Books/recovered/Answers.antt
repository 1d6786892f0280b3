use Rattle.std.proofs.Common.{rules, ◌≡◌, ◌∙◌, ℕ, ◌+◌, ◌*◌, length, List, [], map, replicate, false, ap, arith}
use Rattle.std.specs.Prelude.{None, filter}
use Rattle.std.specs.List.{range_with_len}
use Rattle.mont_base.specs.declared.record.Held.{Held}
use Rattle.mont_laws.specs.declared.retiring.Retired.{Retired}
use Rattle.mont_laws.specs.Retiring.{retired_among}
use Rattle.slots.specs.Books.{as_written}
use Rattle.slots.specs.Finding.{marked, is_unused}
use Rattle.slots.specs.Rooms.{placed}
use Rattle.slots.proofs.Recoverings.{waits_placed, serial_low, serial_found, identity_low, rows_found, free_found}
use Rattle.slots.proofs.books.Books.recovered.Goals as goal

pub first_serial-requires-clause-waits : goal.first_serial-requires-clause-waits
first_serial-requires-clause-waits c =
    waits_placed c.args.layout c.args.unit c.slots-slots.ensures.layout c.args.records.now c.args.lost.now c.requires.found _
    (c.deref-4.ensures.value ∙ c.in_ok-retired.ensures.slots
    ∙ ap (λ (l : List Held). map (λ (t : Retired). t.slot) (retired_among l)) (c.deref-3.ensures.value ∙ c.in_ok-sorted.ensures))

pub first_serial-requires-clause-last : goal.first_serial-requires-clause-last
first_serial-requires-clause-last c =
    serial_low c.args.layout c.args.unit c.slots-slots.ensures.layout c.args.records.now c.args.lost.now c.requires.found _
    (c.deref-4.ensures.value ∙ c.in_ok-retired.ensures.slots
    ∙ ap (λ (l : List Held). map (λ (t : Retired). t.slot) (retired_among l)) (c.deref-3.ensures.value ∙ c.in_ok-sorted.ensures))

pub overflow_add-result : goal.overflow_add-result
overflow_add-result c =
    let low = identity_low c.args.layout c.args.unit c.slots-slots.ensures.layout c.args.records.now c.args.lost.now c.requires.found in
    let e = c.greatest_identity.ensures in
    grind (arith, rules)

pub returns-clause-books : goal.returns-clause-books
returns-clause-books c =
    let sorted_is = c.deref-3.ensures.value ∙ c.in_ok-sorted.ensures in
    let waiting_is = c.deref-4.ensures.value ∙ c.in_ok-retired.ensures.slots
    ∙ ap (λ (l : List Held). map (λ (t : Retired). t.slot) (retired_among l)) sorted_is in
    let rows_are = c.in_ok-rows.ensures.items
    ∙ ap (λ (n : ℕ). placed (c.args.unit * n) (replicate n None) (map (as_written []) c.args.records.now)) c.slots-slots.ensures.value in
    let open_are = c.in_ok-open.ensures.items
    ∙ ap (λ (n : ℕ). marked (c.args.unit * n) (replicate n false) c.args.lost.now) c.slots-slots.ensures.value in
    let free_are = c.in_ok-free.ensures.items
    ∙ ap (λ (n : ℕ). filter (is_unused (c.args.unit * n) c.deref.result.now c.deref-2.result.now)
    (range_with_len (c.args.unit * n) (length c.deref.result.now))) c.slots-slots.ensures.value in
    let rows_end = rows_are
    ∙ rows_found c.args.layout c.args.unit c.slots-slots.ensures.layout c.args.records.now c.args.lost.now c.requires.found in
    let free_end = free_found c.args.layout c.args.unit c.slots-slots.ensures.layout c.args.records.now c.args.lost.now c.requires.found
    c.deref.result.now c.deref-2.result.now c.in_ok-free.free.items (c.deref.ensures.value ∙ rows_are) (c.deref-2.ensures.value
    ∙ open_are) free_are in
    let retired_end = c.in_ok-retired.ensures.items ∙ ap retired_among sorted_is in
    let lost_end : c.from_vec.result.items ≡ c.args.lost.now = search rules in
    let serial_end = serial_found c.args.layout c.args.unit c.slots-slots.ensures.layout c.args.records.now c.args.lost.now c.requires.found
    _ _ waiting_is c.in_ok-serial.ensures in
    λ i. record {
      layout = c.args.layout;
      unit = c.args.unit;
      rows = rows_end i;
      free = free_end i;
      retired = retired_end i;
      lost = lost_end i;
      written = c.in_ok-with_capacity.ensures.items i;
      identity = ap (λ (n : ℕ). n + 1) c.greatest_identity.ensures i;
      serial = serial_end i;
      places = 0;
      newest = 0;
      sweeping = false;
      halted = None;
    }
