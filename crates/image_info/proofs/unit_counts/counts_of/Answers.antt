use Rattle.std.proofs.Common.{arith}
use Rattle.image_info.proofs.Counted.{are_counts, beyond_fits, deletes_fit, free_fits, kept_fits, lives_fit, record_parts}
use Rattle.image_info.proofs.unit_counts.counts_of.Goals as goal

pub overflow_sub-result : goal.overflow_sub-result
overflow_sub-result c =
    let parts = record_parts c.args.layout c.args.wide.now c.args.unit _ _ _ _ c.len-kept.result c.len-live.result
    c.anti_payloads-anti_payloads.result c.in_ok-held.ensures (omega (arith, c.len-kept.ensures, c.in_ok-held.held.ok.0))
    c.deref.ensures.value c.in_ok-live_objects.ensures (omega (arith, c.len-live.ensures, c.in_ok-live_objects.field-0.ok.0))
    c.deref-2.ensures.value c.anti_payloads-anti_payloads.ensures in
    lives_fit c.args.layout c.args.wide.now c.args.unit _ _ _ parts

pub overflow_sub-result-2 : goal.overflow_sub-result-2
overflow_sub-result-2 c =
    let parts = record_parts c.args.layout c.args.wide.now c.args.unit _ _ _ _ c.len-kept.result c.len-live.result
    c.anti_payloads-anti_payloads.result c.in_ok-held.ensures (omega (arith, c.len-kept.ensures, c.in_ok-held.held.ok.0))
    c.deref.ensures.value c.in_ok-live_objects.ensures (omega (arith, c.len-live.ensures, c.in_ok-live_objects.field-0.ok.0))
    c.deref-2.ensures.value c.anti_payloads-anti_payloads.ensures in
    deletes_fit c.args.layout c.args.wide.now c.args.unit _ _ _ parts

pub overflow_sub-result-3 : goal.overflow_sub-result-3
overflow_sub-result-3 c =
    let parts = record_parts c.args.layout c.args.wide.now c.args.unit _ _ _ _ c.len-kept.result c.len-live.result
    c.anti_payloads-anti_payloads.result c.in_ok-held.ensures (omega (arith, c.len-kept.ensures, c.in_ok-held.held.ok.0))
    c.deref.ensures.value c.in_ok-live_objects.ensures (omega (arith, c.len-live.ensures, c.in_ok-live_objects.field-0.ok.0))
    c.deref-2.ensures.value c.anti_payloads-anti_payloads.ensures in
    free_fits c.args.layout c.args.wide.now c.args.unit _ _ _ parts _ _ _
    (record { all_free = c.free_slots-free.ensures; all_beyond = c.lost_slots-beyond.ensures; all_slots = c.slots.ensures.value })

pub overflow_sub-result-4 : goal.overflow_sub-result-4
overflow_sub-result-4 c =
    let parts = record_parts c.args.layout c.args.wide.now c.args.unit _ _ _ _ c.len-kept.result c.len-live.result
    c.anti_payloads-anti_payloads.result c.in_ok-held.ensures (omega (arith, c.len-kept.ensures, c.in_ok-held.held.ok.0))
    c.deref.ensures.value c.in_ok-live_objects.ensures (omega (arith, c.len-live.ensures, c.in_ok-live_objects.field-0.ok.0))
    c.deref-2.ensures.value c.anti_payloads-anti_payloads.ensures in
    beyond_fits c.args.layout c.args.wide.now c.args.unit _ _ _ parts _ _ _
    (record { all_free = c.free_slots-free.ensures; all_beyond = c.lost_slots-beyond.ensures; all_slots = c.slots.ensures.value })

pub overflow_sub-result-5 : goal.overflow_sub-result-5
overflow_sub-result-5 c =
    let parts = record_parts c.args.layout c.args.wide.now c.args.unit _ _ _ _ c.len-kept.result c.len-live.result
    c.anti_payloads-anti_payloads.result c.in_ok-held.ensures (omega (arith, c.len-kept.ensures, c.in_ok-held.held.ok.0))
    c.deref.ensures.value c.in_ok-live_objects.ensures (omega (arith, c.len-live.ensures, c.in_ok-live_objects.field-0.ok.0))
    c.deref-2.ensures.value c.anti_payloads-anti_payloads.ensures in
    kept_fits c.args.layout c.args.wide.now c.args.unit _ _ _ parts _ _ _
    (record { all_free = c.free_slots-free.ensures; all_beyond = c.lost_slots-beyond.ensures; all_slots = c.slots.ensures.value })

pub returns : goal.returns
returns c =
    let parts = record_parts c.args.layout c.args.wide.now c.args.unit _ _ _ _ c.len-kept.result c.len-live.result
    c.anti_payloads-anti_payloads.result c.in_ok-held.ensures (omega (arith, c.len-kept.ensures, c.in_ok-held.held.ok.0))
    c.deref.ensures.value c.in_ok-live_objects.ensures (omega (arith, c.len-live.ensures, c.in_ok-live_objects.field-0.ok.0))
    c.deref-2.ensures.value c.anti_payloads-anti_payloads.ensures in
    are_counts c.args.layout c.args.wide.now c.args.unit _ _ _ parts _ _ _
    (record { all_free = c.free_slots-free.ensures; all_beyond = c.lost_slots-beyond.ensures; all_slots = c.slots.ensures.value })
