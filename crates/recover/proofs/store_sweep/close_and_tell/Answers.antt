use Rattle.std.proofs.Common.{◌≡◌, length, take, drop, ◌++◌, refl, ap, sym, ◌∙◌, subst, arith}
use Rattle.std.specs.Prelude.{All}
use Rattle.std.proofs.lemmas.Option.{slice_get_read}
use Rattle.core_steps.specs.Places.{EachAt}
use Rattle.found_regions.specs.FoundRegion.{IsRegionFound, IsRegionSwept}
use Rattle.recover.specs.FoundTicket.{IsTicketFound}
use Rattle.recover.proofs.Indexed.{each_with}
use Rattle.recover.specs.Recovery.{AreSwept}
use Rattle.recover.proofs.Sweeps.{advancer_knows, whole_written, none_after}
use Rattle.recover.proofs.store_sweep.close_and_tell.Goals as goal

pub close_lost_slots-requires : goal.close_lost_slots-requires
close_lost_slots-requires g c =
    record { found = subst (EachAt (IsRegionFound c.args.heap.now)) (sym c.as_mut_slice.ensures.value) c.requires.found }

pub returns-in_err-close_lost_slots-clause-found : goal.returns-in_err-close_lost_slots-clause-found
returns-in_err-close_lost_slots-clause-found g c =
    let e = c.in_err-close_lost_slots.ensures in
    subst (EachAt (IsRegionFound c.args.heap.now))
    (sym (whole_written c.args.regions.now.items c.close_lost_slots.new.regions c.args.regions.now.len
    (e.many ∙ ap length c.as_mut_slice.ensures.value) (omega (arith, c.args.regions.now.ok.0)))) e.found

pub carry_notes-requires-clause-found : goal.carry_notes-requires-clause-found
carry_notes-requires-clause-found g c =
    let e = c.in_ok-close_lost_slots.ensures in
    subst (EachAt (IsRegionFound c.args.heap.now))
    (sym (c.as_mut_slice-2.ensures.value
    ∙ whole_written c.args.regions.now.items c.close_lost_slots.new.regions c.args.regions.now.len
    (e.many ∙ ap length c.as_mut_slice.ensures.value) (omega (arith, c.args.regions.now.ok.0)))) e.found

pub carry_notes-requires-clause-ticket : goal.carry_notes-requires-clause-ticket
carry_notes-requires-clause-ticket g c =
    c.requires.tickets 0 c.index_mut-ticket.result.now
    (slice_get_read c.args.tickets.now.items (length c.args.tickets.now.items) 0 c.index_mut-ticket.result.now refl c.requires.some
    c.index_mut-ticket.ensures.value)

pub returns-clause-found : goal.returns-clause-found
returns-clause-found g c =
    let old = c.args.regions.now.items in
    let new = c.close_lost_slots.new.regions in
    let len = c.args.regions.now.len in
    let same : length new ≡ length old = c.in_ok-close_lost_slots.ensures.many ∙ ap length c.as_mut_slice.ensures.value in
    let long : len ≡ length old = omega (arith, c.args.regions.now.ok.0) in
    let mid = take len (new ++ drop (length new) old) in
    let is : mid ≡ new = whole_written old new len same long in
    let kept : length mid ≡ length new = ap length is in
    subst (EachAt (IsRegionFound c.args.heap.now))
    (sym (whole_written mid c.carry_notes.new.regions len (c.carry_notes.ensures.many ∙ ap length c.as_mut_slice-2.ensures.value)
    (omega (arith, same, long, kept)))) c.carry_notes.ensures.found

pub returns-clause-tickets : goal.returns-clause-tickets
returns-clause-tickets g c =
    each_with (IsTicketFound c.args.heap.now) c.args.tickets.now.items 0 c.carry_notes.new.ticket c.requires.tickets
    c.carry_notes.ensures.ticket

pub returns-clause-swept : goal.returns-clause-swept
returns-clause-swept g c =
    let old = c.args.regions.now.items in
    let new = c.close_lost_slots.new.regions in
    let len = c.args.regions.now.len in
    let same : length new ≡ length old = c.in_ok-close_lost_slots.ensures.many ∙ ap length c.as_mut_slice.ensures.value in
    let long : len ≡ length old = omega (arith, c.args.regions.now.ok.0) in
    let mid = take len (new ++ drop (length new) old) in
    let is : mid ≡ new = whole_written old new len same long in
    let kept : length mid ≡ length new = ap length is in
    record {
      each_unit = subst (All (IsRegionSwept c.args.heap.now))
          (sym (whole_written mid c.carry_notes.new.regions len (c.carry_notes.ensures.many ∙ ap length c.as_mut_slice-2.ensures.value)
          (omega (arith, same, long, kept)))) c.carry_notes.ensures.swept;
      known = advancer_knows c.args.heap.now c.args.advancer.now c.carry_notes.new.advancer c.carry_notes.new.ticket.known
          c.carry_notes.ensures.known c.carry_notes.ensures.advancer;
    }

pub returns-clause-fewer : goal.returns-clause-fewer
returns-clause-fewer g c =
    let swept : AreSwept _ _ _ = returns-clause-swept g c in
    let none = none_after _ _ swept.each_unit in
    omega (arith, none)
