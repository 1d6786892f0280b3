use Rattle.std.proofs.Common.{◌≡◌, [], ◌∷◌, ◌++◌, length, map, sym, ◌∙◌, subst, arith}
use Rattle.std.specs.Prelude.{All, vec_len}
use Rattle.std.specs.Vec.Iter.{into_iter_items}
use Rattle.std.proofs.lemmas.List.Elements.{All-push}
use Rattle.store.proofs.Passed.{one_more_passed, none_left, one_less_each, one_is_left, one_more_mapped, has_place, has_room}
use Rattle.store.proofs.store_opening.first_passes.Goals as goal

pub next_gate-gate-requires : goal.next_gate-gate-requires
next_gate-gate-requires g c =
    one_is_left _ _ c.in-Some.ticket (into_iter_items c.loop-ticket.gates) c.in-Some.ensures.steps.0 c.loop-ticket.invariant.as_many

pub push_reserved-requires : goal.push_reserved-requires
push_reserved-requires g c =
    has_place c.loop-ticket.passes.items _ _ c.in-Some.ticket (vec_len c.loop-ticket.passes) _ c.in-Some.ensures.steps.0
    (omega (arith, c.loop-ticket.passes.ok.0)) c.loop-ticket.invariant.room

pub loop-ticket-preserved : goal.loop-ticket-preserved
loop-ticket-preserved g c =
    let i = c.loop-ticket.invariant in
    let old = c.loop-ticket.passes.items in
    let new = c.push_reserved.new.self.items in
    let push = c.push_reserved.ensures.items in
    let next = c.in-Some.ensures.steps.0 in
    let gates = into_iter_items c.loop-ticket.gates in
    let after = into_iter_items c.next_gate-gate.new.gates in
    let mapped = one_more_mapped old new c.new.result c.next_gate-gate.result (λ p. p.gate) push c.new.ensures.gate in
    record {
      callers = one_more_passed _ c.loop-ticket.yielded _ _ c.in-Some.ticket i.callers next;
      empty = subst (All (λ p. p.receipts.items ≡ [])) (sym push)
          (All-push (λ p. p.receipts.items ≡ []) old c.new.result i.empty c.new.ensures.receipts);
      tickets = one_more_mapped old new c.new.result c.in-Some.ticket (λ p. p.ticket) push c.new.ensures.ticket
          ∙ (λ j. i.tickets j ++ c.in-Some.ticket ∷ []);
      gates = (λ j. mapped j ++ after)
          ∙ one_more_passed _ (map (λ p. p.gate) old) gates after c.next_gate-gate.result i.gates c.next_gate-gate.ensures;
      as_many = one_less_each gates after c.next_gate-gate.result _ _ c.in-Some.ticket c.next_gate-gate.ensures next i.as_many;
      room = has_room old new c.new.result _ _ c.in-Some.ticket _ _ push next c.push_reserved.ensures.capacity i.room;
    }

pub returns : goal.returns
returns g c =
    let i = c.loop-ticket.invariant in
    let many = i.as_many in
    let none : length c.loop-ticket.ticket-iterator.rest.items ≡ 0 = omega (arith, c.in-None.ensures.steps.0) in
    record {
      empty = i.empty;
      tickets = i.tickets ∙ none_left _ c.loop-ticket.yielded _ i.callers none;
      gates = none_left _ (map (λ p. p.gate) c.loop-ticket.passes.items) (into_iter_items c.loop-ticket.gates) i.gates
          (omega (arith, many, none));
    }
