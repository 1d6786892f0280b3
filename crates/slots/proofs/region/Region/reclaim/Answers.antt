use Rattle.slots.proofs.Gates.{asks_none, asks_more, asks_on}
use Rattle.slots.proofs.Reclaims.{goes_on, shorter, cut_short}
use Rattle.slots.proofs.Seen.{on_err, begins_at, due_seen, durable_seen}
use Rattle.slots.proofs.region.Region.reclaim.Goals as goal

pub loop-slot-init : goal.loop-slot-init
loop-slot-init g c = (
  begins_at _ _ _ _ _ c.self.view_is c.requires.heap c.requires.agrees c.requires.running c.requires.rests c.in_ok-clock.ensures.ok
      c.in_ok-clock.ensures.sound,
  asks_more g.G.Gate.cuts g.G.Gate.endless g.G.Gate.asked _ _ _ _ (asks_none g.G.Gate.cuts g.G.Gate.endless g.G.Gate.asked _)
      c.in_ok-clock.ensures.gate,
)

pub loop-slot-preserved : goal.loop-slot-preserved
loop-slot-preserved g c = (
  goes_on _ _ _ _ c.loop-slot.invariant.0 c.in-Some.slot _ (due_seen _ _ c.self-in-loop-slot.view_is _ _ c.in-Some.ensures)
      c.in_ok-close_first.ensures.ok c.in_ok-close_first.ensures.sound,
  asks_on g.G.Gate.cuts g.G.Gate.endless g.G.Gate.asked _ _ _ _ c.loop-slot.invariant.1 c.in_ok-close_first.ensures.gate,
)

pub loop-slot-smaller : goal.loop-slot-smaller
loop-slot-smaller g c =
    shorter _ _ _ _ c.loop-slot.invariant.0 c.in-Some.slot _ (due_seen _ _ c.self-in-loop-slot.view_is _ _ c.in-Some.ensures)
    c.in_ok-close_first.ensures.ok c.in_ok-close_first.ensures.sound

pub returns-in_err-close_first-clause-cut : goal.returns-in_err-close_first-clause-cut
returns-in_err-close_first-clause-cut g c = on_err _ _
    (cut_short _ _ _ _ c.loop-slot.invariant.0 c.in-Some.slot _ (due_seen _ _ c.self-in-loop-slot.view_is _ _ c.in-Some.ensures)
    c.in_err-close_first.ensures.cut (durable_seen _ c.args.self.now _ c.self.view_is c.in_ok-clock.ensures.clock))
