use Rattle.std.proofs.Common.{◌∙◌, ap, arith, length}
use Rattle.std.specs.Prelude.{map}
use Rattle.recover.proofs.Sweeps.{whole_written}
use Rattle.store_door.proofs.DoneStores.{first_each, all_behind, whole_behind, deeds_behind}
use Rattle.store_door.proofs.door.work_and_stop.Goals as goal

pub work_each-requires-after_bounds : goal.work_each-requires-after_bounds
work_each-requires-after_bounds g c κs within =
    first_each g.N.HeapName.heap c.as_mut_slice.result.now c.args.passes.items
    (ap (map (λ a. a.pass)) c.as_mut_slice.ensures.value ∙ c.in_ok-at_work.ensures.passes) c.requires.first

pub stop-requires-clause-passes : goal.stop-requires-clause-passes
stop-requires-clause-passes g c =
    all_behind g.W.Work.did g.N.HeapName.heap _ _ c.work_each.ensures c.args.passes.items c.in_ok-passes.passes.items
    (ap (map (λ a. a.pass)) c.as_mut_slice.ensures.value ∙ c.in_ok-at_work.ensures.passes)
    (c.in_ok-passes.ensures.passes ∙ ap (map (λ a. a.pass))
    (whole_written c.in_ok-at_work.at_work.items c.work_each.new.at_work c.in_ok-at_work.at_work.len
    (c.work_each.ensures.many ∙ ap length c.as_mut_slice.ensures.value) (omega (arith, c.in_ok-at_work.at_work.ok.0))))
    c.requires.all

pub stop-requires-clause-whole : goal.stop-requires-clause-whole
stop-requires-clause-whole g c =
    whole_behind g.W.Work.did g.N.HeapName.heap _ _ c.work_each.ensures c.args.passes.items c.in_ok-passes.passes.items
    (ap (map (λ a. a.pass)) c.as_mut_slice.ensures.value ∙ c.in_ok-at_work.ensures.passes)
    (c.in_ok-passes.ensures.passes ∙ ap (map (λ a. a.pass))
    (whole_written c.in_ok-at_work.at_work.items c.work_each.new.at_work c.in_ok-at_work.at_work.len
    (c.work_each.ensures.many ∙ ap length c.as_mut_slice.ensures.value) (omega (arith, c.in_ok-at_work.at_work.ok.0))))
    c.requires.first

pub returns : goal.returns
returns g c = record {
  callers = map (λ p. p.ticket) c.in_ok-passes.passes.items;
  all =
      all_behind g.W.Work.did g.N.HeapName.heap _ _ c.work_each.ensures c.args.passes.items c.in_ok-passes.passes.items
      (ap (map (λ a. a.pass)) c.as_mut_slice.ensures.value ∙ c.in_ok-at_work.ensures.passes)
      (c.in_ok-passes.ensures.passes ∙ ap (map (λ a. a.pass))
      (whole_written c.in_ok-at_work.at_work.items c.work_each.new.at_work c.in_ok-at_work.at_work.len
      (c.work_each.ensures.many ∙ ap length c.as_mut_slice.ensures.value) (omega (arith, c.in_ok-at_work.at_work.ok.0))))
      c.requires.all;
  deeds =
      deeds_behind g.W.Work.did g.N.HeapName.heap _ _ c.work_each.ensures c.args.passes.items c.in_ok-passes.passes.items
      (ap (map (λ a. a.pass)) c.as_mut_slice.ensures.value ∙ c.in_ok-at_work.ensures.passes)
      (c.in_ok-passes.ensures.passes ∙ ap (map (λ a. a.pass))
      (whole_written c.in_ok-at_work.at_work.items c.work_each.new.at_work c.in_ok-at_work.at_work.len
      (c.work_each.ensures.many ∙ ap length c.as_mut_slice.ensures.value) (omega (arith, c.in_ok-at_work.at_work.ok.0))))
      c.args.works.items c.in_ok-passes.works.items (ap (map (λ a. a.work)) c.as_mut_slice.ensures.value ∙ c.in_ok-at_work.ensures.works)
      (c.in_ok-passes.ensures.works ∙ ap (map (λ a. a.work))
      (whole_written c.in_ok-at_work.at_work.items c.work_each.new.at_work c.in_ok-at_work.at_work.len
      (c.work_each.ensures.many ∙ ap length c.as_mut_slice.ensures.value) (omega (arith, c.in_ok-at_work.at_work.ok.0))));
  base = c.in_ok-stopped.ensures.base;
  stopped = c.in_ok-stopped.ensures.stopped;
}
