use Rattle.std.proofs.Common.{sym, ◌∙◌, subst, take}
use Rattle.shard_map.specs.MapBeginning.{HasKeysOf}
use Rattle.shard_map.proofs.KeysFilled.{no_keys, next_past, next_with}
use Rattle.shard_map.proofs.map_beginning.filled.Goals.{in-Some, in_default}
use Rattle.shard_map.proofs.map_beginning.filled.Goals as goal

pub loop-object-init : goal.loop-object-init
loop-object-init g c = no_keys (g.I.Index.places c.args.index) c.requires

pub loop-object-preserved : goal.loop-object-preserved
loop-object-preserved g c =
    let held : HasKeysOf (take c.loop-object.object-index c.args.objects.now) (g.I.Index.places c.reserve.new.self) =
    subst (HasKeysOf (take c.loop-object.object-index c.args.objects.now)) (sym (c.in_ok-reserve.ensures.kept)) c.loop-object.invariant in
    elim c.match-pair_in.branch [
      | in-Some w ↦ rw (w.index-is, w.put.ensures.set)
          (next_with c.args.objects.now c.loop-object.object-index _ (g.I.Index.places c.reserve.new.self) c.loop-object-test.true held
          w.in-Some.pair (sym c.pair_in.ensures.exact ∙ w.in-Some.is))
      | in_default w ↦ rw w.index-is
          (next_past c.args.objects.now c.loop-object.object-index _ (g.I.Index.places c.reserve.new.self) c.loop-object-test.true held
          (sym c.pair_in.ensures.exact ∙ w.in_default.is))
    ]
