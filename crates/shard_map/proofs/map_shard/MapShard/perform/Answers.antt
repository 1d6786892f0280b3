use Rattle.std.proofs.Common.{ap, refl}
use Rattle.shard_map.specs.MapShard.{MapShown}
use Rattle.shard_map.proofs.MapPlans.{of_put, of_get, of_del, put_shown, get_shown, del_shown}
use Rattle.shard_map.proofs.map_shard.MapShard.perform.Goals as goal

pub set-requires-clause-plan : goal.set-requires-clause-plan
set-requires-clause-plan g c = λ running. put_shown c.args.heap.now c.args.self.now.region c.self.inside.region
    (g.I.Index.places c.self.inside.index) c.self.invariant (ap (λ (m : MapShown). m.region) c.self.view_is)
    c.requires.stands c.args.op.now c.requires.op running c.in-Put.key c.in-Put.value c.find_asked-found.result c.pair_body.result
    c.reply_of-reply.result c.setting.result c.in-Put.is (
      of_put _ _ _ c.find_asked-found.ensures.value c.in-Put.value c.in-Put.is,
      of_put _ _ _ c.find_asked-found.ensures.named c.in-Put.value c.in-Put.is,
    )
    c.pair_body.ensures.words c.reply_of-reply.ensures c.setting.ensures

pub answer-requires-in-Get-clause-plan : goal.answer-requires-in-Get-clause-plan
answer-requires-in-Get-clause-plan g c = λ running. get_shown c.args.heap.now c.args.self.now.region c.self.inside.region
    (g.I.Index.places c.self.inside.index) c.self.invariant (ap (λ (m : MapShown). m.region) c.self.view_is)
    c.requires.stands c.args.op.now c.requires.op running c.in-Get.key c.find_asked-found.result c.reply_of-reply.result c.in-Get.is
    (of_get _ _ _ c.find_asked-found.ensures.value c.in-Get.is) c.reply_of-reply.ensures

pub remove-requires-clause-plan : goal.remove-requires-clause-plan
remove-requires-clause-plan g c = λ running. del_shown c.args.heap.now c.args.self.now.region c.self.inside.region
    (g.I.Index.places c.self.inside.index) c.self.invariant (ap (λ (m : MapShown). m.region) c.self.view_is)
    c.requires.stands c.args.op.now c.requires.op running c.in-Del.key c.find_asked-found.result c.reply_of-reply.result _
    c.in-Del.is
    (of_del _ _ _ c.find_asked-found.ensures.value c.in-Del.is, of_del _ _ _ c.find_asked-found.ensures.named c.in-Del.is)
    c.reply_of-reply.ensures refl
