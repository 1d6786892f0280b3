use Rattle.std.proofs.Common.{rules, ◌∙◌}
use Rattle.std.proofs.lemmas.Option.{get_or_from_slice_get, slice_get_within}
use denote.Param.Send.{sendable}
use Rattle.std.proofs.Crossing.{crosses}
use Rattle.store_sharing.proofs.Sharing.{store_shared}
use Rattle.bank_store.proofs.ReadyTellers.{moved}
use Rattle.bank_store.proofs.side_by_side.work_each.Goals as goal

pub for_each_mut-requires-sync-F : goal.for_each_mut-requires-sync-F
for_each_mut-requires-sync-F g c κs within = search (sendable, crosses, store_shared) depth 40

pub returns : goal.returns
returns g c =
    let olds = c.args.tellers.now in
    let news = c.for_each_mut.new.s in
    record {
      many = search rules;
      each = λ place old new at there.
          let low = slice_get_within olds place old at in
          let made = (c.for_each_mut.ensures place old low).1 in
          moved g.N.HeapName.heap made.argument.now made.after_call.now old new
          (made.argument_is ∙ get_or_from_slice_get olds place old old at)
          (made.left ∙ get_or_from_slice_get news place new old there) made.call;
    }
