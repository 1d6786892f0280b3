use Rattle.std.proofs.Common.{get_or, map, sym, ap, ◌∙◌, arith}
use Rattle.std.specs.Prelude.{slice_get}
use Rattle.std.proofs.lemmas.Option.{slice_get-get_or}
use Rattle.core_steps.proofs.RowFacts.{row_in_map}
use Rattle.heap_pass.specs.Kept.{IsWhole}
use Rattle.job_store.proofs.CallersSynced.{all_answers, all_callers, all_keep, keep_on, keeps_synced, one_keeps, refusal_tells, sync_tells}
use Rattle.job_store.proofs.syncs.sync_for_all.Goals as goal

pub sync_one-requires : goal.sync_one-requires
sync_one-requires g c =
    let news = c.hear_others.new.passes in
    let many = c.hear_others.auto.passes in
    let some = c.requires.some in
    let at = slice_get-get_or news 0 c.index-passes-0.result (omega (arith, many, some)) in
    record { pass = (c.hear_others.ensures.callers.each 0 _ (row_in_map (λ p. p.ticket) news 0 _ at)).0 }

pub returns-clause-callers : goal.returns-clause-callers
returns-clause-callers g c =
    let news = c.hear_others.new.passes in
    let many = c.hear_others.auto.passes in
    let some = c.requires.some in
    let at = slice_get-get_or news 0 c.index-passes-0.result (omega (arith, many, some)) in
    let first = get_or news 0 c.index-passes-0.result in
    let kept = one_keeps (λ p. p.ticket) (λ p. IsWhole p.ticket p.receipts.items) news news 0 first c.sync_one.new.pass
    (all_keep (λ p. p.ticket) (λ p. IsWhole p.ticket p.receipts.items) news) at
    (keeps_synced (λ p. p.ticket) (λ p. IsWhole p.ticket p.receipts.items) first c.sync_one.new.pass c.sync_one.ensures.seen
    c.sync_one.ensures.whole) in
    all_callers (λ p. p.ticket) (λ p. IsWhole p.ticket p.receipts.items) news _ kept g.N.HeapName.heap c.hear_others.ensures.callers

pub returns-clause-seen : goal.returns-clause-seen
returns-clause-seen g c =
    let news = c.hear_others.new.passes in
    let many = c.hear_others.auto.passes in
    let some = c.requires.some in
    let at = slice_get-get_or news 0 c.index-passes-0.result (omega (arith, many, some)) in
    let first = get_or news 0 c.index-passes-0.result in
    let kept = one_keeps (λ p. p.ticket) (λ p. IsWhole p.ticket p.receipts.items) news news 0 first c.sync_one.new.pass
    (all_keep (λ p. p.ticket) (λ p. IsWhole p.ticket p.receipts.items) news) at
    (keeps_synced (λ p. p.ticket) (λ p. IsWhole p.ticket p.receipts.items) first c.sync_one.new.pass c.sync_one.ensures.seen
    c.sync_one.ensures.whole) in
    keep_on (map (λ p. p.ticket) c.args.passes.now) (map (λ p. p.ticket) news) _ c.hear_others.ensures.seen
    (all_answers (λ p. p.ticket) (λ p. IsWhole p.ticket p.receipts.items) news _ kept)

pub returns-clause-synced : goal.returns-clause-synced
returns-clause-synced g c =
    let news = c.hear_others.new.passes in
    let many = c.hear_others.auto.passes in
    let some = c.requires.some in
    let at = slice_get-get_or news 0 c.index-passes-0.result (omega (arith, many, some)) in
    sync_tells (λ p. p.ticket) (λ p. IsWhole p.ticket p.receipts.items) news (get_or news 0 c.index-passes-0.result) c.sync_one.new.pass
    c.sync_one.result at c.in_ok-hear_others.ensures.heard c.sync_one.ensures.seen c.sync_one.ensures.synced

pub returns-clause-refused : goal.returns-clause-refused
returns-clause-refused g c =
    let news = c.hear_others.new.passes in
    let many = c.hear_others.auto.passes in
    let some = c.requires.some in
    let at = slice_get-get_or news 0 c.index-passes-0.result (omega (arith, many, some)) in
    let first = get_or news 0 c.index-passes-0.result in
    refusal_tells (λ p. p.ticket) (map (λ p. p.gate) c.args.passes.now) news first c.sync_one.new.pass first.gate c.sync_one.result at
    (ap (λ gs. slice_get gs 0) (sym c.hear_others.ensures.gates) ∙ row_in_map (λ p. p.gate) news 0 first at) c.sync_one.ensures.refused
