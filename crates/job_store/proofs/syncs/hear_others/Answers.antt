use Rattle.std.proofs.Common.{get_or, set, length-set, sym, ap, ◌∙◌, subst, arith}
use Rattle.std.proofs.lemmas.Option.{slice_get-get_or}
use Rattle.core_steps.proofs.RowFacts.{row_in_map}
use Rattle.heap.specs.NewsShown.{NewsShown}
use Rattle.heap_rule.specs.SeenEntries.{AreFronts}
use Rattle.heap_pass.specs.Kept.{IsWhole}
use Rattle.job_store.proofs.CallersSynced.{all_answers, all_callers, all_whole, has_heard_all, keeps_heard, keeps_told, none_yet, one_keeps, one_more, same_row}
use Rattle.job_store.proofs.syncs.hear_others.Goals as goal

pub loop-place-init : goal.loop-place-init
loop-place-init g c = none_yet (λ p. p.ticket) (λ p. IsWhole p.ticket p.receipts.items) (λ p. p.gate) c.args.passes.now

pub tell-requires : goal.tell-requires
tell-requires g c =
    let l = c.loop-place in
    let at = slice_get-get_or l.passes l.place c.index-passes-place.result
    (let t = c.loop-place-test.true in let n = l.auto.passes in omega (arith, t, n)) in
    let all = all_callers (λ p. p.ticket) (λ p. IsWhole p.ticket p.receipts.items) c.args.passes.now l.passes l.invariant.kept
    g.N.HeapName.heap c.requires.callers in
    (all.each l.place _ (row_in_map (λ p. p.ticket) l.passes l.place _ at)).0 ∙ sym (ap (λ h. h.table) c.heap.ensures.heap)

pub returns-in_err-news-clause-callers : goal.returns-in_err-news-clause-callers
returns-in_err-news-clause-callers g c =
    let l = c.loop-place in
    let at = slice_get-get_or l.passes l.place c.index-passes-place.result
    (let t = c.loop-place-test.true in let n = l.auto.passes in omega (arith, t, n)) in
    let teller = get_or l.passes l.place c.index-passes-place.result in
    let told = c.tell.new.pass in
    let tells = keeps_told (λ p. p.ticket) (λ p. IsWhole p.ticket p.receipts.items) teller told c.tell.ensures.ticket
    (λ w. ap (λ v. v.items) c.tell.ensures.receipts ∙ w ∙ sym (ap (λ q. q.known.part.receipts) c.tell.ensures.ticket)) in
    let kept = one_keeps (λ p. p.ticket) (λ p. IsWhole p.ticket p.receipts.items) c.args.passes.now l.passes l.place teller told
    l.invariant.kept at tells in
    all_callers (λ p. p.ticket) (λ p. IsWhole p.ticket p.receipts.items) c.args.passes.now _ kept g.N.HeapName.heap c.requires.callers

pub returns-in_err-news-clause-whole : goal.returns-in_err-news-clause-whole
returns-in_err-news-clause-whole g c =
    let l = c.loop-place in
    let at = slice_get-get_or l.passes l.place c.index-passes-place.result
    (let t = c.loop-place-test.true in let n = l.auto.passes in omega (arith, t, n)) in
    let teller = get_or l.passes l.place c.index-passes-place.result in
    let told = c.tell.new.pass in
    let tells = keeps_told (λ p. p.ticket) (λ p. IsWhole p.ticket p.receipts.items) teller told c.tell.ensures.ticket
    (λ w. ap (λ v. v.items) c.tell.ensures.receipts ∙ w ∙ sym (ap (λ q. q.known.part.receipts) c.tell.ensures.ticket)) in
    let kept = one_keeps (λ p. p.ticket) (λ p. IsWhole p.ticket p.receipts.items) c.args.passes.now l.passes l.place teller told
    l.invariant.kept at tells in
    all_whole (λ p. p.ticket) (λ p. IsWhole p.ticket p.receipts.items) c.args.passes.now _ kept

pub returns-in_err-news-clause-gates : goal.returns-in_err-news-clause-gates
returns-in_err-news-clause-gates g c =
    let l = c.loop-place in
    let at = slice_get-get_or l.passes l.place c.index-passes-place.result
    (let t = c.loop-place-test.true in let n = l.auto.passes in omega (arith, t, n)) in
    same_row (λ p. p.gate) l.passes l.place _ c.tell.new.pass at c.tell.ensures.gate ∙ l.invariant.gates

pub returns-in_err-news-clause-seen : goal.returns-in_err-news-clause-seen
returns-in_err-news-clause-seen g c =
    let l = c.loop-place in
    let at = slice_get-get_or l.passes l.place c.index-passes-place.result
    (let t = c.loop-place-test.true in let n = l.auto.passes in omega (arith, t, n)) in
    let teller = get_or l.passes l.place c.index-passes-place.result in
    let told = c.tell.new.pass in
    let tells = keeps_told (λ p. p.ticket) (λ p. IsWhole p.ticket p.receipts.items) teller told c.tell.ensures.ticket
    (λ w. ap (λ v. v.items) c.tell.ensures.receipts ∙ w ∙ sym (ap (λ q. q.known.part.receipts) c.tell.ensures.ticket)) in
    let kept = one_keeps (λ p. p.ticket) (λ p. IsWhole p.ticket p.receipts.items) c.args.passes.now l.passes l.place teller told
    l.invariant.kept at tells in
    all_answers (λ p. p.ticket) (λ p. IsWhole p.ticket p.receipts.items) c.args.passes.now _ kept

pub hear-requires-clause-pass : goal.hear-requires-clause-pass
hear-requires-clause-pass g c =
    let l = c.loop-place in
    let at = slice_get-get_or l.passes l.place c.index-passes-place.result
    (let t = c.loop-place-test.true in let n = l.auto.passes in omega (arith, t, n)) in
    let teller = get_or l.passes l.place c.index-passes-place.result in
    let told = c.tell.new.pass in
    let tells = keeps_told (λ p. p.ticket) (λ p. IsWhole p.ticket p.receipts.items) teller told c.tell.ensures.ticket
    (λ w. ap (λ v. v.items) c.tell.ensures.receipts ∙ w ∙ sym (ap (λ q. q.known.part.receipts) c.tell.ensures.ticket)) in
    let kept = one_keeps (λ p. p.ticket) (λ p. IsWhole p.ticket p.receipts.items) c.args.passes.now l.passes l.place teller told
    l.invariant.kept at tells in
    let at_first = slice_get-get_or (set l.passes l.place told) 0 c.index-passes-0.result
    (let many = length-set l.passes l.place told in let n = l.auto.passes in let some = c.requires.some in omega (arith, many, n, some)) in
    let all = all_callers (λ p. p.ticket) (λ p. IsWhole p.ticket p.receipts.items) c.args.passes.now _ kept g.N.HeapName.heap
    c.requires.callers in
    (all.each 0 _ (row_in_map (λ p. p.ticket) (set l.passes l.place told) 0 _ at_first)).0
    ∙ sym (ap (λ h. h.table) c.heap-in-loop-place.ensures.heap)

pub loop-place-preserved : goal.loop-place-preserved
loop-place-preserved g c =
    let l = c.loop-place in
    let at = slice_get-get_or l.passes l.place c.index-passes-place.result
    (let t = c.loop-place-test.true in let n = l.auto.passes in omega (arith, t, n)) in
    let teller = get_or l.passes l.place c.index-passes-place.result in
    let told = c.tell.new.pass in
    let tells = keeps_told (λ p. p.ticket) (λ p. IsWhole p.ticket p.receipts.items) teller told c.tell.ensures.ticket
    (λ w. ap (λ v. v.items) c.tell.ensures.receipts ∙ w ∙ sym (ap (λ q. q.known.part.receipts) c.tell.ensures.ticket)) in
    let at_first = slice_get-get_or (set l.passes l.place told) 0 c.index-passes-0.result
    (let many = length-set l.passes l.place told in let n = l.auto.passes in let some = c.requires.some in omega (arith, many, n, some)) in
    let first = get_or (set l.passes l.place told) 0 c.index-passes-0.result in
    let heard = c.hear.new.pass in
    let news = c.in_ok-news.news in
    let hears = keeps_heard (λ p. p.ticket) (λ p. IsWhole p.ticket p.receipts.items) first heard news.known c.hear.ensures.caller
    c.hear.ensures.seen.own
    c.hear.ensures.greater
    (λ w. ap (λ v. v.items) c.hear.ensures.receipts ∙ w ∙ sym (ap (λ q. q.known.part.receipts) c.hear.ensures.caller)) in
    one_more (λ p. p.ticket) (λ p. IsWhole p.ticket p.receipts.items) (λ p. p.gate) c.args.passes.now l.passes l.place teller told first
    heard
    l.invariant l.auto.place at at_first tells hears c.tell.ensures.gate c.hear.ensures.gate
    (ap (λ q. q.known.entries) c.tell.ensures.ticket) c.hear.ensures.seen.own
    (subst (λ (n : NewsShown). AreFronts heard.ticket.known.entries n.known.entries) c.in_ok-news.ensures.news c.hear.ensures.seen.others)

pub returns-clause-callers : goal.returns-clause-callers
returns-clause-callers g c =
    all_callers (λ p. p.ticket) (λ p. IsWhole p.ticket p.receipts.items) c.args.passes.now c.loop-place.passes c.loop-place.invariant.kept
    g.N.HeapName.heap c.requires.callers

pub returns-clause-whole : goal.returns-clause-whole
returns-clause-whole g c =
    all_whole (λ p. p.ticket) (λ p. IsWhole p.ticket p.receipts.items) c.args.passes.now c.loop-place.passes c.loop-place.invariant.kept

pub returns-clause-seen : goal.returns-clause-seen
returns-clause-seen g c =
    all_answers (λ p. p.ticket) (λ p. IsWhole p.ticket p.receipts.items) c.args.passes.now c.loop-place.passes c.loop-place.invariant.kept

pub returns-clause-heard : goal.returns-clause-heard
returns-clause-heard g c =
    let l = c.loop-place in
    has_heard_all (λ p. p.ticket) (λ p. IsWhole p.ticket p.receipts.items) l.passes l.place
    (let t = c.loop-place-test.false in let n = l.auto.passes in omega (arith, t, n))
    (let n = l.auto.passes in let some = c.requires.some in omega (arith, n, some)) l.invariant.heard
