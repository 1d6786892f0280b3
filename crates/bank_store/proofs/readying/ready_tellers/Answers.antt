use Rattle.std.proofs.Common.{◌≡◌, ℕ, suc, ◌++◌, [], ◌∷◌, length, map, sym, ap, ◌∙◌, subst, arith, length-append}
use Rattle.std.specs.Prelude.{All}
use Rattle.std.specs.Vec.Iter.{into_iter_items}
use Rattle.std.proofs.lemmas.List.{length-map}
use Rattle.std.proofs.lemmas.List.Elements.{All-head, All-tail}
use Rattle.heap_rule.specs.Views.{caller_heard, note_of_caller}
use Rattle.heap.specs.HeapShown.{CallerShown}
use Rattle.bank_job.specs.Bank.{first_puts}
use Rattle.bank_job.specs.Shifts.{first_shifts}
use Rattle.store.specs.Store.{IsFirstPass}
use Rattle.bank_store.specs.OpenedAccounts.{HaveComeTo, KnowsOpening, puts_given}
use Rattle.bank_store.proofs.FirstTellers.{all_known, new_caller}
use Rattle.bank_store.proofs.ReadyTellers.{hearer_teller, new_callers, none_taken, one_taken, opener_teller, ready_more, ready_one}
use Rattle.bank_store.proofs.readying.ready_tellers.Goals as goal

pub next_pass-first-requires : goal.next_pass-first-requires
next_pass-first-requires g c =
    let n = length-map c.args.passes.items (λ p. p.ticket) in
    let m : length (map (λ p. p.ticket) c.args.passes.items) ≡ 4 = ap length c.requires.tickets.dealt in
    let e = ap length c.into_iter-passes.ensures.rest in omega (arith, n, m, e)

pub open_accounts-requires-clause-pass : goal.open_accounts-requires-clause-pass
open_accounts-requires-clause-pass g c =
    let items = sym c.into_iter-passes.ensures.rest ∙ c.next_pass-first.ensures in
    let k = one_taken (λ p. p.ticket) g.N.HeapName.heap 0 4 c.args.passes.items c.next_pass-first.result _ items c.requires.tickets.dealt in
    ap (λ (q : CallerShown). q.table) k.2

pub tell-requires : goal.tell-requires
tell-requires g c =
    let items = sym c.into_iter-passes.ensures.rest ∙ c.next_pass-first.ensures in
    let k = one_taken (λ p. p.ticket) g.N.HeapName.heap 0 4 c.args.passes.items c.next_pass-first.result _ items c.requires.tickets.dealt in
    c.in_ok-open_accounts.ensures.same.table ∙ ap (λ (q : CallerShown). q.table) k.2 ∙ sym (ap (λ h. h.table) c.heap.ensures.heap)

pub loop-pass-init : goal.loop-pass-init
loop-pass-init g c =
    let heap = g.N.HeapName.heap in
    let p = c.next_pass-first.result in
    let items = sym c.into_iter-passes.ensures.rest ∙ c.next_pass-first.ensures in
    let k = one_taken (λ x. x.ticket) heap 0 4 c.args.passes.items p _ items c.requires.tickets.dealt in
    let firsts = subst (All (IsFirstPass heap)) items c.requires.first in
    let unused = All-head (IsFirstPass heap) p _ firsts in
    let r = c.open_accounts.new.pass.ticket in
    let opened = c.in_ok-open_accounts.ensures.opened in
    let ends = opened.0 in
    let t = c.in_ok-new.field-0 in
    let made = c.in_ok-new.ensures in
    let tellers : c.push.new.self.items ≡ t ∷ [] =
    c.in_ok-push.ensures.items ∙ ap (λ ts. ts ++ t ∷ []) c.in_ok-tellers.ensures.items in
    let one = ap length tellers in
    let rest = ap into_iter_items c.into_iter-pass-iterator.ensures.into_iter_gives in
    let three = k.1 in (
      ends,
      r,
      k.0,
      r,
      record { first = p.ticket; unanswered = unused.unanswered; uncut = unused.uncut; opened = opened.1 },
      omega (arith, one),
      omega (arith, one, three),
      ap (map (λ x. x.ticket)) rest ∙ subst (λ (n : ℕ). map (λ x. x.ticket)
          (into_iter_items c.next_pass-first.new.passes) ≡ new_callers heap n k.0) (sym one) k.3,
      subst (All (IsFirstPass heap)) (sym rest) (All-tail (IsFirstPass heap) p _ firsts),
      ready_one heap c.args.number ends r c.push.new.self.items t tellers (ap (λ x. x.ticket) made.pass ∙ c.in_ok-news.ensures.ticket)
          (opener_teller heap c.args.number ends r t (ap (λ x. x.ticket) made.pass ∙ c.in_ok-news.ensures.ticket)
          (ap (λ x. x.receipts.items) made.pass ∙ ap (λ x. x.items) c.in_ok-news.ensures.receipts
          ∙ c.in_ok-open_accounts.ensures.same.whole unused.own.whole) made.shifts made.between
          (subst (λ (q : CallerShown). HaveComeTo heap q r (first_puts 8) ends) k.2 opened.1.puts) opened.1.settled),
      c.in_ok-news.ensures.news ∙ (λ i. record { table = (c.heap.ensures.heap i).table; known = note_of_caller r.known }),
      record { seen = opened.1.puts.seen; epochs = opened.1.puts.epochs; settled = opened.1.settled },
    )

pub hear-requires-clause-pass : goal.hear-requires-clause-pass
hear-requires-clause-pass g c =
    let i = c.loop-pass.invariant in
    let k = one_taken (λ x. x.ticket) g.N.HeapName.heap
    (length c.loop-pass.tellers.items) i.2 _ c.in-Some.pass _ c.in-Some.ensures.steps.0 i.7 in
    ap (λ (q : CallerShown). q.table) k.2 ∙ sym (ap (λ h. h.table) c.heap-in-loop-pass.ensures.heap)

pub hear-requires-clause-news : goal.hear-requires-clause-news
hear-requires-clause-news g c =
    ap (λ n. n.table) c.loop-pass.invariant.10 ∙ sym (ap (λ h. h.table) c.heap-in-loop-pass.ensures.heap)

pub tell-requires-in-loop-pass : goal.tell-requires-in-loop-pass
tell-requires-in-loop-pass g c =
    let i = c.loop-pass.invariant in
    let k = one_taken (λ x. x.ticket) g.N.HeapName.heap
    (length c.loop-pass.tellers.items) i.2 _ c.in-Some.pass _ c.in-Some.ensures.steps.0 i.7 in
    ap (λ (q : CallerShown). q.table) c.hear.ensures.caller ∙ ap (λ (q : CallerShown). q.table) k.2
    ∙ sym (ap (λ h. h.table) c.heap-in-loop-pass-2.ensures.heap)

pub new-requires-in-loop-pass : goal.new-requires-in-loop-pass
new-requires-in-loop-pass g c =
    let i = c.loop-pass.invariant in
    let k = one_taken (λ x. x.ticket) g.N.HeapName.heap
    (length c.loop-pass.tellers.items) i.2 _ c.in-Some.pass _ c.in-Some.ensures.steps.0 i.7 in
    let n = c.len-caller.ensures in
    let m = c.loop-pass.tellers.ok.0 in
    let some = k.1 in
    let four = i.6 in
    omega (arith, n, m, some, four)

pub loop-pass-preserved : goal.loop-pass-preserved
loop-pass-preserved g c =
    let heap = g.N.HeapName.heap in
    let i = c.loop-pass.invariant in
    let ends = i.0 in
    let q = i.3 in
    let tellers = c.loop-pass.tellers.items in
    let p = c.in-Some.pass in
    let k = one_taken (λ x. x.ticket) heap (length tellers) i.2 _ p _ c.in-Some.ensures.steps.0 i.7 in
    let firsts = subst (All (IsFirstPass heap)) c.in-Some.ensures.steps.0 i.8 in
    let unused = All-head (IsFirstPass heap) p _ firsts in
    let t = c.in_ok-new-2.field-0 in
    let made = c.in_ok-new-2.ensures in
    let len = c.len-caller.ensures in
    let ok = c.loop-pass.tellers.ok.0 in
    let number : c.len-caller.result ≡ length tellers = omega (arith, len, ok) in
    let now : c.push-in-loop-pass.new.self.items ≡ tellers ++ t ∷ [] = c.in_ok-push-2.ensures.items in
    let long = ap length now ∙ length-append tellers (t ∷ []) in
    let many : length c.push-in-loop-pass.new.self.items ≡ suc (length tellers) = omega (arith, long) in
    let some = k.1 in
    let four = i.6 in
    let told = i.10 in
    let heard : c.hear.new.pass.ticket
    ≡ record { table = heap.table; known = caller_heard (new_caller (length tellers)) (note_of_caller q.known) } =
    c.hear.ensures.caller
    ∙ (λ j. record { table = (k.2 j).table; known = caller_heard (k.2 j).known (told j).known }) in
    let ticket = ap (λ x. x.ticket) made.pass ∙ c.in_ok-news-2.ensures.ticket ∙ heard in
    let none = ap (λ (x : CallerShown). x.known.part.receipts) k.2 in (
      ends,
      i.1,
      k.0,
      c.hear.new.pass.ticket,
      i.4,
      omega (arith, many),
      omega (arith, many, some, four),
      subst (λ (n : ℕ). map (λ x. x.ticket) c.next.new.self.rest.items ≡ new_callers heap n k.0) (sym many) k.3,
      All-tail (IsFirstPass heap) p _ firsts,
      ready_more heap c.args.number ends i.1 tellers c.push-in-loop-pass.new.self.items t now i.5
          (hearer_teller heap c.args.number ends (length tellers) q.known t i.4.opened.puts.units i.11 i.5 ticket
          (ap (λ x. x.receipts.items) made.pass ∙ ap (λ x. x.items) c.in_ok-news-2.ensures.receipts
          ∙ ap (λ x. x.items) c.hear.ensures.receipts
          ∙ unused.own.whole ∙ none)
          (subst (λ (n : ℕ). t.shifts.items ≡ first_shifts c.args.number n 500) number made.shifts) made.between) i.9,
      c.in_ok-news-2.ensures.news
          ∙ (λ j. record { table = (c.heap-in-loop-pass-2.ensures.heap j).table; known = note_of_caller c.hear.new.pass.ticket.known }),
      subst (λ (x : CallerShown). KnowsOpening x.known (puts_given ends)) (sym heard)
          (all_known (length tellers) q.known (puts_given ends) i.4.opened.puts.units i.11),
    )

pub returns : goal.returns
returns g c =
    let i = c.loop-pass.invariant in
    let none = none_taken (λ x. x.ticket) g.N.HeapName.heap (length c.loop-pass.tellers.items) i.2 c.loop-pass.pass-iterator.rest.items
    (let z = c.in-None.ensures.steps.0 in omega (arith, z)) i.7 in
    let four = i.6 in
    record {
      four = omega (arith, none, four);
      ends = i.0;
      opener = i.1;
      opened = i.4;
      first = i.9.first;
      each = i.9.each;
    }
