use Rattle.std.proofs.Common.{◌≡◌, List, map, ◌∷◌, [], ◌++◌, ap, sym, ◌∙◌, subst}
use Rattle.std.specs.Prelude.{All}
use Rattle.std.proofs.lemmas.List.Elements.{All-head, All-tail}
use Rattle.std.proofs.lemmas.List.{map-append}
use Rattle.mont_base.specs.declared.operation.Receipt.{Receipt}
use Rattle.core_steps.specs.CallerClauses.{receipts_of}
use Rattle.heap.specs.HeapShown.{CallerShown}
use Rattle.heap_pass.specs.Kept.{IsWhole}
use Rattle.store_stop.specs.Headline.{parts_shown}
use Rattle.store_stop.proofs.headline.taken_apart.Goals as goal

-- one ticket more, and its receipts
one_more : (tickets more : List CallerShown) (t : CallerShown) (rows all : List (List Receipt)) (rs : List Receipt)
    → more ≡ tickets ++ t ∷ [] → all ≡ rows ++ rs ∷ [] → rs ≡ t.known.part.receipts → rows ≡ map receipts_of (parts_shown tickets)
    → all ≡ map receipts_of (parts_shown more)
one_more tickets more t rows all rs is add kept so_far =
    let parts : parts_shown more ≡ parts_shown tickets ++ t.known.part ∷ [] =
    ap parts_shown is ∙ map-append (λ (s : CallerShown). s.known.part) tickets (t ∷ []) in
    add ∙ ((λ i. so_far i ++ kept i ∷ [])
    ∙ sym (ap (map receipts_of) parts ∙ map-append receipts_of (parts_shown tickets) (t.known.part ∷ [])))

pub loop-pass-preserved : goal.loop-pass-preserved
loop-pass-preserved g c =
    let i = c.loop-pass.invariant in
    let pass = c.in-Some.pass in
    let left = subst (All (λ p. IsWhole p.ticket p.receipts.items)) c.in-Some.ensures.steps.0 i.whole in
    let tickets : c.push.new.self.items ≡ c.loop-pass.tickets.items ++ pass.ticket ∷ [] = c.in_ok-push.ensures.items in
    record {
      whole = All-tail (λ p. IsWhole p.ticket p.receipts.items) pass _ left;
      tickets = tickets ∙ (ap (λ (ts : List CallerShown). ts ++ pass.ticket ∷ []) i.tickets
          ∙ sym (map-append (λ p. p.ticket) c.loop-pass.yielded (pass ∷ [])));
      receipts = one_more c.loop-pass.tickets.items c.push.new.self.items pass.ticket c.loop-pass.receipts.items
          c.push-in-loop-pass.new.self.items c.from_vec.result tickets c.in_ok-push-2.ensures.items
          (c.from_vec.ensures ∙ All-head (λ p. IsWhole p.ticket p.receipts.items) pass _ left) i.receipts;
    }
