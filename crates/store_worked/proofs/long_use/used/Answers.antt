use Rattle.std.proofs.Common.{map, sym, ◌∙◌, subst, arith}
use Rattle.std.proofs.lemmas.List.{length-map}
use Rattle.recover.proofs.Sweeps.{whole_written}
use Rattle.store.specs.Store.{AreAllCallers}
use Rattle.store_worked.proofs.long_use.used.Goals as goal

pub close-requires : goal.close-requires
close-requires g c =
    let olds = c.in_ok-store.passes.items in
    let news = c.use_first-went.new.passes in
    let same = sym (length-map news (λ p. p.ticket)) ∙ c.use_first-went.ensures.many
    ∙ sym c.in_ok-store.ensures.callers.many ∙ length-map olds (λ p. p.ticket) in
    record {
      passes =
          subst (λ l. AreAllCallers g.N.HeapName.heap (map (λ p. p.ticket) l))
          (sym (whole_written olds news c.in_ok-store.passes.len same (omega (arith, c.in_ok-store.passes.ok.0))))
          c.use_first-went.ensures;
    }
