use Rattle.std.proofs.Common.{◌≡◌, map, All}
use Rattle.std.specs.Prelude.{Ok}
use Rattle.bank_store.proofs.tellers.passes_of.Given as goal

abbrev pub invariant-loop-teller : goal.invariant-loop-teller
invariant-loop-teller l = record {
  passes : l.passes.items ≡ map (λ t. t.pass) l.yielded;
  made : All (λ t. t.made ≡ Ok tt) l.yielded;
}
