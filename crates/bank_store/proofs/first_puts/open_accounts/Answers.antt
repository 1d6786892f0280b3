use Rattle.std.proofs.Common.{refl, sym, ◌∙◌, subst, List}
use Rattle.mont_base.specs.declared.operation.Op.{Op}
use Rattle.bank_job.specs.Bank.{first_puts}
use Rattle.bank_store.specs.OpenedAccounts.{AreOfUnits, HaveComeTo}
use Rattle.bank_store.proofs.BankUnits.{opening_units}
use Rattle.bank_store.proofs.PutsMade.{come_waiting, settled}
use Rattle.bank_store.proofs.first_puts.open_accounts.Goals as goal

pub make_puts-requires-clause-puts : goal.make_puts-requires-clause-puts
make_puts-requires-clause-puts g c =
    subst AreOfUnits (sym (c.as_slice.ensures.value ∙ c.in_ok-puts.ensures)) opening_units

pub returns-clause-opened : goal.returns-clause-opened
returns-clause-opened g c =
    let heap = g.N.HeapName.heap in
    let q = c.args.pass.now.ticket in
    let r = c.make_puts.new.pass.ticket in
    let t = c.sync.new.pass.ticket in
    let made = c.in_ok-make_puts.ensures.made in
    let puts : HaveComeTo heap q r (first_puts 8) made.0 =
    subst (λ (ops : List Op). HaveComeTo heap q r ops made.0) (c.as_slice.ensures.value ∙ c.in_ok-puts.ensures) made.1 in (
      made.0,
      record {
        puts = come_waiting heap q r t (first_puts 8) made.0 puts c.sync.ensures.seen;
        settled = settled heap r t c.sync.result (c.sync.ensures.gate.passes refl) c.sync.ensures.synced c.sync.ensures.refused;
      },
    )
