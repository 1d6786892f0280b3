use Rattle.std.proofs.Common.{◌∷◌, ◌++◌, List, [], sym, ap, ◌∙◌}
use Rattle.mont_base.specs.declared.operation.Op.{Op}
use Rattle.bank_job.specs.Bank.{opening_put}
use Rattle.bank_job.proofs.Made.{puts_none, puts_more}
use Rattle.bank_job.proofs.bank.opening_puts.Goals as goal

pub loop-account-init : goal.loop-account-init
loop-account-init c = c.new-puts.ensures.items ∙ sym puts_none

pub loop-account-preserved : goal.loop-account-preserved
loop-account-preserved c =
    (rw (c.of_number.ensures, c.of_number-in-loop-account.ensures) at c.in_ok-push.ensures.items)
    ∙ ap (λ (puts : List Op). puts ++ opening_put c.loop-account.account ∷ []) c.loop-account.invariant
    ∙ sym (puts_more c.loop-account.account)
