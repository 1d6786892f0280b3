use Rattle.std.proofs.Common.{◌≡◌, ℕ, List, sym, ◌∙◌, subst}
use Rattle.mont_base.specs.Image.{IsRecovered}
use Rattle.mont_base.specs.Layout.{Shape}
use Rattle.plain.specs.States.{states_of}
use Rattle.bank_job.specs.Bank.{bank_layout}
use Rattle.bank_store.specs.BankRun.{IsBankRunOn}
use Rattle.bank_store.specs.BankStore.{TellsDurable}
use Rattle.bank_store.proofs.BankResult.{bank_run, layout_is, told_durable}
use Rattle.bank_store.proofs.bank_run.report_on.Goals as goal

pub returns-clause-run : goal.returns-clause-run
returns-clause-run g c =
    let heap = g.N.HeapName.heap in
    let t = c.args.stopped in
    let image = c.in_ok-image.image in
    let states = states_of c.in_ok-contents.contents in
    let ended = c.requires.ended in
    let layout = layout_is heap c.args._number t ended c.requires.opening in
    let there : IsRecovered bank_layout image.words states =
    subst (λ (s : Shape). IsRecovered s image.words states) (c.in_ok-image.ensures.layout ∙ layout) c.in_ok-contents.ensures in
    let own : IsRecovered t.words.layout image.words states =
    subst (λ (s : Shape). IsRecovered s image.words states) c.in_ok-image.ensures.layout c.in_ok-contents.ensures in
    subst (λ (n : ℕ). IsBankRunOn heap c.args._number t.histories n states) (sym c.clock-image_clock.ensures)
    (bank_run heap c.args._number t ended c.requires.opening image.words c.in_ok-image.ensures.permitted states there
    (told_durable heap c.args._number t ended image.words c.in_ok-image.ensures.picked states own))

pub returns-clause-told : goal.returns-clause-told
returns-clause-told g c =
    let heap = g.N.HeapName.heap in
    let t = c.args.stopped in
    let image = c.in_ok-image.image in
    let states = states_of c.in_ok-contents.contents in
    let own : IsRecovered t.words.layout image.words states =
    subst (λ (s : Shape). IsRecovered s image.words states) c.in_ok-image.ensures.layout c.in_ok-contents.ensures in
    subst (λ (n : ℕ). TellsDurable t t.histories n states) (sym c.clock-image_clock.ensures)
    (told_durable heap c.args._number t c.requires.ended image.words c.in_ok-image.ensures.picked states own)
