use Rattle.std.proofs.Common.{map, ap, ◌∙◌, subst}
use Rattle.std.specs.Prelude.{IfErr}
use Rattle.std.proofs.lemmas.Result.{IfOk-weaker, on_ok_weaker}
use Rattle.std.specs.FinMap as finite
use Rattle.mont_base.specs.Layout.{Shape}
use Rattle.heap_rule.specs.declared.rule.Opening.{Opening}
use Rattle.heap.specs.FreshOpening.{fresh_opening}
use Rattle.heap.specs.Opens.{Opens}
use Rattle.plain.specs.States.{states_of}
use Rattle.store.specs.MapBoxes.{HaveEmptyBoxes, LacksBox}
use Rattle.bank_store.specs.BankRun.{IsBankRun, IsBankRunOn}
use Rattle.bank_store.proofs.bank_run.run_bank.Goals as goal

pub run_on_fresh-requires-clause-opening : goal.run_on_fresh-requires-clause-opening
run_on_fresh-requires-clause-opening g c κs within =
    c.in_ok-heap.ensures.opens.opening ∙ ap (λ (s : Shape). fresh_opening s 4) c.bank_layout.ensures

pub run_on_fresh-requires-clause-opens : goal.run_on_fresh-requires-clause-opens
run_on_fresh-requires-clause-opens g c κs within =
    subst
    (λ (s : Shape). Opens (fresh_opening s 4) c.in_ok-heap.heap c.in_ok-heap.seats.units.items c.in_ok-heap.seats.advancer
    c.in_ok-heap.seats.callers.items) c.bank_layout.ensures c.in_ok-heap.ensures.opens

pub returns-clause-run : goal.returns-clause-run
returns-clause-run g c =
    IfOk-weaker c.run_on_fresh.result
    (λ report. IsBankRunOn c.in_ok-heap.heap c.args.number report.histories report.image_clock (states_of report.contents))
    (λ report. IsBankRun c.args.number report.histories report.image_clock (states_of report.contents)) (λ report k. k.run)
    c.run_on_fresh.ensures.run

pub returns-clause-boxes : goal.returns-clause-boxes
returns-clause-boxes g c =
    on_ok_weaker c.run_on_fresh.result
    (subst (λ (o : Opening). HaveEmptyBoxes o.layout (map (λ b. finite.len (g.I.Index.places b)) c.args.indexes.items))
    (c.in_ok-heap.ensures.opens.opening ∙ ap (λ (s : Shape). fresh_opening s 4) c.bank_layout.ensures))
    c.run_on_fresh.ensures.boxes

pub returns-clause-lacks : goal.returns-clause-lacks
returns-clause-lacks g c =
    subst
    (λ (o : Opening). IfErr c.run_on_fresh.result
    (λ why. LacksBox o.layout (map (λ b. finite.len (g.I.Index.places b)) c.args.indexes.items) why))
    (c.in_ok-heap.ensures.opens.opening ∙ ap (λ (s : Shape). fresh_opening s 4) c.bank_layout.ensures) c.run_on_fresh.ensures.lacks
