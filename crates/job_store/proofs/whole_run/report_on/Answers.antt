use Rattle.std.proofs.Common.{ℕ, ◌<◌, ◌^◌, List, subst}
use Rattle.std.specs.Prelude.{All}
use Rattle.plain.specs.States.{states_of}
use Rattle.job_store.proofs.Ended.{made_run, tells_end}
use Rattle.job_store.proofs.whole_run.report_on.Goals as goal

pub returns-clause-run : goal.returns-clause-run
returns-clause-run g c =
    let image = c.in_ok-image.ensures in
    let report = c.in_ok-report.ensures in
    made_run c.args.job.now g.N.HeapName.heap c.args.ended.outcomes c.args.ended.stopped c.requires.ended c.in_ok-image.image
    image.layout image.new image.picked
    (subst (λ (words : List ℕ). All (λ (w : ℕ). w < 2 ^ 64) words) c.as_slice.ensures c.show_words.ensures)
    c.clock-clock.result c.clock-clock.ensures (states_of c.in_ok-contents.contents) c.in_ok-contents.ensures
    c.in_ok-report.report report.made report.faithful

pub returns-clause-told : goal.returns-clause-told
returns-clause-told g c =
    let image = c.in_ok-image.ensures in
    tells_end c.args.job.now g.N.HeapName.heap c.args.ended.outcomes c.args.ended.stopped c.requires.ended c.in_ok-image.image
    image.layout image.new image.picked
    (subst (λ (words : List ℕ). All (λ (w : ℕ). w < 2 ^ 64) words) c.as_slice.ensures c.show_words.ensures)
    c.clock-clock.result c.clock-clock.ensures (states_of c.in_ok-contents.contents) c.in_ok-contents.ensures
    c.in_ok-report.report c.in_ok-report.ensures.made
