use Rattle.std.proofs.Common.{None, map, refl, string_bytes, ◌∙◌}
use Rattle.montage_tool.specs.Devices.{sink_seen}
use Rattle.montage_tool.proofs.Served.{written_out}
use Rattle.montage_tool.proofs.ServedForms.{answers_question}
use Rattle.montage_tool.proofs.program.answer.Goals as goal

pub returns-in-Some-clause-answered : goal.returns-in-Some-clause-answered
returns-in-Some-clause-answered g c =
    answers_question _ (map string_bytes c.args.words.now) _ _ c.send.result c.in-Some.question c.as_bytes.result.now c.in-Some.ensures.help
    c.in-Some.ensures.version (λ e. c.as_bytes.ensures.value ∙ c.text.ensures.help e)
    (λ e. c.as_bytes.ensures.value ∙ c.text.ensures.version e) (c.send.ensures (sink_seen g.K.Sink c.args.image_out.now)) refl refl

pub returns-in-Some-clause-out : goal.returns-in-Some-clause-out
returns-in-Some-clause-out g c =
    let kept = sink_seen g.K.Sink c.args.image_out.now in
    λ none.
    absurd
    (none
    (written_out c.send.result (record { text = c.as_bytes.result.now; image = None }) (sink_seen g.O.Sink c.args.out.now)
    (sink_seen g.O.Sink c.send.new.out) kept kept (c.send.ensures kept)))
