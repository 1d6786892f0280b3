use Rattle.std.proofs.Common.{ℕ, List, None, subst}
use Rattle.montage_tool.specs.Devices.{IsWritten, sink_seen}
use Rattle.montage_tool.proofs.Readings.{if_ok}
use Rattle.montage_tool.proofs.sending.send_report.Goals as goal

pub returns-in-Ok-clause-made : goal.returns-in-Ok-clause-made
returns-in-Ok-clause-made g c =
    λ image_out.
    let sent : List ℕ → Type 0 =
    λ bytes. IsWritten (record { text = bytes; image = None }) (sink_seen g.O.Sink c.args.out.now) (sink_seen g.O.Sink c.send.new.out)
    image_out image_out c.send.result in
    if_ok (λ m. sent m.report.items) c.args.run c.in-Ok.run' c.in-Ok.is (subst sent c.deref.ensures.value (c.send.ensures image_out))
