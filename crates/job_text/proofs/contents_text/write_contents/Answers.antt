use Rattle.std.proofs.Common.{map, ◌∙◌, ap}
use Rattle.plain.specs.States.{state_of, states_of}
use Rattle.job_text.proofs.WholeReport.{contents_written}
use Rattle.job_text.proofs.contents_text.write_contents.Goals as goal

pub returns : goal.returns
returns c =
    ap (λ v. v.items) c.into_bytes.ensures.value
    ∙ contents_written c.args.layout c.args.clock _ (states_of c.args.contents.now) _ _ _ _ _ c.kinds.ensures.value (ap (map state_of)
    c.as_slice.ensures)
    c.new-text.ensures.bytes c.in_ok-write_contents_header.ensures c.in_ok-write_units.ensures c.in_ok-push_str.ensures.bytes
