use Rattle.std.proofs.Common.{◌∙◌, decimal, arith}
use Rattle.std.proofs.lemmas.List.{drop_all}
use Rattle.job_text.proofs.NumberRows.{ascii_end, head_written}
use Rattle.job_text.proofs.number_row.entry_head.Goals as goal

pub write_before-at-requires-clause-ascii : goal.write_before-at-requires-clause-ascii
write_before-at-requires-clause-ascii c = ascii_end c.args.held.now 84 (omega (arith, c.told-held))

pub returns : goal.returns
returns c =
    let e = c.args.entry.now in
    head_written (decimal c.args.place) (decimal e.caller) (decimal e.call) (decimal e.epoch) _ _ _ _ _
    (drop_all 84 c.args.held.now (omega (arith, c.told-held))) c.write_before-at.ensures.written c.write_before-at-2.ensures.written
    c.write_before-at-3.ensures.written (c.text_from.ensures ∙ c.write_before-at-4.ensures.written)
