use Rattle.std.proofs.Common.{◌∷◌, ◌∙◌, decimal, ap, arith}
use Rattle.std.proofs.lemmas.List.{drop_all}
use Rattle.job_text.proofs.NumberRows.{ascii_end, pair_written}
use Rattle.job_text.proofs.number_row.answered_line.Goals as goal

pub write_before-at-requires-clause-ascii : goal.write_before-at-requires-clause-ascii
write_before-at-requires-clause-ascii c = ascii_end c.args.held.now 84 (omega (arith, c.told-held))

pub returns : goal.returns
returns c =
    let numbers = pair_written (decimal c.args.unit) (decimal c.args.place) _ _ _
    (drop_all 84 c.args.held.now (omega (arith, c.told-held))) c.write_before-at.ensures.written c.write_before-at-2.ensures.written in
    c.text_from.ensures ∙ c.write_byte-at-3.ensures.written
    ∙ ap (λ t. 97 ∷ t) (c.write_byte-at-2.ensures.written ∙ ap (λ t. 116 ∷ t) (c.write_byte-at.ensures.written ∙ ap (λ t. 32 ∷ t) numbers))
