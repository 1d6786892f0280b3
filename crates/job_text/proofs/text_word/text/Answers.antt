use Rattle.std.proofs.Common.{◌≡◌, ◌≢◌, ◌∷◌, [], true, length, take, sym, ◌∙◌, arith, rules, length-take}
use Rattle.std.proofs.lemmas.Slice.Eq.{slice_eq-Decides}
use Rattle.std.proofs.lemmas.Bool.{eqb-false}
use Rattle.std.proofs.lemmas.Bool.Decides.{Decides-eqb}
use Rattle.job_text.proofs.TextWords.{bare_text, too_long, no_byte, front_more}
use Rattle.job_text.proofs.text_word.text.Goals as goal

pub returns-then-are_bare : goal.returns-then-are_bare
returns-then-are_bare c =
    let some = eqb-false (length c.args.word.now) 0 (sym c.is_empty.ensures ∙ c.if-is_empty.false) in
    rw c.ok-then-are_bare.ensures.value (bare_text c.args.word.now c.of_bytes-then-are_bare.result (omega arith)
    (sym c.are_bare.ensures ∙ c.if-are_bare.true) c.of_bytes-then-are_bare.ensures)

pub returns-then-len-eq-TEXT_BYTES : goal.returns-then-len-eq-TEXT_BYTES
returns-then-len-eq-TEXT_BYTES c =
    let tells = slice_eq-Decides Decides-eqb c.args.word.now c.as_slice.result.now c.eq.result c.eq.ensures in
    let no_mark : c.args.word.now ≢ 37 ∷ [] = λ is. let yes : c.eq.result ≡ true = tells.1 (is ∙ sym c.as_slice.ensures) in cc in
    let i = c.loop-rest.invariant in
    let some = eqb-false (length c.loop-rest.rest.now) 0 (sym c.is_empty-in-loop-rest.ensures ∙ c.loop-rest-test.true) in
    too_long c.args.word.now (take c.loop-rest.len c.loop-rest.held) c.loop-rest.rest.now i.0 i.3 no_mark
    (omega (arith, length-take c.loop-rest.len c.loop-rest.held, i.2)) (omega arith)

pub returns-in_err-byte : goal.returns-in_err-byte
returns-in_err-byte c =
    let tells = slice_eq-Decides Decides-eqb c.args.word.now c.as_slice.result.now c.eq.result c.eq.ensures in
    let no_mark : c.args.word.now ≢ 37 ∷ [] = λ is. let yes : c.eq.result ≡ true = tells.1 (is ∙ sym c.as_slice.ensures) in cc in
    let i = c.loop-rest.invariant in
    let some = eqb-false (length c.loop-rest.rest.now) 0 (sym c.is_empty-in-loop-rest.ensures ∙ c.loop-rest-test.true) in
    rw c.from_residual.ensures (no_byte c.args.word.now (take c.loop-rest.len c.loop-rest.held) c.loop-rest.rest.now i.0 i.3 no_mark
    (omega arith) c.in_err-byte.ensures)

pub loop-rest-preserved : goal.loop-rest-preserved
loop-rest-preserved c =
    let i = c.loop-rest.invariant in
    let more = front_more c.args.word.now c.loop-rest.held c.loop-rest.rest.now c.in_ok-byte.after.now c.loop-rest.len c.in_ok-byte.byte i.0
    i.3 (omega (arith, i.2)) c.in_ok-byte.ensures.0 c.in_ok-byte.ensures.1 in
    (more.0, omega arith, search rules, more.1)
