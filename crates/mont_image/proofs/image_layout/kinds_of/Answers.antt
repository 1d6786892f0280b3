use Rattle.std.proofs.Common.{[], sym, ◌∙◌, arith, length-set}
use Rattle.std.specs.Int.{w64, from_le_bytes}
use Rattle.std.proofs.lemmas.List.{map_more, take_more_set}
use Rattle.mont_image.specs.ImageText.{words_in}
use Rattle.mont_image.proofs.Codes.{no_kinds, alike_more, spelled_alike, code_at, alike_all, kinds_counted, codes_spelled}
use Rattle.mont_image.proofs.WordBytes.{length-words_in}
use Rattle.mont_image.proofs.image_layout.kinds_of.Goals as goal

pub returns-in_err-of_code-clause-exact : goal.returns-in_err-of_code-clause-exact
returns-in_err-of_code-clause-exact c =
    let codes = c.args.codes.now in
    let chunks = c.as_chunks.result.0.now in
    let read = code_at codes chunks c.loop-unit.unit c.as_chunks.ensures.front (omega arith) in
    c.from_residual.ensures
    ∙ sym (no_kinds (words_in codes) c.loop-unit.unit (omega (arith, length-words_in codes, c.as_chunks.ensures.front_len))
    (λ kind e. c.in_err-of_code.ensures kind (c.from_le_bytes.ensures ∙ sym read ∙ e)))

pub loop-unit-preserved : goal.loop-unit-preserved
loop-unit-preserved c =
    let chunks = c.as_chunks.result.0.now in
    let i = c.loop-unit.invariant in
    record {
      long = length-set c.loop-unit.letters c.loop-unit.unit c.letter.result ∙ i.long;
      alike =
          alike_more _ _ _ _ _ c.letter.result c.in_ok-of_code.field-0 i.alike (sym c.from_le_bytes.ensures ∙ c.in_ok-of_code.ensures)
          c.letter.ensures (map_more (from_le_bytes w64) chunks c.loop-unit.unit [] (omega arith))
          (take_more_set c.loop-unit.letters c.loop-unit.unit c.letter.result (omega arith));
    }

pub returns-clause-exact : goal.returns-clause-exact
returns-clause-exact c =
    let codes = c.args.codes.now in
    let chunks = c.as_chunks.result.0.now in
    let alike = alike_all codes chunks c.loop-unit.letters c.loop-unit.unit c.as_chunks.ensures.front
    (omega arith) c.loop-unit.invariant.alike in
    c.ok.ensures.value
    ∙ spelled_alike _ _ c.of_letters.result alike c.of_letters.ensures
    (λ ks e. kinds_counted codes ks c.requires.some c.requires.few e)

pub returns-clause-spelled : goal.returns-clause-spelled
returns-clause-spelled c =
    let codes = c.args.codes.now in
    let chunks = c.as_chunks.result.0.now in
    let alike = alike_all codes chunks c.loop-unit.letters c.loop-unit.unit c.as_chunks.ensures.front
    (omega arith) c.loop-unit.invariant.alike in
    codes_spelled codes c.ok.result c.requires.whole (λ i. omega (arith, c.type_inv.codes i)) (c.ok.ensures.value
    ∙ spelled_alike _ _ c.of_letters.result alike c.of_letters.ensures
    (λ ks e. kinds_counted codes ks c.requires.some c.requires.few e))
