use Rattle.std.proofs.Common.{map, string_bytes}
use Rattle.montage_tool.proofs.ServedForms.{serves_words}
use Rattle.montage_tool.proofs.top_call.montage.Goals as goal

pub returns-in-Some-clause-serves : goal.returns-in-Some-clause-serves
returns-in-Some-clause-serves g c =
    serves_words (map string_bytes c.args.words.now) c.in-Some.form c.in-Some.ensures _ _ _ c.serve_form.result
    c.serve_form.ensures.serves

pub returns-in-Some-clause-image_out : goal.returns-in-Some-clause-image_out
returns-in-Some-clause-image_out g c =
    λ none. c.serve_form.ensures.image_out (λ both. none ((c.in-Some.form, c.in-Some.ensures, both.0), both.1))
