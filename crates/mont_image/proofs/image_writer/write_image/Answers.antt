use Rattle.std.proofs.Common.{List, ℕ, map, drop, ap, ◌∙◌, subst}
use Rattle.std.specs.Io.KnownBytes.{Appends}
use Rattle.std.proofs.lemmas.Result.{err_from_is_err_and, on_ok_weaker, on_err_weaker}
use Rattle.std.proofs.lemmas.List.{take_rest}
use Rattle.mont_base.specs.declared.kinds.UnitKind.{UnitKind}
use Rattle.mont_base.specs.Layout.{code_of}
use Rattle.mont_base.specs.Delivery.{AppendsFront}
use Rattle.mont_image.specs.declared.image_text.Version.TheVariants.{Third}
use Rattle.mont_image.specs.ImageText.{bytes_of, header_words, header_of, image_text}
use Rattle.mont_image.proofs.Spelled.{image_parts, all_three, first_fails, second_fails, third_fails}
use Rattle.mont_image.proofs.image_writer.write_image.Goals as goal

pub returns-in_err-write_header-clause-part : goal.returns-in_err-write_header-clause-part
returns-in_err-write_header-clause-part g c =
    let taken = g.K.Sink.taken in
    let s = c.args.image.now.layout in
    let words = c.args.image.now.words in
    let one = taken c.write_header.new.sink in
    let failed = err_from_is_err_and c.from_residual.result c.from_residual.ensures.1 in
    rw failed.1
    (first_fails (taken c.args.sink.now) one one one (bytes_of (header_words (header_of Third s words))) (bytes_of (map code_of s.kinds))
    (bytes_of (drop 1 words)) (image_text s words) (image_parts s words) c.in_err-write_header.ensures.part)

pub returns-in_err-write_codes-clause-part : goal.returns-in_err-write_codes-clause-part
returns-in_err-write_codes-clause-part g c =
    let taken = g.K.Sink.taken in
    let s = c.args.image.now.layout in
    let words = c.args.image.now.words in
    let one = taken c.write_header.new.sink in
    let two = taken c.write_codes.new.sink in
    let failed = err_from_is_err_and c.from_residual-in_err-write_codes.result c.from_residual-in_err-write_codes.ensures.1 in
    let codes = subst (λ (ks : List UnitKind). AppendsFront one two (bytes_of (map code_of ks))) c.kinds.ensures.value
    c.in_err-write_codes.ensures.part in
    rw failed.1
    (second_fails (taken c.args.sink.now) one two two (bytes_of (header_words (header_of Third s words))) (bytes_of (map code_of s.kinds))
    (bytes_of (drop 1 words)) (image_text s words) (image_parts s words) c.in_ok-write_header.ensures.all codes)

pub returns-clause-all : goal.returns-clause-all
returns-clause-all g c =
    let taken = g.K.Sink.taken in
    let s = c.args.image.now.layout in
    let words = c.args.image.now.words in
    let one = taken c.write_header.new.sink in
    let two = taken c.write_codes.new.sink in
    let new = taken c.write_words.new.sink in
    let codes = subst (λ (ks : List UnitKind). Appends one two (bytes_of (map code_of ks))) c.kinds.ensures.value
    c.in_ok-write_codes.ensures.all in
    let slots = take_rest c.as_slice.result.now 1 ∙ ap (drop 1) c.as_slice.ensures in
    on_ok_weaker c.write_words.result
    (λ h. all_three (taken c.args.sink.now) one two new (bytes_of (header_words (header_of Third s words))) (bytes_of (map code_of s.kinds))
    (bytes_of (drop 1 words)) (image_text s words) (image_parts s words) c.in_ok-write_header.ensures.all codes
    (subst (λ (ws : List ℕ). Appends two new (bytes_of ws)) slots h)) c.write_words.ensures.all

pub returns-clause-part : goal.returns-clause-part
returns-clause-part g c =
    let taken = g.K.Sink.taken in
    let s = c.args.image.now.layout in
    let words = c.args.image.now.words in
    let one = taken c.write_header.new.sink in
    let two = taken c.write_codes.new.sink in
    let new = taken c.write_words.new.sink in
    let codes = subst (λ (ks : List UnitKind). Appends one two (bytes_of (map code_of ks))) c.kinds.ensures.value
    c.in_ok-write_codes.ensures.all in
    let slots = take_rest c.as_slice.result.now 1 ∙ ap (drop 1) c.as_slice.ensures in
    on_err_weaker c.write_words.result
    (λ h. third_fails (taken c.args.sink.now) one two new (bytes_of (header_words (header_of Third s words)))
    (bytes_of (map code_of s.kinds))
    (bytes_of (drop 1 words)) (image_text s words) (image_parts s words) c.in_ok-write_header.ensures.all codes
    (subst (λ (ws : List ℕ). AppendsFront two new (bytes_of ws)) slots h)) c.write_words.ensures.part
