use Rattle.std.proofs.Common.{◌≡◌, Bool, List, ℕ, sym, subst}
use Rattle.std.proofs.lemmas.Result.{err_from_is_err_and}
use Rattle.mont_image.specs.ImageText.{ImageParts, is_old}
use Rattle.mont_image.specs.ImageReader.{Reads}
use Rattle.mont_image.proofs.Reading.{header_part, layout_part, slots_part, end_part, whole_read}
use Rattle.mont_image.proofs.image_reader.read_text.Goals as goal

pub returns-in_err-header-clause-refused : goal.returns-in_err-header-clause-refused
returns-in_err-header-clause-refused g c =
    let left = g.S.Source.left in
    let failed = err_from_is_err_and c.from_residual.result c.from_residual.ensures.1 in
    rw (failed.1, failed.2)
    (header_part (left c.args.source.now) (left c.read_header.new.source) c.in_err-header.field-0.0 c.in_err-header.ensures.refused)

pub returns-in_err-layout-clause-refused : goal.returns-in_err-layout-clause-refused
returns-in_err-layout-clause-refused g c =
    let left = g.S.Source.left in
    let failed = err_from_is_err_and c.from_residual-in_err-layout.result c.from_residual-in_err-layout.ensures.1 in
    let header = c.in_ok-header.ensures.read in
    rw (failed.1, failed.2)
    (layout_part c.in_ok-header.header header.0 (left c.args.source.now) (left c.read_header.new.source) header.1
    (left c.read_layout.new.source) c.in_err-layout.field-0.0 c.in_err-layout.ensures.refused)

pub returns-in_err-words-clause-refused : goal.returns-in_err-words-clause-refused
returns-in_err-words-clause-refused g c =
    let left = g.S.Source.left in
    let failed = err_from_is_err_and c.from_residual-in_err-words.result c.from_residual-in_err-words.ensures.1 in
    let header = c.in_ok-header.ensures.read in
    let layout = c.in_ok-layout.ensures.read in
    rw (failed.1, failed.2)
    (slots_part c.in_ok-header.header header.0 (left c.args.source.now) (left c.read_header.new.source) header.1 c.in_ok-layout.layout
    layout.0 (left c.read_layout.new.source) layout.1 (left c.read_slots.new.source) c.in_err-words.field-0.0
    c.in_err-words.ensures.refused)

pub returns-in_err-check_end-clause-refused : goal.returns-in_err-check_end-clause-refused
returns-in_err-check_end-clause-refused g c =
    let left = g.S.Source.left in
    let failed = err_from_is_err_and c.from_residual-in_err-check_end.result c.from_residual-in_err-check_end.ensures.1 in
    let header = c.in_ok-header.ensures.read in
    let layout = c.in_ok-layout.ensures.read in
    let words = c.in_ok-words.ensures.read in
    rw (failed.1, failed.2)
    (end_part c.in_ok-header.header header.0 (left c.args.source.now) (left c.read_header.new.source) header.1 c.in_ok-layout.layout
    layout.0 (left c.read_layout.new.source) layout.1 c.in_ok-words.words.items words.0 (left c.read_slots.new.source) words.1
    (left c.check_end.new.source) c.in_err-check_end.field-0.0 c.in_err-check_end.ensures.refused)

pub returns-clause-read : goal.returns-clause-read
returns-clause-read g c =
    let left = g.S.Source.left in
    let old = left c.args.source.now in
    let new = left c.check_end.new.source in
    let header = c.in_ok-header.ensures.read in
    let layout = c.in_ok-layout.ensures.read in
    let words = c.in_ok-words.ensures.read in
    let ended = c.in_ok-check_end.ensures.ended in
    let parts : (vs : List ℕ) (b : Bool) → ImageParts = λ vs b. record { layout = c.in_ok-layout.layout; words = vs; old = b } in
    let read =
    whole_read c.in_ok-header.header header.0 old (left c.read_header.new.source) header.1 c.in_ok-layout.layout layout.0
    (left c.read_layout.new.source) layout.1 c.in_ok-words.words.items words.0 (left c.read_slots.new.source) words.1 new ended.0 ended.1 in
    let same : parts c.in_ok-words.words.items (is_old c.in_ok-header.header.version) ≡ parts c.from_vec.result c.is_old.result =
    λ i. parts (sym c.from_vec.ensures i) (sym c.is_old.ensures i) in
    subst (λ (p : ImageParts). Reads old new p) same read
