use Rattle.std.proofs.Common.{◌≡◌, ◌*◌, ◌/◌, List, ℕ, length, take, subst, arith, Err}
use Rattle.std.proofs.lemmas.List.{take_all, length-take-le}
use Rattle.std.specs.Io.KnownBytes.{Consumes}
use Rattle.mont_image.specs.declared.image_refusal.ImageRefusal.TheVariants as faults
use Rattle.mont_image.specs.declared.image_text.TheConstants.{WORD, HEADER}
use Rattle.mont_image.specs.ImageText.{header_in, words_in}
use Rattle.mont_image.proofs.Filling.{refuses_whole}
use Rattle.mont_image.proofs.Headers.{bytes_short, header_taken, header_refused}
use Rattle.mont_image.proofs.image_header.read_header.Goals as goal

pub returns-then-count-lt-HEADER_BYTES-clause-refused :
    goal.returns-then-count-lt-HEADER_BYTES-clause-refused
returns-then-count-lt-HEADER_BYTES-clause-refused g c =
    let n = c.in_ok-count.count in
    let bytes = take n c.fill.new.buf in
    let long : length bytes ≡ n = length-take-le n c.fill.new.buf c.in_ok-count.ensures.bound in
    refuses_whole (WORD * HEADER) (λ f text. header_in (words_in text) ≡ Err f) (g.S.Source.left c.args.source.now)
    (g.S.Source.left c.fill.new.source) bytes (faults.Short (n / WORD)) c.in_ok-count.ensures.bytes
    (c.in_ok-count.ensures.ended (omega (arith, c.fill.auto.buf))) (omega arith) (bytes_short bytes n long (omega arith))

pub returns-clause-read : goal.returns-clause-read
returns-clause-read g c =
    let buf = c.fill.new.buf in
    let old = g.S.Source.left c.args.source.now in
    let new = g.S.Source.left c.fill.new.source in
    let all : take c.in_ok-count.count buf ≡ buf = take_all c.in_ok-count.count buf (omega (arith, c.fill.auto.buf)) in
    let taken = subst (λ (bs : List ℕ). Consumes old new bs) all c.in_ok-count.ensures.bytes in
    header_taken old new buf taken c.fill.auto.buf c.header_of.result c.header_of.ensures.spelled

pub returns-clause-refused : goal.returns-clause-refused
returns-clause-refused g c =
    let buf = c.fill.new.buf in
    let old = g.S.Source.left c.args.source.now in
    let new = g.S.Source.left c.fill.new.source in
    let all : take c.in_ok-count.count buf ≡ buf = take_all c.in_ok-count.count buf (omega (arith, c.fill.auto.buf)) in
    let taken = subst (λ (bs : List ℕ). Consumes old new bs) all c.in_ok-count.ensures.bytes in
    header_refused old new buf taken c.fill.auto.buf c.header_of.result c.header_of.ensures.exact
