use Rattle.std.proofs.Common.{◌≡◌, ◌*◌, List, ℕ, length, take, subst, arith, ◌∙◌}
use Rattle.std.proofs.lemmas.List.{take_all, length-take-le}
use Rattle.std.specs.Io.KnownBytes.{Consumes}
use Rattle.mont_image.specs.declared.image_text.TheConstants.{WORD}
use Rattle.mont_image.proofs.Codes.{kinds_taken, kinds_refused, ends_in_codes}
use Rattle.mont_image.proofs.image_layout.read_kinds.Goals as goal

pub returns-then-count-units-clause-refused : goal.returns-then-count-units-clause-refused
returns-then-count-units-clause-refused g c =
    let units = c.args.units in
    let count = c.in_ok-count.count in
    let buf = c.fill.new.buf in
    let long : length buf ≡ WORD * units = c.fill.auto.buf ∙ length-take-le (WORD * c.args.units) _ (omega (arith, c.requires.few)) in
    ends_in_codes units count (g.S.Source.left c.args.source.now) (g.S.Source.left c.fill.new.source) (take count buf)
    c.in_ok-count.ensures.bytes (c.in_ok-count.ensures.ended (omega (arith, long))) (length-take-le count buf c.in_ok-count.ensures.bound)
    (omega arith)

pub returns-clause-read : goal.returns-clause-read
returns-clause-read g c =
    let units = c.args.units in
    let count = c.in_ok-count.count in
    let buf = c.fill.new.buf in
    let old = g.S.Source.left c.args.source.now in
    let new = g.S.Source.left c.fill.new.source in
    let long : length buf ≡ WORD * units = c.fill.auto.buf ∙ length-take-le (WORD * c.args.units) _ (omega (arith, c.requires.few)) in
    let all : take count buf ≡ buf = take_all count buf (omega (arith, long)) in
    let taken = subst (λ (bs : List ℕ). Consumes old new bs) all c.in_ok-count.ensures.bytes in
    kinds_taken units old new buf c.kinds_of.result c.ok_or.result taken long c.ok_or.ensures.value c.kinds_of.ensures.spelled

pub returns-clause-refused : goal.returns-clause-refused
returns-clause-refused g c =
    let units = c.args.units in
    let count = c.in_ok-count.count in
    let buf = c.fill.new.buf in
    let old = g.S.Source.left c.args.source.now in
    let new = g.S.Source.left c.fill.new.source in
    let long : length buf ≡ WORD * units = c.fill.auto.buf ∙ length-take-le (WORD * c.args.units) _ (omega (arith, c.requires.few)) in
    let all : take count buf ≡ buf = take_all count buf (omega (arith, long)) in
    let taken = subst (λ (bs : List ℕ). Consumes old new bs) all c.in_ok-count.ensures.bytes in
    kinds_refused units old new buf c.kinds_of.result c.ok_or.result taken long c.ok_or.ensures.value c.kinds_of.ensures.exact
