use Rattle.std.proofs.Common.{List, ℕ, subst}
use Rattle.scan.specs.Scanned.{IsAnswer, all_slots}
use Rattle.scan.proofs.Pieces.{answer_readable, answer_refused}
use Rattle.scan.proofs.workers.scan.Goals as goal

pub returns-clause-readable : goal.returns-clause-readable
returns-clause-readable g c =
    let image = c.args.image.now in
    let r = c.scan_pieces.result in
    answer_readable image.layout image.words r
    (subst (λ (words : List ℕ). IsAnswer image.layout words (all_slots image.layout) r) c.as_slice.ensures c.scan_pieces.ensures)

pub returns-clause-refused : goal.returns-clause-refused
returns-clause-refused g c =
    let image = c.args.image.now in
    let r = c.scan_pieces.result in
    answer_refused image.layout image.words r
    (subst (λ (words : List ℕ). IsAnswer image.layout words (all_slots image.layout) r) c.as_slice.ensures c.scan_pieces.ensures)
