use Rattle.std.proofs.Common.{◌≡◌, ℕ, ◌<◌, ◌-◌, ◌++◌, [], List, Result, ap, ◌∙◌, arith}
use Rattle.std.specs.List.{flat_map, range_with_len}
use Rattle.rayon.proofs.ToStd.{nat_range-All}
use Rattle.mont_base.specs.Layout.{Shape}
use Rattle.scan.specs.declared.scanned.Scan.{Scan}
use Rattle.scan.specs.declared.scanned.ScanRefusal.{ScanRefusal}
use Rattle.scan.specs.Scanned.{IsAnswer}
use Rattle.scan.specs.Workers.{piece_slots}
use Rattle.scan.proofs.Pieces.{reduced}
use Rattle.scan.proofs.workers.scan_pieces.Goals as goal

pub reduce-requires-clause-ready : goal.reduce-requires-clause-ready
reduce-requires-clause-ready g c κs lives =
    let ends = c.into_par_iter.ensures in
    let inside = nat_range-All (λ i. i < c.args.workers) 0 c.args.workers (λ i low high. high) in
    rw (c.fold.ensures.base, c.fold.ensures.op, ends.0, ends.1)
    (tt, (λ k d lt x. (inside k d lt, c.requires.few, c.requires.size, c.requires.clock)), λ x. tt)

abbrev Found : Type 0
Found = Result Scan ScanRefusal

-- what the closures ensure
abbrev Starts : Found → Type 0
Starts e = (s : Shape) (words : List ℕ) → IsAnswer s words [] e

abbrev Steps : Shape → List ℕ → ℕ → Found → ℕ → Found → Type 0
Steps s image workers found piece r =
    (slots : List ℕ) → IsAnswer s image slots found → IsAnswer s image (slots ++ piece_slots s workers piece) r

abbrev Joins : Found → Found → Found → Type 0
Joins front back r =
    (s : Shape) (words xs ys : List ℕ) → IsAnswer s words xs front → IsAnswer s words ys back → IsAnswer s words (xs ++ ys) r

pub returns : goal.returns
returns g c =
    let s = c.args.layout in
    let image = c.args.image.now in
    let workers = c.args.workers in
    let ends = c.into_par_iter.ensures in
    let done = c.reduce.ensures in
    let count : workers - 0 ≡ workers = omega arith in
    let groups = done.1.0 in
    let all : flat_map (λ l. l) groups ≡ range_with_len 0 workers =
    (rw (c.fold.ensures.base, ends.0, ends.1) at done.1.1) ∙ ap (range_with_len 0) count in
    let folds = rw (c.fold.ensures.op) at done.1.2 in
    reduced s workers c.requires.some image Starts (Steps s image workers) Joins
    (λ e h. h s image) (λ found piece r h. h) (λ front back r h. h s image)
    done.0 c.reduce.result groups folds done.2 all
