-- The epochs of the cells of lanes.
use Rattle.std.proofs.Common.{◌≡◌, ℕ, ◌+◌, ◌-◌, ◌<◌, List, [], ◌∷◌, ◌++◌, length, get_or, take, map, refl, sym, ap, ◌∙◌}
use Rattle.std.proofs.lemmas.List.{take_more, map-append, flat_map_more}
use Rattle.report_drawing.specs.declared.lanes.Cell.{Cell}
use Rattle.report_drawing.specs.declared.lanes.Lane.{Lane}
use Rattle.job_text.specs.declared.outcome.Outcome.{Outcome}
use Rattle.report_drawing.specs.Lanes.{Shown, outcome_shown, shown_of, cells_of}
use Rattle.report_drawing.specs.Columns.{epochs_in}

-- a cell shows its epoch
pub epochs_shown : (cells : List Cell) → map (λ (s : Shown). s.epoch) (map shown_of cells) ≡ map (λ (cell : Cell). cell.epoch) cells
epochs_shown [] = refl
epochs_shown (cell ∷ cells) = ap (λ (es : List ℕ). cell.epoch ∷ es) (epochs_shown cells)

-- the epochs of some lanes and of one more
pub epochs_more : (base image : ℕ) (lanes : List Lane) (i : ℕ) (d : Lane) (was now : List ℕ) → i < length lanes → was
    ≡ epochs_in base image (map cells_of (take i lanes)) → now
    ≡ was ++ map (λ (cell : Cell). cell.epoch) (get_or lanes i d).cells.items → now
    ≡ epochs_in base image (map cells_of (take (i + 1) lanes))
epochs_more base image lanes i d was now within before step =
    let lane = get_or lanes i d in
    step
    ∙ ap (λ (es : List ℕ). es ++ map (λ (cell : Cell). cell.epoch) lane.cells.items) before
    ∙ ap (λ (es : List ℕ). epochs_in base image (map cells_of (take i lanes)) ++ es) (sym (epochs_shown lane.cells.items))
    ∙ flat_map_more (λ cells. map (λ (s : Shown). s.epoch) cells) (base ∷ (image - 2) ∷ image ∷ []) (map cells_of (take i lanes))
    (cells_of lane)
    ∙ ap (λ ls. epochs_in base image ls)
    (sym (map-append cells_of (take i lanes) (lane ∷ [])) ∙ ap (map cells_of) (sym (take_more lanes i d within)))

-- an outcome at an epoch that is known by another name
pub outcome_at : (clock was now : ℕ) (o : Outcome) (s : Shown) → s ≡ outcome_shown clock was o → was ≡ now → s
    ≡ outcome_shown clock now o
outcome_at clock was now o s is same = is ∙ ap (λ (epoch : ℕ). outcome_shown clock epoch o) same
