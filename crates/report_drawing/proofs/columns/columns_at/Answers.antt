use Rattle.std.proofs.Common.{◌≡◌, ℕ, List, ◌++◌, false, true, not, ap, ◌∙◌, arith}
use Rattle.std.specs.List.{filter}
use Rattle.std.proofs.lemmas.List.{take_all}
use Rattle.report_drawing.specs.declared.columns.Column.{Column}
use Rattle.report_drawing.specs.Lanes.{is_lost}
use Rattle.report_drawing.specs.Columns.{columns_in}
use Rattle.report_drawing.proofs.columns.columns_at.Goals as goal

pub returns : goal.returns
returns c =
    let whole = take_all c.loop-epoch.epoch-index c.args.epochs.now (omega arith) in
    let kept : c.as_slice.result.now ≡ filter (λ e. not (is_lost c.args.image_clock e)) c.args.epochs.now =
    c.as_slice.ensures.value
    ∙ c.loop-epoch.invariant.0
    ∙ ap (λ (es : List ℕ). filter (λ e. not (is_lost c.args.image_clock e)) es) whole in
    let lost : c.as_slice-2.result.now ≡ filter (λ e. is_lost c.args.image_clock e) c.args.epochs.now =
    c.as_slice-2.ensures.value
    ∙ c.loop-epoch.invariant.1
    ∙ ap (λ (es : List ℕ). filter (λ e. is_lost c.args.image_clock e) es) whole in
    c.in_ok-push_columns-2.ensures
    ∙ ap (λ (cs : List Column). cs ++ columns_in true c.as_slice-2.result.now)
    (c.in_ok-push_columns.ensures ∙ ap (λ (cs : List Column). cs ++ columns_in false c.as_slice.result.now) c.new-columns.ensures.items)
    ∙ (λ i. columns_in false (kept i) ++ columns_in true (lost i))
