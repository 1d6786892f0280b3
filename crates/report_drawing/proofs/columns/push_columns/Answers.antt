use Rattle.std.proofs.Common.{arith}
use Rattle.std.proofs.lemmas.Result.{MatchResult-weaker}
use Rattle.report_drawing.proofs.Folds.{columns_folded}
use Rattle.report_drawing.proofs.columns.push_columns.Goals as goal

pub returns : goal.returns
returns c = MatchResult-weaker c.push_single-3.result c.push_single-3.ensures
    (λ done pushed.
    columns_folded c.args.lost c.args.epochs.now c.split_at.result.0.now c.split_at.result.1.now c.split_at-2.result.0.now
    c.split_at-2.result.1.now c.args.columns.now.items _ _ _ (omega (arith, c.if-epochs-le-MOST_COLUMNS.false)) c.split_at.ensures.front
    c.split_at.ensures.back c.split_at-2.ensures.front c.split_at-2.ensures.back c.in_ok-push_single.ensures c.in_ok-push.ensures.items
    pushed)
    (λ e t. t)
