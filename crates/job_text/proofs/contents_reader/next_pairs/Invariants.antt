use Rattle.std.proofs.Common.{◌≡◌, length, IfSome}
use Rattle.std.specs.FinMap.{entries}
use Rattle.mont_base.specs.declared.constants.TheConstants.{TEXT_BYTES}
use Rattle.mont_base.specs.Texts.{IsText}
use Rattle.job_text.specs.Ranks.{LeavesRoom, limit_after, texts_behind}
use Rattle.job_text.specs.Readings.{Reads}
use Rattle.job_text.specs.Spelling.{pair_words}
use Rattle.job_text.specs.ReportRanges.{IsPair}
use Rattle.job_text.specs.ReportRows.{RowsOf, pair_behind, all_pairs, behind_last}
use Rattle.job_text.proofs.contents_reader.next_pairs.Given as goal

-- the pairs so far were read, and which key is the last
abbrev pub invariant-loop-place : goal.invariant-loop-place
invariant-loop-place l =
    Reads (λ xs. LeavesRoom (λ place. IsPair) pair_behind all_pairs l.fn.count xs) (RowsOf pair_words) l.fn.lines l.lines (entries l.state)
    × (length (entries l.state) ≡ l.place)
    × (limit_after pair_behind all_pairs (entries l.state) ≡ behind_last (texts_behind TEXT_BYTES) all_pairs l.last)
    × IfSome l.last IsText
