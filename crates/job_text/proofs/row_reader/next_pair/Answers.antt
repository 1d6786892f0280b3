use Rattle.job_text.specs.Ranks.{IsNext, texts_behind}
use Rattle.job_text.specs.ReportRanges.{IsPair}
use Rattle.job_text.specs.Spelling.{pair_words}
use Rattle.job_text.specs.ReportRows.{line_of_row, pair_behind, behind_last, all_pairs}
use Rattle.job_text.proofs.KeyRanks.{pair_part, pairs_left}
use Rattle.mont_base.specs.declared.constants.TheConstants.{TEXT_BYTES}
use Rattle.job_text.specs.Readings.{Refuses}
use Rattle.job_text.proofs.ReadLines.{reads_words, refuses_none, refuses_words, at_exit}
use Rattle.job_text.proofs.row_reader.next_pair.Goals as goal

pub returns-in_err-words : goal.returns-in_err-words
returns-in_err-words c =
    at_exit c.from_residual.result c.in_err-words.field-0.0 _ (Refuses (IsNext IsPair pair_behind (behind_last
    (texts_behind TEXT_BYTES) all_pairs c.args.last) c.args.left)
    (line_of_row pair_words) c.args.lines.now) c.from_residual.ensures.1
    (refuses_none (IsNext IsPair pair_behind (behind_last (texts_behind TEXT_BYTES) all_pairs c.args.last) c.args.left) pair_words
    (pair_part (behind_last (texts_behind TEXT_BYTES) all_pairs c.args.last) c.args.left c.requires.room
    (pairs_left c.args.last c.requires.text)) c.args.lines.now _ c.in_err-words.ensures)

pub returns-in-Some : goal.returns-in-Some
returns-in-Some c =
    reads_words (IsNext IsPair pair_behind (behind_last (texts_behind TEXT_BYTES) all_pairs c.args.last) c.args.left) pair_words
    (pair_part (behind_last (texts_behind TEXT_BYTES) all_pairs c.args.last) c.args.left c.requires.room
    (pairs_left c.args.last c.requires.text)) _ _ _ _ c.in_ok-words.ensures c.as_slice.ensures.value c.in-Some.pair
    c.in-Some.ensures

pub returns-in-None : goal.returns-in-None
returns-in-None c =
    refuses_words (IsNext IsPair pair_behind (behind_last (texts_behind TEXT_BYTES) all_pairs c.args.last) c.args.left) pair_words
    (pair_part (behind_last (texts_behind TEXT_BYTES) all_pairs c.args.last) c.args.left c.requires.room
    (pairs_left c.args.last c.requires.text)) _ _ _ _ c.in_ok-words.ensures c.as_slice.ensures.value _ c.refused.ensures
    c.in-None.ensures
