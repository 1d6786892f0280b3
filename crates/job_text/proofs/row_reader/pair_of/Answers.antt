use Rattle.mont_base.specs.declared.constants.TheConstants.{TEXT_BYTES}
use Rattle.mont_base.specs.State.{Key, Value}
use Rattle.job_text.specs.Ranks.{texts_behind}
use Rattle.job_text.specs.Spelling.{pair_words}
use Rattle.job_text.specs.ReportRanges.{IsPair}
use Rattle.job_text.specs.ReportRows.{behind_last, all_pairs}
use Rattle.job_text.proofs.RowParts.{pair_once}
use Rattle.job_text.proofs.KeyRanks.{none_follows, it_follows}
use Rattle.job_text.proofs.row_reader.pair_of.Goals as goal

pub returns-else-may_follow : goal.returns-else-may_follow
returns-else-may_follow c =
    none_follows IsPair pair_words pair_once (λ (p : Key × Value). p.0) (texts_behind TEXT_BYTES) (behind_last
    (texts_behind TEXT_BYTES) all_pairs c.args.last) c.args.left _
    (c.in_ok-key.key, c.in_ok-key.value) c.may_follow.result c.in_ok-key.ensures.0 c.in_ok-key.ensures.1
    c.if-may_follow.false c.may_follow.ensures.1

pub returns-then-may_follow : goal.returns-then-may_follow
returns-then-may_follow c =
    it_follows IsPair pair_words pair_once (λ (p : Key × Value). p.0) (texts_behind TEXT_BYTES) (behind_last
    (texts_behind TEXT_BYTES) all_pairs c.args.last) c.args.left _
    (c.in_ok-key.key, c.in_ok-key.value) c.may_follow.result c.in_ok-key.ensures.0 c.in_ok-key.ensures.1
    c.if-may_follow.true c.may_follow.ensures.0
