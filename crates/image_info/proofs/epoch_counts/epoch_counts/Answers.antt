use Rattle.std.proofs.Common.{◌≡◌, map}
use Rattle.std.proofs.lemmas.Result.{IfOk-weaker}
use Rattle.image_info.specs.EpochCounts.{AreEpochs, count_of}
use Rattle.image_info.proofs.EpochNumbers.{are_epochs}
use Rattle.image_info.proofs.epoch_counts.epoch_counts.Goals as goal

pub returns : goal.returns
returns c =
    let numbers = c.in_ok-numbers.numbers in
    IfOk-weaker c.counts_in.result (λ v. v.items ≡ map count_of numbers.entries) (λ v. AreEpochs c.args.records.now v.items)
    (λ v is. are_epochs numbers c.args.records.now v.items c.in_ok-numbers.ensures c.counts_in.ensures.ordered is)
    c.counts_in.ensures.counts
