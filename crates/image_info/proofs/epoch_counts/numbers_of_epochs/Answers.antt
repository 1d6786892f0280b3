use Rattle.std.proofs.Common.{[], get_or, take, sym, ap, ◌∙◌, subst}
use Rattle.std.specs.Option.{unwrap_or}
use Rattle.std.proofs.lemmas.List.{take_more}
use Rattle.mont_base.specs.declared.record.Held.{Held}
use Rattle.mont_base.specs.declared.record.Kind.TheVariants as kinds
use Rattle.image_info.specs.EpochCounts.{HasNumbers}
use Rattle.image_info.proofs.EpochNumbers.{numbers_more}
use Rattle.image_info.proofs.epoch_counts.numbers_of_epochs.Goals as goal

some_held : Held
some_held = record { slot = 0; label = record { epoch = 0; kind = kinds.New; unit = 0; identity = 0; version = 0 }; body = [] }

pub loop-held-preserved : goal.loop-held-preserved
unfolding some_held
loop-held-preserved c =
    let records = c.args.records.now in
    let i = c.loop-held.held-index in
    let here = get_or records i some_held in
    let h = numbers_more c.loop-held.numbers c.insert.new.self (take i records) here c.unwrap_or-number.result c.loop-held.invariant
    (c.unwrap_or-number.ensures ∙ ap (λ o. unwrap_or o 0) (c.copied.ensures ∙ c.get.ensures.value)) c.in_ok-insert.ensures.updates.0 in
    subst (HasNumbers c.insert.new.self) (sym (take_more records i some_held c.loop-held-test.true)) h
