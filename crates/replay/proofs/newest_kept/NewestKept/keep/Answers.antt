use Rattle.std.proofs.Common.{sym, subst}
use Rattle.std.specs.Prelude.{Option}
use Rattle.std.specs.BTreeMap as tree
use Rattle.mont_base.specs.declared.record.Held.{Held}
use Rattle.core_answer.specs.Newest.{IsNewer}
use Rattle.core_answer.proofs.NewestRecords.{newest_inserted, newest_passed}
use Rattle.replay.proofs.newest_kept.NewestKept.keep.Goals as goal

pub returns-in_ok-insert : goal.returns-in_ok-insert
returns-in_ok-insert c =
    let Newer : Option Held → Type 0 = λ o. IsNewer o c.args.held.now in
    newest_inserted c.args.self.now.records c.insert.new.self c.args.held.now c.in_ok-insert.ensures.was_ordered c.args.self.now.keyed
    c.in_ok-insert.ensures.updates c.in_ok-insert.ensures.ordered
    (subst Newer c.get-known.ensures (c.is_newer.ensures.0 c.if-is_newer.true))

pub returns-else-is_newer : goal.returns-else-is_newer
returns-else-is_newer c =
    newest_passed (tree.values c.args.self.now.records) c.args.held.now
    (λ newer. let t = c.is_newer.ensures.1 (subst (λ o. IsNewer o c.args.held.now) (sym c.get-known.ensures) newer) in
    let f = c.if-is_newer.false in absurd (cc))
