use Rattle.std.proofs.Common.{sym, subst}
use Rattle.mont_check.specs.Progress.{AllowsEntry, AllowsPlace}
use Rattle.mont_check.proofs.progress.Progress.allows_call.Goals as goal

pub returns-then-allows_entry : goal.returns-then-allows_entry
returns-then-allows_entry c =
    let p = c.args.self.now in (
      λ yes. record {
        entry = subst (AllowsEntry p) c.epoch_of.ensures (c.allows_entry.ensures.0 c.if-allows_entry.true);
        place = subst (AllowsPlace p) c.place_of.ensures (c.allows_place.ensures.0 yes);
      },
      λ both. c.allows_place.ensures.1 (subst (AllowsPlace p) (sym c.place_of.ensures) both.place),
    )
