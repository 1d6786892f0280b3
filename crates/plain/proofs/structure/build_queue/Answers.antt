use Rattle.std.proofs.Common.{◌≡◌, rules, sym, ap, ◌∙◌, Ok}
use Rattle.std.specs.BTreeMap.{values}
use Rattle.mont_base.specs.State.{QueueOf}
use Rattle.plain.proofs.Items.{items_by_serial}
use Rattle.plain.proofs.structure.build_queue.Goals as goal

pub returns : goal.returns
returns c =
    let collected : c.in_ok-items.items.items ≡ values c.gather_all.new.into.items = search rules in
    let named = c.in_ok-slot.ensures.gathered (ap (λ f. Ok f) c.in_default.is) in
    record {
      sound = sym c.in_ok-slot.ensures.fault ∙ c.in_default.is;
      made = ap (λ items. QueueOf items) (c.from_items-state.ensures ∙ collected
          ∙ items_by_serial _ c.args.objects.now c.values.ensures.ordered named);
      refused = λ slot fault e. cc;
    }
