-- The items of a queue by their serials.
use Rattle.std.proofs.Common.{◌≡◌, ℕ, List, map, sym, ap, ◌∙◌}
use Rattle.std.specs.Ordering.{nat_cmp}
use Rattle.std.specs.Cmp.{nat_cmp_total}
use Rattle.std.specs.BTreeMap as tree
use Rattle.std.specs.FinMap as finite
use Rattle.mont_base.specs.declared.record.Object.{Object}
use Rattle.mont_base.specs.Structure.{item_at, items_of}
use Rattle.plain.specs.Built.{HasNamed}
use Rattle.plain.proofs.Maps.{entries-sorted}

-- the values of a sorted map are the items by rising serial
pub items_by_serial : (m : tree.BTreeMap ℕ ℕ) (os : List Object) → tree.IsOrdered nat_cmp m → HasNamed nat_cmp item_at m os
    → tree.values m ≡ items_of os
items_by_serial m os sorted h =
    ap (map (λ (e : ℕ × ℕ). e.1)) (sym (entries-sorted nat_cmp_total m.entries sorted))
    ∙ ap (λ (r : finite.FinMap nat_cmp ℕ). finite.values r) h.same
