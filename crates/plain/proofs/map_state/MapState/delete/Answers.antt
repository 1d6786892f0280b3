use Rattle.std.proofs.Common.{◌≡◌, Some, None, Option, refl, ap, ◌∙◌}
use Rattle.std.specs.FinMap as map
use Rattle.mont_base.specs.State.{Pairs, Key, Value, MapOf, map_del}
use Rattle.plain.proofs.Maps.{keys_total, keys_differ, remove-absent}
use Rattle.plain.proofs.map_state.MapState.delete.Goals as goal

deleted : (m : Pairs) (key : Key) (o : Option Value) → map.get m key ≡ o → MapOf (map.remove m key) ≡ (map_del m key o).state
deleted m key None e = ap (λ n. MapOf n) (remove-absent keys_total keys_differ m key e)
deleted m key (Some value) e = refl

pub returns-clause-state : goal.returns-clause-state
returns-clause-state c = ap (λ m. MapOf m) c.remove.ensures.after ∙ deleted c.args.self.now c.args.key.now _ refl
