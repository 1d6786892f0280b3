use Rattle.std.proofs.Common.{Some, ap, sym, subst, ◌∙◌, ℕ}
use Rattle.slab.specs.Slab.{Slab, Updates}
use Rattle.pgraph.specs.Shelf.{AreShelved, shelved}
use Rattle.pgraph.proofs.Shelved.{updates_by_order, with_room, shelved_with_room, insert_shelved, insert_sets}
use Rattle.pgraph.proofs.shelf.Shelf.insert.Goals as goal

pub invariant_of-self-2 : goal.invariant_of-self-2
invariant_of-self-2 g c =
    let es = c.self.inside.keys.entries in
    let room = c.reserve.new.self in
    let are = subst (λ (s : Slab g.row.V.Denot). AreShelved g.K.Ord.cmp s es) (sym c.in_ok-reserve.ensures.rest_kept)
    (with_room c.self.inside.values es c.self.invariant room.capacity) in
    let updates = subst (λ (k : ℕ). Updates room c.insert_reserved.new.self k (Some c.args.value))
    (c.insert_reserved.ensures.key ∙ sym c.vacant_key-key.ensures.value) c.insert_reserved.ensures.updates in
    insert_shelved g.met.K.Ord.total room c.insert_reserved.new.self es c.insert.new.self.entries c.args.name c.vacant_key-key.result
    c.args.value are c.vacant_key-key.ensures.vacant updates
    (updates_by_order _ _ g.met.K.Ord.matches_eq _ _ _ _ c.in_ok-insert.ensures.updates.0)

pub returns-clause-ok : goal.returns-clause-ok
returns-clause-ok g c =
    let es = c.self.inside.keys.entries in
    let room = c.reserve.new.self in
    let are = subst (λ (s : Slab g.row.V.Denot). AreShelved g.K.Ord.cmp s es) (sym c.in_ok-reserve.ensures.rest_kept)
    (with_room c.self.inside.values es c.self.invariant room.capacity) in
    let updates = subst (λ (k : ℕ). Updates room c.insert_reserved.new.self k (Some c.args.value))
    (c.insert_reserved.ensures.key ∙ sym c.vacant_key-key.ensures.value) c.insert_reserved.ensures.updates in
    insert_sets g.met.K.Ord.total room c.insert_reserved.new.self es c.insert.new.self.entries c.args.name c.vacant_key-key.result
    c.args.value are c.vacant_key-key.ensures.vacant updates
    (updates_by_order _ _ g.met.K.Ord.matches_eq _ _ _ _ c.in_ok-insert.ensures.updates.0) c.args.self.now
    (ap (λ (s : Slab g.row.V.Denot). shelved s es) c.in_ok-reserve.ensures.rest_kept
    ∙ shelved_with_room c.self.inside.values room.capacity es ∙ c.self.view_is)
