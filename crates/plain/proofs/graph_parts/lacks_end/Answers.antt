use Rattle.std.proofs.Common.{◌≡◌, ◌&&◌, Bool, ℕ, sym, ap, ◌∙◌}
use Rattle.std.specs.Option.{is_some}
use Rattle.std.specs.Ordering.{nat_cmp}
use Rattle.std.specs.BTreeMap.{get}
use Rattle.plain.proofs.Named.{ends_told}
use Rattle.plain.proofs.graph_parts.lacks_end.Goals as goal
use Rattle.plain.proofs.graph_parts.lacks_end.Goals.{then-contains_key, else-contains_key}

pub returns-after-contains_key : goal.returns-after-contains_key
returns-after-contains_key c =
    let stands : ℕ → Bool = λ end. is_some (get nat_cmp c.args.vertices.now end) in
    let tells : c.if-contains_key.result ≡ (stands c.in-Some.from && stands c.in-Some.to) = elim c.if-contains_key.branch [
      | then-contains_key w ↦ w.result-is ∙ w.contains_key-then-contains_key.ensures
          ∙ ap (λ b. b && stands c.in-Some.to) (sym w.if-contains_key.true ∙ c.contains_key.ensures)
      | else-contains_key w ↦ w.result-is ∙ w.if-contains_key.false
          ∙ ap (λ b. b && stands c.in-Some.to) (sym w.if-contains_key.false ∙ c.contains_key.ensures)
    ] in
    λ all h. ends_told _ all _ _ _ _ h (sym c.edge_in.ensures.exact ∙ c.in-Some.is) tells
