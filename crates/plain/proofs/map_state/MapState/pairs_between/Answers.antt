use Rattle.std.proofs.Common.{◌≡◌, sym, ap, ◌∙◌, subst}
use Rattle.std.specs.Bound.{MatchBound}
use Rattle.std.specs.Bool.{⊤}
use Rattle.std.specs.BTreeMap.Range.{IsLeBy, entries_between}
use Rattle.std.specs.declared.ops.Bound.{Bound}
use Rattle.std.specs.declared.ops.Bound.TheVariants.{Included}
use Rattle.mont_base.specs.State.{Key, key_cmp}
use Rattle.plain.proofs.Ranges.{kept_between, kept_none, at_most, at_most_itself}
use Rattle.plain.proofs.map_state.MapState.pairs_between.Goals as goal
use Rattle.plain.proofs.map_state.MapState.pairs_between.Goals.{then-le, else-le}

pub range-requires : goal.range-requires
range-requires c =
    let from = c.args.from.now in
    let Forward = λ (end : Bound Key). MatchBound end (IsLeBy key_cmp from) (IsLeBy key_cmp from) ⊤ in
    elim c.if-le.branch [
      | then-le w ↦ subst Forward (sym w.end-is) (at_most from c.args.to.now (sym c.le.ensures ∙ w.if-le.true))
      | else-le w ↦ subst Forward (sym w.end-is) (at_most_itself from)
    ]

pub returns : goal.returns
returns c =
    let es = c.self.inside.pairs.entries in
    let m = c.args.self.now in
    let from = c.args.from.now in
    let to = c.args.to.now in
    let held : (end : Bound Key) → c.if-le.end ≡ end → c.range.result ≡ entries_between key_cmp (Included from) end es =
    λ end is. c.range.ensures.between tt ∙ ap (λ (b : Bound Key). entries_between key_cmp (Included from) b es) is in
    elim c.if-le.branch [
      | then-le w ↦ held _ w.end-is ∙ kept_between es m c.self.view_is c.range.ensures.ordered from to
      | else-le w ↦ held _ w.end-is ∙ kept_none es m c.self.view_is c.range.ensures.ordered from to (sym c.le.ensures ∙ w.if-le.false)
    ]
