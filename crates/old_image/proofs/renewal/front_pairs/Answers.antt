use Rattle.std.proofs.Common.{◌≡◌, suc, ◌+◌, List, [], ◌∷◌, ◌++◌, take, drop, get_or, map, refl, sym, ap, ◌∙◌, subst, add-one}
use Rattle.std.specs.Prelude.{All}
use Rattle.std.proofs.lemmas.List.{map-append, take-append-drop}
use Rattle.std.proofs.lemmas.List.Elements.{All-push}
use Rattle.std.proofs.Math.Seq.{take-suc, drop-cons}
use Rattle.mont_base.specs.declared.kinds.UnitKind.TheVariants as kinds
use Rattle.mont_base.specs.declared.record.Object.{Object}
use Rattle.old_image.specs.OldStructure.{renewed_object}
use Rattle.old_image.specs.Renewal.{HoldsNumbers}
use Rattle.old_image.proofs.renewal.front_pairs.Goals as goal

pub returns-in-None : goal.returns-in-None
returns-in-None c =
    let os = c.args.objects.now in
    let at = c.loop-object.object-index in
    record {
      front = take at os;
      behind = get_or os at _ ∷ drop (suc at) os;
      all = sym (take-append-drop at os) ∙ ap (λ (rest : List Object). take at os ++ rest) (drop-cons os at _ c.loop-object-test.true);
      numbers = c.loop-object.invariant.numbers;
      pairs_are = c.loop-object.invariant.pairs_are;
      ends = (refl, sym c.number_pair_in.ensures.exact ∙ c.in-None.is);
    }

pub loop-object-preserved : goal.loop-object-preserved
loop-object-preserved c =
    let os = c.args.objects.now in
    let at = c.loop-object.object-index in
    let o = get_or os at (record { slot = 0; identity = 0; version = 0; body = [] }) in
    let one : take (at + 1) os ≡ take at os ++ o ∷ [] = rw (add-one) (take-suc os at _ c.loop-object-test.true) in
    let has : HoldsNumbers o = record {
      key = c.in-Some.numbers.0;
      value = c.in-Some.numbers.1;
      are = sym c.number_pair_in.ensures.exact ∙ c.in-Some.is;
      small_key = c.in-Some.ensures.small.0;
      small_value = c.in-Some.ensures.small.1;
    } in
    record {
      numbers = subst (All HoldsNumbers) (sym one) (All-push HoldsNumbers (take at os) o c.loop-object.invariant.numbers has);
      pairs_are = c.in_ok-push-in-Some.ensures.items
          ∙ (λ i. c.loop-object.invariant.pairs_are i ++ c.renewed_pair.ensures i ∷ [])
          ∙ sym (map-append (renewed_object kinds.Map) (take at os) (o ∷ [])) ∙ ap (map (renewed_object kinds.Map)) (sym one);
    }
