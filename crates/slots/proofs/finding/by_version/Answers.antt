use Rattle.std.proofs.Common.{rules, ◌++◌, ◌∙◌, List, ap, subst}
use Rattle.std.specs.List.Sorted.{IsPermutation}
use Rattle.std.proofs.lemmas.List.Sorted.{answers_always}
use Rattle.mont_base.specs.declared.record.Held.{Held}
use Rattle.slots.proofs.VersionSorts.{by_two_sorts, version_in_label, identity_in_label}
use Rattle.slots.proofs.finding.by_version.Goals as goal

pub returns : goal.returns
returns c =
    by_two_sorts c.args.records.now c.sort_by_key.new.self.items c.sort_by_key-2.new.self.items c.requires
    (subst (λ (l : List Held). IsPermutation l c.sort_by_key.new.self.items)
    (c.in_ok-extend_from_slice.ensures.items ∙ ap (λ (l : List Held). l ++ c.args.records.now) c.new-sorted.ensures.items)
    c.sort_by_key.ensures.permutation)
    c.sort_by_key-2.ensures.permutation
    (c.in_ok-sort_by_key.ensures.sorted version_in_label (answers_always _ _ _ (λ f a r g called. search rules)))
    (c.in_ok-sort_by_key-2.ensures.sorted identity_in_label (answers_always _ _ _ (λ f a r g called. search rules)))
    (c.sort_by_key-2.ensures.stable identity_in_label (answers_always _ _ _ (λ f a r g called. search rules)))
