use Rattle.std.proofs.Common.{◌≡◌, [], ◌∷◌, ◌++◌, length, map, refl, ◌∙◌, arith}
use Rattle.std.specs.Vec.Iter.{into_iter_items}
use Rattle.store.proofs.Passed.{one_more_passed, none_left, one_less_each, one_is_left, one_more_mapped}
use Rattle.store_door.proofs.door.brought_together.Goals as goal

pub next_work-work-requires : goal.next_work-work-requires
next_work-work-requires g c =
    one_is_left _ _ c.in-Some.pass (into_iter_items c.loop-pass.works) c.in-Some.ensures.steps.0 c.loop-pass.invariant.as_many

pub loop-pass-preserved : goal.loop-pass-preserved
loop-pass-preserved g c =
    let i = c.loop-pass.invariant in
    let old = c.loop-pass.at_work.items in
    let new = c.push.new.self.items in
    let push = c.in_ok-push.ensures.items in
    let next = c.in-Some.ensures.steps.0 in
    let pass = c.in-Some.pass in
    let work = c.next_work-work.result in
    let works = into_iter_items c.loop-pass.works in
    let after = into_iter_items c.next_work-work.new.works in
    let mapped = one_more_mapped old new _ work (λ a. a.work) push refl in
    record {
      callers = one_more_passed _ c.loop-pass.yielded _ _ pass i.callers next;
      passes = one_more_mapped old new _ pass (λ a. a.pass) push refl ∙ (λ j. i.passes j ++ pass ∷ []);
      works = (λ j. mapped j ++ after)
          ∙ one_more_passed _ (map (λ a. a.work) old) works after work i.works c.next_work-work.ensures;
      as_many = one_less_each works after work _ _ pass c.next_work-work.ensures next i.as_many;
    }

pub returns : goal.returns
returns g c =
    let i = c.loop-pass.invariant in
    let many = i.as_many in
    let none : length c.loop-pass.pass-iterator.rest.items ≡ 0 = omega (arith, c.in-None.ensures.steps.0) in
    record {
      passes = i.passes ∙ none_left _ c.loop-pass.yielded _ i.callers none;
      works = none_left _ (map (λ a. a.work) c.loop-pass.at_work.items) (into_iter_items c.loop-pass.works) i.works
          (omega (arith, many, none));
    }
