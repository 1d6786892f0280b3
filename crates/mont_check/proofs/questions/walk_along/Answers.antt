use Rattle.std.proofs.Common.{◌≡◌, ℕ, ◌+◌, ◌≤◌, ◌==◌, Bool, true, false, List, ◌++◌, length, ap, ◌∙◌, subst, sym, arith}
use Rattle.std.specs.Prelude.{◌↔◌, Any, IsTrue}
use Rattle.std.proofs.lemmas.Bool.Decides.{nat_tests}
use Rattle.std.proofs.lemmas.List.Sorted.{IsNonDecreasingBy-drop}
use Rattle.std.specs.List.Sorted.{IsNonDecreasingBy}
use Rattle.plain.specs.States.{state_of}
use Rattle.mont_check.specs.declared.asked.Asked.{Asked}
use Rattle.mont_check.specs.Questions.{AreTried, EndsBy, FitsNow}
use Rattle.mont_check.specs.Walk.{facts_of}
use Rattle.mont_check.proofs.QuestionLaws.{Asks, asks_ended, asks_last, asks_more}
use Rattle.mont_check.proofs.WalkLaws.{facts_more}
use Rattle.mont_check.proofs.questions.walk_along.Goals as goal
use Rattle.mont_check.proofs.questions.walk_along.Goals.{then-point-history+in_ok-pass, else-point-history, then-is_empty, else-is_empty}

both_empty : (b u v : Bool) (l m n : ℕ) → l ≡ m → u ≡ (l == 0) → u ≡ true → v ≡ (n == 0) → b ≡ v → IsTrue b ↔ ((m ≡ 0) × (n ≡ 0))
both_empty b u v l m n long u_is was v_is b_is =
    (λ yes. (grind (arith, nat_tests), grind (arith, nat_tests)), λ none. grind (arith, nat_tests))

not_empty : (b u : Bool) (l m n : ℕ) → l ≡ m → u ≡ (l == 0) → u ≡ false → b ≡ false → IsTrue b ↔ ((m ≡ 0) × (n ≡ 0))
not_empty b u l m n long u_is was b_is = (λ yes. absurd cc, λ none. absurd (let m_is = none.0 in grind (arith, nat_tests)))

pub returns-in_default : goal.returns-in_default
returns-in_default c records opening ready =
    let a = c.args in
    let unmet = c.loop-point.unmet.items in
    let waiting = c.loop-point.waiting.now in
    let count = c.begun_by.result in
    let f = facts_of c.loop-point.walk in
    let within : c.loop-point.point ≤ length c.args.history.now = (let low = c.loop-point-test.true in omega arith) in
    let tried_is = c.as_slice.ensures.value ∙ c.in_ok-append.ensures ∙ ap (λ (ys : List Asked). unmet ++ ys) c.split_at.ensures.front in
    let ended = rw c.in_default.is at c.in_ok-left.ensures in
    asks_ended (state_of a.base.now) a.history.now records a.asked.now c.loop-point.point unmet waiting count f
    (c.loop-point.invariant.asks records opening ready) within (c.loop-point.invariant.walked within)
    (subst (Any (λ (q : Asked). (¬ FitsNow f records q) × EndsBy f.entries q)) tried_is (ended records opening))

pub loop-point-preserved : goal.loop-point-preserved
loop-point-preserved c =
    let a = c.args in
    let unmet = c.loop-point.unmet.items in
    let waiting = c.loop-point.waiting.now in
    let count = c.begun_by.result in
    let left = c.in-Some.left.items in
    let f = facts_of c.loop-point.walk in
    let within : c.loop-point.point ≤ length c.args.history.now = (let low = c.loop-point-test.true in omega arith) in
    let walked = c.loop-point.invariant.walked within in
    let tried_is = c.as_slice.ensures.value ∙ c.in_ok-append.ensures ∙ ap (λ (ys : List Asked). unmet ++ ys) c.split_at.ensures.front in
    let tells = rw c.in-Some.is at c.in_ok-left.ensures in
    record {
      walked =
          elim c.if-point-history.branch [
            | then-point-history+in_ok-pass w ↦ λ low. ap facts_of w.walk-is
                ∙ facts_more 0 (state_of a.base.now) a.history.now c.loop-point.point w.index-history-point.result f
                (facts_of w.pass.new.self)
                w.if-point-history.true w.index-history-point.is walked w.in_ok-pass.ensures
            | else-point-history w ↦ λ low. absurd (omega arith)
          ];
      rise =
          subst (IsNonDecreasingBy (λ (q : Asked). q.start)) (sym c.split_at.ensures.back)
          (IsNonDecreasingBy-drop (λ (q : Asked). q.start) count waiting c.loop-point.invariant.rise);
      asks = λ records opening ready. subst
          (Asks (state_of a.base.now) a.history.now records a.asked.now (c.loop-point.point + 1) left) (sym c.split_at.ensures.back)
          (asks_more (state_of a.base.now) a.history.now records a.asked.now c.loop-point.point unmet waiting left count f
          (c.loop-point.invariant.asks records opening ready) within walked c.begun_by.ensures
          (subst (λ (xs : List Asked). AreTried f records xs left) tried_is (tells records opening)));
    }

pub returns : goal.returns
returns c records opening ready =
    let a = c.args in
    let unmet = c.loop-point.unmet.items in
    let waiting = c.loop-point.waiting.now in
    let last : c.loop-point.point ≡ length c.args.history.now + 1 = omega arith in
    let says = asks_last (state_of a.base.now) a.history.now records a.asked.now c.loop-point.point unmet waiting last
    (c.loop-point.invariant.asks records opening ready) in
    let told : IsTrue c.if-is_empty.result ↔ ((length c.loop-point.unmet.items ≡ 0) × (length c.loop-point.waiting.now ≡ 0)) =
    elim c.if-is_empty.branch [
      | then-is_empty w ↦ both_empty c.if-is_empty.result c.is_empty.result w.is_empty-then-is_empty.result c.loop-point.unmet.len
          (length c.loop-point.unmet.items) (length c.loop-point.waiting.now) (omega (arith, c.loop-point.unmet.ok.0)) c.is_empty.ensures
          w.if-is_empty.true w.is_empty-then-is_empty.ensures w.result-is
      | else-is_empty w ↦ not_empty c.if-is_empty.result c.is_empty.result c.loop-point.unmet.len (length c.loop-point.unmet.items)
          (length c.loop-point.waiting.now) (omega (arith, c.loop-point.unmet.ok.0)) c.is_empty.ensures w.if-is_empty.false
          (w.result-is ∙ w.if-is_empty.false)
    ] in
    (λ yes. says.1 (told.0 yes), λ all. told.1 (says.0 all))
