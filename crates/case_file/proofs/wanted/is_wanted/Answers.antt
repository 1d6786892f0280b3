use Rattle.std.proofs.Common.{rules, IsTrue, true}
use Rattle.case_file.proofs.wanted.is_wanted.Goals as goal

pub returns-then-wants : goal.returns-then-wants
returns-then-wants c =
    let yes : IsTrue true = search rules in (
      λ _. (
        c.loop-part.part-index,
        c.part-item.result,
        search (rules, c.loop-part-test.true, c.deref-part-items.ensures.len),
        search (rules, c.part-item.is),
        c.wants.ensures.0 (search (rules, c.if-wants.true)),
      ),
      λ _. yes,
    )
