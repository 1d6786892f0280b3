use Rattle.plain.specs.States.{states_of}
use Rattle.recovery_cases.proofs.Contents.{if_told}
use Rattle.recovery_cases.proofs.found_text.contents_text.Goals as goal

pub returns : goal.returns
returns c =
    if_told c.write_contents.result (λ text. text.items) c.args.layout c.args.store.now.heap.opening.layout
    c.args.store.now.heap.opening.words
    c.clock.result (states_of c.contents.result.now) c.requires c.clock.ensures c.contents.ensures c.write_contents.ensures
