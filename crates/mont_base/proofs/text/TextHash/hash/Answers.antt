use Rattle.std.proofs.Common.{ap, ◌∙◌}
use Rattle.std.specs.List.{fold}
use Rattle.std.specs.Hash.{slice, u64}
use Rattle.mont_base.proofs.text.TextHash.hash.Goals as goal

pub returns : goal.returns
returns g c = c.hash.ensures ∙ ap (λ words. fold g.H.Hasher.write c.args.state.now (slice u64 words)) c.words.ensures.value
