use Rattle.std.proofs.Common.{◌∙◌}
use Rattle.index_kit.proofs.Indexed.{len_shown}
use Rattle.index_kit.proofs.probe_index.ProbeIndexIndex.len.Goals as goal

pub returns : goal.returns
returns c = c.len.ensures ∙ c.self.inside.entries.ok.0 ∙ len_shown c.self.inside.entries.items c.self.inside.cells c.self.invariant _ _
    c.self.view_is
