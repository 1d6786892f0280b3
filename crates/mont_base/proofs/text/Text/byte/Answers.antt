use Rattle.std.proofs.Common.{sym, ap, ◌∙◌, length, get_or}
use Rattle.std.proofs.lemmas.List.{get_or-take}
use Rattle.mont_base.proofs.text.Text.byte.Goals as goal

pub returns : goal.returns
returns c =
    sym (get_or-take (length c.args.self.now) c.held.result c.args.at 0 c.requires)
    ∙ ap (λ bytes. get_or bytes c.args.at 0) c.held.ensures
