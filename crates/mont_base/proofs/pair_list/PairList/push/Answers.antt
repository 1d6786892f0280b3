use Rattle.std.proofs.Common.{◌≡◌, ℕ, ◌<◌, ◌≤◌, List, [], ◌∙◌, ◌+◌, length, sym, ap, arith, length-set, length-take}
use Rattle.mont_base.specs.declared.constants.TheConstants.{MOST_PAIRS}
use Rattle.mont_base.proofs.Padded.{behind_more, behind, whole}
use Rattle.mont_base.proofs.pair_list.PairList.push.Goals as goal

pub invariant_of-self : goal.invariant_of-self
invariant_of-self c =
    let pairs = c.self.inside.pairs in
    let len = c.self.inside.len in
    let stands = c.self.invariant in
    let pair : List ℕ × List ℕ = (c.args.key, c.args.value) in
    let count : length c.args.self.now ≡ len =
    sym (ap length c.self.view_is) ∙ omega (arith, length-take len pairs, stands.few, stands.long) in
    let room : len < MOST_PAIRS = omega (arith, count, c.requires) in
    let set_long = length-set pairs len pair ∙ stands.long in
    let fillers = behind ([], []) MOST_PAIRS pairs len stands.few stands.long stands.behind in
    let left = behind_more ([], []) MOST_PAIRS pairs len pair room (omega (arith, stands.long, room)) fillers in
    let few : len + 1 ≤ MOST_PAIRS = omega (arith, room) in
    record { few = few; long = set_long; behind = whole ([], []) MOST_PAIRS _ (len + 1) few set_long left }
