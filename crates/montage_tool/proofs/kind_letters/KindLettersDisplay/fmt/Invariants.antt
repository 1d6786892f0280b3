use Rattle.std.proofs.Common.{take}
use Rattle.std.specs.Fmt.{HasWritten, IsPlainFormatter}
use Rattle.mont_base.specs.Layout.{letters_of}
use Rattle.montage_tool.proofs.kind_letters.KindLettersDisplay.fmt.Given as goal

abbrev pub invariant-loop-kind : goal.invariant-loop-kind
invariant-loop-kind g l =
    IsPlainFormatter l.fn.f → HasWritten g.W.Write.write_str_gives l.fn.f (letters_of (take l.kind-index l.self.0.now)) l.f
