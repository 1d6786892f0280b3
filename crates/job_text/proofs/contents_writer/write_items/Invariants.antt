use Rattle.std.proofs.Common.{◌≡◌, ◌++◌, map}
use Rattle.std.specs.String.{string_bytes}
use Rattle.std.specs.VecDeque.Iter.{deque_iter_rest}
use Rattle.job_text.specs.Lines.{text_of}
use Rattle.job_text.specs.ReportText.{item_words}
use Rattle.job_text.proofs.contents_writer.write_items.Given as goal

-- what is written so far and what is still to come are the whole
abbrev pub invariant-loop-item : goal.invariant-loop-item
invariant-loop-item l =
    string_bytes l.text ++ text_of (map item_words (deque_iter_rest l.item-iterator))
    ≡ string_bytes l.fn.text ++ text_of (map item_words (deque_iter_rest l.fn.items))
