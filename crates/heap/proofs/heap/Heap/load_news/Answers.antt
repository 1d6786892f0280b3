use Rattle.std.proofs.Common.{arith, refl}
use Rattle.heap_rule.proofs.SeatedPlays.{hears_news_as}
use Rattle.heap.proofs.SeatTables.{heap_table}
use Rattle.heap.proofs.heap.Heap.load_news.Goals as goal

pub load-clock-requires : goal.load-clock-requires
load-clock-requires c =
    let words = c.self.invariant.words in (
      heap_table _ _ _ c.requires.heap c.self.view_is,
      omega (arith, words),
      hears_news_as _ _ _ _ _ _ _ c.requires.view refl,
    )
