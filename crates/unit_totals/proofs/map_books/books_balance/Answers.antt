use Rattle.unit_totals.proofs.Balance.{balance}
use Rattle.unit_totals.proofs.map_books.books_balance.Goals as goal

pub returns : goal.returns
returns c = balance
