use Rattle.std.proofs.Common.{arith}
use Rattle.mont_image.proofs.WordBytes.{bytes_of-words_in}
use Rattle.mont_image.proofs.image_reader.push_words.Goals as goal

pub returns-in_err-push-clause-spelled : goal.returns-in_err-push-clause-spelled
returns-in_err-push-clause-spelled c =
    λ count long. bytes_of-words_in count c.args.bytes.now long (λ i. omega (arith, c.type_inv.bytes i))

pub returns-clause-spelled : goal.returns-clause-spelled
returns-clause-spelled c = λ count long. bytes_of-words_in count c.args.bytes.now long (λ i. omega (arith, c.type_inv.bytes i))
