use Rattle.std.proofs.Common.{◌≡◌, ◌+◌, ◌*◌, ◌/◌, ◌≤◌, ℕ, length, take, drop, vec_len, refl, ap, ◌∙◌, arith, length-append, length-drop}
use Rattle.std.proofs.lemmas.List.{length-take-le}
use Rattle.std.proofs.lemmas.Result.{err_from_is_err_and}
use Rattle.mont_image.specs.declared.image_reader.TheConstants.{CHUNK}
use Rattle.mont_image.specs.declared.image_text.TheConstants.{WORD}
use Rattle.mont_image.specs.ImageText.{bytes_of, words_in, is_old}
use Rattle.mont_image.specs.StoredImage.{slot_words}
use Rattle.mont_image.proofs.Filling.{loses_behind}
use Rattle.mont_image.proofs.Slots.{piece_words, piece_spelled, length-grown, slots_more, same_clock, ends_early, length-slots, begun, piece_count}
use Rattle.mont_image.proofs.image_reader.read_slots.Goals as goal

pub loop-chunk-init : goal.loop-chunk-init
loop-chunk-init g c =
    let start = begun (g.S.Source.left c.args.source.now) c.in_ok-words.words.items c.push.new.self.items c.args.header.now.clock
    c.in_ok-words.ensures.items c.in_ok-push.ensures.items in
    record {
      count = λ i. c.fields.ensures i * c.total.ensures.value i;
      clock = start.1;
      in_range = start.2 (omega (arith, c.requires.header.clock_last));
      some = omega (arith, c.in_ok-push.ensures.len);
      few = omega (arith, c.in_ok-push.ensures.len, c.in_ok-words.ensures.len);
      taken = start.0;
      kept = refl;
      chunk = refl;
    }

pub returns-in_err-given-clause-refused : goal.returns-in_err-given-clause-refused
returns-in_err-given-clause-refused g c =
    let i = c.loop-chunk.invariant in
    let left = g.S.Source.left in
    let items = c.loop-chunk.words.items in
    let room = c.min-room.result in
    let long : length c.fill.new.buf ≡ room = c.fill.auto.buf ∙ length-take-le room c.loop-chunk.chunk (omega (arith, i.chunk)) in
    let failed = err_from_is_err_and c.from_residual-in_err-given.result c.from_residual-in_err-given.ensures.1 in
    rw (failed.1, failed.2)
    (loses_behind (WORD * slot_words (is_old c.args.header.now.version) c.args.layout.now) (length c.fill.new.buf)
    (left c.args.source.now) (left c.loop-chunk.source) (left c.fill.new.source)
    (bytes_of (drop 1 items)) i.taken c.in_err-given.ensures.part
    (omega (arith, long, length-slots items (omega arith), i.count)))

pub returns-in_err-push_words-clause-refused : goal.returns-in_err-push_words-clause-refused
returns-in_err-push_words-clause-refused g c =
    let i = c.loop-chunk.invariant in
    let left = g.S.Source.left in
    let items = c.loop-chunk.words.items in
    let room = c.min-room.result in
    let given = c.in_ok-given.given in
    let long : length c.fill.new.buf ≡ room = c.fill.auto.buf ∙ length-take-le room c.loop-chunk.chunk (omega (arith, i.chunk)) in
    let few : length (take given c.fill.new.buf) ≡ given = length-take-le given c.fill.new.buf c.in_ok-given.ensures.bound in
    let failed = err_from_is_err_and c.from_residual-in_err-push_words.result c.from_residual-in_err-push_words.ensures.1 in
    rw (failed.1, failed.2)
    (loses_behind (WORD * slot_words (is_old c.args.header.now.version) c.args.layout.now) given (left c.args.source.now)
    (left c.loop-chunk.source) (left c.fill.new.source) (bytes_of (drop 1 items)) i.taken
    (take given c.fill.new.buf, omega (arith, few), c.in_ok-given.ensures.bytes)
    (omega (arith, long, c.in_ok-given.ensures.bound, length-slots items (omega arith), i.count)))

pub returns-then-given-room-clause-refused : goal.returns-then-given-room-clause-refused
returns-then-given-room-clause-refused g c =
    let i = c.loop-chunk.invariant in
    let left = g.S.Source.left in
    let items = c.loop-chunk.words.items in
    let room = c.min-room.result in
    let given = c.in_ok-given.given in
    let long : length c.fill.new.buf ≡ room = c.fill.auto.buf ∙ length-take-le room c.loop-chunk.chunk (omega (arith, i.chunk)) in
    let few : length (take given c.fill.new.buf) ≡ given = length-take-le given c.fill.new.buf c.in_ok-given.ensures.bound in
    let is =
    piece_words items c.push_words.new.words.items c.fill.new.buf (drop room c.loop-chunk.chunk) given c.in_ok-given.ensures.bound
    c.in_ok-push_words.ensures.added in
    let grown : length c.push_words.new.words.items ≡ length items + given / WORD =
    length-grown items c.push_words.new.words.items (take given c.fill.new.buf) is ∙ ap (λ (n : ℕ). length items + n / WORD) few in
    ends_early c.args.header.now c.args.layout.now (left c.args.source.now) (left c.loop-chunk.source) (left c.fill.new.source) items
    (take given c.fill.new.buf) _ i.taken c.in_ok-given.ensures.bytes (c.in_ok-given.ensures.ended (omega (arith, long))) (omega arith)
    (omega (arith, few, i.count)) (omega (arith, few, grown, c.front.ensures, c.len-then-given-room.ensures))

pub loop-chunk-smaller : goal.loop-chunk-smaller
loop-chunk-smaller g c =
    let i = c.loop-chunk.invariant in
    let items = c.loop-chunk.words.items in
    let room = c.min-room.result in
    let given = c.in_ok-given.given in
    let few : length (take given c.fill.new.buf) ≡ given = length-take-le given c.fill.new.buf c.in_ok-given.ensures.bound in
    let is =
    piece_words items c.push_words.new.words.items c.fill.new.buf (drop room c.loop-chunk.chunk) given c.in_ok-given.ensures.bound
    c.in_ok-push_words.ensures.added in
    let grown : length c.push_words.new.words.items ≡ length items + given / WORD =
    length-grown items c.push_words.new.words.items (take given c.fill.new.buf) is ∙ ap (λ (n : ℕ). length items + n / WORD) few in
    omega (arith, grown)

pub loop-chunk-preserved : goal.loop-chunk-preserved
loop-chunk-preserved g c =
    let i = c.loop-chunk.invariant in
    let left = g.S.Source.left in
    let items = c.loop-chunk.words.items in
    let now = c.push_words.new.words.items in
    let room = c.min-room.result in
    let given = c.in_ok-given.given in
    let buf = c.fill.new.buf in
    let tail = drop room c.loop-chunk.chunk in
    let bytes = take given buf in
    let long : length buf ≡ room = c.fill.auto.buf ∙ length-take-le room c.loop-chunk.chunk (omega (arith, i.chunk)) in
    let few : length bytes ≡ given = length-take-le given buf c.in_ok-given.ensures.bound in
    let is = piece_words items now buf tail given c.in_ok-given.ensures.bound c.in_ok-push_words.ensures.added in
    let grown : length now ≡ length items + given / WORD =
    length-grown items now bytes is ∙ ap (λ (n : ℕ). length items + n / WORD) few in
    let some : 1 ≤ length items = omega arith in
    let piece = piece_count (vec_len c.loop-chunk.words) (c.fields.result * c.total.result) CHUNK (CHUNK / WORD) refl (omega arith)
    (omega arith) in
    let whole : given ≡ WORD * piece.0 = omega (arith, piece.1, long, c.in_ok-given.ensures.bound) in
    let spelled = piece_spelled buf tail given piece.0 c.in_ok-given.ensures.bound whole c.in_ok-push_words.ensures.spelled in
    record {
      count = i.count;
      clock = same_clock items now (words_in bytes) some is ∙ i.clock;
      in_range = c.in_ok-push_words.ensures.in_range;
      some = omega (arith, grown);
      few = omega (arith, grown, piece.3, whole);
      taken =
          slots_more (left c.args.source.now) (left c.loop-chunk.source) (left c.fill.new.source) items now bytes i.taken
          c.in_ok-given.ensures.bytes some spelled is;
      kept = c.in_ok-given.ensures.cause.kept ∙ i.kept;
      chunk = omega (arith, long, length-append buf tail, length-drop room c.loop-chunk.chunk, i.chunk);
    }

pub returns-clause-read : goal.returns-clause-read
returns-clause-read g c =
    let i = c.loop-chunk.invariant in
    (record { size = omega (arith, i.count); clock = i.clock; in_range = i.in_range }, i.taken)
