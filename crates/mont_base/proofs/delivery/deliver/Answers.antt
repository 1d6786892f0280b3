use Rattle.std.proofs.Common.{◌≡◌, ℕ, ◌-◌, List, ◌++◌, Option, length, take, drop, subst, sym, ap, ◌∙◌, append_assoc, arith, length-drop, length-append}
use Rattle.std.proofs.lemmas.List.{take-append-drop, take_all}
use Rattle.std.proofs.KnownBytes.{Appends-trans, Appends-kept}
use Rattle.std.proofs.lemmas.Result.{err_from_is_err_and}
use Rattle.std.proofs.Math.Seq.{take-append_seam}
use Rattle.std.specs.Io.KnownBytes.{Appends}
use Rattle.mont_base.specs.Delivery.{AppendsFront}
use Rattle.mont_base.proofs.delivery.deliver.Goals as goal

-- the bytes in front of what a write left
front_more :
    (bytes front rest : List ℕ) (count : ℕ) → bytes ≡ front ++ rest
    → bytes ≡ (front ++ take count rest) ++ take (length rest - count) (drop count rest)
front_more bytes front rest count is =
    let left : take (length rest - count) (drop count rest) ≡ drop count rest =
    take_all (length rest - count) (drop count rest) (omega (arith, length-drop count rest)) in
    is ∙ ap (λ (xs : List ℕ). front ++ xs) (sym (take-append-drop count rest))
    ∙ sym (append_assoc front (take count rest) (drop count rest))
    ∙ ap (λ (xs : List ℕ). (front ++ take count rest) ++ xs) (sym left)

pub loop-rest-preserved : goal.loop-rest-preserved
loop-rest-preserved g c =
    let rest = c.loop-rest.rest.now in
    let count = c.in_ok-count.count in
    let sent = c.loop-rest.invariant.sent in
    record {
      sent = (
        sent.0 ++ take count rest,
        front_more c.args.bytes.now sent.0 rest count sent.1,
        Appends-trans (g.K.Sink.taken c.args.sink.now) (g.K.Sink.taken c.loop-rest.sink) (g.K.Sink.taken c.write.new.self) sent.0
            (take count rest) sent.2 c.in_ok-count.ensures.bytes,
      );
      kept = c.in_ok-count.ensures.cause.kept ∙ c.loop-rest.invariant.kept;
    }

-- bytes in front of others are a prefix
prefix_taken :
    (old new : Option (List ℕ)) (bytes front rest : List ℕ) → bytes ≡ front ++ rest → Appends old new front → AppendsFront old new bytes
prefix_taken old new bytes front rest is taken =
    let same : front ≡ take (length front) bytes = sym (ap (take (length front)) is ∙ take-append_seam front rest) in
    (length front, omega (arith, ap length is, length-append front rest), subst (Appends old new) same taken)

pub returns-in_err-count-clause-part : goal.returns-in_err-count-clause-part
returns-in_err-count-clause-part g c =
    let sent = c.loop-rest.invariant.sent in
    let old = g.K.Sink.taken c.args.sink.now in
    let new = g.K.Sink.taken c.write.new.self in
    let taken : Appends old new sent.0 =
    Appends-kept old (g.K.Sink.taken c.loop-rest.sink) new sent.0 sent.2 c.in_err-count.ensures.bytes in
    let failed = err_from_is_err_and c.from_residual.result c.from_residual.ensures.1 in
    rw failed.1 (prefix_taken old new c.args.bytes.now sent.0 c.loop-rest.rest.now sent.1 taken)
