use Rattle.std.proofs.Common.{◌≡◌, List, ℕ, ◌++◌, [], refl, sym, ap, ◌∙◌, subst, append_assoc}
use Rattle.std.proofs.KnownBytes.{Appends-nil, Appends-trans}
use Rattle.std.proofs.lemmas.Result.{err_from_is_err_and}
use Rattle.std.specs.Io.KnownBytes.{Appends}
use Rattle.mont_base.specs.Delivery.{AppendsFront}
use Rattle.mont_image.specs.ImageText.{bytes_of}
use Rattle.mont_image.proofs.WordBytes.{bytes_of-append}
use Rattle.mont_image.proofs.Spelled.{bytes_of_none, cut_back, three_parts, front_behind, front_before}
use Rattle.mont_image.proofs.image_writer.write_words.Goals as goal

pub loop-rest-init : goal.loop-rest-init
loop-rest-init g c =
    let taken = g.K.Sink.taken c.args.sink.now in
    record {
      sent = ([], refl, subst (λ (bs : List ℕ). Appends taken taken bs) bytes_of_none (Appends-nil taken));
      kept = refl;
      room = refl;
    }

pub returns-in_err-deliver-clause-part : goal.returns-in_err-deliver-clause-part
returns-in_err-deliver-clause-part g c =
    let sent = c.loop-rest.invariant.sent in
    let old = g.K.Sink.taken c.args.sink.now in
    let now = g.K.Sink.taken c.loop-rest.sink in
    let new = g.K.Sink.taken c.deliver.new.sink in
    let piece = c.split_at.result.0.now in
    let behind = c.split_at.result.1.now in
    let failed = err_from_is_err_and c.from_residual.result c.from_residual.ensures.1 in
    let split : c.loop-rest.rest.now ≡ piece ++ behind =
    cut_back c.loop-rest.rest.now piece behind c.min.result c.split_at.ensures.front c.split_at.ensures.back in
    let part = subst (λ (bs : List ℕ). AppendsFront now new bs) c.spell.ensures c.in_err-deliver.ensures.part in
    let parts : bytes_of c.args.words.now ≡ bytes_of sent.0 ++ (bytes_of piece ++ bytes_of behind) =
    three_parts c.args.words.now sent.0 c.loop-rest.rest.now piece behind sent.1 split in
    rw failed.1
    (subst (λ (bs : List ℕ). AppendsFront old new bs) (sym {b = bytes_of sent.0 ++ (bytes_of piece ++ bytes_of behind)} parts)
    (front_behind old now new (bytes_of sent.0) (bytes_of piece ++ bytes_of behind) sent.2
    (front_before now new (bytes_of piece) (bytes_of behind) part)))

pub loop-rest-preserved : goal.loop-rest-preserved
loop-rest-preserved g c =
    let sent = c.loop-rest.invariant.sent in
    let old = g.K.Sink.taken c.args.sink.now in
    let now = g.K.Sink.taken c.loop-rest.sink in
    let new = g.K.Sink.taken c.deliver.new.sink in
    let piece = c.split_at.result.0.now in
    let behind = c.split_at.result.1.now in
    let split : c.loop-rest.rest.now ≡ piece ++ behind =
    cut_back c.loop-rest.rest.now piece behind c.min.result c.split_at.ensures.front c.split_at.ensures.back in
    let all = subst (λ (bs : List ℕ). Appends now new bs) c.spell.ensures c.in_ok-deliver.ensures.all in
    record {
      sent = (
        sent.0 ++ piece,
        sent.1 ∙ ap (λ (ws : List ℕ). sent.0 ++ ws) split ∙ sym (append_assoc sent.0 piece behind),
        subst (λ (bs : List ℕ). Appends old new bs) (sym (bytes_of-append sent.0 piece))
            (Appends-trans old now new (bytes_of sent.0) (bytes_of piece) sent.2 all),
      );
      kept = c.in_ok-deliver.ensures.cause.kept ∙ c.loop-rest.invariant.kept;
      room = c.spell.auto.buffer ∙ c.loop-rest.invariant.room;
    }
