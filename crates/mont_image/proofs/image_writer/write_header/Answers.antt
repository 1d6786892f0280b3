use Rattle.std.proofs.Common.{◌≡◌, ◌∷◌, [], List, ℕ, subst}
use Rattle.std.specs.Io.KnownBytes.{Appends}
use Rattle.std.proofs.lemmas.Result.{on_ok_weaker, on_err_weaker}
use Rattle.mont_image.specs.declared.image_text.TheConstants.{MAGIC}
use Rattle.mont_image.specs.declared.image_text.Version.TheVariants.{Third}
use Rattle.mont_base.specs.Delivery.{AppendsFront}
use Rattle.mont_image.specs.ImageText.{bytes_of, header_words, header_of}
use Rattle.mont_image.proofs.image_writer.write_header.Goals as goal

pub returns-clause-all : goal.returns-clause-all
returns-clause-all g c =
    let old = g.K.Sink.taken c.args.sink.now in
    let new = g.K.Sink.taken c.write_words.new.sink in
    let same : MAGIC ∷ c.number-version.result ∷ c.units.result ∷ c.slots.result ∷ c.clock.result ∷ []
    ≡ header_words (header_of Third c.args.image.now.layout c.args.image.now.words) =
    λ i. MAGIC ∷ c.number-version.ensures i ∷ c.units.ensures.value i ∷ c.slots.ensures.value i ∷ c.clock.ensures i ∷ [] in
    on_ok_weaker c.write_words.result (subst (λ (ws : List ℕ). Appends old new (bytes_of ws)) same) c.write_words.ensures.all

pub returns-clause-part : goal.returns-clause-part
returns-clause-part g c =
    let old = g.K.Sink.taken c.args.sink.now in
    let new = g.K.Sink.taken c.write_words.new.sink in
    let same : MAGIC ∷ c.number-version.result ∷ c.units.result ∷ c.slots.result ∷ c.clock.result ∷ []
    ≡ header_words (header_of Third c.args.image.now.layout c.args.image.now.words) =
    λ i. MAGIC ∷ c.number-version.ensures i ∷ c.units.ensures.value i ∷ c.slots.ensures.value i ∷ c.clock.ensures i ∷ [] in
    on_err_weaker c.write_words.result (subst (λ (ws : List ℕ). AppendsFront old new (bytes_of ws)) same) c.write_words.ensures.part
