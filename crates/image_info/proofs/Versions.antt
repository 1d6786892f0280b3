-- The version that stands in a text.
use Rattle.std.proofs.Common.{◌≡◌, ℕ, ◌<◌, ◌^◌, List, [], ◌∷◌, drop, ap, ◌∙◌, arith}
use Rattle.std.specs.Prelude.{slice_index}
use Rattle.std.proofs.lemmas.List.Elements.{All-cons, All-nil}
use Rattle.mont_base.specs.Layout.{Shape}
use Rattle.mont_image.specs.declared.image_text.Version.{Version}
use Rattle.mont_image.specs.declared.image_text.Version.TheVariants.{First, Second, Third}
use Rattle.mont_image.specs.ImageText.{bytes_of, number_of_version, text_in_version, text_words_of, words_in}
use Rattle.mont_image.proofs.WordBytes.{AreWords, bytes_of-append, words_behind}

second_word : (a b : ℕ) (rest : List ℕ) → a < 2 ^ 64 → b < 2 ^ 64 → slice_index (words_in (bytes_of (a ∷ b ∷ rest))) 1 ≡ b
second_word a b rest small_a small_b =
    let small : AreWords (a ∷ b ∷ []) = All-cons (λ w. w < 2 ^ 64) a (b ∷ []) small_a
    (All-cons (λ w. w < 2 ^ 64) b [] small_b (All-nil (λ w. w < 2 ^ 64))) in
    ap (λ bs. slice_index (words_in bs) 1) (bytes_of-append (a ∷ b ∷ []) rest)
    ∙ ap (λ ws. slice_index ws 1) (words_behind (a ∷ b ∷ []) (bytes_of rest) small)

-- the bytes `MONTAGE` and a line feed
abbrev magic : ℕ
magic = 740076059685179213

small_number : (v : Version) → number_of_version v < 2 ^ 64
small_number First = omega arith
small_number Second = omega arith
small_number Third = omega arith

pub version_told : (v : Version) (s : Shape) (words text : List ℕ) → text ≡ text_in_version v s words
    → slice_index (words_in text) 1 ≡ number_of_version v
version_told v s words text is =
    ap (λ bs. slice_index (words_in bs) 1) is
    ∙ second_word magic (number_of_version v) (drop 2 (text_words_of v s words)) (omega arith) (small_number v)
