-- The lines of a text whose words have no space and no line feed are these lines.
use Rattle.std.proofs.Common.{◌≡◌, ℕ, List, [], ◌∷◌, ◌++◌, refl, ap, ◌∙◌}
use Rattle.std.proofs.lemmas.List.{append_assoc}
use Rattle.job_text.specs.Lines.{spaced, line_of, text_of}
use Rattle.job_text.specs.Parts.{Lacks}
use Rattle.job_text.specs.LineWords.{words_of}
use Rattle.job_text.specs.TextParts.{Row}
use Rattle.job_text.specs.Readings.{lines_in}
use Rattle.job_text.proofs.ReadLines.{lines_split}

-- a line whose words are found again, and which has no line feed
pub record IsClean (row : Row) : Type 0 where
  pub words : words_of (spaced row) ≡ row
  pub whole : Lacks 10 (spaced row)

abbrev pub AllClean : List Row → Type 0
AllClean [] = Unit {0}
AllClean (row ∷ rows) = IsClean row × AllClean rows

pub clean_lines : (rows : List Row) (rest : List ℕ) → AllClean rows → lines_in (text_of rows ++ rest) ≡ rows ++ lines_in rest
clean_lines [] rest clean = refl
clean_lines (row ∷ rows) rest clean =
    let behind = text_of rows ++ rest in
    let joined : text_of (row ∷ rows) ++ rest ≡ spaced row ++ 10 ∷ behind =
    append_assoc (line_of row) (text_of rows) rest ∙ append_assoc (spaced row) (10 ∷ []) behind in
    lines_split (text_of (row ∷ rows) ++ rest) (spaced row) behind (record { joined = joined; first = clean.0.whole })
    ∙ ap (λ (w : Row). w ∷ lines_in behind) clean.0.words ∙ ap (λ (rs : List Row). row ∷ rs) (clean_lines rows rest clean.1)

pub clean_append : (xs ys : List Row) → AllClean xs → AllClean ys → AllClean (xs ++ ys)
clean_append [] ys a b = b
clean_append (x ∷ xs) ys a b = (a.0, clean_append xs ys a.1 b)
