-- The summary of a run of the generated job.
use Rattle.std.specs.Prelude.{ℕ, Bool, true, false, List, [], ◌∷◌, codes, decimal}
use Rattle.job_text.specs.Lines.{text_of}
use Rattle.big_job.specs.declared.totals.Totals.{Totals}

abbrev pub count_words : List ℕ → ℕ → List (List ℕ)
count_words name count = name ∷ decimal count ∷ []

-- what tells whether the clock came to its end
abbrev pub last_words : Bool → List (List ℕ)
last_words true = codes "clockend" ∷ []
last_words false = codes "end" ∷ []

abbrev pub summary_lines : ℕ → ℕ → ℕ → Totals → Bool → List (List (List ℕ))
summary_lines number lines answered totals clock_end =
    count_words (codes "montage-big") number
    ∷ count_words (codes "lines") lines
    ∷ count_words (codes "answered") answered
    ∷ count_words (codes "keys") totals.keys
    ∷ count_words (codes "items") totals.items
    ∷ count_words (codes "vertices") totals.vertices
    ∷ count_words (codes "edges") totals.edges
    ∷ count_words (codes "sum") totals.sum
    ∷ last_words clock_end ∷ []

abbrev pub summary_text : ℕ → ℕ → ℕ → Totals → Bool → List ℕ
summary_text number lines answered totals clock_end =
    text_of (summary_lines number lines answered totals clock_end)
