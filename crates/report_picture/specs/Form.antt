-- What the words of the command line ask for.
use Rattle.std.specs.Prelude.{◌≡◌, ℕ, List, [], ◌∷◌, codes}

-- SVG: there are no words
abbrev pub AreSvg : List (List ℕ) → Type 0
AreSvg words = words ≡ []

-- lines for a terminal: the word `text` alone
abbrev pub AreText : List (List ℕ) → Type 0
AreText words = words ≡ codes "text" ∷ []
