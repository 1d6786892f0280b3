-- What is wanted of a case.
use Rattle.std.specs.Prelude.{◌≡◌, ℕ, List, codes, string_bytes, Any}
use Rattle.case_file.specs.declared.case.Case.{Case}
use Rattle.case_file.specs.declared.case.Part.{Part}

-- a part says that this text is wanted
abbrev pub Wants : List ℕ → Part → Type 0
Wants got part = (string_bytes part.head ≡ codes "wanted") × (part.text.items ≡ got)

-- one of the parts does
abbrev pub IsWanted : Case → List ℕ → Type 0
IsWanted case got = Any (Wants got) case.parts.items
