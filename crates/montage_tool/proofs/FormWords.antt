-- Words have one form at most: it is read off how many they are and how the first is spelled.
use Rattle.std.proofs.Common.{◌≡◌, ℕ, ◌<◌, ◌^◌, List, [], ◌∷◌, decimal, sym, ap, ◌∙◌, arith}
use Rattle.std.specs.Prelude.{◌==◌, if◌then◌else◌}
use Rattle.std.proofs.lemmas.Fmt.{decimal_is_IsNumeral}
use Rattle.std.specs.Str.Parse.{digits_value}
use Rattle.montage_tool.specs.declared.forms.Form.{Form}
use Rattle.montage_tool.specs.declared.forms.Form.TheVariants.{Run, Crash, Resume, ResumeTo, Recover, Check, Replay, Big, Bank}
use Rattle.montage_tool.specs.Forms.{IsForm}

-- ---- spellings
abbrev pub first_byte : List ℕ → ℕ
first_byte [] = 0
first_byte (byte ∷ bytes) = byte

abbrev second_byte : List ℕ → ℕ
second_byte (a ∷ b ∷ bytes) = b
second_byte _ = 0

abbrev third_byte : List ℕ → ℕ
third_byte (a ∷ b ∷ c ∷ bytes) = c
third_byte _ = 0

-- digits spell their number
spelled : (n : ℕ) → n < 2 ^ 64 → digits_value 10 (decimal n) ≡ n
spelled n small = (decimal_is_IsNumeral n small).1

-- ---- the form of words that have one
abbrev form_alone : List ℕ → Form
form_alone name = if second_byte name == 117 then Run else Replay

abbrev form_with_one : List ℕ → List ℕ → Form
form_with_one name behind =
    if first_byte name == 114 then Resume
    else if second_byte name == 114 then Crash
    else if second_byte name == 104 then Check
    else if second_byte name == 105 then Big (digits_value 10 behind)
    else Bank (digits_value 10 behind)

abbrev form_with_two : List ℕ → List ℕ → Form
form_with_two name last = if third_byte name == 115 then ResumeTo else Recover (digits_value 10 last)

abbrev form_in : List (List ℕ) → Form
form_in (name ∷ []) = form_alone name
form_in (name ∷ behind ∷ []) = form_with_one name behind
form_in (name ∷ behind ∷ last ∷ words) = form_with_two name last
form_in [] = Run

read_off : (words : List (List ℕ)) (form : Form) → IsForm words form → form_in words ≡ form
read_off words Run is = ap form_in is
read_off words Crash is = ap form_in is.1
read_off words Resume is = ap form_in is.1
read_off words ResumeTo is = ap form_in is.2
read_off words (Recover workers) is =
    let few = is.1 in
    ap form_in is.2.1 ∙ ap (λ (n : ℕ). Recover n) (spelled workers (omega arith))
read_off words Check is = ap form_in is.1
read_off words Replay is = ap form_in is
read_off words (Big number) is = ap form_in is.1 ∙ ap (λ (n : ℕ). Big n) (spelled number is.0)
read_off words (Bank number) is = ap form_in is.1 ∙ ap (λ (n : ℕ). Bank n) (spelled number is.0)

pub same_form : (words : List (List ℕ)) (a b : Form) → IsForm words a → IsForm words b → a ≡ b
same_form words a b x y = sym (read_off words a x) ∙ read_off words b y
