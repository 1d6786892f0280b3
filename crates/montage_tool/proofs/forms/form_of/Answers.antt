use Rattle.std.proofs.Common.{ℕ, List, [], ◌∷◌, MatchOption, string_bytes, subst}
use Rattle.montage_tool.specs.Forms.{HaveForm, IsForm}
use Rattle.montage_tool.proofs.Words.{three_words, two_words}
use Rattle.montage_tool.proofs.forms.form_of.Goals as goal

pub returns-in-len2 : goal.returns-in-len2
returns-in-len2 c =
    let found : List (List ℕ) → Type 0 = λ ws. MatchOption c.form_with_one.result (¬ HaveForm ws) (IsForm ws) in
    two_words string_bytes c.args.words.now c.name-item-then-words-lt3.result c.behind-item.result c.in-len2.len_at_least
    c.in-len2.len_below c.name-item-then-words-lt3.is c.behind-item.is found
    (subst (λ (name : List ℕ). found (name ∷ string_bytes c.behind-item.result ∷ [])) c.deref-in-len2.ensures
    (subst (λ (behind : List ℕ). found (c.deref-in-len2.result.now ∷ behind ∷ [])) c.deref-in-len2-2.ensures c.form_with_one.ensures))

pub returns-in-len3 : goal.returns-in-len3
returns-in-len3 c =
    let found : List (List ℕ) → Type 0 = λ ws. MatchOption c.form_with_two.result (¬ HaveForm ws) (IsForm ws) in
    three_words string_bytes c.args.words.now c.name-item-then-words-lt4.result c.last-item.result c.in-len3.len_at_least
    c.in-len3.len_below c.name-item-then-words-lt4.is c.last-item.is found
    (λ file. subst (λ (name : List ℕ). found (name ∷ file ∷ string_bytes c.last-item.result ∷ [])) c.deref-in-len3.ensures
    (subst (λ (last : List ℕ). found (c.deref-in-len3.result.now ∷ file ∷ last ∷ [])) c.deref-in-len3-2.ensures
    (c.form_with_two.ensures file)))
