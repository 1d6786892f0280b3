-- The number of a key, of which a remainder is taken late.
use Rattle.std.proofs.Common.{◌≡◌, ℕ, ◌+◌, ◌*◌, ◌%◌, ◌<◌, List, [], ◌∷◌, length, take, get_or, refl, sym, ap, ◌∙◌}
use Rattle.std.proofs.Math.Nat.{mod-one, mod-add-mod}
use Rattle.std.proofs.lemmas.Nat.{mul-mod_first}
use Rattle.std.proofs.lemmas.List.Sums.{fold_more}
use Rattle.std.specs.List.{fold}
use Rattle.mont_base.specs.Layout.{key_number, next_digit}

-- of one map unit each key has the number 0
pub number_of_one : (key : List ℕ) → key_number 1 key ≡ 0
number_of_one key = one 0 refl key
  where
    one : (number : ℕ) → number ≡ 0 → (bytes : List ℕ) → fold (next_digit 1) number bytes ≡ 0
    one number none [] = none
    one number none (b ∷ bs) = one (next_digit 1 number b) (mod-one (number * 10 + (b + 208) % 256)) bs

-- one digit more, after a number of the same remainder
pub number_more :
    (maps : ℕ) (key : List ℕ) (i : ℕ) (number shorter : ℕ) → i < length key → number % maps ≡ key_number maps (take i key)
    → shorter % maps ≡ number % maps
    → (shorter * 10 + (get_or key i 0 + 208) % 256) % maps ≡ key_number maps (take (i + 1) key)
number_more maps key i number shorter inside so_far same =
    let digit = (get_or key i 0 + 208) % 256 in
    sym (mod-add-mod (shorter * 10) maps digit)
    ∙ ap (λ (x : ℕ). (x + digit) % maps) (sym (mul-mod_first shorter 10 maps))
    ∙ mod-add-mod (shorter % maps * 10) maps digit
    ∙ ap (λ (x : ℕ). (x * 10 + digit) % maps) (same ∙ so_far)
    ∙ sym (fold_more (next_digit maps) 0 key i 0 inside)
