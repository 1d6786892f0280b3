use Rattle.std.proofs.Common.{◌≡◌, ℕ, ◌-◌, Bool, ◌&&◌, drop, arith, ap, ◌∙◌}
use Rattle.std.specs.Int.{w64, to_le_bytes}
use Rattle.mont_base.specs.Texts.{are_zero, bytes_of_words}
use Rattle.mont_base.proofs.ZeroBytes.{zero_in_each}
use Rattle.mont_base.proofs.text.are_zero_from.Goals as goal

-- what is asked of each word at its own place
each : (place first second third a b : ℕ) (x y z : Bool) → x ≡ are_zero (drop place (to_le_bytes w64 first))
    → y ≡ are_zero (drop a (to_le_bytes w64 second)) → z ≡ are_zero (drop b (to_le_bytes w64 third)) → a ≡ place - 8 → b ≡ place - 16
    → ((x && y) && z) ≡ are_zero (drop place (bytes_of_words first second third))
each place first second third a b x y z is_x is_y is_z is_a is_b =
    let in_second = is_y ∙ ap (λ k. are_zero (drop k (to_le_bytes w64 second))) is_a in
    let in_third = is_z ∙ ap (λ k. are_zero (drop k (to_le_bytes w64 third))) is_b in
    (λ i. (is_x i && in_second i) && in_third i) ∙ zero_in_each place first second third

pub returns-then-place-le8 : goal.returns-then-place-le8
returns-then-place-le8 c =
    each c.args.place c.args.first c.args.second c.args.third 0 0 _ _ _
    c.is_zero_from.ensures c.is_zero_from-then-place-le8.ensures c.is_zero_from-then-place-le8-2.ensures (omega arith) (omega arith)

pub returns-then-place-le16 : goal.returns-then-place-le16
returns-then-place-le16 c =
    each c.args.place c.args.first c.args.second c.args.third (c.args.place - 8) 0 _ _ _
    c.is_zero_from-then-place-le16.ensures c.is_zero_from-then-place-le16-2.ensures c.is_zero_from-then-place-le16-3.ensures
    (omega arith) (omega arith)

pub returns : goal.returns
returns c =
    each c.args.place c.args.first c.args.second c.args.third (c.args.place - 8) (c.args.place - 16) _ _ _
    c.is_zero_from-2.ensures c.is_zero_from-3.ensures c.is_zero_from-4.ensures (omega arith) (omega arith)
