use Rattle.std.proofs.Common.{◌≡◌, ◌++◌, ◌∷◌, [], List, ℕ, codes, decimal, ap, ◌∙◌, append_assoc}
use Rattle.std.specs.String.{string_bytes}
use Rattle.mont_base.specs.Layout.{letters_of}
use Rattle.job_text.specs.declared.header.Head.{Head}
use Rattle.job_text.specs.Lines.{line_of}
use Rattle.job_text.specs.Spelling.{hex_digits}
use Rattle.job_text.specs.JobText.{head_words, head_front}
use Rattle.job_text.proofs.header.write_job_header.Goals as goal

in_one_line : (old kinds slots callers attempts digits : List ℕ)
    → ((old ++ (codes "montage-job 3 " ++ (kinds ++ 32 ∷ (slots ++ 32 ∷ (callers ++ 32 ∷ (attempts ++ 32 ∷ [])))))) ++ digits) ++ 10 ∷ []
    ≡ old ++ ((codes "montage-job 3 " ++ (kinds ++ 32 ∷ (slots ++ 32 ∷ (callers ++ 32 ∷ (attempts ++ 32 ∷ digits))))) ++ 10 ∷ [])
in_one_line old kinds slots callers attempts digits = simp append_assoc

joined : (old fronted masked pushed : List ℕ) (h : Head) → fronted ≡ old ++ head_front h → masked ≡ fronted ++ hex_digits 16 h.mask
    → pushed ≡ masked ++ 10 ∷ [] → pushed ≡ old ++ line_of (head_words h)
joined old fronted masked pushed h e f g =
    g ∙ ap (λ (bs : List ℕ). bs ++ 10 ∷ []) (f ∙ ap (λ (bs : List ℕ). bs ++ hex_digits 16 h.mask) e)
    ∙ in_one_line old (letters_of h.layout.kinds) (decimal h.layout.slots) (decimal h.callers) (decimal h.attempts) (hex_digits 16 h.mask)

pub returns : goal.returns
returns c = joined (string_bytes c.args.text.now) (string_bytes c.write_head_front.new.text) (string_bytes c.write_mask.new.text)
    (string_bytes c.push_str.new.self) c.args.head.now c.in_ok-write_head_front.ensures c.in_ok-write_mask.ensures
    c.in_ok-push_str.ensures.bytes
