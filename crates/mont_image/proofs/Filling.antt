-- Bytes that were taken of a source.
use Rattle.std.proofs.Common.{◌≡◌, ℕ, ◌+◌, ◌≤◌, List, ◌++◌, Option, Some, None, IfSome, length, take, drop, sym, ap, ◌∙◌, subst, arith, append-nil, length-drop, length-append}
use Rattle.std.proofs.lemmas.List.{length-take-le, take-append-le, nil_from_length, drop_at}
use Rattle.std.proofs.Math.Seq.{take-append-add}
use Rattle.std.proofs.KnownBytes.{Consumes-trans, Consumes-whole}
use Rattle.std.specs.Io.KnownBytes.{Consumes, IsAtEnd}
use borrow.Rule.Slice.PartMut.{put_mid, post_of}
use Rattle.mont_base.specs.Losses.{LosesAtMost, LosesFirst}
use Rattle.mont_image.specs.declared.image_refusal.ImageRefusal.{ImageRefusal}
use Rattle.mont_image.specs.declared.image_refusal.ImageRefusal.TheVariants.{Magic, Version, Layout, Clock, Short, Long, Read, Memory}
use Rattle.mont_image.specs.ImageRefusal.{Refuses}

-- one piece more stands after those in the buffer
filled : (buf given : List ℕ) (count n k : ℕ) → count ≤ length buf → n ≤ length given
    → take (count + n) (put_mid count k buf given) ≡ take count buf ++ take n given
filled buf given count n k inside few =
    let front : length (take count buf) ≡ count = length-take-le count buf inside in
    let rest = given ++ post_of count k buf in
    subst (λ (m : ℕ). take (m + n) (take count buf ++ rest) ≡ take count buf ++ take n rest) front
    (take-append-add (take count buf) rest n)
    ∙ ap (λ (bs : List ℕ). take count buf ++ bs) (take-append-le n given (post_of count k buf) few)

pub filled_more : (old now new : Option (List ℕ)) (buf given : List ℕ) (count n k : ℕ) → Consumes old now (take count buf)
    → Consumes now new (take n given) → count ≤ length buf → n ≤ length given
    → Consumes old new (take (count + n) (put_mid count k buf given))
filled_more old now new buf given count n k so_far more inside few =
    subst (λ (bs : List ℕ). Consumes old new bs) (sym (filled buf given count n k inside few))
    (Consumes-trans old now new (take count buf) (take n given) so_far more)

-- what was taken of bytes, and what was then taken at most
pub loses_behind : (most n : ℕ) (old now new : Option (List ℕ)) (bytes : List ℕ) → Consumes old now bytes → LosesAtMost n now new
    → length bytes + n ≤ most → LosesAtMost most old new
loses_behind most n old now new bytes taken part few = (
  bytes ++ part.0,
  omega (arith, length-append bytes part.0, part.1),
  Consumes-trans old now new bytes part.0 taken part.2,
)

-- at its end a source has lost as many bytes as it may, since it had no more
pub lost_whole : (count : ℕ) (old new : Option (List ℕ)) (bytes : List ℕ) → Consumes old new bytes → IsAtEnd new → length bytes ≤ count
    → LosesFirst count old new
lost_whole count None new bytes taken end few = tt
lost_whole count (Some text) None bytes taken end few = absurd taken
lost_whole count (Some text) (Some rest) bytes taken end few =
    let whole : text ≡ bytes = taken ∙ ap (λ (xs : List ℕ). bytes ++ xs) end ∙ append-nil bytes in
    end ∙ sym (nil_from_length (drop count text) (omega (arith, length-drop count text, ap length whole)))

pub lost_first : (count : ℕ) (old new : Option (List ℕ)) (bytes : List ℕ) → Consumes old new bytes → length bytes ≡ count
    → LosesFirst count old new
lost_first count None new bytes taken long = tt
lost_first count (Some text) None bytes taken long = absurd taken
lost_first count (Some text) (Some rest) bytes taken long = sym (ap (drop count) taken ∙ drop_at bytes rest count long)

-- what holds of bytes, whatever follows them, holds of what was left before they were taken
pub front_of : (P : List ℕ → Type 0) (old new : Option (List ℕ)) (bytes : List ℕ) → Consumes old new bytes
    → ((rest : List ℕ) → P (bytes ++ rest)) → IfSome old P
front_of P None new bytes taken each = tt
front_of P (Some text) None bytes taken each = absurd taken
front_of P (Some text) (Some rest) bytes taken each = subst P (sym taken) (each rest)

pub if_some_map : (P Q : List ℕ → Type 0) (known : Option (List ℕ)) → ((text : List ℕ) → P text → Q text) → IfSome known P
    → IfSome known Q
if_some_map P Q None each h = tt
if_some_map P Q (Some text) each h = each text h

-- what a refusal says of the bytes, in other words
pub refuses_map : (count : ℕ) (P Q : ImageRefusal → List ℕ → Type 0) (old new : Option (List ℕ)) (refusal : ImageRefusal)
    → ((text : List ℕ) → P refusal text → Q refusal text) → Refuses count P old new refusal → Refuses count Q old new refusal
refuses_map count P Q old new Magic each h = (h.0, if_some_map (P Magic) (Q Magic) old each h.1)
refuses_map count P Q old new Version each h = (h.0, if_some_map (P Version) (Q Version) old each h.1)
refuses_map count P Q old new Layout each h = (h.0, if_some_map (P Layout) (Q Layout) old each h.1)
refuses_map count P Q old new Clock each h = (h.0, if_some_map (P Clock) (Q Clock) old each h.1)
refuses_map count P Q old new (Short words) each h = (h.0, if_some_map (P (Short words)) (Q (Short words)) old each h.1)
refuses_map count P Q old new Long each h = (h.0, if_some_map (P Long) (Q Long) old each h.1)
refuses_map count P Q old new Read each h = h
refuses_map count P Q old new Memory each h = h

module _ (count : ℕ) (P : ImageRefusal → List ℕ → Type 0) (old new : Option (List ℕ)) where
  refuses : (bytes : List ℕ) (refusal : ImageRefusal) → Consumes old new bytes → length bytes ≤ count → LosesFirst count old new
      → IfSome old (P refusal) → Refuses count P old new refusal
  refuses bytes Magic taken few lost is = (lost, is)
  refuses bytes Version taken few lost is = (lost, is)
  refuses bytes Layout taken few lost is = (lost, is)
  refuses bytes Clock taken few lost is = (lost, is)
  refuses bytes (Short words) taken few lost is = (lost, is)
  refuses bytes Long taken few lost is = (lost, is)
  refuses bytes Read taken few lost is = (bytes, few, taken)
  refuses bytes Memory taken few lost is = (bytes, few, taken)

  -- where just so many bytes were taken
  pub refuses_front : (bytes : List ℕ) (refusal : ImageRefusal) → Consumes old new bytes → length bytes ≡ count
      → ((rest : List ℕ) → P refusal (bytes ++ rest)) → Refuses count P old new refusal
  refuses_front bytes refusal taken long each =
      refuses bytes refusal taken (omega arith) (lost_first count old new bytes taken long)
      (front_of (P refusal) old new bytes taken each)

  -- where the source ended first
  pub refuses_whole : (bytes : List ℕ) (refusal : ImageRefusal) → Consumes old new bytes → IsAtEnd new → length bytes ≤ count
      → P refusal bytes → Refuses count P old new refusal
  refuses_whole bytes refusal taken end few is =
      refuses bytes refusal taken few (lost_whole count old new bytes taken end few)
      (Consumes-whole old new bytes (P refusal) taken end is)
