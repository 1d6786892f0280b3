-- What comes of an image whose bytes are read and told.
use Rattle.std.proofs.Common.{◌≡◌, ℕ, ◌+◌, List, subst, sym, arith}
use Rattle.std.specs.Prelude.{Result, Ok, Err, IsErrAnd}
use Rattle.mont_base.specs.declared.sink.Sink as sink_trait
use Rattle.mont_base.specs.declared.source.Source as source_trait
use Rattle.mont_base.specs.Losses.{LosesAtMost}
use Rattle.mont_image.specs.declared.image_text.TheConstants.{IMAGE_BYTES}
use Rattle.mont_image.specs.ImageReader.{parts_of}
use Rattle.source_bytes.specs.declared.read_refusal.ReadRefusal.{ReadRefusal}
use Rattle.source_bytes.specs.declared.read_refusal.ReadRefusal.TheVariants as reading
use Rattle.source_bytes.specs.BytesTaken.{TakesBytes, TellsFaults}
use Rattle.image_info.specs.declared.trouble.Trouble.{Trouble}
use Rattle.image_info.specs.declared.trouble.Trouble.TheVariants.{Read, Write, NoImage, Memory}
use Rattle.image_info.specs.Process.{AreRefused, CameOf, IsTold, Shows}
use Rattle.image_info.specs.Trouble.{trouble_of_reading}
use Rattle.image_info.proofs.TextSize.{text_few}

-- what is told of a trouble is told of the result that has it
pub troubled : {A : Type 0} (P : Result A Trouble → Type 0) (result : Result A Trouble) (trouble : Trouble)
    → IsErrAnd result (λ t. t ≡ trouble) → P (Err trouble) → P result
troubled P (Ok a) trouble is has = absurd is
troubled P (Err t) trouble is has = subst (λ (u : Trouble). P (Err u)) (sym is) has

module _ {S O : Type 0} (source : source_trait.Ghosts S) (sink : sink_trait.Ghosts O) (image read : S) (out told : O) where
  abbrev Came : Result (Unit {0}) Trouble → Type 0
  Came result = CameOf source sink image read out told result

  -- the bytes weren't read
  pub unread : (refusal : ReadRefusal) → LosesAtMost (IMAGE_BYTES + 1) (source.left image) (source.left read)
      → TellsFaults {T = Unit {0}} (source.faults image) (source.faults read) (Err refusal) → told ≡ out → Came (Err (trouble_of_reading refusal))
  unread reading.Read few cause same = (few, cause.1, same)
  unread reading.Memory few cause same = (few, cause, same)

  -- they were, to the end or one more than an image has
  module _ (bytes : List ℕ) (taken : TakesBytes (IMAGE_BYTES + 1) (source.left image) (source.left read) bytes)
      (sound : source.faults read ≡ source.faults image) where
    pub refused : (trouble : Trouble) → AreRefused bytes trouble → told ≡ out → Came (Err trouble)
    refused (NoImage fault) first same =
        (record { bytes = bytes; read_whole = record { taken = taken; sound = sound }; first = first }, same)
    refused Memory h same = ((bytes, taken.few, taken.taken), sound, same)
    refused Read h same = absurd h
    refused Write h same = absurd h

    pub shows : (Sent : List ℕ → Type 0) (text : List ℕ) → IsTold bytes text → Sent text → Shows source image read Sent
    shows Sent text tells sent = record {
      bytes = bytes;
      text = text;
      read_whole = record { taken = taken; sound = sound };
      whole = taken.ended (omega (arith, text_few bytes (parts_of tells.info.image) tells.holds.spelled));
      told = tells;
      sent = sent;
    }
