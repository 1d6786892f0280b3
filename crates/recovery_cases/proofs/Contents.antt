-- The text of what a store holds.
use Rattle.std.proofs.Common.{◌≡◌, ℕ, List, ap, ◌∙◌, subst, sym}
use Rattle.std.specs.Prelude.{Result, Ok, Err, IfOk}
use Rattle.mont_base.specs.Image.{IsRecovered, clock_of}
use Rattle.mont_base.specs.Layout.{Shape}
use Rattle.mont_base.specs.State.{State}
use Rattle.job_text.specs.ReportText.{contents_text}
use Rattle.recovery_cases.specs.FoundTexts.{IsTextOfContents}

-- of the layout and the words with which the store was opened
pub contents_told : (s opened : Shape) (image text : List ℕ) (clock : ℕ) (states : List State) → s ≡ opened → clock ≡ clock_of image
    → IsRecovered opened image states → text ≡ contents_text s clock states → IsTextOfContents s image text
contents_told s opened image text clock states same at recovered spelled = record {
  states = states;
  recovered = subst (λ (o : Shape). IsRecovered o image states) (sym same) recovered;
  spelled = spelled ∙ ap (λ x. contents_text s x states) at;
}

pub if_told : {A E : Type 0} (r : Result A E) (items : A → List ℕ) (s opened : Shape) (image : List ℕ) (clock : ℕ) (states : List State)
    → s ≡ opened → clock ≡ clock_of image → IsRecovered opened image states
    → IfOk r (λ a. items a ≡ contents_text s clock states) → IfOk r (λ a. IsTextOfContents s image (items a))
if_told (Ok a) items s opened image clock states same at recovered spelled =
    contents_told s opened image (items a) clock states same at recovered spelled
if_told (Err e) items s opened image clock states same at recovered spelled = tt
