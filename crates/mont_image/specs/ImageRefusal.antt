-- When an image's text is refused, and what was taken of its source then.
use Rattle.std.specs.Prelude.{◌≡◌, ℕ, ◌≤◌, List, Option, Result, Ok, Err, IfSome}
use Rattle.mont_base.specs.Faults.{Rose}
use Rattle.mont_image.specs.declared.image_refusal.ImageRefusal.{ImageRefusal}
use Rattle.mont_image.specs.declared.image_refusal.ImageRefusal.TheVariants.{Magic, Version, Layout, Clock, Short, Long, Read, Memory}
use Rattle.mont_base.specs.Losses.{LosesAtMost, LosesFirst}

-- a refusal for what the bytes are, and not for what the source or memory did
abbrev pub OnBytes : ImageRefusal → Type 0 → Type 0
OnBytes Magic P = P
OnBytes Version P = P
OnBytes Layout P = P
OnBytes Clock P = P
OnBytes (Short words) P = P
OnBytes Long P = P
OnBytes Read P = Unit {0}
OnBytes Memory P = Unit {0}

-- A refusal of the bytes that were left, of which so many are read. For what is wrong with them
-- just these were taken; where the source failed or memory ran out it may be fewer.
abbrev pub Refuses : ℕ → (ImageRefusal → List ℕ → Type 0) → Option (List ℕ) → Option (List ℕ)
    → ImageRefusal → Type 0
Refuses count P old new Magic = LosesFirst count old new × IfSome old (P Magic)
Refuses count P old new Version = LosesFirst count old new × IfSome old (P Version)
Refuses count P old new Layout = LosesFirst count old new × IfSome old (P Layout)
Refuses count P old new Clock = LosesFirst count old new × IfSome old (P Clock)
Refuses count P old new (Short words) = LosesFirst count old new × IfSome old (P (Short words))
Refuses count P old new Long = LosesFirst count old new × IfSome old (P Long)
Refuses count P old new Read = LosesAtMost count old new
Refuses count P old new Memory = LosesAtMost count old new

-- the count of faults rose where it is said that the source failed, and nowhere else
abbrev pub TellsFaults : {A : Type 0} (before now : ℕ) → Result A ImageRefusal → Type 0
TellsFaults before now (Ok a) = now ≡ before
TellsFaults before now (Err Magic) = now ≡ before
TellsFaults before now (Err Version) = now ≡ before
TellsFaults before now (Err Layout) = now ≡ before
TellsFaults before now (Err Clock) = now ≡ before
TellsFaults before now (Err (Short words)) = now ≡ before
TellsFaults before now (Err Long) = now ≡ before
TellsFaults before now (Err Read) = (before ≤ now) × Rose before now
TellsFaults before now (Err Memory) = now ≡ before
