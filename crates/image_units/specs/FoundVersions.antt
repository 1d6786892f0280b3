-- Versions that stand twice among records, in whatever units these are.
use Rattle.std.specs.Prelude.{◌≡◌, ℕ, ◌<◌, ◌≤◌, List}
use Rattle.std.specs.List.{Contains}
use Rattle.mont_base.specs.declared.record.Held.{Held}
use Rattle.image_units.specs.declared.recovery_refusal.RecoverRefusal.{RecoverRefusal}
use Rattle.image_units.specs.declared.recovery_refusal.RecoverRefusal.TheVariants.{Slot, Twice, Object, Memory}

-- what tells versions apart
abbrev pub version_of : Held → ℕ × ℕ × ℕ
version_of r = (r.label.unit, r.label.identity, r.label.version)

-- one version of one identity of one unit
pub record IsSameVersion (r q : Held) : Type 0 where
  pub unit : r.label.unit ≡ q.label.unit
  pub identity : r.label.identity ≡ q.label.identity
  pub version : r.label.version ≡ q.label.version

-- the record of a slot is the same version as that of another slot, which is lower
pub record Repeats (records : List Held) (slot other : ℕ) : Type 0 where
  pub later : Held
  pub earlier : Held
  pub has_later : Contains records later
  pub has_earlier : Contains records earlier
  pub stands : later.slot ≡ slot
  pub stood : earlier.slot ≡ other
  pub lower : other < slot
  pub same : IsSameVersion later earlier

-- no slot repeats a lower one
abbrev pub HasNoRepeat : List Held → Type 0
HasNoRepeat records = (slot other : ℕ) → Repeats records slot other → ⊥

-- the lowest slot that repeats a lower one, and the only one that it repeats
pub record IsFirstRepeat (records : List Held) (slot other : ℕ) : Type 0 where
  pub repeats : Repeats records slot other
  pub lowest : (s o : ℕ) → Repeats records s o → slot ≤ s
  pub only : (o : ℕ) → Repeats records slot o → o ≡ other

-- a refusal for it, or for want of memory
abbrev pub IsRepeatRefusal : List Held → RecoverRefusal → Type 0
IsRepeatRefusal records (Slot slot fault) = ⊥
IsRepeatRefusal records (Twice slot other) = IsFirstRepeat records slot other
IsRepeatRefusal records (Object unit slot fault) = ⊥
IsRepeatRefusal records Memory = Unit {0}
