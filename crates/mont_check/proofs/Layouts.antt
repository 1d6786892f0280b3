-- The test of two layouts tells whether they are the same.
use Rattle.std.proofs.Common.{◌≡◌, List, length, take, Decides, refl, sym, ap, ◌∙◌}
use Rattle.std.proofs.Math.Seq.{take-append_seam}
use Rattle.std.proofs.lemmas.Bool.Decides.{Decides-eqb, Decides-and}
use Rattle.std.proofs.lemmas.Slice.Eq.{slice_eq-Decides}
use Rattle.mont_base.specs.declared.kinds.UnitKind.{UnitKind}
use Rattle.mont_base.specs.declared.kinds.UnitKind.TheVariants.{Map, Queue, Graph, Ordered}
use Rattle.mont_base.specs.contracts.kinds.UnitKindPartialEq.TheImpl as kinds
use Rattle.mont_base.specs.contracts.layout.LayoutPartialEq.TheImpl as layouts
use Rattle.mont_base.specs.Kinds.{padded, maps_among}
use Rattle.mont_base.specs.Layout.{Shape}

kind_Decides : (a b : UnitKind) → Decides (kinds.eq-value.it a b) (a ≡ b)
kind_Decides Map Map = (λ _. refl, λ _. refl)
kind_Decides Queue Queue = (λ _. refl, λ _. refl)
kind_Decides Graph Graph = (λ _. refl, λ _. refl)
kind_Decides Map Queue = (λ e. absurd cc, λ e. absurd cc)
kind_Decides Map Graph = (λ e. absurd cc, λ e. absurd cc)
kind_Decides Queue Map = (λ e. absurd cc, λ e. absurd cc)
kind_Decides Queue Graph = (λ e. absurd cc, λ e. absurd cc)
kind_Decides Graph Map = (λ e. absurd cc, λ e. absurd cc)
kind_Decides Graph Queue = (λ e. absurd cc, λ e. absurd cc)
kind_Decides Ordered Ordered = (λ _. refl, λ _. refl)
kind_Decides Map Ordered = (λ e. absurd cc, λ e. absurd cc)
kind_Decides Queue Ordered = (λ e. absurd cc, λ e. absurd cc)
kind_Decides Graph Ordered = (λ e. absurd cc, λ e. absurd cc)
kind_Decides Ordered Map = (λ e. absurd cc, λ e. absurd cc)
kind_Decides Ordered Queue = (λ e. absurd cc, λ e. absurd cc)
kind_Decides Ordered Graph = (λ e. absurd cc, λ e. absurd cc)

-- what fills the places after the last unit tells nothing
same_padded : (ks ls : List UnitKind) → padded ks ≡ padded ls → length ks ≡ length ls → ks ≡ ls
same_padded ks ls same long =
    sym (take-append_seam ks _) ∙ (λ i. take (long i) (same i)) ∙ take-append_seam ls _

same_shape : (a b : Shape) → ((padded a.kinds ≡ padded b.kinds) × (length a.kinds ≡ length b.kinds)) × (a.slots ≡ b.slots) → a ≡ b
same_shape a b same =
    let kinds_same = same_padded a.kinds b.kinds same.0.0 same.0.1 in
    λ i. record { kinds = kinds_same i; slots = same.1 i }

pub layout_Decides : (a b : Shape) → Decides (layouts.eq-value.it a b) (a ≡ b)
layout_Decides a b =
    let units_told = Decides-and _ _ (Decides-eqb (length a.kinds) (length b.kinds))
    (Decides-eqb (maps_among a.kinds) (maps_among b.kinds)) in
    let kinds_told =
    Decides-and _ _ (slice_eq-Decides kind_Decides (padded a.kinds) (padded b.kinds) _ refl) units_told in
    let told = Decides-and _ _ kinds_told (Decides-eqb a.slots b.slots) in (
      λ yes. same_shape a b (((told.0 yes).0.0, (told.0 yes).0.1.0), (told.0 yes).1),
      λ same. told.1 (
        (
          ap (λ s. padded s.kinds) same,
          (ap (λ s. length s.kinds) same, ap (λ s. maps_among s.kinds) same),
        ),
        ap (λ s. s.slots) same,
      ),
    )
