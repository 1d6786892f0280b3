use Rattle.std.proofs.Common.{Option, List, ℕ, map, length, sym, ap, ◌∙◌, subst}
use Rattle.std.proofs.lemmas.Result.{err_from_is_err_and}
use Rattle.std.specs.Io.KnownBytes.{Consumes}
use Rattle.mont_base.specs.declared.kinds.UnitKind.{UnitKind}
use Rattle.mont_base.specs.Layout.{Shape, shape, code_of}
use Rattle.mont_image.specs.ImageLayout.{IsLayoutOf}
use Rattle.mont_image.specs.ImageText.{bytes_of, codes_told}
use Rattle.mont_image.proofs.Layouts.{layout_refused, old_layout, new_layout}
use Rattle.mont_image.proofs.image_layout.read_layout.Goals as goal
use Rattle.mont_image.proofs.image_layout.read_layout.Goals.{in-First, in-Third+in_ok-kinds-in-Third}

pub returns-in_err-kinds-in-Third-clause-refused : goal.returns-in_err-kinds-in-Third-clause-refused
returns-in_err-kinds-in-Third-clause-refused g c =
    let left = g.S.Source.left in
    let failed = err_from_is_err_and c.from_residual.result c.from_residual.ensures.1 in
    rw (failed.1, failed.2)
    (layout_refused c.args.header.now (left c.args.source.now) (left c.read_kinds.new.source) c.in_err-kinds-in-Third.field-0.0
    c.in-Third.is c.in_err-kinds-in-Third.ensures.refused)

pub returns-clause-read : goal.returns-clause-read
returns-clause-read g c =
    let left = g.S.Source.left in
    let h = c.args.header.now in
    let ks = c.match-header.kinds in
    let old = left c.args.source.now in
    let new = left c.match-header.source in
    let made = c.in-Ok.ensures in
    let told : IsLayoutOf h (shape ks h.slots) × Consumes old new (bytes_of (codes_told h.version ks)) =
    elim c.match-header.branch [
      | in-First w ↦ old_layout h ks old new c.requires made.0 w.in-First.is (w.kinds-is ∙ w.old-kinds.ensures) (ap left w.source-is)
      | in-Third+in_ok-kinds-in-Third w ↦ (
          let kinds = w.in_ok-kinds-in-Third.ensures.read in
          let told = subst (λ (js : List UnitKind). Consumes old (left w.read_kinds.new.source) (bytes_of (map code_of js)))
          (sym w.kinds-is) kinds.1 in
          new_layout h ks old new c.requires made.0 w.in-Third.is (ap length w.kinds-is ∙ kinds.0)
          (subst (λ (known : Option (List ℕ)). Consumes old known (bytes_of (map code_of ks))) (sym (ap left w.source-is)) told)
          )
    ] in
    subst (λ (s : Shape). IsLayoutOf h s × Consumes old new (bytes_of (codes_told h.version s.kinds))) (sym made.1) told
