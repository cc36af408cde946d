use Rattle.std.proofs.Common.{List, ℕ, ap, sym, ◌∙◌, true≢false}
use Rattle.std.proofs.lemmas.Slice.Eq.{bytes_eq-Decides}
use Rattle.edge_io.specs.Files.{inside}
use Rattle.edge_io.proofs.Slashes.{parts, inside_has_slash, one_folder}
use Rattle.edge_io.proofs.stored.name_in.Goals as goal
use Rattle.edge_io.proofs.stored.name_in.Goals.{in_default-via-in-Some+else-eq, in_default-via-in_default}

pub returns-in-Some : goal.returns-in-Some
returns-in-Some c =
    let w = c.in-Some.ensures.cases in
    let p = parts c.args.path.now c.in-Some.parent.now c.in-Some.name.now w.0 w.1 w.2.0 w.2.1 w.3 w.4 in
    (p.0, p.1 ∙ ap (λ (f : List ℕ). inside f c.in-Some.name.now) ((bytes_eq-Decides c.in-Some.parent.now c.args.folder.now).0 (sym c.if-eq.ensures)))

pub returns-in_default : goal.returns-in_default
returns-in_default c = λ name none is.
    elim c.in_default.branch [
      | in_default-via-in-Some+else-eq w ↦
          let x = w.in-Some.ensures.cases in
          let p = parts c.args.path.now w.in-Some.parent.now w.in-Some.name.now x.0 x.1 x.2.0 x.2.1 x.3 x.4 in
          let same = one_folder w.in-Some.parent.now c.args.folder.now w.in-Some.name.now name (sym p.1 ∙ is) p.0 none in
          true≢false (sym ((bytes_eq-Decides w.in-Some.parent.now c.args.folder.now).1 same) ∙ sym w.if-eq.ensures)
      | in_default-via-in_default w ↦ inside_has_slash c.args.path.now c.args.folder.now name w.in_default.ensures.cases is
    ]
