use Rattle.std.proofs.Common.{◌≡◌, ◌+◌, ◌/◌, ◌%◌, ℕ, List, length, get_or, sym, ap, subst, ◌∙◌}
use Rattle.class_form.specs.declared.body.Point.{Point}
use Rattle.worklists.specs.Growth.{Grows}
use Rattle.reaching_defs.specs.Frames.{place}
use Rattle.reaching_defs.proofs.Places.{read_at}
use Rattle.reaching_defs.specs.Facts.{fact}
use Rattle.std.proofs.lemmas.Nat.{div_below}
use Rattle.reaching_defs.specs.declared.spread.Fact.{Fact}
use Rattle.reaching_defs.proofs.Places.{pc_of}
use Rattle.reaching_defs.proofs.Carrying.{width_pos}
use Rattle.reaching_defs.proofs.spread.put_one.Goals as goal

pub returns : goal.returns
returns c =
    let f = c.args.frame.now in
    let p = c.index-items-number.result in
    let points = f.shape.now.points in
    let k = c.args.number / f.width in
    let lt = div_below c.args.number f.width (length points) (width_pos f c.args.number c.requires.number) c.requires.number in
    let at = read_at points k p lt (c.index-items-number.is ∙ ap (λ (xs : List Point). get_or xs k p) c.items.ensures) in
    subst (λ (pc : ℕ). Grows c.args.facts.now.items c.put.new.facts.items (λ (x : Fact). x ≡ fact (place pc (f.first + c.args.number % f.width)) c.args.def)) (sym (pc_of points k p at)) c.in_ok-put.ensures
