use Rattle.std.proofs.Common.{◌/◌, List, length, get_or, ap, ◌∙◌}
use Rattle.std.proofs.lemmas.Nat.{div_below}
use Rattle.class_form.specs.declared.body.Point.{Point}
use Rattle.reaching_defs.proofs.Places.{read_at}
use Rattle.reaching_defs.proofs.Carrying.{grows_steps, width_pos}
use Rattle.reaching_defs.proofs.frame.Frame.step.Goals as goal

pub returns-clause-grown : goal.returns-clause-grown
returns-clause-grown c =
    let f = c.args.self.now in
    let p = c.index-items-number.result in
    let points = f.shape.now.points in
    let lt = div_below c.args.number f.width (length points) (width_pos f c.args.number c.requires.number) c.requires.number in
    let at = read_at points (c.args.number / f.width) p lt (c.index-items-number.is ∙ ap (λ (xs : List Point). get_or xs (c.args.number / f.width) p) c.items.ensures) in
    grows_steps f c.requires.frame c.args.number p at c.args.found.now.items.items c.go_on_all.new.found.items.items c.throw_all.new.found.items.items c.in_ok-go_on_all.ensures.grown c.in_ok-throw_all.ensures.grown
