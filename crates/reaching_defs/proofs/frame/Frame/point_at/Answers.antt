use Rattle.std.proofs.Common.{◌≡◌, List, length, get_or, ap, sym, subst, ◌∙◌, arith}
use Rattle.std.proofs.lemmas.Option.{slice_get_within, get_or_from_slice_get}
use Rattle.class_form.specs.declared.body.Point.{Point}
use Rattle.class_form.specs.Reaching.{IsPoint}
use Rattle.reaching_defs.proofs.Places.{point_by_index}
use Rattle.reaching_defs.proofs.frame.Frame.point_at.Goals as goal

pub bounds-self-pc : goal.bounds-self-pc
bounds-self-pc c = (point_by_index c.args.self.now.shape.now.points c.args.self.now.index.now c.args.pc c.requires.point.0 c.requires.frame.index c.requires.point.1.0 c.requires.point.1.1).0

pub offset_bounds-items-self : goal.offset_bounds-items-self
offset_bounds-items-self c =
    let at = point_by_index c.args.self.now.shape.now.points c.args.self.now.index.now c.args.pc c.requires.point.0 c.requires.frame.index c.requires.point.1.0 c.requires.point.1.1 in
    let lt = slice_get_within c.args.self.now.shape.now.points (get_or c.args.self.now.index.now c.args.pc 0) c.requires.point.0 at.1 in
    omega (arith, ap length c.items.ensures, lt, c.items.type_inv.1)

pub bounds-items-self : goal.bounds-items-self
bounds-items-self c =
    let at = point_by_index c.args.self.now.shape.now.points c.args.self.now.index.now c.args.pc c.requires.point.0 c.requires.frame.index c.requires.point.1.0 c.requires.point.1.1 in
    omega (arith, ap length c.items.ensures, slice_get_within c.args.self.now.shape.now.points (get_or c.args.self.now.index.now c.args.pc 0) c.requires.point.0 at.1)

pub returns : goal.returns
returns c =
    let points = c.args.self.now.shape.now.points in
    let k = get_or c.args.self.now.index.now c.args.pc 0 in
    let at = point_by_index points c.args.self.now.index.now c.args.pc c.requires.point.0 c.requires.frame.index c.requires.point.1.0 c.requires.point.1.1 in
    let x = c.index-items-self.result in
    let is : x ≡ c.requires.point.0 = c.index-items-self.is ∙ ap (λ (xs : List Point). get_or xs k x) c.items.ensures ∙ get_or_from_slice_get points k c.requires.point.0 x at.1 in
    subst (λ (p : Point). IsPoint c.args.self.now.shape.now c.args.pc p) (sym is) c.requires.point.1
