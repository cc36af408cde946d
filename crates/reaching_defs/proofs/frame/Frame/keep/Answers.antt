use Rattle.reaching_defs.proofs.Carrying.{grows_kept}
use Rattle.reaching_defs.proofs.frame.Frame.keep.Goals as goal

pub returns-clause-grown : goal.returns-clause-grown
returns-clause-grown c = grows_kept c.args.self.now c.args.point.now c.args.slot c.args.pc c.args.found.now.items.items c.add.new.found.items.items (c.is_kept.ensures.0 c.if-not-is_kept.false) c.in_ok-add.ensures.grown
