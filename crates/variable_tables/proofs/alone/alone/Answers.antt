use Rattle.std.proofs.Common.{subst, inl, inr}
use Rattle.class_form.specs.Reaching.{HoldsIn}
use Rattle.variable_tables.specs.Operands.{IsSeen}
use Rattle.variable_tables.proofs.SeenDefs.{alone_one, alone_none, alone_several}
use Rattle.variable_tables.proofs.alone.alone.Goals as goal

pub returns-in-One : goal.returns-in-One
returns-in-One c =
    let (ds, is, are) = c.seen_in.ensures in
    alone_one (HoldsIn c.args.body.now.shape c.args.point.now.pc c.args.operand) ds c.in-One.def are (subst (IsSeen ds) c.in-One.is is)

pub returns-in-Nothing : goal.returns-in-Nothing
returns-in-Nothing c =
    let (ds, is, are) = c.seen_in.ensures in
    let D = HoldsIn c.args.body.now.shape c.args.point.now.pc c.args.operand in
    λ d. elim c.in-Nothing.is [
      | inl e ↦ alone_none D ds d are (subst (IsSeen ds) e is)
      | inr e ↦ alone_several D ds d are (subst (IsSeen ds) e is)
    ]
