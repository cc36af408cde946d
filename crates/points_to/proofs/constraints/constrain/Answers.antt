use Rattle.std.proofs.lemmas.Result.{on_ok_weaker}
use Rattle.std.proofs.lemmas.Bool.{iff_false}
use Rattle.points_to.specs.Rules.{Does}
use Rattle.points_to.proofs.Moving.{Moves-of_root, Moves-of_reached}
use Rattle.points_to.proofs.constraints.constrain.Goals as goal

pub returns-then-is_root-clause-moved : goal.returns-then-is_root-clause-moved
returns-then-is_root-clause-moved c = on_ok_weaker c.apply.result (λ m. Moves-of_root c.args.system.now c.args.found.now c.apply.new.found c.args.constraint.method (Does c.args.system.now c.args.constraint.rule) (c.is_root.ensures.0 c.if-is_root.true) m) c.apply.ensures.moved

pub returns-else-is_root-clause-moved : goal.returns-else-is_root-clause-moved
returns-else-is_root-clause-moved c = on_ok_weaker c.apply_reached.result (λ m. Moves-of_reached c.args.system.now c.args.found.now c.apply_reached.new.found c.args.constraint.method (Does c.args.system.now c.args.constraint.rule) (iff_false c.is_root.ensures c.if-is_root.false) m) c.apply_reached.ensures.moved
