use Rattle.std.proofs.Common.{arith, inr}
use Rattle.std.proofs.lemmas.Result.{on_ok_weaker}
use Rattle.points_to.proofs.Choosing.{chooses_outside, none_selected, chooses_selected}
use Rattle.points_to.proofs.selection.choose_class.Goals as goal

pub returns-then-chosen-eq0-clause-moved : goal.returns-then-chosen-eq0-clause-moved
returns-then-chosen-eq0-clause-moved c = on_ok_weaker c.go_outside.result (λ m. chooses_outside c.args.system.now c.args.found.now c.go_outside.new.found c.args.c c.args.signature c.args.object c.args.info c.requires.site (inr (inr (c.args.class, c.requires.class, none_selected c.args.system.now c.args.class c.args.signature c.selects-chosen.result.now c.selects-chosen.ensures (omega (arith, c.if-chosen-eq0.true))))) (m c.args.system.now)) c.go_outside.ensures.moved

pub returns-else-chosen-eq0-clause-moved : goal.returns-else-chosen-eq0-clause-moved
returns-else-chosen-eq0-clause-moved c = on_ok_weaker c.select_each.result (λ m. chooses_selected c.args.system.now c.args.found.now c.select_each.new.found c.args.c c.args.signature c.args.object c.args.info c.args.class c.selects-chosen.result.now c.requires.site c.requires.plain c.requires.class c.selects-chosen.ensures (omega (arith, c.if-chosen-eq0.false)) (m c.args.system.now)) c.select_each.ensures.moved
