use Rattle.std.proofs.Common.{◌∙◌, sym}
use Rattle.std.proofs.lemmas.Result.{on_ok_weaker}
use Rattle.points_to.specs.Bits.{IsMember, row_of}
use Rattle.points_to.proofs.Moving.{shaped, flowed, flowed_none}
use Rattle.points_to.proofs.steps.flow_to.Goals as goal

pub returns-in-None-clause-moved : goal.returns-in-None-clause-moved
returns-in-None-clause-moved c = λ s. flowed_none s c.args.found.now c.args.from c.args.to (sym c.lookup.ensures ∙ c.in-None.is)

pub returns-in-Some-clause-shape : goal.returns-in-Some-clause-shape
returns-in-Some-clause-shape c = on_ok_weaker c.join.result (λ d. shaped c.args.found.now c.join.new.found c.args.row (IsMember (row_of c.args.found.now.rows.items c.in-Some.first)) d c.requires.shape) c.join.ensures

pub returns-in-Some-clause-moved : goal.returns-in-Some-clause-moved
returns-in-Some-clause-moved c = on_ok_weaker c.join.result (λ d s. flowed s c.args.found.now c.join.new.found c.args.from c.args.to c.in-Some.first c.args.row (sym c.lookup.ensures ∙ c.in-Some.is) c.requires.to d) c.join.ensures
