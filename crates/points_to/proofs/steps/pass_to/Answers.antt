use Rattle.std.proofs.Common.{◌∙◌, sym}
use Rattle.std.proofs.lemmas.Result.{on_ok_weaker}
use Rattle.points_to.specs.Bits.{IsMember, row_of}
use Rattle.points_to.proofs.Moving.{shaped, filtered, filtered_none}
use Rattle.points_to.proofs.steps.pass_to.Goals as goal

pub returns-in-None-clause-moved : goal.returns-in-None-clause-moved
returns-in-None-clause-moved c = λ s. filtered_none s c.args.found.now c.args.mask.now c.args.from c.args.to (sym c.lookup.ensures ∙ c.in-None.is)

pub returns-in-Some-clause-shape : goal.returns-in-Some-clause-shape
returns-in-Some-clause-shape c = on_ok_weaker c.pass_rows.result (λ d. shaped c.args.found.now c.pass_rows.new.found c.args.row (λ k. IsMember (row_of c.args.found.now.rows.items c.in-Some.first) k × IsMember c.args.mask.now k) d c.requires.shape) c.pass_rows.ensures

pub returns-in-Some-clause-moved : goal.returns-in-Some-clause-moved
returns-in-Some-clause-moved c = on_ok_weaker c.pass_rows.result (λ d s. filtered s c.args.found.now c.pass_rows.new.found c.args.from c.args.to c.in-Some.first c.args.row (sym c.lookup.ensures ∙ c.in-Some.is) c.requires.to c.args.mask.now d) c.pass_rows.ensures
