use Rattle.std.proofs.Common.{◌≡◌, Some}
use Rattle.std.specs.Prelude.{slice_get}
use Rattle.dep_form.specs.Solutions.{ReceiverBefore}
use Rattle.dep_form.specs.PointsTo.{OutsideAt}
use Rattle.dep_form.specs.Constraints.{SystemHolds}
use Rattle.mod_ref.proofs.Members.{members, read}
use Rattle.input_tables.proofs.solved.receivers_of.Goals as goal

at : (c : goal.After-items-2) → slice_get c.args.solution.now.outside c.args.c.0 ≡ Some c.items-2.result.now
at c = read c.args.solution.now.outside c.items.result.now c.args.c.0 c.index-items-c.result c.items-2.result.now c.items.ensures c.requires c.index-items-c.is c.items-2.ensures

pub returns : goal.returns
returns c = λ s o solved. members ReceiverBefore c.items-2.result.now (λ o. SystemHolds s (OutsideAt c.args.c o)) (solved.outside c.args.c c.items-2.result.now (at c)) o
