use Rattle.std.proofs.Common.{◌<◌}
use Rattle.slicer_ids.specs.declared.ids.MethodId.{MethodId}
use Rattle.dep_form.specs.PointsTo.{Calls}
use Rattle.dep_form.specs.Constraints.{SystemHolds}
use Rattle.mod_ref.proofs.Members.{members}
use Rattle.method_facts.proofs.solved.targets_of.Goals as goal

pub returns : goal.returns
returns c = λ s m solved. members (λ (a : MethodId) (b : MethodId). a.0 < b.0) c.targets.result.now (λ m. SystemHolds s (Calls c.args.c m)) (solved.targets c.args.c c.targets.result.now c.targets.ensures) m
