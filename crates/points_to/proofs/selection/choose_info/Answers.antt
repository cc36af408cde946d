use Rattle.std.proofs.Common.{inl}
use Rattle.std.proofs.lemmas.Result.{on_ok_weaker}
use Rattle.points_to.proofs.Choosing.{chooses_outside}
use Rattle.points_to.proofs.selection.choose_info.Goals as goal

pub returns-then-info-clause-moved : goal.returns-then-info-clause-moved
returns-then-info-clause-moved c = on_ok_weaker c.go_outside.result (λ m. chooses_outside c.args.system.now c.args.found.now c.go_outside.new.found c.args.c c.args.signature c.args.object c.args.info c.requires.site (inl c.if-info.true) (m c.args.system.now)) c.go_outside.ensures.moved
