use Rattle.std.proofs.Common.{inl, inr}
use Rattle.std.proofs.lemmas.Result.{on_ok_weaker}
use Rattle.points_to.proofs.Choosing.{chooses_outside}
use Rattle.points_to.proofs.selection.choose_site.Goals as goal

pub returns-in-None-clause-moved : goal.returns-in-None-clause-moved
returns-in-None-clause-moved c = on_ok_weaker c.go_outside.result (λ m. chooses_outside c.args.system.now c.args.found.now c.go_outside.new.found c.args.c c.args.signature c.args.object c.args.info c.requires.site (inr (inl c.in-None.is)) (m c.args.system.now)) c.go_outside.ensures.moved
