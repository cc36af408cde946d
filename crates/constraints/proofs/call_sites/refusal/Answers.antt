use Rattle.std.proofs.Common.{sym}
use Rattle.constraint_rules.specs.Naming.{key_in}
use Rattle.constraints.proofs.OfCalls.{nothing_named, by_names}
use Rattle.constraints.proofs.call_sites.refusal.Goals as goal

pub returns-in-Some : goal.returns-in-Some
returns-in-Some c = λ p s names set at. by_names c.args.t.now c.args.x.now p s names set at (key_in c.in-Some.r) c.refused_by.result (sym c.in-Some.ensures) c.refused_by.ensures

pub returns-in-None : goal.returns-in-None
returns-in-None c = λ p s names set at. nothing_named c.args.t.now c.args.x.now p s names set at (sym c.in-None.ensures)
