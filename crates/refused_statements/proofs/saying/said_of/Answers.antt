use Rattle.std.proofs.Common.{List, ℕ, Option, subst}
use Rattle.refused_statements.specs.Saying.{IsLineIn}
use Rattle.refused_statements.proofs.Telling.{said_there}
use Rattle.refused_statements.proofs.saying.said_of.Goals as goal

pub returns-in-Some : goal.returns-in-Some
returns-in-Some c =
    let there = subst (λ (xs : List (ℕ × Option ℕ)). IsLineIn xs c.args.r.place.pc c.in-Some.line) c.items.ensures c.in-Some.ensures in
    said_there c.args.r c.args.text.now c.args.class.now c.in-Some.line c.written.result there c.written.ensures
