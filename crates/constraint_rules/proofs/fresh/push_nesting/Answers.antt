use Rattle.std.proofs.Common.{subst}
use Rattle.std.proofs.lemmas.Result.{on_ok_weaker}
use Rattle.slicer_ids.specs.declared.ids.Statement.{Statement}
use Rattle.site_tables.specs.Tables.{AreNumbersOf}
use Rattle.constraint_rules.specs.Settings.{place_of}
use Rattle.constraint_rules.proofs.OfKind.{grown_by_kind}
use Rattle.constraint_rules.proofs.OfNumbers.{nesting_grown}
use Rattle.constraint_rules.proofs.fresh.push_nesting.Goals as goal

pub returns : goal.returns
returns c = λ p s names set placed.
    let numbers = subst (λ (z : Statement). AreNumbersOf p z c.numbers_of.result.first c.numbers_of.result.count) c.statement_of.ensures (c.numbers_of.ensures p set.sites) in
    on_ok_weaker c.push_holds.result (λ g. grown_by_kind c.args.t.now c.args.x.now p s names set placed (λ op. Unit {0}) _ c.args.rules.now.items c.push_holds.new.rules.items tt
    (nesting_grown p (place_of c.args.x.now) c.numbers_of.result.first c.numbers_of.result.count c.args.rules.now.items c.push_holds.new.rules.items numbers g)) c.push_holds.ensures
