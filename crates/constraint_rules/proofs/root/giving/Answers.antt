use Rattle.std.proofs.Common.{sym, ◌∙◌}
use Rattle.std.proofs.lemmas.Bool.{false≢true}
use Rattle.constraint_rules.proofs.OfRoots.{given_one, none_given}
use Rattle.constraint_rules.proofs.root.giving.Goals as goal

pub returns-then-not-entry : goal.returns-then-not-entry
returns-then-not-entry c = λ p s names set site. none_given p s c.args.entry.now (λ is. false≢true (sym c.if-not-entry.true ∙ is))

pub returns : goal.returns
returns c = λ p s names set site. given_one p s c.args.entry.now c.args.array c.argument_of.result c.alloc_of.result c.if-not-entry.false site (c.argument_of.ensures p s set.has) c.alloc_of.ensures
