use Rattle.std.proofs.Common.{subst}
use Rattle.slicer_ids.specs.declared.ids.Statement.{Statement}
use Rattle.program_form.specs.Sites.{Made}
use Rattle.program_form.specs.Systems.{SiteNumber}
use Rattle.constraint_rules.specs.One.{IsOne}
use Rattle.constraint_rules.proofs.OfNumbers.{first_site_of}
use Rattle.constraint_rules.proofs.fresh.first_site.Goals as goal

pub returns : goal.returns
returns c = λ p s names set.
    subst (λ (z : Statement). IsOne (λ n. SiteNumber p n (Made z 0)) c.first_of.result) c.statement_of.ensures
    (first_site_of p c.statement_of.result c.numbers_of.result.first c.numbers_of.result.count c.first_of.result (c.numbers_of.ensures p set.sites) c.first_of.ensures)
