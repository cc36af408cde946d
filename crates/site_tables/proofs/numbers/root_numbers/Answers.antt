use Rattle.std.proofs.Common.{subst, arith}
use Rattle.program_form.specs.Sites.{OfRoot}
use Rattle.program_form.specs.Systems.{SiteNumber}
use Rattle.site_tables.proofs.Numbering.{root_object, root_array, root_number}
use Rattle.site_tables.proofs.numbers.root_numbers.Goals as goal

pub overflow_sub-result : goal.overflow_sub-result
overflow_sub-result c = omega (arith, (root_array c.requires.sites.0 c.args.sites.now c.requires.sites.1).2)

pub overflow_sub-result-2 : goal.overflow_sub-result-2
overflow_sub-result-2 c = omega (arith, (root_array c.requires.sites.0 c.args.sites.now c.requires.sites.1).2)

pub returns-clause-array : goal.returns-clause-array
returns-clause-array c = λ p are.
    let (n, at, end) = root_array p c.args.sites.now are in
    subst (λ m. SiteNumber p (record { 0 = m }) (OfRoot 0)) (omega (arith, end)) (root_number p c.args.sites.now are 0 n at)

pub returns-clause-element : goal.returns-clause-element
returns-clause-element c = λ p are.
    let (n, at, end) = root_object p c.args.sites.now are in
    subst (λ m. SiteNumber p (record { 0 = m }) (OfRoot 1)) (omega (arith, end)) (root_number p c.args.sites.now are 1 n at)
