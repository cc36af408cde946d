use Rattle.std.proofs.Common.{rules, ◌≡◌, refl, sym, ap, subst, ◌∙◌}
use Rattle.std.specs.Ordering.{nat_cmp}
use Rattle.std.proofs.lemmas.Cmp.{nat_cmp_total}
use Rattle.class_form.specs.declared.body.Body.{Body}
use Rattle.dep_form.proofs.Searching.{found_by, missed_by, one_number, read_at}
use Rattle.variable_tables.proofs.Searches.{methods_rise, no_body}
use Rattle.variable_tables.proofs.members.body_of.Goals as goal

pub returns-in-Ok-clause-found : goal.returns-in-Ok-clause-found
returns-in-Ok-clause-found c =
    let bodies = c.args.bodies.now in
    let found = c.index-bodies-k.result in
    let (b, at, equal) = found_by nat_cmp nat_cmp_total (λ (b : Body). b.method.0) bodies bodies c.args.method.0 c.in-Ok.k refl (λ a r f' k. search rules) c.in-Ok.ensures.bound c.in-Ok.ensures.position in
    let same : found ≡ b = c.index-bodies-k.is ∙ read_at bodies bodies c.in-Ok.k b found refl at in
    let method : b.method ≡ c.args.method = ap (λ n. record { 0 = n }) (one_number b.method.0 c.args.method.0 equal) in
    ((c.in-Ok.k, c.in-Ok.ensures.bound, sym c.index-bodies-k.is), subst (λ (z : Body). z.method ≡ c.args.method) (sym same) method)

pub returns-in-Err-clause-missed : goal.returns-in-Err-clause-missed
returns-in-Err-clause-missed c =
    let bodies = c.args.bodies.now in
    no_body bodies c.args.method
    (missed_by nat_cmp nat_cmp_total (λ (b : Body). b.method.0) bodies bodies c.args.method.0 _ refl (λ a r f' k. search rules) (methods_rise bodies c.requires) c.in-Err.ensures.position)
