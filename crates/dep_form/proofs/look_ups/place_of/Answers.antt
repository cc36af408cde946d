use Rattle.std.proofs.Common.{ℕ, Option, refl, rules, ◌∙◌, ap}
use Rattle.std.specs.Ordering.{nat_cmp}
use Rattle.std.proofs.lemmas.Cmp.{nat_cmp_total, tied_itself}
use Rattle.dep_form.proofs.Searching.{found_by, missed_by, one_number}
use Rattle.dep_form.proofs.look_ups.place_of.Goals as goal

pub returns-in-Ok-clause-found : goal.returns-in-Ok-clause-found
returns-in-Ok-clause-found c =
    let h = found_by nat_cmp nat_cmp_total (λ (x : ℕ × Option ℕ). x.0) _ c.args.lines.now c.args.pc c.in-Ok.k refl (λ a r f' k. search rules) c.in-Ok.ensures.bound c.in-Ok.ensures.position in
    (h.0, h.1, one_number _ _ h.2)

pub returns-in-Err-clause-missed : goal.returns-in-Err-clause-missed
returns-in-Err-clause-missed c = λ k x at is.
    missed_by nat_cmp nat_cmp_total (λ (y : ℕ × Option ℕ). y.0) _ c.args.lines.now c.args.pc _ refl (λ a r f' h. search rules) c.requires c.in-Err.ensures.position k x at
    (ap (λ n. nat_cmp n c.args.pc) is ∙ tied_itself nat_cmp_total c.args.pc)
