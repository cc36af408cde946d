use Rattle.std.proofs.Common.{rules, sym, ap, ◌∙◌, Some}
use Rattle.std.proofs.lemmas.Cmp.{tied_itself}
use Rattle.slicer_ids.specs.declared.ids.Statement.{Statement}
use Rattle.dep_form.specs.declared.access.Access.{Access}
use Rattle.dep_form.specs.Orders.{statement_cmp}
use Rattle.dep_form.specs.Keys.{key_of_access}
use Rattle.dep_form.proofs.Searching.{found_by, missed_by, one_statement, statement_total, read_at}
use Rattle.dep_form.proofs.facts.Facts.access.Goals as goal

pub returns-in-Ok : goal.returns-in-Ok
returns-in-Ok c =
    let h = found_by statement_cmp statement_total key_of_access _ c.args.self.now.accesses c.args.s c.in-Ok.k c.items-accesses.ensures (λ a r f' k. search rules) c.in-Ok.ensures.bound c.in-Ok.ensures.position in
    (c.in-Ok.k, h.1 ∙ ap (λ x. Some x) (ap (λ s. (s, h.0.1)) (one_statement _ _ h.2) ∙ ap (λ (x : Statement × Access). (c.args.s, x.1)) (sym (read_at _ c.args.self.now.accesses c.in-Ok.k h.0 _ c.items-accesses.ensures h.1))))

pub returns-in-Err : goal.returns-in-Err
returns-in-Err c = λ a x.
    missed_by statement_cmp statement_total key_of_access _ c.args.self.now.accesses c.args.s _ c.items-accesses.ensures (λ a r f' h. search rules) c.args.self.now.accesses_rise c.in-Err.ensures.position x.0 (c.args.s, a) x.1 (tied_itself statement_total c.args.s)
