use Rattle.std.proofs.Common.{rules}
use Rattle.std.specs.Ordering.{nat_cmp}
use Rattle.std.specs.Cmp.Lexicographic.{slice_cmp}
use Rattle.std.proofs.lemmas.Cmp.{tied_itself, nat_list_cmp_total}
use Rattle.dep_form.proofs.Searching.{found_by, missed_by, one_text, named}
use Rattle.dep_form.proofs.facts.Facts.find_class.Goals as goal

pub returns-in-Ok : goal.returns-in-Ok
returns-in-Ok c =
    let h = found_by (slice_cmp nat_cmp) nat_list_cmp_total (λ n. n) _ c.args.self.now.classes c.args.name.now c.in-Ok.c c.items.ensures (λ a r f' k. search rules) c.in-Ok.ensures.bound c.in-Ok.ensures.position in
    named c.args.self.now.classes c.in-Ok.c h.0 c.args.name.now h.1 (one_text _ _ h.2)

pub returns-in-Err : goal.returns-in-Err
returns-in-Err c = λ k at.
    missed_by (slice_cmp nat_cmp) nat_list_cmp_total (λ n. n) _ c.args.self.now.classes c.args.name.now _ c.items.ensures (λ a r f' h. search rules) c.args.self.now.classes_rise c.in-Err.ensures.position k.0 c.args.name.now at (tied_itself nat_list_cmp_total c.args.name.now)
