use Rattle.std.proofs.Common.{rules}
use Rattle.std.specs.Ordering.{nat_cmp}
use Rattle.std.specs.Cmp.Lexicographic.{slice_cmp}
use Rattle.std.proofs.lemmas.Cmp.{nat_list_cmp_total}
use Rattle.std.proofs.lemmas.Fn.{always_returns_same}
use Rattle.std.proofs.lemmas.List.Sorted.{searchable_from_sorted}
use Rattle.hierarchy.specs.Names.{name_bytes}
use Rattle.hierarchy.proofs.Finding.{found_class, missing_class}
use Rattle.hierarchy.proofs.sorted.find_class.Goals as goal

pub returns-in-Ok : goal.returns-in-Ok
returns-in-Ok c =
    found_class c.args.classes.now c.args.name.now c.in-Ok.i c.requires.named c.in-Ok.ensures.bound
    (c.in-Ok.ensures.position (λ y. slice_cmp nat_cmp (name_bytes y) c.args.name.now) (always_returns_same _ _ _ (λ a r g h. (search rules, search rules))))

pub returns-in-Err : goal.returns-in-Err
returns-in-Err c =
    let p = c.in-Err.ensures.position (λ y. slice_cmp nat_cmp (name_bytes y) c.args.name.now) (always_returns_same _ _ _ (λ a r g h. (search rules, search rules)))
    (searchable_from_sorted nat_list_cmp_total name_bytes c.args.classes.now c.args.name.now c.requires.sorted) in
    missing_class c.args.classes.now c.args.name.now c.in-Err.field-0 p.0 p.1
