use Rattle.std.proofs.Common.{List, sym, subst, ◌∙◌, arith}
use Rattle.std.specs.Prelude.{All}
use Rattle.class_form.specs.Folders.{IsHierarchyOf}
use Rattle.class_form.specs.declared.body.Body.{Body}
use Rattle.class_form.specs.declared.class_file.ClassFile.{ClassFile}
use Rattle.variable_tables.specs.Statements.{IsFollowed}
use Rattle.constraints.proofs.EmptyFolder.{no_program}
use Rattle.constraints.proofs.tests.counts_of_none.Goals as goal

pub constraints-requires : goal.constraints-requires
constraints-requires c =
    let none = c.as_slice.ensures.value ∙ c.new-bodies.ensures.items in
    record {
      program = no_program c.in-Ok.h c.as_slice.result.now c.as_slice-2.result.now (subst (λ (fs : List ClassFile). IsHierarchyOf fs c.in-Ok.h) c.new.ensures.items c.in-Ok.ensures.ok) none
          (c.as_slice-2.ensures.value ∙ c.new-entries.ensures.items);
      followed = subst (λ (bs : List Body). All IsFollowed bs) (sym none) (λ k d lt. absurd (omega (arith, lt)));
    }
