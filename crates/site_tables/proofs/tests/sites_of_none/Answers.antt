use Rattle.std.proofs.Common.{List, sym, subst, ◌∙◌, arith}
use Rattle.std.specs.Prelude.{All}
use Rattle.class_form.specs.Folders.{IsHierarchyOf}
use Rattle.class_form.specs.declared.body.Body.{Body}
use Rattle.class_form.specs.declared.class_file.ClassFile.{ClassFile}
use Rattle.site_tables.specs.Tables.{ArePointsInOrder}
use Rattle.site_tables.proofs.EmptyProgram.{no_classes}
use Rattle.site_tables.proofs.tests.sites_of_none.Goals as goal

pub site_table-requires : goal.site_table-requires
site_table-requires c =
    let none = c.as_slice.ensures.value ∙ c.new-bodies.ensures.items in
    record { bodies = no_classes c.in-Ok.h c.as_slice.result.now (subst (λ (fs : List ClassFile). IsHierarchyOf fs c.in-Ok.h) c.new.ensures.items c.in-Ok.ensures.ok) none; points = subst (λ (bs : List Body). All ArePointsInOrder bs) (sym none) (λ k d lt. absurd (omega (arith, lt))) }
