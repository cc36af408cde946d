use Rattle.std.proofs.Common.{Some, refl, sym, subst}
use Rattle.class_form.specs.Types.{constant_text}
use Rattle.class_form.specs.declared.class_file.ClassFile.{ClassFile}
use Rattle.program_form.specs.Programs.{ClassOf}
use Rattle.text_tables.proofs.Answered.{ok_then, all_ok}
use Rattle.text_tables.proofs.Options.{one_found, none_is}
use Rattle.text_tables.proofs.SiteTables.{class_of_statement}
use Rattle.text_tables.proofs.MadeTexts.{text_of_site}
use Rattle.text_tables.proofs.sites.instr_text.Goals as goal

pub returns-in-Some : goal.returns-in-Some
returns-in-Some c = ok_then c.made_text.result _ _ c.made_text.ensures (λ x h p b t is at typed.
    let (n, k, of) = class_of_statement p is.coded c.args.place b c.args.instr.now at in
    let same = one_found _ c.file_of.result c.in-Some.file (Some k) k c.in-Some.is (c.file_of.ensures p n k is.classes_are is.coded of) refl in
    h (constant_text t) (text_of_site p is.asked c.args.place b c.args.instr.now n c.in-Some.file.now c.code_bytes.result.now at
    (subst (λ (z : ClassFile). ClassOf p c.args.place.method n z) (sym same) of) (λ code has. c.code_bytes.ensures p code is.classes_are is.coded has) c.args.k t typed))

pub returns-in-None : goal.returns-in-None
returns-in-None c = all_ok c.no_text.result _ (λ x p b t is at typed.
    let (n, k, of) = class_of_statement p is.coded c.args.place b c.args.instr.now at in
    none_is _ c.file_of.result (Some k) k c.in-None.is (c.file_of.ensures p n k is.classes_are is.coded of) refl)
