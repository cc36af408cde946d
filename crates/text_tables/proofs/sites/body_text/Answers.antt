use Rattle.std.proofs.Common.{List, Some, Contains, refl, sym, subst}
use Rattle.class_form.specs.declared.body.Instr.{Instr}
use Rattle.program_form.specs.Statements.{IsAt}
use Rattle.text_tables.specs.Found.{AreInstrsInOrder}
use Rattle.text_tables.proofs.Answered.{ok_then, all_ok}
use Rattle.text_tables.proofs.Options.{one_found, none_is}
use Rattle.text_tables.proofs.SiteTables.{statement_of_site}
use Rattle.text_tables.proofs.sites.body_text.Goals as goal

pub returns-in-Some : goal.returns-in-Some
returns-in-Some c = ok_then c.instr_text.result _ _ c.instr_text.ensures (λ x h p t is among method typed.
    let (i, at) = statement_of_site p is.asked is.coded c.args.place c.args.k t typed c.args.body.now among method in
    let found = c.instr_at.ensures i (subst AreInstrsInOrder (sym c.items.ensures) (is.asked.instructions c.args.body.now among)) (subst (λ (is' : List Instr). Contains is' i) (sym c.items.ensures) at.2) at.3 in
    let same = one_found _ c.instr_at.result c.in-Some.instr (Some i) i c.in-Some.is found refl in
    h p c.args.body.now t is (subst (λ (z : Instr). IsAt p c.args.place c.args.body.now z) (sym same) at) typed)

pub returns-in-None : goal.returns-in-None
returns-in-None c = all_ok c.no_text.result _ (λ x p t is among method typed.
    let (i, at) = statement_of_site p is.asked is.coded c.args.place c.args.k t typed c.args.body.now among method in
    let found = c.instr_at.ensures i (subst AreInstrsInOrder (sym c.items.ensures) (is.asked.instructions c.args.body.now among)) (subst (λ (is' : List Instr). Contains is' i) (sym c.items.ensures) at.2) at.3 in
    none_is _ c.instr_at.result (Some i) i c.in-None.is found refl)
