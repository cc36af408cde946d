use Rattle.std.proofs.Common.{List, Some, Contains, refl, sym, subst}
use Rattle.class_form.specs.declared.body.Body.{Body}
use Rattle.text_tables.proofs.Answered.{ok_then, all_ok}
use Rattle.text_tables.proofs.Options.{none_is}
use Rattle.text_tables.proofs.SiteTables.{bodies_order, body_of_site, coded_bodies, found_is}
use Rattle.text_tables.proofs.sites.statement_text.Goals as goal

pub returns-in-Some : goal.returns-in-Some
returns-in-Some c = ok_then c.body_text.result _ _ c.body_text.ensures (λ x h p t is typed.
    let among = found_is _ c.body_of.result c.in-Some.body c.in-Some.is c.body_of.ensures.found in
    h p t (coded_bodies c.args.h.now c.args.bodies.now p is) (subst (λ (bs : List Body). Contains bs c.in-Some.body.now) (sym is.bodies_are) among.0) among.1 typed)

pub returns-in-None : goal.returns-in-None
returns-in-None c = all_ok c.no_text.result _ (λ x p t is typed.
    let (b, among, method) = body_of_site p c.args.place c.args.k t typed in
    none_is _ c.body_of.result (Some b) b c.in-None.is (c.body_of.ensures.whole b (bodies_order c.args.h.now c.args.bodies.now p is) (subst (λ (bs : List Body). Contains bs b) is.bodies_are among) method) refl)
