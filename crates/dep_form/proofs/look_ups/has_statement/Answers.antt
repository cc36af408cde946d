use Rattle.std.proofs.Common.{length, refl, sym, subst, ◌∙◌, arith}
use Rattle.std.proofs.lemmas.Bool.{false≢true}
use Rattle.std.proofs.lemmas.Option.{slice_get_read, slice_get_within, same_Some}
use Rattle.dep_form.specs.LookUps.{HasPc}
use Rattle.dep_form.proofs.look_ups.has_statement.Goals as goal

pub returns-in-Some : goal.returns-in-Some
returns-in-Some c =
    let h = c.in-Some.ensures.lookup in
    let at = slice_get_read c.args.methods.now (length c.args.methods.now) c.args.s.method.0 c.in-Some.method.now refl h.3.0 h.1 in
    (λ t. (c.in-Some.method.now, at, c.has_pc.ensures.0 t), λ w. c.has_pc.ensures.1 (subst (λ t. HasPc t c.args.s.pc) (same_Some w.0 c.in-Some.method.now (sym w.1 ∙ at)) w.2))

pub returns-in-None : goal.returns-in-None
returns-in-None c =
    let h = c.in-None.ensures.lookup in
    (λ t. absurd (false≢true t), λ w. absurd (omega (arith, slice_get_within c.args.methods.now c.args.s.method.0 w.0 w.1, h.3)))
