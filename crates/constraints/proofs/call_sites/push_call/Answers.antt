use Rattle.std.proofs.Common.{Some, None, refl, subst}
use Rattle.slicer_ids.specs.declared.ids.Statement.{Statement}
use Rattle.program_form.specs.Facts.{ExceptionOf}
use Rattle.program_form.specs.Systems.{VariableNumber}
use Rattle.constraint_rules.specs.One.{IsOne}
use Rattle.constraint_rules.specs.Settings.{place_of}
use Rattle.constraints.specs.Calls.{IsKnownCall}
use Rattle.constraints.proofs.OfPlaces.{all_pushed}
use Rattle.constraints.proofs.OfCalls.{thrown_more, none_thrown}
use Rattle.constraints.proofs.call_sites.push_call.Goals as goal

pub returns-in_ok-push-in-Some-clause-thrown : goal.returns-in_ok-push-in-Some-clause-thrown
returns-in_ok-push-in-Some-clause-thrown c = λ p s names set at.
    let v = c.in-Some.exception in
    let one : IsOne (VariableNumber p s (ExceptionOf (place_of c.args.x.now))) (Some v) = subst (λ (z : Statement). IsOne (VariableNumber p s (ExceptionOf z)) (Some v)) c.statement_of.ensures (c.in-Some.ensures p s set.has) in
    let known = c.in_ok-site-in-Some.ensures.known p s names set at ((one v).1 refl) in
    thrown_more p s c.args.t.now.variables.now set.has c.args.x.now c.args.calls.now.items c.push.new.self.items c.in_ok-site-in-Some.site v c.in_ok-push-in-Some.ensures.items known.place c.in_ok-site-in-Some.ensures.thrown one

pub returns-in_ok-push-in-Some-clause-known : goal.returns-in_ok-push-in-Some-clause-known
returns-in_ok-push-in-Some-clause-known c = λ p s names set at all.
    let v = c.in-Some.exception in
    let one : IsOne (VariableNumber p s (ExceptionOf (place_of c.args.x.now))) (Some v) = subst (λ (z : Statement). IsOne (VariableNumber p s (ExceptionOf z)) (Some v)) c.statement_of.ensures (c.in-Some.ensures p s set.has) in
    all_pushed (IsKnownCall p s names) c.args.calls.now.items c.push.new.self.items c.in_ok-site-in-Some.site c.in_ok-push-in-Some.ensures.items all
    (place_of c.args.x.now, c.in_ok-site-in-Some.ensures.known p s names set at ((one v).1 refl))

pub returns-in-None-clause-thrown : goal.returns-in-None-clause-thrown
returns-in-None-clause-thrown c = λ p s names set at.
    none_thrown p s c.args.t.now.variables.now set.has c.args.x.now c.args.calls.now.items
    (subst (λ (z : Statement). IsOne (VariableNumber p s (ExceptionOf z)) None) c.statement_of.ensures (c.in-None.ensures p s set.has))

pub returns-in-None-clause-known : goal.returns-in-None-clause-known
returns-in-None-clause-known c = λ p s names set at all. all
