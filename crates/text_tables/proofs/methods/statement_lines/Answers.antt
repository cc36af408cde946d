use Rattle.std.proofs.Common.{List, Some, Contains, refl, sym, subst}
use Rattle.std.proofs.lemmas.List.Elements.{All-contains}
use Rattle.slicer_ids.specs.declared.ids.MethodId.{MethodId}
use Rattle.class_form.specs.declared.body.Body.{Body}
use Rattle.text_tables.specs.MethodLines.{AreMethodLines, HasPointsInOrder}
use Rattle.text_tables.proofs.Answered.{ok_then}
use Rattle.text_tables.proofs.Options.{none_is}
use Rattle.text_tables.proofs.SiteTables.{bodies_order, found_is}
use Rattle.text_tables.proofs.BodyLines.{body_described, none_described, none_rise}
use Rattle.text_tables.proofs.methods.statement_lines.Goals as goal

pub body_lines-requires-clause-points : goal.body_lines-requires-clause-points
body_lines-requires-clause-points c =
    let among = found_is _ c.body_of.result c.in-Some.body c.in-Some.is c.body_of.ensures.found in
    All-contains HasPointsInOrder c.args.bodies.now c.in-Some.body.now c.requires.points among.0

pub returns-in-Some-clause-lines : goal.returns-in-Some-clause-lines
returns-in-Some-clause-lines c = ok_then c.body_lines.result _ _ c.body_lines.ensures.lines (λ v h p is.
    let among = found_is _ c.body_of.result c.in-Some.body c.in-Some.is c.body_of.ensures.found in
    subst (λ (m : MethodId). AreMethodLines p m v.items) among.1
    (body_described p is.coded c.in-Some.body.now (subst (λ (bs : List Body). Contains bs c.in-Some.body.now) (sym is.bodies_are) among.0) v.items (λ code of. h p code is.classes_are is.coded of)))

pub returns-in-None-clause-rise : goal.returns-in-None-clause-rise
returns-in-None-clause-rise c = none_rise c.new.result.items c.new.ensures.items

pub returns-in-None-clause-lines : goal.returns-in-None-clause-lines
returns-in-None-clause-lines c = λ p is. none_described p c.args.m c.new.result.items c.new.ensures.items (λ b among method.
    none_is _ c.body_of.result (Some b) b c.in-None.is (c.body_of.ensures.whole b (bodies_order c.args.h.now c.args.bodies.now p is) (subst (λ (bs : List Body). Contains bs b) is.bodies_are among) method) refl)
