use Rattle.std.proofs.Common.{Contains, refl, sym, subst}
use Rattle.std.proofs.lemmas.Result.{err_from_is_err_and}
use Rattle.slicer_ids.specs.declared.ids.Mode.TheVariants.{Thin}
use Rattle.dep_form.specs.declared.access.Access.{Access}
use Rattle.script.specs.declared.command.Command.TheVariants as command
use Rattle.session_form.specs.Answers.{explains}
use Rattle.summary_memo.specs.Memo.{view_of}
use Rattle.session_slices.specs.Needs.{SliceOf, HasNeeded}
use Rattle.sessions.specs.declared.kept.Kept.TheVariants as shown
use Rattle.sessions.proofs.States.{one_named_access}
use Rattle.sessions.proofs.Answering.{found_ok, found_none}
use Rattle.sessions.proofs.session.Session.explain_named.Goals as goal

pub returns-in_err-explanation : goal.returns-in_err-explanation
returns-in_err-explanation g c = λ x y s1 s2 left right.
    let s = c.args.self.now in
    let z = c.explain_two.new in
    let is = c.explain_two.ensures in
    rw (err_from_is_err_and c.from_residual.result c.from_residual.ensures.1).1 (found_none c.args.shared.now s c.requires.session (command.Explain x y) c.args.steps.now z.finder z.pass z.seat z.steps is.finder is.pass is.inputs is.seat is.keeps is.knows
    (λ plain has. let n = has s1 s2 c.args.a.now c.args.b.now left right in is.had n.0 n.1)
    (λ plain has. let n = has s1 s2 c.args.a.now c.args.b.now left right in is.rows n.0 n.1)
    _ (λ f has. f))

pub returns : goal.returns
returns g c = λ x y s1 s2 left right.
    let f = c.args.shared.now.facts in
    let s = c.args.self.now in
    let z = c.explain_two.new in
    let is = c.explain_two.ensures in
    found_ok c.args.shared.now s c.requires.session (command.Explain x y) c.args.steps.now z.finder z.pass z.seat z.steps is.finder is.pass is.inputs is.seat is.keeps is.knows
    (λ plain has. let n = has s1 s2 c.args.a.now c.args.b.now left right in is.had n.0 n.1)
    (λ plain has. let n = has s1 s2 c.args.a.now c.args.b.now left right in is.rows n.0 n.1)
    (shown.Explained c.in_ok-explanation.explanation) (explains left right c.in_ok-explanation.ensures.explanation)
    (λ t1 t2 a b l r. (
      subst (λ (o : Access). HasNeeded f Thin (SliceOf f Thin (Contains o.object)) z.pass (view_of z.seat)) (one_named_access f x s1 t1 c.args.a.now a left l) c.in_ok-explanation.ensures.left_needed,
      subst (λ (o : Access). HasNeeded f Thin (SliceOf f Thin (Contains o.object)) z.pass (view_of z.seat)) (one_named_access f y s2 t2 c.args.b.now b right r) c.in_ok-explanation.ensures.right_needed,
    ))
    (λ n. n) refl
