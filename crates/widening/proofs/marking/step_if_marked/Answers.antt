use Rattle.std.proofs.Common.{◌∙◌, [], sym}
use Rattle.std.proofs.lemmas.List.{append-nil}
use Rattle.std.proofs.lemmas.Bool.{false≢true}
use Rattle.thin_slice.specs.Marks.{found}
use Rattle.widening.specs.Edges.{Widened}
use Rattle.widening.proofs.FollowLaws.{same_none}
use Rattle.widening.proofs.CountLaws.{turns_none, within_same}
use Rattle.widening.proofs.MarkLaws.{leading_grown}
use Rattle.widening.proofs.marking.step_if_marked.Goals as goal

pub returns-then-not-has-clause-turns : goal.returns-then-not-has-clause-turns
returns-then-not-has-clause-turns g c = turns_none c.args.f.now c.args.pairs.now c.args.pairs.now c.args.steps.now (same_none c.args.f.now (Widened c.args.f.now c.args.expansions.now) c.args.pairs.now)

pub returns-then-not-has-clause-within : goal.returns-then-not-has-clause-within
returns-then-not-has-clause-within g c = λ seeds lead need. within_same c.args.f.now c.args.expansions.now seeds c.args.methods.now.items c.args.pairs.now c.args.steps.now c.requires.whole.pairs need

pub returns-then-not-has-clause-front : goal.returns-then-not-has-clause-front
returns-then-not-has-clause-front g c = ([], sym (append-nil (found c.args.marks.now)))

pub returns-clause-needed : goal.returns-clause-needed
returns-clause-needed g c = λ seeds lead need. c.in_ok-step_back.ensures.needed seeds (lead c.args.n (c.has.ensures.0 c.if-not-has.false)) need

pub returns-clause-within : goal.returns-clause-within
returns-clause-within g c = λ seeds lead need. c.step_back.ensures.within seeds (lead c.args.n (c.has.ensures.0 c.if-not-has.false)) need

pub returns-in_err-step_back-clause-within : goal.returns-in_err-step_back-clause-within
returns-in_err-step_back-clause-within g c = λ seeds lead need. c.step_back.ensures.within seeds (lead c.args.n (c.has.ensures.0 c.if-not-has.false)) need

pub returns-clause-leading : goal.returns-clause-leading
returns-clause-leading g c = λ seeds lead. leading_grown (Widened c.args.f.now c.args.expansions.now) c.args.phase seeds c.args.n (found c.args.marks.now) (found c.step_back.new.marks) c.in_ok-step_back.ensures.grown (c.has.ensures.0 c.if-not-has.false) lead

pub returns-then-not-has-clause-steps : goal.returns-then-not-has-clause-steps
returns-then-not-has-clause-steps g c = λ q k h. absurd (false≢true (sym c.if-not-has.true ∙ c.has.ensures.1 k))

pub returns-clause-steps : goal.returns-clause-steps
returns-clause-steps g c = λ q k h. c.in_ok-step_back.ensures.grown.all q h
