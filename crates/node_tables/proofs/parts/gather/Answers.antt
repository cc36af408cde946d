use Rattle.std.proofs.Common.{◌≡◌, ℕ, List, length, ap, subst}
use Rattle.slicer_ids.specs.declared.ids.MethodId.{MethodId}
use Rattle.dep_form.specs.declared.rules.MethodVars.{MethodVars}
use Rattle.node_tables.specs.Parts.{AreAnswers, AreGiven}
use Rattle.node_tables.proofs.parts.gather.Goals as goal

pub returns-clause-answering : goal.returns-clause-answering
returns-clause-answering c = subst (λ (n : ℕ). AreAnswers c.args.h.now c.in_ok-answering.answering.items n) (ap (λ (ms : List MethodVars). length ms) c.items.ensures) c.in_ok-answering.ensures

pub returns-clause-given : goal.returns-clause-given
returns-clause-given c = subst (λ (ts : List MethodId). AreGiven c.args.s.now ts c.in_ok-given.given.items (length ts)) c.as_slice.ensures.value c.in_ok-given.ensures
