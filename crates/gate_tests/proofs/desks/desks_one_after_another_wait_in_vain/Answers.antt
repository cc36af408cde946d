use Rattle.std.proofs.Common.{sym, subst}
use Rattle.session_form.specs.States.{AreListed}
use Rattle.gate_tests.proofs.desks.desks_one_after_another_wait_in_vain.Goals as goal

pub attend-requires-clause-listed : goal.attend-requires-clause-listed
attend-requires-clause-listed g c = subst AreListed (sym c.in_ok-shared.ensures.facts) c.in_ok-facts.ensures

pub attend-requires-2-clause-listed : goal.attend-requires-2-clause-listed
attend-requires-2-clause-listed g c = subst AreListed (sym c.in_ok-shared.ensures.facts) c.in_ok-facts.ensures
