use Rattle.mod_ref.proofs.Sorting.{found, missed}
use Rattle.method_facts.specs.Numbers.{var_cmp}
use Rattle.method_facts.proofs.GivenVariables.{vars_exact}
use Rattle.method_facts.proofs.given.is_listed.Goals as goal

pub returns-in-Err : goal.returns-in-Err
returns-in-Err c = (λ e. absurd (cc e), λ there. absurd (missed _ var_cmp vars_exact c.args.variables.now c.args.x c.in-Err.field-0 c.requires c.in-Err.ensures.position there))
