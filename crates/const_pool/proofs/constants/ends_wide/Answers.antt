use Rattle.std.proofs.Common.{◌∙◌, sym}
use Rattle.const_pool.proofs.Steps.{ends_wide-last}
use Rattle.const_pool.proofs.constants.ends_wide.Goals as goal

pub returns-in-Some : goal.returns-in-Some
returns-in-Some c = c.is_wide.ensures ∙ sym (ends_wide-last c.args.before.now c.in-Some.constant.now (sym c.in-Some.ensures.value))
