use Rattle.std.proofs.Common.{List, subst, ◌∙◌}
use Rattle.std.specs.Prelude.{◌↔◌, IsTrue, Contains}
use Rattle.class_form.specs.declared.class_file.Handler.{Handler}
use Rattle.constraint_rules.specs.Handlers.{IsCatchAll}
use Rattle.constraint_rules.proofs.OfThrown.{all_in_code, all_not_in_code}
use Rattle.constraint_rules.proofs.handlers.catches_all.Goals as goal

pub returns-in-Code : goal.returns-in-Code
returns-in-Code c = λ a same.
    all_in_code a c.in-Code.code c.args.pc c.catch_all.result (same ∙ c.in-Code.is)
    (subst (λ (hs : List Handler). IsTrue c.catch_all.result ↔ ((h : Handler) × Contains hs h × IsCatchAll c.args.pc h)) c.items.ensures c.catch_all.ensures)

pub returns-in-Other : goal.returns-in-Other
returns-in-Other c = λ a same. all_not_in_code a c.in-Other.field-0 c.args.pc (same ∙ c.in-Other.is)
