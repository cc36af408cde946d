use Rattle.std.proofs.Common.{List, subst, ◌∙◌}
use Rattle.std.proofs.lemmas.Result.{on_ok_weaker}
use Rattle.worklists.specs.Growth.{Grows, FromOne}
use Rattle.class_form.specs.declared.class_file.Handler.{Handler}
use Rattle.dep_form.specs.declared.rules.Rule.{Rule}
use Rattle.constraint_rules.specs.Handlers.{Covers, IsCaughtBy}
use Rattle.constraint_rules.specs.Settings.{place_of}
use Rattle.constraint_rules.proofs.OfThrown.{in_code, not_in_code}
use Rattle.constraint_rules.proofs.handlers.push_content.Goals as goal

pub returns-in-Code : goal.returns-in-Code
returns-in-Code c = λ p s names a set placed same.
    let at = place_of c.args.x.now in
    on_ok_weaker c.push_handlers.result (λ g. in_code p s names at a c.in-Code.code c.args.rules.now.items c.push_handlers.new.rules.items (same ∙ c.in-Code.is)
    (subst (λ (hs : List Handler). Grows c.args.rules.now.items c.push_handlers.new.rules.items (FromOne (λ (h : Handler) (r : Rule). Covers at.pc h × IsCaughtBy p s names at h r) hs)) c.items.ensures g))
    (c.push_handlers.ensures p s names set placed)

pub returns-in-Other : goal.returns-in-Other
returns-in-Other c = λ p s names a set placed same. not_in_code p s names (place_of c.args.x.now) a c.in-Other.field-0 c.args.rules.now.items (same ∙ c.in-Other.is)
