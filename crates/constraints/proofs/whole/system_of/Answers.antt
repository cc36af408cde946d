use Rattle.std.proofs.Common.{List, length, sym, ap, ◌∙◌}
use Rattle.dep_form.specs.declared.rules.OutsideRule.{OutsideRule}
use Rattle.dep_form.specs.declared.call_site.CallSite.{CallSite}
use Rattle.constraints.proofs.Ending.{within_moved}
use Rattle.constraints.proofs.whole.system_of.Goals as goal

pub invariant_of-result : goal.invariant_of-result
invariant_of-result c =
    let parts = c.args.parts in
    record {
      three_fields = c.requires.three;
      rule_each = ap (λ (rs : List OutsideRule). length rs) c.from_vec-4.ensures ∙ c.requires.rules ∙ sym (ap (λ (ks : List CallSite). length ks) c.from_vec-2.ensures);
      within = ∣ within_moved parts.constraints.items c.from_vec.result parts.calls.items c.from_vec-2.result parts.touches.items c.from_vec-3.result parts.rules.items c.from_vec-4.result
          c.args.variables.methods c.args.sites c.args.types.selects c.args.fields c.args.variables.vars c.from_vec.ensures c.from_vec-2.ensures c.from_vec-3.ensures c.from_vec-4.ensures c.requires.within ∣₁;
    }
