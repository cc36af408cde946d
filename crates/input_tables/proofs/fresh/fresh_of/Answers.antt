use Rattle.std.proofs.Common.{ap, refl}
use Rattle.dep_form.specs.declared.call_site.CallSite.{CallSite}
use Rattle.mod_ref.proofs.Members.{read}
use Rattle.input_tables.proofs.fresh.fresh_of.Goals as goal

pub returns : goal.returns
returns c = (c.index-items-c.result, read c.args.system.now.calls c.items.result.now c.args.c.0 c.index-items-c.result c.index-items-c.result c.items.ensures c.requires c.index-items-c.is refl, ap (λ (k : CallSite). k.fresh) c.index-items-c.is)
