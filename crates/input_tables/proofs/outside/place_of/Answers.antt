use Rattle.std.proofs.Common.{ap, refl}
use Rattle.dep_form.specs.declared.call_site.CallSite.{CallSite}
use Rattle.mod_ref.proofs.Members.{read}
use Rattle.input_tables.proofs.outside.place_of.Goals as goal

pub returns : goal.returns
returns c = (c.index-items-number.result, read c.args.system.now.calls c.items.result.now c.args.number.0 c.index-items-number.result c.index-items-number.result c.items.ensures c.requires c.index-items-number.is refl, ap (λ (k : CallSite). k.place) c.index-items-number.is)
