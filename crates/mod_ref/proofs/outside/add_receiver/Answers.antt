use Rattle.mod_ref.specs.Direct.{AtReceiver, AtSite}
use Rattle.mod_ref.proofs.Touched.{told}
use Rattle.mod_ref.proofs.Passing.{some_receiver}
use Rattle.mod_ref.proofs.outside.add_receiver.Goals as goal

pub returns-in-Some : goal.returns-in-Some
returns-in-Some c =
    let s = c.args.system.now in
    told c.add_site.result c.args.effects.now.items.items c.add_site.new.effects.items.items (AtSite s c.args.elements c.args.method c.in-Some.site) (AtReceiver s c.args.elements c.args.method c.args.receiver)
    (some_receiver s c.args.elements c.args.method c.args.receiver c.in-Some.site c.in-Some.is) c.add_site.ensures
