use Rattle.std.proofs.lemmas.Result.{on_ok_weaker}
use Rattle.constraints.proofs.OfTouches.{site_said}
use Rattle.constraints.proofs.touches.push_site.Goals as goal

pub returns : goal.returns
returns c =
    on_ok_weaker c.push.result
    (λ g. site_said c.args.place c.args.first c.args.k c.in-Some.number c.args.field c.args.touches.now.items c.push.new.touches.items c.in-Some.ensures.1 g) c.push.ensures
