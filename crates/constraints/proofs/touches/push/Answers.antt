use Rattle.constraints.proofs.OfTouches.{touch_pushed, no_touch}
use Rattle.constraints.proofs.touches.push.Goals as goal

pub returns-in_ok-push-in-Some : goal.returns-in_ok-push-in-Some
returns-in_ok-push-in-Some c = touch_pushed c.args.place c.args.write c.args.spot c.in-Some.spot c.args.touches.now.items c.push.new.self.items c.in-Some.is c.in_ok-push-in-Some.ensures.items

pub returns-in-None : goal.returns-in-None
returns-in-None c = no_touch c.args.place c.args.write c.args.spot c.args.touches.now.items c.in-None.is
