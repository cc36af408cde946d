use Rattle.tabulate.proofs.Backward.{exit_added}
use Rattle.tabulate.proofs.meeting.add_exit.Goals as goal

pub returns-in_ok-push-in-Return : goal.returns-in_ok-push-in-Return
returns-in_ok-push-in-Return c = exit_added c.args.f.now c.args.into.now.items c.push.new.self.items c.args.edge c.in-Return.field-0 c.in-Some.exit c.in-Return.is c.in-Some.ensures c.in_ok-push-in-Return.ensures.items
