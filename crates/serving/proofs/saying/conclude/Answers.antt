use Rattle.std.proofs.Common.{map, ◌∙◌}
use Rattle.serving.specs.Attended.{ending_of}
use Rattle.serving.proofs.SaidLines.{some_lines, all_lines, failed_lines, status_same}
use Rattle.serving.proofs.saying.conclude.Goals as goal

pub returns-then-not-all_closed-clause-says : goal.returns-then-not-all_closed-clause-says
returns-then-not-all_closed-clause-says g c =
    let said = g.H.Host.said in
    failed_lines (map ending_of c.args.outcomes.now) (said c.args.host.now) (said c.say_all-said.new.host) (said c.say_failed.new.host) c.say_all-said.ensures.some c.say_failed.ensures.says

pub returns-in-Ok-clause-says : goal.returns-in-Ok-clause-says
returns-in-Ok-clause-says g c =
    let said = g.H.Host.said in
    all_lines (map ending_of c.args.outcomes.now) c.status_of.result (said c.args.host.now) (said c.say_all-said.new.host) (c.status_of.ensures ∙ status_same c.args.outcomes.now) c.in-Ok.ensures.said

pub returns-in-Ok-clause-whole : goal.returns-in-Ok-clause-whole
returns-in-Ok-clause-whole g c = λ a b. (c.status_of.ensures ∙ status_same c.args.outcomes.now, c.in-Ok.ensures.said)

pub returns-in-Err-NoMemory-clause-says : goal.returns-in-Err-NoMemory-clause-says
returns-in-Err-NoMemory-clause-says g c =
    let said = g.H.Host.said in
    some_lines (map ending_of c.args.outcomes.now) (said c.args.host.now) (said c.say_all-said.new.host) c.say_all-said.ensures.some

pub returns-in-Err-Fault-clause-says : goal.returns-in-Err-Fault-clause-says
returns-in-Err-Fault-clause-says g c =
    let said = g.H.Host.said in
    failed_lines (map ending_of c.args.outcomes.now) (said c.args.host.now) (said c.say_all-said.new.host) (said c.say_failed-in-Err-Fault.new.host) c.say_all-said.ensures.some c.say_failed-in-Err-Fault.ensures.says
