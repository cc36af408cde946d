use Rattle.std.proofs.Common.{◌≡◌, ◌+◌, length, ap, arith}
use Rattle.std.proofs.lemmas.Result.{on_ok_weaker}
use Rattle.dep_form.specs.Firsts.{nodes_in}
use Rattle.worklists.proofs.Growing.{FromBelow, Grows-none, Grows-same}
use Rattle.exit_lists.specs.Exits.{IsExitIn, IsExitPlace}
use Rattle.exit_lists.proofs.Rising.{rising_more, some_exits, no_exits}
use Rattle.exit_lists.proofs.collecting.add_option.Goals as goal

pub returns-in-Some-clause-rising : goal.returns-in-Some-clause-rising
returns-in-Some-clause-rising c = λ b rising first.
    let i = c.in-Some.input in
    let e : i.first.0 ≡ b = first i c.in-Some.is in
    on_ok_weaker c.add_input.result (λ h. rising_more (i.first.0 + length i.nodes) (b + nodes_in c.args.input.now) c.add_input.new.exits.items (omega (arith, e, ap nodes_in c.in-Some.is)) h) c.add_input.ensures.rising

pub returns-in-Some-clause-members : goal.returns-in-Some-clause-members
returns-in-Some-clause-members c =
    let i = c.in-Some.input in
    on_ok_weaker c.add_input.result (λ h. Grows-same c.args.exits.now.items c.add_input.new.exits.items (FromBelow (IsExitPlace i.first.0 i.nodes) (length i.nodes)) (IsExitIn c.args.input.now)
    (λ x f. (i, c.in-Some.is, f)) (λ x f. some_exits c.args.input.now i c.in-Some.is x f) h) c.add_input.ensures.members

pub returns-in-None-clause-rising : goal.returns-in-None-clause-rising
returns-in-None-clause-rising c = λ b rising first. rising_more b (b + nodes_in c.args.input.now) c.args.exits.now.items (omega arith) rising

pub returns-in-None-clause-members : goal.returns-in-None-clause-members
returns-in-None-clause-members c = Grows-none c.args.exits.now.items (IsExitIn c.args.input.now) (no_exits c.args.input.now c.in-None.is)
