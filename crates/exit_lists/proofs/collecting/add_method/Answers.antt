use Rattle.std.proofs.Common.{◌+◌, take, arith}
use Rattle.std.proofs.lemmas.Result.{on_ok_weaker}
use Rattle.dep_form.specs.Firsts.{node_count, nodes_in}
use Rattle.dep_form.proofs.Firsts.{count_next}
use Rattle.worklists.proofs.Growing.{Grows-same}
use Rattle.exit_lists.specs.Exits.{IsExitIn, IsExitOf}
use Rattle.exit_lists.proofs.Rising.{rising_more, method_exits, first_is}
use Rattle.exit_lists.proofs.collecting.add_method.Goals as goal

pub add_option-requires : goal.add_option-requires
add_option-requires c = λ i e. rising_more (node_count (take c.args.m c.args.inputs.now)) i.first.0 c.args.exits.now.items (omega (arith, first_is c.args.inputs.now c.args.m c.input_at-input.result.now c.requires.follow_on c.input_at-input.ensures i e)) c.requires.rising

pub returns-clause-rising : goal.returns-clause-rising
returns-clause-rising c =
    let b = node_count (take c.args.m c.args.inputs.now) in
    let o = c.input_at-input.result.now in
    on_ok_weaker c.add_option.result (λ h. rising_more (b + nodes_in o) (node_count (take (c.args.m + 1) c.args.inputs.now)) c.add_option.new.exits.items (omega (arith, count_next c.args.inputs.now c.args.m o c.input_at-input.ensures)) h)
    (c.add_option.ensures.rising b c.requires.rising (first_is c.args.inputs.now c.args.m o c.requires.follow_on c.input_at-input.ensures))

pub returns-clause-members : goal.returns-clause-members
returns-clause-members c =
    let o = c.input_at-input.result.now in
    on_ok_weaker c.add_option.result (λ h. Grows-same c.args.exits.now.items c.add_option.new.exits.items (IsExitIn o) (IsExitOf c.args.inputs.now c.args.m)
    (λ x f. (o, c.input_at-input.ensures, f)) (λ x f. method_exits c.args.inputs.now c.args.m o c.input_at-input.ensures x f) h) c.add_option.ensures.members
