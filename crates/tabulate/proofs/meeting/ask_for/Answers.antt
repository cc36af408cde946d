use Rattle.std.proofs.Common.{ap, arith}
use Rattle.std.proofs.lemmas.Option.{slice_get_within}
use Rattle.tabulate.specs.Frames.{first_exit, method_of}
use Rattle.tabulate.proofs.Placing.{behind_first, is_exit, exit_place, same_exit_node}
use Rattle.tabulate.proofs.ModeEdges.{exit_low}
use Rattle.tabulate.proofs.Going.{queue_same}
use Rattle.tabulate.proofs.meeting.ask_for.Goals as goal

pub overflow_sub-number : goal.overflow_sub-number
overflow_sub-number g c = let x = c.requires.exit in omega (arith, behind_first c.args.f.now c.args.exit x.0 x.1 x.2.0, c.requires.method.exit_is, ap (first_exit c.args.f.now) x.2.1)

pub exit_node-requires : goal.exit_node-requires
exit_node-requires g c = let x = c.requires.exit in slice_get_within c.args.f.now.exits c.args.exit.0 x.0 x.1

pub ask-requires-clause-exit : goal.ask-requires-clause-exit
ask-requires-clause-exit g c = is_exit c.args.f.now c.args.exit c.exit_node.result c.exit_node.ensures (exit_low c.args.f.now c.args.exit c.exit_node.result c.exit_node.ensures)

pub ask-requires-clause-number : goal.ask-requires-clause-number
ask-requires-clause-number g c =
    let x = c.requires.exit in
    let p = c.args.f.now in
    let own = same_exit_node p c.args.exit c.exit_node.result x.0 c.exit_node.ensures x.1 in
    omega (arith, exit_place p c.args.exit c.exit_node.result c.exit_node.ensures, c.requires.method.exit_is, ap (first_exit p) x.2.1, ap (λ n. first_exit p (method_of p n)) own)

pub ask-requires-clause-queue : goal.ask-requires-clause-queue
ask-requires-clause-queue g c = queue_same c.args.f.now c.args.found.now.items c.open.new.found.items c.args.queue.now.items c.in_ok-open.ensures.same c.requires.queue
