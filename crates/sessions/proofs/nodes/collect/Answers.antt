use Rattle.std.proofs.Common.{Contains}
use Rattle.dep_form.specs.Inputs.{BelongsTo}
use Rattle.dep_form.specs.Slices.{Slice}
use Rattle.widening.specs.Widened.{seeds_of, expansions_of}
use Rattle.sessions.proofs.Listing.{no_statements_yet, statements_more, all_statements}
use Rattle.sessions.proofs.nodes.collect.Goals as goal

pub loop-n-init : goal.loop-n-init
loop-n-init c = no_statements_yet (λ n s. Slice c.args.f.now.inputs (Contains (expansions_of c.args.wide.now)) (Contains (seeds_of c.args.wide.now)) n × BelongsTo c.args.f.now.inputs n s) c.new-found.result.items c.new-found.ensures.items

pub loop-n-preserved : goal.loop-n-preserved
loop-n-preserved c = statements_more (λ n s. Slice c.args.f.now.inputs (Contains (expansions_of c.args.wide.now)) (Contains (seeds_of c.args.wide.now)) n × BelongsTo c.args.f.now.inputs n s) c.loop-n.found.items c.add_found.new.found.items c.loop-n.n c.loop-n.invariant c.in_ok-add_found.ensures

pub returns : goal.returns
returns c = all_statements c.args.f.now (Slice c.args.f.now.inputs (Contains (expansions_of c.args.wide.now)) (Contains (seeds_of c.args.wide.now))) c.loop-n.found.items c.loop-n.n c.count_nodes-size.result c.loop-n.invariant c.loop-n-test.false c.count_nodes-size.ensures
