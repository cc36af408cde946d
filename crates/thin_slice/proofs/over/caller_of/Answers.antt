use Rattle.std.proofs.Common.{length, ap, arith}
use Rattle.dep_form.specs.Phases.{edge}
use Rattle.dep_form.specs.declared.node.Label.TheVariants.{Return}
use Rattle.thin_slice.proofs.Located.{has_input, input_end}
use Rattle.thin_slice.proofs.Callees.{end_below, callers_are}
use Rattle.thin_slice.proofs.over.caller_of.Goals as goal

pub method_at-m-requires : goal.method_at-m-requires
method_at-m-requires c = end_below c.args.f.now (edge c.requires.0 (Return c.args.c) c.args.n) c.requires.1

pub input-input-requires : goal.input-input-requires
input-input-requires c = has_input c.args.f.now.inputs c.args.n c.method_at-m.result c.method_at-m.ensures

pub overflow_add-result : goal.overflow_add-result
overflow_add-result c = omega (arith, input_end c.args.f.now c.method_at-m.result c.input-input.result.now c.input-input.ensures, c.args.f.now.few, ap length c.items-nodes.ensures)

pub returns-clause-callers : goal.returns-clause-callers
returns-clause-callers c = callers_are c.args.f.now c.args.c c.requires.0 c.args.n c.method_at-m.result c.input-input.result.now _ c.requires.1 c.method_at-m.ensures c.input-input.ensures (omega (arith, ap length c.items-nodes.ensures))
