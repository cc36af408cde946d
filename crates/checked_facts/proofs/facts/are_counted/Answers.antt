use Rattle.std.proofs.Common.{List, Option, ℕ, length, ap, subst, arith}
use Rattle.dep_form.specs.declared.input.MethodInput.{MethodInput}
use Rattle.dep_form.specs.Graphs.{HasInput}
use Rattle.checked_facts.proofs.facts.are_counted.Goals as goal

pub returns : goal.returns
returns c = λ t.
    let few = c.are_few.ensures c.if-not-are_few.false in
    let below = c.are_below.ensures c.if-not-are_below.false in
    let inputs = ap length c.items-inputs.ensures in
    let methods = ap length c.items-methods.ensures in
    record {
      nodes_few = few.0;
      inputs_few = omega (arith, few.1, inputs);
      exits_few = omega (arith, below.0, ap length c.items.ensures);
      classes_few = omega (arith, below.1, ap length c.items-2.ensures);
      root = omega (arith, c.if-inputs-methods.false, inputs, methods);
      with_root = subst (λ (z : List (Option MethodInput) × ℕ). HasInput z.0 (record { 0 = z.1 })) (λ d. (c.items-3.ensures d, methods d)) (c.has_root.ensures t);
    }
