use Rattle.std.proofs.Common.{◌≡◌, ◌≤◌, ℕ, List, Option, sym, subst, arith}
use Rattle.dep_form.specs.declared.input.MethodInput.{MethodInput}
use Rattle.dep_form.specs.Firsts.{node_count}
use Rattle.fact_form.specs.FactTables.{AreInputs}
use Rattle.edge_tables.specs.Rows.{AreFirsts}
use Rattle.input_lists.proofs.Numbering.{map_sum}
use Rattle.input_lists.proofs.lists.inputs.Goals as goal

pub firsts_of-requires : goal.firsts_of-requires
firsts_of-requires c = omega (arith, c.requires.few, map_sum c.args.rows.now)

pub numbered-requires-clause-program : goal.numbered-requires-clause-program
numbered-requires-clause-program c =
    let (p, is) = c.requires.program in
    let r = c.requires.rows p is in
    (p, (is, r.0, r.1))

pub numbered-requires-clause-firsts : goal.numbered-requires-clause-firsts
numbered-requires-clause-firsts c = subst (λ (ns : List ℕ). AreFirsts c.args.rows.now ns) (sym c.as_slice.ensures.value) c.in_ok-firsts.ensures

pub returns-clause-inputs : goal.returns-clause-inputs
returns-clause-inputs c = λ p is.
    let r = c.requires.rows p is in
    subst (λ (zs : List (Option MethodInput)). AreInputs p c.args.s.now c.args.mr.now c.args.entries.now zs) (sym c.from_vec.ensures) (c.in_ok-inputs.ensures.inputs p (is, r.0, r.1))

pub returns-clause-few : goal.returns-clause-few
returns-clause-few c = subst (λ (zs : List (Option MethodInput)). node_count zs ≤ 16777216) (sym c.from_vec.ensures) c.in_ok-inputs.ensures.few
