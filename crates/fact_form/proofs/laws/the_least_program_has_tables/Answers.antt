use Rattle.std.proofs.Common.{[], ◌∷◌}
use Rattle.dep_form.specs.declared.node.Node.TheVariants.{Argument}
use Rattle.program_code.proofs.TinyCode.{tiny_is_of_code}
use Rattle.constraint_form.proofs.LeastProgram.{tiny_asked}
use Rattle.program_form.specs.Tiny.{tiny_program}
use Rattle.fact_form.proofs.LeastNodes.{least_effects, least_effects_are, entries, entry_calls}
use Rattle.fact_form.proofs.LeastInputs.{main_list, least_rows}
use Rattle.fact_form.proofs.LeastFacts.{least_parts, least_tables, few_parts, least_system_of_facts}
use Rattle.fact_form.proofs.laws.the_least_program_has_tables.Goals as goal

pub returns-clause-tables : goal.returns-clause-tables
returns-clause-tables c =
    let (s, system) = c.the_least_program_has_constraints.ensures.made in
    let tie = c.constraints_give_the_facts.ensures tiny_program s tiny_asked system in
    let effects = least_effects_are s system tie in
    let tables = least_tables s system tie in
    let keep = c.tables_keep_what_facts_keep.ensures tiny_program s least_effects entries least_parts tiny_asked tiny_is_of_code system effects tables few_parts in
    let (f, facts, few) = least_system_of_facts s system tie keep in
    (s, least_effects, f, tiny_asked, tiny_is_of_code, system, effects, facts, few)

pub returns-clause-rows : goal.returns-clause-rows
returns-clause-rows c =
    let (s, system) = c.the_least_program_has_constraints.ensures.made in
    let tie = c.constraints_give_the_facts.ensures tiny_program s tiny_asked system in
    (s, least_effects, entries, main_list ∷ (Argument 0 0 ∷ []) ∷ [], tiny_asked, tiny_is_of_code, system, least_effects_are s system tie, entry_calls s system tie, least_rows s system tie)
