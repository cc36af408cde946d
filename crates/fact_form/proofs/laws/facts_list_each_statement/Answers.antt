use Rattle.fact_form.proofs.Listing.{listed, has_node, access_listed}
use Rattle.fact_form.proofs.laws.facts_list_each_statement.Goals as goal

pub returns-clause-listed : goal.returns-clause-listed
returns-clause-listed c = listed

pub returns-clause-has_node : goal.returns-clause-has_node
returns-clause-has_node c = has_node

pub returns-clause-accesses : goal.returns-clause-accesses
returns-clause-accesses c = access_listed
