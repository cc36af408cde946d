use Rattle.std.proofs.Common.{map, ap, ◌∙◌}
use Rattle.std.proofs.lemmas.List.{take_all}
use Rattle.mod_ref.proofs.Tables.{map_more}
use Rattle.text_tables.specs.LineGroups.{statement_of}
use Rattle.text_tables.proofs.lines.statements_of.Goals as goal

pub loop-place-preserved : goal.loop-place-preserved
loop-place-preserved c =
    c.in_ok-push_statement.ensures
    ∙ map_more statement_of c.args.places.now c.loop-place.place-index _ c.loop-place.statements.items c.loop-place-test.true c.loop-place.invariant

pub returns : goal.returns
returns c = c.loop-place.invariant ∙ ap (map statement_of) (take_all c.loop-place.place-index c.args.places.now c.loop-place-test.false)
