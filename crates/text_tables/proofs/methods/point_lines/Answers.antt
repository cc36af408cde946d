use Rattle.std.proofs.Common.{◌++◌, ◌∷◌, [], map, ap, ◌∙◌}
use Rattle.std.proofs.lemmas.List.{take_all}
use Rattle.class_form.specs.declared.body.Point.{Point}
use Rattle.line_numbers.specs.LineTables.{line_in}
use Rattle.mod_ref.proofs.Tables.{map_more}
use Rattle.text_tables.specs.MethodLines.{entry_of}
use Rattle.text_tables.proofs.methods.point_lines.Goals as goal

pub loop-point-preserved : goal.loop-point-preserved
loop-point-preserved c =
    c.in_ok-push_point.ensures ∙ ap (λ (q : Point). c.loop-point.lines.items ++ entry_of (line_in c.args.numbers.now) q ∷ []) c.point-item.is
    ∙ map_more (entry_of (line_in c.args.numbers.now)) c.args.points.now c.loop-point.point-index c.point-item.result c.loop-point.lines.items c.loop-point-test.true c.loop-point.invariant

pub returns : goal.returns
returns c = c.loop-point.invariant ∙ ap (map (entry_of (line_in c.args.numbers.now))) (take_all c.loop-point.point-index c.args.points.now c.loop-point-test.false)
