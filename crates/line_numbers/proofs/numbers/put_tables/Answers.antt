use Rattle.std.proofs.Common.{◌++◌, ℕ, List, take, subst}
use Rattle.std.proofs.lemmas.List.{take_all}
use Rattle.class_form.specs.declared.class_file.CodeAttribute.{CodeAttribute}
use Rattle.std.specs.List.{flat_map}
use Rattle.line_numbers.specs.LineTables.{AreLasts, lines_of_one}
use Rattle.line_numbers.proofs.Tables.{more_tables}
use Rattle.line_numbers.proofs.numbers.put_tables.Goals as goal

pub loop-attribute-preserved : goal.loop-attribute-preserved
loop-attribute-preserved c = λ before lasts.
    more_tables (λ (t : List (ℕ × ℕ)). AreLasts t c.put_content.new.by_pc.items) c.args.attributes.now before c.loop-attribute.attribute-index c.attribute-item.result c.loop-attribute-test.true c.attribute-item.is
    (c.in_ok-put_content.ensures (before ++ flat_map lines_of_one (take c.loop-attribute.attribute-index c.args.attributes.now)) (c.loop-attribute.invariant before lasts))

pub returns : goal.returns
returns c = λ before lasts.
    let all = take_all c.loop-attribute.attribute-index c.args.attributes.now c.loop-attribute-test.false in
    subst (λ (ts : List CodeAttribute). AreLasts (before ++ flat_map lines_of_one ts) c.loop-attribute.by_pc.items) all (c.loop-attribute.invariant before lasts)
