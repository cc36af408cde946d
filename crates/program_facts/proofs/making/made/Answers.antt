use Rattle.std.proofs.Common.{◌≡◌, refl, sym, ap, subst, ◌∙◌}
use Rattle.std.proofs.lemmas.Result.{IfOk-weaker}
use Rattle.dep_form.specs.Making.{IsMadeOf}
use Rattle.dep_form.specs.declared.facts.Facts.{Facts}
use Rattle.fact_form.specs.FactTables.{Parts, parts_of}
use Rattle.program_facts.specs.Tables.{listed_parts}
use Rattle.program_facts.proofs.Counts.{parts_are}
use Rattle.program_facts.proofs.making.made.Goals as goal

pub new-requires : goal.new-requires
new-requires c =
    let p = c.requires.program.0 in
    let entries = c.requires.program.1 in
    let of = c.requires.program.2 in
    c.tables_keep_what_facts_keep.ensures p c.args.s.now c.args.mr.now entries (listed_parts c.args.t) of.asked of.coded of.constraints c.requires.effects c.requires.program.3
    (record { nodes = c.requires.nodes; methods = c.are_few.ensures.methods c.if-not-are_few.false; exits = c.are_few.ensures.exits c.if-not-are_few.false; classes = c.are_few.ensures.classes c.if-not-are_few.false })

pub returns : goal.returns
returns c = IfOk-weaker c.new.result (IsMadeOf c.args.t.inputs c.args.t.exits c.args.t.classes c.args.t.methods c.args.t.sites c.args.t.lines c.args.t.accesses c.args.t.values) (λ f. parts_of f ≡ listed_parts c.args.t)
    (λ f made. parts_are f (listed_parts c.args.t) made) c.new.ensures
