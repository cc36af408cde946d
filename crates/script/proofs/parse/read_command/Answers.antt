use Rattle.std.proofs.Common.{sym, subst}
use Rattle.std.specs.Prelude.{codes}
use Rattle.script.specs.Keywords.{name_of}
use Rattle.script.specs.Steps.{Finishes}
use Rattle.script.specs.Commands.{reset, slice, full, lines, expand_all, gives_reset, gives_slice, gives_full, gives_lines, gives_expand_all}
use Rattle.script.proofs.Meaning.{bare_finishes}
use Rattle.script.proofs.parse.read_command.Goals as goal

pub returns-in-Reset : goal.returns-in-Reset
returns-in-Reset c =
    subst (λ k. Finishes (name_of k) c.args.line.now c.bare.result) (sym c.in-Reset.is)
    (bare_finishes (codes "reset") c.args.line.now _ _ reset gives_reset c.bare.ensures.alone c.bare.ensures.followed)

pub returns-in-Slice : goal.returns-in-Slice
returns-in-Slice c =
    subst (λ k. Finishes (name_of k) c.args.line.now c.bare-in-Slice.result) (sym c.in-Slice.is)
    (bare_finishes (codes "slice") c.args.line.now _ _ slice gives_slice c.bare-in-Slice.ensures.alone c.bare-in-Slice.ensures.followed)

pub returns-in-Full : goal.returns-in-Full
returns-in-Full c =
    subst (λ k. Finishes (name_of k) c.args.line.now c.bare-in-Full.result) (sym c.in-Full.is)
    (bare_finishes (codes "full") c.args.line.now _ _ full gives_full c.bare-in-Full.ensures.alone c.bare-in-Full.ensures.followed)

pub returns-in-Lines : goal.returns-in-Lines
returns-in-Lines c =
    subst (λ k. Finishes (name_of k) c.args.line.now c.bare-in-Lines.result) (sym c.in-Lines.is)
    (bare_finishes (codes "lines") c.args.line.now _ _ lines gives_lines c.bare-in-Lines.ensures.alone c.bare-in-Lines.ensures.followed)

pub returns-in-ExpandAll : goal.returns-in-ExpandAll
returns-in-ExpandAll c =
    subst (λ k. Finishes (name_of k) c.args.line.now c.bare-in-ExpandAll.result) (sym c.in-ExpandAll.is)
    (bare_finishes (codes "expand-all") c.args.line.now _ _ expand_all gives_expand_all c.bare-in-ExpandAll.ensures.alone c.bare-in-ExpandAll.ensures.followed)
