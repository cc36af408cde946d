use Rattle.std.specs.Prelude.{Contains}
use Rattle.std.proofs.Common.{◌∙◌, sym, subst}
use Rattle.std.proofs.lemmas.Option.{same_Some}
use Rattle.dep_form.specs.Paths.{HasSameLevelPath}
use Rattle.dep_form.specs.Slices.{Expanded, FullEdges}
use Rattle.dep_form.proofs.Realizable.{returned}
use Rattle.dep_form.proofs.laws.demanded_exits_are_needed.Goals as goal

pub returns-clause-thin : goal.returns-clause-thin
returns-clause-thin c = λ f asked seeds known e all d.
    let E = Expanded f.inputs (Contains asked) in
    let path = d.6 in
    let needed = all d.3 path.0 in
    let here = same_Some path.1 needed.0 (sym path.2 ∙ needed.1) in
    (d.0, d.4, (needed.2.0, needed.2.1, returned E d.0 d.1 needed.0 needed.2.0 d.2 d.5 (subst (λ n. HasSameLevelPath E d.1 n) here path.3) needed.2.2))

pub returns-clause-full : goal.returns-clause-full
returns-clause-full c = λ f seeds known e all d.
    let E = FullEdges f.inputs in
    let path = d.6 in
    let needed = all d.3 path.0 in
    let here = same_Some path.1 needed.0 (sym path.2 ∙ needed.1) in
    (d.0, d.4, (needed.2.0, needed.2.1, returned E d.0 d.1 needed.0 needed.2.0 d.2 d.5 (subst (λ n. HasSameLevelPath E d.1 n) here path.3) needed.2.2))
