use Rattle.std.proofs.Common.{subst}
use Rattle.class_form.specs.Classes.{HasCode}
use Rattle.class_form.specs.declared.class_file.Member.{Member}
use Rattle.body_rules.proofs.Coded.{here, one_method}
use Rattle.class_loader.proofs.code.try_place.Goals as goal

pub try_method-requires-clause-code : goal.try_method-requires-clause-code
try_method-requires-clause-code c =
    let m = c.index-items-place.result in
    (m, (here c.args.class.now c.items.result.now c.args.place m c.items.ensures c.requires.place c.index-items-place.is, c.in-Some.ensures.found))

pub returns-in-None-clause-bodies : goal.returns-in-None-clause-bodies
returns-in-None-clause-bodies c = λ n code there.
    let k = c.args.class.now in
    let m = c.index-items-place.result in
    let at = here k c.items.result.now c.args.place m c.items.ensures c.requires.place c.index-items-place.is in
    absurd (c.in-None.ensures.missed code (subst (λ (x : Member). HasCode x code) (one_method k c.args.place n m there.0 at) there.1))
