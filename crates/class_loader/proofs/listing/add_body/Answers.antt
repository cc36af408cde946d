use Rattle.std.proofs.Common.{inl, inr, subst, rules}
use Rattle.std.proofs.lemmas.Result.{on_ok_weaker}
use Rattle.class_form.specs.Classes.{HasCode}
use Rattle.class_form.specs.declared.class_file.Member.{Member}
use Rattle.body_rules.proofs.Coded.{here, one_method}
use Rattle.class_loader.proofs.listing.add_body.Goals as goal

pub add_code-requires-clause-code : goal.add_code-requires-clause-code
add_code-requires-clause-code c =
    let m = c.index-items-place.result in
    (m, (here c.args.class.now c.items.result.now c.args.place m c.items.ensures c.requires.place c.index-items-place.is, c.in-Some.ensures.found))

pub returns-in-Some : goal.returns-in-Some
returns-in-Some c = on_ok_weaker c.add_code.result (λ h. inl (c.in-Some.code.now, h)) c.add_code.ensures

pub returns-in-None : goal.returns-in-None
returns-in-None c =
    let k = c.args.class.now in
    let m = c.index-items-place.result in
    let at = here k c.items.result.now c.args.place m c.items.ensures c.requires.place c.index-items-place.is in
    inr (λ n code there. c.in-None.ensures.missed code (subst (λ (x : Member). HasCode x code) (one_method k c.args.place n m there.0 at) there.1), search rules)
