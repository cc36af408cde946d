use Rattle.explainers.proofs.Bringings.{values_are}
use Rattle.explainers.proofs.explain.has_one_of.Goals as goal

pub returns : goal.returns
returns c =
    let any = c.is_any_in.ensures in
    let of = values_are c.args.f.now c.args.s c.value_sites-sites.result.now c.value_sites-sites.ensures in
    (λ t. let k = any.0 t in (k.0, k.1, (of k.0).0 k.2), λ k. any.1 (k.0, k.1, (of k.0).1 k.2))
