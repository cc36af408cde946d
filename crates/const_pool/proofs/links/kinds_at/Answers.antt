use Rattle.std.proofs.Common.{◌≡◌, ◌-◌, suc, subst, sym, refl, arith}
use Rattle.std.proofs.lemmas.Bool.{ltb-true, ltb-false}
use Rattle.std.proofs.lemmas.Option.{slice_get_read, slice_get_past}
use Rattle.const_pool.specs.Texts.{IsKinds, no_kinds}
use Rattle.const_pool.proofs.Found.{found, none_found}
use Rattle.const_pool.proofs.links.kinds_at.Goals as goal

pub returns-in-Some : goal.returns-in-Some
returns-in-Some c =
    let kinds = c.args.kinds.now in
    let i : suc (c.args.i - 1) ≡ c.args.i = omega (arith, c.if-i-eq0.false) in
    subst (λ n. IsKinds c.args.pool.now n c.in-Some.found.now) i
    (found c.args.pool.now kinds (c.args.i - 1) c.in-Some.found.now c.requires (slice_get_read kinds _ (c.args.i - 1) c.in-Some.found.now refl (ltb-true _ _ (sym c.in-Some.ensures.lookup.0)) c.in-Some.ensures.lookup.1))

pub returns-in-None : goal.returns-in-None
returns-in-None c =
    let kinds = c.args.kinds.now in
    let i : suc (c.args.i - 1) ≡ c.args.i = omega (arith, c.if-i-eq0.false) in
    subst (λ n. IsKinds c.args.pool.now n no_kinds) i (none_found c.args.pool.now kinds (c.args.i - 1) c.requires (slice_get_past kinds (c.args.i - 1) (ltb-false _ _ (sym c.in-None.ensures.lookup.0))))
