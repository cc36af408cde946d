use Rattle.std.proofs.Common.{◌≡◌, true, get_or, Contains, sym, subst, ◌∙◌, ap}
use Rattle.thin_slice.specs.Needs.{is_need}
use Rattle.thin_slice.specs.Calls.{Call}
use Rattle.thin_slice.proofs.laws.needs_are_named_once.Goals as goal

pub returns : goal.returns
returns c = λ calls h i j d lt within need same.
    let a : Call = get_or calls i d in
    let b : Call = get_or calls j d in
    h.named j d within (ap is_need same ∙ need) (subst (Contains b.fetched) (sym same) (h.fetched i j d lt within need))
