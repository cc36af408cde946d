use Rattle.std.proofs.Common.{◌≡◌, ◌∙◌, ◌++◌, ◌∷◌, [], ℕ, List, Contains, inl, inr, sym, subst, ap}
use Rattle.std.proofs.lemmas.List.Elements.{Contains-append_left, Contains-push, Contains-push_cases}
use Rattle.slicer_ids.specs.declared.ids.ExitId.{ExitId}
use Rattle.dep_form.specs.Summaries.{IsExitAt}
use Rattle.tabulate.proofs.Placing.{exit_place}
use Rattle.widening.proofs.edges.exits_near.Goals as goal

pub returns-in_default : goal.returns-in_default
returns-in_default c = λ d. (λ k. inl ((c.in_ok-exits_of_returns.ensures d).0 k), λ h. elim h [ inl r ↦ (c.in_ok-exits_of_returns.ensures d).1 r | inr at ↦ absurd (c.in_default.ensures d at) ])

pub returns : goal.returns
returns c = λ d.
    let f = c.args.f.now in
    let exit = c.in-Some.exit in
    let before : List ExitId = c.exits_of_returns.new.into.items in
    let pushed = c.in_ok-push.ensures.items in (
      λ k. elim (Contains-push_cases before exit d (subst (λ (xs : List ExitId). Contains xs d) pushed k)) [ inl o ↦ inl ((c.in_ok-exits_of_returns.ensures d).0 o) | inr is ↦ inr (subst (λ (y : ExitId). IsExitAt f y c.args.n) is c.in-Some.ensures) ],
      λ h. subst (λ (xs : List ExitId). Contains xs d) (sym pushed) (elim h [
        | inl r ↦ Contains-append_left before (exit ∷ []) d ((c.in_ok-exits_of_returns.ensures d).1 r)
        | inr at ↦ let same : exit ≡ d = ap (λ (n : ℕ). record { 0 = n }) (sym (exit_place f exit c.args.n c.in-Some.ensures) ∙ exit_place f d c.args.n at) in subst (λ (y : ExitId). Contains (before ++ exit ∷ []) y) same (Contains-push before exit)
      ]),
    )
