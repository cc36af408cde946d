use Rattle.std.proofs.Common.{◌≡◌, Contains, Some, sym, subst, ◌∙◌}
use Rattle.std.proofs.lemmas.Option.{same_Some}
use Rattle.dep_form.specs.declared.rules.Rule.TheVariants.{Alloc}
use Rattle.dep_form.specs.declared.rules.Var.{Var}
use Rattle.fact_form.specs.EntryCalls.{root_of}
use Rattle.method_facts.proofs.given.is_given.Goals as goal

pub returns-in-Some : goal.returns-in-Some
returns-in-Some c =
    let s = c.args.system.now in
    let x = c.in-Some.x in (
      λ e.
          let w = (c.first_formal.ensures x).0 c.in-Some.is in
          let g = (c.requires.members x).0 (c.is_listed.ensures.0 e) in
          (w.0, x, g.0, w.1, w.2, g.1),
      λ h.
          let same : h.1 ≡ x = same_Some h.1 x (sym ((c.first_formal.ensures h.1).1 (h.0, h.3, h.4)) ∙ c.in-Some.is) in
          c.is_listed.ensures.1 ((c.requires.members x).1 (h.2, subst (λ (z : Var). Contains s.constraints (record { method = root_of s; rule = Alloc z h.2 })) same h.5)),
    )

pub returns-in-None : goal.returns-in-None
returns-in-None c = (
  λ e. absurd (cc e),
  λ h. let there = (c.first_formal.ensures h.1).1 (h.0, h.3, h.4) in absurd (cc (sym there ∙ c.in-None.is)),
)
