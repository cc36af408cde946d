use Rattle.std.proofs.Common.{◌≡◌, inl, inr, length, refl, sym, ap, ◌∙◌, arith}
use Rattle.std.proofs.lemmas.Bool.{cases_lt, false≢true}
use Rattle.slicer_ids.specs.declared.ids.MethodId.{MethodId}
use Rattle.input_lists.proofs.method.has_input.Goals as goal

pub returns-then-is_same : goal.returns-then-is_same
returns-then-is_same c = (λ t. inr (ap (λ (z : MethodId). z.0) (c.is_same.ensures.0 c.if-is_same.true ∙ c.root_of.ensures)), λ h. refl)

pub is_reached-requires : goal.is_reached-requires
is_reached-requires c =
    let s = c.args.scene.now.edges.system.now in
    elim (cases_lt c.args.m.0 (length s.methods)) [
      | inl lt ↦ omega (arith, lt, c.requires.scene.numbered.edges.solved.methods)
      | inr ge ↦
          let root : c.args.m.0 ≡ length s.methods = omega (arith, ge, c.requires.number, c.requires.scene.numbered.edges.count) in
          absurd (false≢true (sym c.if-is_same.false ∙ c.is_same.ensures.1 (ap (λ z. record { 0 = z }) root ∙ sym c.root_of.ensures)))
    ]

pub returns : goal.returns
returns c =
    let reached = c.is_reached.ensures c.args.scene.now.edges.system.now c.requires.scene.numbered.edges.solved in (
      λ t. inl (reached.0 t),
      λ h. elim h [
        | inl run ↦ reached.1 run
        | inr root ↦ absurd (false≢true (sym c.if-is_same.false ∙ c.is_same.ensures.1 (ap (λ z. record { 0 = z }) root ∙ sym c.root_of.ensures)))
      ],
    )
