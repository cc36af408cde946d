use Rattle.std.proofs.Common.{◌≡◌, ◌∙◌, true, List, refl, sym, subst, arith}
use Rattle.std.specs.Prelude.{slice_set}
use Rattle.std.proofs.lemmas.Bool.{false≢true}
use Rattle.slicer_ids.specs.declared.ids.NodeId.{NodeId}
use Rattle.dep_form.specs.Inputs.{BelongsTo}
use Rattle.widening.specs.Edges.{Opens}
use Rattle.widening.proofs.OpenLaws.{opens_none, opens_one}
use Rattle.widening.proofs.expansions.add_if.Goals as goal

pub returns-in_ok-push : goal.returns-in_ok-push
returns-in_ok-push c =
    let D : NodeId → Type 0 = λ m. (m ≡ c.args.n) × BelongsTo c.args.f.now.inputs m c.args.s in
    let marks = c.args.marks.now.items in
    let into = c.args.into.now.items in
    subst (λ (xs : List NodeId). Opens D marks (slice_set marks c.args.n.0 true) into xs) (sym c.in_ok-push.ensures.items)
    (opens_one D c.args.n marks into (omega (arith, c.requires.node, c.requires.marks)) (refl, c.belongs.ensures.0 c.if-belongs.true) (λ m h. h.0))

pub returns-else-belongs : goal.returns-else-belongs
returns-else-belongs c = opens_none _ c.args.marks.now.items c.args.into.now.items
    (λ m h. false≢true (sym c.if-belongs.false ∙ c.belongs.ensures.1 (subst (λ (y : NodeId). BelongsTo c.args.f.now.inputs y c.args.s) h.0 h.1)))
