-- Paths along the edges of facts.
use Rattle.std.proofs.Common.{◌≡◌, ◌∙◌, false, [], refl, inl, inr}
use Rattle.slicer_ids.specs.declared.ids.NodeId.{NodeId}
use Rattle.slicer_ids.specs.declared.ids.CallId.{CallId}
use Rattle.dep_form.specs.declared.facts.Facts.{Facts}
use Rattle.dep_form.specs.declared.node.Edge.{Edge}
use Rattle.dep_form.specs.declared.node.Label.TheVariants.{Thin, Base, Call, Return}
use Rattle.dep_form.specs.Paths.{HasSameLevelPath}
use Rattle.dep_form.specs.Phases.{edge, Level, stay, thin, base, call}
use Rattle.dep_form.proofs.Levels.{closes, listed}
use Rattle.thin_slice.specs.Steps.{Flows}
use Rattle.tabulate.specs.Frames.{method_of}
use Rattle.tabulate.proofs.Fitting.{thin_fits, base_fits, one_home}
use Rattle.widening.specs.declared.expansions.Expansions.{Expansions}
use Rattle.widening.specs.Edges.{AreEdges, Widened}

-- the edges of a widened slice
pub widened_edges : (f : Facts) (x : Expansions) → AreEdges f (Widened f x)
widened_edges f x = record { sub = λ e h. h.0; calls = λ a b k e. (e, λ h. absurd (no_call k h)); returns = λ a b k e. (e, λ h. absurd (no_return k h)) }
  where
    no_call : (k : CallId) → Call k ≡ Base → ⊥
    no_call k h = absurd cc

    no_return : (k : CallId) → Return k ≡ Base → ⊥
    no_return k h = absurd cc

module _ (f : Facts) (E : Edge → Type 0) (es : AreEdges f E) where
  -- a path over whole calls stays in one method
  pub level_home : {a b : NodeId} → Level E a b → method_of f a.0 ≡ method_of f b.0
  level_home stay = refl
  level_home (thin {a} {b} e x) = (thin_fits f a b (es.sub (edge a Thin b) e)).2 ∙ level_home x
  level_home (base {a} {b} e x) = (base_fits f a b (es.sub (edge a Base b) e)).2 ∙ level_home x
  level_home (call {a} {b} {c} {d} {e} {k} g x r y) = one_home f a b c d k (es.sub (edge a (Call k) b) g) (es.sub (edge c (Return k) d) r) ∙ level_home y

pub flow_then : (E : Edge → Type 0) (n q e : NodeId) → Flows E n q → Level E n e → Level E q e
flow_then E n q e (inl g) l = thin g l
flow_then E n q e (inr g) l = base g l

pub path_of : (E : Edge → Type 0) (a b : NodeId) → Level E a b → HasSameLevelPath E a b
path_of E a b l = let r = listed E l in (r.0, r.1, r.2 false [])

pub level_of : (E : Edge → Type 0) (a b : NodeId) → HasSameLevelPath E a b → Level E a b
level_of E a b h = closes E h.0 [] a b h.1 h.2
