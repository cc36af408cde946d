-- The edges of a mode, and paths along them.
use Rattle.std.proofs.Common.{◌≡◌, ◌<◌, false, [], refl, sym, subst, ap, ◌∙◌}
use Rattle.std.proofs.Math.Logic.{∥∥₁_elim}
use Rattle.std.proofs.Props.{props}
use Rattle.std.proofs.lemmas.Option.{slice_get_within, get_or_from_slice_get}
use Rattle.slicer_ids.specs.declared.ids.NodeId.{NodeId}
use Rattle.slicer_ids.specs.declared.ids.CallId.{CallId}
use Rattle.slicer_ids.specs.declared.ids.ExitId.{ExitId}
use Rattle.slicer_ids.specs.declared.ids.Mode.{Mode}
use Rattle.slicer_ids.specs.declared.ids.Mode.TheVariants.{Thin as Producers, Full}
use Rattle.dep_form.specs.declared.facts.Facts.{Facts}
use Rattle.dep_form.specs.declared.node.Edge.{Edge}
use Rattle.dep_form.specs.declared.node.Label.{Label}
use Rattle.dep_form.specs.declared.node.Label.TheVariants.{Thin, Base, Call, Return}
use Rattle.dep_form.specs.Inputs.{IsEdge}
use Rattle.dep_form.specs.Paths.{HasSameLevelPath}
use Rattle.dep_form.specs.Phases.{edge, Level, stay, thin, base, call}
use Rattle.dep_form.specs.Slices.{ModeEdges, plain}
use Rattle.dep_form.specs.Summaries.{IsExitAt}
use Rattle.dep_form.proofs.Levels.{closes, listed}
use Rattle.tabulate.specs.Frames.{count, method_of}
use Rattle.tabulate.specs.Modes.{IsFlow}
use Rattle.tabulate.proofs.Fitting.{of_node, thin_fits, base_fits, one_home}

-- an edge within a method that the mode follows
abbrev pub Flows : Facts → Mode → NodeId → NodeId → Type 0
Flows p mode a b = (l : Label) × IsEdge p.inputs (edge a l b) × IsFlow mode l

module _ (p : Facts) where
  pub to_call : (mode : Mode) (a b : NodeId) (k : CallId) → IsEdge p.inputs (edge a (Call k) b) → ModeEdges p.inputs mode (edge a (Call k) b)
  to_call Producers a b k e = (e, λ h. absurd (apart h))
    where
      apart : Call k ≡ Base → ⊥
      apart h = absurd cc
  to_call Full a b k e = (edge a (Call k) b, e, refl)

  pub to_return : (mode : Mode) (a b : NodeId) (k : CallId) → IsEdge p.inputs (edge a (Return k) b) → ModeEdges p.inputs mode (edge a (Return k) b)
  to_return Producers a b k e = (e, λ h. absurd (apart h))
    where
      apart : Return k ≡ Base → ⊥
      apart h = absurd cc
  to_return Full a b k e = (edge a (Return k) b, e, refl)

  -- back over one edge
  pub to_level : (mode : Mode) (a b c : NodeId) (l : Label) → IsEdge p.inputs (edge a l b) → IsFlow mode l → Level (ModeEdges p.inputs mode) b c → Level (ModeEdges p.inputs mode) a c
  to_level Producers a b c Thin e f x = thin (e, λ h. absurd (apart h)) x
    where
      apart : Thin ≡ Base → ⊥
      apart h = absurd cc
  to_level Full a b c Thin e f x = thin (edge a Thin b, e, refl) x
  to_level Producers a b c Base e f x = absurd (apart f)
    where
      apart : Producers ≡ Full → ⊥
      apart h = absurd cc
  to_level Full a b c Base e f x = thin (edge a Base b, e, refl) x
  to_level mode a b c (Call k) e f x = absurd f
  to_level mode a b c (Return k) e f x = absurd f

  plain_call : (l : Label) (k : CallId) → Call k ≡ plain l → l ≡ Call k
  plain_call Thin k e = absurd cc
  plain_call Base k e = absurd cc
  plain_call (Call j) k e = sym e
  plain_call (Return j) k e = absurd cc

  plain_return : (l : Label) (k : CallId) → Return k ≡ plain l → l ≡ Return k
  plain_return Thin k e = absurd cc
  plain_return Base k e = absurd cc
  plain_return (Call j) k e = absurd cc
  plain_return (Return j) k e = sym e

  plain_base : (l : Label) → Base ≡ plain l → ⊥
  plain_base Thin e = absurd cc
  plain_base Base e = absurd cc
  plain_base (Call j) e = absurd cc
  plain_base (Return j) e = absurd cc

  plain_thin : (l : Label) → Thin ≡ plain l → IsFlow Full l
  plain_thin Thin e = tt
  plain_thin Base e = refl
  plain_thin (Call j) e = absurd cc
  plain_thin (Return j) e = absurd cc

  -- the edge of the input behind an edge of full slices
  behind : (a b : NodeId) (l : Label) (g : Edge) → IsEdge p.inputs g → edge a l b ≡ record g { label = plain g.label } → IsEdge p.inputs (edge a g.label b)
  behind a b l g e same =
      let f : g.from ≡ a = sym (ap (λ (x : Edge). x.from) same) in
      let t : g.to ≡ b = sym (ap (λ (x : Edge). x.to) same) in
      subst (λ (n : NodeId). IsEdge p.inputs (edge n g.label b)) f (subst (λ (n : NodeId). IsEdge p.inputs (edge g.from g.label n)) t e)

  pub call_of : (mode : Mode) (a b : NodeId) (k : CallId) → ModeEdges p.inputs mode (edge a (Call k) b) → IsEdge p.inputs (edge a (Call k) b)
  call_of Producers a b k e = e.0
  call_of Full a b k (g, e, same) = subst (λ (l : Label). IsEdge p.inputs (edge a l b)) (plain_call g.label k (ap (λ (x : Edge). x.label) same)) (behind a b (Call k) g e same)

  pub return_of : (mode : Mode) (a b : NodeId) (k : CallId) → ModeEdges p.inputs mode (edge a (Return k) b) → IsEdge p.inputs (edge a (Return k) b)
  return_of Producers a b k e = e.0
  return_of Full a b k (g, e, same) = subst (λ (l : Label). IsEdge p.inputs (edge a l b)) (plain_return g.label k (ap (λ (x : Edge). x.label) same)) (behind a b (Return k) g e same)

  pub thin_of : (mode : Mode) (a b : NodeId) → ModeEdges p.inputs mode (edge a Thin b) → Flows p mode a b
  thin_of Producers a b e = (Thin, e.0, tt)
  thin_of Full a b (g, e, same) = (g.label, behind a b Thin g e same, plain_thin g.label (ap (λ (x : Edge). x.label) same))

  pub base_of : (mode : Mode) (a b : NodeId) → ModeEdges p.inputs mode (edge a Base b) → Flows p mode a b
  base_of Producers a b e = absurd (e.1 refl).1
  base_of Full a b (g, e, same) = absurd (plain_base g.label (ap (λ (x : Edge). x.label) same))

  flow_home : (mode : Mode) (a b : NodeId) (l : Label) → IsEdge p.inputs (edge a l b) → IsFlow mode l → method_of p a.0 ≡ method_of p b.0
  flow_home mode a b Thin e f = (thin_fits p a b e).2
  flow_home mode a b Base e f = (base_fits p a b e).2
  flow_home mode a b (Call k) e f = absurd f
  flow_home mode a b (Return k) e f = absurd f

  -- a path over whole calls stays in one method
  pub level_method : (mode : Mode) {a b : NodeId} → Level (ModeEdges p.inputs mode) a b → method_of p a.0 ≡ method_of p b.0
  level_method mode stay = refl
  level_method mode (thin {a} {b} e x) = let f = thin_of mode a b e in flow_home mode a b f.0 f.1 f.2 ∙ level_method mode x
  level_method mode (base {a} {b} e x) = let f = base_of mode a b e in flow_home mode a b f.0 f.1 f.2 ∙ level_method mode x
  level_method mode (call {a} {b} {c} {d} {e} {k} f x r y) = one_home p a b c d k (call_of mode a b k f) (return_of mode c d k r) ∙ level_method mode y

  pub path_of : (mode : Mode) (a b : NodeId) → Level (ModeEdges p.inputs mode) a b → HasSameLevelPath (ModeEdges p.inputs mode) a b
  path_of mode a b l = let r = listed (ModeEdges p.inputs mode) l in (r.0, r.1, r.2 false [])

  pub level_of : (mode : Mode) (a b : NodeId) → HasSameLevelPath (ModeEdges p.inputs mode) a b → Level (ModeEdges p.inputs mode) a b
  level_of mode a b h = closes (ModeEdges p.inputs mode) h.0 [] a b h.1 h.2

  -- the node of an exit is a node
  pub exit_low : (d : ExitId) (x : NodeId) → IsExitAt p d x → x.0 < count p
  exit_low d x at = ∥∥₁_elim p.sound (hlevel props) (λ w.
      let h = w.all_exits.each d.0 x (slice_get_within p.exits d.0 x at) in
      let is = get_or_from_slice_get p.exits d.0 x x at in
      subst (λ (n : NodeId). n.0 < count p) is (of_node p _ h.0 h.1.0 h.1.1).0)
