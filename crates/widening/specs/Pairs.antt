-- Path edges as they grow: pairs of a node and the number of an exit of its method.
use Rattle.std.specs.Prelude.{◌≡◌, ◌⊎◌, ◌<◌, ◌≤◌, ◌+◌, ℕ, List, [], ◌∷◌, length, Contains, Option}
use Rattle.bit_rows.specs.Words.{IsIn}
use Rattle.bit_rows.specs.Adds.{Adds, Taken}
use Rattle.tabulate.specs.States.{AsksAny}
use Rattle.slicer_ids.specs.declared.ids.NodeId.{NodeId}
use Rattle.slicer_ids.specs.declared.ids.CallId.{CallId}
use Rattle.slicer_ids.specs.declared.ids.ExitId.{ExitId}
use Rattle.dep_form.specs.declared.facts.Facts.{Facts}
use Rattle.dep_form.specs.declared.node.Edge.{Edge}
use Rattle.dep_form.specs.declared.node.Label.TheVariants.{Call, Return}
use Rattle.dep_form.specs.Paths.{IsInSlice}
use Rattle.dep_form.specs.Phases.{edge, Level}
use Rattle.dep_form.specs.Summaries.{IsExitAt}
use Rattle.tabulate.specs.declared.method.Method.{Method}
use Rattle.tabulate.specs.Frames.{method_of, number_of}
use Rattle.tabulate.specs.Methods.{AreMethods, IsMet, IsMetAs}
use Rattle.tabulate.specs.Found.{Got, Todo, AreFound, IsQueue, waits_of}
use Rattle.thin_slice.specs.Steps.{Flows}
use Rattle.widening.specs.declared.pairs.Pairs.{Pairs}
use Rattle.widening.specs.Edges.{AreEdges}

-- the pairs that were found, and those of them that wait to be taken up
abbrev pub Has : Facts → Pairs → ℕ × ℕ → Type 0
Has f p = Got f p.found.items

abbrev pub Waits : Facts → Pairs → ℕ × ℕ → Type 0
Waits f p = Todo f p.found.items

-- an exit of the node's method that was asked for, to which a same-level path leads
pub record IsGood (f : Facts) (E : Edge → Type 0) (asked : List ExitId) (q : ℕ × ℕ) : Type 0 where
  pub to : ExitId
  pub end : NodeId
  pub exit : IsExitAt f to end
  pub number : q.1 ≡ number_of f end.0
  pub was_asked : Contains asked to
  pub level : (from : NodeId) → from.0 ≡ q.0 → Level E from end

-- what follows from a pair that isn't loose was found
pub record IsDone (f : Facts) (E : Edge → Type 0) (got loose : ℕ × ℕ → Type 0) : Type 0 where
  pub flows : (n a : NodeId) (x : ℕ) → got (n.0, x) → Flows E n a → loose (n.0, x) ⊎ got (a.0, x)
  pub asks : (n e : NodeId) (x : ℕ) (k : CallId) → got (n.0, x) → E (edge e (Return k) n) → loose (n.0, x) ⊎ got (e.0, number_of f e.0)
  pub calls : (n a g e : NodeId) (x : ℕ) (k : CallId) → got (n.0, x) → got (g.0, number_of f e.0) → E (edge e (Return k) n) → E (edge a (Call k) g)
      → method_of f g.0 ≡ method_of f e.0 → loose (n.0, x) ⊎ (loose (g.0, number_of f e.0) ⊎ got (a.0, x))

-- each pair leads to an exit that was asked for, and each such exit is there with itself
pub record ArePairs (f : Facts) (E : Edge → Type 0) (ms : List (Option Method)) (p : Pairs) : Type 0 where
  pub edges : AreEdges f E
  pub methods : AreMethods f ms
  pub found : AreFound f p.found.items
  pub queue : IsQueue f p.found.items p.queue.items
  pub met : (m : ℕ) → 0 < length (waits_of p.found.items m) → IsMet ms m
  pub begun : (d : ExitId) (x : NodeId) → Contains p.asked.items d → IsExitAt f d x → Has f p (x.0, number_of f x.0)
  pub good : (q : ℕ × ℕ) → Has f p q → IsGood f E p.asked.items q
  pub sub : (q : ℕ × ℕ) → Waits f p q → Has f p q

-- nothing waits, and all that follows was found
pub record AreWhole (f : Facts) (E : Edge → Type 0) (ms : List (Option Method)) (p : Pairs) : Type 0 where
  pub pairs : ArePairs f E ms p
  pub idle : p.queue.items ≡ []
  pub done : IsDone f E (Has f p) (λ _. ⊥)

-- each exit that was asked for lies in the slice
abbrev pub AreNeeded : Facts → (Edge → Type 0) → List NodeId → List ExitId → Type 0
AreNeeded f E seeds asked = (d : ExitId) (x : NodeId) → Contains asked d → IsExitAt f d x → IsInSlice E (Contains seeds) x

-- the methods that were met are met
abbrev pub KeepsMet : List (Option Method) → List (Option Method) → Type 0
KeepsMet ms ms' = (m : ℕ) (x : Method) → IsMetAs ms m x → IsMetAs ms' m x

-- more exits may have been asked for
abbrev pub KeepsAsked : List ExitId → List ExitId → Type 0
KeepsAsked asked asked' = (d : ExitId) → Contains asked d → Contains asked' d

-- the pairs of a node with these numbers
abbrev pub AtNode : NodeId → List ℕ → ℕ × ℕ → Type 0
AtNode n delta q = (q.0 ≡ n.0) × IsIn delta q.1

-- all pairs of the nodes of a list
abbrev pub AtNodes : List NodeId → ℕ × ℕ → Type 0
AtNodes nodes q = (n : NodeId) × Contains nodes n × (q.0 ≡ n.0)

-- the same pairs were taken up
pub record AreSameTaken (f : Facts) (p p' : Pairs) : Type 0 where
  pub on : (q : ℕ × ℕ) → Taken (Has f p) (Waits f p) q → Taken (Has f p') (Waits f p') q
  pub back : (q : ℕ × ℕ) → Taken (Has f p') (Waits f p') q → Taken (Has f p) (Waits f p) q

abbrev pub Either : (ℕ × ℕ → Type 0) → (ℕ × ℕ → Type 0) → ℕ × ℕ → Type 0
Either P Q q = P q ⊎ Q q

-- some exits, those of D, were asked for
pub record IsAskedStep (f : Facts) (E : Edge → Type 0) (D : ExitId → Type 0) (ms' : List (Option Method)) (p p' : Pairs) (tally tally' : ℕ) : Type 0 where
  pub pairs : ArePairs f E ms' p'
  pub adds : Adds (Has f p) (Waits f p) (Has f p') (Waits f p') (AsksAny f p'.asked.items)
  pub kept : KeepsAsked p.asked.items p'.asked.items
  pub asked : (d : ExitId) → D d → Contains p'.asked.items d
  pub only : (d : ExitId) → Contains p'.asked.items d → Contains p.asked.items d ⊎ D d
  pub lens : (m : ℕ) → length (waits_of p.found.items m) ≤ length (waits_of p'.found.items m)
  pub work : length p'.queue.items + tally ≤ length p.queue.items + tally'

-- pairs of a node were followed, with no regard to those that are left over
pub record IsFollowed (f : Facts) (E : Edge → Type 0) (n : NodeId) (delta : List ℕ) (ms' : List (Option Method)) (p p' : Pairs) (tally tally' : ℕ) : Type 0 where
  pub pairs : ArePairs f E ms' p'
  pub done : (left : List NodeId) → IsDone f E (Has f p) (Either (Waits f p) (Either (AtNode n delta) (AtNodes left))) → IsDone f E (Has f p') (Either (Waits f p') (AtNodes left))
  pub same : AreSameTaken f p p'
  pub kept : KeepsAsked p.asked.items p'.asked.items
  pub needed : (seeds : List NodeId) → AreNeeded f E seeds p.asked.items → AreNeeded f E seeds p'.asked.items
  pub lens : (m : ℕ) → length (waits_of p.found.items m) ≤ length (waits_of p'.found.items m)
  pub work : length p'.queue.items + tally ≤ length p.queue.items + tally'

-- all pairs of a node were followed once more, with no regard to those that are left over
pub record IsFollowedAgain (f : Facts) (E : Edge → Type 0) (n : NodeId) (ms' : List (Option Method)) (p p' : Pairs) : Type 0 where
  pub pairs : ArePairs f E ms' p'
  pub done : (left : List NodeId) → IsDone f E (Has f p) (Either (Waits f p) (AtNodes (n ∷ left))) → IsDone f E (Has f p') (Either (Waits f p') (AtNodes left))
  pub same : AreSameTaken f p p'
  pub kept : KeepsAsked p.asked.items p'.asked.items
  pub needed : (seeds : List NodeId) → AreNeeded f E seeds p.asked.items → AreNeeded f E seeds p'.asked.items

-- the same of each node of a list
pub record AreFollowedAgain (f : Facts) (E : Edge → Type 0) (nodes : List NodeId) (ms' : List (Option Method)) (p p' : Pairs) : Type 0 where
  pub pairs : ArePairs f E ms' p'
  pub done : IsDone f E (Has f p) (Either (Waits f p) (AtNodes nodes)) → IsDone f E (Has f p') (Waits f p')
  pub same : AreSameTaken f p p'
  pub kept : KeepsAsked p.asked.items p'.asked.items
  pub needed : (seeds : List NodeId) → AreNeeded f E seeds p.asked.items → AreNeeded f E seeds p'.asked.items
