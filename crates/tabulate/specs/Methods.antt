-- What is kept of a method that was met.
use Rattle.std.specs.Prelude.{◌≡◌, ◌<◌, ℕ, List, length, Contains, Option, Some, slice_get}
use Rattle.std.specs.List.Sorted.{IsNonDecreasingBy}
use Rattle.slicer_ids.specs.declared.ids.NodeId.{NodeId}
use Rattle.dep_form.specs.declared.facts.Facts.{Facts}
use Rattle.dep_form.specs.declared.node.Edge.{Edge}
use Rattle.dep_form.specs.declared.node.Label.TheVariants.{Call, Return}
use Rattle.dep_form.specs.Inputs.{IsEdge}
use Rattle.dep_form.specs.Phases.{edge}
use Rattle.dep_form.specs.Summaries.{IsExitAt}
use Rattle.tabulate.specs.declared.method.Method.{Method}
use Rattle.tabulate.specs.declared.method.Argument.{Argument}
use Rattle.tabulate.specs.declared.method.Back.{Back}
use Rattle.tabulate.specs.Frames.{first, size, width, first_exit, exit_count, IsOf}

-- an edge of a call that ends in a formal of the method
abbrev pub IsArgument : Facts → ℕ → Argument → Type 0
IsArgument p m a = IsEdge p.inputs (edge a.from (Call a.call) a.formal) × IsOf p a.formal.0 m

-- an edge of a return that ends in a node of the method, with the number of its exit
abbrev pub IsBack : Facts → ℕ → Back → Type 0
IsBack p m b = (e : NodeId) × IsExitAt p b.exit e × IsEdge p.inputs (edge e (Return b.call) b.to) × IsOf p b.to.0 m

-- the edges of calls of a method, by call: those of one call stand together
pub record AreArguments (p : Facts) (m : ℕ) (list : List Argument) : Type 0 where
  pub each : (a : Argument) → Contains list a → IsArgument p m a
  pub whole : (a : Argument) → IsArgument p m a → Contains list a
  pub by_call : IsNonDecreasingBy (λ (a : Argument). a.call.0) list

pub record AreBacks (p : Facts) (m : ℕ) (list : List Back) : Type 0 where
  pub each : (b : Back) → Contains list b → IsBack p m b
  pub whole : (b : Back) → IsBack p m b → Contains list b
  pub by_call : IsNonDecreasingBy (λ (b : Back). b.call.0) list

-- one of the lists has the edge
abbrev pub HasEdge : List (List Edge) → Edge → Type 0
HasEdge lists e = (es : List Edge) × Contains lists es × Contains es e

-- what is kept is that of the method
pub record IsMethodOf (p : Facts) (x : Method) : Type 0 where
  pub there : x.id.0 < length p.inputs
  pub first_is : x.first.0 ≡ first p x.id.0
  pub size_is : x.size ≡ size p x.id.0
  pub width_is : x.width ≡ width p x.id.0
  pub exit_is : x.first_exit ≡ first_exit p x.id.0
  pub count_is : x.exit_count ≡ exit_count p x.id.0
  pub arguments : AreArguments p x.id.0 x.arguments.items
  pub backs : AreBacks p x.id.0 x.returns.items

abbrev pub IsMetAs : List (Option Method) → ℕ → Method → Type 0
IsMetAs ms m x = slice_get ms m ≡ Some (Some x)

-- the method was met
abbrev pub IsMet : List (Option Method) → ℕ → Type 0
IsMet ms m = (x : Method) × IsMetAs ms m x

pub record AreMethods (p : Facts) (ms : List (Option Method)) : Type 0 where
  pub len : length ms ≡ length p.inputs
  pub right : (m : ℕ) (x : Method) → IsMetAs ms m x → IsMethodOf p x × (x.id.0 ≡ m)
