-- What holds while a table grows.
use Rattle.std.specs.Prelude.{◌≡◌, ◌≢◌, ◌⊎◌, ◌↔◌, ℕ, ◌+◌, ◌*◌, ◌<◌, ◌≤◌, List, ◌∷◌, length, AllPairs, Contains, Option, Some, None, reverse, slice_index}
use Rattle.std.specs.Int.{bit_at}
use Rattle.bit_rows.specs.Words.{IsIn}
use Rattle.slicer_ids.specs.declared.ids.NodeId.{NodeId}
use Rattle.slicer_ids.specs.declared.ids.CallId.{CallId}
use Rattle.slicer_ids.specs.declared.ids.ExitId.{ExitId}
use Rattle.slicer_ids.specs.declared.ids.Mode.{Mode}
use Rattle.slicer_ids.specs.Derivations.{IsDerivation}
use Rattle.dep_form.specs.declared.facts.Facts.{Facts}
use Rattle.dep_form.specs.declared.node.Edge.{Edge}
use Rattle.dep_form.specs.declared.node.Label.{Label}
use Rattle.dep_form.specs.declared.node.Label.TheVariants.{Call, Return}
use Rattle.dep_form.specs.Inputs.{IsEdge, IsInputOf, IsNodeOf, formal_count}
use Rattle.dep_form.specs.Slices.{ModeEdges}
use Rattle.dep_form.specs.Phases.{edge, Level}
use Rattle.slicer_ids.specs.declared.ids.MethodId.{MethodId}
use Rattle.dep_form.specs.declared.input.MethodInput.{MethodInput}
use Rattle.dep_form.specs.declared.node.Node.{Node}
use Rattle.dep_form.specs.Summaries.{IsExitAt, IsDemanded, IsRow, IsWidthOf}
use Rattle.tabulate.specs.declared.hands.Hands.{Hands}
use Rattle.tabulate.specs.declared.method.Method.{Method}
use Rattle.tabulate.specs.declared.found.Found.{Found}
use Rattle.tabulate.specs.Frames.{count, method_of, number_of, row}
use Rattle.tabulate.specs.Modes.{IsFlow}
use Rattle.tabulate.specs.Methods.{AreMethods, IsMet}
use Rattle.tabulate.specs.Hands.{hand_of}
use Rattle.tabulate.specs.Found.{Got, Todo, AreFound, IsQueue, IsSame, Goes, IsOpen, Takes, waits_of}
use Rattle.bit_rows.specs.Adds.{Adds}
use Rattle.tabulate.specs.Rules.{Rule, Asks, hand_at}

-- a node, and the number of an exit that was asked for, to which it leads
pub record IsGood (p : Facts) (mode : Mode) (asked : List ExitId) (q : ℕ × ℕ) : Type 0 where
  pub to : ExitId
  pub end : NodeId
  pub exit : IsExitAt p to end
  pub number : q.1 ≡ number_of p end.0
  pub was_asked : Contains asked to
  pub level : (from : NodeId) → from.0 ≡ q.0 → Level (ModeEdges p.inputs mode) from end

-- what follows from what was taken up was found
pub record IsDone (p : Facts) (mode : Mode) (h : Hands) (got todo : ℕ × ℕ → Type 0) : Type 0 where
  pub sub : (q : ℕ × ℕ) → todo q → got q
  pub flows : (n a : NodeId) (x : ℕ) (l : Label) → got (n.0, x) → IsEdge p.inputs (edge a l n) → IsFlow mode l → todo (n.0, x) ⊎ got (a.0, x)
  pub asks : (n e : NodeId) (x : ℕ) (k : CallId) → got (n.0, x) → IsEdge p.inputs (edge e (Return k) n)
      → todo (n.0, x) ⊎ (got (e.0, number_of p e.0) ⊎ ((bits : List ℕ) × (hand_at p h e ≡ Some bits)))
  pub calls : (n a g e : NodeId) (x : ℕ) (k : CallId) → got (n.0, x) → got (g.0, number_of p e.0) → hand_at p h e ≡ None → IsEdge p.inputs (edge e (Return k) n)
      → IsEdge p.inputs (edge a (Call k) g) → method_of p g.0 ≡ method_of p e.0 → todo (n.0, x) ⊎ (todo (g.0, number_of p e.0) ⊎ got (a.0, x))
  pub hands : (n a g e : NodeId) (x : ℕ) (k : CallId) (bits : List ℕ) → got (n.0, x) → hand_at p h e ≡ Some bits → IsIn bits (row p g.0) → IsEdge p.inputs (edge e (Return k) n)
      → IsEdge p.inputs (edge a (Call k) g) → method_of p g.0 ≡ method_of p e.0 → todo (n.0, x) ⊎ got (a.0, x)

-- an exit that others demand, or one of the first
abbrev pub Demands : Facts → Mode → (ExitId → Type 0) → (ExitId → Type 0) → ExitId → Type 0
Demands p mode First K d = First d ⊎ IsDemanded p (ModeEdges p.inputs mode) K d

-- the exits that were asked for
pub record AreAsked (p : Facts) (mode : Mode) (First : ExitId → Type 0) (h : Hands) (asked : List ExitId) : Type 0 where
  pub once : AllPairs (λ (a b : ExitId). a ≢ b) asked
  pub derived : IsDerivation (Demands p mode First) (reverse asked)
  pub apart : (d : ExitId) → Contains asked d → hand_of h d.0 ≡ None
  pub exits : (d : ExitId) → Contains asked d → d.0 < length p.exits

-- the rows to hand are those of exits whose methods were met. `Has` are the exits that surely have one
pub record AreHands (p : Facts) (mode : Mode) (Has : ExitId → Type 0) (ms : List (Option Method)) (h : Hands) : Type 0 where
  pub rows : (d : ExitId) (bits : List ℕ) → hand_of h d.0 ≡ Some bits → IsRow p mode d bits
  pub known : (d : ExitId) (bits : List ℕ) → hand_of h d.0 ≡ Some bits → Has d
  pub met : (d : ExitId) (x : NodeId) (bits : List ℕ) → hand_of h d.0 ≡ Some bits → IsExitAt p d x → IsMet ms (method_of p x.0)

-- what holds of the methods that were met, the rows to hand, the exits that were asked for and what was found
pub record Holds (p : Facts) (mode : Mode) (First : ExitId → Type 0) (Has : ExitId → Type 0) (ms : List (Option Method)) (h : Hands) (asked : List ExitId) (ts : List Found) (queue : List NodeId) : Type 0 where
  pub found : AreFound p ts
  pub in_queue : IsQueue p ts queue
  pub methods : AreMethods p ms
  pub met : (m : ℕ) → 0 < length (waits_of ts m) → IsMet ms m
  pub exits : AreAsked p mode First h asked
  pub begun : (d : ExitId) (x : NodeId) → Contains asked d → IsExitAt p d x → Got p ts (x.0, number_of p x.0)
  pub hands : AreHands p mode Has ms h
  pub good : (q : ℕ × ℕ) → Got p ts q → IsGood p mode asked q

-- the edge is a return from the exit
abbrev pub IsReturnFrom : Facts → ExitId → Edge → Type 0
IsReturnFrom p d x = IsExitAt p d x.from × (k : CallId) × (x.label ≡ Return k)

-- an exit was asked for, in a method that may have been opened for it
pub record IsAskStep (p : Facts) (d : ExitId) (ts ts' : List Found) (q q' : List NodeId) (steps steps' : ℕ) : Type 0 where
  pub opened : List Found
  pub same : IsSame p ts opened
  pub goes : (x : NodeId) → IsExitAt p d x → Goes p opened ts' q q' steps steps' (Asks p x.0)

-- an exit that was asked for, with itself
abbrev pub AsksAny : Facts → List ExitId → Rule
AsksAny p asked K q = (d : ExitId) × (x : NodeId) × Contains asked d × IsExitAt p d x × Asks p x.0 K q

-- before and after exits were asked for, or rows came to hand
pub record Meets (p : Facts) (h h' : Hands) (asked asked' : List ExitId) (ts ts' : List Found) : Type 0 where
  pub adds : Adds (Got p ts) (Todo p ts) (Got p ts') (Todo p ts') (AsksAny p asked')
  pub more : (d : ExitId) → Contains asked d → Contains asked' d
  pub hands : (d : ExitId) (bits : List ℕ) → hand_of h d.0 ≡ Some bits → hand_of h' d.0 ≡ Some bits

-- the exit was asked for, or its row is to hand
abbrev pub IsKnown : Hands → List ExitId → ExitId → Type 0
IsKnown h asked d = Contains asked d ⊎ ((bits : List ℕ) × (hand_of h d.0 ≡ Some bits))

-- each exit that was asked for in between had no row to hand before
abbrev pub AreWanting : (ExitId → Type 0) → List ExitId → List ExitId → Type 0
AreWanting Had asked asked' = (d : ExitId) → Contains asked' d → Contains asked d ⊎ (Had d → ⊥)

-- the new bits of a node
abbrev pub OfNode : NodeId → List ℕ → ℕ × ℕ → Type 0
OfNode n delta q = (q.0 ≡ n.0) × IsIn delta q.1

-- those that wait, and those that were taken up and not yet followed
abbrev pub Open : (ℕ × ℕ → Type 0) → (ℕ × ℕ → Type 0) → ℕ × ℕ → Type 0
Open todo pending q = todo q ⊎ pending q

-- a node was taken out of the queue, with its new bits
pub record IsNext (p : Facts) (ts ts' : List Found) (q q' : List NodeId) (n : NodeId) (delta : List ℕ) : Type 0 where
  pub items : q ≡ n ∷ q'
  pub there : (n.0 < count p) × IsOpen p ts' (method_of p n.0)
  pub found : AreFound p ts'
  pub queue : IsQueue p ts' q'
  pub takes : Takes p ts ts' n.0 delta

-- the bits are those of pairs that were found and don't wait
abbrev pub IsTakenUp : Facts → List Found → NodeId → List ℕ → Type 0
IsTakenUp p ts n delta = (x : ℕ) → IsIn delta x → Got p ts (n.0, x)

-- a word of a row over the formals from this node on: a bit for each from which a pair with the number was found
abbrev pub IsWordFound : Facts → List Found → ℕ → ℕ → ℕ → ℕ → ℕ → Type 0
IsWordFound p ts first formals number k word = (b : ℕ) → b < 64 → (bit_at word b ≡ 1) ↔ ((64 * k + b < formals) × Got p ts (first + (64 * k + b), number))

-- the row has a bit for each formal of the exit's method to which the exit was found to lead
pub record IsRowFound (p : Facts) (ts : List Found) (d : ExitId) (bits : List ℕ) : Type 0 where
  pub size : IsWidthOf p d (length bits)
  pub words : (m : MethodId) (i : MethodInput) (x : NodeId) (kind : Node) (k : ℕ) → IsExitAt p d x → IsInputOf p.inputs m i → IsNodeOf i x kind
      → k < length bits → IsWordFound p ts i.first.0 (formal_count i) (number_of p x.0) k (slice_index bits k)

-- exits were met: those of D
pub record MeetStep (p : Facts) (mode : Mode) (First : ExitId → Type 0) (Had Has D : ExitId → Type 0) (ms' : List (Option Method)) (h h' : Hands) (asked asked' : List ExitId)
    (ts ts' : List Found) (q q' : List NodeId) (steps steps' : ℕ) : Type 0 where
  pub holds : Holds p mode First Has ms' h' asked' ts' q'
  pub meets : Meets p h h' asked asked' ts ts'
  pub known : (d : ExitId) → D d → IsKnown h' asked' d
  pub wanting : AreWanting Had asked asked'
  pub work : length q' + steps ≤ length q + steps'
