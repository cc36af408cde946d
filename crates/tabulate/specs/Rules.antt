-- What follows from what.
use Rattle.std.specs.Prelude.{◌≡◌, ◌<◌, ℕ, ◌+◌, ◌*◌, List, Contains, Option, Some, None}
use Rattle.bit_rows.specs.Words.{IsIn}
use Rattle.slicer_ids.specs.declared.ids.NodeId.{NodeId}
use Rattle.slicer_ids.specs.declared.ids.CallId.{CallId}
use Rattle.slicer_ids.specs.declared.ids.Mode.{Mode}
use Rattle.slicer_ids.specs.declared.ids.Mode.TheVariants.{Full}
use Rattle.dep_form.specs.declared.facts.Facts.{Facts}
use Rattle.dep_form.specs.declared.node.Edge.{Edge}
use Rattle.dep_form.specs.declared.node.Label.{Label}
use Rattle.dep_form.specs.declared.node.Label.TheVariants.{Thin, Base, Call, Return}
use Rattle.dep_form.specs.Inputs.{IsEdge}
use Rattle.dep_form.specs.Phases.{edge}
use Rattle.tabulate.specs.declared.hands.Hands.{Hands}
use Rattle.tabulate.specs.declared.method.Argument.{Argument}
use Rattle.tabulate.specs.declared.method.Back.{Back}
use Rattle.tabulate.specs.Frames.{method_of, number_of, row, exits_before, first_exit, exit_count}
use Rattle.tabulate.specs.Hands.{hand_of}

abbrev pub Rule : Type 1
Rule = (ℕ × ℕ → Type 0) → ℕ × ℕ → Type 0

-- a row of bits at a node, from a word on
abbrev pub Row : ℕ → ℕ → List ℕ → Rule
Row n skip delta K q = (q.0 ≡ n) × ((y : ℕ) × IsIn delta y × (q.1 ≡ 64 * skip + y))

abbrev pub Whole : ℕ → List ℕ → Rule
Whole n delta K q = (q.0 ≡ n) × IsIn delta q.1

-- an exit with itself
abbrev pub Asks : Facts → ℕ → Rule
Asks p e K q = (q.0 ≡ e) × (q.1 ≡ number_of p e)

abbrev pub FromOne : {X : Type 0} → (X → Rule) → List X → Rule
FromOne {X} R xs K q = (x : X) × Contains xs x × R x K q

-- the formal in this place leads to the exit: by the row to hand, which is whole, or else as far as it was found
abbrev pub Reaches : Option (List ℕ) → ℕ → Type 0 → Type 0
Reaches None i K = K
Reaches (Some bits) i K = IsIn bits i

-- the row to hand of an exit's node
abbrev pub hand_at : Facts → Hands → NodeId → Option (List ℕ)
hand_at p h e = hand_of h (exits_before p e.0)

-- back over a whole call to an argument, from the exit e, to which its formal leads
abbrev pub Passes : Facts → NodeId → CallId → List ℕ → Argument → Rule
Passes p e k delta a K q = (a.call ≡ k) × K (a.formal.0, number_of p e.0) × Whole a.from.0 delta K q

-- the same by the row to hand of the exit
abbrev pub PassesByHand : Facts → List ℕ → CallId → List ℕ → Argument → Rule
PassesByHand p bits k delta a K q = (a.call ≡ k) × IsIn bits (row p a.formal.0) × Whole a.from.0 delta K q

-- the same from the formal n, with its new bits, to the argument a
abbrev pub Comes : Facts → NodeId → CallId → List ℕ → NodeId → Back → Rule
Comes p n k delta a b K q =
    (b.call ≡ k) × ((x : ℕ) × (b.exit.0 ≡ first_exit p (method_of p n.0) + x) × (x < exit_count p (method_of p n.0)) × IsIn delta x) × (q.0 ≡ a.0) × K (b.to.0, q.1)

abbrev pub FollowsBy : Facts → Mode → Hands → NodeId → List ℕ → NodeId → Label → Rule
FollowsBy p mode h n delta a Thin K q = Whole a.0 delta K q
FollowsBy p mode h n delta a Base K q = (mode ≡ Full) × Whole a.0 delta K q
FollowsBy p mode h n delta a (Call k) K q =
    (e : NodeId) × (d : NodeId) × IsEdge p.inputs (edge e (Return k) d) × (method_of p e.0 ≡ method_of p n.0)
    × IsIn delta (number_of p e.0) × (q.0 ≡ a.0) × K (d.0, q.1)
FollowsBy p mode h n delta a (Return k) K q =
    (s : NodeId) × (g : NodeId) × IsEdge p.inputs (edge s (Call k) g) × (method_of p g.0 ≡ method_of p a.0)
    × Reaches (hand_at p h a) (row p g.0) (K (g.0, number_of p a.0)) × Whole s.0 delta K q

abbrev pub Follows : Facts → Mode → Hands → NodeId → List ℕ → Edge → Rule
Follows p mode h n delta e K q = FollowsBy p mode h n delta e.from e.label K q
