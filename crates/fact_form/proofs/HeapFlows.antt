-- The flows of locations within methods.
use Rattle.std.proofs.Common.{◌≡◌, ℕ, List, Contains, Some, inl, inr, refl, sym, ap, subst, ◌∙◌, arith}
use Rattle.std.specs.Prelude.{slice_get}
use Rattle.std.proofs.lemmas.Option.{same_Some, slice_get_within}
use Rattle.slicer_ids.specs.declared.ids.MethodId.{MethodId}
use Rattle.slicer_ids.specs.declared.ids.NodeId.{NodeId}
use Rattle.slicer_ids.specs.declared.ids.LocId.{LocId}
use Rattle.class_form.specs.Opcodes.{IsCall}
use Rattle.class_form.specs.Reaching.{IsPoint}
use Rattle.class_form.specs.declared.body.Body.{Body}
use Rattle.dep_form.specs.declared.node.Node.{Node as NodeNumber}
use Rattle.dep_form.specs.declared.node.Node.TheVariants as kind
use Rattle.dep_form.specs.declared.input.MethodInput.{MethodInput}
use Rattle.dep_form.specs.declared.system.System.{System}
use Rattle.dep_form.specs.declared.effects.ModRef.{ModRef}
use Rattle.dep_form.specs.declared.facts.Facts.{Facts}
use Rattle.dep_form.specs.Inputs.{IsInputOf, IsNodeOf, IsHeapFlow}
use Rattle.dep_form.proofs.OneMethod.{one_node}
use Rattle.program_form.specs.Programs.{Program, IsRoot}
use Rattle.program_form.specs.Statements.{HasOpcode}
use Rattle.program_form.specs.Effects.{Location, IsTraced, IsReached, DefinesAtAll}
use Rattle.program_form.specs.Nodes.{Kind, HeapIn, HeapArg, HeapResult, HeapOut, Node, node, at, IsNode}
use Rattle.program_form.specs.Nodes as made
use Rattle.program_form.specs.Dependences.{DefinesAt, UsesAt, HeapFlow}
use Rattle.program_form.specs.Dependences as program
use Rattle.program_form.specs.Graphs.{Numbering, KindNumber, NumberOf}
use Rattle.program_form.specs.Graphs as numbered
use Rattle.constraint_form.proofs.Instructions.{one_body}
use Rattle.fact_form.specs.FactTables.{AreInputs, IsBodyIn, IsPointAt}
use Rattle.fact_form.proofs.Setting.{Setting, IsNumberingOf, number_of}
use Rattle.fact_form.proofs.Touching.{any, defines, result_defines, uses}
use Rattle.fact_form.proofs.CallNumbers.{calling}
use Rattle.fact_form.proofs.NodesAgree.{one_kind_number, one_kind, unreach, ref_in_range, mod_in_range}
use Rattle.fact_form.proofs.EffectsAgree.{defines_there, uses_there, defines_back, uses_back}
use Rattle.fact_form.proofs.Points.{StandsHere, to_point, of_point, number_of_point, leads_there, leads_back}

-- the method of what defines or uses a location
define_method : (p : Program) (m : MethodId) (pc : ℕ) (l : Location) (x : Node) → DefinesAt p m pc l x → x.method ≡ m
define_method p m pc l x (program.by_statement d) = refl
define_method p m pc l x (program.by_result d) = refl
define_method p m pc l x (program.by_callee is) = refl

use_method : (p : Program) (m : MethodId) (pc : ℕ) (l : Location) (x : Node) → UsesAt p m pc l x → x.method ≡ m
use_method p m pc l x (program.by_statement d) = refl
use_method p m pc l x (program.by_result d) = refl
use_method p m pc l x (program.by_callee is) = refl

module _ (p : Program) (s : System) (mr : ModRef) (entries : List MethodId) (g : Setting p s mr entries) (ns : Numbering) (numbers : IsNumberingOf p s mr entries ns) where
  -- the root has no body
  rootless : (m : MethodId) (y : Body) → IsBodyIn p m y → IsRoot p m → ⊥
  rootless m y is root =
      let code = g.asked.coded y is.0 in
      let lt = slice_get_within p.methods y.method.0 code.1.0 code.1.4.0 in
      omega (arith, lt, ap (λ (k : MethodId). k.0) is.1, root)

  -- where a statement stands, a point does
  use_point : (m : MethodId) (pc : ℕ) (y : Body) → (is : IsBodyIn p m y) → HasOpcode p (at m pc) (λ op. Unit {0}) → (q : ℕ) × StandsHere p g.asked m y is q pc
  use_point m pc y is (b, i, here, u) =
      let same = one_body p g.asked b y here.0 is.0 (here.1 ∙ sym is.1) in
      number_of_point p g.asked m y is pc here.4.0 (subst (λ (z : Body). IsPoint z.shape pc here.4.0) same here.4.1)

  -- a location that is defined, and used, is traced
  define_traced : (m : MethodId) (a b : ℕ) (l : Location) (x y : Node) → DefinesAt p m a l x → UsesAt p m b l y → IsTraced p l
  define_traced m a b l x y d u = by_define x d
    where
      by_arg : IsNode p (node m (HeapArg b l)) → IsTraced p l
      by_arg (made.heap_arg holds ref) = ref.0
      by_arg (made.root_heap_arg root entry ref) = ref.0

      by_use : (z : Node) → DefinesAtAll p (at m a) l → UsesAt p m b l z → IsTraced p l
      by_use z d (program.by_statement u) = ((at m a, d), (at m b, inl u))
      by_use z d (program.by_result u) = ((at m a, d), (at m b, inr u))
      by_use z d (program.by_callee n) = by_arg n

      by_result : IsNode p (node m (HeapResult a l)) → IsTraced p l
      by_result (made.heap_result holds changes) = changes.0
      by_result (made.root_heap_result root entry changes) = changes.0

      by_define : (z : Node) → DefinesAt p m a l z → IsTraced p l
      by_define z (program.by_statement d) = by_use y (inl d) u
      by_define z (program.by_result d) = by_use y (inr d) u
      by_define z (program.by_callee n) = by_result n

  module _ (f : Facts) (inputs : AreInputs p s mr entries f.inputs) where
    one_input : (m : MethodId) (i j : MethodInput) → IsInputOf f.inputs m i → IsInputOf f.inputs m j → i ≡ j
    one_input m i j a b = same_Some i j (same_Some (Some i) (Some j) (sym a ∙ b))

    pub node_in : (a : Node) (x : NodeId) (i : MethodInput) → (h : NumberOf ns f a x) → IsInputOf f.inputs a.method i → IsNodeOf i x h.0
    node_in a x i h is = subst (λ (z : MethodInput). IsNodeOf z x h.0) (one_input a.method h.1.0 i h.1.1 is) h.1.2

    body_of : (m : MethodId) (q pc : ℕ) → IsPointAt p m q pc → (y : Body) × IsBodyIn p m y
    body_of m q pc (y, t, is, stands, e) = (y, is)

    -- FROM THE PROGRAM

    put_there : (m : MethodId) (i : MethodInput) → IsInputOf f.inputs m i → (pc q : ℕ) (l : Location) (n : LocId) (a : Node) (x : NodeId) → NumberOf ns f a x → slice_get ns.locations n.0 ≡ Some l
        → DefinesAt p m pc l a → IsPointAt p m q pc → Contains i.puts (q, x, n)
    put_there m i is pc q l n a x h e d point =
        let same = define_method p m pc l a d in
        let here : IsInputOf f.inputs a.method i = subst (λ (z : MethodId). IsInputOf f.inputs z i) (sym same) is in
        ((inputs.each m i is).puts q x n).1 (pc, h.0, point, node_in a x i h here, defines_there p s mr entries g ns numbers m pc n l a e d h.0 h.2)

    get_there : (m : MethodId) (i : MethodInput) → IsInputOf f.inputs m i → (pc q : ℕ) (l : Location) (n : LocId) (a : Node) (x : NodeId) → NumberOf ns f a x → slice_get ns.locations n.0 ≡ Some l
        → UsesAt p m pc l a → IsPointAt p m q pc → Contains i.gets (q, x, n)
    get_there m i is pc q l n a x h e d point =
        let same = use_method p m pc l a d in
        let here : IsInputOf f.inputs a.method i = subst (λ (z : MethodId). IsInputOf f.inputs z i) (sym same) is in
        ((inputs.each m i is).gets q x n).1 (pc, h.0, point, node_in a x i h here, uses_there p s mr entries g ns numbers m pc n l a e d h.0 h.2)

    heap_in_number : (l : Location) (n : LocId) (k : NodeNumber) → slice_get ns.locations n.0 ≡ Some l → KindNumber ns (HeapIn l) k → k ≡ kind.HeapIn n
    heap_in_number l n k e h = one_kind_number p s mr entries g ns numbers (HeapIn l) k (kind.HeapIn n) h (numbered.heap_in e)

    heap_out_number : (l : Location) (n : LocId) (k : NodeNumber) → slice_get ns.locations n.0 ≡ Some l → KindNumber ns (HeapOut l) k → k ≡ kind.HeapOut n
    heap_out_number l n k e h = one_kind_number p s mr entries g ns numbers (HeapOut l) k (kind.HeapOut n) h (numbered.heap_out e)

    in_traced : (m : MethodId) (l : Location) → IsNode p (node m (HeapIn l)) → IsTraced p l
    in_traced m l (made.heap_in reached ref) = ref.0

    out_traced : (m : MethodId) (l : Location) → IsNode p (node m (HeapOut l)) → IsTraced p l
    out_traced m l (made.heap_out reached changes) = changes.0

    reached_in : (m : MethodId) (l : Location) → IsNode p (node m (HeapIn l)) → IsReached p m
    reached_in m l (made.heap_in reached ref) = reached

    -- the body of a reached method with a statement
    statement_body : (m : MethodId) (pc : ℕ) → HasOpcode p (at m pc) (λ op. Unit {0}) → (y : Body) × IsBodyIn p m y
    statement_body m pc (b, i, here, u) = (b, (here.0, here.1))

    -- a node that defines or uses something, of a method that isn't the root, is of a statement
    define_statement : (m : MethodId) (pc : ℕ) (l : Location) (a : Node) → (IsRoot p m → ⊥) → DefinesAt p m pc l a → HasOpcode p (at m pc) (λ op. Unit {0})
    define_statement m pc l a other (program.by_statement d) = (defines p (at m pc) l d).1
    define_statement m pc l a other (program.by_result d) = (result_defines p (at m pc) l d).1
    define_statement m pc l a other (program.by_callee n) = by_node n
      where
        by_node : IsNode p (node m (HeapResult pc l)) → HasOpcode p (at m pc) (λ op. Unit {0})
        by_node (made.heap_result {t} holds changes) = (any p (at m pc) IsCall (calling p s mr entries g (at m pc) t holds)).1
        by_node (made.root_heap_result root entry changes) = absurd (other root)

    use_statement_of : (m : MethodId) (pc : ℕ) (l : Location) (a : Node) → (IsRoot p m → ⊥) → UsesAt p m pc l a → HasOpcode p (at m pc) (λ op. Unit {0})
    use_statement_of m pc l a other (program.by_statement d) = (uses p (at m pc) l d).1
    use_statement_of m pc l a other (program.by_result (b, i, st, reads, e)) = (any p (at m pc) IsCall st).1
    use_statement_of m pc l a other (program.by_callee n) = by_node n
      where
        by_node : IsNode p (node m (HeapArg pc l)) → HasOpcode p (at m pc) (λ op. Unit {0})
        by_node (made.heap_arg {t} holds ref) = (any p (at m pc) IsCall (calling p s mr entries g (at m pc) t holds)).1
        by_node (made.root_heap_arg root entry ref) = absurd (other root)

    -- a method with locations on entry or exit isn't the root
    no_root_in : (m : MethodId) (l : Location) → IsNode p (node m (HeapIn l)) → IsRoot p m → ⊥
    no_root_in m l (made.heap_in reached ref) root = omega (arith, ref_in_range p s mr entries g ns numbers m l ref, root)

    no_root_out : (m : MethodId) (l : Location) → IsNode p (node m (HeapOut l)) → IsRoot p m → ⊥
    no_root_out m l (made.heap_out reached changes) root = omega (arith, mod_in_range p s mr entries g ns numbers m l changes, root)

    pub heap_there : (a b : Node) → HeapFlow p a b → IsNode p a → IsNode p b → (x z : NodeId) → NumberOf ns f a x → (h : NumberOf ns f b z) → IsHeapFlow h.1.0 x z
    heap_there a b (program.within {m} {a = pa} {b = pb} {l} d u (y, among, of, leads)) na nb x z ha h =
        let is : IsBodyIn p m y = (among, of) in
        let here : IsInputOf f.inputs m h.1.0 = subst (λ (k : MethodId). IsInputOf f.inputs k h.1.0) (use_method p m pb l b u) h.1.1 in
        let n = number_of p s mr entries g ns numbers l (define_traced m pa pb l a b d u) in
        let last = use_point m pb y is (use_statement_of m pb l b (rootless m y is) u) in
        let w = leads_there p g.asked m y is h.1.0 (inputs.each m h.1.0 here).flow pa pb leads last in
        let put = put_there m h.1.0 here pa w.0 l n.0 a x ha n.1 d (to_point p g.asked m y is w.0 pa w.2) in
        let get = get_there m h.1.0 here pb w.1 l n.0 b z h n.1 u (to_point p g.asked m y is w.1 pb w.3) in
        (n.0, inl (w.0, w.1, put, get, w.4))
    heap_there a b (program.on_entry {m} {b = pb} {l} u) na nb x z ha h =
        let here : IsInputOf f.inputs m h.1.0 = subst (λ (k : MethodId). IsInputOf f.inputs k h.1.0) (use_method p m pb l b u) h.1.1 in
        let n = number_of p s mr entries g ns numbers l (in_traced m l na) in
        let statement = use_statement_of m pb l b (no_root_in m l na) u in
        let y = statement_body m pb statement in
        let q = use_point m pb y.0 y.1 statement in
        let start = subst (λ k. IsNodeOf h.1.0 x k) (heap_in_number l n.0 ha.0 n.1 ha.2) (node_in (node m (HeapIn l)) x h.1.0 ha here) in
        (n.0, inr (inl (q.0, start, get_there m h.1.0 here pb q.0 l n.0 b z h n.1 u (to_point p g.asked m y.0 y.1 q.0 pb q.1))))
    heap_there a b (program.on_exit {m} {a = pa} {l} d) na nb x z ha h =
        let n = number_of p s mr entries g ns numbers l (out_traced m l nb) in
        let statement = define_statement m pa l a (no_root_out m l nb) d in
        let y = statement_body m pa statement in
        let q = use_point m pa y.0 y.1 statement in
        let end = subst (λ k. IsNodeOf h.1.0 z k) (heap_out_number l n.0 h.0 n.1 h.2) h.1.2 in
        (n.0, inr (inr (q.0, put_there m h.1.0 h.1.1 pa q.0 l n.0 a x ha n.1 d (to_point p g.asked m y.0 y.1 q.0 pa q.1), end)))

    -- FROM THE NUMBERS

    same_node : (a : Node) (m : MethodId) (k : Kind) → a.method ≡ m → a.kind ≡ k → node m k ≡ a
    same_node a m k e d = ap (λ z. node z k) (sym e) ∙ ap (λ z. node a.method z) (sym d)

    -- a node of this number is of this method and kind
    pub is_node_of : (m : MethodId) (i : MethodInput) → IsInputOf f.inputs m i → (a : Node) (x : NodeId) → NumberOf ns f a x → (k : NodeNumber) → IsNodeOf i x k → (c : Kind) → KindNumber ns c k → node m c ≡ a
    is_node_of m i is a x h k of c number =
        let one = one_node f x a.method m h.0 k h.1 (i, is, of) in
        same_node a m c one.0 (one_kind p s mr entries g ns numbers a.kind c k (subst (λ z. KindNumber ns a.kind z) one.1 h.2) number)

    runs : (m : MethodId) (i : MethodInput) → IsInputOf f.inputs m i → (q pc : ℕ) → IsPointAt p m q pc → IsReached p m
    runs m i is q pc point = elim ((inputs.whole m).0 (i, is)) [
      | inl reached ↦ unreach p s mr entries g ns numbers m reached
      | inr root ↦ let y = body_of m q pc point in absurd (rootless m y.0 y.1 (root ∙ g.tables.methods))
    ]

    put_back : (m : MethodId) (i : MethodInput) → IsInputOf f.inputs m i → (q : ℕ) (n : LocId) (a : Node) (x : NodeId) → NumberOf ns f a x → Contains i.puts (q, x, n)
        → (pc : ℕ) × (l : Location) × (slice_get ns.locations n.0 ≡ Some l) × IsPointAt p m q pc × DefinesAt p m pc l a
    put_back m i is q n a x h c =
        let (pc, k, point, of, defined) = ((inputs.each m i is).puts q x n).0 c in
        let (l, kd, e, number, d) = defines_back p s mr entries g ns numbers m pc n k (runs m i is q pc point) defined in
        (pc, l, e, point, subst (λ z. DefinesAt p m pc l z) (is_node_of m i is a x h k of kd number) d)

    get_back : (m : MethodId) (i : MethodInput) → IsInputOf f.inputs m i → (q : ℕ) (n : LocId) (a : Node) (x : NodeId) → NumberOf ns f a x → Contains i.gets (q, x, n)
        → (pc : ℕ) × (l : Location) × (slice_get ns.locations n.0 ≡ Some l) × IsPointAt p m q pc × UsesAt p m pc l a
    get_back m i is q n a x h c =
        let (pc, k, point, of, used) = ((inputs.each m i is).gets q x n).0 c in
        let (l, kd, e, number, d) = uses_back p s mr entries g ns numbers m pc n k (runs m i is q pc point) used in
        (pc, l, e, point, subst (λ z. UsesAt p m pc l z) (is_node_of m i is a x h k of kd number) d)

    pub heap_back : (m : MethodId) (i : MethodInput) → IsInputOf f.inputs m i → (a b : Node) (x z : NodeId) → NumberOf ns f a x → NumberOf ns f b z → IsHeapFlow i x z → HeapFlow p a b
    heap_back m i is a b x z ha h (n, inl (q, r, put, get, leads)) =
        let (pa, l, e, from, d) = put_back m i is q n a x ha put in
        let (pb, l', e', to, u) = get_back m i is r n b z h get in
        let y = body_of m q pa from in
        let flows = leads_back p g.asked m y.0 y.1 i (inputs.each m i is).flow q r pa pb leads (of_point p g.asked m y.0 y.1 q pa from) (of_point p g.asked m y.0 y.1 r pb to) in
        program.within d (subst (λ z. UsesAt p m pb z b) (same_Some l' l (sym e' ∙ e)) u) (y.0, y.1.0, y.1.1, flows)
    heap_back m i is a b x z ha h (n, inr (inl (q, of, get))) =
        let (pb, l, e, to, u) = get_back m i is q n b z h get in
        subst (λ k. HeapFlow p k b) (is_node_of m i is a x ha (kind.HeapIn n) of (HeapIn l) (numbered.heap_in e)) (program.on_entry u)
    heap_back m i is a b x z ha h (n, inr (inr (q, put, of))) =
        let (pa, l, e, from, d) = put_back m i is q n a x ha put in
        subst (λ k. HeapFlow p a k) (is_node_of m i is b z h (kind.HeapOut n) of (HeapOut l) (numbered.heap_out e)) (program.on_exit d)
