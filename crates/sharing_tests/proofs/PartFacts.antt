-- Small programs have facts.
use Rattle.std.proofs.Common.{◌≡◌, ◌≢◌, ◌⊎◌, ◌<◌, ◌≤◌, ◌+◌, ◌-◌, ℕ, zero, suc, Bool, true, false, cond, List, [], ◌∷◌, ◌++◌, length, take, All, Contains, Option, Some, None, refl, sym, ap, ◌∙◌, subst, inl, inr, arith, eqb, ltb, leb, eq-eqb}
use Rattle.std.specs.Prelude.{slice_get, map, option_map, ◌&&◌, AllPairs, nat_eq, nat_lt}
use Rattle.std.proofs.lemmas.Bool.{false≢true, true≢false, eqb-true, ltb-true, lt-ltb, leb-true}
use Rattle.std.proofs.lemmas.Option.{same_Some, slice_get_within}
use Rattle.std.proofs.lemmas.List.Kept.{AllPairs-cons}
use Rattle.std.proofs.lemmas.List.Elements.{Contains-get_or}
use Rattle.slicer_ids.specs.declared.ids.NodeId.{NodeId}
use Rattle.slicer_ids.specs.declared.ids.MethodId.{MethodId}
use Rattle.slicer_ids.specs.declared.ids.CallId.{CallId}
use Rattle.dep_form.specs.declared.node.Node.{Node}
use Rattle.dep_form.specs.declared.node.Edge.{Edge}
use Rattle.dep_form.specs.declared.node.Label.{Label}
use Rattle.dep_form.specs.declared.node.Label.TheVariants.{Thin, Base, Call, Return}
use Rattle.dep_form.specs.declared.texts.MethodText.{MethodText}
use Rattle.dep_form.specs.declared.input.MethodInput.{MethodInput}
use Rattle.dep_form.specs.Nodes.{is_formal, is_exit}
use Rattle.dep_form.specs.Keys.{key_of_text}
use Rattle.dep_form.specs.Orders.{RiseBy, method_cmp}
use Rattle.dep_form.specs.Inputs.{IsNode, IsEdge, IsExitNode}
use Rattle.dep_form.specs.WithinFacts.{AreFacts, IsFit, InOneMethod, IsCallerEnd, NodeBefore}
use Rattle.slicer_ids.specs.Sets.{IsOrderedListOf}
use Rattle.sharing_tests.specs.OneMethod.{HasParts}
use Rattle.sharing_tests.specs.Parts.{Part, HaveParts, nodes_from, edges_of, all_of, joins, is_fit, caller_at, caller, agree, are_fit, exits_from, is_program, IsSmallProgram}
use Rattle.sharing_tests.proofs.PartNodes.{edge_in, follows, same_length, same_count, some_input, at_number, of_number}

pub and_both : (a b : Bool) → (a && b) ≡ true → (a ≡ true) × (b ≡ true)
and_both true b e = (refl, e)
and_both false b e = absurd (false≢true e)

head_or : {X : Type 0} (x y : X) (xs : List X) → Contains (x ∷ xs) y → (x ≡ y) ⊎ Contains xs y
head_or x y xs (zero, lt, e) = inl e
head_or x y xs (suc k, lt, e) = inr (k, omega (arith, lt), e)

at_head : {X : Type 0} (x : X) (xs : List X) → Contains (x ∷ xs) x
at_head x xs = (0, omega arith, refl)

behind : {X : Type 0} (x y : X) (xs : List X) → Contains xs y → Contains (x ∷ xs) y
behind x y xs c = (suc c.0, omega (arith, c.1), c.2)

pub all_at : {X : Type 0} (f : X → Bool) (xs : List X) → all_of f xs ≡ true → (x : X) → Contains xs x → f x ≡ true
all_at f [] e x c = absurd (omega (arith, c.1))
all_at f (y ∷ ys) e x c = let b = and_both (f y) (all_of f ys) e in elim (head_or y x ys c) [ inl same ↦ ap f (sym same) ∙ b.0 | inr d ↦ all_at f ys b.1 x d ]

-- the exits of a table of nodes, of which the first has this number
module _ (root : ℕ) where
  abbrev IsExitHere : ℕ → List (ℕ × Node) → NodeId → Type 0
  IsExitHere n xs x = (y : ℕ × Node) × (n ≤ x.0) × (slice_get xs (x.0 - n) ≡ Some y) × (is_exit y.1 ≡ true) × (y.0 < root)

  exit_behind : (n : ℕ) (z : ℕ × Node) (zs : List (ℕ × Node)) (x : NodeId) → IsExitHere (suc n) zs x → IsExitHere n (z ∷ zs) x
  exit_behind n z zs x (y, low, at, is, lt) = let place : suc (x.0 - suc n) ≡ x.0 - n = omega (arith, low) in (y, omega (arith, low), subst (λ (k : ℕ). slice_get (z ∷ zs) k ≡ Some y) place at, is, lt)

  exits_each : (n : ℕ) (xs : List (ℕ × Node)) (x : NodeId) → Contains (exits_from root n xs) x → IsExitHere n xs x
  exits_each n [] x c = absurd (omega (arith, c.1))
  exits_each n (z ∷ zs) x c = go (λ d. exit_behind n z zs x (exits_each (suc n) zs x d)) (is_exit z.1 && nat_lt z.0 root) refl c
    where
      go : (Contains (exits_from root (suc n) zs) x → IsExitHere n (z ∷ zs) x) → (b : Bool) → (is_exit z.1 && nat_lt z.0 root) ≡ b → Contains (cond b (record { 0 = n } ∷ exits_from root (suc n) zs) (exits_from root (suc n) zs)) x → IsExitHere n (z ∷ zs) x
      go rest false e d = rest d
      go rest true e d = elim (head_or (record { 0 = n }) x (exits_from root (suc n) zs) d) [
        | inl same ↦
            let is : n ≡ x.0 = ap (λ (k : NodeId). k.0) same in
            let place : 0 ≡ x.0 - n = omega (arith, is) in
            let b = and_both (is_exit z.1) (nat_lt z.0 root) e in
            (z, omega (arith, is), subst (λ (k : ℕ). slice_get (z ∷ zs) k ≡ Some z) place refl, b.0, ltb-true z.0 root b.1)
        | inr f ↦ rest f
      ]

  exits_order : (n : ℕ) (xs : List (ℕ × Node)) → AllPairs NodeBefore (exits_from root n xs)
  exits_order n [] = λ i j d lt l. absurd (omega (arith, l))
  exits_order n (z ∷ zs) = go (exits_order (suc n) zs) (is_exit z.1 && nat_lt z.0 root)
    where
      go : AllPairs NodeBefore (exits_from root (suc n) zs) → (b : Bool) → AllPairs NodeBefore (cond b (record { 0 = n } ∷ exits_from root (suc n) zs) (exits_from root (suc n) zs))
      go rest false = rest
      go rest true = AllPairs-cons NodeBefore (record { 0 = n }) (exits_from root (suc n) zs) (λ k d lt. let h = exits_each (suc n) zs _ (Contains-get_or (exits_from root (suc n) zs) k d lt) in omega (arith, h.1)) rest

  exits_few : (n : ℕ) (xs : List (ℕ × Node)) → length (exits_from root n xs) ≤ length xs
  exits_few n [] = omega arith
  exits_few n (z ∷ zs) = go (exits_few (suc n) zs) (is_exit z.1 && nat_lt z.0 root)
    where
      go : length (exits_from root (suc n) zs) ≤ length zs → (b : Bool) → length (cond b (record { 0 = n } ∷ exits_from root (suc n) zs) (exits_from root (suc n) zs)) ≤ suc (length zs)
      go le false = omega (arith, le)
      go le true = omega (arith, le)

  exits_whole : (n : ℕ) (xs : List (ℕ × Node)) (k : ℕ) (y : ℕ × Node) → slice_get xs k ≡ Some y → is_exit y.1 ≡ true → y.0 < root → Contains (exits_from root n xs) (record { 0 = n + k })
  exits_whole n [] k y at is lt = absurd (omega (arith, slice_get_within [] k y at))
  exits_whole n (z ∷ zs) zero y at is lt = go (is_exit z.1 && nat_lt z.0 root) (first (is_exit z.1) (nat_lt z.0 root) (ap (λ (a : ℕ × Node). is_exit a.1) same ∙ is) (lt-ltb z.0 root (omega (arith, lt, ap (λ (a : ℕ × Node). a.0) same))))
    where
      same : z ≡ y
      same = same_Some z y at

      first : (a b : Bool) → a ≡ true → b ≡ true → (a && b) ≡ true
      first true b e f = f
      first false b e f = absurd (false≢true e)

      go : (b : Bool) → b ≡ true → Contains (cond b (record { 0 = n } ∷ exits_from root (suc n) zs) (exits_from root (suc n) zs)) (record { 0 = n + 0 })
      go true e = let place : n ≡ n + 0 = omega arith in subst (λ (j : ℕ). Contains (record { 0 = n } ∷ exits_from root (suc n) zs) (record { 0 = j })) place (at_head (record { 0 = n }) (exits_from root (suc n) zs))
      go false e = absurd (false≢true e)
  exits_whole n (z ∷ zs) (suc k) y at is lt = let place : suc n + k ≡ n + suc k = omega arith in go (is_exit z.1 && nat_lt z.0 root) (subst (λ (j : ℕ). Contains (exits_from root (suc n) zs) (record { 0 = j })) place (exits_whole (suc n) zs k y at is lt))
    where
      go : (b : Bool) → Contains (exits_from root (suc n) zs) (record { 0 = n + suc k }) → Contains (cond b (record { 0 = n } ∷ exits_from root (suc n) zs) (exits_from root (suc n) zs)) (record { 0 = n + suc k })
      go true c = behind (record { 0 = n }) (record { 0 = n + suc k }) (exits_from root (suc n) zs) c
      go false c = c

module _ (root : ℕ) (ps : List Part) (os : List (Option MethodInput)) (h : HaveParts 0 0 ps os) (checked : is_program root ps ≡ true) where
  abbrev table : List (ℕ × Node)
  table = nodes_from 0 ps

  first_check : (nat_eq (length ps) (suc root) ≡ true) × ((nat_lt root 1000 && (leb (length table) 1000 && are_fit root table (edges_of ps))) ≡ true)
  first_check = and_both (nat_eq (length ps) (suc root)) (nat_lt root 1000 && (leb (length table) 1000 && are_fit root table (edges_of ps))) checked

  root_check : (nat_lt root 1000 ≡ true) × ((leb (length table) 1000 && are_fit root table (edges_of ps)) ≡ true)
  root_check = and_both (nat_lt root 1000) (leb (length table) 1000 && are_fit root table (edges_of ps)) first_check.1

  second_check : (leb (length table) 1000 ≡ true) × (are_fit root table (edges_of ps) ≡ true)
  second_check = and_both (leb (length table) 1000) (are_fit root table (edges_of ps)) root_check.1

  third_check : (all_of (is_fit root table) (edges_of ps) ≡ true) × (all_of (λ (e : Edge). all_of (λ (g : Edge). agree (caller table e) (caller table g)) (edges_of ps)) (edges_of ps) ≡ true)
  third_check = and_both (all_of (is_fit root table) (edges_of ps)) (all_of (λ (e : Edge). all_of (λ (g : Edge). agree (caller table e) (caller table g)) (edges_of ps)) (edges_of ps)) second_check.1

  long : length os ≡ suc root
  long = same_length 0 0 ps os h ∙ eqb-true (length ps) (suc root) first_check.0

  among : (e : Edge) → IsEdge os e → Contains (edges_of ps) e
  among e (m, i, at, is) = edge_in 0 0 ps os h m.0 i at e is

  fits : (e : Edge) → IsEdge os e → is_fit root table e ≡ true
  fits e is = all_at (is_fit root table) (edges_of ps) third_check.0 e (among e is)

  fit_by : (e : Edge) (o q : Option (ℕ × Node)) (l : Label) → slice_get table e.from.0 ≡ o → slice_get table e.to.0 ≡ q → joins root o q l ≡ true → IsFit os [] e l
  fit_by e None q l a b t = absurd (false≢true t)
  fit_by e (Some x) None l a b t = absurd (false≢true t)
  fit_by e (Some x) (Some y) Thin a b t =
      let same : y.0 ≡ x.0 = sym (eqb-true x.0 y.0 t) in
      (record { 0 = x.0 }, x.1, y.1, of_number ps os h e.from x a, subst (λ (m : ℕ). IsNode os e.to (record { 0 = m }) y.1) same (of_number ps os h e.to y b))
  fit_by e (Some x) (Some y) Base a b t = absurd (false≢true t)
  fit_by e (Some x) (Some y) (Call c) a b t = (record { 0 = y.0 }, y.1, of_number ps os h e.to y b, t)
  fit_by e (Some x) (Some y) (Return c) a b t =
      let r = and_both (is_exit x.1) (nat_lt x.0 root) t in
      (record { 0 = x.0 }, (x.1, of_number ps os h e.from x a, r.0, omega (arith, ltb-true x.0 root r.1, long)))

  -- both ends of an edge are in the table
  ends : (e : Edge) (o q : Option (ℕ × Node)) → joins root o q e.label ≡ true → ((x : ℕ × Node) × (o ≡ Some x)) × ((y : ℕ × Node) × (q ≡ Some y))
  ends e None q t = absurd (false≢true t)
  ends e (Some x) None t = absurd (false≢true t)
  ends e (Some x) (Some y) t = ((x, refl), (y, refl))

  -- the caller's end of an edge of a call
  caller_is : (e : Edge) (c : CallId) (a : NodeId) → is_fit root table e ≡ true → IsCallerEnd e c a → (x : ℕ × Node) × (slice_get table a.0 ≡ Some x) × (caller table e ≡ Some (c.0, x.0))
  caller_is e c a t (inl (l, is)) =
      let f = (ends e (slice_get table e.from.0) (slice_get table e.to.0) t).0 in
      (f.0, subst (λ (n : NodeId). slice_get table n.0 ≡ Some f.0) (sym is) f.1, ap (caller_at table e) l ∙ ap (option_map (λ (x : ℕ × Node). (c.0, x.0))) f.1)
  caller_is e c a t (inr (l, is)) =
      let f = (ends e (slice_get table e.from.0) (slice_get table e.to.0) t).1 in
      (f.0, subst (λ (n : NodeId). slice_get table n.0 ≡ Some f.0) (sym is) f.1, ap (caller_at table e) l ∙ ap (option_map (λ (x : ℕ × Node). (c.0, x.0))) f.1)

  agreed : (c m n : ℕ) → agree (Some (c, m)) (Some (c, n)) ≡ true → n ≡ m
  agreed c m n t = sym (eqb-true m n (sym (ap (λ (b : Bool). cond b (eqb m n) true) (eq-eqb c c refl)) ∙ t))

  one_caller : (c : CallId) (e g : Edge) (a b : NodeId) → IsEdge os e → IsEdge os g → IsCallerEnd e c a → IsCallerEnd g c b → InOneMethod os a b
  one_caller c e g a b is_e is_g end_e end_g =
      let x = caller_is e c a (fits e is_e) end_e in
      let y = caller_is g c b (fits g is_g) end_g in
      let t : agree (caller table e) (caller table g) ≡ true = all_at (λ (k : Edge). agree (caller table e) (caller table k)) (edges_of ps) (all_at (λ (k : Edge). all_of (λ (j : Edge). agree (caller table k) (caller table j)) (edges_of ps)) (edges_of ps) third_check.1 e (among e is_e)) g (among g is_g) in
      let same : y.0.0 ≡ x.0.0 = agreed c.0 x.0.0 y.0.0 (sym (ap (λ (o : Option (ℕ × ℕ)). agree o (caller table g)) x.2 ∙ ap (agree (Some (c.0, x.0.0))) y.2) ∙ t) in
      (record { 0 = x.0.0 }, x.0.1, y.0.1, of_number ps os h a x.0 x.1, subst (λ (m : ℕ). IsNode os b (record { 0 = m }) y.0.1) same (of_number ps os h b y.0 y.1))

  exits : IsOrderedListOf NodeBefore (exits_from root 0 table) (λ (x : NodeId). (m : MethodId) × IsExitNode os x m)
  exits = record {
    each = λ k d lt. is_one _ (Contains-get_or (exits_from root 0 table) k d lt);
    order = exits_order root 0 table;
    whole = λ x e.
        let place : 0 + x.0 ≡ x.0 = omega arith in
        subst (λ (j : ℕ). Contains (exits_from root 0 table) (record { 0 = j })) place (exits_whole root 0 table x.0 (e.0.0, e.1.0) (at_number ps os h x e.0 e.1.0 e.1.1) e.1.2 (omega (arith, e.1.3, long)));
  }
    where
      is_one : (x : NodeId) → Contains (exits_from root 0 table) x → (m : MethodId) × IsExitNode os x m
      is_one x c =
          let r = exits_each root 0 table x c in
          let place : x.0 - 0 ≡ x.0 = omega arith in
          (record { 0 = r.0.0 }, (r.0.1, of_number ps os h x r.0 (subst (λ (j : ℕ). slice_get table j ≡ Some r.0) place r.2), r.3, omega (arith, r.4, long)))

  pub are_facts : (class : List ℕ) (texts : List MethodText) → length texts ≡ root → RiseBy method_cmp key_of_text texts → All (λ (t : MethodText). t.class.0 ≡ 0) texts → AreFacts os (exits_from root 0 table) (class ∷ []) texts [] [] [] []
  are_facts class texts count rise classes = record {
    root = long ∙ ap (λ (k : ℕ). suc k) (sym count);
    with_root = let last = some_input 0 0 ps os h (length texts) (omega (arith, count, long, same_length 0 0 ps os h)) in last;
    follow_on = λ m i at. let r = follows 0 0 ps os h m i at in (omega (arith, r.0), omega (arith, r.1));
    few = omega (arith, same_count 0 0 ps os h, leb-true (length table) 1000 second_check.0);
    few_methods = omega (arith, long, ltb-true root 1000 root_check.0);
    few_exits = omega (arith, exits_few root 0 table, leb-true (length table) 1000 second_check.0);
    few_classes = omega arith;
    all_exits = exits;
    fit = λ e is. fit_by e (slice_get table e.from.0) (slice_get table e.to.0) e.label refl refl (fits e is);
    one_caller = one_caller;
    classes_rise = λ k l d lt within. absurd (omega arith);
    methods_rise = rise;
    lines_rise = λ k l d lt within. absurd (omega arith);
    accesses_rise = λ k l d lt within. absurd (omega arith);
    values_rise = λ k l d lt within. absurd (omega arith);
    method_classes = λ k d lt. omega (arith, classes k d lt);
    site_places = λ k d lt. absurd (omega arith);
    line_classes = λ k d lt. absurd (omega arith);
    line_statements = λ k d lt. absurd (omega arith);
    access_places = λ k d lt. absurd (omega arith);
    access_nodes = λ k d lt. absurd (omega arith);
    access_sites = λ k d lt. absurd (omega arith);
    value_places = λ k d lt. absurd (omega arith);
    value_sites = λ k d lt. absurd (omega arith);
  }

pub small_facts : (inputs : List (Option MethodInput)) (exits : List NodeId) (class : List ℕ) (texts : List MethodText) → IsSmallProgram (length texts) inputs exits → RiseBy method_cmp key_of_text texts → All (λ (t : MethodText). t.class.0 ≡ 0) texts → AreFacts inputs exits (class ∷ []) texts [] [] [] []
small_facts inputs list class texts s rise classes = subst (λ (xs : List NodeId). AreFacts inputs xs (class ∷ []) texts [] [] [] []) (sym s.exits_are) (are_facts (length texts) s.parts inputs s.are s.checked class texts refl rise classes)

pub small_program : (root : ℕ) (ps : List Part) (inputs inputs' : List (Option MethodInput)) (exits exits' : List NodeId) → inputs ≡ inputs' → exits ≡ exits' → HaveParts 0 0 ps inputs' → is_program root ps ≡ true → exits' ≡ exits_from root 0 (nodes_from 0 ps) → IsSmallProgram root inputs exits
small_program root ps inputs inputs' list list' a b h checked is = record { parts = ps; are = subst (HaveParts 0 0 ps) (sym a) h; checked = checked; exits_are = b ∙ is }

-- one method and the root
pub two_parts : (a b : List Node) (d e : List Edge) (i r : MethodInput) (n root : ℕ) (inputs : List (Option MethodInput)) (list list' : List NodeId) → HasParts 0 0 a d i → HasParts 1 n b e r → inputs ≡ Some i ∷ Some r ∷ [] → list ≡ list' → n ≡ length a → root ≡ 1
    → is_program 1 ((a, d) ∷ (b, e) ∷ []) ≡ true → list' ≡ exits_from 1 0 (nodes_from 0 ((a, d) ∷ (b, e) ∷ [])) → IsSmallProgram root inputs list
two_parts a b d e i r n root inputs list list' first second is_inputs is_list start one checked exits_is =
    let start' : n ≡ 0 + length a = omega (arith, start) in
    subst (λ (k : ℕ). IsSmallProgram k inputs list) (sym one)
    (small_program 1 ((a, d) ∷ (b, e) ∷ []) inputs (Some i ∷ Some r ∷ []) list list' is_inputs is_list (first, (subst (λ (k : ℕ). HasParts 1 k b e r) start' second, tt)) checked exits_is)

-- two methods and the root
pub three_parts : (a b x : List Node) (d e y : List Edge) (i j r : MethodInput) (n m root : ℕ) (inputs : List (Option MethodInput)) (list list' : List NodeId) → HasParts 0 0 a d i → HasParts 1 n b e j → HasParts 2 m x y r → inputs ≡ Some i ∷ Some j ∷ Some r ∷ [] → list ≡ list' → n ≡ length a → m ≡ n + length b → root ≡ 2
    → is_program 2 ((a, d) ∷ (b, e) ∷ (x, y) ∷ []) ≡ true → list' ≡ exits_from 2 0 (nodes_from 0 ((a, d) ∷ (b, e) ∷ (x, y) ∷ [])) → IsSmallProgram root inputs list
three_parts a b x d e y i j r n m root inputs list list' first second third is_inputs is_list start next two checked exits_is =
    let start' : n ≡ 0 + length a = omega (arith, start) in
    let next' : m ≡ 0 + length a + length b = omega (arith, start, next) in
    subst (λ (k : ℕ). IsSmallProgram k inputs list) (sym two)
    (small_program 2 ((a, d) ∷ (b, e) ∷ (x, y) ∷ []) inputs (Some i ∷ Some j ∷ Some r ∷ []) list list' is_inputs is_list (first, (subst (λ (k : ℕ). HasParts 1 k b e j) start' second, (subst (λ (k : ℕ). HasParts 2 k x y r) next' third, tt))) checked exits_is)
