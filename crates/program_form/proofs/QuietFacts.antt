-- The facts of the least program without arguments.
use Rattle.std.proofs.Common.{◌≡◌, ◌<◌, ◌≤◌, ◌+◌, ◌-◌, ◌^◌, ◌⊎◌, ℕ, zero, suc, true, List, [], ◌∷◌, take, get_or, Option, Some, None, Contains, refl, sym, subst, inl, inr, arith}
use Rattle.std.specs.Prelude.{slice_get, codes, All, AllPairs}
use Rattle.std.specs.List.Sorted.{IsPartitionedBy}
use Rattle.std.specs.declared.cmp.Ordering.{Ordering}
use Rattle.std.specs.Ordering.{nat_cmp}
use Rattle.std.specs.Cmp.Lexicographic.{slice_cmp}
use Rattle.std.proofs.lemmas.Option.{same_Some}
use Rattle.std.proofs.lemmas.List.Elements.{All-cons}
use Rattle.slicer_ids.specs.declared.ids.MethodId.{MethodId}
use Rattle.slicer_ids.specs.declared.ids.ClassId.{ClassId}
use Rattle.slicer_ids.specs.declared.ids.SiteId.{SiteId}
use Rattle.slicer_ids.specs.declared.ids.NodeId.{NodeId}
use Rattle.slicer_ids.specs.declared.ids.Statement.{Statement}
use Rattle.dep_form.specs.declared.node.Node.{Node}
use Rattle.dep_form.specs.declared.node.Node.TheVariants.{Own}
use Rattle.dep_form.specs.declared.node.Edge.{Edge}
use Rattle.dep_form.specs.declared.input.MethodInput.{MethodInput}
use Rattle.dep_form.specs.declared.access.Access.{Access}
use Rattle.dep_form.specs.declared.texts.MethodText.{MethodText}
use Rattle.dep_form.specs.declared.texts.SiteName.{SiteName}
use Rattle.dep_form.specs.declared.facts.Facts.{Facts}
use Rattle.dep_form.specs.Nodes.{is_formal, is_exit}
use Rattle.dep_form.specs.Firsts.{node_count}
use Rattle.dep_form.specs.Orders.{RiseBy, line_cmp, method_cmp, statement_cmp, node_cmp}
use Rattle.dep_form.specs.Keys.{key_of_text, key_of_line, key_of_access, key_of_value}
use Rattle.dep_form.specs.Inputs.{IsNodeOf, IsNode, IsEdge, IsEdgeOf, IsExitNode}
use Rattle.dep_form.proofs.Searching.{all_at}
use Rattle.dep_form.specs.WithinFacts.{AreFacts, FollowOn, IsOfMethod, IsOfSites, IfOfMethod, NodeBefore}

pub all_none : {A : Type 0} (P : A → Type 0) → All P []
all_none P = λ k d lt. absurd (omega (arith, lt))

pub pairs_none : {A : Type 0} (R : A → A → Type 0) → AllPairs R []
pairs_none R = λ i j d lt within. absurd (omega (arith, lt, within))

pub pairs_one : {A : Type 0} (R : A → A → Type 0) (x : A) → AllPairs R (x ∷ [])
pairs_one R x = λ i j d lt within. absurd (omega (arith, lt, within))

pub rise_one : {X K : Type 0} (cmp : K → K → Ordering) (key : X → K) (x : X) → RiseBy cmp key (x ∷ [])
rise_one cmp key x = λ i j d lt within. absurd (omega (arith, lt, within))

pub rise_none : {X K : Type 0} (cmp : K → K → Ordering) (key : X → K) → RiseBy cmp key []
rise_none cmp key = λ i j d lt within. absurd (omega (arith, lt, within))

pub no_item : {A : Type 0} {P : Type 0} (x : A) → Contains [] x → P
no_item x c = absurd (omega (arith, c.1))

pub first_own : IsPartitionedBy is_formal (Own 0 ∷ [])
first_own = λ i j d le lt e. let z : i ≡ j = omega arith in subst (λ k. is_formal (get_or (Own 0 ∷ []) k d) ≡ true) (sym z) e

pub first_none : IsPartitionedBy is_formal []
first_none = λ i j d le lt e. absurd (omega (arith, lt))

pub two_ok : 2 ≤ 2 ^ 32
two_ok = omega arith

pub one_ok : 0 + 1 ≤ 2 ^ 32
one_ok = omega arith

pub one_few : 1 < 2 ^ 32
one_few = omega arith

pub none_few : 0 < 2 ^ 32
none_few = omega arith

pub root_ok : 1 + 0 ≤ 2 ^ 32
root_ok = omega arith

abbrev pub main_input : MethodInput
main_input = record {
  method = record { 0 = 0 };
  first = record { 0 = 0 };
  nodes = Own 0 ∷ [];
  points = 1;
  flow = [];
  direct = [];
  puts = [];
  gets = [];
  small = one_ok;
  few = one_few;
  formals_first = first_own;
  ends = λ e c. no_item e c;
  puts_among = λ e c. no_item e c;
  gets_among = λ e c. no_item e c;
  flow_within = λ e c. no_item e c;
  puts_within = λ e c. no_item e c;
  gets_within = λ e c. no_item e c;
}

abbrev pub root_input : MethodInput
root_input = record {
  method = record { 0 = 1 };
  first = record { 0 = 1 };
  nodes = [];
  points = 0;
  flow = [];
  direct = [];
  puts = [];
  gets = [];
  small = root_ok;
  few = none_few;
  formals_first = first_none;
  ends = λ e c. no_item e c;
  puts_among = λ e c. no_item e c;
  gets_among = λ e c. no_item e c;
  flow_within = λ e c. no_item e c;
  puts_within = λ e c. no_item e c;
  gets_within = λ e c. no_item e c;
}

abbrev pub inputs : List (Option MethodInput)
inputs = Some main_input ∷ Some root_input ∷ []

abbrev pub class_names : List (List ℕ)
class_names = codes "java/lang/Object" ∷ []

abbrev pub main_text : MethodText
main_text = record { class = record { 0 = 0 }; name = codes "main"; descriptor = codes "()V"; lines = (0, None) ∷ []; lines_rise = rise_one nat_cmp (λ (x : ℕ × Option ℕ). x.0) (0, None) }

abbrev pub site_names : List SiteName
site_names = record { class = codes "[Ljava/lang/String;"; place = None; k = 0 } ∷ record { class = codes "java/lang/String"; place = None; k = 1 } ∷ []

-- what is at a place of the inputs
pub input_at : (m : ℕ) (o : Option MethodInput) → slice_get inputs m ≡ Some o → ((m ≡ 0) × (o ≡ Some main_input)) ⊎ ((m ≡ 1) × (o ≡ Some root_input))
input_at zero o e = inl (refl, same_Some o (Some main_input) (sym e))
input_at (suc zero) o e = inr (refl, same_Some o (Some root_input) (sym e))
input_at (suc (suc m)) o e = absurd cc

pub no_edge_of_main : (e : Edge) → IsEdgeOf main_input e → ⊥
no_edge_of_main e (inl c) = no_item e c
no_edge_of_main e (inr ((l, inl h), is)) = no_item _ h.2
no_edge_of_main e (inr ((l, inr (inl h)), is)) = no_item _ h.2
no_edge_of_main e (inr ((l, inr (inr h)), is)) = no_item _ h.1

pub no_edge_of_root : (e : Edge) → IsEdgeOf root_input e → ⊥
no_edge_of_root e (inl c) = no_item e c
no_edge_of_root e (inr ((l, inl h), is)) = no_item _ h.2
no_edge_of_root e (inr ((l, inr (inl h)), is)) = no_item _ h.2
no_edge_of_root e (inr ((l, inr (inr h)), is)) = no_item _ h.1

pub no_edge : (e : Edge) → IsEdge inputs e → ⊥
no_edge e h = elim (input_at h.0.0 (Some h.1) h.2) [
  | inl w ↦ no_edge_of_main e (subst (λ i. IsEdgeOf i e) (same_Some h.1 main_input w.1) h.3)
  | inr w ↦ no_edge_of_root e (subst (λ i. IsEdgeOf i e) (same_Some h.1 root_input w.1) h.3)
]

own_at : (n : ℕ) (k : Node) → slice_get main_input.nodes n ≡ Some k → (n ≡ 0) × (k ≡ Own 0)
own_at zero k e = (refl, same_Some k (Own 0) (sym e))
own_at (suc n) k e = absurd cc

-- the only node is main's own
pub only_node : (n : NodeId) (m : MethodId) (k : Node) → IsNode inputs n m k → (n.0 ≡ 0) × (m.0 ≡ 0) × (k ≡ Own 0)
only_node n m k h = elim (input_at m.0 (Some h.0) h.1) [
  | inl w ↦
      let x : IsNodeOf main_input n k = subst (λ i. IsNodeOf i n k) (same_Some h.0 main_input w.1) h.2 in
      let at = own_at n.0 k (subst (λ j. slice_get main_input.nodes j ≡ Some k) (sub_zero n.0) x.1) in
      (at.0, w.0, at.1)
  | inr w ↦ let x : IsNodeOf root_input n k = subst (λ i. IsNodeOf i n k) (same_Some h.0 root_input w.1) h.2 in absurd (cc x.1)
]
  where
    sub_zero : (a : ℕ) → a - 0 ≡ a
    sub_zero a = omega arith

no_exit : (n : NodeId) (m : MethodId) → IsExitNode inputs n m → ⊥
no_exit n m h =
    let e = only_node n m h.0 h.1 in
    absurd (cc (subst (λ k. is_exit k ≡ true) e.2 h.2))

pub follow : FollowOn inputs
follow = λ m i e. elim (input_at m (Some i) e) [
  | inl w ↦
      let is : main_input ≡ i = sym (same_Some i main_input w.1) in
      subst (λ (x : MethodInput). (x.method.0 ≡ m) × (x.first.0 ≡ node_count (take m inputs))) is (subst (λ n. (0 ≡ n) × (0 ≡ node_count (take n inputs))) (sym w.0) (refl, refl))
  | inr w ↦
      let is : root_input ≡ i = sym (same_Some i root_input w.1) in
      subst (λ (x : MethodInput). (x.method.0 ≡ m) × (x.first.0 ≡ node_count (take m inputs))) is (subst (λ n. (1 ≡ n) × (1 ≡ node_count (take n inputs))) (sym w.0) (refl, refl))
]

pub are_facts : AreFacts inputs [] class_names (main_text ∷ []) site_names [] [] []
are_facts = record {
  root = refl;
  with_root = (root_input, refl);
  follow_on = follow;
  few = omega arith;
  few_methods = omega arith;
  few_exits = omega arith;
  few_classes = omega arith;
  all_exits = record { each = all_none (λ (n : NodeId). (m : MethodId) × IsExitNode inputs n m); order = pairs_none NodeBefore; whole = λ n h. absurd (no_exit n h.0 h.1) };
  fit = λ e h. absurd (no_edge e h);
  one_caller = λ c e g a b h. absurd (no_edge e h);
  classes_rise = rise_one (slice_cmp nat_cmp) (λ (n : List ℕ). n) (codes "java/lang/Object");
  methods_rise = rise_one method_cmp key_of_text main_text;
  lines_rise = rise_none line_cmp key_of_line;
  accesses_rise = rise_none statement_cmp key_of_access;
  values_rise = rise_none statement_cmp key_of_value;
  method_classes = All-cons (λ (t : MethodText). t.class.0 < 1) main_text [] (omega arith) (all_none (λ (t : MethodText). t.class.0 < 1));
  site_places = λ k d lt. places k d lt;
  line_classes = all_none (λ (x : ClassId × ℕ × List Statement). x.0.0 < 1);
  line_statements = all_none (λ (x : ClassId × ℕ × List Statement). All (IsOfMethod 1) x.2);
  access_places = all_none (λ (x : Statement × Access). IsOfMethod 1 x.0);
  access_nodes = all_none (λ (x : Statement × Access). All (λ (n : NodeId). n.0 < node_count inputs) x.1.object);
  access_sites = all_none (λ (x : Statement × Access). All (IsOfSites 2) x.1.sites);
  value_places = all_none (λ (x : Statement × List SiteId). IsOfMethod 1 x.0);
  value_sites = all_none (λ (x : Statement × List SiteId). All (IsOfSites 2) x.1);
}
  where
    places : (k : ℕ) (d : SiteName) → k < 2 → IfOfMethod 1 (get_or site_names k d).place
    places zero d lt = tt
    places (suc zero) d lt = tt
    places (suc (suc k)) d lt = absurd (omega arith)

pub no_place : {A : Type 0} {P : Type 0} (k : ℕ) (x : A) → slice_get [] k ≡ Some x → P
no_place k x e = absurd (cc e)

pub class_at_place : (m : ℕ) (t : MethodText) → slice_get (main_text ∷ []) m ≡ Some t → t.class.0 < 1
class_at_place m t e = all_at (λ (x : MethodText). x.class.0 < 1) (main_text ∷ []) are_facts.method_classes m t e

pub firsts_ok : (m n : ℕ) → slice_get (0 ∷ 1 ∷ []) m ≡ Some n → n ≡ node_count (take m inputs)
firsts_ok zero n e = sym (same_Some 0 n e)
firsts_ok (suc zero) n e = sym (same_Some 1 n e)
firsts_ok (suc (suc m)) n e = absurd cc

-- the facts
abbrev pub quiet_facts : Facts
quiet_facts =
    record {
      inputs = inputs;
      firsts = 0 ∷ 1 ∷ [];
      exits = [];
      classes = class_names;
      methods = main_text ∷ [];
      sites = site_names;
      lines = [];
      accesses = [];
      values = [];
      root = refl;
      follow_on = follow;
      a_first_each = refl;
      firsts_are = firsts_ok;
      few = are_facts.few;
      few_methods = are_facts.few_methods;
      few_exits = are_facts.few_exits;
      few_classes = are_facts.few_classes;
      exits_rise = rise_none node_cmp (λ (n : NodeId). n);
      classes_rise = are_facts.classes_rise;
      methods_rise = are_facts.methods_rise;
      lines_rise = are_facts.lines_rise;
      accesses_rise = are_facts.accesses_rise;
      values_rise = are_facts.values_rise;
      method_classes = class_at_place;
      line_statements = λ k x e. no_place k x e;
      access_nodes = λ k x e. no_place k x e;
      access_sites = λ k x e. no_place k x e;
      value_sites = λ k x e. no_place k x e;
      sound = ∣ are_facts ∣₁;
    }
