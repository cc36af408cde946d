-- Hierarchies: each name once, no class its own ancestor.
use Rattle.std.proofs.Common.{◌≡◌, ℕ, ◌+◌, ◌<◌, ◌⊎◌, ◌↔◌, ◌^◌, inl, inr, List, [], ◌∷◌, length, get_or, sym, ◌∙◌, subst, arith}
use Rattle.std.specs.Prelude.{All, IsPermutation, Result, Ok, Err, IfOk, IfErr}
use Rattle.std.specs.Global.{Vec}
use Rattle.std.proofs.lemmas.Bool.{cases_order, cases_lt}
use Rattle.std.proofs.lemmas.List.Sorted.{All-permutation, length_permutation, sum_by-IsPermutation}
use Rattle.slicer_ids.specs.Order.{BytesBefore}
use Rattle.slicer_ids.specs.Walks.{LeadsBy, IsWalk}
use Rattle.class_form.specs.Classes.{IsAbove, AreInOrder}
use Rattle.class_form.specs.Numbers.{IsNamedClass}
use Rattle.class_form.specs.Folders.{StandsTwice, IsOwnAncestor, IsLeastName, AreDistinct, AreAcyclic, IsHierarchyOf}
use Rattle.class_form.specs.declared.class_file.ClassFile.{ClassFile}
use Rattle.digraph.specs.Graphs.{HasEdge}
use Rattle.digraph.specs.Orders.{IsOrder, IsOnCycle}
use Rattle.digraph.specs.Rows.{AreRows}
use Rattle.digraph.proofs.Cycles.{no_cycle, same_cycle}
use Rattle.hierarchy.specs.Names.{name_bytes, IsByName, AreEdges}
use Rattle.hierarchy.specs.Trees.{AreOrdered, AreSubRows, AreFew, IsTree}
use Rattle.hierarchy.specs.Searched.{IsSearched}
use Rattle.hierarchy.specs.Numbered.{AreMembers}
use Rattle.hierarchy.specs.Places.{count_members}
use Rattle.hierarchy.specs.declared.look_up.Tree.{Tree}
use Rattle.hierarchy.specs.declared.members.Kind.{Kind}
use Rattle.hierarchy.specs.declared.members.Kind.TheVariants.{Field, Method}
use Rattle.hierarchy.specs.declared.parents.Above.TheVariants.{Interfaces, Parents}
use Rattle.hierarchy.specs.Causes.{IsCause}
use Rattle.hierarchy.specs.declared.tree.TreeError.{TreeError}
use Rattle.hierarchy.specs.declared.tree.TreeError.TheVariants.{NoMemory, Duplicate, Cycle}
use Rattle.hierarchy.proofs.Twice.{far, name_at, is_named_at}
use Rattle.hierarchy.proofs.Rows.{not_twice, edges_above}
use Rattle.hierarchy.proofs.Renumbering.{least_twice_of, least_own_of, distinct_of}
use Rattle.std.proofs.lemmas.List.Sums.{sum_by-le-sum_by}

pub acyclic_from : (classes : List ClassFile) (rows : List (Vec ℕ)) (order : List ℕ) → ((a b : ℕ) → HasEdge rows a b ↔ IsAbove classes a b) → IsOrder rows order → AreAcyclic classes
acyclic_from classes rows order above o c h = no_cycle rows order o c (same_cycle (IsAbove classes) (HasEdge rows) (λ a b e. (above a b).1 e) c c h)

pub least_ancestor : (classes : List ClassFile) (rows : List (Vec ℕ)) (n : ℕ) (d : ClassFile) → AreOrdered classes → ((a b : ℕ) → HasEdge rows a b ↔ IsAbove classes a b)
    → n < length classes → IsOnCycle rows n → ((m : ℕ) → m < n → IsOnCycle rows m → ⊥) → IsLeastName (IsOwnAncestor classes) (name_bytes (get_or classes n d))
least_ancestor classes rows n d o above lt on first = (
  (n, is_named_at classes o.named n d lt, same_cycle (HasEdge rows) (IsAbove classes) (λ a b e. (above a b).0 e) n n on),
  λ other h. let p = name_at classes other h.0 d h.1 in
      elim (cases_lt h.0 n) [
        | inl low ↦ absurd (first h.0 low (same_cycle (IsAbove classes) (HasEdge rows) (λ a b e. (above a b).1 e) h.0 h.0 h.2))
        | inr high ↦ elim (far classes o.sorted n h.0 d high p.1) [
          | inl e ↦ inl (sym (e ∙ p.0))
          | inr before ↦ inr (subst (BytesBefore (name_bytes (get_or classes n d))) p.0 before)
        ]
      ],
)

pub distinct : (classes : List ClassFile) → AreOrdered classes → AreDistinct classes
distinct classes o name t = elim (cases_order t.0 t.1) [
  | inl e ↦ t.2 e
  | inr apart ↦ elim apart [ inl lt ↦ not_twice classes name t.0 t.1 o.order t.3 t.4 lt | inr gt ↦ not_twice classes name t.1 t.0 o.order t.4 t.3 gt ]
]

pub ordered_from : (files classes : List ClassFile) → IsPermutation files classes → IsByName classes → All IsNamedClass files → AreFew files → AreInOrder classes → AreOrdered classes
ordered_from files classes p s named few order = record {
  few = omega (arith, few, length_permutation files classes p);
  named = All-permutation IsNamedClass files classes p named;
  sorted = s;
  order = order;
}

pub few_from : (files classes : List ClassFile) → IsPermutation files classes → AreFew files → AreFew classes
few_from files classes p few =
    let s = sum_by-IsPermutation (λ (k : ClassFile). length k.fields + length k.methods) files classes p in
    omega (arith, few, s, length_permutation files classes p)

-- fewer members of either kind
pub few_members : (kind : Kind) (classes : List ClassFile) → AreFew classes → count_members kind classes < 2 ^ 32
few_members Field classes few = let s = sum_by-le-sum_by (λ (k : ClassFile). length k.fields) (λ k. length k.fields + length k.methods) classes (λ k. omega arith) in omega (arith, s, few)
few_members Method classes few = let s = sum_by-le-sum_by (λ (k : ClassFile). length k.methods) (λ k. length k.fields + length k.methods) classes (λ k. omega arith) in omega (arith, s, few)

pub cause_twice : (files classes : List ClassFile) (name : List ℕ) (e : TreeError) → IsPermutation files classes → IsLeastName (StandsTwice classes) name
    → (e ≡ NoMemory) ⊎ (e ≡ Duplicate name) → IsCause files e
cause_twice files classes name e p l (inl m) = subst (IsCause files) (sym m) tt
cause_twice files classes name e p l (inr m) = subst (IsCause files) (sym m) (least_twice_of files classes p name l)

pub cause_cycle : (files classes : List ClassFile) (e : TreeError) → IsPermutation files classes → AreOrdered classes
    → (e ≡ NoMemory) ⊎ ((name : List ℕ) × (e ≡ Cycle name) × IsLeastName (IsOwnAncestor classes) name) → IsCause files e
cause_cycle files classes e p o (inl m) = subst (IsCause files) (sym m) tt
cause_cycle files classes e p o (inr m) = subst (IsCause files) (sym m.1) (distinct_of files classes p (distinct classes o), least_own_of files classes p m.0 m.2)

pub built : {E : Type 0} (files classes : List ClassFile) (r : Result (List ClassFile) E) → IsPermutation files classes → AreOrdered classes
    → IfOk r (λ h. (h ≡ classes) × AreAcyclic classes) → IfOk r (λ h. IsHierarchyOf files h)
built files classes (Ok h) p o i = record {
  same = subst (IsPermutation files) (sym i.0) p;
  order = subst AreInOrder (sym i.0) o.order;
  acyclic = subst AreAcyclic (sym i.0) i.1;
}
built files classes (Err e) p o i = tt

pub refused : {H : Type 0} (files classes : List ClassFile) (r : Result H TreeError) → IsPermutation files classes → AreOrdered classes
    → IfErr r (λ e. (e ≡ NoMemory) ⊎ ((name : List ℕ) × (e ≡ Cycle name) × IsLeastName (IsOwnAncestor classes) name)) → IfErr r (λ e. IsCause files e)
refused files classes (Ok h) p o i = tt
refused files classes (Err e) p o i = cause_cycle files classes e p o i

-- a walk of one relation is one of another that has its steps
same_walk : (E F : ℕ → ℕ → Type 0) → ((a b : ℕ) → E a b → F a b) → (a b : ℕ) → LeadsBy E a b → LeadsBy F a b
same_walk E F f a b h = (h.0, walk a b h.0 h.1)
  where
    walk : (a b : ℕ) (xs : List ℕ) → IsWalk E a xs b → IsWalk F a xs b
    walk a b [] w = w
    walk a b (x ∷ xs) w = (f a x w.0, walk x b xs w.1)

pub sub_rows_from : (classes : List ClassFile) (rows subs : List (Vec ℕ)) → ((a b : ℕ) → HasEdge rows a b ↔ IsAbove classes a b) → length rows ≡ length classes → AreRows rows subs → AreSubRows classes subs
sub_rows_from classes rows subs above len r = record {
  len = r.len ∙ len;
  each = λ a b row e l.
      let is = r.each a row e b (omega (arith, len)) in (
        λ h. same_walk (HasEdge rows) (IsAbove classes) (λ x y s. (above x y).0 s) a b (is.0 h),
        λ h. is.1 (same_walk (IsAbove classes) (HasEdge rows) (λ x y s. (above x y).1 s) a b h),
      );
}

-- all that is kept
pub tree_from : (tree : Tree) (classes : List ClassFile) → AreOrdered classes → AreEdges Parents classes tree.parents.edges.items → AreEdges Interfaces classes tree.interfaces.edges.items
    → IsSearched tree.parents tree.order.items → IsSearched tree.interfaces tree.order.items → AreMembers Field classes tree.fields → AreMembers Method classes tree.methods → tree.classes.items ≡ classes → IsTree tree
tree_from tree classes o p i ps is fields methods e =
    let above = edges_above classes tree.parents.edges.items o.order p in
    record {
      ordered = subst AreOrdered (sym e) o;
      acyclic = subst AreAcyclic (sym e) (acyclic_from classes tree.parents.edges.items tree.order.items above ps.back);
      subs = subst (λ (cs : List ClassFile). AreSubRows cs tree.parents.rows.items) (sym e) (sub_rows_from classes tree.parents.edges.items tree.parents.rows.items above p.len ps.rows);
      parent_edges = subst (λ (cs : List ClassFile). AreEdges Parents cs tree.parents.edges.items) (sym e) p;
      interface_edges = subst (λ (cs : List ClassFile). AreEdges Interfaces cs tree.interfaces.edges.items) (sym e) i;
      parent_search = ps;
      interface_search = is;
      fields_are = subst (λ (cs : List ClassFile). AreMembers Field cs tree.fields) (sym e) fields;
      methods_are = subst (λ (cs : List ClassFile). AreMembers Method cs tree.methods) (sym e) methods;
    }
