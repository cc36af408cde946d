-- The superclass and the interfaces of classes, as numbers.
use Rattle.std.proofs.Common.{◌≡◌, ℕ, ◌+◌, ◌<◌, ◌≤◌, ◌⊎◌, ◌↔◌, inl, inr, zero, suc, List, [], ◌∷◌, ◌++◌, length, get_or, take, refl, sym, ap, ◌∙◌, subst, arith, Option, Some, None}
use Rattle.std.specs.Prelude.{Contains, MatchOption, All, slice_index}
use Rattle.std.specs.Global.{Vec}
use Rattle.std.proofs.lemmas.Bool.{cases_order, cases_lt}
use Rattle.std.proofs.lemmas.Option.{slice_get_within, slice_get_read, get_or_from_slice_get, slice_get_cases, slice_get-get_or}
use Rattle.std.specs.Option.{option_map_or}
use Rattle.digraph.proofs.Marks.{targets_row, node_of_edge}
use Rattle.std.proofs.lemmas.List.{take_more, take_all, get_or-map, length-map, length-append, get_or_append_left, get_or_push}
use Rattle.std.proofs.lemmas.List.Elements.{Contains-append_left, Contains-push, Contains-push_cases, Contains-get_or, All-weaker}
use Rattle.slicer_ids.specs.Order.{BytesBefore}
use Rattle.class_form.specs.Pools.{class_at}
use Rattle.class_form.specs.Classes.{class_name, interface_names, IsClass, IsNamed, IsOutside, IsAbove, AreInOrder}
use Rattle.class_form.specs.declared.class_file.ClassFile.{ClassFile}
use Rattle.digraph.specs.Graphs.{targets, HasEdge, IsGraph}
use Rattle.digraph.specs.Orders.{IsOrder}
use Rattle.hierarchy.specs.declared.parents.Above.{Above}
use Rattle.hierarchy.specs.declared.parents.Above.TheVariants.{Interfaces, Parents}
use Rattle.hierarchy.specs.Names.{LeadsTo, LeadsToOne, Leading, no_index, passed_over, leads_there, indices_of, AreEdges, IsSuperOf}
use Rattle.hierarchy.proofs.Bytes.{not_before_itself}

same_some : (x y : List ℕ) → Some x ≡ Some y → x ≡ y
same_some x y e = cc

pub not_twice : (classes : List ClassFile) (name : List ℕ) (a b : ℕ) → AreInOrder classes → IsNamed classes name a → IsNamed classes name b → a < b → ⊥
not_twice classes name a b o h k lt =
    let p = o a b h.0 lt (slice_get_within classes b k.0 k.1) in
    let x = same_some p.0 name (sym p.2 ∙ ap class_name (get_or_from_slice_get classes a h.0 h.0 h.1) ∙ h.2) in
    let y = same_some p.1 name (sym p.3 ∙ ap class_name (get_or_from_slice_get classes b k.0 h.0 k.1) ∙ k.2) in
    not_before_itself name (subst (λ u. BytesBefore u name) x (subst (BytesBefore p.0) y p.4))

-- a name has one number
pub one_number : (classes : List ClassFile) (name : List ℕ) (a b : ℕ) → AreInOrder classes → IsNamed classes name a → IsNamed classes name b → a ≡ b
one_number classes name a b o h k = elim (cases_order a b) [
  | inl e ↦ e
  | inr apart ↦ elim apart [ inl lt ↦ absurd (not_twice classes name a b o h k lt) | inr gt ↦ absurd (not_twice classes name b a o k h gt) ]
]

pub one_leads : (classes : List ClassFile) (k : ClassFile) (index a b : ℕ) → AreInOrder classes → LeadsTo classes k index a → LeadsTo classes k index b → a ≡ b
one_leads classes k index a b o h g =
    one_number classes h.0 a b o h.2 (subst (λ n. IsNamed classes n b) (same_some g.0 h.0 (sym g.1 ∙ h.1)) g.2)

pub named_leads : (classes : List ClassFile) (k : ClassFile) (index : ℕ) (name : List ℕ) (r : Option ℕ) → Some name ≡ class_at k.pool index
    → MatchOption r (IsOutside classes name) (λ c. IsNamed classes name c) → MatchOption r ((c : ℕ) → LeadsTo classes k index c → ⊥) (λ c. LeadsTo classes k index c)
named_leads classes k index name None e m = λ c h. m c (subst (λ n. IsNamed classes n c) (same_some h.0 name (sym h.1 ∙ sym e)) h.2)
named_leads classes k index name (Some c) e m = (name, sym e, m)

-- an interface's name stands in the list of names
in_names : (k : ClassFile) (index : ℕ) (name : List ℕ) → Contains k.interfaces index → class_at k.pool index ≡ Some name → Contains (interface_names k) (Some name)
in_names k index name h e =
    (h.0, omega (arith, length-map k.interfaces (class_at k.pool), h.1), get_or-map (class_at k.pool) k.interfaces h.0 index (Some name) h.1 ∙ ap (class_at k.pool) h.2 ∙ e)

name_in : (k : ClassFile) (name : List ℕ) → Contains (interface_names k) (Some name) → (index : ℕ) × Contains k.interfaces index × (class_at k.pool index ≡ Some name)
name_in k name h =
    let lt : h.0 < length k.interfaces = omega (arith, length-map k.interfaces (class_at k.pool), h.1) in
    (get_or k.interfaces h.0 0, Contains-get_or k.interfaces h.0 0 lt, sym (get_or-map (class_at k.pool) k.interfaces h.0 0 (Some name) lt) ∙ h.2)

Contains-cons_cases : (x : ℕ) (xs : List ℕ) (y : ℕ) → Contains (x ∷ xs) y → (x ≡ y) ⊎ Contains xs y
Contains-cons_cases x xs y (zero, l, e) = inl e
Contains-cons_cases x xs y (suc j, l, e) = inr (j, omega arith, e)

Contains-later : (x : ℕ) (xs : List ℕ) (y : ℕ) → Contains xs y → Contains (x ∷ xs) y
Contains-later x xs y (j, l, e) = (suc j, omega arith, e)

pub same_class : (classes : List ClassFile) (a : ℕ) (k j : ClassFile) → IsClass classes a k → IsClass classes a j → k ≡ j
same_class classes a k j h g = sym (get_or_from_slice_get classes a k k h) ∙ get_or_from_slice_get classes a j k g

-- one index more
pub more_passed : (classes : List ClassFile) (k : ClassFile) {is cs : List ℕ} (i : ℕ) → ((c : ℕ) → LeadsTo classes k i c → ⊥) → Leading classes k is cs → Leading classes k (is ++ i ∷ []) cs
more_passed classes k i never no_index = passed_over never no_index
more_passed classes k i never (passed_over n l) = passed_over n (more_passed classes k i never l)
more_passed classes k i never (leads_there h l) = leads_there h (more_passed classes k i never l)

pub more_leads : (classes : List ClassFile) (k : ClassFile) {is cs : List ℕ} (i c : ℕ) → LeadsTo classes k i c → Leading classes k is cs → Leading classes k (is ++ i ∷ []) (cs ++ c ∷ [])
more_leads classes k i c there no_index = leads_there there no_index
more_leads classes k i c there (passed_over n l) = passed_over n (more_leads classes k i c there l)
more_leads classes k i c there (leads_there h l) = leads_there h (more_leads classes k i c there l)

pub pushed_leads : (classes : List ClassFile) (k : ClassFile) (i c : ℕ) (row new : List ℕ) → LeadsTo classes k i c → new ≡ row ++ c ∷ []
    → (indices : List ℕ) → Leading classes k indices row → Leading classes k (indices ++ i ∷ []) new
pushed_leads classes k i c row new h e indices l = subst (Leading classes k (indices ++ i ∷ [])) (sym e) (more_leads classes k i c h l)

pub next_leads : (classes : List ClassFile) (k : ClassFile) (indices row new : List ℕ) (i : ℕ) → i < length indices
    → Leading classes k (take i indices) row → ((is : List ℕ) → Leading classes k is row → Leading classes k (is ++ get_or indices i 0 ∷ []) new) → Leading classes k (take (i + 1) indices) new
next_leads classes k indices row new i l before step = subst (λ is. Leading classes k is new) (sym (take_more indices i 0 l)) (step (take i indices) before)

pub whole_leads : (classes : List ClassFile) (k : ClassFile) (indices row : List ℕ) (i : ℕ) → length indices ≤ i → Leading classes k (take i indices) row → Leading classes k indices row
whole_leads classes k indices row i l h = subst (λ is. Leading classes k is row) (take_all i indices l) h

-- the row has the classes that the indices name
pub leading_to : (classes : List ClassFile) (k : ClassFile) {is cs : List ℕ} → Leading classes k is cs → (c : ℕ) → Contains cs c → LeadsToOne classes k is c
leading_to classes k no_index c h = absurd (omega (arith, h.1))
leading_to classes k (passed_over {i} {is} n l) c h = let r = leading_to classes k l c h in (r.0, Contains-later i is r.0 r.1, r.2)
leading_to classes k (leads_there {i} {c = b} {is} {cs = bs} t l) c h = elim (Contains-cons_cases b bs c h) [
  | inl e ↦ (i, (0, omega arith, refl), subst (LeadsTo classes k i) e t)
  | inr m ↦ let r = leading_to classes k l c m in (r.0, Contains-later i is r.0 r.1, r.2)
]

pub leading_from : (classes : List ClassFile) (k : ClassFile) {is cs : List ℕ} → AreInOrder classes → Leading classes k is cs → (c : ℕ) → LeadsToOne classes k is c → Contains cs c
leading_from classes k o no_index c h = absurd (omega (arith, h.1.1))
leading_from classes k o (passed_over {i} {is} n l) c h = elim (Contains-cons_cases i is h.0 h.1) [
  | inl e ↦ absurd (n c (subst (λ j. LeadsTo classes k j c) (sym e) h.2))
  | inr m ↦ leading_from classes k o l c (h.0, m, h.2)
]
leading_from classes k o (leads_there {i} {c = b} {is} {cs = bs} t l) c h = elim (Contains-cons_cases i is h.0 h.1) [
  | inl e ↦ (0, omega arith, one_leads classes k i b c o t (subst (λ j. LeadsTo classes k j c) (sym e) h.2))
  | inr m ↦ Contains-later b bs c (leading_from classes k o l c (h.0, m, h.2))
]

-- the last index leads where the row says
pub last_leads : (classes : List ClassFile) (k : ClassFile) (is : List ℕ) (i : ℕ) {cs : List ℕ} → Leading classes k (is ++ i ∷ []) cs
    → (found : Option ℕ) × MatchOption found ((c : ℕ) → LeadsTo classes k i c → ⊥) (λ c. LeadsTo classes k i c)
last_leads classes k [] i (passed_over n l) = (None, n)
last_leads classes k [] i (leads_there {c} t l) = (Some c, t)
last_leads classes k (j ∷ is) i (passed_over n l) = last_leads classes k is i l
last_leads classes k (j ∷ is) i (leads_there t l) = last_leads classes k is i l

-- the classes that a class names are those above it
above_from : (classes : List ClassFile) (a b : ℕ) (k : ClassFile) → IsClass classes a k → LeadsToOne classes k (k.interfaces ++ k.super_class ∷ []) b → IsAbove classes a b
above_from classes a b k at m = elim (Contains-push_cases k.interfaces k.super_class m.0 m.1) [
  | inl among ↦ (k, m.2.0, at, inr (in_names k m.0 m.2.0 among m.2.1), m.2.2)
  | inr is ↦ (k, m.2.0, at, inl (ap (class_at k.pool) is ∙ m.2.1), m.2.2)
]

above_to : (classes : List ClassFile) (a b : ℕ) (k : ClassFile) → IsClass classes a k → IsAbove classes a b → LeadsToOne classes k (k.interfaces ++ k.super_class ∷ []) b
above_to classes a b k at h =
    subst (λ (j : ClassFile). LeadsToOne classes j (j.interfaces ++ j.super_class ∷ []) b) (same_class classes a h.0 k h.2 at) (elim h.3 [
      | inl e ↦ (h.0.super_class, Contains-push h.0.interfaces h.0.super_class, (h.1, e, h.4))
      | inr among ↦ let i = name_in h.0 h.1 among in (i.0, Contains-append_left h.0.interfaces (h.0.super_class ∷ []) i.0 i.1, (h.1, i.2, h.4))
    ])

get_or_itself : (rows : List (Vec ℕ)) (a : ℕ) (d : Vec ℕ) → a < length rows → get_or rows a d ≡ get_or rows a (get_or rows a d)
get_or_itself rows a d l = sym (get_or_from_slice_get rows a (get_or rows a d) (get_or rows a d) (slice_get-get_or rows a d l))

-- the rows of the first classes
pub record AreEdgesUpTo (above : Above) (classes : List ClassFile) (rows : List (Vec ℕ)) (n : ℕ) : Type 0 where
  pub len : length rows ≡ n
  pub each : (a : ℕ) (k : ClassFile) → a < n → IsClass classes a k → Leading classes k (indices_of above k) (targets rows a)

row_before : (rows : List (Vec ℕ)) (row : Vec ℕ) (a : ℕ) → a < length rows → targets (rows ++ row ∷ []) a ≡ targets rows a
row_before rows row a l = elim (slice_get_cases rows a).1 [
  | inl r ↦
      let more = length-append rows (row ∷ []) in
      let at = slice_get_read (rows ++ row ∷ []) (length (rows ++ row ∷ [])) a r.0 refl (omega (arith, more)) (sym (get_or_append_left rows (row ∷ []) r.0 a l ∙ r.3)) in
      ap (λ o. option_map_or (λ (v : Vec ℕ). v.items) o []) (at ∙ sym r.2)
  | inr past ↦ absurd (omega (arith, past.0))
]

row_here : (rows : List (Vec ℕ)) (row : Vec ℕ) (a : ℕ) → length rows ≡ a → targets (rows ++ row ∷ []) a ≡ row.items
row_here rows row a e = targets_row (rows ++ row ∷ []) a row (omega (arith, length-append rows (row ∷ []))) (sym (get_or_push rows row row a e))

pub edges_more : (above : Above) (classes : List ClassFile) (rows new : List (Vec ℕ)) (n : ℕ) (k : ClassFile) (row : Vec ℕ) → AreEdgesUpTo above classes rows n → IsClass classes n k
    → Leading classes k (indices_of above k) row.items → new ≡ rows ++ row ∷ [] → AreEdgesUpTo above classes new (n + 1)
edges_more above classes rows new n k row r at is e = subst (λ (g : List (Vec ℕ)). AreEdgesUpTo above classes g (n + 1)) (sym e) (record {
  len = omega (arith, length-append rows (row ∷ []), r.len);
  each = λ a j l there. elim (cases_lt a n) [
    | inl lt ↦ subst (Leading classes j (indices_of above j)) (sym (row_before rows row a (omega (arith, r.len)))) (r.each a j lt there)
    | inr ge ↦
        let same : n ≡ a = omega arith in
        let j_is : k ≡ j = same_class classes a k j (subst (λ i. IsClass classes i k) same at) there in
        subst (Leading classes j (indices_of above j)) (sym (row_here rows row a (omega (arith, r.len)))) (subst (λ (q : ClassFile). Leading classes q (indices_of above q) row.items) j_is is)
  ];
})

pub no_edges : (above : Above) (classes : List ClassFile) (rows : List (Vec ℕ)) → rows ≡ [] → AreEdgesUpTo above classes rows 0
no_edges above classes rows e = record { len = ap length e; each = λ a k l at. absurd (omega (arith, l)) }

pub all_edges : (above : Above) (classes : List ClassFile) (rows : List (Vec ℕ)) (n : ℕ) → length classes ≡ n → AreEdgesUpTo above classes rows n → AreEdges above classes rows
all_edges above classes rows n e r = record {
  len = omega (arith, r.len);
  each = λ a k at. let w = slice_get_within classes a k at in r.each a k (omega (arith, w)) at;
}

module _ (above : Above) (classes : List ClassFile) (rows : List (Vec ℕ)) (r : AreEdges above classes rows) where
  -- the class of a row
  from_class : (a b : ℕ) → HasEdge rows a b → (k : ClassFile) × IsClass classes a k × LeadsToOne classes k (indices_of above k) b
  from_class a b h =
      let lt : a < length classes = omega (arith, node_of_edge rows a b h, r.len) in
      elim (slice_get_cases classes a).1 [
        | inl c ↦ (c.0, c.2, leading_to classes c.0 (r.each a c.0 c.2) b h)
        | inr past ↦ absurd (omega (arith, past.0))
      ]

  pub to_edge : (a b : ℕ) (k : ClassFile) → AreInOrder classes → IsClass classes a k → LeadsToOne classes k (indices_of above k) b → HasEdge rows a b
  to_edge a b k o at h = leading_from classes k o (r.each a k at) b h

  pub edges_graph : IsGraph rows
  edges_graph a d l k e lt =
      let same = targets_row rows a (get_or rows a d) l (get_or_itself rows a d l) in
      let h : HasEdge rows a (get_or (get_or rows a d).items k e) = subst (λ xs. Contains xs (get_or (get_or rows a d).items k e)) (sym same) (Contains-get_or (get_or rows a d).items k e lt) in
      let f = from_class a (get_or (get_or rows a d).items k e) h in
      let w = slice_get_within classes (get_or (get_or rows a d).items k e) f.2.2.2.0 f.2.2.2.1 in
      omega (arith, w, r.len)

pub edges_above : (classes : List ClassFile) (rows : List (Vec ℕ)) → AreInOrder classes → AreEdges Parents classes rows → (a b : ℕ) → HasEdge rows a b ↔ IsAbove classes a b
edges_above classes rows o r a b = (
  λ h. let f = from_class Parents classes rows r a b h in above_from classes a b f.0 f.1 f.2,
  λ h. to_edge Parents classes rows r a b h.0 o h.2 (above_to classes a b h.0 h.2 h),
)

-- the interfaces of a class are among the classes above it
pub interface_edge : (classes : List ClassFile) (rows all : List (Vec ℕ)) → AreInOrder classes → AreEdges Interfaces classes rows → AreEdges Parents classes all → (a b : ℕ) → HasEdge rows a b → HasEdge all a b
interface_edge classes rows all o r p a b h =
    let f = from_class Interfaces classes rows r a b h in
    to_edge Parents classes all p a b f.0 o f.1 (f.2.0, Contains-append_left f.0.interfaces (f.0.super_class ∷ []) f.2.0 f.2.1, f.2.2)

pub interface_order : (classes : List ClassFile) (rows all : List (Vec ℕ)) (order : List ℕ) → AreInOrder classes → AreEdges Interfaces classes rows → AreEdges Parents classes all → IsOrder all order → IsOrder rows order
interface_order classes rows all order o r p is = record {
  nodes = All-weaker (λ n. n < length all) (λ n. n < length rows) (λ n l. omega (arith, l, r.len, p.len)) order is.nodes;
  whole = λ n l. is.whole n (omega (arith, l, r.len, p.len));
  back = λ i b l h. is.back i b l (interface_edge classes rows all o r p (slice_index order i) b h);
}

-- the superclass of a class is above it
pub super_edge : (classes : List ClassFile) (all : List (Vec ℕ)) → AreInOrder classes → AreEdges Parents classes all → (a b : ℕ) → IsSuperOf classes a (Some b) → HasEdge all a b
super_edge classes all o p a b h = to_edge Parents classes all p a b h.0 o h.1 (h.0.super_class, Contains-push h.0.interfaces h.0.super_class, h.2)

pub has_super : (classes : List ClassFile) (all : List (Vec ℕ)) → AreEdges Parents classes all → (a : ℕ) (k : ClassFile) → IsClass classes a k → (found : Option ℕ) × IsSuperOf classes a found
has_super classes all p a k at = let l = last_leads classes k k.interfaces k.super_class (p.each a k at) in (l.0, (k, at, l.1))
