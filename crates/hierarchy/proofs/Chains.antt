-- The classes that searches visit, by names and by numbers.
use Rattle.std.proofs.Common.{◌≡◌, ℕ, zero, suc, ◌+◌, ◌<◌, ◌≤◌, ◌⊎◌, inl, inr, List, [], ◌∷◌, ◌++◌, length, map, refl, sym, ap, subst, ◌∙◌, arith, append-nil, append_assoc, Option, Some, None, Contains}
use Rattle.std.specs.Prelude.{MatchOption, All}
use Rattle.std.specs.Global.{Vec}
use Rattle.std.proofs.lemmas.List.{map-append}
use Rattle.std.proofs.lemmas.Option.{slice_get_within, slice_get_cases}
use Rattle.slicer_ids.specs.declared.ids.ClassId.{ClassId}
use Rattle.class_form.specs.Pools.{class_at}
use Rattle.class_form.specs.Classes.{class_name, super_name, interface_names, IsClass, IsNamed, IsOutside, AreInOrder, Declared}
use Rattle.class_form.specs.Resolution.{FieldVisits, absent, outside, visits, FieldVisitsEach, none, each, Chain, top, beyond, up, InterfaceVisits, no_name, unknown, interface, InterfaceVisitsEach, no_more, then_more, InterfacesOf, of_none, of_class, FirstIn, nowhere, here, later}
use Rattle.class_form.specs.declared.class_file.ClassFile.{ClassFile}
use Rattle.digraph.specs.Graphs.{targets, HasEdge}
use Rattle.digraph.specs.Orders.{IsOrder}
use Rattle.hierarchy.specs.declared.parents.Above.TheVariants.{Interfaces, Parents}
use Rattle.hierarchy.specs.Names.{LeadsTo, Leading, no_index, passed_over, leads_there, AreEdges, IsSuperOf, SuperChain, chain_end, chain_on}
use Rattle.hierarchy.specs.Visits.{Visits, visited, VisitsEach, no_node, node_first, IsFirst, in_none, at_head, in_tail}
use Rattle.hierarchy.proofs.Descents.{place_in, place_falls, have_visits}
use Rattle.hierarchy.proofs.Rows.{one_leads, super_edge, has_super, same_class}

-- fields

module _ (classes : List ClassFile) (k : ClassFile) where
  passed_field : (i : ℕ) {os : List (Option (List ℕ))} {ys : List ℕ} (o : Option (List ℕ)) → class_at k.pool i ≡ o → ((c : ℕ) → LeadsTo classes k i c → ⊥) → FieldVisitsEach classes os ys
      → FieldVisitsEach classes (o ∷ os) ys
  passed_field i None e never h = each absent h
  passed_field i (Some n) e never h = each (outside (λ c named. never c (n, e, named))) h

  no_fields : {is : List ℕ} → Leading classes k is [] → FieldVisitsEach classes (map (class_at k.pool) is) []
  no_fields no_index = none
  no_fields (passed_over {i} never l) = passed_field i (class_at k.pool i) refl never (no_fields l)

  lead_fields : {is cs xs ys : List ℕ} {c : ℕ} → ((name : List ℕ) → IsNamed classes name c → FieldVisits classes (Some name) xs)
      → ((js : List ℕ) → Leading classes k js cs → FieldVisitsEach classes (map (class_at k.pool) js) ys) → Leading classes k is (c ∷ cs) → FieldVisitsEach classes (map (class_at k.pool) is) (xs ++ ys)
  lead_fields v vs (passed_over {i} never l) = passed_field i (class_at k.pool i) refl never (lead_fields v vs l)
  lead_fields {xs} {ys} v vs (leads_there {i} {is} t l) = subst (λ (o : Option (List ℕ)). FieldVisitsEach classes (o ∷ map (class_at k.pool) is) (xs ++ ys)) (sym t.1) (each (v t.0 t.2) (vs is l))

split_fields : (classes : List ClassFile) (os : List (Option (List ℕ))) (o : Option (List ℕ)) {zs : List ℕ} → FieldVisitsEach classes (os ++ o ∷ []) zs
    → (xs : List ℕ) × (ys : List ℕ) × FieldVisitsEach classes os xs × FieldVisits classes o ys × (zs ≡ xs ++ ys)
split_fields classes [] o (each {xs} v none) = ([], xs, none, v, append-nil xs)
split_fields classes (p ∷ os) o (each {xs} v vs) =
    let r = split_fields classes os o vs in
    (xs ++ r.0, r.1, each v r.2, r.3, ap (λ ys. xs ++ ys) r.4 ∙ sym (append_assoc xs r.0 r.1))

module _ (classes : List ClassFile) (g : List (Vec ℕ)) (edges : AreEdges Parents classes g) where
  mutual
    pub fields_from : {c : ℕ} {xs : List ℕ} → Visits g c xs → (name : List ℕ) → IsNamed classes name c → FieldVisits classes (Some name) xs
    fields_from (visited {n = c} {xs} vs) name named =
        let k = named.0 in
        let h = fields_from_each vs k (k.interfaces ++ k.super_class ∷ []) (edges.each c k named.1) in
        let m = map-append (class_at k.pool) k.interfaces (k.super_class ∷ []) in
        let s = split_fields classes (interface_names k) (super_name k) (subst (λ (os : List (Option (List ℕ))). FieldVisitsEach classes os xs) m h) in
        subst (λ zs. FieldVisits classes (Some name) (c ∷ zs)) (sym s.4) (visits named named.1 s.2 s.3)

    fields_from_each : {ns xs : List ℕ} → VisitsEach g ns xs → (k : ClassFile) (is : List ℕ) → Leading classes k is ns → FieldVisitsEach classes (map (class_at k.pool) is) xs
    fields_from_each no_node k is l = no_fields classes k l
    fields_from_each (node_first v vs) k is l = lead_fields classes k (λ name named. fields_from v name named) (λ js m. fields_from_each vs k js m) l

-- interfaces

module _ (classes : List ClassFile) (k : ClassFile) where
  passed_interface : (i : ℕ) {os : List (Option (List ℕ))} {ys : List ℕ} (o : Option (List ℕ)) → class_at k.pool i ≡ o → ((c : ℕ) → LeadsTo classes k i c → ⊥) → InterfaceVisitsEach classes os ys
      → InterfaceVisitsEach classes (o ∷ os) ys
  passed_interface i None e never h = then_more no_name h
  passed_interface i (Some n) e never h = then_more (unknown (λ c named. never c (n, e, named))) h

  no_interfaces : {is : List ℕ} → Leading classes k is [] → InterfaceVisitsEach classes (map (class_at k.pool) is) []
  no_interfaces no_index = no_more
  no_interfaces (passed_over {i} never l) = passed_interface i (class_at k.pool i) refl never (no_interfaces l)

  lead_interfaces : {is cs xs ys : List ℕ} {c : ℕ} → ((name : List ℕ) → IsNamed classes name c → InterfaceVisits classes (Some name) xs)
      → ((js : List ℕ) → Leading classes k js cs → InterfaceVisitsEach classes (map (class_at k.pool) js) ys) → Leading classes k is (c ∷ cs) → InterfaceVisitsEach classes (map (class_at k.pool) is) (xs ++ ys)
  lead_interfaces v vs (passed_over {i} never l) = passed_interface i (class_at k.pool i) refl never (lead_interfaces v vs l)
  lead_interfaces {xs} {ys} v vs (leads_there {i} {is} t l) =
      subst (λ (o : Option (List ℕ)). InterfaceVisitsEach classes (o ∷ map (class_at k.pool) is) (xs ++ ys)) (sym t.1) (then_more (v t.0 t.2) (vs is l))

module _ (classes : List ClassFile) (g : List (Vec ℕ)) (edges : AreEdges Interfaces classes g) where
  mutual
    interfaces_from : {c : ℕ} {xs : List ℕ} → Visits g c xs → (name : List ℕ) → IsNamed classes name c → InterfaceVisits classes (Some name) xs
    interfaces_from (visited {n = c} vs) name named = interface named named.1 (interfaces_from_each vs named.0 named.0.interfaces (edges.each c named.0 named.1))

    pub interfaces_from_each : {ns xs : List ℕ} → VisitsEach g ns xs → (k : ClassFile) (is : List ℕ) → Leading classes k is ns → InterfaceVisitsEach classes (map (class_at k.pool) is) xs
    interfaces_from_each no_node k is l = no_interfaces classes k l
    interfaces_from_each (node_first v vs) k is l = lead_interfaces classes k (λ name named. interfaces_from v name named) (λ js m. interfaces_from_each vs k js m) l

  -- the superinterfaces of a chain
  pub has_interfaces : (order : List ℕ) → IsOrder g order → {o : Option ℕ} {cs : List ℕ} → SuperChain classes o cs → (is : List ℕ) × InterfacesOf classes cs is
  has_interfaces order back chain_end = ([], of_none)
  has_interfaces order back (chain_on {c} is rest) =
      let v = have_visits g order back (targets g c) in
      let r = has_interfaces order back rest in
      (v.0 ++ r.0, of_class is.1 (interfaces_from_each v.1 is.0 is.0.interfaces (edges.each c is.0 is.1)) r.1)

-- chains of superclasses

pub one_super : (classes : List ClassFile) (c : ℕ) (s t : Option ℕ) → AreInOrder classes → IsSuperOf classes c s → IsSuperOf classes c t → s ≡ t
one_super classes c None None o h g = refl
one_super classes c None (Some b) o h g = absurd (h.2 b (subst (λ (q : ClassFile). LeadsTo classes q q.super_class b) (same_class classes c g.0 h.0 g.1 h.1) g.2))
one_super classes c (Some a) None o h g = absurd (g.2 a (subst (λ (q : ClassFile). LeadsTo classes q q.super_class a) (same_class classes c h.0 g.0 h.1 g.1) h.2))
one_super classes c (Some a) (Some b) o h g =
    ap (λ n. Some n) (one_leads classes g.0 g.0.super_class a b o (subst (λ (q : ClassFile). LeadsTo classes q q.super_class a) (same_class classes c h.0 g.0 h.1 g.1) h.2) g.2)

pub super_within : (classes : List ClassFile) (c s : ℕ) → IsSuperOf classes c (Some s) → s < length classes
super_within classes c s h = slice_get_within classes s h.2.2.0 h.2.2.1

module _ (classes : List ClassFile) (g : List (Vec ℕ)) (order : List ℕ) (o : AreInOrder classes) (edges : AreEdges Parents classes g) (back : IsOrder g order) where
  on_chain : (c : ℕ) → ((b : ℕ) → b < length classes → place_in b order < place_in c order → (cs : List ℕ) × SuperChain classes (Some b) cs) → (s : Option ℕ) → IsSuperOf classes c s
      → (cs : List ℕ) × SuperChain classes (Some c) cs
  on_chain c rest None is = (c ∷ [], chain_on is chain_end)
  on_chain c rest (Some b) is =
      let r = rest b (super_within classes c b is) (place_falls g order c b back (super_edge classes g o edges c b is)) in
      (c ∷ r.0, chain_on is r.1)

  chain_below : (m c : ℕ) → c < length classes → place_in c order < m → (cs : List ℕ) × SuperChain classes (Some c) cs
  chain_below zero c l h = absurd (omega arith)
  chain_below (suc m) c l h = elim (slice_get_cases classes c).1 [
    | inl r ↦ let s = has_super classes g edges c r.0 r.2 in on_chain c (λ b k f. chain_below m b k (omega arith)) s.0 s.1
    | inr past ↦ absurd (omega (arith, past.0))
  ]

  -- the chain upwards from a class ends
  pub has_chain : (c : ℕ) → c < length classes → (cs : List ℕ) × SuperChain classes (Some c) cs
  has_chain c l = chain_below (suc (place_in c order)) c l (omega arith)

-- .. by names
abbrev NamesOf : List ClassFile → Option ℕ → Option (List ℕ) → Type 0
NamesOf classes None None = Unit {0}
NamesOf classes None (Some n) = IsOutside classes n
NamesOf classes (Some c) None = ⊥
NamesOf classes (Some c) (Some n) = IsNamed classes n c

super_names : (classes : List ClassFile) (k : ClassFile) (s : Option ℕ) (o : Option (List ℕ)) → super_name k ≡ o
    → MatchOption s ((c : ℕ) → LeadsTo classes k k.super_class c → ⊥) (λ c. LeadsTo classes k k.super_class c) → NamesOf classes s o
super_names classes k None None e h = tt
super_names classes k None (Some n) e h = λ c named. h c (n, e, named)
super_names classes k (Some c) None e h = absurd (cc (sym e ∙ h.1))
super_names classes k (Some c) (Some n) e h = subst (λ m. IsNamed classes m c) (same_some h.0 n (sym h.1 ∙ e)) h.2
  where
    same_some : (x y : List ℕ) → Some x ≡ Some y → x ≡ y
    same_some x y e = cc

pub chain_from : (classes : List ClassFile) {s : Option ℕ} {cs : List ℕ} → SuperChain classes s cs → (o : Option (List ℕ)) → NamesOf classes s o → Chain classes o cs
chain_from classes chain_end None h = top
chain_from classes chain_end (Some n) h = beyond h
chain_from classes (chain_on is rest) None h = absurd h
chain_from classes (chain_on {s} is rest) (Some n) h = up h is.1 (chain_from classes rest (super_name is.0) (super_names classes is.0 s (super_name is.0) refl is.2))

-- what is found first

pub no_first : (Fits : Declared → Type 0) (P : ℕ → Type 0) {xs : List ℕ} → ((d : Declared) → Fits d → P d.class) → IsFirst P xs None → FirstIn Fits xs None
no_first Fits P to in_none = nowhere
no_first Fits P to (in_tail never f) = later (λ d e fits. never (subst P e (to d fits))) (no_first Fits P to f)

pub some_first : (Fits : Declared → Type 0) (P : ℕ → Type 0) {xs : List ℕ} {c : ℕ} → ((d : Declared) → Fits d → P d.class) → (d : Declared) → d.class ≡ c → Fits d → IsFirst P xs (Some c) → FirstIn Fits xs (Some d)
some_first Fits P to d e fits (at_head p) = here e fits
some_first Fits P to d e fits (in_tail never f) = later (λ x is h. never (subst P is (to x h))) (some_first Fits P to d e fits f)

pub first_behind : (Fits : Declared → Type 0) {xs ys : List ℕ} {found : Option Declared} → FirstIn Fits xs None → FirstIn Fits ys found → FirstIn Fits (xs ++ ys) found
first_behind Fits nowhere g = g
first_behind Fits (later never f) g = later never (first_behind Fits f g)

pub first_before : (Fits : Declared → Type 0) {xs : List ℕ} {d : Declared} (ys : List ℕ) → FirstIn Fits xs (Some d) → FirstIn Fits (xs ++ ys) (Some d)
first_before Fits ys (here e fits) = here e fits
first_before Fits ys (later never f) = later never (first_before Fits ys f)
