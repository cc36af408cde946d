-- Fields and methods that searches find, by number.
use Rattle.std.proofs.Common.{◌≡◌, ℕ, ◌+◌, ◌<◌, ◌≤◌, ◌⊎◌, ◌↔◌, inl, inr, List, [], ◌∷◌, ◌++◌, length, get_or, refl, sym, ap, subst, ◌∙◌, arith, Option, Some, None, Contains}
use Rattle.std.specs.Prelude.{MatchOption, All, slice_get}
use Rattle.std.proofs.lemmas.Option.{slice_get_within, slice_get_read, get_or_from_slice_get}
use Rattle.std.proofs.lemmas.List.Elements.{All-get_or}
use Rattle.slicer_ids.specs.declared.ids.ClassId.{ClassId}
use Rattle.class_form.specs.Classes.{Declared, IsClass, IsNamed, IsDeclared, IsPrivate, IsStatic, IsAbstract, AreInOrder}
use Rattle.class_form.specs.Numbers.{IsNamedClass}
use Rattle.class_form.specs.Resolution.{FirstIn, here, later, nowhere, InterfacesOf, of_none, of_class, FindsField, FindsMethod, DeclaresField, DeclaresMethod}
use Rattle.class_form.specs.declared.class_file.ClassFile.{ClassFile}
use Rattle.class_form.specs.declared.class_file.Member.{Member}
use Rattle.digraph.specs.Graphs.{targets, HasEdge}
use Rattle.hierarchy.specs.declared.look_up.Tree.{Tree}
use Rattle.hierarchy.specs.declared.look_up.Wanted.{Wanted}
use Rattle.hierarchy.specs.declared.look_up.Wanted.TheVariants.{Declaration, Instance}
use Rattle.hierarchy.specs.declared.members.Kind.{Kind}
use Rattle.hierarchy.specs.declared.members.Kind.TheVariants.{Field, Method}
use Rattle.hierarchy.specs.Finds.{FindsNumber, HasFlags, IsInstance, IsWanted, IsAbstractAt, IsFitting, FitsNone, Upwards, BesideUpwards, MethodBeside, FieldFrom, MethodFrom}
use Rattle.hierarchy.specs.Names.{IsSuperOf, SuperChain, chain_end, chain_on}
use Rattle.hierarchy.specs.Numbered.{IsNumber, DeclaresNone, DeclaresSome}
use Rattle.hierarchy.specs.Places.{IsPlace, Declares, declared_at}
use Rattle.hierarchy.specs.Trees.{IsTree, Fits}
use Rattle.hierarchy.specs.Visits.{IsFirst, in_none, IsOneOf, FirstFrom, FirstAmong}
use Rattle.hierarchy.proofs.Chains.{fields_from, interfaces_from_each, has_interfaces, one_super, has_chain, chain_from, no_first, some_first, first_behind, first_before}
use Rattle.hierarchy.proofs.Descents.{append_none, append_some, first_among}
use Rattle.hierarchy.proofs.Keys.{one_index}
use Rattle.hierarchy.proofs.Rows.{same_class, super_edge}

-- the method of a number stands somewhere
pub method_place : (tree : Tree) (n : ℕ) (p : ClassId × ℕ) → IsTree tree → n < length tree.methods.places.items → p ≡ get_or tree.methods.places.items n p → IsPlace Method tree.classes.items p
method_place tree n p t l e = subst (IsPlace Method tree.classes.items) (sym e) (All-get_or (IsPlace Method tree.classes.items) tree.methods.places.items n p l t.methods_are.same.each)

same_item : {A : Type 0} (xs : List A) (n : ℕ) (a b : A) → slice_get xs n ≡ Some a → slice_get xs n ≡ Some b → a ≡ b
same_item xs n a b e f = sym (get_or_from_slice_get xs n a a e) ∙ get_or_from_slice_get xs n b a f

one_flags : (classes : List ClassFile) (p : ClassId × ℕ) (f g : ℕ) → HasFlags classes p f → HasFlags classes p g → f ≡ g
one_flags classes p f g (k, m, at, is, e) (j, o, there, has, d) =
    let same = same_class classes p.0.0 k j at there in
    let one = same_item j.methods p.1 m o (subst (λ (q : ClassFile). slice_get q.methods p.1 ≡ Some m) same is) has in
    sym e ∙ ap (λ (q : Member). q.flags) one ∙ d

-- what holds of the flags of a number
pub flags_hold : (B : ℕ → Type 0) (classes : List ClassFile) (places : List (ClassId × ℕ)) (n flags : ℕ) (p q : ClassId × ℕ) (other : ℕ) → slice_get places n ≡ Some p → HasFlags classes p flags
    → slice_get places n ≡ Some q → HasFlags classes q other → B other → B flags
flags_hold B classes places n flags p q other at h there g b =
    let same = same_item places n q p there at in
    subst B (one_flags classes p other flags (subst (λ (r : ClassId × ℕ). HasFlags classes r other) same g) h) b

pub fits_declares : (wanted : Wanted) (classes : List ClassFile) (name descriptor : List ℕ) (d : Declared) → Fits wanted classes name descriptor d → Declares Method classes name descriptor d
fits_declares Declaration classes name descriptor d f = f
fits_declares Instance classes name descriptor d f = (f.0, f.1, f.2, f.3)

pub number_within : (classes : List ClassFile) (places : List (ClassId × ℕ)) (name descriptor : List ℕ) (c n : ℕ) → IsNumber Method classes places name descriptor c n → n < length places
number_within classes places name descriptor c n h = slice_get_within places n h.0 h.1

pub is_fitting : (wanted : Wanted) (classes : List ClassFile) (places : List (ClassId × ℕ)) (name descriptor : List ℕ) (c n : ℕ) → IsNumber Method classes places name descriptor c n
    → IsWanted wanted classes places n → IsFitting wanted classes places name descriptor c n
is_fitting Declaration classes places name descriptor c n h w = h
is_fitting Instance classes places name descriptor c n (p, at, is, (k, m, there, decl)) (q, flags, q_at, has, not_private, not_static) =
    let same = flags_hold (λ f. f ≡ flags) classes places n m.flags p q flags at (k, m, there, decl.0, refl) q_at has refl in
    (p, at, is, (k, m, there, decl, subst (λ f. IsPrivate f → ⊥) (sym same) not_private, subst (λ f. IsStatic f → ⊥) (sym same) not_static))

pub fits_none : (wanted : Wanted) (classes : List ClassFile) (named : All IsNamedClass classes) (places : List (ClassId × ℕ)) (name descriptor : List ℕ) (c n : ℕ) → IsNumber Method classes places name descriptor c n
    → (IsWanted wanted classes places n → ⊥) → FitsNone wanted classes name descriptor c
fits_none Declaration classes named places name descriptor c n h w d e fits = w tt
fits_none Instance classes named places name descriptor c n (p, at, is, decl) w d e (k, m, there, this, not_private, not_static) =
    let index = one_index Method classes named name descriptor d (declared_at p) (e ∙ sym is) (k, m, there, this) decl in
    w (p, m.flags, at, (k, m, subst (λ b. IsClass classes b k) (e ∙ sym is) there, subst (λ i. slice_get k.methods i ≡ Some m) index this.0, refl), not_private, not_static)

-- upwards
module _ (wanted : Wanted) (tree : Tree) (t : IsTree tree) (name descriptor : List ℕ) where
  pub fits_here : (c n : ℕ) → c < length tree.classes.items → (h : IsFitting wanted tree.classes.items tree.methods.places.items name descriptor c n)
      → Upwards wanted tree.classes.items name descriptor c (Some (declared_at h.0))
  fits_here c n l h =
      let r = has_chain tree.classes.items tree.parents.edges.items tree.order.items t.ordered.order t.parent_edges t.parent_search.back c l in
      (r.0, r.1, at_front r.1)
    where
      at_front : {cs : List ℕ} → SuperChain tree.classes.items (Some c) cs → FirstIn (Fits wanted tree.classes.items name descriptor) cs (Some (declared_at h.0))
      at_front (chain_on is rest) = here h.2 h.3

  pub fits_beyond : (c s : ℕ) (found : Option Declared) → FitsNone wanted tree.classes.items name descriptor c → IsSuperOf tree.classes.items c (Some s)
      → Upwards wanted tree.classes.items name descriptor s found → Upwards wanted tree.classes.items name descriptor c found
  fits_beyond c s found never is u = (c ∷ u.0, chain_on is u.1, later never u.2)

  pub fits_nowhere : (c : ℕ) → FitsNone wanted tree.classes.items name descriptor c → IsSuperOf tree.classes.items c None → Upwards wanted tree.classes.items name descriptor c None
  fits_nowhere c never is = (c ∷ [], chain_on is chain_end, later never nowhere)

-- beside
module _ (tree : Tree) (t : IsTree tree) (places : List (ClassId × ℕ)) where
  pub beside_here : (c d : ℕ) → FirstAmong tree.interfaces.edges.items (IsOneOf places) (targets tree.interfaces.edges.items c) (Some d) → BesideUpwards tree.classes.items places c (Some d)
  beside_here c d f cs (chain_on is rest) =
      let r = has_interfaces tree.classes.items tree.interfaces.edges.items t.interface_edges tree.order.items t.interface_search.back rest in (
        f.0 ++ r.0,
        of_class is.1 (interfaces_from_each tree.classes.items tree.interfaces.edges.items t.interface_edges f.1 is.0 is.0.interfaces (t.interface_edges.each c is.0 is.1)) r.1,
        append_some (IsOneOf places) r.0 f.2,
      )

  pub beside_beyond : (c b : ℕ) (found : Option ℕ) → FirstAmong tree.interfaces.edges.items (IsOneOf places) (targets tree.interfaces.edges.items c) None → IsSuperOf tree.classes.items c (Some b)
      → BesideUpwards tree.classes.items places b found → BesideUpwards tree.classes.items places c found
  beside_beyond c b found f super u cs (chain_on {s} {cs = ds} is rest) =
      let same = one_super tree.classes.items c s (Some b) t.ordered.order is super in
      let r = u ds (subst (λ o. SuperChain tree.classes.items o ds) same rest) in (
        f.0 ++ r.0,
        of_class is.1 (interfaces_from_each tree.classes.items tree.interfaces.edges.items t.interface_edges f.1 is.0 is.0.interfaces (t.interface_edges.each c is.0 is.1)) r.1,
        append_none (IsOneOf places) f.2 r.2,
      )

  pub beside_nowhere : (c : ℕ) → FirstAmong tree.interfaces.edges.items (IsOneOf places) (targets tree.interfaces.edges.items c) None → IsSuperOf tree.classes.items c None → BesideUpwards tree.classes.items places c None
  beside_nowhere c f super cs (chain_on {s} {cs = ds} is rest) =
      let same = one_super tree.classes.items c s None t.ordered.order is super in
      let r = at_end (subst (λ o. SuperChain tree.classes.items o ds) same rest) in (
        f.0 ++ r.0,
        of_class is.1 (interfaces_from_each tree.classes.items tree.interfaces.edges.items t.interface_edges f.1 is.0 is.0.interfaces (t.interface_edges.each c is.0 is.1)) r.1,
        append_none (IsOneOf places) f.2 r.2,
      )
    where
      at_end : {es : List ℕ} → SuperChain tree.classes.items None es → (is : List ℕ) × InterfacesOf tree.classes.items es is × IsFirst (IsOneOf places) is None
      at_end chain_end = ([], of_none, in_none)

  -- the method found there
  module _ (name descriptor : List ℕ) (exact : (c : ℕ) → IsOneOf places c ↔ DeclaresSome Method tree.classes.items name descriptor c) where
    pub beside_none : (c : ℕ) → BesideUpwards tree.classes.items places c None → MethodBeside tree.classes.items name descriptor c None
    beside_none c b cs chain =
        let r = b cs chain in
        (r.0, r.1, no_first (Declares Method tree.classes.items name descriptor) (IsOneOf places) (λ d h. (exact d.class).1 (d, refl, h)) r.2)

    pub beside_number : (c d : ℕ) (found : Option ℕ) → c < length tree.classes.items → BesideUpwards tree.classes.items places c (Some d)
        → MatchOption found (DeclaresNone Method tree.classes.items name descriptor d) (IsNumber Method tree.classes.items tree.methods.places.items name descriptor d)
        → FindsNumber (MethodBeside tree.classes.items name descriptor c) tree.methods.places.items found
    beside_number c d None l b m =
        let chain = has_chain tree.classes.items tree.parents.edges.items tree.order.items t.ordered.order t.parent_edges t.parent_search.back c l in
        let r = b chain.0 chain.1 in
        let p = (exact d).0 (first_among (IsOneOf places) r.0 d r.2).1 in
        absurd (m p.0 p.1 p.2)
    beside_number c d (Some n) l b m = (
      m.0,
      m.1,
      λ cs chain.
          let r = b cs chain in
          (r.0, r.1, some_first (Declares Method tree.classes.items name descriptor) (IsOneOf places) (λ x h. (exact x.class).1 (x, refl, h)) (declared_at m.0) m.2 m.3 r.2),
    )

-- the method found from a class
module _ (tree : Tree) (t : IsTree tree) (name descriptor : List ℕ) (c : ℕ) where
  pub method_upwards : (n : ℕ) → FindsNumber (Upwards Declaration tree.classes.items name descriptor c) tree.methods.places.items (Some n)
      → FindsNumber (MethodFrom tree.classes.items name descriptor c) tree.methods.places.items (Some n)
  method_upwards n (p, at, (cs, chain, first)) = (
    p,
    at,
    λ class named.
        let r = has_interfaces tree.classes.items tree.interfaces.edges.items t.interface_edges tree.order.items t.interface_search.back chain in
        (cs ++ r.0, (cs, r.0, chain_from tree.classes.items chain (Some class) named, r.1, refl), first_before (Declares Method tree.classes.items name descriptor) r.0 first),
  )

  pub method_beyond : (found : Option ℕ) → Upwards Declaration tree.classes.items name descriptor c None → FindsNumber (MethodBeside tree.classes.items name descriptor c) tree.methods.places.items found
      → FindsNumber (MethodFrom tree.classes.items name descriptor c) tree.methods.places.items found
  method_beyond None (cs, chain, first) b = λ class named.
      let r = b cs chain in
      (cs ++ r.0, (cs, r.0, chain_from tree.classes.items chain (Some class) named, r.1, refl), first_behind (Declares Method tree.classes.items name descriptor) first r.2)
  method_beyond (Some n) (cs, chain, first) (p, at, b) = (
    p,
    at,
    λ class named.
        let r = b cs chain in
        (cs ++ r.0, (cs, r.0, chain_from tree.classes.items chain (Some class) named, r.1, refl), first_behind (Declares Method tree.classes.items name descriptor) first r.2),
  )

  -- the field found from a class
  pub field_nowhere : (places : List (ClassId × ℕ)) → ((b : ℕ) → IsOneOf places b ↔ DeclaresSome Field tree.classes.items name descriptor b) → FirstFrom tree.parents.edges.items (IsOneOf places) c None
      → FieldFrom tree.classes.items name descriptor c None
  field_nowhere places exact f = λ class named. (
    f.0,
    fields_from tree.classes.items tree.parents.edges.items t.parent_edges f.1 class named,
    no_first (Declares Field tree.classes.items name descriptor) (IsOneOf places) (λ d h. (exact d.class).1 (d, refl, h)) f.2,
  )

  pub field_number : (places : List (ClassId × ℕ)) (d : ℕ) (found : Option ℕ) → ((b : ℕ) → IsOneOf places b ↔ DeclaresSome Field tree.classes.items name descriptor b)
      → FirstFrom tree.parents.edges.items (IsOneOf places) c (Some d) → MatchOption found (DeclaresNone Field tree.classes.items name descriptor d) (IsNumber Field tree.classes.items tree.fields.places.items name descriptor d)
      → FindsNumber (FieldFrom tree.classes.items name descriptor c) tree.fields.places.items found
  field_number places d None exact f m = let p = (exact d).0 (first_among (IsOneOf places) f.0 d f.2).1 in absurd (m p.0 p.1 p.2)
  field_number places d (Some n) exact f m = (
    m.0,
    m.1,
    λ class named. (
      f.0,
      fields_from tree.classes.items tree.parents.edges.items t.parent_edges f.1 class named,
      some_first (Declares Field tree.classes.items name descriptor) (IsOneOf places) (λ x h. (exact x.class).1 (x, refl, h)) (declared_at m.0) m.2 m.3 f.2,
    ),
  )
