-- The methods of classes have one numbering.
use Rattle.std.proofs.Common.{◌≡◌, ◌⊎◌, ◌↔◌, ◌<◌, ℕ, List, [], map, Option, Some, None, inl, inr, sym, ap, subst, ◌∙◌, arith}
use Rattle.std.specs.Prelude.{slice_get, unwrap_or}
use Rattle.std.specs.Option.{option_map_or}
use Rattle.std.proofs.lemmas.List.Elements.{All-contains}
use Rattle.std.proofs.lemmas.Option.{same_Some}
use Rattle.slicer_ids.specs.Order.{BytesBefore}
use Rattle.slicer_ids.specs.declared.ids.ClassId.{ClassId}
use Rattle.slicer_ids.specs.declared.ids.MethodId.{MethodId}
use Rattle.slicer_ids.proofs.Ordered.{one_ordered}
use Rattle.slicer_ids.proofs.Texts.{bytes_asym}
use Rattle.class_form.specs.Classes.{Declared, IsClass, IsMethod}
use Rattle.class_form.specs.Numbers.{MemberBefore, IsThere, AreMethods}
use Rattle.class_form.specs.Pools.{utf_at}
use Rattle.class_form.specs.Resolution.{clinit_name}
use Rattle.class_form.specs.declared.class_file.ClassFile.{ClassFile}
use Rattle.class_form.specs.declared.class_file.Member.{Member}
use Rattle.class_form.proofs.Indices.{there_at}
use Rattle.hierarchy.specs.Places.{declared_at, name_in, text_bytes, texts_at}
use Rattle.hierarchy.specs.declared.members.Kind.TheVariants.{Method}
use Rattle.fact_form.proofs.ItemLists.{mapped, map_at}
use Rattle.method_facts.specs.Entering.{IsInitializerIn, IsInitializerOf}

module _ (classes : List ClassFile) where
  -- a method has one name and one descriptor
  pub same_texts : (d : Declared) (x y : Member) (n o ds es : List ℕ) → IsMethod classes d x n ds → IsMethod classes d y o es → (x ≡ y) × (n ≡ o) × (ds ≡ es)
  same_texts d x y n o ds es (k, at, (is, name, descriptor)) (l, there, (has_it, other, another)) =
      let file : k ≡ l = same_Some k l (sym at ∙ there) in
      let member : x ≡ y = same_Some x y (sym (subst (λ (z : ClassFile). slice_get z.methods d.index ≡ Some x) file is) ∙ has_it) in
      let first : utf_at l.pool y.name ≡ Some n = subst (λ (z : Member). utf_at l.pool z.name ≡ Some n) member (subst (λ (z : ClassFile). utf_at z.pool x.name ≡ Some n) file name) in
      let second : utf_at l.pool y.descriptor ≡ Some ds = subst (λ (z : Member). utf_at l.pool z.descriptor ≡ Some ds) member (subst (λ (z : ClassFile). utf_at z.pool x.descriptor ≡ Some ds) file descriptor) in
      (member, same_Some n o (sym first ∙ other), same_Some ds es (sym second ∙ another))

  abbrev Texts : Declared → Declared → List ℕ → List ℕ → List ℕ → List ℕ → Type 0
  Texts a b n o ds es = (a.class < b.class) ⊎ ((a.class ≡ b.class) × (BytesBefore n o ⊎ ((n ≡ o) × BytesBefore ds es)))

  texts_asym : (a b : Declared) (n o ds es : List ℕ) → Texts a b n o ds es → Texts b a o n es ds → ⊥
  texts_asym a b n o ds es (inl lt) (inl gt) = omega (arith, lt, gt)
  texts_asym a b n o ds es (inl lt) (inr (e, more)) = omega (arith, lt, e)
  texts_asym a b n o ds es (inr (e, more)) (inl gt) = omega (arith, gt, e)
  texts_asym a b n o ds es (inr (e, inl x)) (inr (f, inl y)) = bytes_asym n o x y
  texts_asym a b n o ds es (inr (e, inl x)) (inr (f, inr (s, y))) = let again : BytesBefore n n = subst (λ z. BytesBefore n z) s x in bytes_asym n n again again
  texts_asym a b n o ds es (inr (e, inr (s, x))) (inr (f, inl y)) = let again : BytesBefore o o = subst (λ z. BytesBefore o z) s y in bytes_asym o o again again
  texts_asym a b n o ds es (inr (e, inr (s, x))) (inr (f, inr (r, y))) = bytes_asym ds es x y

  asym : (a b : Declared) → MemberBefore (IsMethod classes) a b → MemberBefore (IsMethod classes) b a → ⊥
  asym a b (x, n, ds, y, o, es, is, has_it, before) (v, p, fs, u, m, gs, other, another, after) =
      let one = same_texts a x u n m ds gs is another in
      let two = same_texts b y v o p es fs has_it other in
      texts_asym a b n o ds es before (subst (λ z. Texts b a o n es z) (sym one.2) (subst (λ z. Texts b a o z es gs) (sym one.1) (subst (λ z. Texts b a o m z gs) (sym two.2) (subst (λ z. Texts b a z m fs gs) (sym two.1) after))))

  pub one_numbering : (ms ns : List Declared) → AreMethods classes ms → AreMethods classes ns → ms ≡ ns
  one_numbering ms ns a b = one_ordered (MemberBefore (IsMethod classes)) (IsThere (IsMethod classes)) ms ns (λ x y u v before after. asym x y before after) a b

  -- INITIALIZERS

  module _ (places : List (ClassId × ℕ)) (number : AreMethods classes (map declared_at places)) (m : MethodId) where
    -- the method by these places
    by_places : (h : IsInitializerOf classes m) → IsInitializerIn classes (map declared_at places) m
    by_places (methods, are, is) = subst (λ (ds : List Declared). IsInitializerIn classes ds m) (one_numbering methods (map declared_at places) are number) is

    -- a method without a place has no number
    pub no_initializer : slice_get places m.0 ≡ None → IsInitializerOf classes m → ⊥
    no_initializer none h =
        let (d, x, name, descriptor, at, is, e) = by_places h in
        let here = mapped declared_at places m.0 d at in
        absurd (cc (sym none ∙ here.1))

    module _ (place : ClassId × ℕ) (at_place : slice_get places m.0 ≡ Some place) where
      here : slice_get (map declared_at places) m.0 ≡ Some (declared_at place)
      here = map_at declared_at places m.0 place at_place

      -- the name that stands there
      name_is : (x : Member) (name descriptor : List ℕ) → IsMethod classes (declared_at place) x name descriptor → (texts_at Method classes place).name ≡ name
      name_is x name descriptor (k, class, (is, text, other)) =
          ap (λ (o : Option ClassFile). option_map_or (λ (z : ClassFile). name_in Method z place.1) o []) class
          ∙ ap (λ (o : Option Member). option_map_or (λ (z : Member). text_bytes k.pool z.name) o []) is
          ∙ ap (λ (o : Option (List ℕ)). unwrap_or o []) text

      pub initializer : ((texts_at Method classes place).name ≡ clinit_name) ↔ IsInitializerOf classes m
      initializer = (
        λ e.
            let w = All-contains (IsThere (IsMethod classes)) (map declared_at places) (declared_at place) number.each (there_at (map declared_at places) m.0 (declared_at place) here) in
            (map declared_at places, number, (declared_at place, w.0, w.1, w.2, here, w.3, sym (name_is w.0 w.1 w.2 w.3) ∙ e)),
        λ h.
            let (d, x, name, descriptor, at, is, e) = by_places h in
            let same : d ≡ declared_at place = same_Some d (declared_at place) (sym at ∙ here) in
            name_is x name descriptor (subst (λ (z : Declared). IsMethod classes z x name descriptor) same is) ∙ e,
      )
