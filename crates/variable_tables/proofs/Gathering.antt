-- Lists of numbers that grow.
use Rattle.std.proofs.Common.{◌≡◌, ℕ, List, [], ◌∷◌, ◌++◌, AllPairs, Contains, get_or, inl, inr, sym, ap, subst, ◌∙◌}
use Rattle.std.specs.Prelude.{◌↔◌}
use Rattle.std.proofs.lemmas.List.Elements.{Contains-push, Contains-push_cases, Contains-get_or}
use Rattle.slicer_ids.specs.Sets.{IsOrderedListOf}
use Rattle.worklists.specs.Growth.{Grows, FromOne}
use Rattle.worklists.proofs.Growing.{Grows-same}
use Rattle.class_form.specs.declared.class_file.Attribute.{Attribute}
use Rattle.class_form.specs.declared.class_file.CodeBody.{CodeBody}
use Rattle.class_form.specs.declared.class_file.Content.{Content}
use Rattle.class_form.specs.declared.class_file.Content.TheVariants.{Code, Other}
use Rattle.class_form.specs.declared.class_file.Member.{Member}
use Rattle.variable_tables.specs.Statements.{Rises, IsPcOfHandler, IsPcOfAttribute, IsHandlerPc}

-- one more
pub one_more : (old new : List ℕ) (x : ℕ) → new ≡ old ++ x ∷ [] → Grows old new (λ y. x ≡ y)
one_more old new x e = record {
  front = (x ∷ [], e);
  all = λ y same. subst (λ zs. Contains zs y) (sym e) (subst (λ z. Contains (old ++ x ∷ []) z) same (Contains-push old x));
  only = λ y c. elim (Contains-push_cases old x y (subst (λ zs. Contains zs y) e c)) [ inl o ↦ inl o | inr is ↦ inr is ];
}

-- the code of an attribute is one
abbrev code_in : Content → CodeBody → CodeBody
code_in (Code c) d = c
code_in (Other bytes) d = d

same_code : (c d : CodeBody) → Code c ≡ Code d → c ≡ d
same_code c d e = ap (λ (z : Content). code_in z c) e

-- the handlers of an attribute
pub of_attribute : (a : Attribute) (c : CodeBody) (old new : List ℕ) → a.content ≡ Code c → Grows old new (FromOne IsPcOfHandler c.handlers) → Grows old new (IsPcOfAttribute a)
of_attribute a c old new is g =
    Grows-same old new (FromOne IsPcOfHandler c.handlers) (IsPcOfAttribute a) (λ pc (h, among, e). (c, is, h, among, e))
    (λ pc (d, content, h, among, e). (h, subst (λ (z : CodeBody). Contains z.handlers h) (same_code d c (sym content ∙ is)) among, e)) g

-- the handlers of a method
pub handler_list : (x : Member) (found pcs : List ℕ) → ((pc : ℕ) → Contains found pc ↔ FromOne IsPcOfAttribute x.attributes pc) → AllPairs Rises pcs
    → ((pc : ℕ) → Contains pcs pc ↔ Contains found pc) → IsOrderedListOf Rises pcs (IsHandlerPc x)
handler_list x found pcs are order same = record {
  each = λ k d lt. to (get_or pcs k d) ((are (get_or pcs k d)).0 ((same (get_or pcs k d)).0 (Contains-get_or pcs k d lt)));
  order = order;
  whole = λ pc h. (same pc).1 ((are pc).1 (from pc h));
}
  where
    to : (pc : ℕ) → FromOne IsPcOfAttribute x.attributes pc → IsHandlerPc x pc
    to pc (a, among, (c, content, h, has, e)) = (c, (a, among, content), h, has, e)

    from : (pc : ℕ) → IsHandlerPc x pc → FromOne IsPcOfAttribute x.attributes pc
    from pc (c, (a, among, content), h, has, e) = (a, among, (c, content, h, has, e))
