-- Explanations are the same.
use Rattle.std.proofs.Common.{◌≡◌, List, Contains, sym, subst, arith}
use Rattle.std.proofs.lemmas.List.Elements.{All-contains, All-weaker}
use Rattle.slicer_ids.specs.Sets.{IsOrderedListOf}
use Rattle.slicer_ids.specs.Order.{StatementBefore, SiteBefore}
use Rattle.slicer_ids.specs.declared.ids.SiteId.{SiteId}
use Rattle.slicer_ids.specs.declared.ids.Statement.{Statement}
use Rattle.slicer_ids.proofs.Ordered.{one_ordered}
use Rattle.class_form.proofs.Indices.{there_at}
use Rattle.dep_form.specs.declared.access.Access.{Access}
use Rattle.dep_form.specs.declared.access.Explanation.{Explanation}
use Rattle.dep_form.specs.declared.facts.Facts.{Facts}
use Rattle.dep_form.specs.LookUps.{IsAccessAt}
use Rattle.dep_form.specs.Slices.{Nothing}
use Rattle.dep_form.specs.Explaining.{IsValueSite, Brings, IsExplanation}
use Rattle.program_form.specs.Programs.{Program}
use Rattle.program_form.specs.Effects.{OperandMayBe}
use Rattle.program_form.specs.Values.{ProducesObject, ValueMayBe}
use Rattle.program_form.specs.Graphs.{Numbering, IsProducerNumber, IsNumberOfSome}
use Rattle.text_laws.proofs.TwoFacts.{AreOfOne, turned}
use Rattle.text_laws.proofs.SameNodes.{one_of_number}
use Rattle.text_laws.proofs.SameSlices.{AreAlike, thin_there}

-- a list of one set is one of the other, which has the same members
pub listed_by : {A : Type 0} (B : A → A → Type 0) (P Q : A → Type 0) (xs : List A) → ((x : A) → P x → Q x) → ((x : A) → Q x → P x) → IsOrderedListOf B xs P →
    IsOrderedListOf B xs Q
listed_by B P Q xs to from h = record { each = All-weaker P Q to xs h.each; order = h.order; whole = λ x q. h.whole x (from x q) }

-- an access among those of the facts
listed : (f : Facts) (s : Statement) (a : Access) → IsAccessAt f s a → Contains f.accesses (s, a)
listed f s a (k, at) = there_at f.accesses k (s, a) at

module _ (p : Program) (ns ms : Numbering) (f g : Facts) (o : AreOfOne p ns ms f g) where
  -- the sites of an access are numbered as those of the program
  same_sites : (s : Statement) (a b : Access) → IsAccessAt f s a → IsAccessAt g s b → a.sites ≡ b.sites
  same_sites s a b at there =
      one_ordered SiteBefore (IsNumberOfSome p (OperandMayBe p s 0)) a.sites b.sites (λ x y h k before after. omega (arith, before, after)) (o.first.object_sites s a (listed f s a at))
      (o.second.object_sites s b (listed g s b there))

  objects_alike : (s : Statement) (a b : Access) → IsAccessAt f s a → IsAccessAt g s b → AreAlike p ns ms f g o (Contains a.object) (Contains b.object)
  objects_alike s a b at there x n m same c =
      let h = All-contains (IsProducerNumber p ns f s) a.object n (o.first.objects s a (listed f s a at)).each c in
      let one = one_of_number ns f h.0 x n h.1 same.here in
      (o.second.objects s b (listed g s b there)).whole m (x, same.there, subst (ProducesObject p s) one h.2)

  value_there : (s : Statement) (h : SiteId) → IsValueSite f s h → IsValueSite g s h
  value_there s h (hs, c, among) =
      let x = All-contains (IsNumberOfSome p (ValueMayBe p s)) hs h (o.first.values s hs c).each among in
      let y = o.second.valued s x.0 x.2 in
      (y.0, y.1, (o.second.values s y.0 y.1).whole h x)

  brings_there : (t : Statement) (a b : Access) (objects : List SiteId) → IsAccessAt f t a → IsAccessAt g t b → (s : Statement) → Brings f a objects s → Brings g b objects s
  brings_there t a b objects at there s (slice, h, c, value) =
      (thin_there p ns ms f g o Nothing (Contains a.object) (Contains b.object) (objects_alike t a b at there) s slice, h, c, value_there s h value)

module _ (p : Program) (ns ms : Numbering) (f g : Facts) (o : AreOfOne p ns ms f g) where
  -- those that bring an object to an access
  bringers : (t : Statement) (a b : Access) (objects : List SiteId) (ss : List Statement) → IsAccessAt f t a → IsAccessAt g t b →
      IsOrderedListOf StatementBefore ss (Brings f a objects) → IsOrderedListOf StatementBefore ss (Brings g b objects)
  bringers t a b objects ss at there h =
      listed_by StatementBefore (Brings f a objects) (Brings g b objects) ss (brings_there p ns ms f g o t a b objects at there)
      (brings_there p ms ns g f (turned p ns ms f g o) t b a objects there at) h

  pub explanation_there : (s t : Statement) (a b c d : Access) (x : Explanation) → IsAccessAt f s a → IsAccessAt f t b → IsAccessAt g s c → IsAccessAt g t d →
      IsExplanation f a b x → IsExplanation g c d x
  explanation_there s t a b c d x at_a at_b at_c at_d h =
      let first = same_sites p ns ms f g o s a c at_a at_c in
      let second = same_sites p ns ms f g o t b d at_b at_d in
      record {
        objects = listed_by SiteBefore (λ (z : SiteId). Contains a.sites z × Contains b.sites z) (λ (z : SiteId). Contains c.sites z × Contains d.sites z) x.objects
            (λ z w. (subst (λ zs. Contains zs z) first w.0, subst (λ zs. Contains zs z) second w.1))
            (λ z w. (subst (λ zs. Contains zs z) (sym first) w.0, subst (λ zs. Contains zs z) (sym second) w.1)) h.objects;
        left = bringers s a c x.objects x.left at_a at_c h.left;
        right = bringers t b d x.objects x.right at_b at_d h.right;
      }
