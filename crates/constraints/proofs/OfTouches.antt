-- What the statements of a program define and use.
use Rattle.std.proofs.Common.{◌≡◌, ◌⊎◌, ◌<◌, ◌+◌, ℕ, suc, Bool, true, false, List, [], ◌∷◌, ◌++◌, Option, Some, None, inl, inr, refl, sym, ap, subst, ◌∙◌, arith}
use Rattle.std.proofs.lemmas.Option.{same_Some}
use Rattle.slicer_ids.specs.Sets.{IsOrderedListOf}
use Rattle.slicer_ids.specs.Order.{StatementBefore}
use Rattle.slicer_ids.specs.declared.ids.SiteId.{SiteId}
use Rattle.slicer_ids.specs.declared.ids.FieldId.{FieldId}
use Rattle.slicer_ids.specs.declared.ids.Statement.{Statement}
use Rattle.slicer_ids.proofs.GrowingOrder.{reworded}
use Rattle.worklists.specs.Growth.{FromOne}
use Rattle.class_form.specs.Opcodes.{IsMultiNewArray}
use Rattle.class_form.specs.declared.types.FieldType.{FieldType}
use Rattle.class_form.proofs.Indices.{index_in}
use Rattle.dep_form.specs.declared.rules.Spot.{Spot}
use Rattle.dep_form.specs.declared.rules.Spot.TheVariants.{Field, Made as MadeSpot, Static}
use Rattle.dep_form.specs.declared.rules.SiteInfo.{SiteInfo}
use Rattle.dep_form.specs.declared.rules.Touch.{Touch}
use Rattle.dep_form.specs.declared.system.System.{System}
use Rattle.dep_form.specs.Constraints.{elements_field, length_field}
use Rattle.program_form.specs.Programs.{Program}
use Rattle.program_form.specs.Statements.{HasOpcode}
use Rattle.program_form.specs.Sites.{Made, HasType}
use Rattle.program_form.specs.Systems.{SiteNumber}
use Rattle.constraint_form.specs.Variables.{Meaning}
use Rattle.constraint_form.specs.Touched.{IsTouch}
use Rattle.constraint_form.specs.Touched as touch
use Rattle.constraint_form.specs.ConstraintSystems.{AreSites}
use Rattle.constraint_form.proofs.SiteNumbers.{statement_asym, site_type}
use Rattle.site_tables.specs.Tables.{AreNumbersOf}
use Rattle.variable_tables.specs.Growth.{GrowsInOrder}
use Rattle.variable_tables.proofs.InOrder.{grows_none, grows_one, grows_then, grows_same}
use Rattle.variable_tables.proofs.Meanings.{not_statement}
use Rattle.constraint_rules.specs.One.{IsOne, IsFound}
use Rattle.constraint_rules.specs.Settings.{place_of}
use Rattle.constraint_rules.specs.declared.tables.Reachable.{Reachable}
use Rattle.constraints.specs.Places.{PlaceBefore, IsStatement}
use Rattle.constraints.specs.Bodies.{AreAllPlaces}
use Rattle.constraints.specs.Touches.{MadeOf, IsOneSite, IsOfArrays, IsTouchOf, TouchRises, OfReads, OfWrites, OfDimensions, IsTouchAt}
use Rattle.constraints.proofs.OfRules.{place_there}

-- ---- one touch

pub touch_pushed : (t : Statement) (w : Bool) (o : Option Spot) (sp : Spot) (old new : List Touch) → o ≡ Some sp → new ≡ old ++ record { place = t; write = w; spot = sp } ∷ []
    → GrowsInOrder TouchRises old new (IsTouchOf t w (IsFound o))
touch_pushed t w o sp old new is e =
    grows_one TouchRises (λ y. ⊥) old new (record { place = t; write = w; spot = sp }) (IsTouchOf t w (IsFound o)) e (sp, is, refl) (λ n. n)
    (λ y (other, found, same). ap (λ z. record { place = t; write = w; spot = z }) (same_Some sp other (sym is ∙ found)) ∙ sym same)

pub no_touch : (t : Statement) (w : Bool) (o : Option Spot) (old : List Touch) → o ≡ None → GrowsInOrder TouchRises old old (IsTouchOf t w (IsFound o))
no_touch t w o old none = grows_none TouchRises (λ y. ⊥) old (IsTouchOf t w (IsFound o)) (λ y (sp, found, same). let e : None ≡ Some sp = sym none ∙ found in cc e)

-- the same spots, said otherwise
pub touch_same : (t : Statement) (w : Bool) (P Q : Spot → Type 0) (old new : List Touch) → ((sp : Spot) → P sp → Q sp) → ((sp : Spot) → Q sp → P sp)
    → GrowsInOrder TouchRises old new (IsTouchOf t w P) → GrowsInOrder TouchRises old new (IsTouchOf t w Q)
touch_same t w P Q old new to from g =
    grows_same TouchRises (λ y. ⊥) old new (IsTouchOf t w P) (IsTouchOf t w Q) (λ y. ⊥) (λ y (sp, h, e). (sp, to sp h, e)) (λ y (sp, h, e). (sp, from sp h, e)) (λ y h no. no) (λ y h no. no) g

pub touch_said : (t : Statement) (w : Bool) (R : Spot → Type 0) (o : Option Spot) (old new : List Touch) → IsOne R o → GrowsInOrder TouchRises old new (IsTouchOf t w (IsFound o))
    → GrowsInOrder TouchRises old new (IsTouchOf t w R)
touch_said t w R o old new one g = touch_same t w (IsFound o) R old new (λ sp found. (one sp).1 found) (λ sp r. (one sp).0 r) g

-- ---- touches of one statement

-- one after another are in order
one_statement : (t : Statement) (a b : Touch) → a.place ≡ t → b.place ≡ t → TouchRises a b
one_statement t a b e f before = not_statement t (subst (λ (z : Statement). StatementBefore z t) f (subst (λ (z : Statement). StatementBefore b.place z) e before))

pub place_is : (t : Statement) (w : Bool) (P : Spot → Type 0) (y : Touch) → IsTouchOf t w P y → y.place ≡ t
place_is t w P y (sp, h, e) = ap (λ (z : Touch). z.place) e

pub at_one : (t : Statement) (P Q : Touch → Type 0) (old mid new : List Touch) → ((y : Touch) → P y → y.place ≡ t) → ((y : Touch) → Q y → y.place ≡ t)
    → GrowsInOrder TouchRises old mid P → GrowsInOrder TouchRises mid new Q → GrowsInOrder TouchRises old new (λ y. P y ⊎ Q y)
at_one t P Q old mid new f g x y = grows_then TouchRises (λ z. ⊥) old mid new P Q (λ z. P z ⊎ Q z) x y (λ a b p q. one_statement t a b (f a p) (g b q)) (λ z h. h) (λ z h. h)

pub place_of_either : (t : Statement) (P Q : Spot → Type 0) (y : Touch) → IsTouchOf t true P y ⊎ IsTouchOf t true Q y → y.place ≡ t
place_of_either t P Q y (inl h) = place_is t true P y h
place_of_either t P Q y (inr h) = place_is t true Q y h

pub both_touched : (t : Statement) (w : Bool) (P Q : Spot → Type 0) (old mid new : List Touch) → GrowsInOrder TouchRises old mid (IsTouchOf t w P) → GrowsInOrder TouchRises mid new (IsTouchOf t w Q)
    → GrowsInOrder TouchRises old new (IsTouchOf t w (λ sp. P sp ⊎ Q sp))
both_touched t w P Q old mid new x y =
    grows_same TouchRises (λ z. ⊥) old new (λ z. IsTouchOf t w P z ⊎ IsTouchOf t w Q z) (IsTouchOf t w (λ sp. P sp ⊎ Q sp)) (λ z. ⊥) to from (λ z h no. no) (λ z h no. no)
    (at_one t (IsTouchOf t w P) (IsTouchOf t w Q) old mid new (place_is t w P) (place_is t w Q) x y)
  where
    to : (z : Touch) → IsTouchOf t w P z ⊎ IsTouchOf t w Q z → IsTouchOf t w (λ sp. P sp ⊎ Q sp) z
    to z (inl (sp, h, e)) = (sp, inl h, e)
    to z (inr (sp, h, e)) = (sp, inr h, e)

    from : (z : Touch) → IsTouchOf t w (λ sp. P sp ⊎ Q sp) z → IsTouchOf t w P z ⊎ IsTouchOf t w Q z
    from z (sp, inl h, e) = inl (sp, h, e)
    from z (sp, inr h, e) = inr (sp, h, e)

-- ---- sites

abbrev pub OfSite : Statement → ℕ → FieldId → ℕ → Touch → Type 0
OfSite t first field k y = IsTouchOf t true (MadeOf (λ n. n ≡ record { 0 = first + k }) (λ g. g ≡ field)) y

pub site_said : (t : Statement) (first k number : ℕ) (field : FieldId) (old new : List Touch) → number ≡ first + k
    → GrowsInOrder TouchRises old new (IsTouchOf t true (IsFound (Some (MadeSpot (record { 0 = number }) field)))) → GrowsInOrder TouchRises old new (OfSite t first field k)
site_said t first k number field old new e g =
    touch_same t true (IsFound (Some (MadeSpot (record { 0 = number }) field))) (MadeOf (λ n. n ≡ record { 0 = first + k }) (λ g. g ≡ field)) old new
    (λ sp found. (record { 0 = number }, field, ap (λ j. record { 0 = j }) e, refl, sym (same_Some _ _ found))) back g
  where
    back : (sp : Spot) → MadeOf (λ n. n ≡ record { 0 = first + k }) (λ g. g ≡ field) sp → Some (MadeSpot (record { 0 = number }) field) ≡ Some sp
    back sp (n, f, site, same, is) =
        let here : n ≡ record { 0 = number } = site ∙ ap (λ j. record { 0 = j }) (sym e) in
        ap (λ z. Some z) (ap (λ (m : SiteId). MadeSpot m field) (sym here) ∙ ap (λ (h : FieldId). MadeSpot n h) (sym same) ∙ sym is)

pub sites_rise : (t : Statement) (first : ℕ) (field : FieldId) (i j : ℕ) (a b : Touch) → OfSite t first field i a → OfSite t first field j b → TouchRises a b
sites_rise t first field i j a b (x, h, e) (y, k, f) = one_statement t a b (ap (λ (z : Touch). z.place) e) (ap (λ (z : Touch). z.place) f)

pub sites_said : (t : Statement) (first count : ℕ) (field : FieldId) (old new : List Touch) → GrowsInOrder TouchRises old new (λ y. (k : ℕ) × (k < count) × OfSite t first field k y)
    → GrowsInOrder TouchRises old new (IsTouchOf t true (MadeOf (IsOneSite first count) (λ g. g ≡ field)))
sites_said t first count field old new g =
    grows_same TouchRises (λ y. ⊥) old new (λ y. (k : ℕ) × (k < count) × OfSite t first field k y) (IsTouchOf t true (MadeOf (IsOneSite first count) (λ g. g ≡ field))) (λ y. ⊥)
    (λ y (k, lt, (sp, (n, f, site, same, is), e)). (sp, (n, f, (k, lt, site), same, is), e)) (λ y (sp, (n, f, (k, lt, site), same, is), e). (k, lt, (sp, (n, f, site, same, is), e)))
    (λ y h no. no) (λ y h no. no) g

-- a field that is one of the system's
pub field_said : (t : Statement) (S : SiteId → Type 0) (f g : FieldId) (old new : List Touch) → f ≡ g → GrowsInOrder TouchRises old new (IsTouchOf t true (MadeOf S (λ h. h ≡ f)))
    → GrowsInOrder TouchRises old new (IsTouchOf t true (MadeOf S (λ h. h ≡ g)))
field_said t S f g old new e x = subst (λ (z : FieldId). GrowsInOrder TouchRises old new (IsTouchOf t true (MadeOf S (λ h. h ≡ z)))) e x

module _ (p : Program) (s : System) (names : List Meaning) (t : Statement) (o : HasOpcode p t IsMultiNewArray) (sites : List SiteInfo) (are : AreSites p sites) (first count : ℕ)
    (numbers : AreNumbersOf p t first count) where
  site_of : (k : ℕ) (n : SiteId) → k < count → n ≡ record { 0 = first + k } → SiteNumber p n (Made t k)
  site_of k n lt e = (numbers n k).1 (lt, ap (λ (m : SiteId). m.0) e)

  one_of : (k : ℕ) (n : SiteId) → SiteNumber p n (Made t k) → IsOneSite first count n
  one_of k n number = let h = (numbers n k).0 number in (k, h.0, ap (λ j. record { 0 = j }) h.1)

  -- a site that isn't the last has another after it
  next_type : (k : ℕ) → suc k < count → (u : FieldType) × HasType p (Made t (suc k)) u
  next_type k lt = let n : SiteId = record { 0 = first + suc k } in site_type p n (Made t (suc k)) ((numbers n (suc k)).1 (lt, refl))

  next_within : (k : ℕ) (u : FieldType) → HasType p (Made t (suc k)) u → suc k < count
  next_within k u typed =
      let at = index_in are.listed.0 (Made t (suc k)) (are.listed.1.whole (Made t (suc k)) (u, typed)) in
      let n : SiteId = record { 0 = at.0 } in
      ((numbers n (suc k)).0 (are.listed.0, are.listed.1, at.1)).0

  pub arrays_to : (sp : Spot) → IsOfArrays s first count sp → OfDimensions p s names t sp
  arrays_to sp (inl (n, g, (k, lt, site), field, is)) = inl (o, (n, g, (k, site_of k n lt site), field, is))
  arrays_to sp (inr (n, g, (k, lt, site), field, is)) = inr (o, (n, g, (k, site_of k n (omega (arith, lt)) site, next_type k (omega (arith, lt))), field, is))

  pub arrays_from : (sp : Spot) → OfDimensions p s names t sp → IsOfArrays s first count sp
  arrays_from sp (inl (o', (n, g, (k, number), field, is))) = inl (n, g, one_of k n number, field, is)
  arrays_from sp (inr (o', (n, g, (k, number, (u, typed)), field, is))) =
      let lt = next_within k u typed in
      let h = (numbers n k).0 number in
      inr (n, g, (k, omega (arith, lt), ap (λ j. record { 0 = j }) h.1), field, is)

-- ---- all touches

at_place : (p : Program) (s : System) (names : List Meaning) (t : Statement) (y : Touch) → IsTouchAt p s names t y → y.place ≡ t
at_place p s names t y (inl (sp, h, e)) = ap (λ (z : Touch). z.place) e
at_place p s names t y (inr (inl (sp, h, e))) = ap (λ (z : Touch). z.place) e
at_place p s names t y (inr (inr (sp, h, e))) = ap (λ (z : Touch). z.place) e

pub touches_rise : (p : Program) (s : System) (names : List Meaning) (x y : Reachable) (a b : Touch) → PlaceBefore x y → IsTouchAt p s names (place_of x) a → IsTouchAt p s names (place_of y) b → TouchRises a b
touches_rise p s names x y a b lt h k before =
    statement_asym (place_of x) (place_of y) lt
    (subst (λ (z : Statement). StatementBefore z (place_of x)) (at_place p s names (place_of y) b k) (subst (λ (z : Statement). StatementBefore b.place z) (at_place p s names (place_of x) a h) before))

module _ (p : Program) (s : System) (names : List Meaning) where
  reads_are : (t : Statement) (sp : Spot) → OfReads p s names t sp → IsTouch p s names t false sp
  reads_are t sp (inl (o, (x, g, base, field, is))) = subst (λ z. IsTouch p s names t false z) (sym (is ∙ ap (λ (h : FieldId). Field (x ∷ []) h) field)) (touch.reads_element o base)
  reads_are t sp (inr (inl (o, (x, g, base, field, is)))) = subst (λ z. IsTouch p s names t false z) (sym (is ∙ ap (λ (h : FieldId). Field (x ∷ []) h) field)) (touch.reads_length o base)
  reads_are t sp (inr (inr (inl (o, (x, g, base, (f, named, number), is))))) = subst (λ z. IsTouch p s names t false z) (sym is) (touch.reads_field f o named base number)
  reads_are t sp (inr (inr (inr (o, (x, (v, var, number), is))))) = subst (λ z. IsTouch p s names t false z) (sym is) (touch.reads_static o var number)

  writes_are : (t : Statement) (sp : Spot) → OfWrites p s names t sp → IsTouch p s names t true sp
  writes_are t sp (inl (o, (x, g, base, field, is))) = subst (λ z. IsTouch p s names t true z) (sym (is ∙ ap (λ (h : FieldId). Field (x ∷ []) h) field)) (touch.writes_element o base)
  writes_are t sp (inr (inl (o, (x, g, base, (f, named, number), is)))) = subst (λ z. IsTouch p s names t true z) (sym is) (touch.writes_field f o named base number)
  writes_are t sp (inr (inr (inl (o, (x, (v, var, number), is))))) = subst (λ z. IsTouch p s names t true z) (sym is) (touch.writes_static o var number)
  writes_are t sp (inr (inr (inr (o, (n, g, site, field, is))))) = subst (λ z. IsTouch p s names t true z) (sym (is ∙ ap (λ (h : FieldId). MadeSpot n h) field)) (touch.makes_array o site)

  dimensions_are : (t : Statement) (sp : Spot) → OfDimensions p s names t sp → IsTouch p s names t true sp
  dimensions_are t sp (inl (o, (n, g, (k, site), field, is))) = subst (λ z. IsTouch p s names t true z) (sym (is ∙ ap (λ (h : FieldId). MadeSpot n h) field)) (touch.makes_dimension o site)
  dimensions_are t sp (inr (o, (n, g, (k, site, (u, typed)), field, is))) = subst (λ z. IsTouch p s names t true z) (sym (is ∙ ap (λ (h : FieldId). MadeSpot n h) field)) (touch.makes_elements o site typed)

  touch_is : (t : Statement) (y : Touch) → IsTouchAt p s names t y → IsTouch p s names y.place y.write y.spot
  touch_is t y (inl (sp, h, e)) = subst (λ (z : Touch). IsTouch p s names z.place z.write z.spot) (sym e) (reads_are t sp h)
  touch_is t y (inr (inl (sp, h, e))) = subst (λ (z : Touch). IsTouch p s names z.place z.write z.spot) (sym e) (writes_are t sp h)
  touch_is t y (inr (inr (sp, h, e))) = subst (λ (z : Touch). IsTouch p s names z.place z.write z.spot) (sym e) (dimensions_are t sp h)

  is_touch : (t : Statement) {w : Bool} {sp : Spot} → IsTouch p s names t w sp → IsTouchAt p s names t (record { place = t; write = w; spot = sp })
  is_touch t (touch.writes_field f {x} {g} o named base number) = inr (inl (Field (x ∷ []) g, inr (inl (o, (x, g, base, (f, named, number), refl))), refl))
  is_touch t (touch.writes_element {x} o base) = inr (inl (Field (x ∷ []) (elements_field s), inl (o, (x, elements_field s, base, refl, refl)), refl))
  is_touch t (touch.writes_static {v} {x} o var number) = inr (inl (Static x, inr (inr (inl (o, (x, (v, var, number), refl)))), refl))
  is_touch t (touch.makes_array {n} o site) = inr (inl (MadeSpot n (length_field s), inr (inr (inr (o, (n, length_field s, site, refl, refl)))), refl))
  is_touch t (touch.makes_dimension {k} {n} o site) = inr (inr (MadeSpot n (length_field s), inl (o, (n, length_field s, (k, site), refl, refl)), refl))
  is_touch t (touch.makes_elements {k} {n} {u} o site typed) = inr (inr (MadeSpot n (elements_field s), inr (o, (n, elements_field s, (k, site, (u, typed)), refl, refl)), refl))
  is_touch t (touch.reads_field f {x} {g} o named base number) = inl (Field (x ∷ []) g, inr (inr (inl (o, (x, g, base, (f, named, number), refl)))), refl)
  is_touch t (touch.reads_element {x} o base) = inl (Field (x ∷ []) (elements_field s), inl (o, (x, elements_field s, base, refl, refl)), refl)
  is_touch t (touch.reads_length {x} o base) = inl (Field (x ∷ []) (length_field s), inr (inl (o, (x, length_field s, base, refl, refl))), refl)
  is_touch t (touch.reads_static {v} {x} o var number) = inl (Static x, inr (inr (inr (o, (x, (v, var, number), refl)))), refl)

  touch_stands : (t : Statement) {w : Bool} {sp : Spot} → IsTouch p s names t w sp → IsStatement p t
  touch_stands t (touch.writes_field f (b, i, at, is) named base number) = (b, i, at, tt)
  touch_stands t (touch.writes_element (b, i, at, is) base) = (b, i, at, tt)
  touch_stands t (touch.writes_static (b, i, at, is) var number) = (b, i, at, tt)
  touch_stands t (touch.makes_array (b, i, at, is) site) = (b, i, at, tt)
  touch_stands t (touch.makes_dimension (b, i, at, is) site) = (b, i, at, tt)
  touch_stands t (touch.makes_elements (b, i, at, is) site typed) = (b, i, at, tt)
  touch_stands t (touch.reads_field f (b, i, at, is) named base number) = (b, i, at, tt)
  touch_stands t (touch.reads_element (b, i, at, is) base) = (b, i, at, tt)
  touch_stands t (touch.reads_length (b, i, at, is) base) = (b, i, at, tt)
  touch_stands t (touch.reads_static (b, i, at, is) var number) = (b, i, at, tt)

  abbrev pub OfPlace : Reachable → Touch → Type 0
  OfPlace x = IsTouchAt p s names (place_of x)

  pub touches_listed : (places : List Reachable) (ts : List Touch) → AreAllPlaces p places → IsOrderedListOf TouchRises ts (FromOne OfPlace places)
      → IsOrderedListOf TouchRises ts (λ y. IsTouch p s names y.place y.write y.spot)
  touches_listed places ts all listed =
      reworded TouchRises ts (FromOne OfPlace places) (λ y. IsTouch p s names y.place y.write y.spot) (λ y (x, among, h). touch_is (place_of x) y h)
      (λ y is.
      let (x, among, same) = place_there places y.place (all.whole y.place (touch_stands y.place is)) in
      (x, among, subst (λ (z : Statement). IsTouchAt p s names z y) (sym same) (is_touch y.place is)))
      listed
