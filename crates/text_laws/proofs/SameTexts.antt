-- Answers have the same texts.
use Rattle.std.proofs.Common.{◌≡◌, ◌<◌, ◌++◌, ℕ, suc, List, [], ◌∷◌, length, get_or, Option, Some, None, codes, refl, sym, ap, ◌∙◌, arith}
use Rattle.std.specs.Prelude.{slice_get, All}
use Rattle.std.specs.Fmt.{decimal}
use Rattle.std.specs.List.{flat_map}
use Rattle.std.proofs.lemmas.Option.{get_or_from_slice_get}
use Rattle.slicer_ids.specs.Escapes.{printed}
use Rattle.slicer_ids.specs.declared.ids.MethodId.{MethodId}
use Rattle.slicer_ids.specs.declared.ids.SiteId.{SiteId}
use Rattle.slicer_ids.specs.declared.ids.Statement.{Statement}
use Rattle.class_form.specs.Types.{constant_text}
use Rattle.class_form.proofs.Indices.{index_at}
use Rattle.dep_form.specs.declared.texts.MethodText.{MethodText}
use Rattle.dep_form.specs.declared.facts.Facts.{Facts}
use Rattle.dep_form.specs.LookUps.{IsStatement, HasLine}
use Rattle.program_form.specs.Programs.{Program}
use Rattle.program_form.specs.Sites.{Site, Made, OfRoot, StandsAt}
use Rattle.program_form.specs.Graphs.{Numbering}
use Rattle.report.specs.Texts.{part_of, method_words, line_word, line_of, place_words, statement_line, line_line, site_place, site_line}
use Rattle.report.specs.Replies.{Answer, Done, Statements, Lines, Explained, Error, IsOfFacts, counted, statements_text, sites_text, text}
use Rattle.report.specs.declared.reply.LinePlace.{LinePlace}
use Rattle.report.proofs.Lines.{line_is, site_is}
use Rattle.text_laws.proofs.TwoFacts.{AreOfOne, turned}
use Rattle.text_laws.proofs.SameNames.{AlikeTexts, class_there, text_there, line_there}
use Rattle.text_laws.proofs.SiteTypes.{one_type}

-- texts of the items of a list, one after another
same_texts : {A : Type 0} (F G : A → List ℕ) (P : A → Type 0) → ((x : A) → P x → F x ≡ G x) → (xs : List A) → All P xs → flat_map F xs ≡ flat_map G xs
same_texts F G P same [] all = refl
same_texts F G P same (x ∷ xs) all =
    ap (λ z. z ++ flat_map F xs) (same x (all 0 x (omega arith)))
    ∙ ap (λ z. G x ++ z) (same_texts F G P same xs (λ k d lt. all (suc k) d (omega (arith, lt))))

-- where a site stands is one place
one_place_of : (h : Site) (a b : Option Statement) (i j : ℕ) → StandsAt h a i → StandsAt h b j → (a ≡ b) × (i ≡ j)
one_place_of (Made s k) a b i j x y = (x.0 ∙ sym y.0, x.1 ∙ sym y.1)
one_place_of (OfRoot k) a b i j x y = (x.0 ∙ sym y.0, x.1 ∙ sym y.1)

module _ (p : Program) (ns ms : Numbering) (f g : Facts) (o : AreOfOne p ns ms f g) where
  -- METHODS

  part_same : (P Q : MethodText → List ℕ) (m : MethodId) → ((t u : MethodText) → slice_get f.methods m.0 ≡ Some t → AlikeTexts t u → P t ≡ Q u) →
      part_of f P m ≡ part_of g Q m
  part_same P Q m same = by_text (slice_get f.methods m.0) (slice_get g.methods m.0) refl refl
    where
      by_text : (x y : Option MethodText) → slice_get f.methods m.0 ≡ x → slice_get g.methods m.0 ≡ y → part_of f P m ≡ part_of g Q m
      by_text (Some t) y at there = let u = text_there p ns ms f g o m t at in rw (at, u.1) (same t u.0 at u.2)
      by_text None (Some u) at there = let t = text_there p ms ns g f (turned p ns ms f g o) m u there in absurd (cc (at, t.1))
      by_text None None at there = rw (at, there) refl

  class_same : (m : MethodId) (t u : MethodText) → slice_get f.methods m.0 ≡ Some t → AlikeTexts t u → get_or f.classes t.class.0 [] ≡ get_or g.classes u.class.0 []
  class_same m t u at alike =
      let name = index_at f.classes t.class.0 (f.method_classes m.0 t at) in
      get_or_from_slice_get f.classes t.class.0 name.0 [] name.1
      ∙ sym (get_or_from_slice_get g.classes t.class.0 name.0 [] (class_there p ns ms f g o name.0 t.class name.1))
      ∙ ap (λ z. get_or g.classes z.0 []) alike.class

  words_same : (m : MethodId) → method_words f m ≡ method_words g m
  words_same m =
      let class = part_same (λ t. get_or f.classes t.class.0 []) (λ t. get_or g.classes t.class.0 []) m (class_same m) in
      let name = part_same (λ t. t.name) (λ t. t.name) m (λ t u at alike. alike.name) in
      let descriptor = part_same (λ t. t.descriptor) (λ t. t.descriptor) m (λ t u at alike. alike.descriptor) in
      rw (class, name, descriptor) refl

  -- STATEMENTS, LINES AND SITES

  place_same : (s : Statement) → place_words f s ≡ place_words g s
  place_same s = ap (λ z. z ++ (codes " " ++ decimal s.pc)) (words_same s.method)

  lines_same : (s : Statement) → IsStatement f s → line_of f s ≡ line_of g s
  lines_same s (t, at, (k, x, here, pc)) =
      let line : HasLine f s x.1 = (t, at, (k, x, here, pc, refl)) in
      sym (line_is f s x.1 line) ∙ line_is g s x.1 (line_there p ns ms f g o s x.1 line)

  statement_same : (s : Statement) → IsStatement f s → statement_line f s ≡ statement_line g s
  statement_same s is =
      ap (λ z. z ++ (codes " " ++ (line_word (line_of f s) ++ codes "\n"))) (place_same s)
      ∙ ap (λ z. place_words g s ++ (codes " " ++ (line_word z ++ codes "\n"))) (lines_same s is)

  line_same : (m : MethodId) (line : Option ℕ) → line_line f m line ≡ line_line g m line
  line_same m line = ap (λ z. z ++ (codes " " ++ (line_word line ++ codes "\n"))) (words_same m)

  stand_same : (place : Option Statement) → site_place f place ≡ site_place g place
  stand_same None = refl
  stand_same (Some s) = place_same s

  site_same : (h : SiteId) → h.0 < length f.sites → site_line f h ≡ site_line g h
  site_same h lt =
      let site = (o.first.sites h).0 lt in
      let x = index_at f.sites h.0 lt in
      let y = index_at g.sites h.0 ((o.second.sites h).1 site) in
      let name = o.first.site_names site.0 h x.0 site.1 x.1 in
      let other = o.second.site_names site.0 h y.0 site.1 y.1 in
      let place = one_place_of site.0 x.0.place y.0.place x.0.k y.0.k name.1 other.1 in
      let class : x.0.class ≡ y.0.class = name.0.2 ∙ ap constant_text (one_type p o.known site.0 name.0.0 other.0.0 name.0.1 other.0.1) ∙ sym other.0.2 in
      sym (site_is f h x.0 x.0.class x.0.place x.0.k x.1 refl refl refl)
      ∙ ap (λ z. printed x.0.class ++ (codes " " ++ (z ++ (codes " " ++ (decimal x.0.k ++ codes "\n"))))) (stand_same x.0.place)
      ∙ site_is g h y.0 x.0.class x.0.place x.0.k y.1 class place.0 place.1

  -- ANSWERS

  statements_same : (word : List ℕ) (ss : List Statement) → All (IsStatement f) ss → statements_text f word ss ≡ statements_text g word ss
  statements_same word ss all = ap (λ z. counted word (length ss) ++ z) (same_texts (statement_line f) (statement_line g) (IsStatement f) statement_same ss all)

  sites_same : (hs : List SiteId) → All (λ (h : SiteId). h.0 < length f.sites) hs → sites_text f hs ≡ sites_text g hs
  sites_same hs all = ap (λ z. counted (codes "objects") (length hs) ++ z) (same_texts (site_line f) (site_line g) (λ h. h.0 < length f.sites) site_same hs all)

  pub text_same : (a : Answer) → IsOfFacts f a → text f a ≡ text g a
  text_same Done of = refl
  text_same (Statements ss) of = statements_same (codes "statements") ss of
  text_same (Lines ls) of =
      ap (λ z. counted (codes "lines") (length ls) ++ z)
      (same_texts (λ (l : LinePlace). line_line f l.method l.line) (λ (l : LinePlace). line_line g l.method l.line) (λ l. Unit {0}) (λ l u. line_same l.method l.line) ls (λ k d lt. tt))
  text_same (Explained e) (objects, left, right) =
      ap (λ z. codes "explain\n" ++ (z ++ (statements_text f (codes "left") e.left ++ statements_text f (codes "right") e.right))) (sites_same e.objects objects)
      ∙ ap (λ z. codes "explain\n" ++ (sites_text g e.objects ++ (z ++ statements_text f (codes "right") e.right))) (statements_same (codes "left") e.left left)
      ∙ ap (λ z. codes "explain\n" ++ (sites_text g e.objects ++ (statements_text g (codes "left") e.left ++ z))) (statements_same (codes "right") e.right right)
  text_same (Error e) of = refl
