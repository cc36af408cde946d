-- The line of a statement is the one that is listed for its program counter.
use Rattle.std.proofs.Common.{◌≡◌, ◌<◌, ℕ, zero, suc, List, [], ◌∷◌, length, Option, Some, None, true, false, refl, sym, ap, subst, ◌∙◌, arith}
use Rattle.std.specs.Prelude.{slice_get, ◌==◌, nat_eq, AllPairs, get_or}
use Rattle.std.specs.Ordering.{nat_cmp}
use Rattle.std.proofs.lemmas.Option.{same_Some, slice_get_within, get_or_from_slice_get}
use Rattle.std.proofs.lemmas.Cmp.{nat_cmp_total, tied_itself}
use Rattle.std.specs.declared.cmp.Ordering.TheVariants.{Less, Equal}
use Rattle.std.proofs.lemmas.Bool.Decides.{nat_tests}
use Rattle.std.proofs.lemmas.Bool.{ne_eqb}
use Rattle.slicer_ids.specs.declared.ids.SiteId.{SiteId}
use Rattle.slicer_ids.specs.declared.ids.Statement.{Statement}
use Rattle.dep_form.specs.declared.facts.Facts.{Facts}
use Rattle.dep_form.specs.declared.texts.MethodText.{MethodText}
use Rattle.dep_form.specs.declared.texts.SiteName.{SiteName}
use Rattle.dep_form.specs.LookUps.{HasLine, HasLineIn}
use Rattle.dep_form.specs.Orders.{RiseBy}
use Rattle.report.specs.Texts.{line_at, line_of_text, line_of, site_words, name_line, site_line}

rise_rest : (x : ℕ × Option ℕ) (xs : List (ℕ × Option ℕ)) → RiseBy nat_cmp (λ (y : ℕ × Option ℕ). y.0) (x ∷ xs) → RiseBy nat_cmp (λ (y : ℕ × Option ℕ). y.0) xs
rise_rest x xs rise = λ i j d lt within. rise (suc i) (suc j) d (omega (arith, lt)) (omega (arith, within))

-- the first item's program counter is another than that of each later one
differs : (y x : ℕ × Option ℕ) (xs : List (ℕ × Option ℕ)) (k : ℕ) → RiseBy nat_cmp (λ (z : ℕ × Option ℕ). z.0) (y ∷ xs) → slice_get xs k ≡ Some x → y.0 ≡ x.0 → ⊥
differs y x xs k rise at e =
    let less : nat_cmp y.0 (get_or xs k x).0 ≡ Less = rise 0 (suc k) x (omega arith) (omega (arith, slice_get_within xs k x at)) in
    let same : nat_cmp y.0 y.0 ≡ Less = ap (nat_cmp y.0) (e ∙ ap (λ (z : ℕ × Option ℕ). z.0) (sym (get_or_from_slice_get xs k x x at))) ∙ less in
    let tied : nat_cmp y.0 y.0 ≡ Equal = tied_itself nat_cmp_total y.0 in
    absurd (cc (same, tied))

line_here : (xs : List (ℕ × Option ℕ)) (k : ℕ) (x : ℕ × Option ℕ) → RiseBy nat_cmp (λ (z : ℕ × Option ℕ). z.0) xs → slice_get xs k ≡ Some x → line_at xs x.0 ≡ x.1
line_here [] k x rise at = absurd (omega (arith, slice_get_within [] k x at))
line_here (y ∷ xs) zero x rise at =
    let same : (x.0 == x.0) ≡ true = grind (arith, nat_tests) in
    subst (λ (z : ℕ × Option ℕ). line_at (z ∷ xs) x.0 ≡ x.1) (sym (same_Some y x at)) (rw same refl)
line_here (y ∷ xs) (suc k) x rise at =
    let other : (y.0 == x.0) ≡ false = ne_eqb y.0 x.0 (differs y x xs k rise at) in
    rw other (line_here xs k x (rise_rest y xs rise) at)

pub line_is : (f : Facts) (s : Statement) (line : Option ℕ) → HasLine f s line → line ≡ line_of f s
line_is f s line (t, at, (k, x, here, pc, is)) =
    sym is ∙ sym (line_here t.lines k x t.lines_rise here) ∙ ap (line_at t.lines) pc ∙ of_method (slice_get f.methods s.method.0) at
  where
    of_method : (o : Option MethodText) → o ≡ Some t → line_at t.lines s.pc ≡ line_of_text o s.pc
    of_method (Some u) e = ap (λ (v : MethodText). line_at v.lines s.pc) (sym (same_Some u t e))
    of_method None e = absurd cc

-- the text of a site by its parts
pub site_is : (f : Facts) (s : SiteId) (n : SiteName) (class : List ℕ) (place : Option Statement) (k : ℕ) → slice_get f.sites s.0 ≡ Some n → class ≡ n.class → place ≡ n.place
    → k ≡ n.k → site_words f class place k ≡ site_line f s
site_is f s n class place k at a b c =
    ap (λ x. site_words f x place k) a ∙ ap (λ x. site_words f n.class x k) b ∙ ap (λ x. site_words f n.class n.place x) c ∙ ap (name_line f) (sym at)
