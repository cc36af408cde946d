-- The orders of sites, statements and lines: one of two comes first, or both are one.
use Rattle.std.proofs.Common.{◌≡◌, ◌⊎◌, ℕ, Option, Some, None, inl, inr, refl, sym, ap, ◌∙◌, arith}
use Rattle.std.proofs.lemmas.Bool.{cases_order}
use Rattle.slicer_ids.specs.Order.{StatementBefore, SiteBefore}
use Rattle.slicer_ids.specs.declared.ids.MethodId.{MethodId}
use Rattle.slicer_ids.specs.declared.ids.SiteId.{SiteId}
use Rattle.slicer_ids.specs.declared.ids.Statement.{Statement}
use Rattle.report.specs.declared.reply.LinePlace.{LinePlace}
use Rattle.session_form.specs.States.{IsLesserLine, LineBefore}
use Rattle.session_form.proofs.SomePlaces.{is_statement}

pub site_first : (a b : SiteId) → SiteBefore a b ⊎ ((a ≡ b) ⊎ SiteBefore b a)
site_first a b = elim (cases_order a.0 b.0) [
  | inl e ↦ inr (inl (ap (λ n. record { 0 = n }) e))
  | inr o ↦ elim o [ inl lt ↦ inl lt | inr gt ↦ inr (inr gt) ]
]

pub site_trans : (a b c : SiteId) → SiteBefore a b → SiteBefore b c → SiteBefore a c
site_trans a b c h g = omega (arith, h, g)

pub statement_first : (a b : Statement) → StatementBefore a b ⊎ ((a ≡ b) ⊎ StatementBefore b a)
statement_first a b = elim (cases_order a.method.0 b.method.0) [
  | inl e ↦
      let m : a.method ≡ b.method = ap (λ n. record { 0 = n }) e in
      elim (cases_order a.pc b.pc) [ inl pc ↦ inr (inl (is_statement a b m pc)) | inr o ↦ elim o [ inl lt ↦ inl (inr (m, lt)) | inr gt ↦ inr (inr (inr (sym m, gt))) ] ]
  | inr o ↦ elim o [ inl lt ↦ inl (inl lt) | inr gt ↦ inr (inr (inl gt)) ]
]

pub statement_trans : (a b c : Statement) → StatementBefore a b → StatementBefore b c → StatementBefore a c
statement_trans a b c (inl h) (inl g) = inl (omega (arith, h, g))
statement_trans a b c (inl h) (inr (e, g)) = inl (omega (arith, h, ap (λ (m : MethodId). m.0) e))
statement_trans a b c (inr (e, h)) (inl g) = inl (omega (arith, g, ap (λ (m : MethodId). m.0) e))
statement_trans a b c (inr (d, h)) (inr (e, g)) = inr (d ∙ e, omega (arith, h, g))

lesser : (l m : Option ℕ) → IsLesserLine l m ⊎ ((l ≡ m) ⊎ IsLesserLine m l)
lesser None None = inr (inl refl)
lesser None (Some m) = inl tt
lesser (Some l) None = inr (inr tt)
lesser (Some l) (Some m) = elim (cases_order l m) [ inl e ↦ inr (inl (ap (λ k. Some k) e)) | inr o ↦ elim o [ inl lt ↦ inl lt | inr gt ↦ inr (inr gt) ] ]

lesser_trans : (l m n : Option ℕ) → IsLesserLine l m → IsLesserLine m n → IsLesserLine l n
lesser_trans None None n h g = absurd h
lesser_trans None (Some m) None h g = absurd g
lesser_trans None (Some m) (Some n) h g = tt
lesser_trans (Some l) None n h g = absurd h
lesser_trans (Some l) (Some m) None h g = absurd g
lesser_trans (Some l) (Some m) (Some n) h g = omega (arith, h, g)

is_line : (a b : LinePlace) → a.method ≡ b.method → a.line ≡ b.line → a ≡ b
is_line a b m l = ap (λ (x : MethodId). record { method = x; line = a.line }) m ∙ ap (λ (k : Option ℕ). record { method = b.method; line = k }) l

pub line_first : (a b : LinePlace) → LineBefore a b ⊎ ((a ≡ b) ⊎ LineBefore b a)
line_first a b = elim (cases_order a.method.0 b.method.0) [
  | inl e ↦
      let m : a.method ≡ b.method = ap (λ n. record { 0 = n }) e in
      elim (lesser a.line b.line) [ inl lt ↦ inl (inr (m, lt)) | inr o ↦ elim o [ inl l ↦ inr (inl (is_line a b m l)) | inr gt ↦ inr (inr (inr (sym m, gt))) ] ]
  | inr o ↦ elim o [ inl lt ↦ inl (inl lt) | inr gt ↦ inr (inr (inl gt)) ]
]

pub line_trans : (a b c : LinePlace) → LineBefore a b → LineBefore b c → LineBefore a c
line_trans a b c (inl h) (inl g) = inl (omega (arith, h, g))
line_trans a b c (inl h) (inr (e, g)) = inl (omega (arith, h, ap (λ (m : MethodId). m.0) e))
line_trans a b c (inr (e, h)) (inl g) = inl (omega (arith, g, ap (λ (m : MethodId). m.0) e))
line_trans a b c (inr (d, h)) (inr (e, g)) = inr (d ∙ e, lesser_trans a.line b.line c.line h g)
