-- Look-ups in tables that are in order of their keys.
use Rattle.std.proofs.Common.{◌≡◌, ℕ, List, get_or, AllPairs, Some, None, Contains, refl, sym, ap, subst, ◌∙◌, inl, inr, arith}
use Rattle.std.specs.Prelude.{◌↔◌, slice_get}
use Rattle.std.specs.Cmp.{IsTotalOrder, nat_cmp_is}
use Rattle.std.specs.declared.cmp.Ordering.{Ordering}
use Rattle.std.specs.declared.cmp.Ordering.TheVariants.{Less, Equal, Greater}
use Rattle.std.specs.Ordering.{nat_cmp, ordering_then}
use Rattle.std.proofs.lemmas.Cmp.{nat_cmp_total, on_total, then_total, tied_itself}
use Rattle.std.proofs.lemmas.List.{get_or-map, length-map}
use Rattle.std.proofs.lemmas.Option.{none-some, same_Some}
use Rattle.slicer_ids.specs.Order.{StatementBefore}
use Rattle.slicer_ids.specs.declared.ids.MethodId.{MethodId}
use Rattle.slicer_ids.specs.declared.ids.Statement.{Statement}
use Rattle.class_form.specs.declared.body.Body.{Body}
use Rattle.class_form.proofs.Indices.{index_in, there_at}
use Rattle.dep_form.specs.Orders.{RiseBy, statement_cmp}
use Rattle.dep_form.specs.declared.rules.Var.{Var}
use Rattle.dep_form.proofs.Searching.{one_number, one_statement, statement_total}
use Rattle.variable_tables.specs.Numbers.{keys_of}
use Rattle.variable_tables.specs.Statements.{Rises}
use Rattle.variable_tables.specs.Members.{MethodRises, IsBodyMethod}
use Rattle.variable_tables.specs.Operands.{OperandBefore}
use Rattle.variable_tables.specs.LookUps.{place_cmp}
use Rattle.variable_tables.specs.declared.tables.OperandPlace.{OperandPlace}
use Rattle.variable_tables.proofs.Keys.{one_var}

module _ {K : Type 0} (R : K → K → Ordering) (total : IsTotalOrder R) (exact : (a b : K) → R a b ≡ Equal → a ≡ b) (B : K → K → Type 0) (less : (a b : K) → B a b → R a b ≡ Less) (table : List (K × Var)) where
  never : (k : K) → B k k → ⊥
  never k b = let tied = tied_itself total k in let first = less k k b in absurd (cc (sym first ∙ tied))

  pub rises : AllPairs B (keys_of table) → RiseBy R (λ (e : K × Var). e.0) table
  rises order i j d lt within =
      let first = get_or-map (λ (e : K × Var). e.0) table i d d.0 (omega (arith, lt, within)) in
      let second = get_or-map (λ (e : K × Var). e.0) table j d d.0 within in
      let pair = order i j d.0 lt (omega (arith, within, length-map table (λ (e : K × Var). e.0))) in
      less (get_or table i d).0 (get_or table j d).0 (subst (λ z. B (get_or table i d).0 z) second (subst (λ z. B z (get_or (keys_of table) j d.0)) first pair))

  pub found : AllPairs B (keys_of table) → (k : K) (i : ℕ) (y : K × Var) → slice_get table i ≡ Some y → R y.0 k ≡ Equal → (x : Var) → Contains table (k, x) ↔ (Some y.1 ≡ Some x)
  found order k i y there equal x =
      let same : y.0 ≡ k = exact y.0 k equal in
      let here : Contains table (k, y.1) = subst (λ z. Contains table (z, y.1)) same (there_at table i y there) in (
        λ c. ap (λ z. Some z) (one_var table B never order k y.1 x here c),
        λ e. subst (λ z. Contains table (k, z)) (same_Some y.1 x e) here,
      )

  pub missed : (k : K) → ((i : ℕ) (y : K × Var) → slice_get table i ≡ Some y → R y.0 k ≡ Equal → ⊥) → (x : Var) → Contains table (k, x) ↔ (None ≡ Some x)
  missed k nowhere x = (
    λ c. let (i, there) = index_in table (k, x) c in absurd (nowhere i (k, x) there (tied_itself total k)),
    λ e. absurd (none-some x e),
  )

pub number_less : (a b : ℕ) → Rises a b → nat_cmp a b ≡ Less
number_less a b lt = sym (nat_cmp_is a b Less lt)

pub statement_less : (a b : Statement) → StatementBefore a b → statement_cmp a b ≡ Less
statement_less a b (inl lt) = ap (λ o. ordering_then o (nat_cmp a.pc b.pc)) (number_less a.method.0 b.method.0 lt)
statement_less a b (inr (e, lt)) =
    ap (λ (m : MethodId). ordering_then (nat_cmp m.0 b.method.0) (nat_cmp a.pc b.pc)) e
    ∙ ap (λ o. ordering_then o (nat_cmp a.pc b.pc)) (tied_itself nat_cmp_total b.method.0)
    ∙ number_less a.pc b.pc lt

pub place_total : IsTotalOrder place_cmp
place_total = then_total (on_total (λ (k : OperandPlace). k.statement) statement_total) (on_total (λ (k : OperandPlace). k.operand) nat_cmp_total)

both_equal : (o p : Ordering) → ordering_then o p ≡ Equal → (o ≡ Equal) × (p ≡ Equal)
both_equal Less p e = absurd cc
both_equal Equal p e = (refl, e)
both_equal Greater p e = absurd cc

pub one_place : (a b : OperandPlace) → place_cmp a b ≡ Equal → a ≡ b
one_place a b e =
    let h = both_equal _ _ e in
    ap (λ s. record { statement = s; operand = a.operand }) (one_statement _ _ h.0) ∙ ap (λ n. record { statement = b.statement; operand = n }) (one_number _ _ h.1)

pub place_less : (a b : OperandPlace) → OperandBefore a b → place_cmp a b ≡ Less
place_less a b (inl before) = ap (λ o. ordering_then o (nat_cmp a.operand b.operand)) (statement_less a.statement b.statement before)
place_less a b (inr (e, lt)) =
    ap (λ (s : Statement). ordering_then (statement_cmp s b.statement) (nat_cmp a.operand b.operand)) e
    ∙ ap (λ o. ordering_then o (nat_cmp a.operand b.operand)) (tied_itself statement_total b.statement)
    ∙ number_less a.operand b.operand lt

-- bodies by their methods
pub methods_rise : (bodies : List Body) → AllPairs MethodRises bodies → RiseBy nat_cmp (λ (b : Body). b.method.0) bodies
methods_rise bodies order i j d lt within = number_less (get_or bodies i d).method.0 (get_or bodies j d).method.0 (order i j d lt within)

pub no_body : (bodies : List Body) (m : MethodId) → ((k : ℕ) (b : Body) → slice_get bodies k ≡ Some b → nat_cmp b.method.0 m.0 ≡ Equal → ⊥) → IsBodyMethod bodies m → ⊥
no_body bodies m nowhere (b, among, e) =
    let (k, at) = index_in bodies b among in
    nowhere k b at (ap (λ (n : MethodId). nat_cmp n.0 m.0) e ∙ tied_itself nat_cmp_total m.0)
