-- Calls, and signatures, by number.
use Rattle.std.proofs.Common.{◌≡◌, ◌⊎◌, ◌<◌, ◌≤◌, ℕ, List, length, map, AllPairs, Contains, Option, Some, None, inl, inr, refl, sym, ap, subst, ◌∙◌, arith, get_or}
use Rattle.std.specs.Prelude.{◌↔◌, slice_get, option_map}
use Rattle.std.proofs.lemmas.Option.{same_Some, slice_get-map}
use Rattle.std.specs.Cmp.{nat_cmp_is}
use Rattle.std.specs.declared.cmp.Ordering.TheVariants.{Less, Equal}
use Rattle.std.specs.Ordering.{nat_cmp, ordering_then}
use Rattle.std.proofs.lemmas.Cmp.{nat_cmp_total, tied_itself}
use Rattle.std.proofs.lemmas.List.{get_or-map, length-map}
use Rattle.dep_form.specs.Orders.{RiseBy, statement_cmp}
use Rattle.dep_form.proofs.Searching.{statement_total}
use Rattle.slicer_ids.specs.declared.ids.MethodId.{MethodId}
use Rattle.slicer_ids.specs.Order.{StatementBefore}
use Rattle.slicer_ids.specs.Sets.{IsOrderedListOf}
use Rattle.slicer_ids.specs.declared.ids.CallId.{CallId}
use Rattle.slicer_ids.specs.declared.ids.Statement.{Statement}
use Rattle.slicer_ids.proofs.Ordered.{one_ordered}
use Rattle.class_form.specs.Pools.{MemberKey, member_at}
use Rattle.class_form.proofs.Indices.{there_at}
use Rattle.dep_form.specs.declared.call_site.CallSite.{CallSite}
use Rattle.dep_form.specs.declared.rules.Rule.{Rule}
use Rattle.dep_form.specs.declared.rules.Rule.TheVariants.{Virtual, OutsideDirect}
use Rattle.dep_form.specs.declared.rules.Var.{Var}
use Rattle.dep_form.specs.declared.system.System.{System}
use Rattle.program_form.specs.Programs.{Program}
use Rattle.program_form.specs.Statements.{NamesMember}
use Rattle.program_form.specs.Systems.{CallNumber, ForeignBefore}
use Rattle.constraint_form.specs.Signatures.{SignatureNumber, IsSignature}
use Rattle.constraint_form.specs.Variables.{Meaning}
use Rattle.constraint_form.proofs.Instructions.{one_member}
use Rattle.constraint_form.proofs.OnePlace.{one_place}
use Rattle.constraint_form.proofs.SiteNumbers.{foreign_asym, statement_asym}
use Rattle.signature_tables.specs.TextPairs.{pair_of}
use Rattle.variable_tables.specs.Numbers.{keys_of}
use Rattle.variable_tables.specs.Tables.{HasVariables, thrown_by_call, thrown_by_entry}
use Rattle.variable_tables.specs.declared.tables.VariableTables.{VariableTables}
use Rattle.constraint_rules.specs.One.{IsOne, IsFound}
use Rattle.constraint_rules.specs.Forms.{OutsideOf, VirtualOf}
use Rattle.constraint_rules.specs.Settings.{IsSetting, IsPlaced, place_of}
use Rattle.constraint_rules.specs.Statements.{IsSignatureAt}
use Rattle.constraint_rules.specs.declared.tables.Tables.{Tables}
use Rattle.constraint_rules.specs.declared.tables.Reachable.{Reachable}
use Rattle.constraint_rules.proofs.Ones.{none_of, some_of, one_same}
use Rattle.constraint_rules.proofs.OfNames.{named_here, key_here}

module _ (s : System) (t : VariableTables) (has : HasVariables s t) where
  -- a call of the system stands for an entry of the table of what calls throw
  number_to : (u : Statement) (c : CallId) → CallNumber s u c → (x : Var) × (slice_get t.exceptions c.0 ≡ Some (u, x))
  number_to u c (k, is, place) =
      let there : slice_get (map thrown_by_call s.calls) c.0 ≡ Some (k.place, k.exception) = slice_get-map thrown_by_call s.calls c.0 ∙ ap (λ o. option_map thrown_by_call o) is in
      let here : option_map thrown_by_entry (slice_get t.exceptions c.0) ≡ Some (Some u, k.exception) =
      sym (slice_get-map thrown_by_entry t.exceptions c.0) ∙ subst (λ xs. slice_get xs c.0 ≡ Some (k.place, k.exception)) has.exceptions there ∙ ap (λ z. Some (z, k.exception)) place in
      entry_of (slice_get t.exceptions c.0) k.exception here
    where
      entry_of : (o : Option (Statement × Var)) (z : Var) → option_map thrown_by_entry o ≡ Some (Some u, z) → (x : Var) × (o ≡ Some (u, x))
      entry_of None z e = absurd (cc e)
      entry_of (Some w) z e =
          let both = same_Some (thrown_by_entry w) (Some u, z) e in
          let first : w.0 ≡ u = same_Some w.0 u (ap (λ (q : Option Statement × Var). q.0) both) in
          (w.1, ap (λ q. Some (q, w.1)) first)

  number_from : (u : Statement) (i : ℕ) (x : Var) → slice_get t.exceptions i ≡ Some (u, x) → CallNumber s u (record { 0 = i })
  number_from u i x at =
      let there : slice_get (map thrown_by_entry t.exceptions) i ≡ Some (Some u, x) = slice_get-map thrown_by_entry t.exceptions i ∙ ap (λ o. option_map thrown_by_entry o) at in
      let here : option_map thrown_by_call (slice_get s.calls i) ≡ Some (Some u, x) =
      sym (slice_get-map thrown_by_call s.calls i) ∙ subst (λ xs. slice_get xs i ≡ Some (Some u, x)) (sym has.exceptions) there in
      call_of (slice_get s.calls i) here
    where
      call_of : (o : Option CallSite) → option_map thrown_by_call o ≡ Some (Some u, x) → (k : CallSite) × (o ≡ Some k) × (k.place ≡ Some u)
      call_of None e = absurd (cc e)
      call_of (Some k) e = (k, refl, ap (λ (q : Option Statement × Var). q.0) (same_Some (thrown_by_call k) (Some u, x) e))

  module _ (order : AllPairs StatementBefore (keys_of t.exceptions)) where
    key_at : (u : Statement) (i : ℕ) (x : Var) → slice_get t.exceptions i ≡ Some (u, x) → slice_get (keys_of t.exceptions) i ≡ Some u
    key_at u i x at = slice_get-map (λ (e : Statement × Var). e.0) t.exceptions i ∙ ap (λ o. option_map (λ (e : Statement × Var). e.0) o) at

    pub call_found : (u : Statement) (i : ℕ) (x : Var) → slice_get t.exceptions i ≡ Some (u, x) → IsOne (CallNumber s u) (Some (record { 0 = i }))
    call_found u i x at = some_of (CallNumber s u) (record { 0 = i }) (number_from u i x at) (λ c n.
        let (y, there) = number_to u c n in
        ap (λ k. record { 0 = k }) (one_place StatementBefore (keys_of t.exceptions) order (λ z v. statement_asym z z v v) i c.0 u (key_at u i x at) (key_at u c.0 y there)))

    pub call_at : (u : Statement) (i : ℕ) (y : Statement × Var) → slice_get t.exceptions i ≡ Some y → y.0 ≡ u → IsOne (CallNumber s u) (Some (record { 0 = i }))
    call_at u i y at e = call_found u i y.1 (at ∙ ap (λ z. Some (z, y.1)) e)

    pub call_missed : (u : Statement) → ((i : ℕ) (x : Var) → slice_get t.exceptions i ≡ Some (u, x) → ⊥) → IsOne (CallNumber s u) None
    call_missed u never = none_of (CallNumber s u) (λ c n. let (y, there) = number_to u c n in never c.0 y there)

-- ---- signatures
module _ (t : Tables) (p : Program) (s : System) (names : List Meaning) (set : IsSetting t p s names) (key : MemberKey) where
  abbrev signatures : List (List ℕ × List ℕ)
  signatures = map pair_of t.signatures.now

  one_list : (gs : List (List ℕ × List ℕ)) → IsOrderedListOf ForeignBefore gs (IsSignature p) → gs ≡ signatures
  one_list gs o = one_ordered ForeignBefore (IsSignature p) gs signatures (λ x y u v. foreign_asym x y) o set.signatures

  pub signature_found : (k : ℕ) → slice_get (map pair_of t.signatures.now) k ≡ Some (key.name, key.descriptor) → IsOne (SignatureNumber p key) (Some k)
  signature_found k at = some_of (SignatureNumber p key) k (signatures, set.signatures, at) (λ g (gs, o, there).
      one_place ForeignBefore signatures set.signatures.order (λ x u. foreign_asym x x u u) k g (key.name, key.descriptor) at
      (subst (λ zs. slice_get zs g ≡ Some (key.name, key.descriptor)) (one_list gs o) there))

  pub signature_missed : (Contains (map pair_of t.signatures.now) (key.name, key.descriptor) → ⊥) → IsOne (SignatureNumber p key) None
  signature_missed never = none_of (SignatureNumber p key) (λ g (gs, o, there). never (subst (λ zs. Contains zs (key.name, key.descriptor)) (one_list gs o) (there_at gs g (key.name, key.descriptor) there)))

module _ (t : Tables) (x : Reachable) (p : Program) (s : System) (names : List Meaning) (set : IsSetting t p s names) (placed : IsPlaced p x) where
  pub signature_named : (key : MemberKey) (o : Option ℕ) → member_at x.file.now.pool x.instr.now.index ≡ Some key → IsOne (SignatureNumber p key) o → IsOne (IsSignatureAt p (place_of x)) o
  signature_named key o e one = one_same (SignatureNumber p key) (IsSignatureAt p (place_of x)) o (λ g h. (key, named_here t x p s names set placed key e, h)) (λ g (other, m, h).
      subst (λ z. SignatureNumber p z g) (one_member p set.of.read (place_of x) other key m (named_here t x p s names set placed key e)) h) one

  pub no_signature_named : member_at x.file.now.pool x.instr.now.index ≡ None → IsOne (IsSignatureAt p (place_of x)) None
  no_signature_named e = none_of (IsSignatureAt p (place_of x)) (λ g (key, m, h). let f : None ≡ Some key = sym e ∙ key_here t x p s names set placed key m in cc f)

-- ---- forms
pub outside_one : (C : CallId → Type 0) (c : Option CallId) (o : Option Rule) → IsOne C c → IsOne (OutsideOf (IsFound c)) o → IsOne (OutsideOf C) o
outside_one C c o x one = one_same (OutsideOf (IsFound c)) (OutsideOf C) o (λ r (k, call, e). (k, (x k).1 call, e)) (λ r (k, call, e). (k, (x k).0 call, e)) one

pub virtual_one : (C : CallId → Type 0) (G : ℕ → Type 0) (c : Option CallId) (g : Option ℕ) (o : Option Rule) → IsOne C c → IsOne G g → IsOne (VirtualOf (IsFound c) (IsFound g)) o
    → IsOne (VirtualOf C G) o
virtual_one C G c g o x y one = one_same (VirtualOf (IsFound c) (IsFound g)) (VirtualOf C G) o
    (λ r (k, n, call, number, e). (k, n, (x k).1 call, (y n).1 number, e)) (λ r (k, n, call, number, e). (k, n, (x k).0 call, (y n).0 number, e)) one

-- ---- the table of what calls throw, in order of its statements
statement_less : (a b : Statement) → StatementBefore a b → statement_cmp a b ≡ Less
statement_less a b (inl lt) = ap (λ o. ordering_then o (nat_cmp a.pc b.pc)) (sym (nat_cmp_is a.method.0 b.method.0 Less lt))
statement_less a b (inr (e, lt)) =
    ap (λ (m : MethodId). ordering_then (nat_cmp m.0 b.method.0) (nat_cmp a.pc b.pc)) e
    ∙ ap (λ o. ordering_then o (nat_cmp a.pc b.pc)) (tied_itself nat_cmp_total b.method.0)
    ∙ sym (nat_cmp_is a.pc b.pc Less lt)

pub exceptions_rise : (table : List (Statement × Var)) → AllPairs StatementBefore (keys_of table) → RiseBy statement_cmp (λ (e : Statement × Var). e.0) table
exceptions_rise table order i j d lt within =
    let first = get_or-map (λ (e : Statement × Var). e.0) table i d d.0 (omega (arith, lt, within)) in
    let second = get_or-map (λ (e : Statement × Var). e.0) table j d d.0 within in
    let pair = order i j d.0 lt (omega (arith, within, length-map table (λ (e : Statement × Var). e.0))) in
    statement_less (get_or table i d).0 (get_or table j d).0 (subst (λ z. StatementBefore (get_or table i d).0 z) second (subst (λ z. StatementBefore z (get_or (keys_of table) j d.0)) first pair))

pub no_entry : (table : List (Statement × Var)) (u : Statement) → ((i : ℕ) (y : Statement × Var) → slice_get table i ≡ Some y → statement_cmp y.0 u ≡ Equal → ⊥)
    → (i : ℕ) (x : Var) → slice_get table i ≡ Some (u, x) → ⊥
no_entry table u nowhere i x at = nowhere i (u, x) at (tied_itself statement_total u)
