-- The tables are the variables of the program.
use Rattle.std.proofs.Common.{◌≡◌, ◌≢◌, ◌<◌, ◌+◌, ℕ, zero, suc, List, [], ◌∷◌, length, get_or, AllPairs, Some, Contains, refl, sym, ap, subst, ◌∙◌, inl, inr, arith}
use Rattle.std.specs.Prelude.{slice_get}
use Rattle.std.proofs.lemmas.Option.{same_Some, none-some, slice_get_within, slice_get-get_or}
use Rattle.std.proofs.lemmas.List.Elements.{All-contains}
use Rattle.slicer_ids.specs.Sets.{IsOrderedListOf}
use Rattle.slicer_ids.specs.Order.{StatementBefore}
use Rattle.slicer_ids.specs.declared.ids.MethodId.{MethodId}
use Rattle.slicer_ids.specs.declared.ids.Statement.{Statement}
use Rattle.class_form.specs.Opcodes.{IsCall}
use Rattle.class_form.specs.declared.class_file.CodeBody.{CodeBody}
use Rattle.class_form.specs.declared.body.Def.{Def}
use Rattle.class_form.proofs.Indices.{index_in, index_at, there_at}
use Rattle.dep_form.specs.declared.rules.Var.{Var}
use Rattle.dep_form.specs.declared.rules.MethodVars.{MethodVars}
use Rattle.dep_form.specs.declared.system.System.{System}
use Rattle.program_form.specs.Programs.{Program, CodeOf, HasFormal}
use Rattle.program_form.specs.Statements.{HasOpcode, OperandIs}
use Rattle.program_form.specs.Facts.{Variable, variable_of, ValueOf, ArgumentOf, ResultOf, ThrownBy, CaughtAt, ExceptionOf, StaticField, StaticNamed}
use Rattle.program_form.specs.Nodes.{at}
use Rattle.program_form.specs.Systems.{IsForeignStatic, ForeignBefore, VariableNumber, of_value, of_argument, of_result, of_thrown, of_caught, of_exception, of_field, of_foreign}
use Rattle.constraint_form.specs.Asked.{IsReadProgram}
use Rattle.constraint_form.specs.Variables.{Meaning, Named, Operand, StandsFor, MakesObject, IsVariable, ReadsObject, AreVariables, OperandNumber, of_definition, of_operand}
use Rattle.constraint_form.proofs.Instructions.{in_range}
use Rattle.constraint_form.proofs.OnePlace.{one_place}
use Rattle.constraint_form.proofs.SiteNumbers.{foreign_asym, statement_asym}
use Rattle.slicer_ids.proofs.Ordered.{one_ordered}
use Rattle.variable_tables.specs.declared.tables.OperandPlace.{OperandPlace}
use Rattle.variable_tables.specs.declared.tables.VariableTables.{VariableTables}
use Rattle.variable_tables.specs.Numbers.{keys_of}
use Rattle.variable_tables.specs.Statements.{Rises}
use Rattle.variable_tables.specs.Operands.{OperandBefore, IsRead, HasDefinition}
use Rattle.variable_tables.specs.Tables.{AreNumbered, IsEntry, AreTables, HasVariables, AreNames}
use Rattle.variable_tables.proofs.Listing.{Listed, same_var}
use Rattle.variable_tables.proofs.Keys.{contains_key, has_key, one_var}
use Rattle.variable_tables.proofs.Naming.{entries_listed}
use Rattle.variable_tables.proofs.LookingUp.{of_system, to_system, def_from, def_to, exception_to, exception_from}

pub not_rises : (k : ℕ) → Rises k k → ⊥
not_rises k lt = omega (arith, lt)

pub not_statement : (t : Statement) → StatementBefore t t → ⊥
not_statement t b = statement_asym t t b b

pub not_operand : (k : OperandPlace) → OperandBefore k k → ⊥
not_operand k (inl b) = not_statement k.statement b
not_operand k (inr (e, lt)) = omega (arith, lt)

-- each method has a result
has_result : (n k : ℕ) (vs : List MethodVars) (i : ℕ) (v : MethodVars) → AreNumbered n vs k → slice_get vs i ≡ Some v → (x : Var) × (v.result ≡ Some x)
has_result n k [] i v numbered there = absurd (none-some v there)
has_result n k (w ∷ vs) zero v (j, first, rest) there = let (a, b, formals, answer, thrown, values, caught) = first in (record { 0 = a }, subst (λ (u : MethodVars). u.result ≡ Some (record { 0 = a })) (same_Some w v there) answer)
has_result n k (w ∷ vs) (suc i) v (j, first, rest) there = has_result j k vs i v rest there

module _ (p : Program) (asked : IsReadProgram p) (ns : List (List ℕ × List ℕ)) (foreign : IsOrderedListOf ForeignBefore ns (IsForeignStatic p)) (t : VariableTables) (tables : AreTables p (length ns) t) where
  abbrev Entry : Meaning → Var → Type 0
  Entry = IsEntry (length p.fields) ns t

  -- ---- of a method
  vars_at : (m : MethodId) → m.0 < length p.methods → (v : MethodVars) × (slice_get t.methods m.0 ≡ Some v)
  vars_at m lt = index_at t.methods m.0 (subst (λ n. m.0 < n) (sym tables.methods.count) lt)

  within : (m : MethodId) (v : MethodVars) → slice_get t.methods m.0 ≡ Some v → m.0 < length p.methods
  within m v there = subst (λ n. m.0 < n) tables.methods.count (slice_get_within t.methods m.0 v there)

  has_code : (m : MethodId) (c : CodeBody) → CodeOf p m c → m.0 < length p.methods
  has_code m c (d, x, n, b, method, code) = slice_get_within p.methods m.0 d method.0

  one_vars : (m : MethodId) (v w : MethodVars) → slice_get t.methods m.0 ≡ Some v → slice_get t.methods m.0 ≡ Some w → v ≡ w
  one_vars m v w a b = same_Some v w (sym a ∙ b)

  -- ---- a meaning has one number
  pub one_entry : (a : Meaning) (x y : Var) → Entry a x → Entry a y → x ≡ y
  one_entry (Named (StaticField f)) x y (lt, e) (gt, g) = same_var x y (e ∙ sym g)
  one_entry (Named (StaticNamed name descriptor)) x y (i, a, e) (j, b, g) =
      let same : i ≡ j = one_place ForeignBefore ns foreign.order (λ z u. foreign_asym z z u u) i j (name, descriptor) a b in
      same_var x y (e ∙ ap (λ k. length p.fields + k) same ∙ sym g)
  one_entry (Named (ArgumentOf m i)) x y (v, a, c) (w, b, d) =
      same_Some x y (sym c ∙ subst (λ (u : MethodVars). slice_get u.formals i ≡ Some y) (one_vars m w v b a) d)
  one_entry (Named (ResultOf m)) x y (v, a, c) (w, b, d) = same_Some x y (sym c ∙ subst (λ (u : MethodVars). u.result ≡ Some y) (one_vars m w v b a) d)
  one_entry (Named (ThrownBy m)) x y (v, a, c) (w, b, d) = sym c ∙ subst (λ (u : MethodVars). u.thrown ≡ y) (one_vars m w v b a) d
  one_entry (Named (ValueOf s)) x y (v, a, c) (w, b, d) =
      one_var v.values Rises not_rises (tables.methods.each s.method v a).values.order s.pc x y c (subst (λ (u : MethodVars). Contains u.values (s.pc, y)) (one_vars s.method w v b a) d)
  one_entry (Named (CaughtAt m h)) x y (v, a, c) (w, b, d) =
      one_var v.caught Rises not_rises (tables.methods.each m v a).caught.order h x y c (subst (λ (u : MethodVars). Contains u.caught (h, y)) (one_vars m w v b a) d)
  one_entry (Named (ExceptionOf s)) x y c d =
      let (n, numbered, behind) = tables.numbered in one_var t.exceptions StatementBefore not_statement behind.calls.order s x y c d
  one_entry (Operand s i) x y c d =
      let (n, numbered, behind) = tables.numbered in one_var t.operands OperandBefore not_operand behind.operands.order (record { statement = s; operand = i }) x y c d

  -- ---- what has a number is a variable, and the other way round
  is_variable : (v : Variable) (x : Var) → Entry (Named v) x → IsVariable p v
  is_variable (StaticField f) x (lt, e) = lt
  is_variable (StaticNamed name descriptor) x (i, there, e) = All-contains (IsForeignStatic p) ns (name, descriptor) foreign.each (there_at ns i (name, descriptor) there)
  is_variable (ArgumentOf m i) x (v, there, formal) = ((tables.methods.each m v there).formals i).1 (slice_get_within v.formals i x formal)
  is_variable (ResultOf m) x (v, there, answer) = within m v there
  is_variable (ThrownBy m) x (v, there, thrown) = within m v there
  is_variable (ValueOf s) x (v, there, c) =
      All-contains (λ pc. HasOpcode p (at s.method pc) MakesObject) (keys_of v.values) s.pc (tables.methods.each s.method v there).values.each (contains_key v.values s.pc x c)
  is_variable (CaughtAt m h) x (v, there, c) =
      All-contains (λ pc. IsVariable p (CaughtAt m pc)) (keys_of v.caught) h (tables.methods.each m v there).caught.each (contains_key v.caught h x c)
  is_variable (ExceptionOf s) x c =
      let (n, numbered, behind) = tables.numbered in All-contains (λ u. HasOpcode p u IsCall) (keys_of t.exceptions) s behind.calls.each (contains_key t.exceptions s x c)

  has_formal : (m : MethodId) (i : ℕ) → HasFormal p m i → m.0 < length p.methods
  has_formal m i (d, x, n, b, ty, method, type, range) = slice_get_within p.methods m.0 d method.0

  has_number : (v : Variable) → IsVariable p v → (x : Var) × Entry (Named v) x
  has_number (StaticField f) lt = (record { 0 = f.0 }, (lt, refl))
  has_number (StaticNamed name descriptor) is =
      let (i, there) = index_in ns (name, descriptor) (foreign.whole (name, descriptor) is) in
      (record { 0 = length p.fields + i }, (i, there, refl))
  has_number (ArgumentOf m i) is =
      let (v, there) = vars_at m (has_formal m i is) in
      let (x, formal) = index_at v.formals i (((tables.methods.each m v there).formals i).0 is) in
      (x, (v, there, formal))
  has_number (ResultOf m) lt =
      let (v, there) = vars_at m lt in
      let (n, numbered, behind) = tables.numbered in
      let (x, answer) = has_result (length p.fields + length ns) n t.methods m.0 v numbered there in
      (x, (v, there, answer))
  has_number (ThrownBy m) lt = let (v, there) = vars_at m lt in (v.thrown, (v, there, refl))
  has_number (ValueOf s) is =
      let (v, there) = vars_at s.method (in_range p asked s MakesObject is) in
      let (x, c) = has_key v.values s.pc ((tables.methods.each s.method v there).values.whole s.pc is) in
      (x, (v, there, c))
  has_number (CaughtAt m h) is =
      let (v, there) = vars_at m (has_code m is.0 is.2) in
      let (x, c) = has_key v.caught h ((tables.methods.each m v there).caught.whole h is) in
      (x, (v, there, c))
  has_number (ExceptionOf s) is =
      let (n, numbered, behind) = tables.numbered in has_key t.exceptions s (behind.calls.whole s is)

  -- ---- the numbers of a system with these variables
  module _ (s : System) (has : HasVariables s t) where
    pub number_to : (v : Variable) (x : Var) → VariableNumber p s v x → Entry (Named v) x
    number_to v x (of_value {t = u} {m} is c) = (m, of_system p s t has u.method m is, c)
    number_to v x (of_argument {n} {m = w} is c) = (w, of_system p s t has n w is, c)
    number_to v x (of_result {n} {m = w} is c) = (w, of_system p s t has n w is, c)
    number_to v x (of_thrown {n} {m = w} is c) = (w, of_system p s t has n w is, c)
    number_to v x (of_caught {n} {m = w} is c) = (w, of_system p s t has n w is, c)
    number_to v x (of_exception {t = u} c {k} is place e) = exception_to p s t has u x c.0 k is place e
    number_to v x (of_field lt e) = (lt, e)
    number_to v x (of_foreign {ns = ms} {name} {descriptor} i listed there e) =
        let same : ms ≡ ns = one_ordered ForeignBefore (IsForeignStatic p) ms ns (λ a b u w. foreign_asym a b) listed foreign in
        (i, subst (λ zs. slice_get zs i ≡ Some (name, descriptor)) same there, e)

    pub number_from : (v : Variable) (x : Var) → Entry (Named v) x → VariableNumber p s v x
    number_from (StaticField f) x (lt, e) = of_field lt e
    number_from (StaticNamed name descriptor) x (i, there, e) = of_foreign i foreign there e
    number_from (ArgumentOf m i) x (v, there, c) = of_argument (to_system p s t has m v there) c
    number_from (ResultOf m) x (v, there, c) = of_result (to_system p s t has m v there) c
    number_from (ThrownBy m) x (v, there, c) = of_thrown (to_system p s t has m v there) c
    number_from (ValueOf u) x (v, there, c) = of_value (to_system p s t has u.method v there) c
    number_from (CaughtAt m h) x (v, there, c) = of_caught (to_system p s t has m v there) c
    number_from (ExceptionOf u) x c = exception_from p s t has u x c

  -- ---- names
  module _ (l : Listed 0 t.vars Entry) where
    stands : (a : Meaning) (x : Var) → Entry a x → StandsFor l.names x a
    stands a x e =
        let (i, number, there) = (l.exact a x).0 e in
        let same : i ≡ x.0 = omega (arith, number) in
        subst (λ k. slice_get l.names k ≡ Some a) same there

    entry : (a : Meaning) (x : Var) → StandsFor l.names x a → Entry a x
    entry a x there = (l.exact a x).1 (x.0, omega arith, there)

    once : AllPairs (λ (a b : Meaning). a ≢ b) l.names
    once i j d lt within e =
        let a = get_or l.names j d in
        let first : slice_get l.names i ≡ Some a = slice_get-get_or l.names i d (omega (arith, lt, within)) ∙ ap (λ z. Some z) e in
        let second : slice_get l.names j ≡ Some a = slice_get-get_or l.names j d within in
        let same = one_entry a (record { 0 = i }) (record { 0 = j }) (entry a (record { 0 = i }) first) (entry a (record { 0 = j }) second) in
        let number : i ≡ j = ap (λ (x : Var). x.0) same in
        omega (arith, lt, number)

    number_of : (a : Meaning) → Contains l.names a → (x : Var) × Entry a x
    number_of a c = let (i, there) = index_in l.names a c in (record { 0 = i }, entry a (record { 0 = i }) there)

    variables_of : (s : System) → HasVariables s t → AreVariables p s l.names
    variables_of s has = record {
      count = has.vars ∙ omega (arith, l.count);
      once = once;
      numbers = λ v x n. stands (Named v) x (number_to s has v x n);
      whole = λ v is. let (x, e) = has_number v is in (x, number_from s has v x e);
      named = λ v c. let (x, e) = number_of (Named v) c in is_variable v x e;
      operands = λ u i r. operand_of u i r;
      read = λ u i c. read_of u i c;
      apart = λ u i d x c is only n. apart_of u i d x c is only n;
    }
      where
        operand_of : (u : Statement) (i : ℕ) → ReadsObject p u i → (x : Var) × OperandNumber p s l.names u i x
        operand_of u i r =
            let (n, numbered, behind) = tables.numbered in
            let k : OperandPlace = record { statement = u; operand = i } in
            elim (behind.operands.whole k r) [
              | inl c ↦ let (x, e) = has_key t.operands k c in (x, of_operand (stands (Operand u i) x e))
              | inr d ↦ (d.1, of_definition d.2.0 d.2.1 (def_from p s t has u.method d.0 d.1 d.3))
            ]

        read_of : (u : Statement) (i : ℕ) → Contains l.names (Operand u i) → ReadsObject p u i
        read_of u i c =
            let (n, numbered, behind) = tables.numbered in
            let k : OperandPlace = record { statement = u; operand = i } in
            let (x, e) = number_of (Operand u i) c in
            All-contains (IsRead p) (keys_of t.operands) k behind.operands.each (contains_key t.operands k x e)

        apart_of : (u : Statement) (i : ℕ) (d : Def) (x : Var) → Contains l.names (Operand u i) → OperandIs p u i d → ((e : Def) → OperandIs p u i e → e ≡ d)
            → VariableNumber p s (variable_of u.method d) x → ⊥
        apart_of u i d x c is only number =
            let (n, numbered, behind) = tables.numbered in
            let k : OperandPlace = record { statement = u; operand = i } in
            let (y, e) = number_of (Operand u i) c in
            All-contains (λ z. HasDefinition p t.methods z → ⊥) (keys_of t.operands) k behind.operands.apart (contains_key t.operands k y e) (d, x, (is, only), def_to p s t has u.method d x number)

    pub names_of : AreNames p t l.names
    names_of = record {
      variables = variables_of;
      own = λ k x. (λ there. entry (Operand k.statement k.operand) x there, λ c. stands (Operand k.statement k.operand) x c);
    }

  pub some_names : (names : List Meaning) × AreNames p t names
  some_names =
      let (n, numbered, behind) = tables.numbered in
      let (k, exceptions, operands) = behind.numbered in
      let l = entries_listed (length p.fields) ns t n k numbered exceptions operands in
      (l.names, names_of l)
