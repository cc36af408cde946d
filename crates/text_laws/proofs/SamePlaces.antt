-- Places name the same statements and accesses, or have the same errors.
use Rattle.std.proofs.Common.{ℕ, List, []}
use Rattle.slicer_ids.specs.declared.ids.MethodId.{MethodId}
use Rattle.slicer_ids.specs.declared.ids.Statement.{Statement}
use Rattle.class_form.proofs.Indices.{index_in, there_at}
use Rattle.dep_form.specs.declared.access.Access.{Access}
use Rattle.dep_form.specs.declared.facts.Facts.{Facts}
use Rattle.dep_form.specs.LookUps.{IsAccessAt}
use Rattle.program_form.specs.Programs.{Program}
use Rattle.program_form.specs.Graphs.{Numbering}
use Rattle.script.specs.declared.command.Place.{Place}
use Rattle.report.specs.declared.reply.CommandError.{CommandError}
use Rattle.session_form.specs.Places.{HasNoClass, NamesMethod, NamesStatement, NamesNone, no_class, no_method, no_statement, IsAccess, NamesAccess, NamesNoAccess, no_place, no_access, NamesNoLine, no_such_class, no_such_line}
use Rattle.text_laws.proofs.TwoFacts.{AreOfOne, turned}
use Rattle.text_laws.proofs.SameNames.{class_there, method_there, statement_there, at_line_there}

module _ (p : Program) (ns ms : Numbering) (f g : Facts) (o : AreOfOne p ns ms f g) where
  names_method : (q : Place) (m : MethodId) → NamesMethod f q m → NamesMethod g q m
  names_method q m (c, named, method) = (c, class_there p ns ms f g o q.class c named, method_there p ns ms f g o c q.name q.descriptor m method)

  pub names_statement : (q : Place) (s : Statement) → NamesStatement f q s → NamesStatement g q s
  names_statement q s (method, pc, is) = (names_method q s.method method, pc, statement_there p ns ms f g o s is)

  no_class_there : (name : List ℕ) → HasNoClass f name → HasNoClass g name
  no_class_there name never = λ c named. never c (class_there p ms ns g f (turned p ns ms f g o) name c named)

  pub names_none : (q : Place) (e : CommandError) → NamesNone f q e → NamesNone g q e
  names_none q _ (no_class never) = no_class (no_class_there q.class never)
  names_none q _ (no_method c named never) =
      no_method c (class_there p ns ms f g o q.class c named) (λ m is. never m (method_there p ms ns g f (turned p ns ms f g o) c q.name q.descriptor m is))
  names_none q _ (no_statement m named never) =
      no_statement m (names_method q m named) (λ is. never (statement_there p ms ns g f (turned p ns ms f g o) (record { method = m; pc = q.pc }) is))

  -- what the other facts say of an access
  abbrev pub HasOther : Statement → Type 0
  HasOther s = (b : Access) × IsAccessAt g s b

  pub access_there : (s : Statement) (a : Access) → IsAccessAt f s a → HasOther s
  access_there s a (k, at) =
      let b = (o.second.accesses s).1 ((o.first.accesses s).0 (a, there_at f.accesses k (s, a) at)) in
      let j = index_in g.accesses (s, b.0) b.1 in
      (b.0, (j.0, j.1))

  pub is_access : (s : Statement) → IsAccess f s → IsAccess g s
  is_access s (a, at) = access_there s a at

  pub names_access : (q : Place) (s : Statement) (a : Access) → NamesAccess f q s a → (b : Access) × NamesAccess g q s b
  names_access q s a (named, at) = let b = access_there s a at in (b.0, (names_statement q s named, b.1))

pub no_accesses : (p : Program) (ns ms : Numbering) (f g : Facts) (o : AreOfOne p ns ms f g) (q : Place) (e : CommandError) → NamesNoAccess f q e → NamesNoAccess g q e
no_accesses p ns ms f g o q _ (no_place {e} none) = no_place (names_none p ns ms f g o q e none)
no_accesses p ns ms f g o q _ (no_access s named never) =
    no_access s (names_statement p ns ms f g o q s named) (λ is. never (is_access p ms ns g f (turned p ns ms f g o) s is))

pub no_lines : (p : Program) (ns ms : Numbering) (f g : Facts) (o : AreOfOne p ns ms f g) (name : List ℕ) (line : ℕ) (e : CommandError) → NamesNoLine f name line e →
    NamesNoLine g name line e
no_lines p ns ms f g o name line _ (no_such_class never) = no_such_class (no_class_there p ns ms f g o name never)
no_lines p ns ms f g o name line _ (no_such_line c named at) =
    no_such_line c (class_there p ns ms f g o name c named) (at_line_there p ns ms f g o name c line [] named at)
