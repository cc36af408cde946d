-- Constraints by the statement that has them.
use Rattle.std.proofs.Common.{◌≡◌, ℕ, List, refl, sym, ap, subst, inl, inr}
use Rattle.slicer_ids.specs.declared.ids.MethodId.{MethodId}
use Rattle.slicer_ids.specs.declared.ids.Statement.{Statement}
use Rattle.dep_form.specs.declared.rules.Rule.{Rule}
use Rattle.dep_form.specs.declared.rules.Rule.TheVariants.{Enter, Alloc, Hold, Copy, Load, Store, Direct, Virtual, OutsideDirect}
use Rattle.dep_form.specs.declared.system.System.{System}
use Rattle.dep_form.specs.Constraints.{elements_field}
use Rattle.program_form.specs.Programs.{Program, IsRoot}
use Rattle.constraint_form.specs.Variables.{Meaning}
use Rattle.constraint_form.specs.Rules.{IsConstraint}
use Rattle.constraint_form.specs.Rules as rule
use Rattle.constraint_rules.specs.Statements.{IsRuleAt, IsRootRule, IsRuleOf}
use Rattle.constraint_rules.specs.Statements as at

module _ (p : Program) (s : System) (names : List Meaning) where
  pub to_statement : (m : MethodId) (r : Rule) → IsConstraint p s names m r → IsRuleOf p s names m r
  to_statement m r (rule.enters root has) = inl (root, at.entering has refl)
  to_statement m r (rule.given {x = x} {n = n} root has given var site) = inl (root, at.giving has given (x, n, var, site, refl))
  to_statement m r (rule.given_elements root a b) = inl (root, at.holding a b refl)
  to_statement m r (rule.entry_initializes {m = i} root has of init) = inl (root, at.initializing_first has of (i, init, refl))
  to_statement m r (rule.initializes {t = t} {c = c} {m = i} op needs init) = inr (t, refl, (inr (inr (inl (inl (op, (i, (c, needs, init), refl)))))))
  to_statement m r (rule.allocates {t = t} {x = x} {n = n} op var site) = inr (t, refl, (inr (inr (inl (inr (inl (op, (x, n, var, site, refl))))))))
  to_statement m r (rule.nests {t = t} {k = k} {a = a} {b = b} op outer inner) = inr (t, refl, (inr (inr (inl (inr (inr (inl (op, (k, a, b, outer, inner, refl)))))))))
  to_statement m r (rule.reads_fresh {t = t} {x = x} {n = n} op none var site) = inr (t, refl, (inr (inr (inl (inr (inr (inr (op, (none, (x, n, var, site, refl))))))))))
  to_statement m r (rule.copies {t = t} {x = x} {y = y} op from var) = inr (t, refl, (inl (inl (op, (x, y, from, var, refl)))))
  to_statement m r (rule.casts {t = t} {text = text} {keep = keep} {x = x} {y = y} op text_is filter from var) = inr (t, refl, (inl (inr (inl (op, (keep, (text, text_is, filter), (x, y, from, var, refl)))))))
  to_statement m r (rule.answers {t = t} {x = x} {y = y} op from var) = inr (t, refl, (inl (inr (inr (inl (op, (x, y, from, var, refl)))))))
  to_statement m r (rule.writes_static {t = t} {v = v} {x = x} {y = y} op is from var) = inr (t, refl, (inl (inr (inr (inr (inl (op, (x, y, from, (v, is, var), refl))))))))
  to_statement m r (rule.joins {t = t} {i = i} {x = x} {y = y} from stands) = inr (t, refl, (inl (inr (inr (inr (inr (i, (x, y, from, stands, refl))))))))
  to_statement m r (rule.reads_field {t = t} f {x = x} {y = y} {g = g} op field base number var) = inr (t, refl, (inr (inl (inl (op, (x, g, y, base, (f, field, number), var, refl))))))
  to_statement m r (rule.reads_element {t = t} {x = x} {y = y} op base var) = inr (t, refl, (inr (inl (inr (inl (op, (x, elements_field s, y, base, refl, var, refl)))))))
  to_statement m r (rule.reads_static {t = t} {v = v} {x = x} {y = y} op is from var) = inr (t, refl, (inr (inl (inr (inr (inl (op, (x, y, (v, is, from), var, refl))))))))
  to_statement m r (rule.writes_field {t = t} f {x = x} {y = y} {g = g} op field base from number) = inr (t, refl, (inr (inl (inr (inr (inr (inl (op, (x, g, y, base, (f, field, number), from, refl)))))))))
  to_statement m r (rule.writes_element {t = t} {x = x} {y = y} op base from) = inr (t, refl, (inr (inl (inr (inr (inr (inr (op, (x, elements_field s, y, base, refl, from, refl)))))))))
  to_statement m r (rule.calls {t = t} {m = i} {c = c} op goes call) = inr (t, refl, (inr (inr (inr (inl (inl (op, (c, i, call, goes, refl))))))))
  to_statement m r (rule.goes_outside {t = t} {c = c} op none call) = inr (t, refl, (inr (inr (inr (inl (inr (inl (op, (none, (c, call, refl))))))))))
  to_statement m r (rule.selects {t = t} {key = key} {g = g} {c = c} op member number call) = inr (t, refl, (inr (inr (inr (inl (inr (inr (op, (c, g, call, (key, member, number), refl)))))))))
  to_statement m r (rule.catches {t = t} {handler = handler} {keep = keep} {x = x} {y = y} raised covered filter var) = inr (t, refl, (inr (inr (inr (inr (inl (handler, keep, covered, filter, (x, y, raised, var, refl))))))))
  to_statement m r (rule.leaves {t = t} {x = x} {y = y} raised may var) = inr (t, refl, (inr (inr (inr (inr (inr (may, (x, y, raised, var, refl))))))))

  here : (r q : Rule) (m : MethodId) → r ≡ q → IsConstraint p s names m q → IsConstraint p s names m r
  here r q m e c = subst (λ z. IsConstraint p s names m z) (sym e) c

  of_root : (m : MethodId) (r : Rule) → IsRoot p m → IsRootRule p s r → IsConstraint p s names m r
  of_root m r root (at.entering {e = e} has same) = here r (Enter e.method) m same (rule.enters root has)
  of_root m r root (at.giving has given (x, n, var, site, same)) = here r (Alloc x n) m same (rule.given root has given var site)
  of_root m r root (at.holding {a = a} {b = b} outer inner same) = here r (Hold a b) m same (rule.given_elements root outer inner)
  of_root m r root (at.initializing_first has of (i, init, same)) = here r (Enter i) m same (rule.entry_initializes root has of init)

  of_statement : (t : Statement) (r : Rule) → IsRuleAt p s names t r → IsConstraint p s names t.method r
  of_statement t r ((inr (inr (inl (inl (op, (i, (c, needs, init), same))))))) = here r (Enter i) t.method same (rule.initializes op needs init)
  of_statement t r ((inr (inr (inl (inr (inl (op, (x, n, var, site, same)))))))) = here r (Alloc x n) t.method same (rule.allocates op var site)
  of_statement t r ((inr (inr (inl (inr (inr (inl (op, (k, a, b, outer, inner, same))))))))) = here r (Hold a b) t.method same (rule.nests op outer inner)
  of_statement t r ((inr (inr (inl (inr (inr (inr (op, (none, (x, n, var, site, same)))))))))) = here r (Alloc x n) t.method same (rule.reads_fresh op none var site)
  of_statement t r ((inl (inl (op, (x, y, from, var, same))))) = here r _ t.method same (rule.copies op from var)
  of_statement t r ((inl (inr (inl (op, (keep, (text, is, filter), (x, y, from, var, same))))))) = here r (Copy x y keep) t.method same (rule.casts op is filter from var)
  of_statement t r ((inl (inr (inr (inl (op, (x, y, from, var, same))))))) = here r _ t.method same (rule.answers op from var)
  of_statement t r ((inl (inr (inr (inr (inl (op, (x, y, from, (v, is, var), same)))))))) = here r _ t.method same (rule.writes_static op is from var)
  of_statement t r ((inl (inr (inr (inr (inr (i, (x, y, from, stands, same)))))))) = here r _ t.method same (rule.joins from stands)
  of_statement t r ((inr (inl (inl (op, (x, g, y, base, (f, field, number), var, same)))))) = here r (Load x g y) t.method same (rule.reads_field f op field base number var)
  of_statement t r ((inr (inl (inr (inl (op, (x, g, y, base, is, var, same))))))) =
      here r (Load x g y) t.method same (subst (λ z. IsConstraint p s names t.method (Load x z y)) (sym is) (rule.reads_element op base var))
  of_statement t r ((inr (inl (inr (inr (inl (op, (x, y, (v, is, from), var, same)))))))) = here r _ t.method same (rule.reads_static op is from var)
  of_statement t r ((inr (inl (inr (inr (inr (inl (op, (x, g, y, base, (f, field, number), from, same))))))))) = here r (Store x g y) t.method same (rule.writes_field f op field base from number)
  of_statement t r ((inr (inl (inr (inr (inr (inr (op, (x, g, y, base, is, from, same))))))))) =
      here r (Store x g y) t.method same (subst (λ z. IsConstraint p s names t.method (Store x z y)) (sym is) (rule.writes_element op base from))
  of_statement t r ((inr (inr (inr (inl (inl (op, (c, i, call, goes, same)))))))) = here r (Direct c i) t.method same (rule.calls op goes call)
  of_statement t r ((inr (inr (inr (inl (inr (inl (op, (none, (c, call, same)))))))))) = here r (OutsideDirect c) t.method same (rule.goes_outside op none call)
  of_statement t r ((inr (inr (inr (inl (inr (inr (op, (c, g, call, (key, member, number), same))))))))) = here r (Virtual c g) t.method same (rule.selects op member number call)
  of_statement t r ((inr (inr (inr (inr (inl (handler, keep, covered, filter, (x, y, raised, var, same)))))))) = here r (Copy x y keep) t.method same (rule.catches raised covered filter var)
  of_statement t r ((inr (inr (inr (inr (inr (may, (x, y, raised, var, same)))))))) = here r _ t.method same (rule.leaves raised may var)

  pub from_statement : (m : MethodId) (r : Rule) → IsRuleOf p s names m r → IsConstraint p s names m r
  from_statement m r (inl (root, is)) = of_root m r root is
  from_statement m r (inr (t, same, is)) = subst (λ z. IsConstraint p s names z r) same (of_statement t r is)
