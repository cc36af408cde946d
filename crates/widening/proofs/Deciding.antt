-- Whether a pair waits is decided by its bit.
use Rattle.std.proofs.Common.{◌+◌, ◌*◌, ◌/◌, ◌%◌, ℕ, List, get_or, ◌⊎◌, inl, inr, arith}
use Rattle.std.specs.Int.{bit_at}
use Rattle.std.proofs.lemmas.Bool.{cases_eq, cases_lt}
use Rattle.dep_form.specs.declared.facts.Facts.{Facts}
use Rattle.tabulate.specs.declared.found.Found.{Found}
use Rattle.tabulate.specs.Frames.{count, method_of, width, at}
use Rattle.tabulate.specs.Found.{Todo, todo_of}

pub decide : (f : Facts) (ts : List Found) (q : ℕ × ℕ) → Todo f ts q ⊎ (Todo f ts q → ⊥)
decide f ts q = elim (cases_lt q.0 (count f)) [
  | inr no_node ↦ inr (λ t. omega (arith, t.0, no_node))
  | inl nl ↦ elim (cases_lt q.1 (64 * width f (method_of f q.0))) [
    | inr too_high ↦ inr (λ t. omega (arith, t.1, too_high))
    | inl low ↦ elim (cases_eq (bit_at (get_or (todo_of ts (method_of f q.0)) ((64 * at f q.0 + q.1) / 64) 0) ((64 * at f q.0 + q.1) % 64)) 1) [ inl is ↦ inl (nl, low, is) | inr is_not ↦ inr (λ t. is_not t.2) ]
  ]
]
