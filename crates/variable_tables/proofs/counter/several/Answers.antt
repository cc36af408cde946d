use Rattle.std.proofs.Common.{◌+◌, ◌++◌, ◌∷◌, [], ℕ, List, length, ap, ◌∙◌, subst, sym}
use Rattle.std.proofs.lemmas.List.{length_push}
use Rattle.dep_form.specs.declared.rules.Var.{Var}
use Rattle.variable_tables.specs.Numbers.{IsCounted}
use Rattle.variable_tables.proofs.Counting.{counted_push}
use Rattle.variable_tables.proofs.counter.several.Goals as goal

pub loop-preserved : goal.loop-preserved
loop-preserved c =
    let first = c.args.fresh.now.next in
    let vars = c.loop.vars.items in
    let var = c.in_ok-var.var in
    record {
      size = ap (λ (xs : List Var). length xs) c.in_ok-push.ensures.items ∙ length_push vars var ∙ ap (λ (n : ℕ). n + 1) c.loop.invariant.size;
      numbers = subst (λ (xs : List Var). IsCounted first xs c.take.new.self.next) (sym c.in_ok-push.ensures.items)
          (subst (λ n. IsCounted first (vars ++ var ∷ []) n) (sym c.in_ok-var.ensures.1) (counted_push first c.loop.fresh.next vars var c.loop.invariant.numbers c.in_ok-var.ensures.0));
    }
