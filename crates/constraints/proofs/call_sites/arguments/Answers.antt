use Rattle.std.proofs.Common.{◌+◌, ℕ, List, length, sym, ap, subst, ◌∙◌, arith}
use Rattle.std.proofs.lemmas.List.{length_push}
use Rattle.dep_form.specs.declared.rules.Var.{Var}
use Rattle.constraint_rules.specs.Settings.{place_of}
use Rattle.constraints.specs.Calls.{AreArguments}
use Rattle.constraints.proofs.OfCalls.{arguments_push}
use Rattle.constraints.proofs.call_sites.arguments.Goals as goal

pub loop-i-init : goal.loop-i-init
loop-i-init c = record {
  size = ap (λ (xs : List Var). length xs) c.new-vars.ensures.items;
  each = λ p s names set at. subst (λ (xs : List Var). AreArguments p s names (place_of c.args.x.now) xs) (sym c.new-vars.ensures.items) (λ j y there. absurd cc);
}

pub loop-i-preserved : goal.loop-i-preserved
loop-i-preserved c =
    let (v, e, is) = c.in_ok-push_argument.ensures in
    record {
      size = ap (λ (xs : List Var). length xs) e ∙ length_push c.loop-i.vars.items v ∙ ap (λ (n : ℕ). n + 1) c.loop-i.invariant.size;
      each = λ p s names set at.
          arguments_push p s names (place_of c.args.x.now) c.loop-i.vars.items c.push_argument.new.vars.items v c.loop-i.i e c.loop-i.invariant.size (is p s names set at) (c.loop-i.invariant.each p s names set at);
    }

pub returns-clause-count : goal.returns-clause-count
returns-clause-count c = omega (arith, c.loop-i.invariant.size, c.loop-i.auto.i-end, c.loop-i-test.false)

pub returns-clause-each : goal.returns-clause-each
returns-clause-each c = λ p s names set at. c.loop-i.invariant.each p s names set at
