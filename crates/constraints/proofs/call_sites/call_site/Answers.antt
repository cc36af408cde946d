use Rattle.std.proofs.Common.{◌≡◌, Bool, List, length, Some, refl, sym, ap, subst, ◌∙◌, arith}
use Rattle.slicer_ids.specs.declared.ids.Statement.{Statement}
use Rattle.dep_form.specs.declared.rules.Var.{Var}
use Rattle.constraint_rules.specs.Settings.{place_of}
use Rattle.constraints.specs.Calls.{AreFlagsAt, AreArguments}
use Rattle.constraints.proofs.OfCalls.{call_known}
use Rattle.constraints.proofs.OfFlags.{few_flags, some_flag}
use Rattle.constraints.proofs.call_sites.call_site.Goals as goal

pub returns-clause-known : goal.returns-clause-known
returns-clause-known c = λ p s names set at number.
    let x = c.args.x.now in
    call_known c.args.t.now x p s names set at _ c.args.exception number (ap (λ (u : Statement). Some u) c.statement_of.ensures) refl c.has_receiver-instance.ensures
    (subst (λ (bs : List Bool). AreFlagsAt c.has_receiver-instance.result x.file.now.pool x.instr.now.index bs) (sym c.from_vec-2.ensures) c.in_ok-references.ensures)
    (subst (λ (vs : List Var). AreArguments p s names (place_of x) vs) (sym c.from_vec.ensures) (c.in_ok-arguments.ensures.each p s names set at)) (c.value.ensures p s names set)
    (c.first_site.ensures p s names set) (c.refusal.ensures p s names set at)

pub invariant_of-result : goal.invariant_of-result
invariant_of-result c =
    let (bytes, named, are) = c.in_ok-references.ensures in
    let flags = c.in_ok-references.references.items in
    let instance = c.has_receiver-instance.result in
    let size : length c.from_vec.result ≡ length flags =
    omega (arith, ap (λ (vs : List Var). length vs) c.from_vec.ensures, c.in_ok-arguments.ensures.count, c.len-count.ensures, c.in_ok-references.references.ok.0) in
    record {
      few = omega (arith, size, few_flags instance bytes flags are);
      as_many = ap (λ (bs : List Bool). length bs) c.from_vec-2.ensures ∙ sym size;
      receiver = λ e. omega (arith, size, some_flag instance bytes flags are e);
    }
