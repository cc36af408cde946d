use Rattle.std.proofs.Common.{◌≡◌, ℕ, ap, arith, sym, subst, ◌∙◌}
use Rattle.std.proofs.lemmas.Option.{slice_get_within}
use Rattle.tabulate.specs.Frames.{first_exit, exit_count, method_of, number_of}
use Rattle.tabulate.specs.Found.{Got}
use Rattle.tabulate.proofs.Placing.{behind_first, is_exit, exit_place, same_exit_node, number_low}
use Rattle.tabulate.proofs.ModeEdges.{exit_low}
use Rattle.tabulate.proofs.meeting.is_asked.Goals as goal

pub overflow_sub-number : goal.overflow_sub-number
overflow_sub-number c = let x = c.requires.exit in omega (arith, behind_first c.args.f.now c.args.exit x.0 x.1 x.2.0, c.requires.method.exit_is, ap (first_exit c.args.f.now) x.2.1)

pub exit_node-requires : goal.exit_node-requires
exit_node-requires c = let x = c.requires.exit in slice_get_within c.args.f.now.exits c.args.exit.0 x.0 x.1

pub is_got-requires-clause-node : goal.is_got-requires-clause-node
is_got-requires-clause-node c =
    let x = c.requires.exit in
    let p = c.args.f.now in
    (exit_low p c.args.exit c.exit_node.result c.exit_node.ensures, ap (method_of p) (same_exit_node p c.args.exit c.exit_node.result x.0 c.exit_node.ensures x.1) ∙ x.2.1)

pub is_got-requires-clause-number : goal.is_got-requires-clause-number
is_got-requires-clause-number c =
    let x = c.requires.exit in
    let p = c.args.f.now in
    omega (arith, behind_first p c.args.exit x.0 x.1 x.2.0, number_low p x.0.0 (is_exit p c.args.exit x.0 x.1 x.2.0), c.requires.method.exit_is, ap (first_exit p) x.2.1, ap (exit_count p) x.2.1)

pub returns : goal.returns
returns c =
    let x = c.requires.exit in
    let p = c.args.f.now in
    let ts = c.args.found.now.items in
    let r = c.exit_node.result in
    let number : _ ≡ number_of p r.0 = omega (arith, exit_place p c.args.exit r c.exit_node.ensures, c.requires.method.exit_is, ap (first_exit p) x.2.1, ap (λ n. first_exit p (method_of p n)) (same_exit_node p c.args.exit r x.0 c.exit_node.ensures x.1)) in (
      λ t. (r, c.exit_node.ensures, subst (λ (n : ℕ). Got p ts (r.0, n)) number (c.is_got.ensures.0 t)),
      λ h. c.is_got.ensures.1 (subst (λ (n : ℕ). Got p ts (r.0, n)) (sym number) (subst (λ (k : ℕ). Got p ts (k, number_of p k)) (same_exit_node p c.args.exit h.0 r h.1 c.exit_node.ensures) h.2)),
    )
