use Rattle.std.proofs.Common.{◌≡◌, ◌<◌, ◌*◌, ℕ, List, length, replicate, false, arith, ap, ◌∙◌}
use Rattle.tabulate.proofs.Opening.{same, are, opened, same_total, others}
use Rattle.tabulate.proofs.found.open.Goals as goal

-- rows of the method's size
sized : (xs : List ℕ) (r w r' w' : ℕ) → xs ≡ replicate (r * w) 0 → r ≡ r' → w ≡ w' → xs ≡ replicate (r' * w') 0
sized xs r w r' w' e f g = e ∙ ap (λ k. replicate (k * w) 0) f ∙ ap (λ k. replicate (r' * k) 0) g

pub returns-clause-found : goal.returns-clause-found
returns-clause-found c =
    let lt : c.args.method.now.id.0 < length c.args.found.now.items = omega (arith, c.requires.method.there, c.requires.found.len) in
    are c.args.f.now c.args.found.now.items c.args.method.now.id.0 lt _ c.requires.found (c.is_open.ensures.none c.if-is_open.false)
    (sized _ _ _ _ _ (c.in_ok-got.ensures.items_if_clones_equal (λ y e. e)) c.requires.method.size_is c.requires.method.width_is)
    (sized _ _ _ _ _ (c.in_ok-todo.ensures.items_if_clones_equal (λ y e. e)) c.requires.method.size_is c.requires.method.width_is)
    (c.in_ok-waits.ensures.items_if_clones_equal (λ y e. e) ∙ ap (λ k. replicate k false) c.requires.method.size_is)

pub returns-clause-same : goal.returns-clause-same
returns-clause-same c =
    let lt : c.args.method.now.id.0 < length c.args.found.now.items = omega (arith, c.requires.method.there, c.requires.found.len) in
    same c.args.f.now c.args.found.now.items c.args.method.now.id.0 lt _ c.requires.found (c.is_open.ensures.none c.if-is_open.false)
    (sized _ _ _ _ _ (c.in_ok-got.ensures.items_if_clones_equal (λ y e. e)) c.requires.method.size_is c.requires.method.width_is)
    (sized _ _ _ _ _ (c.in_ok-todo.ensures.items_if_clones_equal (λ y e. e)) c.requires.method.size_is c.requires.method.width_is)
    (c.in_ok-waits.ensures.items_if_clones_equal (λ y e. e) ∙ ap (λ k. replicate k false) c.requires.method.size_is)

pub returns-clause-opened : goal.returns-clause-opened
returns-clause-opened c =
    let lt : c.args.method.now.id.0 < length c.args.found.now.items = omega (arith, c.requires.method.there, c.requires.found.len) in
    opened c.args.f.now c.args.found.now.items c.args.method.now.id.0 lt _ c.requires.found (c.is_open.ensures.none c.if-is_open.false)
    (sized _ _ _ _ _ (c.in_ok-got.ensures.items_if_clones_equal (λ y e. e)) c.requires.method.size_is c.requires.method.width_is)
    (sized _ _ _ _ _ (c.in_ok-todo.ensures.items_if_clones_equal (λ y e. e)) c.requires.method.size_is c.requires.method.width_is)
    (c.in_ok-waits.ensures.items_if_clones_equal (λ y e. e) ∙ ap (λ k. replicate k false) c.requires.method.size_is)

pub returns-clause-total : goal.returns-clause-total
returns-clause-total c =
    let lt : c.args.method.now.id.0 < length c.args.found.now.items = omega (arith, c.requires.method.there, c.requires.found.len) in
    same_total c.args.f.now c.args.found.now.items c.args.method.now.id.0 lt _ c.requires.found (c.is_open.ensures.none c.if-is_open.false)
    (sized _ _ _ _ _ (c.in_ok-got.ensures.items_if_clones_equal (λ y e. e)) c.requires.method.size_is c.requires.method.width_is)
    (sized _ _ _ _ _ (c.in_ok-todo.ensures.items_if_clones_equal (λ y e. e)) c.requires.method.size_is c.requires.method.width_is)
    (c.in_ok-waits.ensures.items_if_clones_equal (λ y e. e) ∙ ap (λ k. replicate k false) c.requires.method.size_is)

pub returns-clause-others : goal.returns-clause-others
returns-clause-others c =
    let lt : c.args.method.now.id.0 < length c.args.found.now.items = omega (arith, c.requires.method.there, c.requires.found.len) in
    others c.args.f.now c.args.found.now.items c.args.method.now.id.0 lt _ c.requires.found (c.is_open.ensures.none c.if-is_open.false)
    (sized _ _ _ _ _ (c.in_ok-got.ensures.items_if_clones_equal (λ y e. e)) c.requires.method.size_is c.requires.method.width_is)
    (sized _ _ _ _ _ (c.in_ok-todo.ensures.items_if_clones_equal (λ y e. e)) c.requires.method.size_is c.requires.method.width_is)
    (c.in_ok-waits.ensures.items_if_clones_equal (λ y e. e) ∙ ap (λ k. replicate k false) c.requires.method.size_is)
