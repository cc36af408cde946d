use Rattle.std.proofs.Common.{◌≡◌, ℕ, ◌/◌, ◌<◌, ◌⊎◌, ◌↔◌, List, subst, arith}
use Rattle.method_graph.specs.Flows.{HasWay}
use Rattle.method_graph.proofs.Following.{follow_sound}
use Rattle.method_graph.proofs.flow.Ways.follow.Goals as goal

-- the width stays
at_width : (w v : ℕ) (one new : List ℕ) (p q : ℕ) → v ≡ w → ((a b : ℕ) → b / 64 < v → HasWay v new a b ↔ (HasWay v one a b ⊎ ((a ≡ p) × HasWay v one q b)))
    → (a b : ℕ) → b / 64 < w → HasWay w new a b ↔ (HasWay w one a b ⊎ ((a ≡ p) × HasWay w one q b))
at_width w v one new p q e h = subst (λ n. (a b : ℕ) → b / 64 < n → HasWay n new a b ↔ (HasWay n one a b ⊎ ((a ≡ p) × HasWay n one q b))) e h

pub returns-then-one-clause-sound : goal.returns-then-one-clause-sound
returns-then-one-clause-sound c = λ flow goes.
    let w = c.args.self.now.width in
    let in_row : c.args.q / 64 < w = omega (arith, c.requires.1, c.args.self.now.rows.wide) in
    let one = c.add_way-one.new.self.words.items in
    let new = c.pour-more.new.self.words.items in
    follow_sound flow w c.args.self.now.words.items one new c.args.p c.args.q in_row goes c.add_way-one.ensures.ways
    (at_width w c.add_way-one.new.self.width one new c.args.p c.args.q c.add_way-one.ensures.frame.1 c.pour-more.ensures.ways)

pub returns-else-one-clause-sound : goal.returns-else-one-clause-sound
returns-else-one-clause-sound c = λ flow goes.
    let w = c.args.self.now.width in
    let in_row : c.args.q / 64 < w = omega (arith, c.requires.1, c.args.self.now.rows.wide) in
    let one = c.add_way-one.new.self.words.items in
    let new = c.pour-more.new.self.words.items in
    follow_sound flow w c.args.self.now.words.items one new c.args.p c.args.q in_row goes c.add_way-one.ensures.ways
    (at_width w c.add_way-one.new.self.width one new c.args.p c.args.q c.add_way-one.ensures.frame.1 c.pour-more.ensures.ways)
