use Rattle.std.proofs.Common.{◌≡◌, ◌∙◌, ◌+◌, ◌⊎◌, ℕ, List, length, refl, sym, subst, ap, arith}
use Rattle.bit_rows.specs.Words.{AreWords, ones_of}
use Rattle.tabulate.specs.Frames.{width, method_of}
use Rattle.tabulate.specs.States.{IsNext, IsTakenUp}
use Rattle.tabulate.proofs.Bounds.{total_below}
use Rattle.tabulate.proofs.MeetLaws.{match_some, match_none}
use Rattle.widening.specs.declared.pairs.Pairs.{Pairs}
use Rattle.widening.specs.Edges.{Widened}
use Rattle.widening.specs.Pairs.{Waits, IsFollowed}
use Rattle.widening.specs.Counts.{AreTurns}
use Rattle.widening.proofs.FollowLaws.{pairs_next, next_taken, run_done, same_none, taken_same, whole_end}
use Rattle.widening.proofs.CountLaws.{turns_none, turns_then, turns_taken, turns_same, within_of, decide_waits, width_small}
use Rattle.widening.proofs.following.run.Goals as goal

pub loop-buffers-init : goal.loop-buffers-init
loop-buffers-init g c = record {
  graphs = (c.requires.graphs.0, g.met.G.Graphs.later_refl c.args.graphs.now);
  methods = (c.requires.pairs.methods, λ m x h. h);
  pairs = c.requires.pairs;
  done = c.requires.done;
  kept = λ d k. k;
  needed = λ seeds h. h;
  turns = turns_none c.args.f.now c.args.pairs.now c.args.pairs.now c.args.steps.now (same_none c.args.f.now (Widened c.args.f.now c.args.expansions.now) c.args.pairs.now);
}

pub loop-buffers-preserved : goal.loop-buffers-preserved
loop-buffers-preserved g c =
    let f = c.args.f.now in
    let x = c.args.expansions.now in
    let E = Widened f x in
    let l = c.loop-buffers in
    let p = l.pairs in
    let p1 : Pairs = record p { found = c.take_next.new.found; queue = c.take_next.new.queue } in
    let n = c.in-Some.n in
    let delta : List ℕ = c.take_next.new.delta.items in
    let next : IsNext f p.found.items c.take_next.new.found.items p.queue.items c.take_next.new.queue.items n delta = match_some _ _ c.in_ok-n.field-0 c.in-Some.n c.in-Some.is c.in_ok-n.ensures.taken in
    let s1 = pairs_next f E l.methods.items p p1 n delta l.invariant.pairs refl next in
    let decide : (q : ℕ × ℕ) → Waits f p q ⊎ (Waits f p q → ⊥) = decide_waits f p in
    let words : AreWords delta = subst AreWords c.deref.ensures.value c.count_bits.ensures.words in
    let bits : c.count_bits.result ≡ ones_of delta = c.count_bits.ensures.is ∙ ap ones_of c.deref.ensures.value in
    let taken : AreTurns f p p1 l.steps (l.steps + ones_of delta) = turns_taken f p p1 n delta l.steps words next.takes l.invariant.pairs.sub (decide_waits f p1) decide in
    let before : AreTurns f c.args.pairs.now p1 c.args.steps.now (l.steps + ones_of delta) = turns_then f c.args.pairs.now p p1 c.args.steps.now l.steps (l.steps + ones_of delta) l.invariant.turns taken in
    let r : IsFollowed f E n delta c.follow_node.new.methods.items p1 c.follow_node.new.pairs l.tally c.follow_node.new.tally = subst (λ (ys : List ℕ). IsFollowed f E n ys c.follow_node.new.methods.items p1 c.follow_node.new.pairs l.tally c.follow_node.new.tally) c.deref-in-Some.ensures.value c.in_ok-follow_node.ensures.followed in
    let e = c.follow_node.ensures in
    record {
      graphs = (e.graphs.0, g.met.G.Graphs.later_trans c.args.graphs.now l.graphs c.follow_node.new.graphs l.invariant.graphs.1 e.graphs.1);
      methods = (e.methods.0, λ m y h. e.methods.1 m y (l.invariant.methods.1 m y h));
      pairs = r.pairs;
      done = run_done f E l.methods.items p p1 n delta l.invariant.pairs refl next c.follow_node.new.methods.items c.follow_node.new.pairs l.tally c.follow_node.new.tally l.invariant.done r;
      kept = λ d k. r.kept d (l.invariant.kept d k);
      needed = λ seeds h. r.needed seeds (l.invariant.needed seeds h);
      turns = turns_same f c.args.pairs.now p1 c.follow_node.new.pairs c.args.steps.now (l.steps + ones_of delta) c.turns.new.self (c.turns.ensures ∙ ap (λ (k : ℕ). l.steps + k) bits) before r.same;
    }

pub loop-buffers-smaller : goal.loop-buffers-smaller
loop-buffers-smaller g c =
    let f = c.args.f.now in
    let x = c.args.expansions.now in
    let E = Widened f x in
    let l = c.loop-buffers in
    let p = l.pairs in
    let p1 : Pairs = record p { found = c.take_next.new.found; queue = c.take_next.new.queue } in
    let n = c.in-Some.n in
    let delta : List ℕ = c.take_next.new.delta.items in
    let next : IsNext f p.found.items c.take_next.new.found.items p.queue.items c.take_next.new.queue.items n delta = match_some _ _ c.in_ok-n.field-0 c.in-Some.n c.in-Some.is c.in_ok-n.ensures.taken in
    let s1 = pairs_next f E l.methods.items p p1 n delta l.invariant.pairs refl next in
    let r : IsFollowed f E n delta c.follow_node.new.methods.items p1 c.follow_node.new.pairs l.tally c.follow_node.new.tally = subst (λ (ys : List ℕ). IsFollowed f E n ys c.follow_node.new.methods.items p1 c.follow_node.new.pairs l.tally c.follow_node.new.tally) c.deref-in-Some.ensures.value c.in_ok-follow_node.ensures.followed in
    omega (arith, total_below f c.follow_node.new.pairs.found.items r.pairs.found, c.take_next.ensures.total, c.follow_node.ensures.turns, r.work, ap length next.items)

pub count_bits-requires : goal.count_bits-requires
count_bits-requires g c =
    let f = c.args.f.now in
    let x = c.args.expansions.now in
    let E = Widened f x in
    let l = c.loop-buffers in
    let p = l.pairs in
    let p1 : Pairs = record p { found = c.take_next.new.found; queue = c.take_next.new.queue } in
    let n = c.in-Some.n in
    let delta : List ℕ = c.take_next.new.delta.items in
    let next : IsNext f p.found.items c.take_next.new.found.items p.queue.items c.take_next.new.queue.items n delta = match_some _ _ c.in_ok-n.field-0 c.in-Some.n c.in-Some.is c.in_ok-n.ensures.taken in
    let s1 = pairs_next f E l.methods.items p p1 n delta l.invariant.pairs refl next in
    omega (arith, width_small f (method_of f n.0), next.takes.len, ap length c.deref.ensures.value)

pub follow_node-requires-clause-graphs : goal.follow_node-requires-clause-graphs
follow_node-requires-clause-graphs g c = (c.loop-buffers.invariant.graphs.0, g.met.G.Graphs.later_facts c.args.graphs.now c.loop-buffers.graphs c.loop-buffers.invariant.graphs.1 ∙ c.requires.graphs.1)

pub follow_node-requires-clause-node : goal.follow_node-requires-clause-node
follow_node-requires-clause-node g c =
    let f = c.args.f.now in
    let x = c.args.expansions.now in
    let E = Widened f x in
    let l = c.loop-buffers in
    let p = l.pairs in
    let p1 : Pairs = record p { found = c.take_next.new.found; queue = c.take_next.new.queue } in
    let n = c.in-Some.n in
    let delta : List ℕ = c.take_next.new.delta.items in
    let next : IsNext f p.found.items c.take_next.new.found.items p.queue.items c.take_next.new.queue.items n delta = match_some _ _ c.in_ok-n.field-0 c.in-Some.n c.in-Some.is c.in_ok-n.ensures.taken in
    let s1 = pairs_next f E l.methods.items p p1 n delta l.invariant.pairs refl next in
    next.there

pub follow_node-requires-clause-delta : goal.follow_node-requires-clause-delta
follow_node-requires-clause-delta g c =
    let f = c.args.f.now in
    let x = c.args.expansions.now in
    let E = Widened f x in
    let l = c.loop-buffers in
    let p = l.pairs in
    let p1 : Pairs = record p { found = c.take_next.new.found; queue = c.take_next.new.queue } in
    let n = c.in-Some.n in
    let delta : List ℕ = c.take_next.new.delta.items in
    let next : IsNext f p.found.items c.take_next.new.found.items p.queue.items c.take_next.new.queue.items n delta = match_some _ _ c.in_ok-n.field-0 c.in-Some.n c.in-Some.is c.in_ok-n.ensures.taken in
    let s1 = pairs_next f E l.methods.items p p1 n delta l.invariant.pairs refl next in
    subst (λ (ys : List ℕ). (length ys ≡ width f (method_of f n.0)) × IsTakenUp f p1.found.items n ys) (sym c.deref-in-Some.ensures.value) (next.takes.len, next_taken f E l.methods.items p p1 n delta l.invariant.pairs refl next)

pub follow_node-requires-clause-pairs : goal.follow_node-requires-clause-pairs
follow_node-requires-clause-pairs g c =
    let f = c.args.f.now in
    let x = c.args.expansions.now in
    let E = Widened f x in
    let l = c.loop-buffers in
    let p = l.pairs in
    let p1 : Pairs = record p { found = c.take_next.new.found; queue = c.take_next.new.queue } in
    let n = c.in-Some.n in
    let delta : List ℕ = c.take_next.new.delta.items in
    let next : IsNext f p.found.items c.take_next.new.found.items p.queue.items c.take_next.new.queue.items n delta = match_some _ _ c.in_ok-n.field-0 c.in-Some.n c.in-Some.is c.in_ok-n.ensures.taken in
    let s1 = pairs_next f E l.methods.items p p1 n delta l.invariant.pairs refl next in
    s1

pub returns-in_err-n-clause-within : goal.returns-in_err-n-clause-within
returns-in_err-n-clause-within g c = λ seeds need.
    let l = c.loop-buffers in
    within_of c.args.f.now c.args.expansions.now seeds l.methods.items l.pairs l.invariant.pairs (l.invariant.needed seeds need) c.args.pairs.now c.args.steps.now l.steps l.invariant.turns

pub returns-in_err-follow_node-clause-within : goal.returns-in_err-follow_node-clause-within
returns-in_err-follow_node-clause-within g c = λ seeds need.
    let f = c.args.f.now in
    let x = c.args.expansions.now in
    let E = Widened f x in
    let l = c.loop-buffers in
    let p = l.pairs in
    let p1 : Pairs = record p { found = c.take_next.new.found; queue = c.take_next.new.queue } in
    let n = c.in-Some.n in
    let delta : List ℕ = c.take_next.new.delta.items in
    let next : IsNext f p.found.items c.take_next.new.found.items p.queue.items c.take_next.new.queue.items n delta = match_some _ _ c.in_ok-n.field-0 c.in-Some.n c.in-Some.is c.in_ok-n.ensures.taken in
    let s1 = pairs_next f E l.methods.items p p1 n delta l.invariant.pairs refl next in
    let decide : (q : ℕ × ℕ) → Waits f p q ⊎ (Waits f p q → ⊥) = decide_waits f p in
    let words : AreWords delta = subst AreWords c.deref.ensures.value c.count_bits.ensures.words in
    let bits : c.count_bits.result ≡ ones_of delta = c.count_bits.ensures.is ∙ ap ones_of c.deref.ensures.value in
    let taken : AreTurns f p p1 l.steps (l.steps + ones_of delta) = turns_taken f p p1 n delta l.steps words next.takes l.invariant.pairs.sub (decide_waits f p1) decide in
    let before : AreTurns f c.args.pairs.now p1 c.args.steps.now (l.steps + ones_of delta) = turns_then f c.args.pairs.now p p1 c.args.steps.now l.steps (l.steps + ones_of delta) l.invariant.turns taken in
    within_of f x seeds l.methods.items p1 s1 (l.invariant.needed seeds need) c.args.pairs.now c.args.steps.now c.turns.new.self (subst (λ (k : ℕ). AreTurns f c.args.pairs.now p1 c.args.steps.now k) (sym (c.turns.ensures ∙ ap (λ (k : ℕ). l.steps + k) bits)) before)

pub returns-clause-within : goal.returns-clause-within
returns-clause-within g c = λ seeds need.
    let l = c.loop-buffers in
    within_of c.args.f.now c.args.expansions.now seeds l.methods.items l.pairs l.invariant.pairs (l.invariant.needed seeds need) c.args.pairs.now c.args.steps.now l.steps l.invariant.turns

pub returns-clause-whole : goal.returns-clause-whole
returns-clause-whole g c =
    let l = c.loop-buffers in
    let p' : Pairs = record l.pairs { found = c.take_next.new.found; queue = c.take_next.new.queue } in
    let none = match_none _ _ c.in_ok-n.field-0 c.in_default.is c.in_ok-n.ensures.taken in
    whole_end c.args.f.now (Widened c.args.f.now c.args.expansions.now) l.methods.items l.pairs p' refl none.2 none.1 none.0 l.invariant.pairs l.invariant.done

pub returns-clause-turns : goal.returns-clause-turns
returns-clause-turns g c =
    let l = c.loop-buffers in
    let p' : Pairs = record l.pairs { found = c.take_next.new.found; queue = c.take_next.new.queue } in
    let none = match_none _ _ c.in_ok-n.field-0 c.in_default.is c.in_ok-n.ensures.taken in
    turns_same c.args.f.now c.args.pairs.now l.pairs p' c.args.steps.now l.steps l.steps refl l.invariant.turns (taken_same c.args.f.now (Widened c.args.f.now c.args.expansions.now) l.methods.items l.pairs p' refl none.2 none.1)
