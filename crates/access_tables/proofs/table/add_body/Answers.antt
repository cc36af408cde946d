use Rattle.std.proofs.Common.{sym, ◌∙◌, arith}
use Rattle.std.proofs.lemmas.Bool.{false≢true}
use Rattle.std.proofs.lemmas.Result.{on_ok_weaker}
use Rattle.value_tables.proofs.Tabled.{body_in_range}
use Rattle.access_tables.specs.Tables.{HasAccessIn}
use Rattle.access_tables.proofs.Accessed.{no_input, not_reached, own_nodes, reached_body, some_input}
use Rattle.access_tables.proofs.table.add_body.Goals as goal

pub is_reached-requires : goal.is_reached-requires
is_reached-requires c =
    let (p, of, among) = c.requires.program in
    omega (arith, body_in_range p c.args.s.now of c.args.body.now among, c.requires.solved.methods)

pub returns-then-not-is_reached : goal.returns-then-not-is_reached
returns-then-not-is_reached c = λ p mr entries has are.
    not_reached (HasAccessIn p c.args.s.now c.args.inputs.now) c.args.s.now c.args.body.now c.args.accesses.now.items (λ r. false≢true (sym c.if-not-is_reached.true ∙ (c.is_reached.ensures c.args.s.now c.requires.solved).1 r))

pub add_method-requires-clause-order : goal.add_method-requires-clause-order
add_method-requires-clause-order c = c.requires.order c.args.body.now.method c.in-Some.input.now (some_input (λ z. z.now) c.args.inputs.now c.args.body.now.method c.input_at.result c.in-Some.input c.in-Some.is c.input_at.ensures)

pub returns-in-Some : goal.returns-in-Some
returns-in-Some c = λ p mr entries has are.
    let s = c.args.s.now in
    let b = c.args.body.now in
    let i = c.in-Some.input.now in
    let input = some_input (λ z. z.now) c.args.inputs.now b.method c.input_at.result c.in-Some.input c.in-Some.is c.input_at.ensures in
    let reached = (c.is_reached.ensures s c.requires.solved).0 c.if-not-is_reached.false in
    on_ok_weaker c.add_method.result
    (λ a. reached_body p s c.args.inputs.now b i c.args.accesses.now.items c.add_method.new.accesses.items input reached a)
    (c.add_method.ensures p has (own_nodes p s mr entries c.args.inputs.now are b has reached i input))

pub returns-in-None : goal.returns-in-None
returns-in-None c = λ p mr entries has are.
    let s = c.args.s.now in
    let b = c.args.body.now in
    let reached = (c.is_reached.ensures s c.requires.solved).0 c.if-not-is_reached.false in
    absurd (no_input p s mr entries c.args.inputs.now are b (λ z. z.now) c.input_at.result c.in-None.is c.input_at.ensures reached)
