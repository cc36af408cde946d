use Rattle.std.proofs.Common.{List, Contains, Some, None, subst}
use Rattle.tabulate.specs.declared.method.Back.{Back}
use Rattle.tabulate.specs.Methods.{IsMetAs}
use Rattle.thin_slice.specs.Marks.{found}
use Rattle.worklists.specs.Growth.{Grows, FromOne}
use Rattle.widening.specs.Marks.{OverBack}
use Rattle.widening.proofs.CallLaws.{read_there, method_over, method_none}
use Rattle.widening.proofs.passing.pass_method.Goals as goal

pub pass_backs-requires-clause-backs : goal.pass_backs-requires-clause-backs
pass_backs-requires-clause-backs c = λ b k.
    let method = c.in-Some.method in
    let met : IsMetAs c.args.methods.now.items c.args.m method = read_there c.args.methods.now.items c.args.m c.index.result.now (Some method) c.requires.method c.index.ensures c.in-Some.is in
    let right = c.requires.methods.right c.args.m method met in
    (method.id.0, right.0.backs.each b (subst (λ (xs : List Back). Contains xs b) c.as_slice.ensures.value k))

pub returns-in_ok-pass_backs-in-Some : goal.returns-in_ok-pass_backs-in-Some
returns-in_ok-pass_backs-in-Some c =
    let f = c.args.f.now in
    let ms = c.args.methods.now.items in
    let ts = c.args.found.now.items in
    let nodes = found c.args.marks.now in
    let method = c.in-Some.method in
    let met : IsMetAs ms c.args.m method = read_there ms c.args.m c.index.result.now (Some method) c.requires.method c.index.ensures c.in-Some.is in
    let old = c.args.into.now.items in
    let new = c.pass_backs.new.into.items in
    method_over f ms ts nodes c.args.m method met old new (subst (λ (xs : List Back). Grows old new (FromOne (OverBack f ts nodes) xs)) c.as_slice.ensures.value c.in_ok-pass_backs-in-Some.ensures)

pub returns-in-None : goal.returns-in-None
returns-in-None c =
    let ms = c.args.methods.now.items in
    method_none c.args.f.now ms c.args.found.now.items (found c.args.marks.now) c.args.m (read_there ms c.args.m c.index.result.now None c.requires.method c.index.ensures c.in-None.is) c.args.into.now.items
