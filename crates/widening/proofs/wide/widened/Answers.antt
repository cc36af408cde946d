use Rattle.std.proofs.Common.{◌≡◌, ◌∙◌, ◌++◌, List, [], length, Contains, sym, subst, ap}
use Rattle.slicer_ids.specs.declared.ids.NodeId.{NodeId}
use Rattle.slicer_ids.specs.declared.ids.Statement.{Statement}
use Rattle.dep_form.specs.Slices.{NodesOf}
use Rattle.widening.specs.declared.state.State.{State}
use Rattle.widening.specs.declared.expansions.Expansions.{Expansions}
use Rattle.widening.specs.Edges.{Opens}
use Rattle.widening.specs.Counts.{AreWithin}
use Rattle.widening.specs.States.{IsSliced, IsGrowing}
use Rattle.widening.proofs.CopyLaws.{marked_copy}
use Rattle.widening.proofs.StartLaws.{growing}
use Rattle.widening.proofs.TurnLaws.{turned, at_most, at_most_none}
use Rattle.widening.proofs.wide.widened.Goals as goal

pub add_all-requires : goal.add_all-requires
add_all-requires g c = ap length c.in_ok-next.ensures.marks ∙ c.requires.sliced.1.expansions.len

pub grow-requires-clause-growing : goal.grow-requires-clause-growing
grow-requires-clause-growing g c =
    let f = c.args.f.now in
    let s = c.args.state.now in
    let copy = c.in_ok-next.next in
    let is = c.in_ok-next.ensures in
    let ms = c.args.methods.now.items in
    let more = c.args.accesses.now in
    let y = c.add_all.new.self in
    let nodes : List NodeId = c.add_all.new.into.items in
    let opens : Opens (NodesOf f.inputs (Contains more)) copy.expansions.marks.items y.marks.items [] nodes = subst (λ (xs : List NodeId). Opens (NodesOf f.inputs (Contains more)) copy.expansions.marks.items y.marks.items xs nodes) c.new-nodes.ensures.items c.in_ok-add_all.ensures.opens in
    let next : State = record copy { expansions = y } in
    let grows : (seeds : List NodeId) → IsSliced f seeds ms s → IsGrowing f seeds nodes copy.up.count ms next = λ seeds t. growing f seeds ms s copy t is more y nodes c.in_ok-add_all.ensures.accesses opens copy.up.count (sym (marked_copy s.up copy.up is.up t.up.set).count) in
    let turned_in : (seeds : List NodeId) → IsSliced f seeds ms s → IsGrowing f seeds c.deref.result.now copy.up.count ms next = λ seeds t. subst (λ (xs : List NodeId). IsGrowing f seeds xs copy.up.count ms next) (sym c.deref.ensures.value) (grows seeds t) in
    let all : y.accesses.items ≡ s.expansions.accesses.items ++ more = c.in_ok-add_all.ensures.accesses ∙ ap (λ (xs : List Statement). xs ++ more) is.accesses in
    (c.requires.sliced.0, turned_in c.requires.sliced.0 c.requires.sliced.1)

pub returns-in_err-next-clause-within : goal.returns-in_err-next-clause-within
returns-in_err-next-clause-within g c = λ seeds t. at_most_none c.args.f.now seeds c.args.methods.now.items c.args.state.now t c.args.accesses.now c.args.steps.now

pub returns-in_err-add_all-clause-within : goal.returns-in_err-add_all-clause-within
returns-in_err-add_all-clause-within g c = λ seeds t. at_most_none c.args.f.now seeds c.args.methods.now.items c.args.state.now t c.args.accesses.now c.args.steps.now

pub returns-in_err-grow-clause-within : goal.returns-in_err-grow-clause-within
returns-in_err-grow-clause-within g c = λ seeds t.
    let f = c.args.f.now in
    let s = c.args.state.now in
    let copy = c.in_ok-next.next in
    let is = c.in_ok-next.ensures in
    let ms = c.args.methods.now.items in
    let more = c.args.accesses.now in
    let y = c.add_all.new.self in
    let nodes : List NodeId = c.add_all.new.into.items in
    let opens : Opens (NodesOf f.inputs (Contains more)) copy.expansions.marks.items y.marks.items [] nodes = subst (λ (xs : List NodeId). Opens (NodesOf f.inputs (Contains more)) copy.expansions.marks.items y.marks.items xs nodes) c.new-nodes.ensures.items c.in_ok-add_all.ensures.opens in
    let next : State = record copy { expansions = y } in
    let grows : (seeds : List NodeId) → IsSliced f seeds ms s → IsGrowing f seeds nodes copy.up.count ms next = λ seeds t. growing f seeds ms s copy t is more y nodes c.in_ok-add_all.ensures.accesses opens copy.up.count (sym (marked_copy s.up copy.up is.up t.up.set).count) in
    let turned_in : (seeds : List NodeId) → IsSliced f seeds ms s → IsGrowing f seeds c.deref.result.now copy.up.count ms next = λ seeds t. subst (λ (xs : List NodeId). IsGrowing f seeds xs copy.up.count ms next) (sym c.deref.ensures.value) (grows seeds t) in
    let all : y.accesses.items ≡ s.expansions.accesses.items ++ more = c.in_ok-add_all.ensures.accesses ∙ ap (λ (xs : List Statement). xs ++ more) is.accesses in
    at_most f seeds ms s copy t is (s.expansions.accesses.items ++ more) c.args.steps.now c.grow.new.steps (subst (λ (xs : List Statement). AreWithin f (Contains xs) seeds copy.pairs c.args.steps.now c.grow.new.steps) all (c.grow.ensures.within seeds (turned_in seeds t)))

pub returns-clause-within : goal.returns-clause-within
returns-clause-within g c = λ seeds t.
    let f = c.args.f.now in
    let s = c.args.state.now in
    let copy = c.in_ok-next.next in
    let is = c.in_ok-next.ensures in
    let ms = c.args.methods.now.items in
    let more = c.args.accesses.now in
    let y = c.add_all.new.self in
    let nodes : List NodeId = c.add_all.new.into.items in
    let opens : Opens (NodesOf f.inputs (Contains more)) copy.expansions.marks.items y.marks.items [] nodes = subst (λ (xs : List NodeId). Opens (NodesOf f.inputs (Contains more)) copy.expansions.marks.items y.marks.items xs nodes) c.new-nodes.ensures.items c.in_ok-add_all.ensures.opens in
    let next : State = record copy { expansions = y } in
    let grows : (seeds : List NodeId) → IsSliced f seeds ms s → IsGrowing f seeds nodes copy.up.count ms next = λ seeds t. growing f seeds ms s copy t is more y nodes c.in_ok-add_all.ensures.accesses opens copy.up.count (sym (marked_copy s.up copy.up is.up t.up.set).count) in
    let turned_in : (seeds : List NodeId) → IsSliced f seeds ms s → IsGrowing f seeds c.deref.result.now copy.up.count ms next = λ seeds t. subst (λ (xs : List NodeId). IsGrowing f seeds xs copy.up.count ms next) (sym c.deref.ensures.value) (grows seeds t) in
    let all : y.accesses.items ≡ s.expansions.accesses.items ++ more = c.in_ok-add_all.ensures.accesses ∙ ap (λ (xs : List Statement). xs ++ more) is.accesses in
    at_most f seeds ms s copy t is (s.expansions.accesses.items ++ more) c.args.steps.now c.grow.new.steps (subst (λ (xs : List Statement). AreWithin f (Contains xs) seeds copy.pairs c.args.steps.now c.grow.new.steps) all (c.grow.ensures.within seeds (turned_in seeds t)))

pub returns-clause-sliced : goal.returns-clause-sliced
returns-clause-sliced g c = λ seeds t.
    let f = c.args.f.now in
    let s = c.args.state.now in
    let copy = c.in_ok-next.next in
    let is = c.in_ok-next.ensures in
    let ms = c.args.methods.now.items in
    let more = c.args.accesses.now in
    let y = c.add_all.new.self in
    let nodes : List NodeId = c.add_all.new.into.items in
    let opens : Opens (NodesOf f.inputs (Contains more)) copy.expansions.marks.items y.marks.items [] nodes = subst (λ (xs : List NodeId). Opens (NodesOf f.inputs (Contains more)) copy.expansions.marks.items y.marks.items xs nodes) c.new-nodes.ensures.items c.in_ok-add_all.ensures.opens in
    let next : State = record copy { expansions = y } in
    let grows : (seeds : List NodeId) → IsSliced f seeds ms s → IsGrowing f seeds nodes copy.up.count ms next = λ seeds t. growing f seeds ms s copy t is more y nodes c.in_ok-add_all.ensures.accesses opens copy.up.count (sym (marked_copy s.up copy.up is.up t.up.set).count) in
    let turned_in : (seeds : List NodeId) → IsSliced f seeds ms s → IsGrowing f seeds c.deref.result.now copy.up.count ms next = λ seeds t. subst (λ (xs : List NodeId). IsGrowing f seeds xs copy.up.count ms next) (sym c.deref.ensures.value) (grows seeds t) in
    let all : y.accesses.items ≡ s.expansions.accesses.items ++ more = c.in_ok-add_all.ensures.accesses ∙ ap (λ (xs : List Statement). xs ++ more) is.accesses in
    c.in_ok-grow.ensures.sliced seeds (turned_in seeds t)

pub returns-clause-expansions : goal.returns-clause-expansions
returns-clause-expansions g c =
    let f = c.args.f.now in
    let s = c.args.state.now in
    let copy = c.in_ok-next.next in
    let is = c.in_ok-next.ensures in
    let ms = c.args.methods.now.items in
    let more = c.args.accesses.now in
    let y = c.add_all.new.self in
    let nodes : List NodeId = c.add_all.new.into.items in
    let opens : Opens (NodesOf f.inputs (Contains more)) copy.expansions.marks.items y.marks.items [] nodes = subst (λ (xs : List NodeId). Opens (NodesOf f.inputs (Contains more)) copy.expansions.marks.items y.marks.items xs nodes) c.new-nodes.ensures.items c.in_ok-add_all.ensures.opens in
    let next : State = record copy { expansions = y } in
    let grows : (seeds : List NodeId) → IsSliced f seeds ms s → IsGrowing f seeds nodes copy.up.count ms next = λ seeds t. growing f seeds ms s copy t is more y nodes c.in_ok-add_all.ensures.accesses opens copy.up.count (sym (marked_copy s.up copy.up is.up t.up.set).count) in
    let turned_in : (seeds : List NodeId) → IsSliced f seeds ms s → IsGrowing f seeds c.deref.result.now copy.up.count ms next = λ seeds t. subst (λ (xs : List NodeId). IsGrowing f seeds xs copy.up.count ms next) (sym c.deref.ensures.value) (grows seeds t) in
    let all : y.accesses.items ≡ s.expansions.accesses.items ++ more = c.in_ok-add_all.ensures.accesses ∙ ap (λ (xs : List Statement). xs ++ more) is.accesses in
    ap (λ (x : Expansions). x.accesses.items) c.grow.ensures.expansions ∙ all

pub returns-clause-turns : goal.returns-clause-turns
returns-clause-turns g c = λ seeds t.
    let f = c.args.f.now in
    let s = c.args.state.now in
    let copy = c.in_ok-next.next in
    let is = c.in_ok-next.ensures in
    let ms = c.args.methods.now.items in
    let more = c.args.accesses.now in
    let y = c.add_all.new.self in
    let nodes : List NodeId = c.add_all.new.into.items in
    let opens : Opens (NodesOf f.inputs (Contains more)) copy.expansions.marks.items y.marks.items [] nodes = subst (λ (xs : List NodeId). Opens (NodesOf f.inputs (Contains more)) copy.expansions.marks.items y.marks.items xs nodes) c.new-nodes.ensures.items c.in_ok-add_all.ensures.opens in
    let next : State = record copy { expansions = y } in
    let grows : (seeds : List NodeId) → IsSliced f seeds ms s → IsGrowing f seeds nodes copy.up.count ms next = λ seeds t. growing f seeds ms s copy t is more y nodes c.in_ok-add_all.ensures.accesses opens copy.up.count (sym (marked_copy s.up copy.up is.up t.up.set).count) in
    let turned_in : (seeds : List NodeId) → IsSliced f seeds ms s → IsGrowing f seeds c.deref.result.now copy.up.count ms next = λ seeds t. subst (λ (xs : List NodeId). IsGrowing f seeds xs copy.up.count ms next) (sym c.deref.ensures.value) (grows seeds t) in
    let all : y.accesses.items ≡ s.expansions.accesses.items ++ more = c.in_ok-add_all.ensures.accesses ∙ ap (λ (xs : List Statement). xs ++ more) is.accesses in
    turned f seeds ms s copy t is c.grow.new.methods.items c.grow.new.state (s.expansions.accesses.items ++ more) c.args.steps.now c.grow.new.steps (c.in_ok-grow.ensures.sliced seeds (turned_in seeds t)) (ap (λ (x : Expansions). x.accesses.items) c.grow.ensures.expansions ∙ all) c.in_ok-grow.ensures.turns
