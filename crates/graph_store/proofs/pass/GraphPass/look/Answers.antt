use Rattle.std.proofs.Common.{◌≡◌, ◌<◌, ◌∙◌, Some, None, length, refl, sym, subst, arith}
use Rattle.std.specs.Prelude.{slice_get}
use Rattle.std.specs.Vec.{with_item}
use Rattle.std.proofs.lemmas.Option.{slice_get_read, slice_get_within}
use Rattle.dep_form.specs.declared.input.MethodInput.{MethodInput}
use Rattle.dep_form.specs.Inputs.{IsInputOf}
use Rattle.graph_store.proofs.Slots.{has_seen_at, get_set, gives_same, knows_at, one_input}
use Rattle.graph_store.proofs.pass.GraphPass.look.Goals as goal

pub returns-clause-shared : goal.returns-clause-shared
returns-clause-shared c =
    let p = c.args.self.now in
    let f = c.args.f.now in
    let m = c.args.m in
    let u = c.look.new.self in
    let lt : m.0 < length p.slots.items = omega (arith, slice_get_within f.inputs m.0 _ c.requires.method.1, c.requires.inputs.count) in
    let at : slice_get p.slots.items m.0 ≡ Some c.index_mut-slot.result.now = slice_get_read p.slots.items (length p.slots.items) m.0 c.index_mut-slot.result.now refl lt c.index_mut-slot.ensures.value in
    let now = get_set p.slots.items m.0 c.index_mut-slot.result.now u at in (
      (λ r. let h = c.look.ensures.shared.0 r in (h.0, (u, now, h.1), subst (λ (i : MethodInput). IsInputOf f.inputs m i) (sym h.2) c.input.ensures)),
      (λ k. c.look.ensures.shared.1 (k.0, knows_at (record { slots = with_item p.slots m.0 u }) m.0 u k.0 now k.1, one_input f m k.0.input c.input.result.now k.2 c.input.ensures)),
    )

pub returns-clause-seen : goal.returns-clause-seen
returns-clause-seen c =
    let p = c.args.self.now in
    let f = c.args.f.now in
    let m = c.args.m in
    let lt : m.0 < length p.slots.items = omega (arith, slice_get_within f.inputs m.0 _ c.requires.method.1, c.requires.inputs.count) in
    let at : slice_get p.slots.items m.0 ≡ Some c.index_mut-slot.result.now = slice_get_read p.slots.items (length p.slots.items) m.0 c.index_mut-slot.result.now refl lt c.index_mut-slot.ensures.value in
    λ r. has_seen_at f p _ m c.input.result.now c.index_mut-slot.result.now c.look.new.self c.input.ensures at refl c.look.ensures.fits (c.look.ensures.seen r)

pub returns-clause-stays : goal.returns-clause-stays
returns-clause-stays c =
    let p = c.args.self.now in
    let f = c.args.f.now in
    let m = c.args.m in
    let lt : m.0 < length p.slots.items = omega (arith, slice_get_within f.inputs m.0 _ c.requires.method.1, c.requires.inputs.count) in
    let at : slice_get p.slots.items m.0 ≡ Some c.index_mut-slot.result.now = slice_get_read p.slots.items (length p.slots.items) m.0 c.index_mut-slot.result.now refl lt c.index_mut-slot.ensures.value in
    λ r n. gives_same p (record { slots = with_item p.slots m.0 c.look.new.self }) m.0 c.index_mut-slot.result.now c.look.new.self at refl (c.look.ensures.stays r) n
