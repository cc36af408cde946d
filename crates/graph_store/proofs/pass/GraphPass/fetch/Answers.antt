use Rattle.std.proofs.Common.{◌≡◌, ◌<◌, ◌∙◌, Some, None, length, refl, sym, arith}
use Rattle.std.specs.Prelude.{slice_get}
use Rattle.std.proofs.lemmas.Result.{IfOk-weaker, on_err_weaker}
use Rattle.std.proofs.lemmas.Option.{slice_get_read, slice_get_within}
use Rattle.graph_store.proofs.Slots.{has_seen_at, given_at}
use Rattle.graph_store.proofs.pass.GraphPass.fetch.Goals as goal

pub returns-clause-seen : goal.returns-clause-seen
returns-clause-seen c =
    let p = c.args.self.now in
    let f = c.args.f.now in
    let m = c.args.m in
    let lt : m.0 < length p.slots.items = omega (arith, slice_get_within f.inputs m.0 _ c.requires.method.1, c.requires.inputs.count) in
    let at : slice_get p.slots.items m.0 ≡ Some c.index_mut-slot.result.now = slice_get_read p.slots.items (length p.slots.items) m.0 c.index_mut-slot.result.now refl lt c.index_mut-slot.ensures.value in
    IfOk-weaker c.fetch.result _ _ (λ _ h. has_seen_at f p _ m c.input.result.now c.index_mut-slot.result.now c.fetch.new.self c.input.ensures at refl c.fetch.ensures.fits h) c.fetch.ensures.seen

pub returns-clause-memory : goal.returns-clause-memory
returns-clause-memory c =
    let p = c.args.self.now in
    let f = c.args.f.now in
    let m = c.args.m in
    let lt : m.0 < length p.slots.items = omega (arith, slice_get_within f.inputs m.0 _ c.requires.method.1, c.requires.inputs.count) in
    let at : slice_get p.slots.items m.0 ≡ Some c.index_mut-slot.result.now = slice_get_read p.slots.items (length p.slots.items) m.0 c.index_mut-slot.result.now refl lt c.index_mut-slot.ensures.value in
    on_err_weaker c.fetch.result (λ h. given_at p m.0 c.index_mut-slot.result.now at ∙ h) c.fetch.ensures.memory
