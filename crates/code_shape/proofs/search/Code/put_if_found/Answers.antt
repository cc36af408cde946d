use Rattle.std.proofs.Common.{rules, ◌≡◌, ◌<◌, ◌≤◌, ◌+◌, ◌-◌, ℕ, List, [], ◌∷◌, ◌++◌, take, map, length, get_or, Contains, inl, inr, refl, sym, ap, subst, ◌∙◌, arith}
use Rattle.std.specs.Prelude.{IsTrue, true, false, slice_get}
use Rattle.std.proofs.lemmas.List.{take_all}
use Rattle.std.proofs.lemmas.List.Elements.{Contains-get_or, All-contains}
use Rattle.std.proofs.lemmas.Option.{slice_get_within, slice_get-get_or, get_or_from_slice_get}
use Rattle.class_form.specs.Table.{opcode_of}
use Rattle.class_form.specs.declared.body.Instr.{Instr}
use Rattle.class_form.specs.declared.body.Point.{Point}
use Rattle.class_form.specs.Shapes.{GoesTo, Catches, HasLocal, RunsOff, IsReached, IsReachable, IsPointOf, ArePoints}
use Rattle.worklists.specs.Growth.{Grows, FromOne}
use Rattle.worklist.specs.Worklists.{is_marked}
use Rattle.worklists.proofs.Growing.{Grows-same, Grows-more, Grows-none}
use Rattle.slicer_ids.specs.Sets.{IsOrderedListOf}
use Rattle.code_shape.specs.declared.covers.Cover.{Cover}
use Rattle.code_shape.specs.Codes.{IsAt}
use Rattle.code_shape.specs.Searches.{IsCode, IsDone, depth_in}
use Rattle.code_shape.specs.Listed.{IsNextOf, handler_of}
use Rattle.code_shape.specs.Pointed.{ArePointsTo}
use Rattle.code_shape.proofs.Orders.{read_at, there_at, index_in}
use Rattle.code_shape.proofs.Listing.{grows_push}
use Rattle.code_shape.proofs.Searching.{same_instr, index_at}
use Rattle.code_shape.proofs.Pointing.{no_next_of, goes_to, ordered_next, next_small, ordered_handlers, no_points, passed, one_point, all_points}
use Rattle.code_shape.proofs.search.Code.put_if_found.Goals as goal

pub returns-then-not-index : goal.returns-then-not-index
returns-then-not-index c =
    let instrs = c.args.self.now.instrs.now in
    let i = index_at instrs c.args.index c.requires.index in
    let unmarked : is_marked c.args.search.now.found.marks.items c.args.index ≡ false = search rules in
    passed c.args.self.now c.args.search.now c.requires.code c.requires.search c.args.index c.args.points.now.items c.requires.points i.0 i.1 unmarked

pub put_at-requires-clause-stays : goal.put_at-requires-clause-stays
put_at-requires-clause-stays c = λ i at.
    let marks = c.args.search.now.found.marks.items in
    let r = c.index.result.now in
    let marked : is_marked marks c.args.index ≡ true = get_or_from_slice_get marks c.args.index r false (read_at marks c.args.index r (omega (arith, c.requires.search.search.size, c.requires.index)) c.index.ensures) ∙ c.if-not-index.false in
    c.requires.ends i (there_at c.args.self.now.instrs.now c.args.index i at, (c.requires.search.exact c.args.index i at).0 (c.requires.search.search.marks.marked c.args.index marked))

pub returns : goal.returns
returns c =
    let instrs = c.args.self.now.instrs.now in
    let i = index_at instrs c.args.index c.requires.index in
    let marks = c.args.search.now.found.marks.items in
    let r = c.index.result.now in
    let marked : is_marked marks c.args.index ≡ true = get_or_from_slice_get marks c.args.index r false (read_at marks c.args.index r (omega (arith, c.requires.search.search.size, c.requires.index)) c.index.ensures) ∙ c.if-not-index.false in
    let depths = c.args.search.now.depths.items in
    let p = c.in_ok-put_at.ensures in
    let d = c.index-depth.result.now in
    let same = get_or_from_slice_get depths c.args.index d 0 (read_at depths c.args.index d (omega (arith, c.requires.search.search.depths, c.requires.index)) c.index-depth.ensures) in
    one_point c.args.self.now c.args.search.now c.requires.code c.requires.search c.args.index c.args.points.now.items c.requires.points i.0 i.1 p.0 c.put_at.new.points.items marked p.1 (p.2 i.0 i.1) (p.3 ∙ sym same)
