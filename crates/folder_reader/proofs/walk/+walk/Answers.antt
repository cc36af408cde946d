use Rattle.std.proofs.Common.{rules, ◌<◌, ℕ, List, sym, ap, subst, ◌∙◌, arith}
use Rattle.std.proofs.lemmas.List.{get_or_read, drop_all}
use Rattle.slicer_ids.specs.declared.limits.LimitKind.TheVariants.{Depth}
use Rattle.edge_io.specs.declared.host.Item.{Item}
use Rattle.edge_io.specs.Files.{inside}
use Rattle.folder_form.specs.Walks.{TooMany}
use Rattle.folder_reader.specs.Turns.{AddsFile, IsFileTooMany}
use Rattle.folder_reader.proofs.Errors.{same_kind, same_count}
use Rattle.folder_reader.proofs.Kept.{goes_then, keeps_then}
use Rattle.folder_reader.proofs.Turning.{Told, at_first, turn, ended, there_is, at_last, file_added, file_too_many, deep, folder_walked, folder_ends, folder_gone, on_ok, added_below, walked_below}
use Rattle.folder_reader.proofs.walk.+walk.Goals as goal

pub walk-loop-item-init : goal.walk-loop-item-init
walk-loop-item-init g t c =
    let e = c.in_ok-items.ensures in
    record {
      on = at_first (g.H.Host.files c.args.host.now) c.args.depth c.args.folder.now c.deref-item-items.result.now c.args.found.now.items;
      few = λ h. h;
      below = λ root at all. all;
      goes = e.goes;
      keeps = e.keeps;
    }

pub walk-loop-item-preserved : goal.walk-loop-item-preserved
walk-loop-item-preserved g t c =
    let host = g.H.Host in
    let l = c.loop-item in
    let e = c.in_ok-visit.ensures in
    let items = c.deref-item-items.result.now in
    let told = subst (λ (xs : List Item). Told (host.files c.args.host.now) c.args.folder.now xs) (sym c.deref-item-items.ensures.value) c.in_ok-items.ensures.tells in
    record {
      on = turn (host.files c.args.host.now) (host.files l.host) c.args.depth c.args.folder.now items l.item-index c.item-item.result
          (λ d. sym (get_or_read items l.item-index c.item-item.result c.loop-item-test.true c.item-item.is d)) c.loop-item-test.true l.invariant.keeps.same_files
          c.args.found.now.items l.found.items c.visit.new.found.items told l.invariant.on e.found;
      few = λ h. e.few (l.invariant.few h);
      below = λ root at all. e.below root at (l.invariant.below root at all);
      goes = goes_then host.faults host.steady host.source_steady host.sink_steady c.args.host.now l.host c.visit.new.host l.invariant.goes e.goes;
      keeps = keeps_then host.files host.said c.args.host.now l.host c.visit.new.host l.invariant.keeps e.keeps;
    }

pub walk-returns-in_err-visit-clause-too_many : goal.walk-returns-in_err-visit-clause-too_many
walk-returns-in_err-visit-clause-too_many g t c = λ kind count e.
    let host = g.H.Host in
    let l = c.loop-item in
    let items = c.deref-item-items.result.now in
    let told = subst (λ (xs : List Item). Told (host.files c.args.host.now) c.args.folder.now xs) (sym c.deref-item-items.ensures.value) c.in_ok-items.ensures.tells in
    ended (host.files c.args.host.now) (host.files l.host) c.args.depth c.args.folder.now items l.item-index c.item-item.result
    (λ d. sym (get_or_read items l.item-index c.item-item.result c.loop-item-test.true c.item-item.is d)) c.loop-item-test.true l.invariant.keeps.same_files
    c.args.found.now.items l.found.items (TooMany kind count) told l.invariant.on (c.visit.ensures.too_many kind count (search rules))

pub walk-returns-in_err-visit-clause-cause : goal.walk-returns-in_err-visit-clause-cause
walk-returns-in_err-visit-clause-cause g t c = λ e steady.
    let host = g.H.Host in
    let l = c.loop-item in
    let items = c.deref-item-items.result.now in
    let told = subst (λ (xs : List Item). Told (host.files c.args.host.now) c.args.folder.now xs) (sym c.deref-item-items.ensures.value) c.in_ok-items.ensures.tells in
    there_is (host.files c.args.host.now) (host.files l.host) c.args.depth c.args.folder.now items l.item-index c.item-item.result
    (λ d. sym (get_or_read items l.item-index c.item-item.result c.loop-item-test.true c.item-item.is d)) c.loop-item-test.true l.invariant.keeps.same_files
    told (c.visit.ensures.cause (search rules) (l.invariant.goes.same_host ∙ steady))

pub walk-returns-in_err-visit-clause-goes : goal.walk-returns-in_err-visit-clause-goes
walk-returns-in_err-visit-clause-goes g t c =
    let host = g.H.Host in
    goes_then host.faults host.steady host.source_steady host.sink_steady c.args.host.now c.loop-item.host c.visit.new.host c.loop-item.invariant.goes c.visit.ensures.goes

pub walk-returns-in_err-visit-clause-keeps : goal.walk-returns-in_err-visit-clause-keeps
walk-returns-in_err-visit-clause-keeps g t c =
    let host = g.H.Host in
    keeps_then host.files host.said c.args.host.now c.loop-item.host c.visit.new.host c.loop-item.invariant.keeps c.visit.ensures.keeps

pub walk-returns-clause-found : goal.walk-returns-clause-found
walk-returns-clause-found g t c =
    let host = g.H.Host in
    let l = c.loop-item in
    let items = c.deref-item-items.result.now in
    let told = subst (λ (xs : List Item). Told (host.files c.args.host.now) c.args.folder.now xs) (sym c.deref-item-items.ensures.value) c.in_ok-items.ensures.tells in
    at_last (host.files c.args.host.now) c.args.depth c.args.folder.now items l.item-index c.args.found.now.items l.found.items
    (drop_all l.item-index items (omega (arith, c.loop-item-test.false))) told l.invariant.on

pub visit-returns-then-not-item-clause-found : goal.visit-returns-then-not-item-clause-found
visit-returns-then-not-item-clause-found g t c =
    let before = c.args.found.now.items in
    let after = c.add_file.new.found.items in
    on_ok c.add_file.result
    (λ (adds : AddsFile c.args.folder.now c.as_str.result.now before after).
    file_added (g.H.Host.files c.args.host.now) c.args.depth c.args.folder.now c.args.item.now before after c.if-not-item.true
    (subst (λ (n : List ℕ). AddsFile c.args.folder.now n before after) c.as_str.ensures adds))
    c.add_file.ensures.found

pub visit-returns-then-not-item-clause-below : goal.visit-returns-then-not-item-clause-below
visit-returns-then-not-item-clause-below g t c =
    added_below c.args.folder.now c.as_str.result.now c.args.found.now.items c.add_file.new.found.items c.add_file.result c.add_file.ensures.found

pub visit-returns-then-not-item-clause-too_many : goal.visit-returns-then-not-item-clause-too_many
visit-returns-then-not-item-clause-too_many g t c = λ kind count e.
    let before = c.args.found.now.items in
    file_too_many (g.H.Host.files c.args.host.now) c.args.depth c.args.folder.now c.args.item.now before kind count c.if-not-item.true
    (subst (λ (n : List ℕ). IsFileTooMany n before kind count) c.as_str.ensures (c.add_file.ensures.too_many kind count e))

pub visit-returns-then-depth-ge-DEPTH-clause-too_many : goal.visit-returns-then-depth-ge-DEPTH-clause-too_many
visit-returns-then-depth-ge-DEPTH-clause-too_many g t c = λ kind count e.
    deep (g.H.Host.files c.args.host.now) c.args.depth c.args.folder.now c.args.item.now c.args.found.now.items kind count c.if-not-item.false (λ near. omega (arith, near, c.if-depth-ge-DEPTH.true))
    (same_kind Depth kind 65 count e) (same_count Depth kind 65 count e)

pub visit-returns-clause-found : goal.visit-returns-clause-found
visit-returns-clause-found g t c =
    let at = c.as_str-3.ensures.value ∙ (c.in_ok-path.ensures.path ∙ ap (λ (n : List ℕ). inside c.args.folder.now n) c.as_str-2.ensures) in
    let near : c.args.depth < 64 = omega (arith, c.if-depth-ge-DEPTH.false) in
    on_ok c.walk.result
    (λ w. folder_walked c.args.depth c.args.folder.now c.as_str-3.result.now c.args.item.now c.if-not-item.false near at (g.H.Host.files c.args.host.now) c.args.found.now.items c.walk.new.found.items w)
    c.walk.ensures.found

pub visit-returns-clause-below : goal.visit-returns-clause-below
visit-returns-clause-below g t c =
    let at = c.as_str-3.ensures.value ∙ (c.in_ok-path.ensures.path ∙ ap (λ (n : List ℕ). inside c.args.folder.now n) c.as_str-2.ensures) in
    walked_below c.args.folder.now c.as_str-3.result.now c.args.item.now.name c.args.found.now.items c.walk.new.found.items at c.walk.result c.walk.ensures.below

pub visit-returns-clause-too_many : goal.visit-returns-clause-too_many
visit-returns-clause-too_many g t c = λ kind count e.
    let at = c.as_str-3.ensures.value ∙ (c.in_ok-path.ensures.path ∙ ap (λ (n : List ℕ). inside c.args.folder.now n) c.as_str-2.ensures) in
    let near : c.args.depth < 64 = omega (arith, c.if-depth-ge-DEPTH.false) in
    folder_ends c.args.depth c.args.folder.now c.as_str-3.result.now c.args.item.now c.if-not-item.false near at (g.H.Host.files c.args.host.now) c.args.found.now.items kind count
    (c.walk.ensures.too_many kind count e)

pub visit-returns-clause-cause : goal.visit-returns-clause-cause
visit-returns-clause-cause g t c = λ e steady.
    let at = c.as_str-3.ensures.value ∙ (c.in_ok-path.ensures.path ∙ ap (λ (n : List ℕ). inside c.args.folder.now n) c.as_str-2.ensures) in
    let near : c.args.depth < 64 = omega (arith, c.if-depth-ge-DEPTH.false) in
    folder_gone c.args.depth c.args.folder.now c.as_str-3.result.now c.args.item.now c.if-not-item.false near at (g.H.Host.files c.args.host.now) (c.walk.ensures.cause e steady)
