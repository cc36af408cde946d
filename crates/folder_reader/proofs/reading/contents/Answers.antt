use Rattle.std.proofs.Common.{rules, ◌+◌, ◌∷◌, [], ℕ, List, length, sym, ap, ◌∙◌, length-append, arith}
use Rattle.std.proofs.lemmas.List.{get_or_read, drop_all}
use Rattle.std.specs.List.{sum_by}
use Rattle.std.proofs.lemmas.List.Sums.{sum_by_push}
use Rattle.folder_reader.proofs.Kept.{goes_then, keeps_then}
use Rattle.folder_reader.proofs.Sums.{turn, ended, there_is, at_last}
use Rattle.folder_reader.proofs.reading.contents.Goals as goal

pub returns-in_err-total-clause-too_long : goal.returns-in_err-total-clause-too_long
returns-in_err-total-clause-too_long g c = λ kind count e.
    let files = g.H.Host.files in
    let l = c.loop-path in
    ended (files c.args.host.now) (files l.host) c.args.paths.now l.path-index c.as_str.result.now (λ d. sym (get_or_read c.args.paths.now l.path-index c.path-item.result c.loop-path-test.true c.path-item.is d) ∙ sym c.as_str.ensures)
    c.loop-path-test.true l.invariant.keeps.same_files l.total l.all.items kind count l.invariant.so_far (c.add_content.ensures.too_long kind count (search rules))

pub returns-in_err-total-clause-cause : goal.returns-in_err-total-clause-cause
returns-in_err-total-clause-cause g c = λ e steady.
    let files = g.H.Host.files in
    let l = c.loop-path in
    there_is (files c.args.host.now) (files l.host) c.args.paths.now l.path-index c.as_str.result.now (λ d. sym (get_or_read c.args.paths.now l.path-index c.path-item.result c.loop-path-test.true c.path-item.is d) ∙ sym c.as_str.ensures)
    c.loop-path-test.true l.invariant.keeps.same_files (c.add_content.ensures.cause (search rules) (l.invariant.goes.same_host ∙ steady))

pub loop-path-preserved : goal.loop-path-preserved
loop-path-preserved g c =
    let host = g.H.Host in
    let l = c.loop-path in
    let f = c.in_ok-total.ensures.found in
    let size = ap (length {A = List ℕ}) f.5 ∙ length-append l.all.items (f.0 ∷ []) in
    record {
      so_far = turn (host.files c.args.host.now) (host.files l.host) c.args.paths.now l.path-index c.as_str.result.now (λ d. sym (get_or_read c.args.paths.now l.path-index c.path-item.result c.loop-path-test.true c.path-item.is d) ∙ sym c.as_str.ensures)
          c.loop-path-test.true l.invariant.keeps.same_files l.total l.all.items f.0 c.in_ok-total.total c.add_content.new.all.items l.invariant.so_far f.1 f.2 f.3 f.4 f.5;
      number = omega (arith, l.invariant.number, size);
      total = ap (λ (xs : List (List ℕ)). sum_by length xs) f.5 ∙ (sum_by_push length l.all.items f.0 ∙ (ap (λ (n : ℕ). n + length f.0) l.invariant.total ∙ sym f.3));
      bound = f.4;
      goes = goes_then host.faults host.steady host.source_steady host.sink_steady c.args.host.now l.host c.add_content.new.host l.invariant.goes c.in_ok-total.ensures.goes;
      keeps = keeps_then host.files host.said c.args.host.now l.host c.add_content.new.host l.invariant.keeps c.in_ok-total.ensures.keeps;
    }

pub returns-clause-found : goal.returns-clause-found
returns-clause-found g c =
    let l = c.loop-path in
    at_last (g.H.Host.files c.args.host.now) c.args.paths.now l.path-index l.total l.all.items (drop_all l.path-index c.args.paths.now (omega (arith, c.loop-path-test.false))) l.invariant.so_far
