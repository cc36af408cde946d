use Rattle.std.proofs.Common.{rules, ◌≡◌, ◌<◌, ◌≤◌, ◌+◌, ◌-◌, ℕ, List, [], ◌∷◌, ◌++◌, take, map, length, get_or, Contains, inl, inr, refl, sym, ap, subst, ◌∙◌, arith}
use Rattle.std.specs.Prelude.{IsTrue, true, false, slice_get}
use Rattle.std.proofs.lemmas.List.{take_all}
use Rattle.std.proofs.lemmas.List.Elements.{Contains-get_or, All-contains}
use Rattle.std.proofs.lemmas.Option.{slice_get_within, slice_get-get_or, get_or_from_slice_get}
use Rattle.class_form.specs.Table.{opcode_of}
use Rattle.class_form.specs.declared.body.Instr.{Instr}
use Rattle.class_form.specs.declared.body.Point.{Point}
use Rattle.class_form.specs.Shapes.{GoesTo, Catches, HasLocal, RunsOff, IsReached, IsReachable, IsPointOf, ArePoints}
use Rattle.worklists.specs.Growth.{Grows, FromOne}
use Rattle.worklist.specs.Worklists.{is_marked}
use Rattle.worklists.proofs.Growing.{Grows-same, Grows-more, Grows-none}
use Rattle.slicer_ids.specs.Sets.{IsOrderedListOf}
use Rattle.code_shape.specs.declared.covers.Cover.{Cover}
use Rattle.code_shape.specs.Codes.{IsAt}
use Rattle.code_shape.specs.Searches.{IsCode, IsDone, depth_in}
use Rattle.code_shape.specs.Listed.{IsNextOf, handler_of}
use Rattle.code_shape.proofs.Orders.{read_at, there_at, index_in}
use Rattle.code_shape.proofs.Listing.{grows_push}
use Rattle.code_shape.proofs.Searching.{same_instr, index_at}
use Rattle.code_shape.proofs.Pointing.{no_next_of, goes_to, ordered_next, next_small, ordered_handlers, no_points, passed, one_point, all_points}
use Rattle.code_shape.proofs.points.put_targets.Given as goal

abbrev pub invariant-loop-target : goal.invariant-loop-target
invariant-loop-target l = Grows l.initial.pcs.items l.pcs.items (FromOne (λ (n m : ℕ). m ≡ n) (take l.target-index l.targets))
