use Rattle.std.proofs.lemmas.Result.{IfOk-weaker}
use Rattle.dep_form.specs.declared.system.System.{System}
use Rattle.constraints.specs.Parts.{IsWithinParts, IsMadeOf}
use Rattle.constraints.specs.Programs.{IsSystemFor}
use Rattle.constraints.proofs.Tabled.{tabled_of, parts_within, system_is, PartsFor}
use Rattle.constraints.proofs.whole.parts_by.Goals as goal

pub parts_of-requires : goal.parts_of-requires
parts_of-requires c =
    let (p, given) = c.requires.program in
    record {
      ready = c.requires.ready;
      sites = (p, c.requires.tables.sites p given.of given.bodies_are);
      program = (p, given.of, given.bodies_are);
      followed = c.requires.followed;
    }

pub returns-clause-within : goal.returns-clause-within
returns-clause-within c =
    let t = c.args.t.now in
    let types = c.args.types.now in
    let (p, given) = c.requires.program in
    IfOk-weaker c.parts_of.result (PartsFor t c.args.bodies.now c.args.entries.now c.args.root) (λ parts. IsWithinParts parts t.variables.now t.sites.now types t.fields)
    (λ parts are.
    parts_within t p (tabled_of t c.args.bodies.now c.requires.tables p given.of given.bodies_are) given.entered types (c.requires.types.each p given.of given.bodies_are) parts
    c.constraints_are_those_of_statements.ensures (λ s names set. are p s names set given.bodies_are given.entries_are (c.requires.root p given.of).0))
    c.parts_of.ensures

pub returns-clause-system : goal.returns-clause-system
returns-clause-system c =
    let t = c.args.t.now in
    let types = c.args.types.now in
    IfOk-weaker c.parts_of.result (PartsFor t c.args.bodies.now c.args.entries.now c.args.root)
    (λ parts. (s : System) → IsMadeOf parts t.variables.now t.sites.now types t.fields s → IsSystemFor t.h.now c.args.bodies.now c.args.entries.now s)
    (λ parts are. λ s made p given.
    system_is t p (tabled_of t c.args.bodies.now c.requires.tables p given.of given.bodies_are) types (c.requires.types.each p given.of given.bodies_are) c.requires.types.subclasses
    c.requires.types.selects parts c.constraints_are_those_of_statements.ensures (λ s names set. are p s names set given.bodies_are given.entries_are (c.requires.root p given.of).0) s made)
    c.parts_of.ensures
