use Rattle.dep_form.specs.Outside.{IsReflection}
use Rattle.constraint_rules.specs.Naming.{key_in}
use Rattle.constraints.proofs.OfCalls.{in_folder, outside_folder, found_or_not}
use Rattle.constraints.proofs.call_sites.refused_by.Goals as goal

pub returns-in-Some : goal.returns-in-Some
returns-in-Some c = in_folder c.args.t.now.h.now (key_in c.args.r) c.in-Some.field-0 c.in-Some.ensures

pub returns-in-None : goal.returns-in-None
returns-in-None c =
    let key = key_in c.args.r in
    outside_folder c.args.t.now.h.now key c.refused_call.result c.in-None.ensures
    (found_or_not (IsReflection key.class key.name) c.refused_call.result c.refused_call.ensures.found c.refused_call.ensures.only)
