use Rattle.std.proofs.Common.{List, map, sym, subst}
use Rattle.std.specs.Prelude.{Contains}
use Rattle.slicer_ids.specs.Order.{StatementBefore}
use Rattle.class_form.specs.declared.body.Instr.{Instr}
use Rattle.signature_tables.specs.Statements.{IsInstrPc}
use Rattle.variable_tables.proofs.InOrder.{grows_none}
use Rattle.constraint_rules.specs.Settings.{place_of}
use Rattle.constraints.specs.Places.{IsPlaceAt}
use Rattle.constraints.proofs.places.push_point.Goals as goal

pub push_instr-requires : goal.push_instr-requires
push_instr-requires c =
    let found = c.in-Some.ensures.found in
    record {
      body = c.requires.body;
      point = c.requires.point;
      instr = (subst (λ (is : List Instr). Contains is c.in-Some.instr.now) c.items.ensures found.0, found.1);
    }

pub returns-in-None-clause-order : goal.returns-in-None-clause-order
returns-in-None-clause-order c =
    grows_none StatementBefore (λ t. ⊥) (map place_of c.args.places.now.items) (IsPlaceAt c.args.body.now c.args.point.now)
    (λ t h. c.in-None.ensures.missed (subst (λ (is : List Instr). IsInstrPc is c.args.point.now.pc) (sym c.items.ensures) h.1))

pub returns-in-None-clause-each : goal.returns-in-None-clause-each
returns-in-None-clause-each c = λ bodies has followed all. all
