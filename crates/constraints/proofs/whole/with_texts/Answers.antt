use Rattle.std.proofs.Common.{List, map, length, sym, subst, ap, arith}
use Rattle.std.specs.Prelude.{AllPairs}
use Rattle.slicer_ids.specs.declared.ids.ClassId.{ClassId}
use Rattle.slicer_ids.specs.declared.ids.MethodId.{MethodId}
use Rattle.slicer_ids.specs.declared.ids.Statement.{Statement}
use Rattle.class_form.specs.declared.class_file.ClassFile.{ClassFile}
use Rattle.dep_form.specs.declared.rules.SiteInfo.{SiteInfo}
use Rattle.dep_form.specs.declared.rules.Var.{Var}
use Rattle.signature_tables.specs.TextPairs.{pair_of}
use Rattle.site_tables.specs.Tables.{IsTableOf}
use Rattle.constraint_rules.specs.Settings.{AreInitializers}
use Rattle.constraints.specs.Initializers.{ClassRises}
use Rattle.constraints.specs.Parts.{IsWithinParts, IsMadeOf}
use Rattle.constraints.proofs.Ending.{few_made}
use Rattle.constraints.proofs.Tabled.{signatures_listed}
use Rattle.constraints.proofs.whole.with_texts.Goals as goal

pub types_in_order-requires : goal.types_in_order-requires
types_in_order-requires c = record {
  classes = omega (arith, c.in_ok-few.ensures, ap (λ (ks : List ClassFile). length ks) c.classes.ensures.classes);
  few = c.requires.signatures.few;
}

pub variable_tables-requires : goal.variable_tables-requires
variable_tables-requires c = let (p, given) = c.requires.program in record { program = (p, given.of, given.bodies_are); followed = c.requires.followed }

pub initializers-requires : goal.initializers-requires
initializers-requires c = let (p, given) = c.requires.program in (p, given.of, (c.requires.root p given.of).0)

pub parts_by-requires : goal.parts_by-requires
parts_by-requires c =
    let (p, given) = c.requires.program in
    record {
      program = c.requires.program;
      followed = c.requires.followed;
      root = c.requires.root;
      ready = record {
        variables = c.in_ok-variables.ensures.order;
        signatures = (c.requires.signatures.listed p given.of given.bodies_are).order;
        foreign = (c.requires.foreign.listed p given.of given.bodies_are).order;
        initializers = subst (λ (xs : List (ClassId × MethodId)). AllPairs ClassRises xs) (sym c.as_slice.ensures.value) c.in_ok-initializers.ensures.order;
        few_calls = omega (arith, c.in_ok-few-2.ensures, ap (λ (xs : List (Statement × Var)). length xs) c.items.ensures);
        few_sites = omega (arith, c.requires.sites.1, ap (λ (xs : List SiteInfo). length xs) c.items-2.ensures);
        few_signatures = c.requires.signatures.few;
        few_foreign = c.requires.foreign.few;
      };
      tables = record {
        variables = λ q of e. c.in_ok-variables.ensures.tables q of e;
        sites = subst (λ (xs : List SiteInfo). IsTableOf c.args.h.now c.args.bodies.now xs) (sym c.items-2.ensures) c.requires.sites.0;
        signatures = c.requires.signatures;
        foreign = c.requires.foreign;
        initializers = λ q of. subst (λ (xs : List (ClassId × MethodId)). AreInitializers q xs) (sym c.as_slice.ensures.value) (c.in_ok-initializers.ensures.all q of);
        fields = λ q of. c.in_ok-fields.ensures q of;
      };
      types = record {
        each = λ q of e. c.in_ok-types.ensures.types q of (signatures_listed q (map pair_of c.args.signatures.now) (c.requires.signatures.listed q of e));
        subclasses = c.in_ok-types.ensures.subclasses;
        selects = c.in_ok-types.ensures.selects;
      };
    }

pub system_of-requires : goal.system_of-requires
system_of-requires c =
    subst (λ (xs : List SiteInfo). IsWithinParts c.in_ok-parts.parts c.in_ok-variables.variables xs c.in_ok-types.types c.in_ok-fields.fields) c.items-2.ensures c.in_ok-parts.ensures.within

pub returns : goal.returns
returns c =
    let (p, given) = c.requires.program in
    let s = c.system_of.result in
    let made = subst (λ (xs : List SiteInfo). IsMadeOf c.in_ok-parts.parts c.in_ok-variables.variables xs c.in_ok-types.types c.in_ok-fields.fields s) (sym c.items-2.ensures) c.system_of.ensures in (
      c.in_ok-parts.ensures.system s made,
      few_made c.in_ok-parts.parts c.in_ok-variables.variables c.args.sites c.in_ok-types.types c.in_ok-fields.fields s (length p.methods) c.system_of.ensures
          (c.in_ok-variables.ensures.tables p given.of given.bodies_are).methods.count (c.requires.root p given.of).1 c.requires.sites.1,
    )
