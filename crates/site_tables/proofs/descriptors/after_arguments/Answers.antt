use Rattle.std.proofs.Common.{◌≡◌, ◌∙◌, sym, subst, ap, drop, length, arith}
use Rattle.class_form.proofs.Descriptors.{shorter}
use Rattle.jvm_names.specs.Reading.{StartsWithArguments}
use Rattle.jvm_names.proofs.Arguments.{one_more_argument}
use Rattle.site_tables.proofs.Outcomes.{next_argument, last_argument}
use Rattle.site_tables.proofs.descriptors.after_arguments.Goals as goal

pub type_in_front-requires : goal.type_in_front-requires
type_in_front-requires c =
    let m = one_more_argument c.loop-rest.rest.now c.loop-rest.invariant.left c.loop-rest-test.true in
    (m.type, m.rest, m.is, m.text)

pub loop-rest-preserved : goal.loop-rest-preserved
loop-rest-preserved c =
    let rest = c.loop-rest.rest.now in
    let m = one_more_argument rest c.loop-rest.invariant.left c.loop-rest-test.true in
    let after : c.type_in_front.result.1.now ≡ m.rest = (c.type_in_front.ensures m.type m.rest m.is m.text).1 in
    record {
      left = subst StartsWithArguments (sym after) m.others;
      same = λ ts end all e.
          let (us, are, text) = c.loop-rest.invariant.same ts end all e in
          next_argument rest c.type_in_front.result.1.now us end are text c.loop-rest-test.true (λ u r is front. (c.type_in_front.ensures u r is front).1);
    }

pub returns : goal.returns
returns c = λ ts rest all e.
    let (us, are, text) = c.loop-rest.invariant.same ts rest all e in
    c.split_at.ensures.back ∙ last_argument c.loop-rest.rest.now us rest are text c.loop-rest.invariant.left c.loop-rest-test.false

pub loop-rest-smaller : goal.loop-rest-smaller
loop-rest-smaller c =
    let rest = c.loop-rest.rest.now in
    let m = one_more_argument rest c.loop-rest.invariant.left c.loop-rest-test.true in
    let after : c.type_in_front.result.1.now ≡ m.rest = (c.type_in_front.ensures m.type m.rest m.is m.text).1 in
    omega (arith, ap length after, shorter rest m.rest m.type m.is m.text)
