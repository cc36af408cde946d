use Rattle.std.proofs.Common.{List, refl, sym, subst}
use Rattle.class_form.specs.declared.pool.Constant.{Constant}
use Rattle.hierarchy_tests.specs.TestClasses.{HasTestTexts}
use Rattle.hierarchy_tests.proofs.TestMembers.{test_class}
use Rattle.large_folders.specs.Pools.{pool_of}
use Rattle.large_folders.proofs.classes.class.Goals as goal

pub returns : goal.returns
returns c = test_class _ (subst (λ (zs : List Constant). HasTestTexts (pool_of zs)) (sym c.from_vec.ensures) c.requires) refl c.in_ok-fields.ensures.few c.in_ok-fields.ensures.texts c.in_ok-methods.ensures.few c.in_ok-methods.ensures.texts
