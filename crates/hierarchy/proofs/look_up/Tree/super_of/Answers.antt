use Rattle.std.proofs.Common.{subst, arith}
use Rattle.hierarchy.specs.Names.{IsSuperOf}
use Rattle.hierarchy.proofs.Placing.{class_at}
use Rattle.hierarchy.proofs.Chains.{chain_from, has_chain}
use Rattle.hierarchy.proofs.look_up.Tree.super_of.Goals as goal

pub returns : goal.returns
returns c =
    subst (λ classes. IsSuperOf classes c.args.class c.class_named.result) c.as_slice-classes.ensures.value
    (c.index-classes-class.result, class_at c.as_slice-classes.result.now c.args.class c.index-classes-class.result (omega arith) c.index-classes-class.is, c.class_named.ensures)
