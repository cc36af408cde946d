use Rattle.std.proofs.Common.{refl, ◌∷◌, []}
use Rattle.call_graph_tests.proofs.test_classes.pool.Goals as goal

pub returns : goal.returns
returns c =
    rw (c.from_vec.ensures, c.in_ok-constants.ensures.items, c.in_ok-text.ensures, c.in_ok-text-2.ensures, c.in_ok-text-3.ensures, c.in_ok-text-4.ensures, c.in_ok-text-5.ensures, c.in_ok-text-6.ensures, c.in_ok-text-7.ensures, c.in_ok-text-8.ensures)
    (record {
      class = (c.args.shape.this.now, refl);
      field_name = (102 ∷ [], refl);
      field_type = (73 ∷ [], refl);
      method_name = (c.args.shape.name.now, refl);
      method_type = (c.args.shape.descriptor.now, refl);
    })
