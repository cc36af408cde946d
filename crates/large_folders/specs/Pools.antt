-- The constants of a class file that is made here.
use Rattle.std.specs.Prelude.{List}
use Rattle.class_form.specs.declared.pool.Constant.{Constant}
use Rattle.class_form.specs.declared.pool.Pool.{Pool}

abbrev pub pool_of : List Constant → Pool
pool_of constants = record { constants = constants; major = 50 }
