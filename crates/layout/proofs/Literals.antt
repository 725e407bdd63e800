-- Columns as they are written in examples.
-- Assumes nothing.
use Rattle.std.specs.Prelude.{Some, None}
use Prim.Native.Nat.{ℕ}
use mathlib.Core.Bool.{true, false}
use Rattle.std.specs.Float.{Float}
use Rattle.tform.specs.declared.TFormType.{TFormType}
use Rattle.layout.specs.declared.Null.{Null}
use Rattle.layout.specs.declared.Null.TheVariants.{NotGiven}
use Rattle.layout.specs.declared.Column.{Column}
use Rattle.layout.specs.Layout.{no_scaling}

-- n items from byte `at` of a row on, without a name, a scaling and a null
abbrev pub column : TFormType → ℕ → ℕ → Column
column f n at =
    record {
      form = f;
      count = n;
      start = at;
      name = None;
      scaling_given = false;
      scaling = no_scaling;
      null = NotGiven;
    }

-- the same with a name, which is the stretch of the header from byte `start` on
abbrev pub and_name : ℕ → ℕ → Column → Column
and_name start len c =
    record {
      form = c.form;
      count = c.count;
      start = c.start;
      name = Some (record { start = start; len = len });
      scaling_given = c.scaling_given;
      scaling = c.scaling;
      null = c.null;
    }

-- with a factor and a zero
abbrev pub and_scaling : Float → Float → Column → Column
and_scaling factor zero c =
    record {
      form = c.form;
      count = c.count;
      start = c.start;
      name = c.name;
      scaling_given = true;
      scaling = record { factor = factor; zero = zero };
      null = c.null;
    }

-- and with a null
abbrev pub and_null : Null → Column → Column
and_null n c =
    record {
      form = c.form;
      count = c.count;
      start = c.start;
      name = c.name;
      scaling_given = c.scaling_given;
      scaling = c.scaling;
      null = n;
    }
