-- A named table as its format has it.
use Rattle.std.specs.Prelude.{length}
use Rattle.tables.specs.Table.{Named}
use Rattle.tables.specs.Reading.{Counts, Body}

abbrev pub saved : Named → Counts × Body
saved d = (
  (length d.types, (length d.fields, length d.constants)),
  (d.types, (d.fields, (d.constants, d.bytes))),
)
