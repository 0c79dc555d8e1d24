-- What is lent to a rehearsal, as it lies in the code.
use Rattle.rehearsal_runs.specs.declared.Rehearsal.{Rehearsal}
use Rattle.rehearse_door.specs.Rehearse.{Given}

-- the same as it lies in the code
abbrev pub given : Rehearsal → Given
given r =
    record {
      types = r.table.types.now;
      fields = r.table.fields.now;
      consts = r.table.consts.now;
      bytes = r.table.bytes.now;
      text = r.text.now;
      thresholds = r.thresholds.now;
    }
