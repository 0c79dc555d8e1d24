-- What a tracer's places go to.
use Rattle.trace.specs.Inner.Emit.{Aim, aim, slots_resolve}
use Rattle.trace.specs.declared.tracer.Tracer.{Tracer}

abbrev pub aimed : Tracer → Aim
aimed x = aim x.goal (slots_resolve x.here)
