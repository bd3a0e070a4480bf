-- Limits, as C passes them.
use Rattle.resp_value.specs.Bounds.{Bounds}
use Rattle.resp_c.specs.declared.limits.RespLimits.{RespLimits}

-- the limits that they represent
abbrev pub bounds_of : RespLimits → Bounds
bounds_of l = record {
  depth = l.depth;
  length = l.length;
  total = l.total;
  items = l.items;
  streamed = l.streamed;
  doubles = l.doubles;
}
