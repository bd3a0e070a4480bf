-- The data of a push.
use Rattle.std.specs.Prelude.{List, map}
use Rattle.resp_value.specs.Data.{Datum, aggregate, data_of_list}
use Rattle.resp_value.specs.Data as d
use Rattle.resp_value.specs.Values.{datum_of}
use Rattle.resp_value.specs.declared.value.Value.{Value}

-- a push of these values
abbrev pub push_of : List Value → Datum
push_of items = aggregate d.Push (data_of_list (map datum_of items))
