-- The pushes that a list has stored.
use Rattle.std.specs.Prelude.{List}
use Rattle.resp_value.specs.declared.value.Members.{Members}
use Rattle.resp_client.specs.declared.sink.PushList.{PushList}

-- the pushes that a list has stored, in order
abbrev pub list_shown : PushList → List Members
list_shown list = list.list.items
