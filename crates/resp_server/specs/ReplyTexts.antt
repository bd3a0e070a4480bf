-- The texts of a protocol error, and of HELLO's reply before and after the session's number.
use Rattle.std.specs.Prelude.{ℕ, List, ◌++◌, codes}
use Rattle.resp_value.specs.Numbers.{decimal}
use Rattle.resp_value.specs.declared.version.Version.{Version}
use Rattle.resp_value.specs.declared.version.Version.TheVariants.{Two, Three}

-- the server's name and version
abbrev pub server_fields : List ℕ
server_fields = codes "$6\r\nserver\r\n$9\r\nresp_loop\r\n$7\r\nversion\r\n$5\r\n1.0.0\r\n"

-- the text before the number
abbrev pub greeting_begin : Version → List ℕ
greeting_begin Two = codes "*14\r\n" ++ server_fields ++ codes "$5\r\nproto\r\n:2\r\n$2\r\nid\r\n"
greeting_begin Three = codes "%7\r\n" ++ server_fields ++ codes "$5\r\nproto\r\n:3\r\n$2\r\nid\r\n"

-- the text after the number
abbrev pub greeting_end : List ℕ
greeting_end = codes "$4\r\nmode\r\n$10\r\nstandalone\r\n$4\r\nrole\r\n$6\r\nmaster\r\n$7\r\nmodules\r\n*0\r\n"

-- the text of the error reply to a protocol error of this name at this byte of a value
abbrev pub fault_text : List ℕ → ℕ → List ℕ
fault_text name at = codes "ERR Protocol error: " ++ name ++ codes " at byte " ++ decimal at
