-- The answers of include/resp.h: those that are numbers of a cause have their names in resp_value, and these do not.
use Rattle.std.specs.Prelude.{ℕ}

-- no version has this number
abbrev pub bad_version : ℕ
bad_version = 64

-- the buffer is shorter than the text
abbrev pub no_room : ℕ
no_room = 65

-- no aggregate has this kind
abbrev pub bad_kind : ℕ
bad_kind = 66

-- a HELLO with a version waits
abbrev pub hello_waits : ℕ
hello_waits = 67

-- the command does not have exactly one reply, or changes the version in another way than HELLO
abbrev pub unpaired : ℕ
unpaired = 68

-- a command that pushes answer waits
abbrev pub pushes_wait : ℕ
pushes_wait = 69

-- the reply is not plain
abbrev pub not_plain : ℕ
not_plain = 70
