-- Names of clients, and words as an error shows them.
use Rattle.std.specs.Prelude.{ℕ, zero, suc, ◌==◌, Bool, true, false, List, [], ◌∷◌, if◌then◌else◌, nat_lt}
use Rattle.std.specs.Str.{byte}

-- whether the byte is printable and no space
abbrev pub is_printable : ℕ → Bool
is_printable b = if nat_lt b (byte "!") then false else if nat_lt (byte "~") b then false else true

-- whether the bytes may be the name of a client; without a byte the client has no name
abbrev pub is_client_name : List ℕ → Bool
is_client_name [] = true
is_client_name (b ∷ bs) = if is_printable b then is_client_name bs else false

-- a byte as an error shows it
abbrev pub shown_byte : ℕ → ℕ
shown_byte b = if b == byte "\r" then byte " " else if b == byte "\n" then byte " " else b

-- at most this many bytes of a word, up to a NUL, as an error shows them
abbrev pub shown_word : ℕ → List ℕ → List ℕ
shown_word zero word = []
shown_word (suc most) [] = []
shown_word (suc most) (b ∷ bs) = if b == 0 then [] else shown_byte b ∷ shown_word most bs
