-- The text that a painted text shows.
use Rattle.std.specs.Prelude.{◌≡◌, ℕ, ◌/◌, ◌%◌, ◌==◌, cond, nat_lt, List, [], ◌∷◌, ◌++◌, codes}
use Rattle.resp_print.specs.Shown.{hex_digit}

-- an ASCII byte, or the escape of another byte: `\x` and two digits
abbrev pub shown_byte : ℕ → List ℕ
shown_byte byte = cond (nat_lt byte 128) (byte ∷ []) (codes "\\x" ++ hex_digit (byte / 16) ∷ hex_digit (byte % 16) ∷ [])

-- The text without its sequences, which begin with the byte 27 and end with `m`, and with an escape in place of each byte
-- that is not ASCII.
abbrev mutual
  pub plain_text : List ℕ → List ℕ
  plain_text [] = []
  plain_text (byte ∷ rest) = cond (byte == 27) (beyond_sequence rest) (shown_byte byte ++ plain_text rest)

  -- the same of a text that begins inside a sequence
  pub beyond_sequence : List ℕ → List ℕ
  beyond_sequence [] = []
  beyond_sequence (byte ∷ rest) = cond (byte == 109) (plain_text rest) (beyond_sequence rest)

-- a painted text shows this text, whatever follows
abbrev pub Shows : List ℕ → List ℕ → Type 0
Shows painted plain = (rest : List ℕ) → plain_text (painted ++ rest) ≡ plain ++ plain_text rest
