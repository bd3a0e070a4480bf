-- The sign at the beginning of a text, and the text after it.
use Rattle.std.specs.Prelude.{ℕ, List, [], ◌∷◌, cond, eqb}
use Rattle.std.specs.Str.{byte}
use Rattle.resp_value.specs.Numbers.{Sign, Unsigned, Plus, Minus}

-- the sign at the beginning of a text
abbrev pub sign_at : List ℕ → Sign
sign_at [] = Unsigned
sign_at (b ∷ bs) = cond (eqb b (byte "-")) Minus (cond (eqb b (byte "+")) Plus Unsigned)

-- the text after the sign, if there is one
abbrev pub unsigned_part : List ℕ → List ℕ
unsigned_part [] = []
unsigned_part (b ∷ bs) = cond (eqb b (byte "-")) bs (cond (eqb b (byte "+")) bs (b ∷ bs))
