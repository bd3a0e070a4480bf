-- The bytes that wait for the text after them, before they are painted.
use Rattle.std.specs.Prelude.{◌≡◌, ◌⊎◌, ⊤, ℕ, ◌<◌, true, List, [], ◌++◌, length, codes}
use Rattle.resp_paint.specs.declared.painter.Paint.{Paint}
use Rattle.resp_paint.specs.declared.painter.Paint.TheVariants as paint
use Rattle.resp_paint.specs.declared.style.Style.{Style}

-- the bytes begin with an escape, and may be a part of the escapes of a character, which has four of four bytes at most
pub record MayBeCharacter (held : List ℕ) : Type 0 where
  pub few : length held < 16
  pub rest : List ℕ
  pub begins : held ≡ codes "\\" ++ rest

-- These bytes may wait in this style: those that may be a part of a character, if characters are printed, and with colors fewer
-- bytes than the longest heading of a line has.
abbrev pub MayWait : Style → List ℕ → Type 0
MayWait style held = ((style.utf8 ≡ true) × MayBeCharacter held) ⊎ ((style.colors ≡ true) × (length held < 8))

-- no bytes wait, or bytes that may
abbrev pub Waits : Style → List ℕ → Type 0
Waits style held = (held ≡ []) ⊎ MayWait style held

-- this is true if nothing is printed now
abbrev pub OnLater : Paint → Type 0 → Type 0
OnLater paint.Later fact = fact
OnLater (paint.Now text) fact = ⊤
