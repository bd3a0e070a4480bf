-- The number of a database.
use Rattle.std.specs.Prelude.{◌≡◌, ℕ, ◌^◌, ℤ, pos, negsuc, List, Result, Ok, Err, FitsSigned, if◌then◌else◌, nat_lt}
use Rattle.std.specs.Fmt.{signed_decimal}
use Rattle.std.specs.Int.{w64}
use Rattle.resp_server.specs.declared.refusal.Refusal.{Refusal}
use Rattle.resp_server.specs.declared.refusal.Refusal.TheVariants.{NoInteger, FarIndex, NoDatabase}

-- the database of this number, or the reason why there is none
abbrev pub index_of : ℤ → Result ℕ Refusal
index_of (pos n) = if nat_lt n 16 then Ok n else if nat_lt n (2 ^ 31) then Err NoDatabase else Err FarIndex
index_of (negsuc n) = if nat_lt n (2 ^ 31) then Err NoDatabase else Err FarIndex

-- the word is the decimal text of an integer of 64 bits, or not
pub record IsIndexed (word : List ℕ) (result : Result ℕ Refusal) : Type 0 where
  pub integer : (z : ℤ) → FitsSigned w64 z → word ≡ signed_decimal z → result ≡ index_of z
  pub other : ((z : ℤ) → FitsSigned w64 z → word ≡ signed_decimal z → ⊥) → result ≡ Err NoInteger
