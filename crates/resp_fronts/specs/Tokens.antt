-- The bytes of a value so far, for each token, on a level and within the rules.
use Rattle.std.specs.Prelude.{◌≡◌, ℕ, zero, suc, ◌+◌, ◌≤◌, false, Some, List, [], ◌∷◌, ◌++◌, length, codes}
use Rattle.std.specs.Str.{byte}
use Rattle.resp_value.specs.Bytes.{IsLine, IsText, crlf}
use Rattle.resp_value.specs.Data.{Kind, members_of}
use Rattle.resp_value.specs.DoubleStages.{stage_after_all, stage_needs}
use Rattle.resp_value.specs.LocalRules.{LeafKeeps, NodeKeeps}
use Rattle.resp_value.specs.Numbers.{IsDigits, Sign, Minus, kept_digits, number, sign_text}
use Rattle.resp_value.specs.Rules.{Rules, WithinItems}
use Rattle.resp_value.specs.Trees.{Big, Bulk, Counted, Double, HasFormat, Int, IsLeaf, Leaf, LineKind, NumberKind, StringKind, kind_byte, leaf_line, leaf_rest, line_byte, number_byte, payload, string_byte}
use Rattle.resp_value.specs.declared.double_stage.DoubleStage.{DoubleStage}
use Rattle.resp_value.specs.declared.double_stage.DoubleStage.TheVariants.{Begun}
use Rattle.resp_value.specs.declared.version.Version.TheVariants.{Two}

-- no rule rejects lines of this kind: only version 3 has doubles, and only if they are allowed
abbrev pub HasLine : Rules → LineKind → Type 0
HasLine r Double = (r.version ≡ Two → ⊥) × (r.limits.doubles ≡ false → ⊥)
HasLine r _ = Unit {0}

-- the bytes are the line of a leaf that has nothing after its line
pub record IsLineOf (r : Rules) (l : Leaf) (level : ℕ) (bytes : List ℕ) : Type 0 where
  pub is_leaf : IsLeaf l
  pub keeps : LeafKeeps r WithinItems level l
  pub is_line : bytes ≡ leaf_line l
  pub no_rest : leaf_rest l ≡ []

-- the bytes are the line of such a leaf and its CR
pub record IsReturned (r : Rules) (l : Leaf) (level : ℕ) (bytes : List ℕ) : Type 0 where
  pub begun : List ℕ
  pub line_of : IsLineOf r l level begun
  pub returned : bytes ≡ begun ++ codes "\r"

-- lines of this kind have any text
abbrev pub HasAnyText : LineKind → Type 0
HasAnyText Double = ⊥
HasAnyText _ = Unit {0}

-- the line of a simple string or an error, with this many bytes of text
pub record IsTextToken (r : Rules) (k : LineKind) (n : ℕ) (level : ℕ) (bytes : List ℕ) : Type 0 where
  pub content : List ℕ
  pub has_line : HasLine r k
  pub any_text : HasAnyText k
  pub is_line : IsLine content
  pub is_text : IsText content
  pub size : length content ≡ n
  pub fits : n ≤ r.limits.length
  pub are : bytes ≡ line_byte k ∷ content

-- the bytes of a double so far, which lead to this stage, with this many bytes of text; the limit of length leaves room
-- for the least bytes that complete it
pub record IsDoubleToken (r : Rules) (stage : DoubleStage) (n : ℕ) (level : ℕ) (bytes : List ℕ) : Type 0 where
  pub content : List ℕ
  pub has_line : HasLine r Double
  pub at_stage : stage_after_all Begun content ≡ Some stage
  pub size : length content ≡ n
  pub fits : n + stage_needs stage ≤ r.limits.length
  pub are : bytes ≡ byte "," ∷ content

-- the greatest digits of a sign
abbrev pub greatest : Sign → ℕ
greatest Minus = 9223372036854775808
greatest _ = 9223372036854775807

-- the numbers of this kind: integers of 64 bits, and in version 3 big numbers up to the limit of length
abbrev pub MayBe : Rules → NumberKind → Sign → List ℕ → Type 0
MayBe r Int sign digits = number digits ≤ greatest sign
MayBe r Big sign digits = (r.version ≡ Two → ⊥) × (length (kept_digits digits) ≤ r.limits.length)

-- the type byte of a number, with or without a sign
abbrev pub IsNumberBegun : Rules → NumberKind → Sign → ℕ → List ℕ → Type 0
IsNumberBegun r k sign level bytes = MayBe r k sign (codes "0") × (bytes ≡ number_byte k ∷ (sign_text sign ++ []))

-- with digits
pub record IsNumberToken (r : Rules) (k : NumberKind) (sign : Sign) (digits : List ℕ) (level : ℕ)
    (bytes : List ℕ) : Type 0 where
  pub are_digits : IsDigits digits
  pub may_be : MayBe r k sign digits
  pub are : bytes ≡ number_byte k ∷ (sign_text sign ++ digits)

-- an aggregate's type byte and the digits of its count
pub record IsCountToken (r : Rules) (k : Kind) (first : ℕ) (digits : List ℕ) (level : ℕ) (bytes : List ℕ) : Type 0 where
  pub are_digits : IsDigits (first ∷ digits)
  pub keeps : NodeKeeps r WithinItems level k (Counted (first ∷ digits)) (members_of k (number (first ∷ digits)))
  pub are : bytes ≡ kind_byte k ∷ first ∷ digits

-- a count and its CR
pub record IsCountReturned (r : Rules) (k : Kind) (first : ℕ) (digits : List ℕ) (level : ℕ) (bytes : List ℕ) : Type 0
  where
    pub begun : List ℕ
    pub count : IsCountToken r k first digits level begun
    pub returned : bytes ≡ begun ++ codes "\r"

-- whether a version has strings of this kind
abbrev pub HasString : Rules → StringKind → Type 0
HasString r Bulk = Unit {0}
HasString r _ = r.version ≡ Two → ⊥

-- a string's type byte and the digits of its length
pub record IsLengthToken (r : Rules) (k : StringKind) (first : ℕ) (digits : List ℕ) (level : ℕ) (bytes : List ℕ) : Type
    0 where
  pub are_digits : IsDigits (first ∷ digits)
  pub has_string : HasString r k
  pub fits : number (first ∷ digits) ≤ r.limits.length
  pub are : bytes ≡ string_byte k ∷ first ∷ digits

-- the line of a length, and then the first bytes of a payload of which this many are left
pub record IsContentToken (r : Rules) (k : StringKind) (first : ℕ) (digits begun : List ℕ) (left : ℕ) (level : ℕ)
    (bytes : List ℕ) : Type 0 where
  pub are_digits : IsDigits (first ∷ digits)
  pub has_string : HasString r k
  pub has_format : HasFormat k
  pub fits : number (first ∷ digits) ≤ r.limits.length
  -- some content that begins with these bytes
  pub content : List ℕ
  pub is_text : IsText content
  pub size : number (first ∷ digits) ≡ length (payload k content)
  pub rest : List ℕ
  pub split : payload k content ≡ begun ++ rest
  pub rest_size : length rest ≡ left
  pub are : bytes ≡ (string_byte k ∷ first ∷ digits) ++ crlf begun

-- no rule rejects a streamed string: the version is 3, and streamed forms are allowed
abbrev pub HasStreamed : Rules → Type 0
HasStreamed r = (r.version ≡ Two → ⊥) × (r.limits.streamed ≡ false → ⊥)

-- this many zeros
abbrev pub zeros : ℕ → List ℕ
zeros zero = []
zeros (suc n) = byte "0" ∷ zeros n
