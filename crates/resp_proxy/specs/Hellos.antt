-- Replies to HELLO.
use Rattle.std.specs.Prelude.{◌≡◌, ◌≢◌, ◌⊎◌, ◌<◌, ℕ, pos, List, [], ◌∷◌, ◌++◌, IfSome, codes, length, slice_get, slice_index}
use Rattle.resp_value.specs.Data.{Datum, scalar, aggregate, data_of_list}
use Rattle.resp_value.specs.Data as d
use Rattle.resp_value.specs.Numbers.{decimal}
use Rattle.resp_value.specs.Words.{word_datum}

-- the proxy's own reply in version 2 to the client of this number: names of fields and their values
abbrev pub own_reply : ℕ → Datum
own_reply number = aggregate d.Array (data_of_list (
    word_datum (codes "server") ∷ word_datum (codes "redis") ∷
    word_datum (codes "version") ∷ word_datum (codes "7.0.15") ∷
    word_datum (codes "proto") ∷ scalar (d.Int (pos 2)) ∷
    word_datum (codes "id") ∷ scalar (d.Int (pos number)) ∷
    word_datum (codes "mode") ∷ word_datum (codes "standalone") ∷
    word_datum (codes "role") ∷ word_datum (codes "master") ∷
    word_datum (codes "modules") ∷ aggregate d.Array (data_of_list []) ∷ []))

-- the bytes between the field before the id of the connection and its digits
abbrev pub id_key : List ℕ
id_key = codes "$2\r\nid\r\n:"

-- the reply has the field
pub record HasId (reply : List ℕ) : Type 0 where
  pub front : List ℕ
  pub rest : List ℕ
  pub whole : reply ≡ front ++ id_key ++ rest

-- the bytes end before the first CR, or there is none and nothing follows them
pub record EndsAtLine (bytes after : List ℕ) : Type 0 where
  pub inside : (place : ℕ) → place < length bytes → slice_index bytes place ≢ 13
  pub end : IfSome (slice_get after 0) (λ byte. byte ≡ 13)

-- these bytes are before the digits and after them, and the digits end at the end of their line
pub record IsIdAround (reply before after : List ℕ) : Type 0 where
  pub front : List ℕ
  pub digits : List ℕ
  pub key : before ≡ front ++ id_key
  pub whole : reply ≡ before ++ digits ++ after
  pub line : EndsAtLine digits after

-- the text is the reply, with this number in place of the digits
pub record HasNumber (number : ℕ) (reply text : List ℕ) : Type 0 where
  pub before : List ℕ
  pub after : List ℕ
  pub around : IsIdAround reply before after
  pub written : text ≡ before ++ decimal number ++ after

-- the text is the reply to HELLO for the client of this number; a reply without the field stays as it is
abbrev pub IsReplyWithNumber : ℕ → List ℕ → List ℕ → Type 0
IsReplyWithNumber number reply text = HasNumber number reply text ⊎ ((HasId reply → ⊥) × (text ≡ reply))
