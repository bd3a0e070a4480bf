-- The commands that a connection to the server begins with.
use Rattle.std.proofs.Common.{◌≡◌, ℕ, List, ◌++◌, codes, length, ◌<◌, ◌^◌, ap, sym, refl, ◌∙◌, append_assoc, append-nil, [], false}
use Rattle.std.specs.Fmt as fmt
use Rattle.resp_value.proofs.StdDigits.{decimal-std}
use Rattle.std.specs.Str.{bytes_eq}
use Rattle.resp_proxy.specs.Openings.{auth_by, select_text}
use Rattle.std.specs.Prelude.{Option, None, Some}
use Rattle.resp_value.specs.Canonical.{canonical_text}
use Rattle.resp_value.specs.Numbers.{decimal}
use Rattle.resp_value.specs.Words.{word_datum}
use Rattle.resp_value.specs.declared.version.Version.TheVariants.{Two}

regroup : (a b c d e f : List ℕ) → ((a ++ (b ++ (c ++ d))) ++ e) ++ f ≡ a ++ (b ++ (c ++ (d ++ (e ++ f))))
regroup a b c d e f = simp append_assoc

-- the digits that std prints in the head of a bulk string are the decimal digits
pub head-shown : (n : ℕ) → n < 2 ^ 64 → codes "$" ++ fmt.decimal n ++ codes "\r\n" ≡ codes "$" ++ decimal n ++ codes "\r\n"
head-shown n fits = ap (λ digits. codes "$" ++ digits ++ codes "\r\n") (decimal-std n fits)

-- the head, the word and the end of a line, appended one after another, are a bulk string
pub bulk-appended : (old head shown word a b new : List ℕ) → head ≡ codes "$" ++ decimal (length word) ++ codes "\r\n" →
    shown ≡ head → a ≡ old ++ shown → b ≡ a ++ word → new ≡ b ++ codes "\r\n" → new ≡ old ++ canonical_text Two (word_datum word)
bulk-appended old head shown word a b new is same first second third =
    third ∙ ap (λ z. z ++ codes "\r\n") (second ∙ ap (λ z. z ++ word) (first ∙ ap (λ z. old ++ z) (same ∙ is))) ∙
    regroup old (codes "$") (decimal (length word)) (codes "\r\n") word (codes "\r\n")

ended : (front x : List ℕ) → front ++ ((x ++ []) ++ []) ≡ front ++ x
ended front x = ap (λ z. front ++ z) (append-nil (x ++ []) ∙ append-nil x)

-- SELECT of another database than the first is its head and the word
pub select-parts : (word old first new : List ℕ) → bytes_eq word (codes "0") ≡ false →
    first ≡ old ++ codes "*2\r\n$6\r\nSELECT\r\n" → new ≡ first ++ canonical_text Two (word_datum word) → new ≡ old ++ select_text word
select-parts word old first new other is then =
    let text = ended (codes "*2\r\n$6\r\nSELECT\r\n") (canonical_text Two (word_datum word)) in
    then ∙ ap (λ z. z ++ canonical_text Two (word_datum word)) is ∙
    append_assoc old (codes "*2\r\n$6\r\nSELECT\r\n") (canonical_text Two (word_datum word)) ∙
    ap (λ z. old ++ z) (sym text) ∙ rw other refl

-- AUTH with a password alone is its head and the password
pub password-parts : (login : Option (List ℕ)) (password shown old first new : List ℕ) → login ≡ None → shown ≡ password →
    first ≡ old ++ codes "*2\r\n$4\r\nAUTH\r\n" → new ≡ first ++ canonical_text Two (word_datum shown) → new ≡ old ++ auth_by login password
password-parts login password shown old first new unnamed same is then =
    let bulk = canonical_text Two (word_datum password) in
    then ∙ ap (λ z. first ++ canonical_text Two (word_datum z)) same ∙ ap (λ z. z ++ bulk) is ∙
    append_assoc old (codes "*2\r\n$4\r\nAUTH\r\n") bulk ∙
    ap (λ z. old ++ z) (sym (ended (codes "*2\r\n$4\r\nAUTH\r\n") bulk)) ∙ ap (λ l. old ++ auth_by l password) (sym unnamed)

-- AUTH with a user is its head, the user and the password
pub user-parts : (login : Option (List ℕ)) (user shown_user password shown old first second new : List ℕ) → login ≡ Some user →
    shown_user ≡ user → shown ≡ password → first ≡ old ++ codes "*3\r\n$4\r\nAUTH\r\n" →
    second ≡ first ++ canonical_text Two (word_datum shown_user) →
    new ≡ second ++ canonical_text Two (word_datum shown) → new ≡ old ++ auth_by login password
user-parts login user shown_user password shown old first second new named same_user same is next then =
    let a = canonical_text Two (word_datum user) in
    let b = canonical_text Two (word_datum password) in
    let head = codes "*3\r\n$4\r\nAUTH\r\n" in
    let front : second ≡ (old ++ head) ++ a =
    next ∙ ap (λ z. first ++ canonical_text Two (word_datum z)) same_user ∙ ap (λ z. z ++ a) is in
    let parts : ((old ++ head) ++ a) ++ b ≡ old ++ (head ++ (a ++ b)) =
    append_assoc (old ++ head) a b ∙ append_assoc old head (a ++ b) in
    let whole : head ++ ((a ++ (b ++ [])) ++ []) ≡ head ++ (a ++ b) =
    ap (λ z. head ++ z) (append-nil (a ++ (b ++ [])) ∙ ap (λ z. a ++ z) (append-nil b)) in
    then ∙ ap (λ z. second ++ canonical_text Two (word_datum z)) same ∙ ap (λ z. z ++ b) front ∙ parts ∙
    ap (λ z. old ++ z) (sym whole) ∙ ap (λ l. old ++ auth_by l password) (sym named)
