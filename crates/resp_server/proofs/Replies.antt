-- The texts of replies, as they are appended.
use Rattle.std.proofs.Common.{◌≡◌, ℕ, ◌++◌, List, ◌∷◌, sym, ap, ◌∙◌, append_assoc, append-nil, codes, decimal}
use Rattle.resp_value.specs.Canonical.{canonical_text}
use Rattle.resp_value.specs.Numbers as number
use Rattle.resp_value.specs.declared.version.Version.{Version}
use Rattle.resp_value.specs.declared.version.Version.TheVariants.{Two, Three}
use Rattle.resp_session.specs.Replies.{error, hello_reply, natural}
use Rattle.resp_server.specs.ReplyTexts.{fault_text, greeting_begin, greeting_end}

-- a number
pub number_text : (old : List ℕ) (version : Version) (n : ℕ) → decimal n ≡ number.decimal n →
    ((old ++ codes ":") ++ decimal n) ++ codes "\r\n" ≡ old ++ canonical_text version (natural n)
number_text old version n same = append_assoc (old ++ codes ":") (decimal n) (codes "\r\n") ∙
    append_assoc old (codes ":") (decimal n ++ codes "\r\n") ∙ ap (λ digits. old ++ (58 ∷ (digits ++ codes "\r\n"))) same

-- HELLO's reply is what stands before the number, what is replied by the number, and what stands after it
pub greeting_text : (version : Version) (n : ℕ) →
    (greeting_begin version ++ canonical_text version (natural n)) ++ greeting_end ≡ canonical_text version (hello_reply version n)
greeting_text Two n = append_assoc (greeting_begin Two) (canonical_text Two (natural n)) greeting_end ∙
    ap (λ l. greeting_begin Two ++ l) (sym (append-nil (canonical_text Two (natural n) ++ greeting_end)))
greeting_text Three n = append_assoc (greeting_begin Three) (canonical_text Three (natural n)) greeting_end ∙
    ap (λ l. greeting_begin Three ++ l) (sym (append-nil (canonical_text Three (natural n) ++ greeting_end)))

-- the error reply to a protocol error
pub fault_line : (old name : List ℕ) (version : Version) (at : ℕ) → decimal at ≡ number.decimal at →
    ((((old ++ codes "-ERR Protocol error: ") ++ name) ++ codes " at byte ") ++ decimal at) ++ codes "\r\n" ≡ old ++ canonical_text version
    (error (fault_text name at))
fault_line old name version at same =
    let A = codes "-ERR Protocol error: " in
    let B = codes " at byte " in
    let end = codes "\r\n" in
    let digits = number.decimal at in
    append_assoc (((old ++ A) ++ name) ++ B) (decimal at) end ∙ append_assoc ((old ++ A) ++ name) B (decimal at ++ end) ∙
    append_assoc (old ++ A) name (B ++ (decimal at ++ end)) ∙ append_assoc old A (name ++ (B ++ (decimal at ++ end))) ∙
    ap (λ n. old ++ (A ++ (name ++ (B ++ (n ++ end))))) same ∙
    ap (λ l. old ++ (A ++ l)) (sym (append_assoc (name ++ B) digits end ∙ append_assoc name B (digits ++ end)))
