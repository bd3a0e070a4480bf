-- Texts inside the quotes of JSON strings.
use Rattle.std.proofs.Common.{◌≡◌, ℕ, ◌+◌, ◌<◌, false, true, cond, List, [], ◌∷◌, ◌++◌, length, take, get_or, refl, sym, ap, ◌∙◌, add-one, arith}
use Rattle.std.proofs.lemmas.Grind.{flat_map-append}
use Rattle.std.proofs.Math.Seq.{take-suc}
use Rattle.resp_json.specs.Json.{is_plain, escape_of, string_byte, escaped}

-- a text is escaped part by part
pub escaped-append : (text next : List ℕ) → escaped (text ++ next) ≡ escaped text ++ escaped next
escaped-append text next = flat_map-append string_byte text next

-- the first byte is escaped if no byte before it stands for itself
pub escaped_first : (rest beyond : List ℕ) (byte n : ℕ) → rest ≡ byte ∷ beyond → n ≡ 0 → (n < length rest → is_plain (get_or rest n 0) ≡ false) →
    is_plain byte ≡ false
escaped_first rest beyond byte n first none h =
    let some : n < length rest = omega (arith, ap length first) in
    ap is_plain (ap (λ xs. get_or xs 0 0) (sym first) ∙ ap (λ k. get_or rest k 0) (sym none)) ∙ h some

-- a byte that is escaped, and the others
pub escaped_byte : (rest beyond : List ℕ) (byte : ℕ) → rest ≡ byte ∷ beyond → is_plain byte ≡ false → escaped rest ≡ escape_of byte ++ escaped beyond
escaped_byte rest beyond byte first not_plain =
    ap escaped first ∙ ap (λ b. cond b (byte ∷ []) (escape_of byte) ++ escaped beyond) not_plain

-- plain bytes, and the others
pub escaped_plain : (rest plain beyond : List ℕ) → rest ≡ plain ++ beyond → escaped plain ≡ plain → escaped rest ≡ plain ++ escaped beyond
escaped_plain rest plain beyond parts is_plain =
    ap escaped parts ∙ escaped-append plain beyond ∙ ap (λ front. front ++ escaped beyond) is_plain
