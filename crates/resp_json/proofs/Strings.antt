-- JSON strings can be read back, whatever follows them.
use Rattle.std.proofs.Common.{◌≡◌, ◌≢◌, ◌⊎◌, inl, inr, ℕ, ◌+◌, ◌-◌, ◌*◌, ◌/◌, ◌%◌, ◌<◌, ◌==◌, eqb, nat_lt, nat_le, Bool, true, false, cond, List, [], ◌∷◌, ◌++◌, codes, drop, get_or, refl, sym, ap, subst, ◌∙◌, append_assoc, arith}
use Rattle.std.proofs.lemmas.Bool.{and_cases, and_parts, leb-false, ne_eqb}
use Rattle.std.proofs.lemmas.Bool.Decides.{eqb_tells}
use Rattle.resp_print.specs.Shown.{hex_digit}
use Rattle.resp_json.specs.Json.{is_plain, escape_of, string_byte, escaped, json_string}

-- the number of a hexadecimal digit
abbrev digit_number : ℕ → ℕ
digit_number c = cond (nat_lt c 58) (c - 48) (c - 87)

-- the first byte of a text that is written in a JSON string
abbrev first_byte : List ℕ → ℕ
first_byte text =
    cond (get_or text 0 0 == 92)
    (cond (get_or text 1 0 == 117) (digit_number (get_or text 4 0) * 16 + digit_number (get_or text 5 0))
    (cond (get_or text 1 0 == 110) 10
    (cond (get_or text 1 0 == 114) 13
    (cond (get_or text 1 0 == 116) 9 (get_or text 1 0)))))
    (get_or text 0 0)

-- what is written after it
abbrev after_first : List ℕ → List ℕ
after_first text = cond (get_or text 0 0 == 92) (cond (get_or text 1 0 == 117) (drop 6 text) (drop 2 text)) (drop 1 text)

-- the text is one that begins with this byte, followed by this rest, and not with a quote
record Reads (byte : ℕ) (text rest : List ℕ) : Type 0 where
  pub byte_is : first_byte text ≡ byte
  pub rest_is : after_first text ≡ rest
  pub no_quote : get_or text 0 0 ≢ 34

reads_plain : (byte : ℕ) (rest : List ℕ) → byte ≢ 34 → byte ≢ 92 → Reads byte (byte ∷ rest) rest
reads_plain byte rest no_quote no_backslash =
    let h : (byte == 92) ≡ false = ne_eqb byte 92 no_backslash in
    record {
      byte_is = ap (λ b. cond b (first_byte (92 ∷ rest)) byte) h;
      rest_is = ap (λ b. cond b (after_first (92 ∷ rest)) rest) h;
      no_quote = no_quote;
    }

digit_number-hex_digit : (n : ℕ) → n < 16 → digit_number (hex_digit n) ≡ n
digit_number-hex_digit n h = grind arith

reads_number : (byte : ℕ) (rest : List ℕ) → byte < 256 →
    Reads byte ((codes "\\u00" ++ hex_digit (byte / 16) ∷ hex_digit (byte % 16) ∷ []) ++ rest) rest
reads_number byte rest small =
    let high = digit_number-hex_digit (byte / 16) (omega arith) in
    let low = digit_number-hex_digit (byte % 16) (omega arith) in
    record {
      byte_is = ap (λ n. n * 16 + digit_number (hex_digit (byte % 16))) high ∙ ap (λ n. byte / 16 * 16 + n) low ∙ omega arith;
      rest_is = refl;
      no_quote = λ e. omega arith;
    }

-- a byte that does not stand for itself
not_plain : (byte : ℕ) → is_plain byte ≡ false → byte ≢ 34 → byte ≢ 92 → byte < 256
not_plain byte h no_quote no_backslash =
    ⊎_cases (and_cases (nat_le 32 byte) _ h)
  where
    ⊎_cases : (nat_le 32 byte ≡ false) ⊎ (cond (byte == 34) false (cond (byte == 92) false true) ≡ false) → byte < 256
    ⊎_cases (inl low) = omega (arith, leb-false 32 byte low)
    ⊎_cases (inr special) = absurd (cc (ne_eqb byte 34 no_quote, ne_eqb byte 92 no_backslash))

reads_escape : (byte : ℕ) (rest : List ℕ) → is_plain byte ≡ false → Reads byte (escape_of byte ++ rest) rest
reads_escape byte rest h = quote (eqb_tells byte 34)
  where
    tab : ((eqb byte 9 ≡ true) × (byte ≡ 9)) ⊎ ((eqb byte 9 ≡ false) × (byte ≢ 9)) → byte ≢ 34 → byte ≢ 92 → (byte == 34) ≡ false → (byte == 92) ≡ false →
        (byte == 10) ≡ false → (byte == 13) ≡ false → Reads byte (escape_of byte ++ rest) rest
    tab (inl is) no_quote no_backslash a b c d = subst (λ n. Reads n (escape_of n ++ rest) rest) (sym is.1) (record { byte_is = refl; rest_is = refl; no_quote = λ e. omega arith })
    tab (inr other) no_quote no_backslash a b c d =
        rw (a, b, c, d, other.0) (reads_number byte rest (not_plain byte h no_quote no_backslash))

    return : ((eqb byte 13 ≡ true) × (byte ≡ 13)) ⊎ ((eqb byte 13 ≡ false) × (byte ≢ 13)) → byte ≢ 34 → byte ≢ 92 → (byte == 34) ≡ false →
        (byte == 92) ≡ false → (byte == 10) ≡ false → Reads byte (escape_of byte ++ rest) rest
    return (inl is) no_quote no_backslash a b c = subst (λ n. Reads n (escape_of n ++ rest) rest) (sym is.1) (record { byte_is = refl; rest_is = refl; no_quote = λ e. omega arith })
    return (inr other) no_quote no_backslash a b c = tab (eqb_tells byte 9) no_quote no_backslash a b c other.0

    newline : ((eqb byte 10 ≡ true) × (byte ≡ 10)) ⊎ ((eqb byte 10 ≡ false) × (byte ≢ 10)) → byte ≢ 34 → byte ≢ 92 → (byte == 34) ≡ false →
        (byte == 92) ≡ false → Reads byte (escape_of byte ++ rest) rest
    newline (inl is) no_quote no_backslash a b = subst (λ n. Reads n (escape_of n ++ rest) rest) (sym is.1) (record { byte_is = refl; rest_is = refl; no_quote = λ e. omega arith })
    newline (inr other) no_quote no_backslash a b = return (eqb_tells byte 13) no_quote no_backslash a b other.0

    backslash : ((eqb byte 92 ≡ true) × (byte ≡ 92)) ⊎ ((eqb byte 92 ≡ false) × (byte ≢ 92)) → byte ≢ 34 → (byte == 34) ≡ false → Reads byte (escape_of byte ++ rest) rest
    backslash (inl is) no_quote a = subst (λ n. Reads n (escape_of n ++ rest) rest) (sym is.1) (record { byte_is = refl; rest_is = refl; no_quote = λ e. omega arith })
    backslash (inr other) no_quote a = newline (eqb_tells byte 10) no_quote other.1 a other.0

    quote : ((eqb byte 34 ≡ true) × (byte ≡ 34)) ⊎ ((eqb byte 34 ≡ false) × (byte ≢ 34)) → Reads byte (escape_of byte ++ rest) rest
    quote (inl is) = subst (λ n. Reads n (escape_of n ++ rest) rest) (sym is.1) (record { byte_is = refl; rest_is = refl; no_quote = λ e. omega arith })
    quote (inr other) = backslash (eqb_tells byte 92) other.1 other.0

plain_is_no_quote : (byte : ℕ) → is_plain byte ≡ true → (byte ≢ 34) × (byte ≢ 92)
plain_is_no_quote byte h =
    let special : cond (byte == 34) false (cond (byte == 92) false true) ≡ true = (and_parts (nat_le 32 byte) _ h).1 in (
      λ e. absurd (not_34 (subst (λ n. cond (n == 34) false (cond (n == 92) false true) ≡ true) e special)),
      λ e. absurd (not_34 (subst (λ n. cond (n == 34) false (cond (n == 92) false true) ≡ true) e special)),
    )
  where
    not_34 : false ≡ true → ⊥
    not_34 e = cc

-- a byte as it is written in a JSON string, and what follows it
reads_byte : (byte : ℕ) (rest : List ℕ) (test : Bool) → is_plain byte ≡ test → Reads byte (string_byte byte ++ rest) rest
reads_byte byte rest true h =
    let special = plain_is_no_quote byte h in
    subst (λ b. Reads byte (cond b (byte ∷ []) (escape_of byte) ++ rest) rest) (sym h) (reads_plain byte rest special.0 special.1)
reads_byte byte rest false h = subst (λ b. Reads byte (cond b (byte ∷ []) (escape_of byte) ++ rest) rest) (sym h) (reads_escape byte rest h)

reads : (byte : ℕ) (rest : List ℕ) → Reads byte (string_byte byte ++ rest) rest
reads byte rest = reads_byte byte rest (is_plain byte) (λ i. is_plain byte)

-- two texts that are written in JSON strings
escaped_apart : (text text' rest rest' : List ℕ) → escaped text ++ 34 ∷ rest ≡ escaped text' ++ 34 ∷ rest' → (text ≡ text') × (rest ≡ rest')
escaped_apart [] [] rest rest' e = (refl, ap (drop 1) e)
escaped_apart [] (b ∷ text') rest rest' e =
    let whole : 34 ∷ rest ≡ string_byte b ++ (escaped text' ++ 34 ∷ rest') = e ∙ append_assoc (string_byte b) (escaped text') (34 ∷ rest') in
    absurd ((reads b (escaped text' ++ 34 ∷ rest')).no_quote (ap (λ z. get_or z 0 0) (sym whole)))
escaped_apart (a ∷ text) [] rest rest' e =
    let whole : string_byte a ++ (escaped text ++ 34 ∷ rest) ≡ 34 ∷ rest' = sym (append_assoc (string_byte a) (escaped text) (34 ∷ rest)) ∙ e in
    absurd ((reads a (escaped text ++ 34 ∷ rest)).no_quote (ap (λ z. get_or z 0 0) whole))
escaped_apart (a ∷ text) (b ∷ text') rest rest' e =
    let whole : string_byte a ++ (escaped text ++ 34 ∷ rest) ≡ string_byte b ++ (escaped text' ++ 34 ∷ rest') =
    sym (append_assoc (string_byte a) (escaped text) (34 ∷ rest)) ∙ e ∙ append_assoc (string_byte b) (escaped text') (34 ∷ rest') in
    let one = reads a (escaped text ++ 34 ∷ rest) in
    let other = reads b (escaped text' ++ 34 ∷ rest') in
    let same : a ≡ b = sym one.byte_is ∙ ap first_byte whole ∙ other.byte_is in
    let next : escaped text ++ 34 ∷ rest ≡ escaped text' ++ 34 ∷ rest' = sym one.rest_is ∙ ap after_first whole ∙ other.rest_is in
    let others = escaped_apart text text' rest rest' next in
    ((λ i. same i ∷ others.0 i), others.1)

-- two JSON strings
pub strings_apart : (text text' rest rest' : List ℕ) → json_string text ++ rest ≡ json_string text' ++ rest' → (text ≡ text') × (rest ≡ rest')
strings_apart text text' rest rest' e =
    escaped_apart text text' rest rest'
    (sym (append_assoc (escaped text) (34 ∷ []) rest) ∙ ap (drop 1) e ∙ append_assoc (escaped text') (34 ∷ []) rest')
