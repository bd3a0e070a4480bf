-- The lines of a script.
use Rattle.std.proofs.Common.{◌≡◌, ℕ, zero, suc, ◌+◌, ◌<◌, List, [], ◌∷◌, ◌++◌, length, take, drop, get_or, cond, not, Bool, true, false, eqb, codes, refl, sym, ap, subst, ◌∙◌, arith}
use Rattle.std.specs.Prelude.{filter}
use Rattle.std.specs.List.{enumerate_from, position_or_len}
use Rattle.std.proofs.lemmas.Bool.{eqb-true}
use Rattle.std.proofs.lemmas.List.{append-nil}
use Rattle.std.proofs.lemmas.List.Elements.{All-cons, All-nil, All-tail, filter-append}
use Rattle.resp_cli_loop.specs.Scripts.{NameNoClients, first_word, is_passed_over, lines_of, onto_first_line, said_lines}

-- the line before the first LF
pub lines_at : (text : List ℕ) (at : ℕ) → at < length text → ((k : ℕ) → k < at → eqb (get_or text k 0) 10 ≡ false) →
    eqb (get_or text at 0) 10 ≡ true → lines_of text ≡ take at text ∷ lines_of (drop (suc at) text)
lines_at [] at within before here = absurd (omega (arith, within))
lines_at (b ∷ text) zero within before here = ap (λ t. cond t ([] ∷ lines_of text) (onto_first_line b (lines_of text))) here
lines_at (b ∷ text) (suc at) within before here =
    ap (λ t. cond t ([] ∷ lines_of text) (onto_first_line b (lines_of text))) (before 0 (omega arith))
    ∙ ap (onto_first_line b) (lines_at text at (omega arith) (λ k below. before (suc k) (omega arith)) here)

-- a text without LF is one line, if it isn't empty
pub line_without_end : (text : List ℕ) → 0 < length text → ((k : ℕ) → k < length text → eqb (get_or text k 0) 10 ≡ false) →
    lines_of text ≡ text ∷ []
line_without_end [] some none = absurd (omega (arith, some))
line_without_end (b ∷ []) some none = ap (λ t. cond t ([] ∷ []) ((b ∷ []) ∷ [])) (none 0 (omega arith))
line_without_end (b ∷ next ∷ text) some none =
    ap (λ t. cond t ([] ∷ lines_of (next ∷ text)) (onto_first_line b (lines_of (next ∷ text)))) (none 0 (omega arith))
    ∙ ap (onto_first_line b) (line_without_end (next ∷ text) (omega arith) (λ k below. none (suc k) (omega arith)))

-- the first word of none of the lines after the first is `clients`
pub none_after : (text line beyond : List ℕ) → lines_of text ≡ line ∷ lines_of beyond → NameNoClients (lines_of text) →
    NameNoClients (lines_of beyond)
none_after text line beyond parts none =
    All-tail (λ line. first_word line ≡ codes "clients" → ⊥) line (lines_of beyond) (subst NameNoClients parts none)

pub none_with : (text line beyond : List ℕ) → lines_of text ≡ line ∷ lines_of beyond → (first_word line ≡ codes "clients" → ⊥) →
    NameNoClients (lines_of beyond) → NameNoClients (lines_of text)
none_with text line beyond parts first none =
    subst NameNoClients (sym parts) (All-cons (λ line. first_word line ≡ codes "clients" → ⊥) line (lines_of beyond) first none)

-- each line with its number, and one more
numbered_more : (n : ℕ) (lines : List (List ℕ)) (line : List ℕ) →
    enumerate_from n (lines ++ line ∷ []) ≡ enumerate_from n lines ++ (n + length lines, line) ∷ []
numbered_more n [] line = ap (λ z. (z, line) ∷ []) (omega arith)
numbered_more n (first ∷ lines) line =
    ap (λ z. (n, first) ∷ z) (numbered_more (n + 1) lines line ∙ ap (λ z. enumerate_from (n + 1) lines ++ (z, line) ∷ []) (omega arith))

-- a line more that is passed over
pub said_nothing_more : (lines : List (List ℕ)) (line : List ℕ) → is_passed_over line ≡ true → said_lines (lines ++ line ∷ []) ≡ said_lines lines
said_nothing_more lines line passed =
    let test : ℕ × List ℕ → Bool = λ line. not (is_passed_over line.1) in
    ap (filter test) (numbered_more 1 lines line) ∙ filter-append test (enumerate_from 1 lines) ((1 + length lines, line) ∷ [])
    ∙ ap (λ t. said_lines lines ++ cond (not t) ((1 + length lines, line) ∷ []) []) passed
    ∙ append-nil (said_lines lines)

-- a line more that isn't
pub said_one_more : (lines : List (List ℕ)) (line : List ℕ) (number : ℕ) → is_passed_over line ≡ false → length lines + 1 ≡ number →
    said_lines (lines ++ line ∷ []) ≡ said_lines lines ++ (number, line) ∷ []
said_one_more lines line number passed counted =
    let test : ℕ × List ℕ → Bool = λ line. not (is_passed_over line.1) in
    ap (filter test) (numbered_more 1 lines line) ∙ filter-append test (enumerate_from 1 lines) ((1 + length lines, line) ∷ [])
    ∙ ap (λ t. said_lines lines ++ cond (not t) ((1 + length lines, line) ∷ []) []) passed
    ∙ ap (λ z. said_lines lines ++ (z, line) ∷ []) (omega (arith, counted))

begins_otherwise : (n : ℕ) (line : List ℕ) → take (1 + n) (35 ∷ line) ≡ codes "clients" → ⊥
begins_otherwise n line e =
    let next : suc n ≡ 1 + n = omega arith in
    omega (arith, ap (λ z. get_or z 0 0) (ap (λ m. take m (35 ∷ line)) next ∙ e))

-- whether a line's first word is `clients` hangs on its first byte, where it is passed over
passed_over_names_none : (line : List ℕ) → is_passed_over line ≡ true → first_word line ≡ codes "clients" → ⊥
passed_over_names_none [] passed e = nothing_is_no_word e
  where
    nothing_is_no_word : [] ≡ codes "clients" → ⊥
    nothing_is_no_word e = cc
passed_over_names_none (b ∷ line) passed e = comment (eqb-true b 35 passed) e
  where
    other_byte : (line : List ℕ) → first_word (35 ∷ line) ≡ codes "clients" → ⊥
    other_byte line e = begins_otherwise (position_or_len (λ b. eqb b 32) line) line e

    comment : {b : ℕ} → b ≡ 35 → first_word (b ∷ line) ≡ codes "clients" → ⊥
    comment is e = other_byte line (subst (λ z. first_word (z ∷ line) ≡ codes "clients") is e)

-- the said ones of numbered lines
abbrev said_of : List (ℕ × List ℕ) → List (ℕ × List ℕ)
said_of lines = filter (λ (line : ℕ × List ℕ). not (is_passed_over line.1)) lines

-- where a first line isn't said, it is passed over, and the others aren't said
first_passed_over : (t : Bool) (line : ℕ × List ℕ) (said : List (ℕ × List ℕ)) → cond (not t) (line ∷ said) said ≡ [] → (t ≡ true) × (said ≡ [])
first_passed_over true line said none = (refl, none)
first_passed_over false line said none = absurd (omega (arith, ap length none))

-- where no line is said, none names the number of clients
pub none_said_names_none : (n : ℕ) (lines : List (List ℕ)) → said_of (enumerate_from n lines) ≡ [] → NameNoClients lines
none_said_names_none n [] none = All-nil (λ line. first_word line ≡ codes "clients" → ⊥)
none_said_names_none n (line ∷ lines) none =
    let (passed, others) = first_passed_over (is_passed_over line) (n, line) (said_of (enumerate_from (n + 1) lines)) none in
    All-cons (λ line. first_word line ≡ codes "clients" → ⊥) line lines (passed_over_names_none line passed) (none_said_names_none (n + 1) lines others)
