use Rattle.std.proofs.Common.{◌≡◌, ℕ, ◌<◌, true, false, Bool, List, length, get_or, refl, sym, ap, ◌∙◌, arith}
use Rattle.std.specs.Char.{to_ascii_lowercase}
use Rattle.std.specs.Cmp.Lexicographic.{bytes_decides}
use Rattle.std.specs.Str.{bytes_eq, str_to_ascii_lowercase}
use Rattle.std.proofs.lemmas.List.{ext_get_or, get_or-map, length-map}
use Rattle.resp_session.proofs.names.is_name.Goals as goal

-- other bytes are told apart
not_same : (a b : List ℕ) → (a ≡ b → ⊥) → bytes_eq a b ≡ false
not_same a b other = cases (bytes_eq a b) refl
  where
    cases : (same : Bool) → bytes_eq a b ≡ same → bytes_eq a b ≡ false
    cases true e = absurd (other ((bytes_decides a b).0 e))
    cases false e = e

-- a word in lower case, by its bytes
lower_at : (word : List ℕ) (i : ℕ) → i < length word → get_or (str_to_ascii_lowercase word) i 0 ≡ to_ascii_lowercase (get_or word i 0)
lower_at word i within = get_or-map to_ascii_lowercase word i 0 0 within

pub returns-then-word-name : goal.returns-then-word-name
returns-then-word-name c = record {
  same = sym (not_same (str_to_ascii_lowercase c.args.word.now) c.args.name.now
      (λ e. c.if-word-name.true (sym (length-map c.args.word.now to_ascii_lowercase) ∙ ap length e)));
}

pub returns-then-to_ascii_lowercase-name : goal.returns-then-to_ascii_lowercase-name
returns-then-to_ascii_lowercase-name c =
    let word = c.args.word.now in
    let i = c.loop-index.index in
    record {
      same = sym (not_same (str_to_ascii_lowercase word) c.args.name.now
          (λ e. c.if-to_ascii_lowercase-name.true (c.to_ascii_lowercase.ensures.value ∙
          sym (lower_at word i (omega (arith, c.loop-index-test.true, c.if-word-name.false))) ∙ ap (λ l. get_or l i 0) e)));
    }

pub returns : goal.returns
returns c =
    let word = c.args.word.now in
    let name = c.args.name.now in
    let size : length (str_to_ascii_lowercase word) ≡ length word = length-map word to_ascii_lowercase in
    record {
      same = sym ((bytes_decides (str_to_ascii_lowercase word) name).1 (ext_get_or 0 (str_to_ascii_lowercase word) name (size ∙ c.if-word-name.false)
          (λ i within. lower_at word i (omega (arith, within, size)) ∙
          c.loop-index.invariant.same i (omega (arith, within, size, c.if-word-name.false, c.loop-index-test.false)))));
    }
