-- KEYS among the options of MIGRATE.
use Rattle.std.proofs.Common.{rules, ◌≡◌, ◌∙◌, ℕ, zero, suc, ◌+◌, ◌-◌, ◌<◌, ◌≤◌, Bool, true, false, List, [], ◌∷◌, ◌++◌, length, drop, take, get_or, inl, inr, ap, refl, sym, subst, arith, true≢false}
use Rattle.std.proofs.Math.Seq.{drop-append_seam}
use Rattle.std.proofs.lemmas.List.{take-append-drop, append_assoc, length-append, length-drop}
use Rattle.std.specs.Prelude.{codes}
use Rattle.std.specs.Str.{str_eq_ignore_ascii_case}
use Rattle.resp_commands.specs.Options.{joined}
use Rattle.resp_commands.specs.Keys.{IsAmong}
use Rattle.resp_commands.specs.Migrates.{AreMigrateOptions, HasEmptyThird, HasKeysAfter, IsMigrateKey, migrate_argument_count}

abbrev pub is_keys : List ℕ → Bool
is_keys word = str_eq_ignore_ascii_case word (codes "keys")

first_same : (v w : List ℕ) (vs ws : List (List ℕ)) → v ∷ vs ≡ w ∷ ws → v ≡ w
first_same v w vs ws same = ap (λ xs. get_or xs 0 []) same

rest_same : (v w : List ℕ) (vs ws : List (List ℕ)) → v ∷ vs ≡ w ∷ ws → vs ≡ ws
rest_same v w vs ws same = ap (drop 1) same

-- KEYS is the first word
keys_first : (word : List ℕ) (left : List (List ℕ)) → is_keys word ≡ true → HasKeysAfter (word ∷ left) 0
keys_first word left named = record { options = []; valid = tt; keyword = word; named = named; rest = left; whole = refl; before = refl }

no_words : (options : List (List (List ℕ))) (keyword : List ℕ) (rest : List (List ℕ)) → AreMigrateOptions options →
    [] ≡ joined options ++ keyword ∷ rest → ⊥
no_words [] keyword rest valid whole = absurd (omega (arith, ap length whole))
no_words ([] ∷ options) keyword rest valid whole = valid.0
no_words ((word ∷ words) ∷ options) keyword rest valid whole = absurd (omega (arith, ap length whole))

none_keys : (count : ℕ) → HasKeysAfter [] count → ⊥
none_keys count k = no_words k.options k.keyword k.rest k.valid k.whole

has_words : (n count : ℕ) (left : List (List ℕ)) → HasKeysAfter (drop n left) count → length (take n left) ≡ n
has_words zero count left k = refl
has_words (suc n) count [] k = absurd (none_keys count k)
has_words (suc n) count (word ∷ left) k = ap suc (has_words n count left k)

-- what comes after an option comes among the words
keys_before : (word : List ℕ) (left : List (List ℕ)) (count : ℕ) → is_keys word ≡ false →
    HasKeysAfter (drop (migrate_argument_count word) left) count → HasKeysAfter (word ∷ left) (1 + migrate_argument_count word + count)
keys_before word left count other k =
    let n = migrate_argument_count word in
    let enough : length (take n left) ≡ n = has_words n count left k in
    record {
      options = (word ∷ take n left) ∷ k.options;
      valid = ((other, sym enough), k.valid);
      keyword = k.keyword;
      named = k.named;
      rest = k.rest;
      whole = ap (λ ws. word ∷ ws) (sym (take-append-drop n left) ∙ ap (λ ws. take n left ++ ws) k.whole ∙
          sym (append_assoc (take n left) (joined k.options) (k.keyword ∷ k.rest)));
      before = omega (arith, k.before, enough, length-append (take n left) (joined k.options));
    }

-- KEYS comes after an option
abbrev IsLater : List ℕ → List (List ℕ) → Type 0
IsLater word left = (later : ℕ) × HasKeysAfter (drop (migrate_argument_count word) left) later

cases : (word : List ℕ) (left : List (List ℕ)) (options : List (List (List ℕ))) (keyword : List ℕ) (rest : List (List ℕ)) → is_keys word ≡ false →
    AreMigrateOptions options → is_keys keyword ≡ true → word ∷ left ≡ joined options ++ keyword ∷ rest → IsLater word left
cases word left [] keyword rest other valid named whole =
    absurd (true≢false (sym named ∙ ap is_keys (sym (first_same word keyword left rest whole)) ∙ other))
cases word left ([] ∷ options) keyword rest other valid named whole = absurd (valid.0)
cases word left ((first ∷ words) ∷ options) keyword rest other valid named whole =
    let number : migrate_argument_count word ≡ length words =
    ap migrate_argument_count (first_same word first left _ whole) ∙ valid.0.1 in
    let tail : left ≡ words ++ (joined options ++ keyword ∷ rest) =
    rest_same word first left _ whole ∙ append_assoc words (joined options) (keyword ∷ rest) in (
      length (joined options),
      record {
        options = options;
        valid = valid.1;
        keyword = keyword;
        named = named;
        rest = rest;
        whole = ap (λ k. drop k left) number ∙ ap (drop (length words)) tail ∙ drop-append_seam words (joined options ++ keyword ∷ rest);
        before = refl;
      },
    )

-- of all words these are left, and KEYS was not among the options before them
pub record Passed (all words : List (List ℕ)) : Type 0 where
  pub fewer : length words ≤ length all
  pub onwards : (count : ℕ) → HasKeysAfter words count → HasKeysAfter all (length all - length words + count)
  pub later : (count : ℕ) → HasKeysAfter all count → (later : ℕ) × HasKeysAfter words later

pub keys_found : (all words left : List (List ℕ)) (word : List ℕ) → words ≡ word ∷ left → is_keys word ≡ true → Passed all words →
    HasKeysAfter all (length all - length words)
keys_found all words left word is named p =
    subst (HasKeysAfter all) (omega arith) (p.onwards 0 (subst (λ ws. HasKeysAfter ws 0) (sym is) (keys_first word left named)))

pub all_passed : (all words : List (List ℕ)) → words ≡ [] → Passed all words → (count : ℕ) → HasKeysAfter all count → ⊥
all_passed all words none p count k =
    let (later, rest) = p.later count k in
    none_keys later (subst (λ ws. HasKeysAfter ws later) none rest)

shorter : (left : List (List ℕ)) (n : ℕ) → length (drop n left) ≤ length left
shorter left n = let long = length-drop n left in omega (arith, long)

-- the places of the words that are left
distance : (all left : List (List ℕ)) (n count : ℕ) → suc (length left) ≤ length all → HasKeysAfter (drop n left) count →
    length all - suc (length left) + (1 + n + count) ≡ length all - length (drop n left) + count
distance all left n count fewer k =
    let enough : length (take n left) ≡ n = has_words n count left k in
    let parts : length (take n left) + length (drop n left) ≡ length left =
    sym (length-append (take n left) (drop n left)) ∙ ap length (take-append-drop n left) in
    omega (arith, fewer, enough, parts)

passed : (all left : List (List ℕ)) (word : List ℕ) → is_keys word ≡ false → Passed all (word ∷ left) →
    Passed all (drop (migrate_argument_count word) left)
passed all left word other p =
    let n = migrate_argument_count word in
    record {
      fewer = let fits = shorter left n in omega (arith, fits, p.fewer);
      onwards = λ count k. subst (HasKeysAfter all) (distance all left n count p.fewer k)
          (p.onwards (1 + n + count) (keys_before word left count other k));
      later = λ count k.
          let (later, rest) = p.later count k in
          cases word left rest.options rest.keyword rest.rest other rest.valid rest.named rest.whole;
    }

-- another option is passed
pub option_passed : (all words left rest : List (List ℕ)) (word : List ℕ) (n : ℕ) → words ≡ word ∷ left → is_keys word ≡ false →
    n ≡ migrate_argument_count word → rest ≡ drop n left → Passed all words → Passed all rest
option_passed all words left rest word n is other number dropped p =
    subst (Passed all) (sym (dropped ∙ ap (λ k. drop k left) number)) (passed all left word other (subst (Passed all) is p))

-- KEYS is at one place
one_place : (first second : List (List (List ℕ))) (a b : List ℕ) (more more' : List (List ℕ)) → AreMigrateOptions first → AreMigrateOptions second →
    is_keys a ≡ true → is_keys b ≡ true → joined first ++ a ∷ more ≡ joined second ++ b ∷ more' → length (joined first) ≡ length (joined second)
one_place [] [] a b more more' valid valid' named named' same = refl
one_place [] ([] ∷ second) a b more more' valid valid' named named' same = absurd (valid'.0)
one_place [] ((word ∷ words) ∷ second) a b more more' valid valid' named named' same =
    absurd (true≢false (sym named ∙ ap is_keys (first_same a word more _ same) ∙ valid'.0.0))
one_place ([] ∷ first) second a b more more' valid valid' named named' same = absurd (valid.0)
one_place ((word ∷ words) ∷ first) [] a b more more' valid valid' named named' same =
    absurd (true≢false (sym named' ∙ ap is_keys (sym (first_same word b _ more' same)) ∙ valid.0.0))
one_place ((word ∷ words) ∷ first) ([] ∷ second) a b more more' valid valid' named named' same = absurd (valid'.0)
one_place ((word ∷ words) ∷ first) ((word' ∷ words') ∷ second) a b more more' valid valid' named named' same =
    let number : length words ≡ length words' =
    sym valid.0.1 ∙ ap migrate_argument_count (first_same word word' _ _ same) ∙ valid'.0.1 in
    let tails : words ++ (joined first ++ a ∷ more) ≡ words' ++ (joined second ++ b ∷ more') =
    sym (append_assoc words (joined first) (a ∷ more)) ∙ rest_same word word' _ _ same ∙ append_assoc words' (joined second) (b ∷ more') in
    let rests : joined first ++ a ∷ more ≡ joined second ++ b ∷ more' =
    sym (drop-append_seam words (joined first ++ a ∷ more)) ∙ ap (drop (length words)) tails ∙
    ap (λ k. drop k (words' ++ (joined second ++ b ∷ more'))) number ∙ drop-append_seam words' (joined second ++ b ∷ more') in
    let later = one_place first second a b more more' valid.1 valid'.1 named named' rests in
    omega (arith, number, later, length-append words (joined first), length-append words' (joined second))

only_place : (words : List (List ℕ)) (m n : ℕ) → HasKeysAfter words m → HasKeysAfter words n → m ≡ n
only_place words m n a b =
    a.before ∙ one_place a.options b.options a.keyword b.keyword a.rest b.rest a.valid b.valid a.named b.named (sym a.whole ∙ b.whole) ∙ sym b.before

-- KEYS is among the words
pub has_room : (words : List (List ℕ)) (count : ℕ) → HasKeysAfter words count → count + 1 ≤ length words
has_room words count k = omega (arith, ap length k.whole, k.before, length-append (joined k.options) (k.keyword ∷ k.rest))

-- the words that are left out, as the start says
skipped_words : (arguments words : List (List ℕ)) (skipped : ℕ) → words ≡ drop skipped arguments → words ≡ drop (skipped + 1 - 1) arguments
skipped_words arguments words skipped same = same ∙ ap (λ n. drop n arguments) (omega arith)

-- the places after one and up to another
pub between : (after last place : ℕ) (P : Type 0) → (after < place → place ≤ last → P) → (P → (after < place) × (place ≤ last)) →
    (IsAmong (record { after = after; last = last; step = 1 }) place → P) × (P → IsAmong (record { after = after; last = last; step = 1 }) place)
between after last place P there here = (
  λ among. there among.above among.within,
  λ p. record { above = (here p).0; within = (here p).1; some = omega arith; spaced = search rules },
)

pub without_list : (arguments words : List (List ℕ)) (skipped last : ℕ) → words ≡ drop skipped arguments → last ≤ length arguments → last ≤ 3 →
    (3 ≤ length arguments → 3 ≤ last) → ((count : ℕ) → HasKeysAfter words count → ⊥) → (place : ℕ) →
    (IsAmong (record { after = 2; last = last; step = 1 }) place → IsMigrateKey (skipped + 1) arguments place) ×
    (IsMigrateKey (skipped + 1) arguments place → IsAmong (record { after = 2; last = last; step = 1 }) place)
without_list arguments words skipped last same few small third none place =
    let left = skipped_words arguments words skipped same in
    between 2 last place (IsMigrateKey (skipped + 1) arguments place)
    (λ above within. inl (record {
      third = omega (arith, above, within, small);
      within = omega (arith, within, few);
      unlisted = λ count k. none count (subst (λ ws. HasKeysAfter ws count) (sym left) k);
    }))
    (λ key.
    elim key [
      | inl only ↦ (omega (arith, only.third), let long = third (omega (arith, only.third, only.within)) in omega (arith, only.third, long))
      | inr listed ↦ absurd (none listed.count (subst (λ ws. HasKeysAfter ws listed.count) (sym left) listed.found))
    ])

pub with_list : (arguments words : List (List ℕ)) (skipped before after count : ℕ) → words ≡ drop skipped arguments → after ≡ skipped + before + 1 →
    count ≡ length arguments → HasKeysAfter words before → HasEmptyThird arguments → (place : ℕ) →
    (IsAmong (record { after = after; last = count; step = 1 }) place → IsMigrateKey (skipped + 1) arguments place) ×
    (IsMigrateKey (skipped + 1) arguments place → IsAmong (record { after = after; last = count; step = 1 }) place)
with_list arguments words skipped before after count same is number found empty place =
    let left = skipped_words arguments words skipped same in
    between after count place (IsMigrateKey (skipped + 1) arguments place)
    (λ above within. inr (record {
      count = before;
      found = subst (λ ws. HasKeysAfter ws before) left found;
      empty = empty;
      after = omega (arith, above, is);
      within = omega (arith, within, number);
    }))
    (λ key.
    elim key [
      | inl only ↦ absurd (only.unlisted before (subst (λ ws. HasKeysAfter ws before) left found))
      | inr listed ↦
          let at : listed.count ≡ before = only_place words listed.count before (subst (λ ws. HasKeysAfter ws listed.count) (sym left) listed.found) found in
          (omega (arith, listed.after, at, is), omega (arith, listed.within, number))
    ])

pub no_list : (arguments words : List (List ℕ)) (skipped before : ℕ) → words ≡ drop skipped arguments → HasKeysAfter words before →
    (HasEmptyThird arguments → ⊥) → (place : ℕ) →
    (IsAmong (record { after = 0; last = 0; step = 1 }) place → IsMigrateKey (skipped + 1) arguments place) ×
    (IsMigrateKey (skipped + 1) arguments place → IsAmong (record { after = 0; last = 0; step = 1 }) place)
no_list arguments words skipped before same found full place = (
  λ among. absurd (omega (arith, among.above, among.within)),
  λ key.
      elim key [
        | inl only ↦ absurd (only.unlisted before (subst (λ ws. HasKeysAfter ws before) (skipped_words arguments words skipped same) found))
        | inr listed ↦ absurd (full listed.empty)
      ],
)

-- a start of 0 is as one of 1
pub same_start : (start skipped : ℕ) (arguments : List (List ℕ)) (place : ℕ) → skipped ≡ start - 1 →
    (IsMigrateKey (skipped + 1) arguments place → IsMigrateKey start arguments place) ×
    (IsMigrateKey start arguments place → IsMigrateKey (skipped + 1) arguments place)
same_start start skipped arguments place same =
    let equal : skipped + 1 - 1 ≡ start - 1 = omega (arith, same) in
    (moved (skipped + 1) start equal, moved start (skipped + 1) (sym equal))
  where
    moved : (from to : ℕ) → from - 1 ≡ to - 1 → IsMigrateKey from arguments place → IsMigrateKey to arguments place
    moved from to equal key =
        elim key [
          | inl only ↦ inl (record {
            third = only.third;
            within = only.within;
            unlisted = λ count k. only.unlisted count (subst (λ n. HasKeysAfter (drop n arguments) count) (sym equal) k);
          })
          | inr listed ↦ inr (record {
            count = listed.count;
            found = subst (λ n. HasKeysAfter (drop n arguments) listed.count) equal listed.found;
            empty = listed.empty;
            after = omega (arith, listed.after, equal);
            within = listed.within;
          })
        ]
