-- The last STORE among the options of SORT.
use Rattle.std.proofs.Common.{◌≡◌, ◌∙◌, ◌⊎◌, ℕ, zero, suc, ◌+◌, ◌-◌, ◌<◌, ◌≤◌, Bool, true, Option, None, Some, List, [], ◌∷◌, ◌++◌, length, drop, take, get_or, inl, inr, ap, refl, sym, subst, arith}
use Rattle.std.proofs.Math.Seq.{drop-append_seam}
use Rattle.std.proofs.lemmas.List.{take-append-drop, append_assoc, length-append, length-drop}
use Rattle.std.specs.Prelude.{codes, IfNone, IfSome}
use Rattle.std.specs.Str.{str_eq_ignore_ascii_case}
use Rattle.resp_commands.specs.Options.{joined}
use Rattle.resp_commands.specs.Sorts.{AreSortOptions, IsSortedKey, StoresAfter, StoresLast, sort_argument_count}

abbrev is_store : List ℕ → Bool
is_store word = str_eq_ignore_ascii_case word (codes "store")

first_same : (v w : List ℕ) (vs ws : List (List ℕ)) → v ∷ vs ≡ w ∷ ws → v ≡ w
first_same v w vs ws same = ap (λ xs. get_or xs 0 []) same

rest_same : (v w : List ℕ) (vs ws : List (List ℕ)) → v ∷ vs ≡ w ∷ ws → vs ≡ ws
rest_same v w vs ws same = ap (drop 1) same

-- STORE is the first word
pub first_stores : (word next : List ℕ) (rest : List (List ℕ)) → is_store word ≡ true → StoresAfter (word ∷ next ∷ rest) 0
first_stores word next rest named =
    record { options = []; valid = tt; store = word; named = named; destination = next; rest = rest; whole = refl; before = refl }

no_words : (options : List (List (List ℕ))) (store next : List ℕ) (rest : List (List ℕ)) → AreSortOptions options →
    [] ≡ joined options ++ store ∷ next ∷ rest → ⊥
no_words [] store next rest valid whole = absurd (omega (arith, ap length whole))
no_words ([] ∷ options) store next rest valid whole = valid.0
no_words ((word ∷ words) ∷ options) store next rest valid whole = absurd (omega (arith, ap length whole))

pub none_stores : (count : ℕ) → StoresAfter [] count → ⊥
none_stores count s = no_words s.options s.store s.destination s.rest s.valid s.whole

has_words : (n count : ℕ) (left : List (List ℕ)) → StoresAfter (drop n left) count → length (take n left) ≡ n
has_words zero count left s = refl
has_words (suc n) count [] s = absurd (none_stores count s)
has_words (suc n) count (word ∷ left) s = ap suc (has_words n count left s)

-- what comes after an option comes among the words
pub stores_before : (word : List ℕ) (left : List (List ℕ)) (count : ℕ) → StoresAfter (drop (sort_argument_count word) left) count →
    StoresAfter (word ∷ left) (1 + sort_argument_count word + count)
stores_before word left count s =
    let n = sort_argument_count word in
    let enough : length (take n left) ≡ n = has_words n count left s in
    record {
      options = (word ∷ take n left) ∷ s.options;
      valid = (sym enough, s.valid);
      store = s.store;
      named = s.named;
      destination = s.destination;
      rest = s.rest;
      whole = ap (λ ws. word ∷ ws) (sym (take-append-drop n left) ∙ ap (λ ws. take n left ++ ws) s.whole ∙
          sym (append_assoc (take n left) (joined s.options) (s.store ∷ s.destination ∷ s.rest)));
      before = omega (arith, s.before, enough, length-append (take n left) (joined s.options));
    }

-- the first word is STORE, or it is a later one
abbrev pub IsFirstOrLater : List ℕ → List (List ℕ) → ℕ → Type 0
IsFirstOrLater word left count =
    ((count ≡ 0) × (is_store word ≡ true) × (0 < length left)) ⊎
    ((later : ℕ) × (count ≡ 1 + sort_argument_count word + later) × StoresAfter (drop (sort_argument_count word) left) later)

cases : (word : List ℕ) (left : List (List ℕ)) (count : ℕ) (options : List (List (List ℕ))) (store next : List ℕ) (rest : List (List ℕ)) →
    AreSortOptions options → is_store store ≡ true → word ∷ left ≡ joined options ++ store ∷ next ∷ rest → count ≡ length (joined options) →
    IsFirstOrLater word left count
cases word left count [] store next rest valid named whole before =
    inl (before, ap is_store (first_same word store left (next ∷ rest) whole) ∙ named, omega (arith, ap length whole))
cases word left count ([] ∷ options) store next rest valid named whole before = absurd (valid.0)
cases word left count ((first ∷ words) ∷ options) store next rest valid named whole before =
    let same : word ≡ first = first_same word first left _ whole in
    let number : sort_argument_count word ≡ length words = ap sort_argument_count same ∙ valid.0 in
    let tail : left ≡ words ++ (joined options ++ store ∷ next ∷ rest) =
    rest_same word first left _ whole ∙ append_assoc words (joined options) (store ∷ next ∷ rest) in
    inr (
      length (joined options),
      omega (arith, before, number, length-append words (joined options)),
      record {
        options = options;
        valid = valid.1;
        store = store;
        named = named;
        destination = next;
        rest = rest;
        whole = ap (λ k. drop k left) number ∙ ap (drop (length words)) tail ∙
            drop-append_seam words (joined options ++ store ∷ next ∷ rest);
        before = refl;
      },
    )

pub first_or_later : (word : List ℕ) (left : List (List ℕ)) (count : ℕ) → StoresAfter (word ∷ left) count → IsFirstOrLater word left count
first_or_later word left count s = cases word left count s.options s.store s.destination s.rest s.valid s.named s.whole s.before

-- at most the number that was found
abbrev pub IsAtMost : ℕ → Option ℕ → Type 0
IsAtMost count None = ⊥
IsAtMost count (Some last) = count ≤ last

-- of all words these are left, and this is the last STORE before them
pub record Read (all words : List (List ℕ)) (last : Option ℕ) : Type 0 where
  pub fewer : length words ≤ length all
  pub onwards : (count : ℕ) → StoresAfter words count → StoresAfter all (length all - length words + count)
  pub either : (count : ℕ) → StoresAfter all count →
      IsAtMost count last ⊎ ((later : ℕ) × (count ≡ length all - length words + later) × StoresAfter words later)
  pub found : IfSome last (λ l. StoresAfter all l × (l < length all - length words + 1))

pub nothing_read : (all : List (List ℕ)) → Read all all None
nothing_read all = record {
  fewer = omega arith;
  onwards = λ count s. subst (StoresAfter all) (omega arith) s;
  either = λ count s. inr (count, omega arith, s);
  found = tt;
}

pub all_read : (all : List (List ℕ)) (last : Option ℕ) → Read all [] last → IfSome last (StoresLast all) × IfNone last ((count : ℕ) → StoresAfter all count → ⊥)
all_read all None r = (tt, λ count s. elim (r.either count s) [ inl at_most ↦ at_most | inr later ↦ none_stores later.0 later.2 ])
all_read all (Some last) r = (
  record {
    stores = r.found.0;
    last = λ count s. elim (r.either count s) [ inl at_most ↦ at_most | inr later ↦ absurd (none_stores later.0 later.2) ];
  },
  tt,
)

stores_here : (word : List ℕ) (left : List (List ℕ)) → is_store word ≡ true → 0 < length left → StoresAfter (word ∷ left) 0
stores_here word [] named some = absurd (omega (arith, some))
stores_here word (next ∷ rest) named some = first_stores word next rest named

-- the places of the words that are left
distance : (all left : List (List ℕ)) (n count : ℕ) → suc (length left) ≤ length all → StoresAfter (drop n left) count →
    length all - suc (length left) + (1 + n + count) ≡ length all - length (drop n left) + count
distance all left n count fewer s =
    let enough : length (take n left) ≡ n = has_words n count left s in
    let parts : length (take n left) + length (drop n left) ≡ length left =
    sym (length-append (take n left) (drop n left)) ∙ ap length (take-append-drop n left) in
    omega (arith, fewer, enough, parts)

shorter : (left : List (List ℕ)) (n : ℕ) → length (drop n left) ≤ length left
shorter left n =
    let parts : length (take n left) + length (drop n left) ≡ length left =
    sym (length-append (take n left) (drop n left)) ∙ ap length (take-append-drop n left) in
    omega (arith, parts)

onwards_more : (all : List (List ℕ)) (word : List ℕ) (left : List (List ℕ)) (last : Option ℕ) → Read all (word ∷ left) last → (count : ℕ) →
    StoresAfter (drop (sort_argument_count word) left) count →
    StoresAfter all (length all - length (drop (sort_argument_count word) left) + count)
onwards_more all word left last r count s =
    subst (StoresAfter all) (distance all left (sort_argument_count word) count r.fewer s)
    (r.onwards (1 + sort_argument_count word + count) (stores_before word left count s))

before_last : (all left : List (List ℕ)) (last : Option ℕ) (count : ℕ) → suc (length left) ≤ length all →
    IfSome last (λ l. StoresAfter all l × (l < length all - suc (length left) + 1)) → IsAtMost count last → count ≤ length all - suc (length left)
before_last all left None count fewer found at_most = absurd at_most
before_last all left (Some last) count fewer found at_most = omega (arith, found.1, at_most)

still_found : (all left : List (List ℕ)) (n : ℕ) (last : Option ℕ) → suc (length left) ≤ length all → length (drop n left) ≤ length left →
    IfSome last (λ l. StoresAfter all l × (l < length all - suc (length left) + 1)) →
    IfSome last (λ l. StoresAfter all l × (l < length all - length (drop n left) + 1))
still_found all left n None fewer fits found = tt
still_found all left n (Some last) fewer fits found = (found.0, omega (arith, found.1, fewer, fits))

-- the word is STORE, and a word comes after it
pub store_read : (all : List (List ℕ)) (word : List ℕ) (left : List (List ℕ)) (last : Option ℕ) → Read all (word ∷ left) last →
    is_store word ≡ true → 0 < length left → Read all (drop (sort_argument_count word) left) (Some (length all - suc (length left)))
store_read all word left last r named some =
    let n = sort_argument_count word in
    let fits : length (drop n left) ≤ length left = shorter left n in
    record {
      fewer = omega (arith, fits, r.fewer);
      onwards = onwards_more all word left last r;
      either = λ count s.
          elim (r.either count s) [
            | inl at_most ↦ inl (before_last all left last count r.fewer r.found at_most)
            | inr later ↦
                elim (first_or_later word left later.0 later.2) [
                  | inl first ↦ inl (omega (arith, later.1, first.0))
                  | inr more ↦ inr (more.0, later.1 ∙ ap (λ k. length all - suc (length left) + k) more.1 ∙ distance all left n more.0 r.fewer more.2, more.2)
                ]
          ];
      found = (subst (StoresAfter all) (omega arith) (r.onwards 0 (stores_here word left named some)), omega (arith, fits, r.fewer));
    }

-- the word is not STORE, or it is the last
pub other_read : (all : List (List ℕ)) (word : List ℕ) (left : List (List ℕ)) (last : Option ℕ) → Read all (word ∷ left) last →
    (is_store word ≡ true → 0 < length left → ⊥) → Read all (drop (sort_argument_count word) left) last
other_read all word left last r other =
    let n = sort_argument_count word in
    let fits : length (drop n left) ≤ length left = shorter left n in
    record {
      fewer = omega (arith, fits, r.fewer);
      onwards = onwards_more all word left last r;
      either = λ count s.
          elim (r.either count s) [
            | inl at_most ↦ inl at_most
            | inr later ↦
                elim (first_or_later word left later.0 later.2) [
                  | inl first ↦ absurd (other first.1 first.2)
                  | inr more ↦ inr (more.0, later.1 ∙ ap (λ k. length all - suc (length left) + k) more.1 ∙ distance all left n more.0 r.fewer more.2, more.2)
                ]
          ];
      found = still_found all left n last r.fewer fits r.found;
    }

-- another option is read
pub option_read : (all words left rest : List (List ℕ)) (word : List ℕ) (n : ℕ) (last last' : Option ℕ) → words ≡ word ∷ left →
    n ≡ sort_argument_count word → rest ≡ drop n left → Read all words last →
    (((is_store word ≡ true) × (0 < length left) × (last' ≡ Some (length all - length words))) ⊎
    ((is_store word ≡ true → 0 < length left → ⊥) × (last' ≡ last))) → Read all rest last'
option_read all words left rest word n last last' same number dropped r either =
    let here : Read all (word ∷ left) last = subst (λ ws. Read all ws last) same r in
    subst (λ ws. Read all ws last') (sym (dropped ∙ ap (λ k. drop k left) number))
    (elim either [
      | inl h ↦
          subst (Read all (drop (sort_argument_count word) left)) (sym (h.2 ∙ ap (λ ws. Some (length all - length ws)) same))
          (store_read all word left last here h.0 h.1)
      | inr h ↦ subst (Read all (drop (sort_argument_count word) left)) (sym h.1) (other_read all word left last here h.0)
    ])

-- STORE and its word are among the words
pub has_room : (words : List (List ℕ)) (count : ℕ) → StoresAfter words count → count + 2 ≤ length words
has_room words count s =
    omega (arith, ap length s.whole, s.before, length-append (joined s.options) (s.store ∷ s.destination ∷ s.rest))

only_last : (words : List (List ℕ)) (m n : ℕ) → StoresLast words m → StoresLast words n → m ≡ n
only_last words m n first second = omega (arith, first.last n second.stores, second.last m first.stores)

-- the words that are left out, as the start says
skipped_words : (arguments words : List (List ℕ)) (skipped : ℕ) → words ≡ drop skipped arguments → words ≡ drop (skipped + 1 - 1) arguments
skipped_words arguments words skipped same = same ∙ ap (λ n. drop n arguments) (omega arith)

pub sorted_some : (arguments words : List (List ℕ)) (skipped before count : ℕ) (P : ℕ → Type 0) → words ≡ drop skipped arguments →
    count ≡ length arguments → StoresLast words before → ((place : ℕ) →
    (P place → (place ≡ skipped + before + 1 + 1) × (place ≤ count)) × (place ≡ skipped + before + 1 + 1 → place ≤ count → P place)) → (place : ℕ) →
    (P place → IsSortedKey (skipped + 1) arguments place) × (IsSortedKey (skipped + 1) arguments place → P place)
sorted_some arguments words skipped before count P same number last at place =
    let left : words ≡ drop (skipped + 1 - 1) arguments = skipped_words arguments words skipped same in (
      λ here. record {
        count = before;
        found = subst (λ ws. StoresLast ws before) left last;
        next = omega (arith, ((at place).0 here).0);
      },
      λ key.
          let equal : key.count ≡ before = only_last words key.count before (subst (λ ws. StoresLast ws key.count) (sym left) key.found) last in
          let room : before + 2 ≤ length words = has_room words before last.stores in
          let length_of : length words ≡ length arguments - skipped = ap length same ∙ length-drop skipped arguments in
          (at place).1 (omega (arith, key.next, equal)) (omega (arith, key.next, equal, room, length_of, number)),
    )

pub sorted_none : (arguments words : List (List ℕ)) (skipped : ℕ) (P : ℕ → Type 0) → words ≡ drop skipped arguments →
    ((count : ℕ) → StoresAfter words count → ⊥) → ((place : ℕ) → P place → ⊥) → (place : ℕ) →
    (P place → IsSortedKey (skipped + 1) arguments place) × (IsSortedKey (skipped + 1) arguments place → P place)
sorted_none arguments words skipped P same none nowhere place = (
  λ here. absurd (nowhere place here),
  λ key. absurd (none key.count (subst (λ ws. StoresAfter ws key.count) (sym (skipped_words arguments words skipped same)) key.found.stores)),
)

-- a start of 0 is as one of 1
pub same_start : (start skipped : ℕ) (arguments : List (List ℕ)) (place : ℕ) → skipped ≡ start - 1 →
    (IsSortedKey (skipped + 1) arguments place → IsSortedKey start arguments place) ×
    (IsSortedKey start arguments place → IsSortedKey (skipped + 1) arguments place)
same_start start skipped arguments place same =
    let equal : skipped + 1 - 1 ≡ start - 1 = omega (arith, same) in (
      λ key. record {
        count = key.count;
        found = subst (λ n. StoresLast (drop n arguments) key.count) equal key.found;
        next = omega (arith, key.next, equal);
      },
      λ key. record {
        count = key.count;
        found = subst (λ n. StoresLast (drop n arguments) key.count) (sym equal) key.found;
        next = omega (arith, key.next, equal);
      },
    )
