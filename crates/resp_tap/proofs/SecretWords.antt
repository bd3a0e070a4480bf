use Rattle.std.proofs.Common.{rules, arith, ◌≡◌, ℕ, ◌+◌, ◌-◌, ◌<◌, ◌||◌, Bool, true, false, List, [], ◌∷◌, ◌++◌, Option, drop, get_or, length, nat_lt, max, refl, ap, subst, sym, take, ◌∙◌, length-append}
use Rattle.std.proofs.lemmas.List.{at_drop_more, take_more}
use Rattle.resp_tap.specs.Secrets.{AreLeft, are_followed_secretly, is_secret_after, printed_words, redacted_after, secrets_after, shown_word}
use Rattle.resp_tap.specs.Texts.{word_text, words_text}
use Rattle.resp_tap.specs.declared.secrets.Secrets.{Secrets}
use Rattle.resp_tap.specs.declared.secrets.Secrets.TheVariants.{Absent}

-- one place further, by a list that is one word longer
one_further : (long short distance count : ℕ) (all few last : Bool) → long ≡ short + 1 → all ≡ (few || last) →
    (nat_lt (long + distance) count || all) ≡ ((nat_lt (short + (distance + 1)) count || few) || last)
one_further long short distance count all few last e is = grind (arith, e, is)

length_of_one_more : (before : List (List ℕ)) (word : List ℕ) → length (before ++ word ∷ []) ≡ length before + 1
length_of_one_more before word = length-append before (word ∷ [])

-- what one more word makes secret
pub followed_by_one_more : (secrets : Secrets) (before : List (List ℕ)) (word : List ℕ) (distance : ℕ) →
    are_followed_secretly secrets (before ++ word ∷ []) distance ≡
    (are_followed_secretly secrets before (distance + 1) || nat_lt distance (secrets_after secrets word))
followed_by_one_more secrets [] word distance = grind (arith, rules)
followed_by_one_more secrets (first ∷ before) word distance =
    one_further (length (before ++ word ∷ [])) (length before) distance (secrets_after secrets first)
    (are_followed_secretly secrets (before ++ word ∷ []) distance) (are_followed_secretly secrets before (distance + 1))
    (nat_lt distance (secrets_after secrets word)) (length_of_one_more before word)
    (followed_by_one_more secrets before word distance)

-- the words that are left after one more word
left_of_two : (distance after left : ℕ) →
    (nat_lt (distance + 1) left || nat_lt distance after) ≡ nat_lt distance (max after (left - 1))
left_of_two distance after left = grind arith

pub are_left_after : (secrets : Secrets) (before : List (List ℕ)) (word : List ℕ) (left next : ℕ) →
    next ≡ max (secrets_after secrets word) (left - 1) → AreLeft secrets before left → AreLeft secrets (before ++ word ∷ []) next
are_left_after secrets before word left next is are = λ distance.
    followed_by_one_more secrets before word distance ∙
    ap (λ b. b || nat_lt distance (secrets_after secrets word)) (are (distance + 1)) ∙
    left_of_two distance (secrets_after secrets word) left ∙ ap (nat_lt distance) (sym is)

-- without secret words each word is printed
pub nothing_is_followed : (before : List (List ℕ)) (distance : ℕ) → are_followed_secretly Absent before distance ≡ false
nothing_is_followed [] distance = refl
nothing_is_followed (word ∷ before) distance = let more = nothing_is_followed before distance in grind (arith, more)

pub all_are_printed : (before words : List (List ℕ)) → redacted_after Absent before words ≡ words
all_are_printed before [] = refl
all_are_printed before (word ∷ words) =
    let none = nothing_is_followed before 0 in
    let more = all_are_printed (before ++ word ∷ []) words in
    grind (arith, none, more)

pub printed_whole : (shows : Bool) (words : List (List ℕ)) → shows ≡ true → redacted_after Absent [] words ≡ printed_words shows words
printed_whole shows words e = subst (λ b. redacted_after Absent [] words ≡ printed_words b words) (sym e) (all_are_printed [] words)

-- the text of the next word, and of the rest
pub next_shown : (most : Option ℕ) (secrets : Secrets) (words : List (List ℕ)) (index : ℕ) (word shown : List ℕ) (is_secret : Bool) → index < length words →
    word ≡ get_or words index [] → is_secret ≡ is_secret_after secrets (take index words) → shown ≡ shown_word is_secret word →
    words_text most (redacted_after secrets (take index words) (drop index words)) ≡
    word_text most shown ++ words_text most (redacted_after secrets (take (index + 1) words) (drop (index + 1) words))
next_shown most secrets words index word shown is_secret below is secret as_shown =
    let rest = drop (index + 1) words in
    let hidden = is_secret_after secrets (take index words) in
    let same : shown ≡ shown_word hidden (get_or words index []) =
    as_shown ∙ ap (λ b. shown_word b word) secret ∙ ap (shown_word hidden) is in
    at_drop_more (λ z. words_text most (redacted_after secrets (take index words) z)) words index [] below ∙
    ap (λ z. word_text most (shown_word hidden (get_or words index [])) ++ words_text most (redacted_after secrets z rest))
    (sym (take_more words index [] below)) ∙
    ap (λ z. word_text most z ++ words_text most (redacted_after secrets (take (index + 1) words) rest)) (sym same)

-- the words that are left after the next word
pub left_at_next : (secrets : Secrets) (words : List (List ℕ)) (index : ℕ) (left next : ℕ) → index < length words →
    next ≡ max (secrets_after secrets (get_or words index [])) (left - 1) → AreLeft secrets (take index words) left → AreLeft secrets (take (index + 1) words) next
left_at_next secrets words index left next below is are =
    subst (λ z. AreLeft secrets z next) (sym (take_more words index [] below))
    (are_left_after secrets (take index words) (get_or words index []) left next is are)
