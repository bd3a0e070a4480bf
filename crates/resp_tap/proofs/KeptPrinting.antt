-- The words of a command are printed from what is kept of them.
use Rattle.std.proofs.Common.{arith, ◌≡◌, ◌∙◌, ◌<◌, ◌+◌, ◌-◌, ℕ, suc, Bool, true, false, List, [], ◌++◌, Option, ap, drop, get_or, length, max, refl, sym, take, take-take}
use Rattle.std.specs.Prelude.{None, Some}
use Rattle.std.proofs.lemmas.List.{drop_more, get_or-map, length-map, length-take-le}
use Rattle.resp_print.specs.Shown.{shown_part}
use Rattle.resp_tap.specs.Parts.{AreKeptOf, IsEnough, length_within, word_lengths, word_within}
use Rattle.resp_tap.specs.Secrets.{printed_words, redacted_after, secrets_after, secrets_of}
use Rattle.resp_tap.specs.Texts.{IsPrintedAs}
use Rattle.resp_tap.specs.declared.secrets.Secrets.{Secrets}
use Rattle.resp_tap.specs.declared.secrets.Secrets.TheVariants.{Absent}
use Rattle.resp_tap.proofs.KeptWords.{kept_words_tell_the_same, same_secrets_after}
use Rattle.resp_tap.proofs.SecretWords.{printed_whole}

-- ---- one word

-- a word at a place is the kept part of the whole word
pub record Here (most : Option ℕ) (whole : List (List ℕ)) (index : ℕ) (word : List ℕ) : Type 0 where
  pub below : index < length whole
  pub part : word ≡ word_within most (get_or whole index [])

pub here : (shown most : Option ℕ) (whole words : List (List ℕ)) (lengths : List ℕ) (index : ℕ) (word : List ℕ) → AreKeptOf shown most whole words lengths →
    index < length words → word ≡ get_or words index [] → Here most whole index word
here shown most whole words lengths index word are below is =
    let same : length words ≡ length whole = ap length are.first_bytes ∙ length-map whole (word_within most) in
    let within : index < length whole = omega (arith, same, below) in record {
      below = within;
      part = is ∙ ap (λ ws. get_or ws index []) are.first_bytes ∙ get_or-map (word_within most) whole index [] [] within;
    }

pub next_lengths : (most : Option ℕ) (whole : List (List ℕ)) (index : ℕ) (longer : List ℕ) → index < length whole →
    longer ≡ word_lengths most (drop index whole) →
    longer ≡ length_within most (length (get_or whole index [])) ++ word_lengths most (drop (index + 1) whole)
next_lengths most whole index longer below is = is ∙ ap (word_lengths most) (drop_more whole index [] below)

pub before_kept : (whole : List (List ℕ)) (index : ℕ) → index < length whole → length (take index whole) ≡ index
before_kept whole index below = length-take-le index whole (omega (arith, below))

pub same_after : (shown most : Option ℕ) (whole words : List (List ℕ)) (lengths : List ℕ) (secrets : Secrets) (word part : List ℕ) (left next : ℕ) →
    AreKeptOf shown most whole words lengths → part ≡ word_within most word → next ≡ max (secrets_after secrets part) (left - 1) →
    next ≡ max (secrets_after secrets word) (left - 1)
same_after shown most whole words lengths secrets word part left next are is next_is =
    next_is ∙ ap (λ n. max n (left - 1)) (ap (secrets_after secrets) is ∙ same_secrets_after shown most secrets word are.enough)

-- the first bytes that are shown are among those that are kept
shown_kept : (shown most : Option ℕ) (word : List ℕ) → IsEnough shown most → shown_part shown (word_within most word) ≡ shown_part shown word
shown_kept shown None word enough = refl
shown_kept None (Some n) word enough = absurd ((enough n refl).1 refl)
shown_kept (Some shown) (Some n) word enough = take-take shown (suc n) word (let few = (enough n refl).2 shown refl in omega (arith, few))

pub is_printed : (shown most : Option ℕ) (whole words : List (List ℕ)) (lengths : List ℕ) (word part : List ℕ) (count : ℕ) → AreKeptOf shown most whole words lengths →
    part ≡ word_within most word → count ≡ length word → IsPrintedAs shown word part count
is_printed shown most whole words lengths word part count are is counted =
    (ap (shown_part shown) is ∙ shown_kept shown most word are.enough, counted)

-- ---- the length of a word

-- ---- all words

pub shown_secrets : (shown most : Option ℕ) (whole words : List (List ℕ)) (lengths : List ℕ) (shows : Bool) → AreKeptOf shown most whole words lengths →
    shows ≡ true → redacted_after Absent [] whole ≡ printed_words shows whole
shown_secrets shown most whole words lengths shows are is = printed_whole shows whole is

pub hidden_secrets : (shown most : Option ℕ) (whole words : List (List ℕ)) (lengths : List ℕ) (shows : Bool) (secrets : Secrets) →
    AreKeptOf shown most whole words lengths → shows ≡ false → secrets ≡ secrets_of words → redacted_after secrets [] whole ≡ printed_words shows whole
hidden_secrets shown most whole words lengths shows secrets are is of =
    ap (λ s. redacted_after s [] whole) (of ∙ (kept_words_tell_the_same shown most whole words lengths are).secrets) ∙
    ap (λ b. printed_words b whole) (sym is)
