-- The kept part of a command's words tells of the command what a tap tells.
use Rattle.std.proofs.Common.{◌≡◌, ◌≢◌, ◌∙◌, inl, inr, ℕ, suc, zero, ◌+◌, ◌≤◌, ◌||◌, ◌&&◌, ◌%◌, ◌==◌, Bool, true, false, List, [], ◌∷◌, ◌++◌, length, nat_lt, take, map, max, Option, Global, MatchOption, refl, sym, ap, subst, arith, codes, take-take}
use Rattle.std.specs.Prelude.{⊤, None, Some, Vec, is_some, eqb, if◌then◌else◌, slice_index_or, option_map}
use Rattle.std.specs.Char.{to_ascii_lowercase, to_ascii_uppercase}
use Rattle.std.specs.List.{AllByRecursion, list_any}
use Rattle.std.specs.Option.{ForSome}
use Rattle.std.specs.Str.{bytes_eq}
use Rattle.std.proofs.lemmas.List.{length-map, take-map}
use Rattle.resp_value.specs.Cuts.{kept_part}
use Rattle.resp_stats.specs.Names.{containers, has_subcommands, name_byte, subcommand_name, table_name}
use Rattle.resp_session.specs.Operations.{is_name}
use Rattle.resp_value.specs.declared.version.Version.TheVariants.{Two, Three}
use Rattle.resp_tap.specs.Called.{command_name, upper_word}
use Rattle.resp_tap.specs.ClientNames.{Naming, asked_by, name_asked, name_in_hello, option_at, shown_byte}
use Rattle.resp_tap.specs.Filters.{Chooses, Suffices, has_no_name, keeps_name, longest_name}
use Rattle.resp_tap.specs.Filters as filters
use Rattle.resp_tap.specs.KeptLaws.{EnoughIsKept, KeptWordsTellTheSame, TellsTheCommand}
use Rattle.resp_tap.specs.Keyed.{IsKeyed, IsUnkeyed, name_in}
use Rattle.resp_tap.specs.Kinds.{are_unanswered, begins_with_name, command_kind, ends_pairing, has_word, hello_kind, kind_by_verb, unpairing_names, version_worded}
use Rattle.resp_tap.specs.Parts.{IsEnough, kept_for, word_within, words_within}
use Rattle.resp_tap.specs.Secrets.{secret_settings, secrets_after, secrets_of}
use Rattle.resp_tap.specs.declared.filter.Filter.{Filter}
use Rattle.resp_tap.specs.declared.kind.CommandKind.TheVariants.{Plain, Hello, Reset, Silent, Unpairing}
use Rattle.resp_tap.specs.declared.secrets.Secrets.{Secrets}
use Rattle.resp_tap.specs.declared.secrets.Secrets.TheVariants.{Absent, From, OfHello, OfMigrate, OfSettings}
use Rattle.resp_tap.proofs.KeptLemmas.{same_name, same_verb_named, same_word}

-- the kept parts of words
abbrev each : ℕ → List (List ℕ) → List (List ℕ)
each n words = map (kept_part n) words

count_kept : (n : ℕ) (words : List (List ℕ)) → length (each n words) ≡ length words
count_kept n words = length-map words (kept_part n)

-- the kept part of a word has the same first bytes
front_kept : (k n : ℕ) (word : List ℕ) → k ≤ n → take k (kept_part n word) ≡ take k word
front_kept k n word few = take-take k (suc n) word (omega (arith, few))

-- whether a word is one of some names
any_kept : (n : ℕ) (names : List (List ℕ)) (word : List ℕ) → AllByRecursion (λ name. length name ≤ n) names →
    list_any (λ name. is_name name (kept_part n word)) names ≡ list_any (λ name. is_name name word) names
any_kept n [] word few = refl
any_kept n (name ∷ names) word few = λ i. same_name n name word few.0 i || any_kept n names word few.1 i

-- ---- how a command is answered

begins_kept : (n : ℕ) (name : List ℕ) (words : List (List ℕ)) → length name ≤ n → begins_with_name name (each n words) ≡ begins_with_name name words
begins_kept n name [] few = refl
begins_kept n name (word ∷ words) few = same_name n name word few

has_kept : (n : ℕ) (name : List ℕ) (words : List (List ℕ)) → length name ≤ n → has_word name (each n words) ≡ has_word name words
has_kept n name [] few = refl
has_kept n name (word ∷ words) few = λ i. same_name n name word few i || has_kept n name words few i

version_kept : (n : ℕ) (word : List ℕ) → 64 ≤ n → version_worded (kept_part n word) ≡ version_worded word
version_kept n word enough = λ i.
    if same_word n word (codes "2") (omega (arith, enough)) i then Hello Two else
    if same_word n word (codes "3") (omega (arith, enough)) i then Hello Three else
    Plain

hello_kept : (n : ℕ) (words : List (List ℕ)) → 64 ≤ n → hello_kind (each n words) ≡ hello_kind words
hello_kept n [] enough = refl
hello_kept n (word ∷ words) enough = version_kept n word enough

unanswered_kept : (n : ℕ) (words : List (List ℕ)) → 64 ≤ n → are_unanswered (each n words) ≡ are_unanswered words
unanswered_kept n words enough = λ i.
    (begins_kept n (codes "ack") words (omega (arith, enough)) i || begins_kept n (codes "getack") words (omega (arith, enough)) i) &&
    eqb (count_kept n words i % 2) 0

ends_kept : (n : ℕ) (name : List ℕ) (words : List (List ℕ)) → 64 ≤ n → ends_pairing (kept_part n name) (each n words) ≡ ends_pairing name words
ends_kept n name words enough = λ i.
    any_kept n unpairing_names name (omega (arith, enough), (omega (arith, enough), (omega (arith, enough), tt))) i ||
    (same_name n (codes "client") name (omega (arith, enough)) i && begins_kept n (codes "reply") words (omega (arith, enough)) i) ||
    (same_name n (codes "script") name (omega (arith, enough)) i && begins_kept n (codes "debug") words (omega (arith, enough)) i) ||
    (same_name n (codes "replconf") name (omega (arith, enough)) i &&
    (has_kept n (codes "ack") words (omega (arith, enough)) i || has_kept n (codes "getack") words (omega (arith, enough)) i))

kind_kept : (n : ℕ) (words : List (List ℕ)) → 64 ≤ n → command_kind (each n words) ≡ command_kind words
kind_kept n [] enough = refl
kind_kept n (name ∷ words) enough = λ i.
    if same_name n (codes "hello") name (omega (arith, enough)) i then hello_kept n words enough i else
    if same_name n (codes "reset") name (omega (arith, enough)) i then Reset else
    if same_name n (codes "replconf") name (omega (arith, enough)) i && unanswered_kept n words enough i then Silent else
    if ends_kept n name words enough i then Unpairing else
    kind_by_verb (same_verb_named n name (omega (arith, enough)) i) (count_kept n words i)

-- ---- secret words

secrets_kept : (n : ℕ) (words : List (List ℕ)) → 64 ≤ n → secrets_of (each n words) ≡ secrets_of words
secrets_kept n [] enough = refl
secrets_kept n (name ∷ words) enough = λ i.
    if same_name n (codes "auth") name (omega (arith, enough)) i then From 1 else
    if same_name n (codes "hello") name (omega (arith, enough)) i then OfHello else
    if same_name n (codes "migrate") name (omega (arith, enough)) i then OfMigrate else
    if same_name n (codes "sentinel") name (omega (arith, enough)) i then OfSettings else
    if same_name n (codes "acl") name (omega (arith, enough)) i && begins_kept n (codes "setuser") words (omega (arith, enough)) i then From 2 else
    if same_name n (codes "config") name (omega (arith, enough)) i && begins_kept n (codes "set") words (omega (arith, enough)) i then OfSettings else
    Absent

settings_kept : (n : ℕ) (word : List ℕ) → 64 ≤ n →
    list_any (λ name. is_name name (kept_part n word)) secret_settings ≡ list_any (λ name. is_name name word) secret_settings
settings_kept n word enough = any_kept n secret_settings word (omega (arith, enough), (omega (arith, enough), (omega (arith, enough), (omega (arith, enough), (omega (arith, enough), (omega (arith, enough), (omega (arith, enough), (omega (arith, enough), (omega (arith, enough), (omega (arith, enough), (omega (arith, enough), tt)))))))))))

after_kept : (n : ℕ) (secrets : Secrets) (word : List ℕ) → 64 ≤ n → secrets_after secrets (kept_part n word) ≡ secrets_after secrets word
after_kept n Absent word enough = refl
after_kept n (From first) word enough = refl
after_kept n OfHello word enough = λ i. if same_name n (codes "auth") word (omega (arith, enough)) i then 2 else 0
after_kept n OfMigrate word enough = λ i.
    if same_name n (codes "auth") word (omega (arith, enough)) i then 1 else
    if same_name n (codes "auth2") word (omega (arith, enough)) i then 2 else
    0
after_kept n OfSettings word enough = λ i. if settings_kept n word enough i then 1 else 0

-- at least 64 bytes are kept, if not all are
least : (shown : Option ℕ) (n : ℕ) → IsEnough shown (Some n) → 64 ≤ n
least shown n enough = (enough n refl).0

pub same_secrets_after : (shown most : Option ℕ) (secrets : Secrets) (word : List ℕ) → IsEnough shown most →
    secrets_after secrets (word_within most word) ≡ secrets_after secrets word
same_secrets_after shown None secrets word enough = refl
same_secrets_after shown (Some n) secrets word enough = after_kept n secrets word (least shown n enough)

-- ---- the name of a connection

index_kept : (n : ℕ) (words : List (List ℕ)) (index : ℕ) → slice_index_or (each n words) index [] ≡ kept_part n (slice_index_or words index [])
index_kept n [] index = refl
index_kept n (word ∷ words) zero = refl
index_kept n (word ∷ words) (suc index) = index_kept n words index

-- a word that is chosen or not
maybe_kept : (n : ℕ) (b : Bool) (word : List ℕ) → (if b then Some (kept_part n word) else None) ≡ option_map (kept_part n) (if b then Some word else None)
maybe_kept n true word = refl
maybe_kept n false word = refl

either_kept : (n : ℕ) (b : Bool) (x y : Option (List ℕ)) →
    (if b then option_map (kept_part n) x else option_map (kept_part n) y) ≡ option_map (kept_part n) (if b then x else y)
either_kept n true x y = refl
either_kept n false x y = refl

named_at : (n : ℕ) (option : List ℕ) (index : ℕ) (words : List (List ℕ)) → length option ≤ n →
    is_name option (slice_index_or (each n words) index []) ≡ is_name option (slice_index_or words index [])
named_at n option index words few = ap (is_name option) (index_kept n words index) ∙ same_name n option (slice_index_or words index []) few

option_kept : (n : ℕ) (option : List ℕ) (index : ℕ) (words : List (List ℕ)) → length option ≤ n →
    option_at option index (each n words) ≡ option_map (kept_part n) (option_at option index words)
option_kept n option index words few =
    (λ i. if nat_lt (index + 1) (count_kept n words i) && named_at n option index words few i then Some (index_kept n words (index + 1) i) else None) ∙
    maybe_kept n (nat_lt (index + 1) (length words) && is_name option (slice_index_or words index [])) (slice_index_or words (index + 1) [])

in_hello_kept : (n : ℕ) (words : List (List ℕ)) → 64 ≤ n → name_in_hello (each n words) ≡ option_map (kept_part n) (name_in_hello words)
in_hello_kept n words enough =
    (λ i. if nat_lt 2 (count_kept n words i) && named_at n (codes "auth") 2 words (omega (arith, enough)) i
    then option_kept n (codes "setname") 5 words (omega (arith, enough)) i else option_kept n (codes "setname") 2 words (omega (arith, enough)) i) ∙
    either_kept n (nat_lt 2 (length words) && is_name (codes "auth") (slice_index_or words 2 [])) (option_at (codes "setname") 5 words)
    (option_at (codes "setname") 2 words)

asked_kept : (n : ℕ) (words : List (List ℕ)) → 64 ≤ n → name_asked (each n words) ≡ option_map (kept_part n) (name_asked words)
asked_kept n [] enough = refl
asked_kept n (name ∷ words) enough =
    let all = name ∷ words in
    let client = is_name (codes "client") name && length all == 3 in
    let hello = is_name (codes "hello") name in
    let reset = is_name (codes "reset") name in
    (λ i. if same_name n (codes "client") name (omega (arith, enough)) i && count_kept n all i == 3
    then option_kept n (codes "setname") 1 all (omega (arith, enough)) i else
    if same_name n (codes "hello") name (omega (arith, enough)) i then in_hello_kept n all enough i else
    if same_name n (codes "reset") name (omega (arith, enough)) i then Some [] else None) ∙
    ap (λ z. if client then option_map (kept_part n) (option_at (codes "setname") 1 all) else
    if hello then option_map (kept_part n) (name_in_hello all) else z) (maybe_kept n reset []) ∙
    ap (λ z. if client then option_map (kept_part n) (option_at (codes "setname") 1 all) else z)
    (either_kept n hello (name_in_hello all) (if reset then Some [] else None)) ∙
    either_kept n client (option_at (codes "setname") 1 all) (if hello then name_in_hello all else if reset then Some [] else None)

name_kept : (n : ℕ) (name : Option (List ℕ)) (number : ℕ) (naming : Naming) → 64 ≤ n →
    asked_by number (option_map (kept_part n) name) naming ≡ asked_by number name naming
name_kept n None number naming enough = refl
name_kept n (Some name) number naming enough =
    λ i. record { name = naming.name; asked = Some number; next = map shown_byte (front_kept 64 n name enough i) }

-- ---- the names of commands

name_in_kept : (n : ℕ) (words : List (List ℕ)) → name_in (each n words) ≡ kept_part n (name_in words)
name_in_kept n [] = refl
name_in_kept n (name ∷ words) = refl

called_kept : (n : ℕ) (words : List (List ℕ)) → 64 ≤ n → command_name (each n words) ≡ command_name words
called_kept n words enough =
    ap upper_word (name_in_kept n words) ∙ ap (map to_ascii_uppercase) (front_kept 32 n (name_in words) (omega (arith, enough)))

-- the first bytes of a text whose end is cut
cut_front : (k m : ℕ) (text end end' : List ℕ) → k ≤ m → ((j : ℕ) → j ≤ k → take j end ≡ take j end') → take k (take m text ++ end) ≡ take k (text ++ end')
cut_front zero m text end end' few same = refl
cut_front (suc k) zero text end end' few same = absurd (omega (arith, few))
cut_front (suc k) (suc m) [] end end' few same = same (suc k) (omega arith)
cut_front (suc k) (suc m) (x ∷ text) end end' few same =
    ap (λ l. x ∷ l) (cut_front k m text end end' (omega (arith, few)) (λ j below. same j (omega (arith, below))))

subcommand_kept : (n : ℕ) (words : List (List ℕ)) (j : ℕ) → j ≤ n → take j (subcommand_name (each n words)) ≡ take j (subcommand_name words)
subcommand_kept n [] j few = refl
subcommand_kept n (word ∷ words) zero few = refl
subcommand_kept n (word ∷ words) (suc j) few =
    ap (λ l. 32 ∷ l) (take-map name_byte j (kept_part n word) ∙ ap (map name_byte) (front_kept j n word (omega (arith, few))) ∙ sym (take-map name_byte j word))

end_kept : (n : ℕ) (b b' : Bool) (words : List (List ℕ)) (j : ℕ) → b ≡ b' → j ≤ n →
    take j (if b then subcommand_name (each n words) else []) ≡ take j (if b' then subcommand_name words else [])
end_kept n true b' words j same few = subcommand_kept n words j few ∙ ap (λ b. take j (if b then subcommand_name words else [])) same
end_kept n false b' words j same few = ap (λ b. take j (if b then subcommand_name words else [])) same

containers_kept : (n : ℕ) (word : List ℕ) → 64 ≤ n → has_subcommands (kept_part n word) ≡ has_subcommands word
containers_kept n word enough = any_kept n containers word (omega (arith, enough), (omega (arith, enough), (omega (arith, enough), (omega (arith, enough), (omega (arith, enough), (omega (arith, enough), (omega (arith, enough), (omega (arith, enough), (omega (arith, enough), (omega (arith, enough), (omega (arith, enough), (omega (arith, enough), (omega (arith, enough), (omega (arith, enough), (omega (arith, enough), (omega (arith, enough), (omega (arith, enough), tt)))))))))))))))))

counted_kept : (n : ℕ) (words : List (List ℕ)) → 64 ≤ n → table_name (each n words) ≡ table_name words
counted_kept n [] enough = refl
counted_kept n (name ∷ words) enough =
    ap (λ l. take 20 (l ++ (if has_subcommands (kept_part n name) then subcommand_name (each n words) else []))) (sym (take-map name_byte (suc n) name)) ∙
    cut_front 20 (suc n) (map name_byte name) (if has_subcommands (kept_part n name) then subcommand_name (each n words) else [])
    (if has_subcommands name then subcommand_name words else []) (omega (arith, enough))
    (λ j few. end_kept n (has_subcommands (kept_part n name)) (has_subcommands name) words j (containers_kept n name enough) (omega (arith, few, enough)))

-- ---- filters

same_kept : (n : ℕ) (word name : List ℕ) → length name ≤ n → filters.same_name (kept_part n word) name ≡ filters.same_name word name
same_kept n word name few =
    ap (λ w. bytes_eq w (map to_ascii_lowercase name)) (sym (take-map to_ascii_lowercase (suc n) word)) ∙
    same_word n (map to_ascii_lowercase word) (map to_ascii_lowercase name) (subst (λ k. k ≤ n) (sym (length-map name to_ascii_lowercase)) few)

among_kept : (n : ℕ) (word : List ℕ) (names : List (Vec ℕ Global)) → longest_name names ≤ n →
    list_any (λ (name : Vec ℕ Global). filters.same_name (kept_part n word) name.items) names ≡
    list_any (λ (name : Vec ℕ Global). filters.same_name word name.items) names
among_kept n word [] few = refl
among_kept n word (name ∷ names) few = λ i.
    same_kept n word name.items (omega (arith, few)) i || among_kept n word names (omega (arith, few)) i

keeps_kept : (n : ℕ) (f : Filter) (words : List (List ℕ)) → longest_name f.names.items ≤ n → keeps_name f (each n words) ≡ keeps_name f words
keeps_kept n f words few =
    ap (λ word. has_no_name f || list_any (λ (name : Vec ℕ Global). filters.same_name word name.items) f.names.items) (name_in_kept n words) ∙
    ap (λ b. has_no_name f || b) (among_kept n (name_in words) f.names.items few)

no_key : (P Q : Vec ℕ Global → Type 0) (key : Option (Vec ℕ Global)) → key ≡ None → MatchOption key ⊤ P → MatchOption key ⊤ Q
no_key P Q key none h = subst (λ k. MatchOption k ⊤ Q) (sym none) tt

chosen_kept : (n : ℕ) (f : Filter) (words : List (List ℕ)) (is_chosen : Bool) → Suffices (Some n) f → Chooses f (each n words) is_chosen → Chooses f words is_chosen
chosen_kept n f words true enough h =
    (sym (keeps_kept n f words enough.1) ∙ h.0, subst (λ k. MatchOption k ⊤ (λ glob. IsKeyed glob.items words)) (sym enough.0) tt)
chosen_kept n f words false enough (inl other) = inl (sym (keeps_kept n f words enough.1) ∙ other)
chosen_kept n f words false enough (inr unkeyed) = absurd (subst (λ k. MatchOption k ⊥ (λ glob. IsUnkeyed glob.items (each n words))) enough.0 unkeyed)

-- ---- the laws

all_kept : (words : List (List ℕ)) → words_within None words ≡ words
all_kept [] = refl
all_kept (word ∷ words) = ap (λ l. word ∷ l) (all_kept words)

tells_all : (whole : List (List ℕ)) → TellsTheCommand None whole whole
tells_all whole = record {
  kind = refl;
  secrets = refl;
  named = λ number n. refl;
  called = refl;
  counted = refl;
  count = refl;
  chosen = λ f is_chosen enough h. h;
}

tells_part : (shown : Option ℕ) (n : ℕ) (whole : List (List ℕ)) → 64 ≤ n → TellsTheCommand (Some n) whole (each n whole)
tells_part shown n whole enough = record {
  kind = kind_kept n whole enough;
  secrets = secrets_kept n whole enough;
  named = λ number naming. ap (λ name. asked_by number name naming) (asked_kept n whole enough) ∙ name_kept n (name_asked whole) number naming enough;
  called = called_kept n whole enough;
  counted = counted_kept n whole enough;
  count = count_kept n whole;
  chosen = λ f is_chosen suffices h. chosen_kept n f whole is_chosen suffices h;
}

tells_within : (shown most : Option ℕ) (whole : List (List ℕ)) → IsEnough shown most → TellsTheCommand most whole (words_within most whole)
tells_within shown None whole enough = subst (TellsTheCommand None whole) (sym (all_kept whole)) (tells_all whole)
tells_within shown (Some n) whole enough = tells_part shown n whole (least shown n enough)

pub kept_words_tell_the_same : KeptWordsTellTheSame
kept_words_tell_the_same shown most whole words lengths are = subst (TellsTheCommand most whole) (sym are.first_bytes) (tells_within shown most whole are.enough)

abbrev bytes_or : Option ℕ → ℕ
bytes_or None = 0
bytes_or (Some bytes) = bytes

kept_enough : (least shown kept : ℕ) → Some (max shown (max least 64)) ≡ Some kept →
    (64 ≤ kept) × (Some shown ≢ None) × ForSome (Some shown) (λ bytes. bytes ≤ kept)
kept_enough least shown kept is =
    let same : max shown (max least 64) ≡ kept = ap bytes_or is in (
      omega (arith, same),
      (λ none. absurd (cc)),
      λ bytes shown_is. let equal : shown ≡ bytes = ap bytes_or shown_is in omega (arith, same, equal),
    )

enough_for : (least : ℕ) (shown : Option ℕ) → IsEnough shown (kept_for least shown)
enough_for least None = λ kept is. absurd (cc)
enough_for least (Some shown) = λ kept is. kept_enough least shown kept is

enough_by : (b : Bool) (least : ℕ) (shown : Option ℕ) → IsEnough shown (if b then None else kept_for least shown)
enough_by true least shown = λ kept is. absurd (cc)
enough_by false least shown = enough_for least shown

suffices_for : (f : Filter) (shown : Option ℕ) → f.key ≡ None → Suffices (kept_for (longest_name f.names.items) shown) f
suffices_for f None none = tt
suffices_for f (Some shown) none = (none, omega arith)

suffices_by : (f : Filter) (key : Option (Vec ℕ Global)) (shown : Option ℕ) → f.key ≡ key →
    Suffices (if is_some key then None else kept_for (longest_name f.names.items) shown) f
suffices_by f None shown none = suffices_for f shown none
suffices_by f (Some glob) shown some = tt

pub enough_is_kept : EnoughIsKept
enough_is_kept f shown = (enough_by (is_some f.key) (longest_name f.names.items) shown, suffices_by f f.key shown refl)
