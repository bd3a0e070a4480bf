-- The words of a line, one byte and one word after another.
use Rattle.std.specs.Borrow.{Bor}
use Rattle.std.specs.Prelude.{IfNone, IfSome, Option, None, Some, not}
use Rattle.resp_line.specs.declared.line.Quote.{Quote}
use Rattle.resp_line.specs.declared.line.Quote.TheVariants.{Double, Single}
use Rattle.resp_line.specs.declared.line.WordEnd.{WordEnd}
use Rattle.resp_line.specs.declared.line.WordEnd.TheVariants.{Ended, Open, NoSpace}
use Rattle.resp_line.specs.Lines.{IfEnded, IsHexPair, UnlessEnded, escaped}
use Rattle.std.proofs.Common.{◌≡◌, ◌≢◌, ◌⊎◌, inl, inr, ◌<◌, ◌≤◌, ℕ, Bool, true, false, List, [], ◌∷◌, ◌++◌, length, refl, sym, ap, subst, ◌∙◌, arith, append_assoc, length-append}
use Rattle.std.specs.List.{AllByRecursion}
use Rattle.std.proofs.lemmas.List.{append-nil}
use Rattle.resp_value.proofs.FirstBytes.{all_append}
use Rattle.resp_line.specs.Lines.{AreWords, EndsBare, EndsQuote, EndsWord, FollowsBlanks, IsWord, ReadsByte, ReadsQuoted, ReadsUpTo, StartsWord, is_bare, is_blank, is_space, quote_byte}

-- a byte more in quotes
pub quoted_more : (q : Quote) (text rest mid content : List ℕ) (b : ℕ) → ((more end : List ℕ) → ReadsUpTo q more rest end → ReadsUpTo q (content ++ more) text end) →
    ReadsByte q b rest mid → (more end : List ℕ) → ReadsUpTo q more mid end → ReadsUpTo q ((content ++ b ∷ []) ++ more) text end
quoted_more q text rest mid content b so_far byte more end given =
    subst (λ z. ReadsUpTo q z text end) (sym (append_assoc content (b ∷ []) more)) (so_far (b ∷ more) end (mid, byte, given))

-- a blank more
pub blank_more : (text rest beyond : List ℕ) (b : ℕ) → FollowsBlanks text rest → rest ≡ b ∷ beyond → is_blank b ≡ true → FollowsBlanks text beyond
blank_more text rest beyond b (blanks, parts, are) is space = (
  blanks ++ b ∷ [],
  parts ∙ ap (λ z. blanks ++ z) is ∙ sym (append_assoc blanks (b ∷ []) beyond),
  all_append (λ x. is_blank x ≡ true) blanks (b ∷ []) are (space, tt),
)

-- the closing quote
pub quoted_closed : (q : Quote) (text rest after content : List ℕ) → ((more end : List ℕ) → ReadsUpTo q more rest end → ReadsUpTo q (content ++ more) text end) →
    rest ≡ quote_byte q ∷ after → ReadsUpTo q content text after
quoted_closed q text rest after content so_far is = subst (λ z. ReadsUpTo q z text after) (append-nil content) (so_far [] after is)

-- what ends bytes that stand for themselves, and is no quote, ends a word
pub ends_word : (b : ℕ) → is_bare b ≡ false → b ≢ 34 → b ≢ 39 → is_space b ≡ true
ends_word b bare double single = grind arith

pub ends_bare_word : (rest inside : List ℕ) (b : ℕ) → rest ≡ b ∷ inside → EndsBare rest → b ≢ 34 → b ≢ 39 → EndsWord rest
ends_bare_word rest inside b is ends double single =
    let bare : is_bare b ≡ false = subst EndsBare is ends in
    subst EndsWord (sym is) (ends_word b bare double single)

-- a space is a blank
blank_of_space : (b : ℕ) → is_space b ≡ true → is_blank b ≡ true
blank_of_space b space = rw space refl

-- a word of bytes that stand for themselves has at least one
pub some_bare : (text rest bare : List ℕ) → text ≡ bare ++ rest → StartsWord text → EndsWord rest → length rest < length text
some_bare text rest (x ∷ bare) parts starts ends = omega (arith, ap length parts, length-append bare rest)
some_bare text [] [] parts starts ends = absurd (subst StartsWord parts starts)
some_bare text (b ∷ rest) [] parts starts ends =
    let first : is_blank b ≡ false = subst StartsWord parts starts in
    let bad : true ≡ false = sym (blank_of_space b ends) ∙ first in cc

-- a word more
pub word_more : (line after rest after' word : List ℕ) (words : List (List ℕ)) → FollowsBlanks after rest →
    ((more : List (List ℕ)) → AreWords more after → AreWords (words ++ more) line) → IsWord word rest after' →
    (more : List (List ℕ)) → AreWords more after' → AreWords ((words ++ word ∷ []) ++ more) line
word_more line after rest after' word words (blanks, parts, are) so_far is more given =
    subst (λ z. AreWords z line) (sym (append_assoc words (word ∷ []) more))
    (so_far (word ∷ more) (blanks, rest, after', parts, are, is, given))

-- no word more
pub words_end : (line after rest : List ℕ) (words : List (List ℕ)) → FollowsBlanks after rest → length rest ≡ 0 →
    ((more : List (List ℕ)) → AreWords more after → AreWords (words ++ more) line) → AreWords words line
words_end line after (b ∷ rest) words blanks none so_far = absurd (omega (arith, none))
words_end line after [] words (blanks, parts, are) none so_far =
    let all : after ≡ blanks = parts ∙ append-nil blanks in
    subst (λ z. AreWords z line) (append-nil words) (so_far [] (subst (AllByRecursion (λ b. is_blank b ≡ true)) (sym all) are))

-- a backslash before another byte
pub escape_read : (text beyond after : List ℕ) (b c : ℕ) → text ≡ b ∷ beyond → b ≡ 92 → beyond ≡ c ∷ after →
    ((byte : ℕ) → IsHexPair beyond byte → ⊥) → ReadsByte Double (escaped c) text after
escape_read text beyond after b c parts is first none =
    inr (inr (
      c,
      parts ∙ ap (λ z. z ∷ beyond) is ∙ ap (λ z. 92 ∷ z) first,
      subst (λ z. (byte : ℕ) → IsHexPair z byte → ⊥) first none,
      refl,
    ))

pub was_true : (r s : Bool) → r ≡ s → not r ≡ false → s ≡ true
was_true true s same off = sym same
was_true false s same off = let bad : true ≡ false = off in cc

-- a word without quotes
pub bare_word : (text rest word word' : List ℕ) → word ≡ [] →
    ((bare : List ℕ) × (word' ≡ word ++ bare) × AllByRecursion (λ b. is_bare b ≡ true) bare × (text ≡ bare ++ rest)) → StartsWord text → EndsWord rest →
    IsWord word' text rest
bare_word text rest word word' empty (bare, is, are, parts) starts ends = record {
  bare = bare;
  quoted = [];
  mid = rest;
  starts = starts;
  parts = is ∙ ap (λ z. z ++ bare) empty ∙ sym (append-nil bare);
  are_bare = are;
  begins = parts;
  read = inl (refl, refl, ends);
}

byte_shorter : (q : Quote) (b : ℕ) (text rest : List ℕ) → ReadsByte q b text rest → length rest < length text
byte_shorter Double b text rest (inl plain) = omega (arith, ap length plain.0)
byte_shorter Double b text rest (inr (inl (x, h, l, is, pair))) = omega (arith, ap length is)
byte_shorter Double b text rest (inr (inr (c, is, none, same))) = omega (arith, ap length is)
byte_shorter Single b text rest (inl is) = omega (arith, ap length is.0)
byte_shorter Single b text rest (inr is) = omega (arith, ap length is.0)

quoted_shorter : (q : Quote) (content text rest : List ℕ) → ReadsUpTo q content text rest → length rest < length text
quoted_shorter q [] text rest is = omega (arith, ap length is)
quoted_shorter q (b ∷ content) text rest (mid, byte, read) =
    omega (arith, byte_shorter q b text mid byte, quoted_shorter q content mid rest read)

-- a word takes some bytes
pub shorter_word : (word text rest : List ℕ) → IsWord word text rest → StartsWord text → length rest < length text
shorter_word word text rest is starts = go is.read
  where
    go : ((is.quoted ≡ []) × (rest ≡ is.mid) × EndsWord rest) ⊎ (ReadsQuoted is.quoted is.mid rest × EndsQuote rest) → length rest < length text
    go (inl (none, same, ends)) = some_bare text rest is.bare (is.begins ∙ ap (λ z. is.bare ++ z) (sym same)) starts ends
    go (inr ((q, inside, opens, read), ends)) =
        let some = quoted_shorter q is.quoted inside rest read in
        omega (arith, ap length is.begins, length-append is.bare is.mid, ap length opens, some)

pub blanks_shorter : (text rest : List ℕ) → FollowsBlanks text rest → length rest ≤ length text
blanks_shorter text rest (blanks, parts, are) = omega (arith, ap length parts, length-append blanks rest)

-- ---- there is one way to read a line

abbrev after_first : List ℕ → List ℕ
after_first [] = []
after_first (b ∷ rest) = rest

abbrev head_of : List ℕ → ℕ
head_of [] = 0
head_of (b ∷ rest) = b

-- the rest after one byte in quotes
byte_rest : (q : Quote) (text : List ℕ) (b b' : ℕ) (rest rest' : List ℕ) → ReadsByte q b text rest → ReadsByte q b' text rest' → rest ≡ rest'
byte_rest Double text b b' rest rest' (inl a) (inl a') = ap after_first (sym a.0 ∙ a'.0)
byte_rest Double text b b' rest rest' (inl a) (inr (inl (x, h, l, is, pair))) = absurd (a.2 (ap head_of (sym a.0 ∙ is)))
byte_rest Double text b b' rest rest' (inl a) (inr (inr (c, is, none, same))) = absurd (a.2 (ap head_of (sym a.0 ∙ is)))
byte_rest Double text b b' rest rest' (inr (inl (x, h, l, is, pair))) (inl a) = absurd (a.2 (ap head_of (sym a.0 ∙ is)))
byte_rest Double text b b' rest rest' (inr (inl (x, h, l, is, pair))) (inr (inl (x', h', l', is', pair'))) =
    ap (λ z. after_first (after_first (after_first (after_first z)))) (sym is ∙ is')
byte_rest Double text b b' rest rest' (inr (inl (x, h, l, is, pair))) (inr (inr (c, is', none, same))) =
    absurd (none b (subst (λ z. IsHexPair z b) (ap after_first (sym is ∙ is')) pair))
byte_rest Double text b b' rest rest' (inr (inr (c, is, none, same))) (inl a) = absurd (a.2 (ap head_of (sym a.0 ∙ is)))
byte_rest Double text b b' rest rest' (inr (inr (c, is, none, same))) (inr (inl (x, h, l, is', pair))) =
    absurd (none b' (subst (λ z. IsHexPair z b') (ap after_first (sym is' ∙ is)) pair))
byte_rest Double text b b' rest rest' (inr (inr (c, is, none, same))) (inr (inr (c', is', none', same'))) =
    ap (λ z. after_first (after_first z)) (sym is ∙ is')
byte_rest Single text b b' rest rest' (inl a) (inl a') = ap (λ z. after_first (after_first z)) (sym a.0 ∙ a'.0)
byte_rest Single text b b' rest rest' (inl a) (inr a') = absurd (a'.2 rest a.0)
byte_rest Single text b b' rest rest' (inr a) (inl a') = absurd (a.2 rest' a'.0)
byte_rest Single text b b' rest rest' (inr a) (inr a') = ap after_first (sym a.0 ∙ a'.0)

-- the closing quote is no byte
no_quote : (q : Quote) (text end : List ℕ) (b : ℕ) (rest : List ℕ) → text ≡ quote_byte q ∷ end → ReadsByte q b text rest → ⊥
no_quote Double text end b rest quote (inl a) = a.1 (ap head_of (sym a.0 ∙ quote))
no_quote Double text end b rest quote (inr (inl (x, h, l, is, pair))) = let e : 92 ≡ 34 = ap head_of (sym is ∙ quote) in absurd (omega (arith, e))
no_quote Double text end b rest quote (inr (inr (c, is, none, same))) = let e : 92 ≡ 34 = ap head_of (sym is ∙ quote) in absurd (omega (arith, e))
no_quote Single text end b rest quote (inl a) = let e : 92 ≡ 39 = ap head_of (sym a.0 ∙ quote) in absurd (omega (arith, e))
no_quote Single text end b rest quote (inr a) = a.1 (ap head_of (sym a.0 ∙ quote))

pub quoted_through : (q : Quote) (text rest after : List ℕ) (b : ℕ) →
    ((content end : List ℕ) → ReadsUpTo q content text end → (more : List ℕ) × ReadsUpTo q more rest end) →
    ReadsByte q b rest after → (content end : List ℕ) → ReadsUpTo q content text end → (more : List ℕ) × ReadsUpTo q more after end
quoted_through q text rest after b through byte content end given = go (through content end given)
  where
    go : (more : List ℕ) × ReadsUpTo q more rest end → (more : List ℕ) × ReadsUpTo q more after end
    go ([], quote) = absurd (no_quote q rest end b after quote byte)
    go (b' ∷ more, (mid, byte', read)) = (more, subst (λ z. ReadsUpTo q more z end) (byte_rest q rest b' b mid after byte' byte) read)

pub quoted_end : (q : Quote) (text rest after : List ℕ) →
    ((content end : List ℕ) → ReadsUpTo q content text end → (more : List ℕ) × ReadsUpTo q more rest end) →
    rest ≡ quote_byte q ∷ after → (content end : List ℕ) → ReadsUpTo q content text end → end ≡ after
quoted_end q text rest after through is content end given = go (through content end given)
  where
    go : (more : List ℕ) × ReadsUpTo q more rest end → end ≡ after
    go ([], quote) = ap after_first (sym quote ∙ is)
    go (b ∷ more, (mid, byte, read)) = absurd (no_quote q rest after b mid is byte)

pub quoted_open : (q : Quote) (text rest : List ℕ) →
    ((content end : List ℕ) → ReadsUpTo q content text end → (more : List ℕ) × ReadsUpTo q more rest end) →
    ((end : List ℕ) → rest ≡ quote_byte q ∷ end → ⊥) → ((b : ℕ) (after : List ℕ) → ReadsByte q b rest after → ⊥) →
    (content end : List ℕ) → ReadsUpTo q content text end → ⊥
quoted_open q text rest through no_quote no_byte content end given = go (through content end given)
  where
    go : (more : List ℕ) × ReadsUpTo q more rest end → ⊥
    go ([], quote) = no_quote end quote
    go (b ∷ more, (mid, byte, read)) = no_byte b mid byte

pub other_quote : (rest after end : List ℕ) (b q : ℕ) → rest ≡ b ∷ after → b ≢ q → rest ≡ q ∷ end → ⊥
other_quote rest after end b q is other quote = other (ap head_of (sym is ∙ quote))

pub no_quote_at_end : (rest end : List ℕ) (q : ℕ) → length rest ≡ 0 → rest ≡ q ∷ end → ⊥
no_quote_at_end rest end q none quote = absurd (omega (arith, ap length quote, none))

-- what stops the first elements that pass a test
Stops : (ℕ → Bool) → List ℕ → Type 0
Stops p [] = Unit {0}
Stops p (b ∷ rest) = p b ≡ false

false_true : (b : Bool) → b ≡ false → b ≡ true → ⊥
false_true b off on = let bad : true ≡ false = sym on ∙ off in cc

-- the elements that pass a test, up to one that does not, end at one place
span_rest : (p : ℕ → Bool) (a b x y : List ℕ) → AllByRecursion (λ c. p c ≡ true) a → AllByRecursion (λ c. p c ≡ true) b → a ++ x ≡ b ++ y →
    Stops p x → Stops p y → x ≡ y
unfolding Stops
span_rest p [] [] x y pa pb same sx sy = same
span_rest p [] (c ∷ b) x y pa pb same sx sy = absurd (false_true (p c) (subst (Stops p) same sx) pb.0)
span_rest p (c ∷ a) [] x y pa pb same sx sy = absurd (false_true (p c) (subst (Stops p) (sym same) sy) pa.0)
span_rest p (c ∷ a) (c' ∷ b) x y pa pb same sx sy = span_rest p a b x y pa.1 pb.1 (ap after_first same) sx sy

space_not_bare : (b : ℕ) → is_space b ≡ true → is_bare b ≡ false
space_not_bare b space = rw space refl

stops_word : (rest : List ℕ) → EndsWord rest → Stops is_bare rest
unfolding Stops
stops_word [] ends = tt
stops_word (b ∷ rest) ends = space_not_bare b ends

stops_bare : (rest : List ℕ) → EndsBare rest → Stops is_bare rest
unfolding Stops
stops_bare [] ends = tt
stops_bare (b ∷ rest) ends = ends

quote_not_bare : (q : Quote) → is_bare (quote_byte q) ≡ false
quote_not_bare Double = refl
quote_not_bare Single = refl

quote_no_space : (q : Quote) → is_space (quote_byte q) ≡ false
quote_no_space Double = refl
quote_no_space Single = refl

same_quote : (q q' : Quote) → quote_byte q ≡ quote_byte q' → q ≡ q'
same_quote Double Double is = refl
same_quote Single Single is = refl
same_quote Double Single is = absurd (omega (arith, is))
same_quote Single Double is = absurd (omega (arith, is))

stops_mid : (word text rest : List ℕ) → (is : IsWord word text rest) → Stops is_bare is.mid
unfolding Stops
stops_mid word text rest is = go is.read
  where
    go : ((is.quoted ≡ []) × (rest ≡ is.mid) × EndsWord rest) ⊎ (ReadsQuoted is.quoted is.mid rest × EndsQuote rest) → Stops is_bare is.mid
    go (inl (none, same, ends)) = subst (Stops is_bare) same (stops_word rest ends)
    go (inr ((q, inside, opens, read), ends)) = subst (Stops is_bare) (sym opens) (quote_not_bare q)

mid_is : (word text end bare rest : List ℕ) → (is : IsWord word text end) → AllByRecursion (λ b. is_bare b ≡ true) bare → text ≡ bare ++ rest →
    EndsBare rest → is.mid ≡ rest
mid_is word text end bare rest is are parts ends =
    span_rest is_bare is.bare bare is.mid rest is.are_bare are (sym is.begins ∙ parts) (stops_mid word text end is) (stops_bare rest ends)

pub ends_empty : (rest : List ℕ) → length rest ≡ 0 → EndsWord rest
ends_empty [] none = tt
ends_empty (b ∷ rest) none = absurd (omega (arith, none))

-- a word that no quote follows
pub bare_only : (text rest word word' : List ℕ) → ((bare : List ℕ) × (word' ≡ word ++ bare) × AllByRecursion (λ b. is_bare b ≡ true) bare × (text ≡ bare ++ rest)) →
    EndsBare rest → EndsWord rest → (other end : List ℕ) → IsWord other text end → end ≡ rest
bare_only text rest word word' (bare, made, are, parts) stops ends other end is = go is.read
  where
    mid : is.mid ≡ rest
    mid = mid_is other text end bare rest is are parts stops

    go : ((is.quoted ≡ []) × (end ≡ is.mid) × EndsWord end) ⊎ (ReadsQuoted is.quoted is.mid end × EndsQuote end) → end ≡ rest
    go (inl (none, same, stop)) = same ∙ mid
    go (inr ((q, inside, opens, read), stop)) = absurd (false_true (is_space (quote_byte q)) (quote_no_space q) (subst EndsWord (sym mid ∙ opens) ends))

-- what a quoted text leads to, and whether it leads anywhere
abbrev pub OnlyQuoted : List ℕ → Option (Bor (List ℕ)) → Type 0
OnlyQuoted mid after = IfSome after (λ a. (content end : List ℕ) → ReadsQuoted content mid end → end ≡ a.now) ×
    IfNone after ((content end : List ℕ) → ReadsQuoted content mid end → ⊥)

inside_quotes : (P : List ℕ → Type 0) (q : Quote) (mid inside : List ℕ) → mid ≡ quote_byte q ∷ inside →
    ((content end : List ℕ) → ReadsUpTo q content inside end → P end) → (content end : List ℕ) → ReadsQuoted content mid end → P end
inside_quotes P q mid inside opens given content end (q', inside', quote, read) =
    let same = same_quote q' q (ap head_of (sym quote ∙ opens)) in
    given content end (subst (λ z. ReadsUpTo q content z end) (ap after_first (sym quote ∙ opens)) (subst (λ z. ReadsUpTo z content inside' end) same read))

pub only_quoted : (q : Quote) (mid inside : List ℕ) (after : Option (Bor (List ℕ))) → mid ≡ quote_byte q ∷ inside →
    IfSome after (λ a. (content end : List ℕ) → ReadsUpTo q content inside end → end ≡ a.now) →
    IfNone after ((content end : List ℕ) → ReadsUpTo q content inside end → ⊥) → OnlyQuoted mid after
only_quoted q mid inside (Some a) opens only opened = (inside_quotes (λ end. end ≡ a.now) q mid inside opens only, tt)
only_quoted q mid inside None opens only opened = (tt, inside_quotes (λ end. ⊥) q mid inside opens opened)

-- a word whose text in quotes begins where the bytes without quotes end
word_quoted : (P : List ℕ → Type 0) (text mid inside bare : List ℕ) (q : Quote) → AllByRecursion (λ b. is_bare b ≡ true) bare → text ≡ bare ++ mid → EndsBare mid →
    mid ≡ quote_byte q ∷ inside → ((content end : List ℕ) → ReadsQuoted content mid end → EndsQuote end → P end) →
    (other end : List ℕ) → IsWord other text end → P end
word_quoted P text mid inside bare q are parts stops opens given other end is = go is.read
  where
    same : is.mid ≡ mid
    same = mid_is other text end bare mid is are parts stops

    go : ((is.quoted ≡ []) × (end ≡ is.mid) × EndsWord end) ⊎ (ReadsQuoted is.quoted is.mid end × EndsQuote end) → P end
    go (inl (none, at, ends)) = absurd (false_true (is_space (quote_byte q)) (quote_no_space q) (subst EndsWord (at ∙ same ∙ opens) ends))
    go (inr (read, ends)) = given is.quoted end (subst (λ z. ReadsQuoted is.quoted z end) same read) ends

pub quoted_only : (text mid inside word word' : List ℕ) (q : Quote) (after : Option (Bor (List ℕ))) (end : WordEnd) →
    ((bare : List ℕ) × (word' ≡ word ++ bare) × AllByRecursion (λ b. is_bare b ≡ true) bare × (text ≡ bare ++ mid)) → EndsBare mid →
    mid ≡ quote_byte q ∷ inside → OnlyQuoted mid after →
    IfSome after (λ bytes. IfEnded (λ rest. (rest ≡ bytes.now) × EndsQuote rest) end) → IfNone after (IfEnded (λ _. ⊥) end) →
    IfEnded (λ rest. (other stop : List ℕ) → IsWord other text stop → stop ≡ rest) end
quoted_only text mid inside word word' q (Some a) (Ended rest) (bare, made, are, parts) stops opens only closed none =
    word_quoted (λ stop. stop ≡ rest.now) text mid inside bare q are parts stops opens
    (λ content stop read ends. only.0 content stop read ∙ sym closed.0)
quoted_only text mid inside word word' q None (Ended rest) all stops opens only closed none = absurd none
quoted_only text mid inside word word' q after (Open count) all stops opens only closed none = tt
quoted_only text mid inside word word' q after (NoSpace rest) all stops opens only closed none = tt

pub quoted_none : (text mid inside word word' : List ℕ) (q : Quote) (after : Option (Bor (List ℕ))) (end : WordEnd) →
    ((bare : List ℕ) × (word' ≡ word ++ bare) × AllByRecursion (λ b. is_bare b ≡ true) bare × (text ≡ bare ++ mid)) → EndsBare mid →
    mid ≡ quote_byte q ∷ inside → OnlyQuoted mid after → IfSome after (λ bytes. UnlessEnded (EndsQuote bytes.now → ⊥) end) →
    UnlessEnded ((other stop : List ℕ) → IsWord other text stop → ⊥) end
quoted_none text mid inside word word' q after (Ended rest) all stops opens only glued = tt
quoted_none text mid inside word word' q None (Open count) (bare, made, are, parts) stops opens only glued =
    word_quoted (λ stop. ⊥) text mid inside bare q are parts stops opens (λ content stop read ends. only.1 content stop read)
quoted_none text mid inside word word' q None (NoSpace rest) (bare, made, are, parts) stops opens only glued =
    word_quoted (λ stop. ⊥) text mid inside bare q are parts stops opens (λ content stop read ends. only.1 content stop read)
quoted_none text mid inside word word' q (Some a) (Open count) (bare, made, are, parts) stops opens only glued =
    word_quoted (λ stop. ⊥) text mid inside bare q are parts stops opens
    (λ content stop read ends. glued (subst EndsQuote (only.0 content stop read) ends))
quoted_none text mid inside word word' q (Some a) (NoSpace rest) (bare, made, are, parts) stops opens only glued =
    word_quoted (λ stop. ⊥) text mid inside bare q are parts stops opens
    (λ content stop read ends. glued (subst EndsQuote (only.0 content stop read) ends))

starts_text : (rest : List ℕ) → StartsWord rest → Stops is_blank rest
unfolding Stops
starts_text [] starts = tt
starts_text (b ∷ rest) starts = starts

-- a word begins with no blank
starts_word : (word text rest : List ℕ) → IsWord word text rest → Stops is_blank text
starts_word word text rest is = starts_text text is.starts

-- the words after the blanks
word_at : (after rest : List ℕ) (words : List (List ℕ)) → FollowsBlanks after rest → StartsWord rest → AreWords words after →
    (word : List ℕ) × (more : List (List ℕ)) × (end : List ℕ) × IsWord word rest end × AreWords more end
word_at after [] words blanks starts given = absurd starts
word_at after (b ∷ rest) [] (blanks, parts, are) starts given =
    absurd (false_true (is_blank b) starts (last_blank blanks (subst (AllByRecursion (λ c. is_blank c ≡ true)) parts given)))
  where
    last_blank : (blanks : List ℕ) → AllByRecursion (λ c. is_blank c ≡ true) (blanks ++ b ∷ rest) → is_blank b ≡ true
    last_blank [] all = all.0
    last_blank (c ∷ blanks) all = last_blank blanks all.1
word_at after (b ∷ rest) (word ∷ words) (blanks, parts, are) starts (blanks', mid, end, parts', are', is, given) =
    let same = span_rest is_blank blanks' blanks mid (b ∷ rest) are' are (sym parts' ∙ parts) (starts_word word mid end is) (starts_text (b ∷ rest) starts) in
    (word, words, end, subst (λ z. IsWord word z end) same is, given)

pub words_through : (line after rest after' : List ℕ) → FollowsBlanks after rest → StartsWord rest →
    ((words : List (List ℕ)) → AreWords words line → (more : List (List ℕ)) × AreWords more after) →
    ((other end : List ℕ) → IsWord other rest end → end ≡ after') →
    (words : List (List ℕ)) → AreWords words line → (more : List (List ℕ)) × AreWords more after'
words_through line after rest after' blanks starts through only words given =
    let (more, read) = through words given in
    let (word, others, end, is, left) = word_at after rest more blanks starts read in
    (others, subst (AreWords others) (only word end is) left)

pub no_words : (line after rest : List ℕ) → FollowsBlanks after rest → StartsWord rest →
    ((words : List (List ℕ)) → AreWords words line → (more : List (List ℕ)) × AreWords more after) →
    ((other end : List ℕ) → IsWord other rest end → ⊥) → (words : List (List ℕ)) → AreWords words line → ⊥
no_words line after rest blanks starts through none words given =
    let (more, read) = through words given in
    let (word, others, end, is, left) = word_at after rest more blanks starts read in
    none word end is
