-- The kept part of a value tells of the value what replies are paired by.
use Rattle.std.proofs.Common.{◌≡◌, ◌∙◌, ℕ, suc, zero, ◌≤◌, ◌||◌, ◌&&◌, Bool, true, false, List, [], ◌∷◌, ◌++◌, length, take, map, max, ◌+◌, Option, refl, sym, ap, subst, arith, codes}
use Rattle.std.specs.Prelude.{None, Some, if◌then◌else◌, nat_eq}
use Rattle.std.specs.Char.{to_ascii_lowercase}
use Rattle.std.specs.Option.{ForSome}
use Rattle.std.specs.Str.{bytes_eq}
use Rattle.std.proofs.lemmas.List.{take-map}
use Rattle.resp_value.specs.Cuts.{IsCutOf, cut, cut_each}
use Rattle.resp_value.specs.declared.cut_value.CutValue.{CutValue}
use Rattle.resp_value.proofs.Cutting.{short_texts_are_kept}
use Rattle.resp_value.specs.Attributes.{annotated_value, without_attributes}
use Rattle.resp_value.specs.Bounds.{AreBounds}
use Rattle.resp_value.specs.Data.{Datum, Data, Array, Set, Map, Attr, Push, scalar, aggregate, none, more, depth, greatest_depth, longest}
use Rattle.resp_value.specs.Rules.{Rules, WithinLength}
use Rattle.resp_value.specs.Spellings.{IsSpelling}
use Rattle.resp_value.specs.Values.{datum_of}
use Rattle.resp_session.specs.Heard.{is_push}
use Rattle.resp_session.specs.Operations.{is_name}
use Rattle.resp_session.specs.Reading.{is_error, is_refusal}
use Rattle.resp_tap.specs.KeptLaws.{KeptPartsTellTheSame}
use Rattle.resp_tap.specs.Kinds.{verb_named}
use Rattle.resp_tap.specs.Lines.{LineState, after_due, after_reply, is_free, is_listening, is_notification, line_after, number_by_due, number_for}
use Rattle.resp_tap.specs.Notices.{is_message_word, members_by, notice_in, notice_of, three_by}
use Rattle.resp_tap.specs.Parts.{IsKeptOf, cut_within, kept_bytes}
use Rattle.resp_tap.specs.SeenOf.{ToldAs}
use Rattle.resp_tap.specs.Taps.{TapState, tap_state, with_value}
use Rattle.resp_tap.specs.Watching.{HasTakenValue, HearsValue, SeesValue, value_rules}
use Rattle.resp_tap.specs.declared.kind.CommandKind.{CommandKind}
use Rattle.resp_tap.specs.declared.kind.Verb.{Verb}
use Rattle.resp_tap.specs.declared.kind.Verb.TheVariants.{Subscribe, Unsubscribe, Psubscribe, Punsubscribe, Ssubscribe, Sunsubscribe}
use Rattle.resp_tap.specs.declared.line.Due.{Due}
use Rattle.resp_tap.specs.declared.notice.Notice.{Notice}
use Rattle.resp_tap.specs.declared.notice.Notice.TheVariants as notice
use Rattle.resp_tap.specs.declared.seen.Seen.{Seen}
use Rattle.resp_tap.specs.declared.seen.Seen.TheVariants as seen
use Rattle.resp_tap.specs.declared.side_reader.SideReader.{SideReader}
use Rattle.resp_tap.specs.declared.tap.Tap.{Tap}

-- ---- words

-- the first n + 1 bytes of a text are a word of at most n bytes exactly if the text is
pub same_word : (n : ℕ) (text word : List ℕ) → length word ≤ n → bytes_eq (take (suc n) text) word ≡ bytes_eq text word
same_word n [] word few = refl
same_word n (x ∷ xs) [] few = refl
same_word zero (x ∷ xs) (y ∷ ys) few = absurd (omega (arith, few))
same_word (suc n) (x ∷ xs) (y ∷ ys) few = ap (λ b. nat_eq x y && b) (same_word n xs ys (omega (arith, few)))

pub same_name : (n : ℕ) (name word : List ℕ) → length name ≤ n → is_name name (take (suc n) word) ≡ is_name name word
same_name n name word few =
    ap (λ w. bytes_eq w name) (sym (take-map to_ascii_lowercase (suc n) word)) ∙ same_word n (map to_ascii_lowercase word) name few

abbrev verb_by : Bool → Bool → Bool → Bool → Bool → Bool → Option Verb
verb_by a b c e f g =
    if a then Some Subscribe else
    if b then Some Unsubscribe else
    if c then Some Psubscribe else
    if e then Some Punsubscribe else
    if f then Some Ssubscribe else
    if g then Some Sunsubscribe else
    None

pub same_verb_named : (n : ℕ) (word : List ℕ) → 12 ≤ n → verb_named (take (suc n) word) ≡ verb_named word
same_verb_named n word enough = λ i. verb_by
    (same_name n (codes "subscribe") word (omega (arith, enough)) i)
    (same_name n (codes "unsubscribe") word (omega (arith, enough)) i)
    (same_name n (codes "psubscribe") word (omega (arith, enough)) i)
    (same_name n (codes "punsubscribe") word (omega (arith, enough)) i)
    (same_name n (codes "ssubscribe") word (omega (arith, enough)) i)
    (same_name n (codes "sunsubscribe") word (omega (arith, enough)) i)

same_message_word : (n : ℕ) (word : List ℕ) → 12 ≤ n → is_message_word (take (suc n) word) ≡ is_message_word word
same_message_word n word enough = λ i.
    same_word n word (codes "message") (omega (arith, enough)) i ||
    same_word n word (codes "pmessage") (omega (arith, enough)) i ||
    same_word n word (codes "smessage") (omega (arith, enough)) i

-- ---- notices

three_kept : (n : ℕ) (word : List ℕ) (last : Datum) → three_by word (cut n last) ≡ three_by word last
three_kept n word last = grind arith

-- the notice of three members depends on their first word by what the word is
abbrev notice_by : Bool → Notice
notice_by b = if b then notice.Message else notice.Other

three_word : (word other : List ℕ) (last : Datum) → verb_named word ≡ verb_named other → is_message_word word ≡ is_message_word other →
    three_by word last ≡ three_by other last
three_word word other last verb message = grind arith

members_kept : (n : ℕ) (word : List ℕ) (xs : Data) → 12 ≤ n → members_by (take (suc n) word) (cut_each n xs) ≡ members_by word xs
members_kept n word none enough = ap notice_by (same_message_word n word enough)
members_kept n word (more x none) enough = ap notice_by (same_message_word n word enough)
members_kept n word (more x (more last none)) enough =
    three_kept n (take (suc n) word) last ∙
    three_word (take (suc n) word) word last (same_verb_named n word enough) (same_message_word n word enough)
members_kept n word (more x (more y (more z zs))) enough = ap notice_by (same_message_word n word enough)

notice_in_kept : (n : ℕ) (xs : Data) → 12 ≤ n → notice_in (cut_each n xs) ≡ notice_in xs
notice_in_kept n xs enough = grind (arith, members_kept)

notice_kept : (n : ℕ) (x : Datum) → 12 ≤ n → notice_of (cut n x) ≡ notice_of x
notice_kept n x enough = grind (arith, notice_in_kept, same_word)

-- ---- types

push_kept : (n : ℕ) (x : Datum) → is_push (cut n x) ≡ is_push x
push_kept n x = grind arith

mutual
  pub plain_kept : (n : ℕ) (x : Datum) → without_attributes (cut n x) ≡ cut n (without_attributes x)
  plain_kept n (scalar s) = refl
  plain_kept n (aggregate Array xs) = refl
  plain_kept n (aggregate Set xs) = refl
  plain_kept n (aggregate Map xs) = refl
  plain_kept n (aggregate Attr xs) = annotated_kept n xs
  plain_kept n (aggregate Push xs) = refl

  annotated_kept : (n : ℕ) (xs : Data) → annotated_value (cut_each n xs) ≡ cut n (annotated_value xs)
  annotated_kept n none = refl
  annotated_kept n (more x none) = plain_kept n x
  annotated_kept n (more x (more y ys)) = annotated_kept n (more y ys)

error_kept : (n : ℕ) (x : Datum) → is_error (cut n x) ≡ is_error x
error_kept n x = grind arith

refusal_kept : (n : ℕ) (x : Datum) → is_refusal (cut n x) ≡ is_refusal x
refusal_kept n x = ap is_error (plain_kept n x) ∙ error_kept n (without_attributes x)

-- ---- the line

reply_kept : (n : ℕ) (l : LineState) (kind : CommandKind) (due : List Due) (what : Notice) (x : Datum) →
    after_reply l kind due what (cut n x) ≡ after_reply l kind due what x
reply_kept n l kind due what x = grind (arith, refusal_kept n x)

due_kept : (n : ℕ) (l : LineState) (due : List Due) (what : Notice) (free : Bool) (x : Datum) → after_due l due what free (cut n x) ≡ after_due l due what free x
due_kept n l due what free x = grind (arith, reply_kept)

after_kept : (n : ℕ) (l : LineState) (x : Datum) → 12 ≤ n → line_after l (cut n x) ≡ line_after l x
after_kept n l x enough =
    (λ i. if l.is_lost then l else after_due l l.due (notice_kept n x enough i)
    (push_kept n x i || (is_listening l && is_notification (notice_kept n x enough i))) (cut n x)) ∙
    ap (λ z. if l.is_lost then l else z) (due_kept n l l.due (notice_of x) (is_free l x) x)

number_kept : (n : ℕ) (l : LineState) (x : Datum) → 12 ≤ n → number_for l (cut n x) ≡ number_for l x
number_kept n l x enough =
    λ i. if l.is_lost then None else number_by_due l.due (notice_kept n x enough i)
    (push_kept n x i || (is_listening l && is_notification (notice_kept n x enough i))) (push_kept n x i)

-- ---- the same of what is kept

same_push : (most : Option ℕ) (x : Datum) → is_push (cut_within most x) ≡ is_push x
same_push None x = refl
same_push (Some n) x = push_kept n x

same_refusal : (most : Option ℕ) (x : Datum) → is_refusal (cut_within most x) ≡ is_refusal x
same_refusal None x = refl
same_refusal (Some n) x = refusal_kept n x

same_line : (most : Option ℕ) (l : LineState) (x : Datum) → ForSome most (λ n. 12 ≤ n) → line_after l (cut_within most x) ≡ line_after l x
same_line None l x enough = refl
same_line (Some n) l x enough = after_kept n l x (enough n refl)

same_number : (most : Option ℕ) (l : LineState) (x : Datum) → ForSome most (λ n. 12 ≤ n) → number_for l (cut_within most x) ≡ number_for l x
same_number None l x enough = refl
same_number (Some n) l x enough = number_kept n l x (enough n refl)

mutual
  depth_kept : (n : ℕ) (x : Datum) → depth (cut n x) ≡ depth x
  depth_kept n (scalar s) = refl
  depth_kept n (aggregate k xs) = ap (λ (m : ℕ). m + 1) (depth_each_kept n xs)

  depth_each_kept : (n : ℕ) (xs : Data) → greatest_depth (cut_each n xs) ≡ greatest_depth xs
  depth_each_kept n none = refl
  depth_each_kept n (more x xs) = λ i. max (depth_kept n x i) (depth_each_kept n xs i)

same_depth : (most : Option ℕ) (x : Datum) → depth (cut_within most x) ≡ depth x
same_depth None x = refl
same_depth (Some n) x = depth_kept n x

pub kept_parts_tell_the_same : KeptPartsTellTheSame
kept_parts_tell_the_same most whole kept is = (ap is_refusal is.value ∙ same_refusal most whole, ap depth is.value ∙ same_depth most whole)

-- a value that was read has no text of 2^64 bytes
longest_read : (r : Rules) (x : Datum) (text : List ℕ) → IsSpelling r x text → AreBounds r.limits → longest x ≤ 18446744073709551615
longest_read r x text spelled bounds =
    let within : longest x ≤ r.limits.length = subst (λ y. longest y ≤ r.limits.length) spelled.valued (spelled.keeps WithinLength (omega arith)) in
    let few : r.limits.length ≤ 1073741824 = bounds.length_in_range.1 in
    omega (arith, within, few)

-- what a decoder keeps that is told how many bytes are shown
pub kept_of : (most : Option ℕ) (r : Rules) (whole : Datum) (text : List ℕ) (kept : CutValue) → IsSpelling r whole text → AreBounds r.limits →
    IsCutOf (kept_bytes most) whole kept → IsKeptOf most whole kept
kept_of None r whole text kept spelled bounds is =
    let short = short_texts_are_kept 18446744073709551615 whole (longest_read r whole text spelled bounds) in
    record { value = is.value ∙ short.0; lengths = is.lengths ∙ short.1 }
kept_of (Some n) r whole text kept spelled bounds is = record { value = is.value; lengths = is.lengths }

-- the state stays the same if a reader only read bytes
pub state_of_values : (s : TapState) (values : SideReader) → values.version ≡ s.reading → values.shown.most ≡ s.shown → values.is_reading ≡ s.reads_replies →
    record s { shown = values.shown.most; reading = values.version; reads_replies = values.is_reading } ≡ s
state_of_values s values version shown reading = λ i. record s { shown = shown i; reading = version i; reads_replies = reading i }

-- ---- a value of the server

-- a value of which this is kept, which is a push or not, and belongs to this command by what is kept
hears : (s : TapState) (new : Tap) (written : List ℕ) (kept : CutValue) (whole : Datum) (push : Bool) (number : Option ℕ) →
    IsSpelling (value_rules s) whole written → IsKeptOf s.shown whole kept → ForSome s.shown (λ n. 12 ≤ n) →
    tap_state new ≡ with_value (datum_of kept.value) s → HasTakenValue new [] → is_push (datum_of kept.value) ≡ push →
    number_for s.line (datum_of kept.value) ≡ number → HearsValue s new written kept push number
hears s new written kept whole push number spelled is enough after takes is_pushed is_numbered = record {
  whole = whole;
  spelled = spelled;
  is_kept = is;
  pushed = sym (ap is_push is.value ∙ same_push s.shown whole) ∙ is_pushed;
  numbered = sym (ap (number_for s.line) is.value ∙ same_number s.shown s.line whole enough) ∙ is_numbered;
  after = after ∙ ap (λ l. record s { line = l }) (ap (line_after s.line) is.value ∙ same_line s.shown s.line whole enough);
  takes = takes;
}

pub sees_told : (s : TapState) (new : Tap) (front piece : List ℕ) (used : ℕ) (kept : CutValue) (whole : Datum) (what : Seen) →
    IsSpelling (value_rules s) whole (front ++ take used piece) → IsKeptOf s.shown whole kept → ForSome s.shown (λ n. 12 ≤ n) →
    tap_state new ≡ with_value (datum_of kept.value) s → HasTakenValue new [] → ToldAs (number_for s.line (datum_of kept.value)) kept what →
    SeesValue s new front piece used what
sees_told s new front piece used kept whole (seen.Reply number told) spelled is enough after takes h =
    subst (λ k. HearsValue s new (front ++ take used piece) k false (Some number)) (sym h.0)
    (hears s new (front ++ take used piece) kept whole false (Some number) spelled is enough after takes h.2 h.1)
sees_told s new front piece used kept whole (seen.Push members lengths) spelled is enough after takes h =
    subst (λ k. HearsValue s new (front ++ take used piece) k true None) (sym h.0)
    (hears s new (front ++ take used piece) kept whole true None spelled is enough after takes (ap (λ k. is_push (datum_of k.value)) (sym h.0)) h.1)
sees_told s new front piece used kept whole (seen.Value told) spelled is enough after takes h =
    subst (λ k. HearsValue s new (front ++ take used piece) k false None) (sym h.0)
    (hears s new (front ++ take used piece) kept whole false None spelled is enough after takes h.1 h.2)
sees_told s new front piece used kept whole seen.Nothing spelled is enough after takes h = absurd h
sees_told s new front piece used kept whole seen.Passed spelled is enough after takes h = absurd h
sees_told s new front piece used kept whole (seen.Command number words lengths) spelled is enough after takes h = absurd h
sees_told s new front piece used kept whole (seen.NotCommand number) spelled is enough after takes h = absurd h
sees_told s new front piece used kept whole (seen.Refused cause at where') spelled is enough after takes h = absurd h
