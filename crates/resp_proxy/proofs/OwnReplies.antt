-- The replies of the proxy itself, and the commands that have them.
use Rattle.std.proofs.Common.{Global, Vec, ◌≡◌, ◌∙◌, ◌⊎◌, inl, inr, ℕ, zero, suc, ◌<◌, ◌^◌, ◌==◌, pos, Bool, true, false, List, [], ◌∷◌, ◌++◌, codes, length, map, get_or, Option, None, Some, Result, Ok, Err, ap, arith, refl, subst, sym}
use Rattle.std.proofs.lemmas.Bool.{false≢true, ltb-true}
use Rattle.std.proofs.lemmas.List.Elements.{All-contains}
use Rattle.std.proofs.lemmas.Slice.Eq.{bytes_eq-Decides}
use Rattle.std.specs.Char.{to_ascii_lowercase}
use Rattle.std.specs.List.{list_all}
use Rattle.std.specs.Prelude.{IfOk, IfSome, if◌then◌else◌, not, ◌&&◌, nat_lt}
use Rattle.std.specs.Fmt as fmt
use Rattle.std.specs.Str.{byte, bytes_eq, str_to_ascii_lowercase}
use Rattle.resp_commands.specs.declared.command.Class.{Class}
use Rattle.resp_commands.specs.declared.command.Class.TheVariants as class
use Rattle.resp_commands.specs.declared.table.TheConstants.{COMMANDS}
use Rattle.resp_commands.specs.Names.{HasName, IsUnknown}
use Rattle.resp_proxy.specs.Hellos.{own_reply}
use Rattle.resp_proxy.specs.Leaving.{IsForOwn, MayNeedOwn}
use Rattle.resp_proxy.specs.OwnReplies.{ClosesHttp, IsListed, IsReply, IsReplyOf, NeedsAnother, Quits, Says, SaysName, SaysNumber, SaysUnknown, Treatment, client_treatment, error, hello_treatment, keeps_by_hello, keeps_by_select, moves, name_datum, ok, on_line, select_treatment, setname_treatment, setting_treatment, shared_treatment, treatment, unshared_treatment, with_words, wrong_count}
use Rattle.resp_proxy.specs.Reasons.{Closes, FitsAnswer, IsNoneLeft, Reacts}
use Rattle.resp_proxy.specs.Refusing.{SameLetters}
use Rattle.resp_proxy.specs.Taking.{IsLocalReply}
use Rattle.resp_scan.specs.Whole.{BeginsWith}
use Rattle.resp_value.specs.Bounds.{Bounds}
use Rattle.resp_proxy.specs.declared.answer.Answer.{Answer}
use Rattle.resp_proxy.specs.declared.answer.Answer.TheVariants as answer
use Rattle.resp_proxy.specs.declared.route.Route.{Route}
use Rattle.resp_frames.specs.Keys.{IsFirst}
use Rattle.std.specs.Borrow.{Bor}
use Rattle.std.specs.declared.alloc.AllocError.{AllocError}
use Rattle.resp_session.specs.Operations.{is_name}
use Rattle.resp_value.proofs.CanonicalTrees.{decimal_is_digits, decimal_is_number}
use Rattle.resp_value.proofs.StdDigits.{decimal-std}
use Rattle.resp_value.specs.Bytes.{IsLine, IsPlain, IsText}
use Rattle.resp_value.specs.Canonical.{canonical_text, canonical_tree}
use Rattle.resp_value.specs.Data.{scalar}
use Rattle.resp_value.specs.Data as d
use Rattle.resp_value.specs.Numbers.{decimal}
use Rattle.resp_value.specs.Rules.{HasVersion}
use Rattle.resp_value.specs.Trees.{Bulk, IsLeaf, Tree, string}
use Rattle.resp_value.specs.Words.{command_of, word_datum}
use Rattle.resp_value.specs.declared.version.Version.{Version}
use Rattle.resp_value.specs.declared.version.Version.TheVariants.{Two, Three}

-- version 3 has what version 2 has
in-version : (version : Version) (t : Tree) → HasVersion Two t → HasVersion version t
in-version Two t has = has
in-version Three t has = tt

-- numbers below 256 at each index are bytes
pub is-text : (bytes : List ℕ) → ((k : ℕ) → get_or bytes k 0 < 256) → IsText bytes
is-text [] each = tt
is-text (b ∷ bytes) each = (each zero, is-text bytes (λ k. each (suc k)))

on-line-is-byte : (b : ℕ) → b < 256 → on_line b < 256
on-line-is-byte b small = grind arith

on-line-is-plain : (b : ℕ) → IsPlain (on_line b)
on-line-is-plain b = grind arith

line-is-text : (message : List ℕ) → IsText message → IsText (map on_line message)
line-is-text [] text = tt
line-is-text (b ∷ message) text = (on-line-is-byte b text.0, line-is-text message text.1)

line-is-line : (message : List ℕ) → IsLine (map on_line message)
line-is-line [] = tt
line-is-line (b ∷ message) = (on-line-is-plain b, line-is-line message)

-- an error of this message, without CR and LF
pub error-reply : (message text : List ℕ) → IsText message → text ≡ codes "-" ++ map on_line message ++ codes "\r\n" →
    (version : Version) → IsReply version (error (map on_line message)) text
error-reply message text bytes is version = record {
  written = is;
  is_tree = (line-is-line message, line-is-text message bytes, tt);
  in_version = in-version version (canonical_tree version (error (map on_line message))) tt;
  no_push = tt;
}

-- a constant that is neither CR nor LF
plain : (b : ℕ) → (b == byte "\r") ≡ false → (b == byte "\n") ≡ false → IsPlain b
plain b cr lf = (λ is. false≢true (sym cr ∙ ap (λ x. x == byte "\r") is), λ is. false≢true (sym lf ∙ ap (λ x. x == byte "\n") is))

and-both : (a b : Bool) → (a && b) ≡ true → (a ≡ true) × (b ≡ true)
and-both true b is = (refl, is)
and-both false b is = absurd (false≢true is)

-- constants below 256
text-by-test : (bytes : List ℕ) → list_all (λ b. nat_lt b 256) bytes ≡ true → IsText bytes
text-by-test [] small = tt
text-by-test (b ∷ bytes) small =
    let both = and-both (nat_lt b 256) (list_all (λ x. nat_lt x 256) bytes) small in (ltb-true b 256 both.0, text-by-test bytes both.1)

-- `+OK`
pub ok-reply : (text : List ℕ) → text ≡ codes "+OK\r\n" → (version : Version) → IsReply version ok text
ok-reply text is version = record {
  written = is;
  is_tree = ((plain (byte "O") refl refl, (plain (byte "K") refl refl, tt)), text-by-test (codes "OK") refl, tt);
  in_version = in-version version (canonical_tree version ok) tt;
  no_push = tt;
}

-- `+PONG`
pub pong-reply : (text : List ℕ) → text ≡ codes "+PONG\r\n" → (version : Version) → IsReply version (scalar (d.Simple (codes "PONG"))) text
pong-reply text is version = record {
  written = is;
  is_tree = (
    (plain (byte "P") refl refl, (plain (byte "O") refl refl, (plain (byte "N") refl refl, (plain (byte "G") refl refl, tt)))),
    text-by-test (codes "PONG") refl,
    tt,
  );
  in_version = in-version version (canonical_tree version (scalar (d.Simple (codes "PONG")))) tt;
  no_push = tt;
}

-- null
pub null-reply : (version : Version) (text : List ℕ) → text ≡ canonical_text version (scalar d.Null) → IsReply version (scalar d.Null) text
null-reply Two text is = record { written = is; is_tree = tt; in_version = tt; no_push = tt }
null-reply Three text is = record { written = is; is_tree = tt; in_version = tt; no_push = tt }

-- no name is null
pub no-name : (name : List ℕ) → name ≡ [] → name_datum name ≡ scalar d.Null
no-name name is = ap name_datum is

-- a name is a bulk string
pub some-name : (name : List ℕ) → (name ≡ [] → ⊥) → name_datum name ≡ word_datum name
some-name [] some = absurd (some refl)
some-name (b ∷ name) some = refl

-- a number as std prints it
pub number-reply : (number : ℕ) (text : List ℕ) → number < 2 ^ 64 → text ≡ codes ":" ++ fmt.decimal number ++ codes "\r\n" → (version : Version) →
    IsReply version (scalar (d.Int (pos number))) text
number-reply number text fits is version = record {
  written = is ∙ ap (λ digits. codes ":" ++ digits ++ codes "\r\n") (decimal-std number fits);
  is_tree = decimal_is_digits number;
  in_version = in-version version (canonical_tree version (scalar (d.Int (pos number)))) tt;
  no_push = tt;
}

-- a bulk string
pub bulk-reply : (bytes text : List ℕ) → IsText bytes → text ≡ canonical_text Two (word_datum bytes) → (version : Version) →
    IsReply version (word_datum bytes) text
bulk-reply bytes text is_text is version = record {
  written = is;
  is_tree = (decimal_is_number (length bytes), tt, is_text);
  in_version = in-version version (canonical_tree version (word_datum bytes)) tt;
  no_push = tt;
}

-- one of two values
if-two : {A : Type 0} (b : Bool) (x y z : A) → (if b then x else y) ≡ z → ((b ≡ true) × (x ≡ z)) ⊎ ((b ≡ false) × (y ≡ z))
if-two true x y z is = inl (refl, is)
if-two false x y z is = inr (refl, is)

-- what is true of both values is true of one of them
if-both : (P : Treatment → Type 0) (b : Bool) (x y : Treatment) → P x → P y → P (if b then x else y)
if-both P true x y p q = p
if-both P false x y p q = q

-- the client stays open, and on its line
abbrev KeepsClient : Treatment → Type 0
KeepsClient Quits = ⊥
KeepsClient ClosesHttp = ⊥
KeepsClient NeedsAnother = ⊥
KeepsClient _ = Unit {0}

-- the client is not closed because of QUIT or HTTP
abbrev IsNoEnd : Treatment → Type 0
IsNoEnd Quits = ⊥
IsNoEnd ClosesHttp = ⊥
IsNoEnd _ = Unit {0}

keeps-setname : (words : List (List ℕ)) → KeepsClient (setname_treatment words)
keeps-setname [] = tt
keeps-setname (name ∷ []) = tt
keeps-setname (name ∷ word ∷ words) = tt

keeps-with : (count : ℕ) (words : List (List ℕ)) (t : Treatment) → KeepsClient t → KeepsClient (with_words count words t)
keeps-with count words t keeps = if-both KeepsClient (length words == count) t wrong_count keeps tt

keeps-client : (words : List (List ℕ)) → KeepsClient (client_treatment words)
keeps-client [] = tt
keeps-client (word ∷ words) =
    if-both KeepsClient (is_name (codes "id") word) _ _ (keeps-with 0 words SaysNumber tt)
    (if-both KeepsClient (is_name (codes "getname") word) _ _ (keeps-with 0 words SaysName tt)
    (if-both KeepsClient (is_name (codes "setname") word) _ _ (keeps-setname words)
    (if-both KeepsClient (is_name (codes "setinfo") word) _ _ (keeps-with 2 words (Says ok) tt)
    (if-both KeepsClient (is_name (codes "no-evict") word) _ _ (keeps-with 1 words (Says ok) tt) tt))))

keeps-outside : (name : List ℕ) (words : List (List ℕ)) → KeepsClient (
    if is_name (codes "client") name then client_treatment words else
    if is_name (codes "exec") name then Says (error (codes "ERR EXEC without MULTI")) else
    if is_name (codes "discard") name then Says (error (codes "ERR DISCARD without MULTI")) else
    Says ok)
keeps-outside name words =
    if-both KeepsClient (is_name (codes "client") name) _ _ (keeps-client words)
    (if-both KeepsClient (is_name (codes "exec") name) _ _ tt
    (if-both KeepsClient (is_name (codes "discard") name) _ _ tt tt))

keeps-unlisted : (name : List ℕ) (words : List (List ℕ)) →
    KeepsClient (if is_name (codes "client") name then client_treatment words else SaysUnknown)
keeps-unlisted name words = if-both KeepsClient (is_name (codes "client") name) _ _ (keeps-client words) tt

no-end-hello : (words : List (List ℕ)) → IsNoEnd (hello_treatment words)
no-end-hello [] = tt
no-end-hello (word ∷ []) = if-both IsNoEnd (bytes_eq word (codes "2")) _ _ tt tt
no-end-hello (word ∷ next ∷ words) = tt

no-end-select : (words : List (List ℕ)) → IsNoEnd (select_treatment words)
no-end-select [] = tt
no-end-select (word ∷ []) = if-both IsNoEnd (bytes_eq word (codes "0")) _ _ tt tt
no-end-select (word ∷ next ∷ words) = tt

no-end-setting : (first : Bool) (name : List ℕ) (words : List (List ℕ)) → IsNoEnd (setting_treatment first name words)
no-end-setting false name words = tt
no-end-setting true name words =
    if-both IsNoEnd (is_name (codes "hello") name) _ _ (no-end-hello words)
    (if-both IsNoEnd (is_name (codes "select") name) _ _ (no-end-select words) tt)

-- a word of this name has its letters
same-letters : (lower word upper : List ℕ) → map to_ascii_lowercase upper ≡ lower → is_name lower word ≡ true → SameLetters word upper
same-letters lower word upper cased is = (bytes_eq-Decides (str_to_ascii_lowercase word) lower).0 is ∙ sym cased

-- only QUIT is treated as QUIT
pub quits-named : (first : Bool) (found : Option Class) (name : List ℕ) (words : List (List ℕ)) → unshared_treatment first found name words ≡ Quits →
    SameLetters name (codes "QUIT")
quits-named first None name words is =
    elim (if-two (is_name (codes "post") name) _ _ _ is) [
      | inl h ↦ absurd (cc (h.1))
      | inr h ↦ elim (if-two (is_name (codes "host:") name) _ _ _ h.1) [
        | inl k ↦ absurd (cc (k.1))
        | inr k ↦ absurd (subst KeepsClient k.1 (keeps-unlisted name words))
      ]
    ]
quits-named first (Some class.Shared) name words is = absurd (cc)
quits-named first (Some class.Refused) name words is = absurd (cc)
quits-named first (Some class.OwnConnection) name words is = absurd (cc)
quits-named first (Some class.Setting) name words is = absurd (subst IsNoEnd is (no-end-setting first name words))
quits-named first (Some class.OwnAnswer) name words is =
    elim (if-two (is_name (codes "quit") name) _ _ _ is) [
      | inl h ↦ same-letters (codes "quit") name (codes "QUIT") refl h.0
      | inr h ↦ absurd (subst KeepsClient h.1 (keeps-outside name words))
    ]

-- only POST and `Host:` are treated as HTTP
pub http-named : (first : Bool) (found : Option Class) (name : List ℕ) (words : List (List ℕ)) → unshared_treatment first found name words ≡ ClosesHttp →
    SameLetters name (codes "POST") ⊎ SameLetters name (codes "HOST:")
http-named first None name words is =
    elim (if-two (is_name (codes "post") name) _ _ _ is) [
      | inl h ↦ inl (same-letters (codes "post") name (codes "POST") refl h.0)
      | inr h ↦ elim (if-two (is_name (codes "host:") name) _ _ _ h.1) [
        | inl k ↦ inr (same-letters (codes "host:") name (codes "HOST:") refl k.0)
        | inr k ↦ absurd (subst KeepsClient k.1 (keeps-unlisted name words))
      ]
    ]
http-named first (Some class.Shared) name words is = absurd (cc)
http-named first (Some class.Refused) name words is = absurd (cc)
http-named first (Some class.OwnConnection) name words is = absurd (cc)
http-named first (Some class.Setting) name words is = absurd (subst IsNoEnd is (no-end-setting first name words))
http-named first (Some class.OwnAnswer) name words is =
    elim (if-two (is_name (codes "quit") name) _ _ _ is) [
      | inl h ↦ absurd (cc (h.1))
      | inr h ↦ absurd (subst KeepsClient h.1 (keeps-outside name words))
    ]

-- a command that needs another connection has a class that says so
pub another-for-own : (first : Bool) (found : Option Class) (name : List ℕ) (words : List (List ℕ)) →
    unshared_treatment first found name words ≡ NeedsAnother → IsForOwn found
another-for-own first None name words is =
    elim (if-two (is_name (codes "post") name) _ _ _ is) [
      | inl h ↦ absurd (cc (h.1))
      | inr h ↦ elim (if-two (is_name (codes "host:") name) _ _ _ h.1) [
        | inl k ↦ absurd (cc (k.1))
        | inr k ↦ absurd (subst KeepsClient k.1 (keeps-unlisted name words))
      ]
    ]
another-for-own first (Some class.Shared) name words is = absurd (cc)
another-for-own first (Some class.Refused) name words is = absurd (cc)
another-for-own first (Some class.OwnConnection) name words is = inl refl
another-for-own first (Some class.Setting) name words is = inr refl
another-for-own first (Some class.OwnAnswer) name words is =
    elim (if-two (is_name (codes "quit") name) _ _ _ is) [
      | inl h ↦ absurd (cc (h.1))
      | inr h ↦ absurd (subst KeepsClient h.1 (keeps-outside name words))
    ]

another-hello : (words : List (List ℕ)) → hello_treatment words ≡ NeedsAnother → keeps_by_hello words ≡ false
another-hello [] is = absurd (cc)
another-hello (word ∷ []) is = elim (if-two (bytes_eq word (codes "2")) _ _ _ is) [ inl h ↦ absurd (cc (h.1)) | inr h ↦ h.0 ]
another-hello (word ∷ next ∷ words) is = refl

another-select : (words : List (List ℕ)) → select_treatment words ≡ NeedsAnother → keeps_by_select words ≡ false
another-select [] is = refl
another-select (word ∷ []) is = elim (if-two (bytes_eq word (codes "0")) _ _ _ is) [ inl h ↦ absurd (cc (h.1)) | inr h ↦ h.0 ]
another-select (word ∷ next ∷ words) is = refl

another-keeps : (hello select : Bool) (words : List (List ℕ)) →
    (if hello then hello_treatment words else if select then select_treatment words else NeedsAnother) ≡ NeedsAnother →
    (if hello then keeps_by_hello words else if select then keeps_by_select words else false) ≡ false
another-keeps true select words is = another-hello words is
another-keeps false true words is = another-select words is
another-keeps false false words is = refl

-- a client leaves its line before a command that needs another connection
pub another-moves : (first : Bool) (found : Option Class) (name : List ℕ) (words : List (List ℕ)) →
    unshared_treatment first found name words ≡ NeedsAnother → moves first found name words ≡ true
another-moves first None name words is =
    elim (another-for-own first None name words is) [ inl h ↦ absurd (cc (h)) | inr h ↦ absurd (cc (h)) ]
another-moves first (Some class.Shared) name words is = absurd (cc)
another-moves first (Some class.Refused) name words is = absurd (cc)
another-moves first (Some class.OwnConnection) name words is = refl
another-moves first (Some class.OwnAnswer) name words is =
    elim (another-for-own first (Some class.OwnAnswer) name words is) [ inl h ↦ absurd (cc (h)) | inr h ↦ absurd (cc (h)) ]
another-moves false (Some class.Setting) name words is = refl
another-moves true (Some class.Setting) name words is =
    ap not (another-keeps (is_name (codes "hello") name) (is_name (codes "select") name) words is)

-- the client may get no other connection
pub none-admitted : (own first : Bool) (found : Option Class) (name : List ℕ) (words : List (List ℕ)) →
    unshared_treatment first found name words ≡ NeedsAnother → (own && moves first found name words) ≡ false → own ≡ false
none-admitted true first found name words is stays = sym (another-moves first found name words is) ∙ stays
none-admitted false first found name words is stays = refl

-- a client leaves its line only before a command whose class says so
pub moves-for-own : (first : Bool) (found : Option Class) (name : List ℕ) (words : List (List ℕ)) → moves first found name words ≡ true → IsForOwn found
moves-for-own first None name words is = absurd (false≢true is)
moves-for-own first (Some class.Shared) name words is = absurd (false≢true is)
moves-for-own first (Some class.Refused) name words is = absurd (false≢true is)
moves-for-own first (Some class.OwnConnection) name words is = inl refl
moves-for-own first (Some class.Setting) name words is = inr refl
moves-for-own first (Some class.OwnAnswer) name words is = absurd (false≢true is)

-- a command of another class than Shared
pub not-shared : (pings first : Bool) (found : Option Class) (name : List ℕ) (words : List (List ℕ)) → (found ≡ Some class.Shared → ⊥) →
    treatment pings first found name words ≡ unshared_treatment first found name words
not-shared pings first None name words other = refl
not-shared pings first (Some class.Shared) name words other = absurd (other refl)
not-shared pings first (Some class.Refused) name words other = refl
not-shared pings first (Some class.OwnConnection) name words other = refl
not-shared pings first (Some class.Setting) name words other = refl
not-shared pings first (Some class.OwnAnswer) name words other = refl

-- the table has the command that needs another connection
pub another-known : (first : Bool) (found : Option Class) (name : List ℕ) (words : List (List ℕ)) → IsListed found name words →
    unshared_treatment first found name words ≡ NeedsAnother → IsUnknown name → ⊥
another-known first None name words listed is unknown =
    elim (another-for-own first None name words is) [ inl h ↦ absurd (cc (h)) | inr h ↦ absurd (cc (h)) ]
another-known first (Some c) name words listed is unknown =
    All-contains (λ command. ¬ HasName command name) COMMANDS listed.command unknown listed.found listed.named

-- the words of a command may need a connection of the client's own, if its class does
pub own-kind : (found : Option Class) (name : List ℕ) (arguments : List (List ℕ)) → IsListed found name arguments → IsForOwn found → MayNeedOwn name arguments
own-kind found name arguments listed (inl is) = inl (subst (λ o. IsListed o name arguments) is listed)
own-kind found name arguments listed (inr is) = inr (subst (λ o. IsListed o name arguments) is listed)

-- the answer of a reaction to a command is that of the treatment of its words
pub answered-by : (r : Result Answer AllocError) (route : Route) (called : List ℕ) (t u : Treatment) (name : List ℕ) (words : List (List ℕ))
    (first : Option (Bor (List ℕ))) → u ≡ t → IsFirst words first → IfOk r (Reacts route called u name first) → IfOk r (FitsAnswer route called t name words)
answered-by (Ok given) route called t u name words first is is_first reacts = record {
  first = first;
  is_first = is_first;
  reacts = subst (λ v. Reacts route called v name first given) is reacts;
}
answered-by (Err e) route called t u name words first is is_first reacts = tt

-- the words that were read are those of the command
pub answered-words : (r : Result Answer AllocError) (route : Route) (called : List ℕ) (found : Option Class) (name own : List ℕ) (words all : List (List ℕ)) →
    (name ≡ own) × (words ≡ all) → IsListed found own all →
    (IsListed found name words → IfOk r (FitsAnswer route called (unshared_treatment route.is_first found name words) name words)) →
    IfOk r (FitsAnswer route called (unshared_treatment route.is_first found own all) own all)
answered-words r route called found name own words all same listed fits =
    subst (λ n. IfOk r (FitsAnswer route called (unshared_treatment route.is_first found n all) n all)) same.0
    (subst (λ a. IfOk r (FitsAnswer route called (unshared_treatment route.is_first found name a) name a)) same.1
    (fits (subst (λ n. IsListed found n words) (sym same.0) (subst (λ a. IsListed found own a) (sym same.1) listed))))

-- the answer closes the client as the treatment does
pub closing-reacts : (route : Route) (called : List ℕ) (t : Treatment) (name : List ℕ) (first : Option (Bor (List ℕ))) (given : Answer) →
    Closes t name first given → Reacts route called t name first given
closing-reacts route called t name first (answer.Reply text) c = absurd c
closing-reacts route called t name first answer.Quit c = c
closing-reacts route called t name first answer.Http c = c
closing-reacts route called t name first (answer.NoneLeft shown) c = c

-- an answer that a command needs another connection closes the client
pub none-left-closes : (name : List ℕ) (first : Option (Bor (List ℕ))) (given : Answer) → IsNoneLeft name first given → Closes NeedsAnother name first given
none-left-closes name first (answer.Reply text) c = absurd c
none-left-closes name first answer.Quit c = absurd c
none-left-closes name first answer.Http c = absurd c
none-left-closes name first (answer.NoneLeft shown) c = (refl, c)

-- a bulk string of constants
bulk-leaf : (bytes : List ℕ) → list_all (λ b. nat_lt b 256) bytes ≡ true → IsLeaf (string Bulk (decimal (length bytes)) bytes)
bulk-leaf bytes small = (decimal_is_number (length bytes), tt, text-by-test bytes small)

-- the reply to HELLO
pub hello-reply : (number : ℕ) (text : List ℕ) → text ≡ canonical_text Two (own_reply number) → (version : Version) →
    IsReply version (own_reply number) text
hello-reply number text is version = record {
  written = is;
  is_tree = (decimal_is_number 14, (bulk-leaf (codes "server") refl, (bulk-leaf (codes "redis") refl, (bulk-leaf (codes "version") refl, (bulk-leaf (codes "7.0.15") refl, (bulk-leaf (codes "proto") refl, (decimal_is_digits 2, (bulk-leaf (codes "id") refl, (decimal_is_digits number, (bulk-leaf (codes "mode") refl, (bulk-leaf (codes "standalone") refl, (bulk-leaf (codes "role") refl, (bulk-leaf (codes "master") refl, (bulk-leaf (codes "modules") refl, ((decimal_is_number 0, tt), tt)))))))))))))));
  in_version = in-version version (canonical_tree version (own_reply number)) (tt, (tt, (tt, (tt, (tt, (tt, (tt, (tt, (tt, (tt, (tt, (tt, (tt, (tt, ((tt, tt), tt)))))))))))))));
  no_push = (tt, (tt, (tt, (tt, (tt, (tt, (tt, (tt, (tt, (tt, (tt, (tt, (tt, (tt, ((tt, tt), tt)))))))))))))));
}

-- the words that were read are those with which the text begins
pub local-read : (r : Result (Option (Vec ℕ Global)) AllocError) (limits : Bounds) (pings : Bool) (t : Treatment) (text name : List ℕ) (words : List (List ℕ))
    (rest : List ℕ) → t ≡ shared_treatment pings name words → BeginsWith limits text (command_of (name ∷ words)) rest →
    IfOk r (λ answer. IfSome answer (λ a. IsReplyOf t a.items)) → IfOk r (λ answer. IfSome answer (λ a. IsLocalReply limits pings text a.items))
local-read (Ok None) limits pings t text name words rest is begins reply = tt
local-read (Ok (Some a)) limits pings t text name words rest is begins reply = record {
  name = name;
  arguments = words;
  rest = rest;
  begins = begins;
  reply = subst (λ u. IsReplyOf u a.items) is reply;
}
local-read (Err e) limits pings t text name words rest is begins reply = tt

-- the text that was made is the reply to HELLO
pub hello-made : (r : Result (Vec ℕ Global) AllocError) (number : ℕ) (version : Version) →
    IfOk r (λ text. text.items ≡ canonical_text Two (own_reply number)) → IfOk r (λ text. IsReply version (own_reply number) text.items)
hello-made (Ok text) number version is = hello-reply number text.items is version
hello-made (Err e) number version is = tt
