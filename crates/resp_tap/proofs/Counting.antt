-- The numbers of replies where each command has exactly one reply.
use Rattle.std.proofs.Common.{◌≡◌, ℕ, ◌+◌, ◌&&◌, ◌||◌, Bool, true, false, not, cond, Option, None, Some, List, [], ◌∷◌, ◌++◌, length, refl, sym, ap, subst, ◌∙◌, arith}
use Rattle.std.specs.Prelude.{if◌then◌else◌}
use Rattle.std.specs.List.{AllByRecursion}
use Rattle.std.proofs.lemmas.List.{length_push}
use Rattle.resp_value.specs.Bounds.{Bounds}
use Rattle.resp_value.specs.Data.{Datum}
use Rattle.resp_session.specs.Heard.{is_push, numbered_from, replies_of}
use Rattle.resp_tap.specs.Kinds.{command_kind}
use Rattle.resp_tap.specs.Lines.{LineState, ReadsLine, after_confirmation, after_due, after_reply, asking, confirms, due_of, is_free, is_listening, is_notification, is_subscribed, is_two, line_after, line_with, line_with_all, new_line, no_subscriptions, number_by_due, number_for, number_of_reply, numbered, open_after, paired}
use Rattle.resp_tap.specs.Notices.{notice_of}
use Rattle.resp_tap.specs.Streams.{CountsReplies, HasOneReply, IsAnswered}
use Rattle.resp_tap.specs.declared.kind.CommandKind.{CommandKind}
use Rattle.resp_tap.specs.declared.line.Due.{Due}
use Rattle.resp_tap.specs.declared.line.Subscriptions.{Subscriptions}
use Rattle.resp_tap.specs.declared.notice.Notice.{Notice}
use Rattle.resp_tap.proofs.LineLemmas.{after_is, number_is, reads_found, was_found}

-- commands that have exactly one reply each, numbered from the first number on
abbrev InOrder : ℕ → List Due → Type 0
InOrder n [] = Unit {0}
InOrder n (first ∷ due) = (first.number ≡ n) × IsAnswered first.kind × InOrder (n + 1) due

-- ---- the line of all commands

order_more : (n : ℕ) (due : List Due) (number : ℕ) (kind : CommandKind) → InOrder n due → IsAnswered kind → number ≡ n + length due →
    InOrder n (due ++ record { number = number; kind = kind } ∷ [])
order_more n [] number kind order one is = (is ∙ (let e : n + 0 ≡ n = omega arith in e), one, tt)
order_more n (first ∷ due) number kind order one is =
    (order.0, order.1, order_more (n + 1) due number kind order.2 one (is ∙ (let e : n + length (first ∷ due) ≡ n + 1 + length due = omega arith in e)))

due_of_one : (number : ℕ) (kind : CommandKind) → IsAnswered kind → due_of number kind true ≡ record { number = number; kind = kind } ∷ []
due_of_one number kind one = grind arith

open_after_one : (kind : CommandKind) → IsAnswered kind → open_after kind true ≡ true
open_after_one kind one = grind arith

all_in_order : (first n : ℕ) (l : LineState) (all : List (List (List ℕ))) → InOrder first l.due → n ≡ first + length l.due → l.is_open ≡ true →
    AllByRecursion HasOneReply all → InOrder first (line_with_all n l all).due
all_in_order first n l [] order is opened each = order
all_in_order first n l (words ∷ all) order is opened each =
    let kind = command_kind words in
    let more : due_of n kind l.is_open ≡ record { number = n; kind = kind } ∷ [] = ap (due_of n kind) opened ∙ due_of_one n kind each.0 in
    let due : (line_with n kind l).due ≡ l.due ++ record { number = n; kind = kind } ∷ [] = ap (λ z. l.due ++ z) more in
    let long = ap length due ∙ length_push l.due (record { number = n; kind = kind }) in
    all_in_order first (n + 1) (line_with n kind l) all (subst (InOrder first) (sym due) (order_more first l.due n kind order each.0 is))
    (omega (arith, is, long)) (ap (open_after kind) opened ∙ open_after_one kind each.0) each.1

same_subscriptions : (n : ℕ) (l : LineState) (all : List (List (List ℕ))) → (line_with_all n l all).subscriptions ≡ l.subscriptions
same_subscriptions n l [] = refl
same_subscriptions n l (words ∷ all) = same_subscriptions (n + 1) (line_with n (command_kind words) l) all

-- ---- one value

never : (b : Bool) → (b && false) ≡ false
never b = grind arith

or_never : (b : Bool) → (b || false) ≡ b
or_never b = grind arith

-- without subscriptions only pushes are free
free_is : (l : LineState) (x : Datum) → l.subscriptions ≡ no_subscriptions → is_free l x ≡ is_push x
free_is l x none =
    let deaf : is_listening l ≡ false = ap (λ s. is_two l.version && is_subscribed s) none ∙ never (is_two l.version) in
    ap (λ b. is_push x || (b && is_notification (notice_of x))) deaf ∙ or_never (is_push x)

confirms_none : (kind : CommandKind) (what : Notice) → IsAnswered kind → confirms kind what ≡ false
confirms_none kind what one = grind arith

reply_due : (l : LineState) (kind : CommandKind) (due : List Due) (what : Notice) (x : Datum) → IsAnswered kind → (after_reply l kind due what x).due ≡ due
reply_due l kind due what x one = grind arith

either_none : (b : Bool) (s : Subscriptions) → s ≡ no_subscriptions → (if b then s else no_subscriptions) ≡ no_subscriptions
either_none b s none = grind arith

reply_none : (l : LineState) (kind : CommandKind) (due : List Due) (what : Notice) (x : Datum) → IsAnswered kind → l.subscriptions ≡ no_subscriptions →
    (after_reply l kind due what x).subscriptions ≡ no_subscriptions
reply_none l kind due what x one none = grind arith

reply_number : (first : Due) (kind : CommandKind) (due : List Due) (what : Notice) → IsAnswered kind → number_of_reply first kind due what ≡ Some first.number
reply_number first kind due what one = grind arith

-- a value has the next number unless it is a push, and the commands after it are in order
record Goes (n : ℕ) (push : Bool) (number : Option ℕ) (after : LineState) : Type 0 where
  numbered_so : number ≡ (if push then None else Some n)
  order : InOrder (if push then n else n + 1) after.due
  none : after.subscriptions ≡ no_subscriptions

first_goes : (l : LineState) (first : Due) (due : List Due) (n : ℕ) (what : Notice) (push : Bool) (x : Datum) → l.due ≡ first ∷ due → InOrder n (first ∷ due) →
    l.subscriptions ≡ no_subscriptions → Goes n push (if push then None else number_of_reply first first.kind due what)
    (if push then l else after_reply l first.kind due what x)
first_goes l first due n what true x is order none = record { numbered_so = refl; order = subst (InOrder n) (sym is) order; none = none }
first_goes l first due n what false x is order none = record {
  numbered_so = reply_number first first.kind due what order.1 ∙ ap Some order.0;
  order = subst (InOrder (n + 1)) (sym (reply_due l first.kind due what x order.1)) order.2;
  none = reply_none l first.kind due what x order.1 none;
}

due_goes : (l : LineState) (due : List Due) (n : ℕ) (what : Notice) (push : Bool) (x : Datum) → l.due ≡ due → InOrder n due →
    l.subscriptions ≡ no_subscriptions → (after_due l due what push x).is_lost ≡ false → Goes n push (number_by_due due what push push) (after_due l due what push x)
due_goes l [] n what true x is order none found = record { numbered_so = refl; order = subst (InOrder n) (sym is) order; none = none }
due_goes l [] n what false x is order none found = absurd (cc)
due_goes l (first ∷ due) n what push x is order none found =
    subst (λ b. Goes n push (if b then (if push then None else Some first.number) else if push then None else number_of_reply first first.kind due what)
    (if b then after_confirmation l first due what else if push then l else after_reply l first.kind due what x))
    (sym (confirms_none first.kind what order.1)) (first_goes l first due n what push x is order none)

value_goes : (l : LineState) (n : ℕ) (x : Datum) → InOrder n l.due → l.subscriptions ≡ no_subscriptions → (line_after l x).is_lost ≡ false →
    Goes n (is_push x) (number_for l x) (line_after l x)
value_goes l n x order none found =
    let was = was_found l x found in
    let free = free_is l x none in
    let after : line_after l x ≡ after_due l l.due (notice_of x) (is_push x) x = after_is l x was ∙ ap (λ b. after_due l l.due (notice_of x) b x) free in
    let number : number_for l x ≡ number_by_due l.due (notice_of x) (is_push x) (is_push x) =
    number_is l x was ∙ ap (λ b. number_by_due l.due (notice_of x) b (is_push x)) free in
    subst (λ z. Goes n (is_push x) z (line_after l x)) (sym number)
    (subst (λ z. Goes n (is_push x) (number_by_due l.due (notice_of x) (is_push x) (is_push x)) z) (sym after)
    (due_goes l l.due n (notice_of x) (is_push x) x refl order none (ap (λ (z : LineState). z.is_lost) (sym after) ∙ found)))

-- ---- all values

one_more : (push : Bool) (n : ℕ) (x : Datum) (rest : List Datum) →
    numbered (if push then None else Some n) x ++ numbered_from (if push then n else n + 1) rest ≡ numbered_from n (cond (not push) (x ∷ rest) rest)
one_more true n x rest = refl
one_more false n x rest = refl

counts : (limits : Bounds) (l after : LineState) (n : ℕ) (xs : List Datum) (text : List ℕ) → InOrder n l.due → l.subscriptions ≡ no_subscriptions →
    ReadsLine limits l xs text after → after.is_lost ≡ false → paired l xs ≡ numbered_from n (replies_of xs)
counts limits l after n [] text order none m found = refl
counts limits l after n (x ∷ xs) text order none m found =
    let (f, g, s, t, w) = m in
    let next = reads_found limits (line_after l x) after xs g t found in
    let goes = value_goes l n x order none next in
    ap (λ z. numbered z x ++ paired (line_after l x) xs) goes.numbered_so ∙
    ap (λ z. numbered (if is_push x then None else Some n) x ++ z)
    (counts limits (line_after l x) after (if is_push x then n else n + 1) xs g goes.order goes.none t found) ∙
    one_more (is_push x) n x (replies_of xs)

pub counts_replies : CountsReplies
counts_replies limits commands values text after each m found =
    counts limits (asking commands) after 1 values text (all_in_order 1 1 new_line commands tt refl refl each) (same_subscriptions 1 new_line commands) m found
