-- How a line goes on when more commands are sent, and when more values arrive.
use Rattle.std.proofs.Common.{◌≡◌, ℕ, ◌+◌, ◌&&◌, ◌||◌, Bool, true, false, not, Option, None, Some, List, [], ◌∷◌, ◌++◌, length, refl, sym, ap, subst, ◌∙◌, arith, append_assoc}
use Rattle.std.specs.Prelude.{if◌then◌else◌}
use Rattle.resp_value.specs.Bounds.{Bounds}
use Rattle.resp_value.specs.Data.{Datum}
use Rattle.resp_value.specs.Rules.{rules_under}
use Rattle.resp_value.specs.Spellings.{IsSpelling}
use Rattle.resp_value.specs.Laws.{VersionThreeSpellsWhatTwoDoes}
use Rattle.resp_value.specs.declared.version.Version.{Version}
use Rattle.resp_value.specs.declared.version.Version.TheVariants.{Two, Three}
use Rattle.resp_session.specs.Heard.{is_push}
use Rattle.resp_tap.specs.Kinds.{command_kind}
use Rattle.resp_tap.specs.Lines.{LineState, ReadsLine, after_confirmation, after_due, after_reply, confirms, due_confirmed, due_of, has_all, is_confirmation, is_free, is_listening, is_notification, line_after, line_sent, line_with, line_with_all, next_version, number_by_due, number_by_first, number_first, number_for, number_of_reply, numbered, open_after, paired, resumed, subscriptions_by, version_by, version_for}
use Rattle.resp_tap.specs.LinesOf.{first_of}
use Rattle.resp_tap.specs.Notices.{notice_of}
use Rattle.resp_tap.specs.declared.kind.CommandKind.{CommandKind}
use Rattle.resp_tap.specs.declared.kind.CommandKind.TheVariants.{Plain, Hello, Reset, Silent, Subscribing, Unpairing}
use Rattle.resp_tap.specs.declared.line.Due.{Due}
use Rattle.resp_tap.specs.declared.notice.Notice.{Notice}

-- the same line, with more commands that wait
abbrev pub longer : LineState → List Due → Bool → LineState
longer l more is_open = record l { due = l.due ++ more; is_open = is_open }

-- ---- the version of a value

-- a version that is the same or greater
abbrev AtLeast : Version → Version → Type 0
AtLeast Two version = Unit {0}
AtLeast Three version = version ≡ Three

at_least_for : (version : Version) (kind : CommandKind) → AtLeast version (version_for version kind)
at_least_for Two kind = tt
at_least_for Three Plain = refl
at_least_for Three (Hello asked) = refl
at_least_for Three Reset = refl
at_least_for Three Silent = refl
at_least_for Three (Subscribing verb channels) = refl
at_least_for Three Unpairing = refl

same_at_least : (version : Version) → AtLeast version version
same_at_least Two = tt
same_at_least Three = refl

pub at_least_by : (version : Version) (due more : List Due) → AtLeast (version_by version due) (version_by version (due ++ more))
at_least_by version [] [] = same_at_least version
at_least_by version [] (first ∷ more) = at_least_for version first.kind
at_least_by version (first ∷ due) more = same_at_least (version_for version first.kind)

-- a greater version spells the same
pub spells_at_least : VersionThreeSpellsWhatTwoDoes → (limits : Bounds) (version other : Version) (x : Datum) (text : List ℕ) → AtLeast version other →
    IsSpelling (rules_under version limits) x text → IsSpelling (rules_under other limits) x text
spells_at_least three limits Two Two x text least s = s
spells_at_least three limits Two Three x text least s = three (rules_under Two limits) x text refl s
spells_at_least three limits Three other x text least s = subst (λ v. IsSpelling (rules_under v limits) x text) (sym least) s

-- the version of a line that is not lost
pub next_is : (l : LineState) → l.is_lost ≡ false → next_version l ≡ version_by l.version l.due
next_is l found = ap (λ b. if b then Three else version_by l.version l.due) found

-- ---- lost lines

pub after_is : (l : LineState) (x : Datum) → l.is_lost ≡ false → line_after l x ≡ after_due l l.due (notice_of x) (is_free l x) x
after_is l x found = ap (λ b. if b then l else after_due l l.due (notice_of x) (is_free l x) x) found

pub number_is : (l : LineState) (x : Datum) → l.is_lost ≡ false → number_for l x ≡ number_by_due l.due (notice_of x) (is_free l x) (is_push x)
number_is l x found = ap (λ b. if b then None else number_by_due l.due (notice_of x) (is_free l x) (is_push x)) found

-- the number of a value that may be the reply to the first command that waits
abbrev due_or : Due → Option Due → Due
due_or other None = other
due_or other (Some first) = first

number_by_taken : (due : List Due) (first : Due) (what : Notice) (free push : Bool) (r : Option ℕ) → first_of due ≡ Some first →
    confirms first.kind what ≡ false → free ≡ false → ((rest : List Due) → due ≡ first ∷ rest → r ≡ number_of_reply first first.kind rest what) →
    r ≡ number_by_due due what free push
number_by_taken [] first what free push r is other not_free says = absurd (cc)
number_by_taken (head ∷ rest) first what free push r is other not_free says =
    let same : head ≡ first = ap (due_or head) is in
    says rest (ap (λ d. d ∷ rest) same) ∙
    sym (ap (λ b. if b then (if push then None else Some first.number) else if free then None else number_of_reply first first.kind rest what) other ∙
    ap (λ b. if b then None else number_of_reply first first.kind rest what) not_free) ∙
    ap (λ (d : Due). number_by_first d rest what free push) (sym same)

pub number_taken : (l : LineState) (x : Datum) (first : Due) (r : Option ℕ) → l.is_lost ≡ false → first_of l.due ≡ Some first →
    confirms first.kind (notice_of x) ≡ false → is_free l x ≡ false →
    ((rest : List Due) → l.due ≡ first ∷ rest → r ≡ number_of_reply first first.kind rest (notice_of x)) → r ≡ number_for l x
number_taken l x first r found is other not_free says =
    number_by_taken l.due first (notice_of x) (is_free l x) (is_push x) r is other not_free says ∙ sym (number_is l x found)

stays_lost : (l : LineState) (x : Datum) → l.is_lost ≡ true → (line_after l x).is_lost ≡ true
stays_lost l x lost = ap (λ b. (if b then l else after_due l l.due (notice_of x) (is_free l x) x).is_lost) lost ∙ lost

found_by : (l : LineState) (x : Datum) (b : Bool) → l.is_lost ≡ b → (line_after l x).is_lost ≡ false → b ≡ false
found_by l x false is found = refl
found_by l x true is found = absurd (let e : true ≡ false = sym (stays_lost l x is) ∙ found in cc)

-- a line that is not lost was not lost before
pub was_found : (l : LineState) (x : Datum) → (line_after l x).is_lost ≡ false → l.is_lost ≡ false
was_found l x found = found_by l x l.is_lost refl found

pub reads_found : (limits : Bounds) (a b : LineState) (xs : List Datum) (text : List ℕ) → ReadsLine limits a xs text b → b.is_lost ≡ false → a.is_lost ≡ false
reads_found limits a b [] text m found = ap (λ (l : LineState). l.is_lost) (sym m.1) ∙ found
reads_found limits a b (x ∷ xs) text m found =
    let (f, g, s, t, w) = m in
    was_found a x (reads_found limits (line_after a x) b xs g t found)

-- ---- more commands

-- the same choice on both sides
if_longer : (b : Bool) (a c a' c' : LineState) (more : List Due) (o : Bool) → (a.is_lost ≡ false → a' ≡ longer a more o) →
    (c.is_lost ≡ false → c' ≡ longer c more o) → (if b then a else c).is_lost ≡ false → (if b then a' else c') ≡ longer (if b then a else c) more o
if_longer true a c a' c' more o one other found = one found
if_longer false a c a' c' more o one other found = other found

resumed_longer : (l : LineState) (due more : List Due) (o : Bool) → (resumed l due).is_lost ≡ false →
    resumed (longer l more o) (due ++ more) ≡ longer (resumed l due) more o
resumed_longer l [] more o found = absurd (cc)
resumed_longer l (reset ∷ due) more o found = refl

reply_longer : (l : LineState) (kind : CommandKind) (due more : List Due) (o : Bool) (what : Notice) (x : Datum) →
    (after_reply l kind due what x).is_lost ≡ false → after_reply (longer l more o) kind (due ++ more) what x ≡ longer (after_reply l kind due what x) more o
reply_longer l kind due more o what x found = grind (arith, resumed_longer)

confirmed_longer : (b : Bool) (first : Due) (due more : List Due) → due_confirmed b first (due ++ more) ≡ due_confirmed b first due ++ more
confirmed_longer true first due more = refl
confirmed_longer false first due more = refl

-- a value that is no confirmation confirms no channel
not_confirms : (kind : CommandKind) (what : Notice) → is_confirmation what ≡ false → confirms kind what ≡ false
not_confirms kind what none = grind arith

-- a value that comes while no command waits, and after which the line is not lost
pub idle_free : (free confirmation : Bool) → not (free && not confirmation) ≡ false → (free ≡ true) × (confirmation ≡ false)
idle_free free confirmation e = grind arith

due_longer : (l : LineState) (due more : List Due) (o : Bool) (what : Notice) (free : Bool) (x : Datum) → l.is_lost ≡ false →
    (after_due l due what free x).is_lost ≡ false → after_due (longer l more o) (due ++ more) what free x ≡ longer (after_due l due what free x) more o
due_longer l [] [] o what free x was found = refl
due_longer l [] (first ∷ more) o what free x was found =
    let idle = idle_free free (is_confirmation what) found in
    let line = longer l (first ∷ more) o in
    ap (λ b. if b then after_confirmation line first more what else if free then line else after_reply line first.kind more what x)
    (not_confirms first.kind what idle.1) ∙
    ap (λ b. if b then line else after_reply line first.kind more what x) idle.0 ∙
    ap (λ b. record line { is_lost = b }) (was ∙ sym found)
due_longer l (first ∷ due) more o what free x was found =
    let line = longer l more o in
    let whole = has_all first.kind l.heard (subscriptions_by what l.subscriptions) in
    if_longer (confirms first.kind what) (after_confirmation l first due what) (if free then l else after_reply l first.kind due what x)
    (after_confirmation line first (due ++ more) what) (if free then line else after_reply line first.kind (due ++ more) what x) more o
    (λ _. ap (λ d. record (longer (after_confirmation l first due what) more o) { due = d }) (confirmed_longer whole first due more))
    (if_longer free l (after_reply l first.kind due what x) line (after_reply line first.kind (due ++ more) what x) more o (λ _. refl)
    (reply_longer l first.kind due more o what x)) found

-- a value changes a line in the same way, whichever commands are sent later
pub after_longer : (l : LineState) (more : List Due) (o : Bool) (x : Datum) → (line_after l x).is_lost ≡ false →
    line_after (longer l more o) x ≡ longer (line_after l x) more o
after_longer l more o x found =
    let was = was_found l x found in
    let here = after_is l x was in
    after_is (longer l more o) x was ∙
    due_longer l l.due more o (notice_of x) (is_free l x) x was (ap (λ (z : LineState). z.is_lost) (sym here) ∙ found) ∙
    ap (λ z. longer z more o) (sym here)

reset_number : (b : Bool) (l : LineState) (due more : List Due) → (if b then resumed l due else l).is_lost ≡ false →
    (if b then number_first (due ++ more) else None) ≡ (if b then number_first due else None)
reset_number true l [] more found = absurd (cc)
reset_number true l (reset ∷ due) more found = refl
reset_number false l due more found = refl

reply_number : (l : LineState) (first : Due) (kind : CommandKind) (due more : List Due) (what : Notice) (x : Datum) →
    (after_reply l kind due what x).is_lost ≡ false → number_of_reply first kind (due ++ more) what ≡ number_of_reply first kind due what
reply_number l first kind due more what x found = grind (arith, reset_number)

first_number : (b free : Bool) (told : Option ℕ) (l c : LineState) (first : Due) (due more : List Due) (what : Notice) (x : Datum) →
    (if b then c else if free then l else after_reply l first.kind due what x).is_lost ≡ false →
    (if b then told else if free then None else number_of_reply first first.kind (due ++ more) what) ≡
    (if b then told else if free then None else number_of_reply first first.kind due what)
first_number b free told l c first due more what x found = grind (arith, reply_number)

due_number : (l : LineState) (due more : List Due) (what : Notice) (free push : Bool) (x : Datum) → (after_due l due what free x).is_lost ≡ false →
    number_by_due (due ++ more) what free push ≡ number_by_due due what free push
due_number l [] [] what free push x found = refl
due_number l [] (first ∷ more) what free push x found =
    let idle = idle_free free (is_confirmation what) found in
    ap (λ b. if b then (if push then None else Some first.number) else if free then None else number_of_reply first first.kind more what)
    (not_confirms first.kind what idle.1) ∙
    ap (λ b. if b then None else number_of_reply first first.kind more what) idle.0
due_number l (first ∷ due) more what free push x found =
    first_number (confirms first.kind what) free (if push then None else Some first.number) l (after_confirmation l first due what) first due more what x found

-- and belongs to the same command
pub number_longer : (l : LineState) (more : List Due) (o : Bool) (x : Datum) → (line_after l x).is_lost ≡ false →
    number_for (longer l more o) x ≡ number_for l x
number_longer l more o x found =
    let was = was_found l x found in
    number_is (longer l more o) x was ∙
    due_number l l.due more (notice_of x) (is_free l x) (is_push x) x (ap (λ (z : LineState). z.is_lost) (sym (after_is l x was)) ∙ found) ∙
    sym (number_is l x was)

pub reads_longer : VersionThreeSpellsWhatTwoDoes → (limits : Bounds) (a b : LineState) (more : List Due) (o : Bool) (xs : List Datum) (text : List ℕ) →
    ReadsLine limits a xs text b → b.is_lost ≡ false → ReadsLine limits (longer a more o) xs text (longer b more o)
reads_longer three limits a b more o [] text m found = (m.0, ap (λ l. longer l more o) m.1)
reads_longer three limits a b more o (x ∷ xs) text m found =
    let (f, g, s, t, w) = m in
    let next = reads_found limits (line_after a x) b xs g t found in
    let was = was_found a x next in
    let spelled = spells_at_least three limits (version_by a.version a.due) (version_by a.version (a.due ++ more)) x f (at_least_by a.version a.due more)
    (subst (λ v. IsSpelling (rules_under v limits) x f) (next_is a was) s) in (
      f,
      g,
      subst (λ v. IsSpelling (rules_under v limits) x f) (sym (next_is (longer a more o) was)) spelled,
      subst (λ z. ReadsLine limits z xs g (longer b more o)) (sym (after_longer a more o x next)) (reads_longer three limits (line_after a x) b more o xs g t found),
      w,
    )

pub paired_longer : (limits : Bounds) (a b : LineState) (more : List Due) (o : Bool) (xs : List Datum) (text : List ℕ) →
    ReadsLine limits a xs text b → b.is_lost ≡ false → paired (longer a more o) xs ≡ paired a xs
paired_longer limits a b more o [] text m found = refl
paired_longer limits a b more o (x ∷ xs) text m found =
    let (f, g, s, t, w) = m in
    let next = reads_found limits (line_after a x) b xs g t found in
    ap (λ n. numbered n x ++ paired (line_after (longer a more o) x) xs) (number_longer a more o x next) ∙
    ap (λ z. numbered (number_for a x) x ++ paired z xs) (after_longer a more o x next) ∙
    ap (λ z. numbered (number_for a x) x ++ z) (paired_longer limits (line_after a x) b more o xs g t found)

-- ---- more values

pub reads_go_on : (limits : Bounds) (a b c : LineState) (xs ys : List Datum) (text more : List ℕ) → ReadsLine limits a xs text b → ReadsLine limits b ys more c →
    ReadsLine limits a (xs ++ ys) (text ++ more) c
reads_go_on limits a b c [] ys text more m n =
    let e : text ≡ [] = m.0 in
    let f : b ≡ a = m.1 in
    subst (λ z. ReadsLine limits a ys z c) (sym (ap (λ z. z ++ more) e)) (subst (λ z. ReadsLine limits z ys more c) f n)
reads_go_on limits a b c (x ∷ xs) ys text more m n =
    let (f, g, s, t, w) = m in
    (f, g ++ more, s, reads_go_on limits (line_after a x) b c xs ys g more t n, ap (λ z. z ++ more) w ∙ append_assoc f g more)

pub paired_go_on : (limits : Bounds) (a b : LineState) (xs ys : List Datum) (text : List ℕ) → ReadsLine limits a xs text b →
    paired a (xs ++ ys) ≡ paired a xs ++ paired b ys
paired_go_on limits a b [] ys text m = let f : b ≡ a = m.1 in ap (λ z. paired z ys) (sym f)
paired_go_on limits a b (x ∷ xs) ys text m =
    let (f, g, s, t, w) = m in
    ap (λ z. numbered (number_for a x) x ++ z) (paired_go_on limits (line_after a x) b xs ys g t) ∙
    sym (append_assoc (numbered (number_for a x) x) (paired (line_after a x) xs) (paired b ys))

-- ---- whether commands are paired

if_open : (b : Bool) (a c : LineState) (o : Bool) → a.is_open ≡ o → c.is_open ≡ o → (if b then a else c).is_open ≡ o
if_open true a c o one other = one
if_open false a c o one other = other

resumed_open : (l : LineState) (due : List Due) → (resumed l due).is_open ≡ l.is_open
resumed_open l [] = refl
resumed_open l (reset ∷ due) = refl

reply_open : (l : LineState) (kind : CommandKind) (due : List Due) (what : Notice) (x : Datum) → (after_reply l kind due what x).is_open ≡ l.is_open
reply_open l kind due what x = grind (arith, resumed_open)

due_open : (l : LineState) (due : List Due) (what : Notice) (free : Bool) (x : Datum) → (after_due l due what free x).is_open ≡ l.is_open
due_open l [] what free x = refl
due_open l (first ∷ due) what free x =
    if_open (confirms first.kind what) (after_confirmation l first due what) (if free then l else after_reply l first.kind due what x) l.is_open refl
    (if_open free l (after_reply l first.kind due what x) l.is_open refl (reply_open l first.kind due what x))

-- a value changes nothing of it
pub after_open : (l : LineState) (x : Datum) → (line_after l x).is_open ≡ l.is_open
after_open l x = if_open l.is_lost l (after_due l l.due (notice_of x) (is_free l x) x) l.is_open refl (due_open l l.due (notice_of x) (is_free l x) x)

-- ---- the line of all commands

pub asking_more : (n : ℕ) (l : LineState) (all : List (List (List ℕ))) (words : List (List ℕ)) →
    line_with_all n l (all ++ words ∷ []) ≡ line_with (n + length all) (command_kind words) (line_with_all n l all)
asking_more n l [] words = ap (λ k. line_with k (command_kind words) l) (let e : n ≡ n + 0 = omega arith in e)
asking_more n l (first ∷ all) words =
    asking_more (n + 1) (line_with n (command_kind first) l) all words ∙
    ap (λ k. line_with k (command_kind words) (line_with_all (n + 1) (line_with n (command_kind first) l) all))
    (let e : n + 1 + length all ≡ n + length (first ∷ all) = omega arith in e)

pub sent_is : (n : ℕ) (kind : CommandKind) (l : LineState) → l.is_lost ≡ false →
    line_sent n kind l ≡ longer l (due_of n kind l.is_open) (open_after kind l.is_open)
sent_is n kind l found = ap (λ b. if b then l else line_with n kind l) found

-- ---- pushes have no number

push_by : (b free : Bool) (told : Option ℕ) → free ≡ true → (if b then None else if free then None else told) ≡ None
push_by true free told is = refl
push_by false free told is = ap (λ f. if f then None else told) is

due_push : (due : List Due) (what : Notice) (free push : Bool) → push ≡ true → free ≡ true → number_by_due due what free push ≡ None
due_push [] what free push is is_free = refl
due_push (first ∷ due) what free push is is_free =
    ap (λ p. if confirms first.kind what then (if p then None else Some first.number) else if free then None else number_of_reply first first.kind due what) is ∙
    push_by (confirms first.kind what) free (number_of_reply first first.kind due what) is_free

lost_push : (b : Bool) (told : Option ℕ) → told ≡ None → (if b then None else told) ≡ None
lost_push true told none = refl
lost_push false told none = none

pub no_number_of_a_push : (l : LineState) (x : Datum) → is_push x ≡ true → number_for l x ≡ None
no_number_of_a_push l x push =
    lost_push l.is_lost (number_by_due l.due (notice_of x) (is_free l x) (is_push x)) (due_push l.due (notice_of x) (is_free l x) (is_push x) push
    (ap (λ b. b || (is_listening l && is_notification (notice_of x))) push))
