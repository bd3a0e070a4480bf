-- What is read of a text, counted, and texts in parts.
use Rattle.std.proofs.Common.{◌≡◌, ℕ, zero, suc, ◌+◌, min, not, Bool, true, false, if◌then◌else◌, List, [], ◌∷◌, ◌++◌, length, map, take, drop, refl, sym, ap, ◌∙◌, arith, Option}
use Rattle.std.proofs.Math.Seq.{take-add}
use Rattle.std.proofs.lemmas.List.{append-nil, drop_min, map-append, take_min}
use Rattle.std.proofs.lemmas.List.Folds.{concat-append}
use Rattle.std.specs.List.{concat}
use Rattle.resp_value.specs.Bounds.{Bounds}
use Rattle.resp_value.specs.Data.{Datum}
use Rattle.resp_value.specs.declared.version.Version.{Version}
use Rattle.resp_session.specs.Connections.{Connection, sent_text, with_request}
use Rattle.resp_session.specs.Heard.{is_push, numbered_from, replies_of}
use Rattle.resp_session.specs.Reading.{ReadsAs, Waiting, waiting_after, waiting_after_reply}
use Rattle.resp_session.specs.Requests.{Request, request_text}

one_waits : (version : Version) (asks : List (Option Version)) (x : Datum) → (asks ≡ [] → is_push x ≡ true) → is_push x ≡ false →
    length (waiting_after_reply version asks x).asks + 1 ≡ length asks
one_waits version [] x asked no_push = let e = asked refl in absurd (cc)
one_waits version (ask ∷ asks) x asked no_push = omega arith

counted_by : (w : Waiting) (x : Datum) (xs : List Datum) (after : Waiting) (is : Bool) → is_push x ≡ is → (w.asks ≡ [] → is_push x ≡ true) →
    length (replies_of xs) + length after.asks ≡ length (if is then w else waiting_after_reply w.version w.asks x).asks →
    length (if not is then x ∷ replies_of xs else replies_of xs) + length after.asks ≡ length w.asks
counted_by w x xs after true is asked later = later
counted_by w x xs after false is asked later =
    let one : length (waiting_after_reply w.version w.asks x).asks + 1 ≡ length w.asks = one_waits w.version w.asks x asked is in
    omega (arith, one, later)

-- as many replies are read as commands wait no more
pub counted : (limits : Bounds) (w after : Waiting) (xs : List Datum) (text : List ℕ) → ReadsAs limits w xs text after →
    length (replies_of xs) + length after.asks ≡ length w.asks
counted limits w after [] text r = let same : length after.asks ≡ length w.asks = ap (λ (z : Waiting). length z.asks) r.1 in omega (arith, same)
counted limits w after (x ∷ xs) text r =
    let (front, rest, spelled, asked, more, whole) = r in
    counted_by w x xs after (is_push x) refl asked (counted limits (waiting_after w x) after xs rest more)

-- numbers taken away
pub unnumbered : (first : ℕ) (xs : List Datum) → map (λ (reply : ℕ × Datum). reply.1) (numbered_from first xs) ≡ xs
unnumbered first [] = refl
unnumbered first (x ∷ xs) = ap (λ l. x ∷ l) (unnumbered (first + 1) xs)

drop_nothing : (k : ℕ) → drop {A = ℕ} k [] ≡ []
drop_nothing zero = refl
drop_nothing (suc k) = refl

-- what is left after a part of what was left
pub drop_on : (n m : ℕ) (xs : List ℕ) → drop m (drop n xs) ≡ drop (n + m) xs
drop_on zero m xs = let same : m ≡ 0 + m = omega arith in ap (λ k. drop k xs) same
drop_on (suc n) m [] = drop_nothing m ∙ sym (drop_nothing (suc n + m))
drop_on (suc n) m (x ∷ xs) = let same : suc (n + m) ≡ suc n + m = omega arith in drop_on n m xs ∙ ap (λ k. drop k (x ∷ xs)) same

-- what waits where this many more have come, at most all
pub waits_on : (n k : ℕ) (xs : List ℕ) → drop k (drop n xs) ≡ drop (min (n + k) (length xs)) xs
waits_on n k xs = drop_on n k xs ∙ sym (drop_min (n + k) xs)

-- and what has come then
pub come_on : (n k : ℕ) (xs : List ℕ) → take (min (n + k) (length xs)) xs ≡ take n xs ++ take k (drop n xs)
come_on n k xs = take_min (n + k) xs ∙ take-add n k xs

-- the text of the requests with one more
pub one_more_request : (request : Request) (c : Connection) → sent_text (with_request request c) ≡ sent_text c ++ request_text request
one_more_request request c =
    ap concat (map-append request_text c.requests (request ∷ [])) ∙
    concat-append (map request_text c.requests) (request_text request ∷ []) ∙ ap (λ l. sent_text c ++ l) (append-nil (request_text request))
