-- How requests are taken, one after another.
use Rattle.std.proofs.Common.{◌≡◌, ◌∙◌, inl, inr, ℕ, ◌+◌, ◌-◌, ◌<◌, ◌≤◌, true, false, List, [], ◌∷◌, ◌++◌, length, take, drop, Option, None, Some, ap, append_assoc, arith, length-drop, refl, subst, sym}
use Rattle.std.specs.List.{AllByRecursion}
use Rattle.std.proofs.Math.Seq.{take-add, take-length}
use Rattle.std.proofs.lemmas.List.{append-nil, take-append-drop}
use Rattle.resp_frames.proofs.Ends.{take_whole}
use Rattle.resp_session.specs.Replies.{error}
use Rattle.resp_value.specs.Bounds.{Bounds}
use Rattle.resp_value.specs.Canonical.{canonical_text}
use Rattle.resp_value.specs.declared.version.Version.TheVariants.{Two}
use Rattle.resp_server.specs.Outcomes.{Standing}
use Rattle.resp_server.specs.Parts.{IsPart, Part, texts_in}
use Rattle.resp_server.specs.Rejections.{Rejects, rejection_text}
use Rattle.resp_server.specs.Doing.{standing_of, waiting_of}
use Rattle.resp_server.specs.Servers.{ServerState}
use Rattle.resp_server.specs.Taking.{DoesParts, HasUnfinished, IsOpenBefore, Progress, Takes, TakesFirst, TakesOne, TakesPart, WaitsFewBefore, WhereUnfinished, after_parts, after_rejection, after_request, closed, progress_of}
use Rattle.resp_server.specs.declared.databases.client.Client.{Client}
use Rattle.resp_server.specs.declared.databases.rejection.Rejection.{Rejection}
use Rattle.resp_server.proofs.Runs.{progress_at}

parts_last : (parts : List Part) (part : Part) (p : Progress) → after_parts (parts ++ part ∷ []) p ≡ after_request part.asked (after_parts parts p)
parts_last [] part p = refl
parts_last (other ∷ parts) part p = parts_last parts part (after_request other.asked p)

texts_last : (parts : List Part) (part : Part) → texts_in (parts ++ part ∷ []) ≡ texts_in parts ++ part.text
texts_last [] part = append-nil part.text
texts_last (other ∷ parts) part = ap (λ text. other.text ++ text) (texts_last parts part) ∙ sym (append_assoc other.text (texts_in parts) part.text)

all_last : (P : Part → Type 0) (parts : List Part) (part : Part) → AllByRecursion P parts → P part → AllByRecursion P (parts ++ part ∷ [])
all_last P [] part all last = (last, tt)
all_last P (other ∷ parts) part all last = (all.0, all_last P parts part all.1 last)

open_last : (parts : List Part) (part : Part) (p : Progress) → IsOpenBefore parts p → (after_parts parts p).client.closing ≡ false →
    IsOpenBefore (parts ++ part ∷ []) p
open_last [] part p each last = (last, tt)
open_last (other ∷ parts) part p each last = (each.0, open_last parts part (after_request other.asked p) each.1 last)

few_last : (held : ℕ) (parts : List Part) (part : Part) (p : Progress) → WaitsFewBefore held parts p → length (after_parts parts p).waiting ≤ held →
    WaitsFewBefore held (parts ++ part ∷ []) p
few_last held [] part p each last = (last, tt)
few_last held (other ∷ parts) part p each last = (each.0, few_last held parts part (after_request other.asked p) each.1 last)

-- more bytes came, and no request has ended
pub does_bytes : (limits : Bounds) (parts : List Part) (bytes rest more : List ℕ) (p q : Progress) → DoesParts limits parts bytes rest p q →
    DoesParts limits parts (bytes ++ more) (rest ++ more) p q
does_bytes limits parts bytes rest more p q d = record {
  whole = ap (λ b. b ++ more) d.whole ∙ append_assoc (texts_in parts) rest more;
  requests = d.requests;
  is_open = d.is_open;
  done = d.done;
}

-- one more request was done
does_part : (limits : Bounds) (parts : List Part) (bytes rest more : List ℕ) (p q r : Progress) → DoesParts limits parts bytes rest p q →
    q.client.closing ≡ false → (t : TakesPart limits (rest ++ more) q r) →
    DoesParts limits (parts ++ record { text = rest ++ more; asked = t.asked } ∷ []) (bytes ++ more) [] p r
does_part limits parts bytes rest more p q r d is_open t =
    let part : Part = record { text = rest ++ more; asked = t.asked } in
    record {
      whole = ap (λ b. b ++ more) d.whole ∙ append_assoc (texts_in parts) rest more ∙ sym (texts_last parts part) ∙
          sym (append-nil (texts_in (parts ++ part ∷ [])));
      requests = all_last (IsPart limits) parts part d.requests t.request;
      is_open = open_last parts part p d.is_open (subst (λ (s : Progress). s.client.closing ≡ false) d.done is_open);
      done = t.done ∙ ap (after_request t.asked) d.done ∙ sym (parts_last parts part p);
    }

-- requests of the bytes were done, and the client has begun a request with the rest
pub record TakesSoFar (held : ℕ) (bytes : List ℕ) (old new : ServerState) (before after : Client) : Type 0 where
  pub parts : List Part
  pub rest : List ℕ
  pub does : DoesParts old.limits parts bytes rest (progress_of old before) (progress_of new after)
  pub few : WaitsFewBefore held parts (progress_of old before)
  pub begun : HasUnfinished old.limits after rest

-- these bytes of a piece were taken
pub record HasTaken (held : ℕ) (old new : ServerState) (before after : Client) (piece : List ℕ) (used : ℕ) : Type 0 where
  pub within : used ≤ length piece
  pub same_server : new ≡ record old { stores = new.stores }
  pub same_waiting : used ≡ 0 → waiting_of after ≡ waiting_of before
  pub taken : WhereUnfinished old before (λ front. TakesSoFar held (front ++ take used piece) old new before after)

-- only the stores are changed, twice
pub same_twice : (s0 s1 s2 : ServerState) → s1 ≡ record s0 { stores = s1.stores } → s2 ≡ record s1 { stores = s2.stores } →
    s2 ≡ record s0 { stores = s2.stores }
same_twice s0 s1 s2 first second = second ∙ ap (λ (v : ServerState). record v { stores = s2.stores }) first

pub same_limits : (s0 s1 : ServerState) → s1 ≡ record s0 { stores = s1.stores } → s1.limits ≡ s0.limits
same_limits s0 s1 same = ap (λ (v : ServerState). v.limits) same

-- the bytes after the first, as a slice gives them
abbrev pub rest_of : ℕ → List ℕ → List ℕ
rest_of used piece = take (length piece - used) (drop used piece)

pub whole_rest : (used : ℕ) (piece : List ℕ) → rest_of used piece ≡ drop used piece
whole_rest used piece = take_whole (length piece - used) (drop used piece) (sym (length-drop used piece))

one_done : (limits : Bounds) (front piece : List ℕ) (found : Option ℕ) (count : ℕ) (p q : Progress) (c : Client) → found ≡ Some count →
    TakesOne limits front piece found p q c → HasUnfinished limits c [] × TakesPart limits (front ++ take count piece) p q
one_done limits front piece found count p q c is t = subst (λ f. TakesOne limits front piece f p q c) is t

none_done : (limits : Bounds) (front piece : List ℕ) (found : Option ℕ) (p q : Progress) (c : Client) → found ≡ None →
    TakesOne limits front piece found p q c → HasUnfinished limits c (front ++ piece) × (q ≡ p)
none_done limits front piece found p q c is t = subst (λ f. TakesOne limits front piece f p q c) is t

-- the bytes of the piece, in two parts
pub joined : (front : List ℕ) (used count : ℕ) (piece : List ℕ) →
    (front ++ take used piece) ++ take count (drop used piece) ≡ front ++ take (used + count) piece
joined front used count piece =
    append_assoc front (take used piece) (take count (drop used piece)) ∙ ap (λ b. front ++ b) (sym (take-add used count piece))

pub joined_whole : (front : List ℕ) (used : ℕ) (piece : List ℕ) → (front ++ take used piece) ++ drop used piece ≡ front ++ piece
joined_whole front used piece =
    append_assoc front (take used piece) (drop used piece) ∙ ap (λ b. front ++ b) (take-append-drop used piece)

-- the requests that were done, of all bytes
does_whole : (limits : Bounds) (parts : List Part) (front piece rest : List ℕ) (used : ℕ) (p q : Progress) →
    DoesParts limits parts (front ++ take used piece) rest p q → DoesParts limits parts (front ++ piece) (rest ++ drop used piece) p q
does_whole limits parts front piece rest used p q d =
    subst (λ b. DoesParts limits parts b (rest ++ drop used piece) p q) (joined_whole front used piece)
    (does_bytes limits parts (front ++ take used piece) rest (drop used piece) p q d)

-- the loop has taken one more request
pub more_taken : (held : ℕ) (s0 s1 s2 : ServerState) (c0 c1 c2 : Client) (piece : List ℕ) (used count : ℕ) (found : Option ℕ) →
    HasTaken held s0 s1 c0 c1 piece used → found ≡ Some count → 0 < count → used + count ≤ length piece → (standing_of c1).closing ≡ false →
    length (waiting_of c1) ≤ held → s2 ≡ record s1 { stores = s2.stores } →
    WhereUnfinished s1 c1 (λ front. TakesOne s1.limits front (rest_of used piece) found (progress_of s1 c1) (progress_of s2 c2) c2) →
    HasTaken held s0 s2 c0 c2 piece (used + count)
more_taken held s0 s1 s2 c0 c1 c2 piece used count found h is some within is_open few same taken =
    let limits = same_limits s0 s1 h.same_server in
    let more = take count (drop used piece) in
    let first = progress_of s0 c0 in
    let p = progress_of s1 c1 in
    let q = progress_of s2 c2 in
    record {
      within = within;
      same_server = same_twice s0 s1 s2 h.same_server same;
      same_waiting = λ none. absurd (omega (arith, none, some));
      taken = λ front begun.
          let t = h.taken front begun in
          let one : HasUnfinished s0.limits c2 [] × TakesPart s0.limits (t.rest ++ more) p q =
          subst (λ l. HasUnfinished l c2 [] × TakesPart l (t.rest ++ more) p q) limits
          (one_done s1.limits t.rest (drop used piece) found count p q c2 is
          (subst (λ r. TakesOne s1.limits t.rest r found p q c2) (whole_rest used piece)
          (taken t.rest (subst (λ l. HasUnfinished l c1 t.rest) (sym limits) t.begun)))) in
          let part : Part = record { text = t.rest ++ more; asked = one.1.asked } in
          record {
            parts = t.parts ++ part ∷ [];
            rest = [];
            does = subst (λ b. DoesParts s0.limits (t.parts ++ part ∷ []) b [] first q) (joined front used count piece)
                (does_part s0.limits t.parts (front ++ take used piece) t.rest more first p q t.does is_open one.1);
            few = few_last held t.parts part first t.few (subst (λ (s : Progress). length s.waiting ≤ held) t.does.done few);
            begun = one.0;
          };
    }

-- the loop has taken all bytes, and no request has ended
pub all_taken : (held : ℕ) (s0 s1 s2 : ServerState) (c0 c1 c2 : Client) (piece : List ℕ) (used : ℕ) (found : Option ℕ) →
    HasTaken held s0 s1 c0 c1 piece used → found ≡ None → (standing_of c1).closing ≡ false →
    WhereUnfinished s1 c1 (λ front. TakesOne s1.limits front (rest_of used piece) found (progress_of s1 c1) (progress_of s2 c2) c2) →
    WhereUnfinished s0 c0 (λ front. Takes held (front ++ piece) s0 s2 c0 c2)
all_taken held s0 s1 s2 c0 c1 c2 piece used found h is is_open taken front begun =
    let limits = same_limits s0 s1 h.same_server in
    let p = progress_of s1 c1 in
    let q = progress_of s2 c2 in
    let t = h.taken front begun in
    let rest = t.rest ++ drop used piece in
    let none : HasUnfinished s0.limits c2 rest × (q ≡ p) =
    subst (λ l. HasUnfinished l c2 rest × (q ≡ p)) limits
    (none_done s1.limits t.rest (drop used piece) found p q c2 is
    (subst (λ r. TakesOne s1.limits t.rest r found p q c2) (whole_rest used piece)
    (taken t.rest (subst (λ l. HasUnfinished l c1 t.rest) (sym limits) t.begun)))) in
    record {
      parts = t.parts;
      rest = rest;
      reached = p;
      does = does_whole s0.limits t.parts front piece t.rest used (progress_of s0 c0) p t.does;
      ends = inl (record { is_open = is_open; same = none.1; begun = none.0 });
      few = t.few;
      few_last = inl (ap (λ (s : Progress). s.waiting) none.1);
    }

-- all bytes of the piece were used
pub of_whole : (held : ℕ) (s0 s2 : ServerState) (c0 c2 : Client) (piece : List ℕ) → WhereUnfinished s0 c0 (λ front. Takes held (front ++ piece) s0 s2 c0 c2) →
    WhereUnfinished s0 c0 (λ front. Takes held (front ++ take (length piece) piece) s0 s2 c0 c2)
of_whole held s0 s2 c0 c2 piece taken front begun =
    subst (λ b. Takes held (front ++ b) s0 s2 c0 c2) (sym (take-length piece)) (taken front begun)

-- the client was closed without a reply
pub closed_progress : (s : ServerState) (c c' : Client) → standing_of c' ≡ record (standing_of c) { closing = true } → waiting_of c' ≡ waiting_of c →
    progress_of s c' ≡ closed (progress_of s c)
closed_progress s c c' standing waiting =
    ap (λ (a : Standing). progress_at s.stores a (waiting_of c')) standing ∙
    ap (λ (w : List ℕ). progress_at s.stores (record (standing_of c) { closing = true }) w) waiting

-- the client was closed after an error reply
pub rejected_progress : (s : ServerState) (c c' : Client) (why : Rejection) → standing_of c' ≡ record (standing_of c) { closing = true } →
    waiting_of c' ≡ waiting_of c ++ canonical_text Two (error (rejection_text why)) → progress_of s c' ≡ after_rejection why (progress_of s c)
rejected_progress s c c' why standing waiting =
    ap (λ (a : Standing). progress_at s.stores a (waiting_of c')) standing ∙
    ap (λ (w : List ℕ). progress_at s.stores (record (standing_of c) { closing = true }) w) waiting

-- the loop ends at bytes that are rejected, and the reply is queued
pub rejected_taken : (held : ℕ) (s0 s1 s2 : ServerState) (c0 c1 c2 c3 : Client) (piece : List ℕ) (used : ℕ) (why : Rejection) →
    HasTaken held s0 s1 c0 c1 piece used → (standing_of c1).closing ≡ false → length (waiting_of c1) ≤ held → progress_of s2 c2 ≡ progress_of s1 c1 →
    WhereUnfinished s1 c1 (λ front. Rejects s1.limits (front ++ rest_of used piece) why) →
    standing_of c3 ≡ record (standing_of c2) { closing = true } →
    waiting_of c3 ≡ waiting_of c2 ++ canonical_text Two (error (rejection_text why)) → ((limits : Bounds) → HasUnfinished limits c3 []) →
    WhereUnfinished s0 c0 (λ front. Takes held (front ++ piece) s0 s2 c0 c3)
rejected_taken held s0 s1 s2 c0 c1 c2 c3 piece used why h is_open few kept rejects standing waiting nothing front begun =
    let limits = same_limits s0 s1 h.same_server in
    let p = progress_of s1 c1 in
    let t = h.taken front begun in
    let rest = t.rest ++ drop used piece in
    record {
      parts = t.parts;
      rest = rest;
      reached = p;
      does = does_whole s0.limits t.parts front piece t.rest used (progress_of s0 c0) p t.does;
      ends = inr (inl (record {
        is_open = is_open;
        why = why;
        rejected = subst (λ l. Rejects l rest why) limits (subst (λ r. Rejects s1.limits (t.rest ++ r) why) (whole_rest used piece)
            (rejects t.rest (subst (λ l. HasUnfinished l c1 t.rest) (sym limits) t.begun)));
        replied = rejected_progress s2 c2 c3 why standing waiting ∙ ap (after_rejection why) kept;
        begun = nothing s0.limits;
      }));
      few = t.few;
      few_last = inr few;
    }

-- the loop ends without memory
pub failed_taken : (held : ℕ) (s0 s1 s2 : ServerState) (c0 c1 c2 c3 : Client) (piece : List ℕ) (used : ℕ) →
    HasTaken held s0 s1 c0 c1 piece used → progress_of s2 c2 ≡ progress_of s1 c1 → standing_of c3 ≡ record (standing_of c2) { closing = true } →
    waiting_of c3 ≡ waiting_of c2 → ((limits : Bounds) → HasUnfinished limits c3 []) →
    WhereUnfinished s0 c0 (λ front. TakesFirst held (front ++ piece) s0 s2 c0 c3)
failed_taken held s0 s1 s2 c0 c1 c2 c3 piece used h kept standing waiting nothing front begun =
    let p = progress_of s1 c1 in
    let t = h.taken front begun in
    record {
      parts = t.parts;
      rest = t.rest ++ drop used piece;
      reached = p;
      does = does_whole s0.limits t.parts front piece t.rest used (progress_of s0 c0) p t.does;
      closing = closed_progress s2 c2 c3 standing waiting ∙ ap closed kept;
      begun = nothing s0.limits;
      few = t.few;
    }

still_closed : (c : Standing) → c.closing ≡ true → record c { closing = true } ≡ c
still_closed c closing = ap (λ b. record c { closing = b }) (sym closing)

-- the loop ends since the client is closing
pub ignored_taken : (held : ℕ) (s0 s1 : ServerState) (c0 c1 c2 : Client) (piece : List ℕ) (used : ℕ) → HasTaken held s0 s1 c0 c1 piece used →
    (standing_of c1).closing ≡ true → standing_of c2 ≡ record (standing_of c1) { closing = true } → waiting_of c2 ≡ waiting_of c1 →
    ((limits : Bounds) → HasUnfinished limits c2 []) → WhereUnfinished s0 c0 (λ front. Takes held (front ++ piece) s0 s1 c0 c2)
ignored_taken held s0 s1 c0 c1 c2 piece used h closing standing waiting nothing front begun =
    let p = progress_of s1 c1 in
    let t = h.taken front begun in
    record {
      parts = t.parts;
      rest = t.rest ++ drop used piece;
      reached = p;
      does = does_whole s0.limits t.parts front piece t.rest used (progress_of s0 c0) p t.does;
      ends = inr (inr (record {
        closing = closing;
        same = closed_progress s1 c1 c2 standing waiting ∙
            ap (λ (a : Standing). progress_at s1.stores a (waiting_of c1)) (still_closed (standing_of c1) closing);
        begun = nothing s0.limits;
      }));
      few = t.few;
      few_last = inl waiting;
    }

-- the loop ends between two requests
pub some_taken : (held : ℕ) (s0 s1 : ServerState) (c0 c1 : Client) (piece : List ℕ) (used : ℕ) → HasTaken held s0 s1 c0 c1 piece used →
    (standing_of c1).closing ≡ false → WhereUnfinished s0 c0 (λ front. Takes held (front ++ take used piece) s0 s1 c0 c1)
some_taken held s0 s1 c0 c1 piece used h is_open front begun =
    let t = h.taken front begun in
    record {
      parts = t.parts;
      rest = t.rest;
      reached = progress_of s1 c1;
      does = t.does;
      ends = inl (record { is_open = is_open; same = refl; begun = t.begun });
      few = t.few;
      few_last = inl refl;
    }
