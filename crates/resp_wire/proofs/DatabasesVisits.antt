-- What a connection has done, step by step.
use Rattle.std.proofs.Common.{◌≡◌, ◌∙◌, inl, inr, ℕ, true, false, List, [], ◌∷◌, ◌++◌, take, Option, None, Some, Result, Ok, Err, ap, append_assoc, drop, refl, subst, sym}
use Rattle.std.specs.List.{AllByRecursion}
use Rattle.std.proofs.lemmas.Bool.{false≢true}
use Rattle.std.proofs.lemmas.List.{take-append-drop}
use Rattle.resp_session.specs.Replies.{error}
use Rattle.resp_value.specs.Bounds.{Bounds}
use Rattle.resp_value.specs.Canonical.{canonical_text}
use Rattle.resp_io.specs.Devices.{Appends}
use Rattle.resp_value.specs.declared.version.Version.TheVariants.{Two}
use Rattle.resp_wire.specs.Visits.{GoesOnWith, Sends, ServesBy}
use Rattle.resp_wire.specs.declared.error.ServeError.{ServeError}
use Rattle.resp_wire.specs.declared.error.ServeError.TheVariants.{NoSession, OutOfMemory, Read, TooManyTurns, Write}
use Rattle.resp_server.specs.Deeds.{Asked}
use Rattle.resp_server.specs.Outcomes.{Standing, outcome_of}
use Rattle.resp_server.specs.Parts.{IsPart, Part, texts_in}
use Rattle.resp_server.specs.Rejections.{rejection_text}
use Rattle.resp_server.specs.Doing.{standing_of, waiting_of}
use Rattle.resp_server.specs.Servers.{ServerState}
use Rattle.resp_server.specs.Taking.{Begins, DoesParts, Ends, HasUnfinished, IsOpenBefore, KeepsUnfinished, Progress, Takes, TakesFirst, WhereUnfinished, after_parts, after_rejection, after_request, progress_of}
use Rattle.resp_wire.specs.DatabasesClients.{CutsClient, Serves, ServesClient, ServesFirst, WritesText, with_written}
use Rattle.resp_server.specs.declared.databases.client.Client.{Client}
use Rattle.resp_server.proofs.Runs.{progress_at}
use Rattle.resp_server.proofs.Takings.{same_limits, same_twice}

-- a request appends to the bytes that wait, and reads none of them
written_request : (text : List ℕ) (asked : Option Asked) (p : Progress) → after_request asked (with_written text p) ≡ with_written text (after_request asked p)
written_request text None p = refl
written_request text (Some asked) p =
    let o = outcome_of p.stores p.client asked in
    ap (λ (w : List ℕ). progress_at o.stores o.client w) (append_assoc text p.waiting (canonical_text o.client.version o.reply))

written_parts : (text : List ℕ) (parts : List Part) (p : Progress) → after_parts parts (with_written text p) ≡ with_written text (after_parts parts p)
written_parts text [] p = refl
written_parts text (part ∷ parts) p =
    ap (after_parts parts) (written_request text part.asked p) ∙ written_parts text parts (after_request part.asked p)

written_open : (text : List ℕ) (parts : List Part) (p : Progress) → IsOpenBefore parts p → IsOpenBefore parts (with_written text p)
written_open text [] p each = tt
written_open text (part ∷ parts) p each =
    (each.0, subst (IsOpenBefore parts) (sym (written_request text part.asked p)) (written_open text parts (after_request part.asked p) each.1))

-- Parts and then others.

parts_more : (parts others : List Part) (p : Progress) → after_parts (parts ++ others) p ≡ after_parts others (after_parts parts p)
parts_more [] others p = refl
parts_more (part ∷ parts) others p = parts_more parts others (after_request part.asked p)

texts_more : (parts others : List Part) → texts_in (parts ++ others) ≡ texts_in parts ++ texts_in others
texts_more [] others = refl
texts_more (part ∷ parts) others =
    ap (λ text. part.text ++ text) (texts_more parts others) ∙ sym (append_assoc part.text (texts_in parts) (texts_in others))

all_more : (P : Part → Type 0) (parts others : List Part) → AllByRecursion P parts → AllByRecursion P others → AllByRecursion P (parts ++ others)
all_more P [] others all more = more
all_more P (part ∷ parts) others all more = (all.0, all_more P parts others all.1 more)

open_more : (parts others : List Part) (p : Progress) → IsOpenBefore parts p → IsOpenBefore others (after_parts parts p) → IsOpenBefore (parts ++ others) p
open_more [] others p each more = more
open_more (part ∷ parts) others p each more = (each.0, open_more parts others (after_request part.asked p) each.1 more)

-- requests were done, this text was written, and then more requests were done
does_more : (limits limits' : Bounds) (parts others : List Part) (bytes rest more rest' text : List ℕ) (p q q' r : Progress) → limits' ≡ limits →
    DoesParts limits parts bytes rest p q → with_written text q' ≡ q → DoesParts limits' others (rest ++ more) rest' q' r →
    DoesParts limits (parts ++ others) (bytes ++ more) rest' p (with_written text r)
does_more limits limits' parts others bytes rest more rest' text p q q' r same first is second = record {
  whole = ap (λ b. b ++ more) first.whole ∙ append_assoc (texts_in parts) rest more ∙ ap (λ b. texts_in parts ++ b) second.whole ∙
      sym (append_assoc (texts_in parts) (texts_in others) rest') ∙ ap (λ b. b ++ rest') (sym (texts_more parts others));
  requests = all_more (IsPart limits) parts others first.requests (subst (λ l. AllByRecursion (IsPart l) others) same second.requests);
  is_open = open_more parts others p first.is_open
      (subst (IsOpenBefore others) (is ∙ first.done) (written_open text others q' second.is_open));
  done = ap (with_written text) second.done ∙ sym (written_parts text others q') ∙ ap (after_parts others) (is ∙ first.done) ∙
      sym (parts_more parts others p);
}

-- the same end, after this text was written
ends_written : (limits : Bounds) (rest text : List ℕ) (r q : Progress) (c : Client) → Ends limits rest r q c →
    Ends limits rest (with_written text r) (with_written text q) c
ends_written limits rest text r q c (inl b) = inl (record { is_open = b.is_open; same = ap (with_written text) b.same; begun = b.begun })
ends_written limits rest text r q c (inr (inl e)) = inr (inl (record {
  is_open = e.is_open;
  why = e.why;
  rejected = e.rejected;
  replied = ap (with_written text) e.replied ∙ ap (λ (w : List ℕ). progress_at r.stores (record r.client { closing = true }) w)
      (sym (append_assoc text r.waiting (canonical_text Two (error (rejection_text e.why)))));
  begun = e.begun;
}))
ends_written limits rest text r q c (inr (inr i)) = inr (inr (record { closing = i.closing; same = ap (with_written text) i.same; begun = i.begun }))

-- the same end, after a change of the client that keeps its progress and what it has begun
ends_kept : (limits : Bounds) (rest : List ℕ) (r q q' : Progress) (c c' : Client) → Ends limits rest r q c → q' ≡ q → KeepsUnfinished c c' →
    Ends limits rest r q' c'
ends_kept limits rest r q q' c c' (inl b) is keeps = inl (record { is_open = b.is_open; same = is ∙ b.same; begun = keeps limits rest b.begun })
ends_kept limits rest r q q' c c' (inr (inl e)) is keeps = inr (inl (record {
  is_open = e.is_open;
  why = e.why;
  rejected = e.rejected;
  replied = is ∙ e.replied;
  begun = keeps limits [] e.begun;
}))
ends_kept limits rest r q q' c c' (inr (inr i)) is keeps = inr (inr (record {
  closing = i.closing;
  same = is ∙ i.same;
  begun = keeps limits [] i.begun;
}))

-- an open client has begun a request with the rest
begins_open : (limits : Bounds) (rest text : List ℕ) (r : Progress) (s : ServerState) (c : Client) → (standing_of c).closing ≡ false →
    Ends limits rest r (with_written text (progress_of s c)) c → Begins limits rest r (with_written text (progress_of s c)) c
begins_open limits rest text r s c is_open (inl b) = b
begins_open limits rest text r s c is_open (inr (inl e)) =
    absurd (false≢true (sym is_open ∙ ap (λ (p : Progress). p.client.closing) e.replied))
begins_open limits rest text r s c is_open (inr (inr i)) =
    absurd (false≢true (sym is_open ∙ ap (λ (p : Progress). p.client.closing) i.same ∙ i.closing))

-- more bytes were taken
pub serves_taken : (bytes more text : List ℕ) (held : ℕ) (s0 s1 s2 : ServerState) (c0 c1 c2 : Client) → s1.limits ≡ s0.limits →
    (standing_of c1).closing ≡ false → Serves bytes text s0 s1 c0 c1 → WhereUnfinished s1 c1 (λ front. Takes held (front ++ more) s1 s2 c1 c2) →
    Serves (bytes ++ more) text s0 s2 c0 c2
serves_taken bytes more text held s0 s1 s2 c0 c1 c2 same is_open served taken =
    let b = begins_open s0.limits served.rest text served.reached s1 c1 is_open served.ends in
    let t = taken served.rest (subst (λ l. HasUnfinished l c1 served.rest) (sym same) b.begun) in
    record {
      parts = served.parts ++ t.parts;
      rest = t.rest;
      reached = with_written text t.reached;
      does = does_more s0.limits s1.limits served.parts t.parts bytes served.rest more t.rest text (progress_of s0 c0) served.reached (progress_of s1 c1)
          t.reached same served.does b.same t.does;
      ends = subst (λ l. Ends l t.rest (with_written text t.reached) (with_written text (progress_of s2 c2)) c2) same
          (ends_written s1.limits t.rest text t.reached (progress_of s2 c2) c2 t.ends);
    }

-- more bytes were taken, and memory ran out
pub serves_failed : (bytes more text : List ℕ) (held : ℕ) (s0 s1 s2 : ServerState) (c0 c1 c2 : Client) → s1.limits ≡ s0.limits →
    (standing_of c1).closing ≡ false → Serves bytes text s0 s1 c0 c1 → WhereUnfinished s1 c1 (λ front. TakesFirst held (front ++ more) s1 s2 c1 c2) →
    ServesFirst (bytes ++ more) text s0 s2 c0 c2
serves_failed bytes more text held s0 s1 s2 c0 c1 c2 same is_open served taken =
    let b = begins_open s0.limits served.rest text served.reached s1 c1 is_open served.ends in
    let t = taken served.rest (subst (λ l. HasUnfinished l c1 served.rest) (sym same) b.begun) in
    record {
      parts = served.parts ++ t.parts;
      rest = t.rest;
      reached = with_written text t.reached;
      does = does_more s0.limits s1.limits served.parts t.parts bytes served.rest more t.rest text (progress_of s0 c0) served.reached (progress_of s1 c1)
          t.reached same served.does b.same t.does;
      closing = ap (with_written text) t.closing;
      begun = subst (λ l. HasUnfinished l c2 []) same t.begun;
    }

-- bytes that waited were written
written_progress : (s : ServerState) (c c' : Client) (text more : List ℕ) → WritesText s c s c' more →
    with_written (text ++ more) (progress_of s c') ≡ with_written text (progress_of s c)
written_progress s c c' text more o =
    ap (λ (a : Standing). progress_at s.stores a ((text ++ more) ++ waiting_of c')) o.same_standing ∙
    ap (λ (l : List ℕ). progress_at s.stores (standing_of c) l) (append_assoc text more (waiting_of c') ∙ ap (λ l. text ++ l) (sym o.parts))

serves_written : (bytes text more : List ℕ) (s0 s1 : ServerState) (c0 c1 c2 : Client) → Serves bytes text s0 s1 c0 c1 → WritesText s1 c1 s1 c2 more →
    Serves bytes (text ++ more) s0 s1 c0 c2
serves_written bytes text more s0 s1 c0 c1 c2 served o = record {
  parts = served.parts;
  rest = served.rest;
  reached = served.reached;
  does = served.does;
  ends = ends_kept s0.limits served.rest served.reached (with_written text (progress_of s1 c1)) (with_written (text ++ more) (progress_of s1 c2)) c1 c2
      served.ends (written_progress s1 c1 c2 text more o) o.same_begun;
}

-- The client of a server.

-- the client was served, and then took these bytes
pub client_takes : (held : ℕ) (s1 s2 : ServerState) (c1 c2 : Client) (more : List ℕ) → (standing_of c1).closing ≡ false →
    s2 ≡ record s1 { stores = s2.stores } → WhereUnfinished s1 c1 (λ front. Takes held (front ++ more) s1 s2 c1 c2) →
    GoesOnWith ServesClient ServesClient s1 c1 s2 c2 more
client_takes held s1 s2 c1 c2 more is_open same taken = λ first client given text v. record {
  same_server = same_twice first s1 s2 v.same_server same;
  served = λ was_open front begun. subst (λ b. Serves b text first s2 client c2) (append_assoc front given more)
      (serves_taken (front ++ given) more text held first s1 s2 client c1 c2 (same_limits first s1 v.same_server) is_open (v.served was_open front begun)
      taken);
}

-- the client was served, and then memory ran out in these bytes
pub client_lacks : (held : ℕ) (s1 s2 : ServerState) (c1 c2 : Client) (more : List ℕ) → (standing_of c1).closing ≡ false →
    s2 ≡ record s1 { stores = s2.stores } → WhereUnfinished s1 c1 (λ front. TakesFirst held (front ++ more) s1 s2 c1 c2) →
    GoesOnWith ServesClient CutsClient s1 c1 s2 c2 more
client_lacks held s1 s2 c1 c2 more is_open same taken = λ first client given text v. record {
  same_server = same_twice first s1 s2 v.same_server same;
  stopped = λ was_open front begun. subst (λ b. ServesFirst b text first s2 client c2) (append_assoc front given more)
      (serves_failed (front ++ given) more text held first s1 s2 client c1 c2 (same_limits first s1 v.same_server) is_open (v.served was_open front begun)
      taken);
}

-- the first bytes that waited were written
pub client_writes : (s : ServerState) (c1 c2 : Client) (w w' : Option (List ℕ)) (text : List ℕ) (count : ℕ) → text ≡ waiting_of c1 →
    Appends w w' (take count text) → waiting_of c2 ≡ drop count (waiting_of c1) → standing_of c2 ≡ standing_of c1 → KeepsUnfinished c1 c2 →
    Sends (λ (most : ℕ). ServesClient) WritesText w w' s c1 s c2
client_writes s c1 c2 w w' text count is appended left same_standing same_begun =
    let more = take count (waiting_of c1) in
    let wrote : WritesText s c1 s c2 more = record {
      same_server = refl;
      parts = sym (take-append-drop count (waiting_of c1)) ∙ ap (λ l. more ++ l) (sym left);
      same_standing = same_standing;
      same_begun = same_begun;
    } in
    record {
      text = more;
      appended = subst (λ l. Appends w w' (take count l)) is appended;
      wrote = wrote;
      goes_on = λ most first client given came v. record {
        same_server = v.same_server;
        served = λ was_open front begun. serves_written (front ++ given) came more first s client c1 c2 (v.served was_open front begun) wrote;
      };
    }

-- Nothing of the server but its stores is changed, whatever the end of a visit is.
pub same_visit : {A : Type 0} → (old new : ServerState) (before after : Client) (end : Result A ServeError) (given text : List ℕ) →
    ServesBy (ServesClient old before) (CutsClient old before) end new after given text → new ≡ record old { stores = new.stores }
same_visit old new before after (Ok x) given text v = v.same_server
same_visit old new before after (Err NoSession) given text v = v.same_server
same_visit old new before after (Err OutOfMemory) given text v = v.same_server
same_visit old new before after (Err Read) given text v = v.same_server
same_visit old new before after (Err Write) given text v = v.same_server
same_visit old new before after (Err TooManyTurns) given text v = v.same_server
