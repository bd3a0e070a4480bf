-- The replies to probes.
use Rattle.std.proofs.Common.{◌≡◌, ◌∙◌, ◌⊎◌, inl, inr, ℕ, ◌==◌, true, false, List, ◌++◌, take, Option, None, Some, Result, Ok, Err, IfSome, is_ok, ap, length, subst, sym}
use Rattle.std.proofs.Math.Seq.{take-length}
use Rattle.std.proofs.lemmas.List.{take_at}
use Rattle.std.specs.Prelude.{OnOk, is_err}
use Rattle.std.specs.List.{starts_with}
use Rattle.std.proofs.lemmas.Bool.{true≢false}
use Rattle.resp_frames.specs.declared.begun.Begun.{Begun}
use Rattle.resp_frames.specs.declared.frames.Frames.{Frames}
use Rattle.resp_frames.specs.Framing.{HasBegun, WhereBegun, frame_rules}
use Rattle.resp_board.specs.Histories.{History, with_given}
use Rattle.resp_board.specs.Runs.{HasRun, KeepsOthers, KeepsBytes, WhereRun}
use Rattle.resp_board.specs.declared.board.Board.{Board}
use Rattle.resp_board.specs.declared.ticket.ClientId.{ClientId}
use Rattle.resp_proxy.proofs.Replyings.{OneReply, one-reply}
use Rattle.resp_proxy.proofs.Takings.{rest-of}
use Rattle.resp_proxy.specs.Probing.{AreInStep, FallsOutOfStep, IsAnother, KeepsStep}
use Rattle.resp_proxy.specs.Rejecting.{RejectsReply}
use Rattle.resp_proxy.specs.declared.error.ServerError.{ServerError}
use Rattle.resp_proxy.specs.declared.error.ServerError.TheVariants as error
use Rattle.resp_value.specs.Rules.{Rules}
use Rattle.resp_proxy.specs.Replying.{HasReplied, with_each_reply}
use Rattle.resp_proxy.specs.declared.replies.Replied.{Replied}

-- the text begins as expected, if there is one
abbrev pub Begins : List ℕ → Option (List ℕ) → Type 0
Begins expected waiting = IfSome waiting (λ text. starts_with (λ a b. a == b) expected text ≡ true)

-- another client was given a reply, or the replies to probes are the expected ones
pub next-step : (prober : Option ClientId) (expected : List ℕ) (client : ClientId) (mid new : Board) → AreInStep prober expected mid →
    KeepsOthers client mid new → IsAnother prober client ⊎ AreInStep prober expected new → AreInStep prober expected new
next-step None expected client mid new h others either = tt
next-step (Some who) expected client mid new h others (inl other) =
    subst (Begins expected) (sym (others who other)) h
next-step (Some who) expected client mid new h others (inr here) = here

-- the reply that was given last is not the expected one
pub falls : (line : ℕ) (prober : Option ClientId) (expected : List ℕ) (f f1 : Frames) (b b1 b2 : Begun) (old mid new : Board) (queued queued1 : List ClientId)
    (piece : List ℕ) (used : ℕ) (found : Option Replied) (reply : Replied) → HasReplied line f b old queued piece used f1 b1 mid queued1 → found ≡ Some reply →
    WhereBegun f1 b1 (λ front. WhereRun mid (λ p. IfSome found (λ r. OneReply (frame_rules f1) line front (rest-of used piece) b2 r.used p new))) →
    AreInStep prober expected mid → (AreInStep prober expected new → ⊥) →
    WhereBegun f b (λ front. WhereRun old (λ p. FallsOutOfStep line prober expected p new))
falls line prober expected f f1 b b1 b2 old mid new queued queued1 piece used found reply h e taken step wrong r front begun p passed =
    let t = h.taken r front begun p passed in
    let q = with_each_reply line t.replies p in
    let one : OneReply (frame_rules f1) line t.after (rest-of used piece) b2 reply.used q new =
    one-reply (frame_rules f1) line t.after (rest-of used piece) b2 found reply q new e
    (taken (h.ready r) t.after (subst (λ rules. HasBegun rules b1 t.after) (sym h.same_rules) t.begun) q t.run) in
    record {
      before = t.replies;
      last = t.after ++ take reply.used (rest-of used piece);
      between = mid;
      run_before = t.run;
      in_step = step;
      run = one.2;
      wrong = wrong;
    }

-- all bytes that waited were given
pub all-given : (waiting : Option (List ℕ)) (text : List ℕ) (count : ℕ) (who : ClientId) (new : Board) (p : History) → waiting ≡ Some text →
    count ≡ length text → IfSome waiting (λ t. HasRun new (with_given who (take count t) p)) → IfSome waiting (λ t. HasRun new (with_given who t p))
all-given waiting text count who new p e n h =
    subst (λ o. IfSome o (λ t. HasRun new (with_given who t p))) (sym e)
    (subst (λ t. HasRun new (with_given who t p)) (ap (λ k. take k text) n ∙ take-length text)
    (subst (λ o. IfSome o (λ t. HasRun new (with_given who (take count t) p))) e h))

-- bytes that were appended and then removed
pub cut-again : {E : Type 0} (r : Result (Unit {0}) E) (old grown cut text : List ℕ) (n : ℕ) → is_err r ≡ false → OnOk r (grown ≡ old ++ text) →
    n ≡ length old → cut ≡ take n grown → cut ≡ old
cut-again (Ok v) old grown cut text n fine e l is = is ∙ ap (take n) e ∙ take_at old text n (sym l)
cut-again (Err v) old grown cut text n fine e l is = absurd (true≢false fine)

-- nobody got a reply
pub still-in-step : (prober : Option ClientId) (expected : List ℕ) (mid new : Board) → AreInStep prober expected mid → KeepsBytes mid new →
    AreInStep prober expected new
still-in-step None expected mid new h kept = tt
still-in-step (Some who) expected mid new h kept = subst (Begins expected) (sym (kept who)) h

-- bytes that bring no reply change nothing
pub step-kept : (rules : Rules) (line : ℕ) (prober : Option ClientId) (expected text : List ℕ) (e : ServerError) (old : Board) (p : History) (new : Board) →
    RejectsReply rules line new text e → AreInStep prober expected new → KeepsStep line prober expected (Err e) old p new
step-kept rules line prober expected text (error.Frame e) old p new r step = step
step-kept rules line prober expected text error.Push old p new r step = step
step-kept rules line prober expected text error.Unasked old p new r step = step
step-kept rules line prober expected text error.OutOfMemory old p new r step = step
step-kept rules line prober expected text error.OutOfStep old p new r step = absurd r

-- bytes that are sent change nothing
pub step-sent : (line : ℕ) (prober : Option ClientId) (expected : List ℕ) (end : Result (Unit {0}) ServerError) (old : Board) (p : History) (mid new : Board) →
    is_ok end ≡ true → KeepsBytes mid new → KeepsStep line prober expected end old p mid → KeepsStep line prober expected end old p new
step-sent line prober expected (Ok x) old p mid new fine kept step = still-in-step prober expected mid new step kept
step-sent line prober expected (Err e) old p mid new fine kept step = absurd (true≢false (sym fine))

-- what follows for each number
pub if-some : (o : Option ℕ) (P Q : Type 0) → (P → Q) → IfSome o (λ n. P) → IfSome o (λ n. Q)
if-some None P Q f p = tt
if-some (Some n) P Q f p = f p
