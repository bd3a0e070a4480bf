-- How replies are taken, one after another.
use Rattle.std.proofs.Common.{◌≡◌, ◌∙◌, ℕ, ◌+◌, ◌<◌, ◌≤◌, List, [], ◌∷◌, ◌++◌, length, take, drop, Option, None, Some, IfNone, IfSome, IfErr, OnOk, Result, Ok, Err, ap, append_assoc, arith, refl, subst, sym}
use Rattle.std.specs.List.{AllByRecursion, concat}
use Rattle.std.proofs.Math.Seq.{take-add, take-length}
use Rattle.std.proofs.lemmas.List.{append-nil, take-append-drop}
use Rattle.std.proofs.lemmas.List.Folds.{concat-append}
use Rattle.resp_frames.specs.declared.begun.Begun.{Begun}
use Rattle.resp_frames.specs.declared.frames.Frames.{Frames}
use Rattle.resp_frames.specs.Framing.{HasBegun, IsReady, WhereBegun, frame_rules}
use Rattle.resp_board.specs.Boards.{Reply}
use Rattle.resp_board.specs.Histories.{History, with_event}
use Rattle.resp_board.specs.Runs.{HasRun, KeepsOpen, KeepsRun, WhereRun}
use Rattle.resp_board.specs.declared.board.Board.{Board}
use Rattle.resp_board.specs.declared.ticket.ClientId.{ClientId}
use Rattle.resp_proxy.specs.declared.error.ServerError.{ServerError}
use Rattle.resp_proxy.specs.declared.error.ServerError.TheVariants as error
use Rattle.resp_proxy.specs.declared.replies.Replied.{Replied}
use Rattle.resp_proxy.specs.Rejecting.{RefusesReply, RejectsReply}
use Rattle.resp_proxy.specs.Replying.{HasReplied, TakesReplies, with_each_reply}
use Rattle.resp_proxy.specs.Telling.{IsFor, Notes}
use Rattle.resp_proxy.proofs.Takings.{kept-clients, rest-of, whole-rest}
use Rattle.resp_proxy.proofs.Tellings.{answers-one, tells-one}
use Rattle.resp_scan.specs.Reading.{HasNoValue, IsSpelled}
use Rattle.resp_value.specs.Rules.{Rules}

replies-last : (line : ℕ) (replies : List (List ℕ)) (reply : List ℕ) (p : History) → with_each_reply line (replies ++ reply ∷ []) p ≡ with_event (Reply line reply) (with_each_reply line replies p)
replies-last line [] reply p = refl
replies-last line (r ∷ replies) reply p = replies-last line replies reply (with_event (Reply line r) p)

all-last : (P : List ℕ → Type 0) (xs : List (List ℕ)) (x : List ℕ) → AllByRecursion P xs → P x → AllByRecursion P (xs ++ x ∷ [])
all-last P [] x all last = (last, tt)
all-last P (y ∷ xs) x all last = (all.0, all-last P xs x all.1 last)

-- one reply ends after this many bytes of the piece
abbrev pub OneReply : Rules → ℕ → List ℕ → List ℕ → Begun → ℕ → History → Board → Type 0
OneReply rules line front piece b used p new =
    IsSpelled rules (front ++ take used piece) × HasBegun rules b [] × HasRun new (with_event (Reply line (front ++ take used piece)) p)

-- one more reply was taken
takes-reply : (rules : Rules) (line : ℕ) (bytes more : List ℕ) (b b' : Begun) (p : History) (mid new : Board) (t : TakesReplies rules line bytes b (Ok tt) p mid) →
    IsSpelled rules (t.after ++ more) × HasBegun rules b' [] × HasRun new (with_event (Reply line (t.after ++ more)) (with_each_reply line t.replies p)) →
    TakesReplies rules line (bytes ++ more) b' (Ok tt) p new
takes-reply rules line bytes more b b' p mid new t one =
    let reply = t.after ++ more in
    record {
      replies = t.replies ++ reply ∷ [];
      after = [];
      whole = ap (λ z. z ++ more) t.whole ∙ append_assoc (concat t.replies) t.after more ∙ ap (λ z. concat t.replies ++ z) (sym (append-nil reply)) ∙
          sym (concat-append t.replies (reply ∷ [])) ∙ sym (append-nil (concat (t.replies ++ reply ∷ [])));
      spelled = all-last (IsSpelled rules) t.replies reply t.spelled one.0;
      run = subst (HasRun new) (sym (replies-last line t.replies reply p)) one.2;
      begun = one.1;
      refused = tt;
    }

-- more bytes came, and no reply has ended
takes-more : (rules : Rules) (line : ℕ) (bytes more : List ℕ) (b b' : Begun) (end : Result (Unit {0}) ServerError) (p : History) (mid new : Board)
    (t : TakesReplies rules line bytes b (Ok tt) p mid) → HasRun new (with_each_reply line t.replies p) → OnOk end (HasBegun rules b' (t.after ++ more)) →
    IfErr end (RefusesReply rules line new (t.after ++ more)) → TakesReplies rules line (bytes ++ more) b' end p new
takes-more rules line bytes more b b' end p mid new t kept begun refused = record {
  replies = t.replies;
  after = t.after ++ more;
  whole = ap (λ z. z ++ more) t.whole ∙ append_assoc (concat t.replies) t.after more;
  spelled = t.spelled;
  run = kept;
  begun = begun;
  refused = refused;
}

pub one-reply : (rules : Rules) (line : ℕ) (front piece : List ℕ) (b : Begun) (found : Option Replied) (reply : Replied) (p : History) (new : Board) → found ≡ Some reply →
    IfSome found (λ r. OneReply rules line front piece b r.used p new) → OneReply rules line front piece b reply.used p new
one-reply rules line front piece b found reply p new e one = subst (λ o. IfSome o (λ r. OneReply rules line front piece b r.used p new)) e one

pub is-for : (line : ℕ) (found : Option Replied) (reply : Replied) (old new : Board) → found ≡ Some reply → IfSome found (λ r. IsFor line r.client old new) →
    IsFor line reply.client old new
is-for line found reply old new e h = subst (λ o. IfSome o (λ r. IsFor line r.client old new)) e h

-- the loop has taken one more reply
pub more-replied : (line : ℕ) (f f1 f2 : Frames) (b b1 b2 : Begun) (old mid new : Board) (queued queued1 queued2 : List ClientId) (piece : List ℕ) (used : ℕ)
    (found : Option Replied) (reply : Replied) →
    HasReplied line f b old queued piece used f1 b1 mid queued1 → found ≡ Some reply → used + reply.used ≤ length piece → KeepsOpen mid new →
    (IsReady f1 → IsReady f2) → frame_rules f2 ≡ frame_rules f1 → IfSome found (λ r. IsFor line r.client mid new) → Notes reply.client queued1 queued2 →
    WhereBegun f1 b1 (λ front. WhereRun mid (λ p. IfSome found (λ r. OneReply (frame_rules f1) line front (rest-of used piece) b2 r.used p new))) →
    HasReplied line f b old queued piece (used + reply.used) f2 b2 new queued2
more-replied line f f1 f2 b b1 b2 old mid new queued queued1 queued2 piece used found reply h e within clients ready same for notes taken =
    let one = is-for line found reply mid new e for in
    record {
      within = within;
      ready = λ r. ready (h.ready r);
      same_rules = same ∙ h.same_rules;
      clients = kept-clients old mid new h.clients clients;
      answers = answers-one line old mid new reply.client h.answers one.first;
      tells = tells-one line queued queued1 queued2 old mid new reply.client h.tells h.answers one notes;
      taken = λ r front begun p passed.
          let t = h.taken r front begun p passed in
          let q = with_each_reply line t.replies p in
          let one : OneReply (frame_rules f1) line t.after (rest-of used piece) b2 reply.used q new =
          one-reply (frame_rules f1) line t.after (rest-of used piece) b2 found reply q new e
          (taken (h.ready r) t.after (subst (λ rules. HasBegun rules b1 t.after) (sym h.same_rules) t.begun) q t.run) in
          let here : OneReply (frame_rules f) line t.after (drop used piece) b2 reply.used q new =
          subst (λ rest. OneReply (frame_rules f) line t.after rest b2 reply.used q new) (whole-rest used piece)
          (subst (λ rules. OneReply rules line t.after (rest-of used piece) b2 reply.used q new) h.same_rules one) in
          let joined : (front ++ take used piece) ++ take reply.used (drop used piece) ≡ front ++ take (used + reply.used) piece =
          append_assoc front (take used piece) (take reply.used (drop used piece)) ∙ ap (λ z. front ++ z) (sym (take-add used reply.used piece)) in
          subst (λ bytes. TakesReplies (frame_rules f) line bytes b2 (Ok tt) p new) joined
          (takes-reply (frame_rules f) line (front ++ take used piece) (take reply.used (drop used piece)) b1 b2 p mid new t here);
    }

-- all bytes came, and no more replies have ended
pub rest-replied : (line : ℕ) (f f1 : Frames) (b b1 b2 : Begun) (old mid new : Board) (queued queued1 : List ClientId) (piece : List ℕ) (used : ℕ)
    (end : Result (Unit {0}) ServerError) → HasReplied line f b old queued piece used f1 b1 mid queued1 →
    (IsReady f → (after : List ℕ) (q : History) → HasBegun (frame_rules f) b1 after → HasRun mid q →
    HasRun new q × OnOk end (HasBegun (frame_rules f) b2 (after ++ drop used piece)) ×
    IfErr end (RefusesReply (frame_rules f) line new (after ++ drop used piece))) →
    WhereBegun f b (λ front. WhereRun old (λ p. TakesReplies (frame_rules f) line (front ++ piece) b2 end p new))
rest-replied line f f1 b b1 b2 old mid new queued queued1 piece used end h rest r front begun p passed =
    let t = h.taken r front begun p passed in
    let left = rest r t.after (with_each_reply line t.replies p) t.begun t.run in
    let joined : (front ++ take used piece) ++ drop used piece ≡ front ++ piece =
    append_assoc front (take used piece) (drop used piece) ∙ ap (λ z. front ++ z) (take-append-drop used piece) in
    subst (λ bytes. TakesReplies (frame_rules f) line bytes b2 end p new) joined
    (takes-more (frame_rules f) line (front ++ take used piece) (drop used piece) b1 b2 end p mid new t left.0 left.1 left.2)

no-reply : (rules : Rules) (text : List ℕ) (b : Begun) (found : Option Replied) (q : History) (new : Board) → found ≡ None →
    IfNone found (HasNoValue text × HasBegun rules b text × HasRun new q) → HasRun new q × HasBegun rules b text
no-reply rules text b found q new e none =
    let h = subst (λ o. IfNone o (HasNoValue text × HasBegun rules b text × HasRun new q)) e none in (h.2, h.1)

-- the last bytes of the piece begin a reply
pub begun-replied : (line : ℕ) (f f1 : Frames) (b b1 b2 : Begun) (old mid new : Board) (queued queued1 : List ClientId) (piece : List ℕ) (used : ℕ)
    (found : Option Replied) → HasReplied line f b old queued piece used f1 b1 mid queued1 → found ≡ None →
    WhereBegun f1 b1 (λ front. WhereRun mid (λ p. IfNone found
    (HasNoValue (front ++ rest-of used piece) × HasBegun (frame_rules f1) b2 (front ++ rest-of used piece) × HasRun new p))) →
    WhereBegun f b (λ front. WhereRun old (λ p. TakesReplies (frame_rules f) line (front ++ piece) b2 (Ok tt) p new))
begun-replied line f f1 b b1 b2 old mid new queued queued1 piece used found h e more =
    rest-replied line f f1 b b1 b2 old mid new queued queued1 piece used (Ok tt) h
    (λ r after q begun passed.
    let none = no-reply (frame_rules f1) (after ++ rest-of used piece) b2 found q new e
    (more (h.ready r) after (subst (λ rules. HasBegun rules b1 after) (sym h.same_rules) begun) q passed) in (
      none.0,
      subst (λ rest. HasBegun (frame_rules f) b2 (after ++ rest)) (whole-rest used piece)
          (subst (λ rules. HasBegun rules b2 (after ++ rest-of used piece)) h.same_rules none.1),
      tt,
    ))

-- the connection is not usable, since these bytes bring no reply
pub end-replied : (line : ℕ) (f f1 : Frames) (b b1 b2 : Begun) (old mid new : Board) (queued queued1 : List ClientId) (piece : List ℕ) (used : ℕ) (e : ServerError) →
    HasReplied line f b old queued piece used f1 b1 mid queued1 → KeepsRun mid new →
    WhereBegun f1 b1 (λ front. RefusesReply (frame_rules f1) line new (front ++ rest-of used piece) e) →
    WhereBegun f b (λ front. WhereRun old (λ p. TakesReplies (frame_rules f) line (front ++ piece) b2 (Err e) p new))
end-replied line f f1 b b1 b2 old mid new queued queued1 piece used e h kept refused =
    rest-replied line f f1 b b1 b2 old mid new queued queued1 piece used (Err e) h
    (λ r after q begun passed. (
      kept q passed,
      tt,
      subst (λ rest. RefusesReply (frame_rules f) line new (after ++ rest) e) (whole-rest used piece)
          (subst (λ rules. RefusesReply rules line new (after ++ rest-of used piece) e) h.same_rules
          (refused (h.ready r) after (subst (λ rules. HasBegun rules b1 after) (sym h.same_rules) begun))),
    ))

-- no reply ends where it began
pub stuck-replied : (line : ℕ) (f f1 : Frames) (b b1 b2 : Begun) (old mid new : Board) (queued queued1 : List ClientId) (piece : List ℕ) (used : ℕ)
    (found : Option Replied) (reply : Replied) → HasReplied line f b old queued piece used f1 b1 mid queued1 → found ≡ Some reply → reply.used ≡ 0 →
    WhereBegun f1 b1 (λ front. IfSome found (λ r. 0 < r.used)) →
    WhereBegun f b (λ front. WhereRun old (λ p. TakesReplies (frame_rules f) line (front ++ piece) b2 (Ok tt) p new))
stuck-replied line f f1 b b1 b2 old mid new queued queued1 piece used found reply h is none some r front begun p passed =
    let t = h.taken r front begun p passed in
    let byte : 0 < reply.used =
    subst (λ o. IfSome o (λ r. 0 < r.used)) is (some (h.ready r) t.after (subst (λ rules. HasBegun rules b1 t.after) (sym h.same_rules) t.begun)) in
    absurd (omega (arith, byte, none))

-- all bytes were taken
pub all-replied : (line : ℕ) (f f1 : Frames) (b b1 : Begun) (old new : Board) (queued queued1 : List ClientId) (piece : List ℕ) (used : ℕ) →
    HasReplied line f b old queued piece used f1 b1 new queued1 →
    length piece ≤ used → WhereBegun f b (λ front. WhereRun old (λ p. TakesReplies (frame_rules f) line (front ++ piece) b1 (Ok tt) p new))
all-replied line f f1 b b1 old new queued queued1 piece used h end r front begun p passed =
    let same : used ≡ length piece = let w = h.within in omega (arith, w, end) in
    subst (λ z. TakesReplies (frame_rules f) line (front ++ z) b1 (Ok tt) p new) (ap (λ n. take n piece) same ∙ take-length piece) (h.taken r front begun p passed)

-- bytes that bring no reply are the cause of the error
pub refuses : (rules : Rules) (line : ℕ) (m : Board) (text : List ℕ) (e : ServerError) → RejectsReply rules line m text e → RefusesReply rules line m text e
refuses rules line m text (error.Frame e) r = r
refuses rules line m text error.Push r = r
refuses rules line m text error.Unasked r = r
refuses rules line m text error.OutOfMemory r = tt
refuses rules line m text error.OutOfStep r = tt
