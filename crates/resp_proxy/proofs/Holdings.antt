-- How the bytes of a client are taken and held.
use Rattle.std.proofs.Common.{◌≡◌, ◌∙◌, ℕ, true, false, List, [], ◌++◌, take, drop, Option, None, Some, Result, Ok, Err, ap, append_assoc, subst, sym}
use Rattle.std.proofs.lemmas.Bool.{false≢true}
use Rattle.std.specs.Prelude.{IfErr, OnErr, OnOk}
use Rattle.resp_frames.specs.Framing.{IsReady}
use Rattle.resp_board.specs.Boards.{Own}
use Rattle.resp_board.specs.Histories.{with_event}
use Rattle.resp_board.specs.Runs.{HasRun, KeepsRun, WhereRun}
use Rattle.resp_board.specs.declared.board.Board.{Board}
use Rattle.resp_proxy.specs.declared.route.Route.{Route}
use Rattle.resp_proxy.specs.Clients.{Holds, is_closing, is_leaving}
use Rattle.resp_proxy.specs.Leaving.{LeavesRightly, NeedsOwn, PutsBack}
use Rattle.resp_proxy.specs.declared.client.Client.{Client}
use Rattle.resp_proxy.specs.declared.intake.Intake.{Intake}
use Rattle.resp_frames.specs.declared.unfinished.Unfinished.{Unfinished}
use Rattle.resp_proxy.specs.Refusing.{Refuses}
use Rattle.resp_proxy.specs.Terms.{Terms}
use Rattle.resp_proxy.specs.Unfinished.{HasUnfinished, WhereUnfinished, terms_of}
use Rattle.resp_proxy.specs.declared.error.ClientError.{ClientError}
use Rattle.resp_proxy.specs.declared.error.ClientError.TheVariants as error
use Rattle.resp_proxy.specs.Taking.{IsLastAnswer, IsLeft, SaysLast, Takes, TakesHeld, TakesIn, TakesSome, with_taken}
use Rattle.resp_proxy.proofs.Refusals.{memory-refused}
use Rattle.resp_proxy.proofs.Takings.{rest-of, taken-and-rest, takes-nothing, whole-rest}

-- whole commands were taken from the bytes that a client holds and those that came
pub held-taken : (i : Intake) (c c' : Client) (route : Route) (held piece : List ℕ) (used : ℕ) (b' : Unfinished) (aside : Option (List ℕ)) (end end' : Result (Unit {0}) ClientError)
    (old new : Board) → IsReady i.frames → Holds (terms_of i) c held →
    WhereUnfinished i c.unfinished (λ front. TakesSome (terms_of i) route (front ++ take used (c.rest.items ++ piece)) b' aside end old new) →
    ((after : List ℕ) → OnOk end (IsLeft (terms_of i) b' after aside) → OnOk end' (Holds (terms_of i) c' (after ++ drop used (c.rest.items ++ piece)))) →
    ((after : List ℕ) → IfErr end (Refuses (terms_of i) after) → IfErr end' (Refuses (terms_of i) (after ++ drop used (c.rest.items ++ piece)))) →
    TakesHeld (terms_of i) route (held ++ piece) c' end' old new
held-taken i c c' route held piece used b' aside end end' old new ready h taken holds refused =
    let s = taken ready h.front h.begun in
    let all = c.rest.items ++ piece in
    let joined : h.front ++ all ≡ held ++ piece = sym (append_assoc h.front c.rest.items piece) ∙ ap (λ b. b ++ piece) (sym h.whole) in
    record {
      after = s.after ++ drop used all;
      takes = subst (λ b. Takes (terms_of i) route b (s.after ++ drop used all) old new) joined
          (taken-and-rest (terms_of i) route h.front all s.after used old new s.takes);
      holds = holds s.after s.begun;
      refused = refused s.after s.refused;
    }

-- nothing was taken before an error
pub nothing-taken : (terms : Terms) (route : Route) (bytes : List ℕ) (c : Client) (e : ClientError) (m : Board) → Refuses terms bytes e →
    TakesHeld terms route bytes c (Err e) m m
nothing-taken terms route bytes c e m refused = record { after = bytes; takes = takes-nothing terms route bytes m; holds = tt; refused = refused }

-- the client holds the bytes after those that were taken, and the command that was put back before them
pub holds-put : (aside : Option (List ℕ)) (terms : Terms) (c c' : Client) (b : Unfinished) (after rest : List ℕ) → c.unfinished ≡ b → c.rest.items ≡ rest →
    IsLeft terms b after aside → PutsBack aside c c' → Holds terms c' (after ++ rest)
holds-put None terms c c' b after rest same items left put =
    subst (λ z. Holds terms z (after ++ rest)) (sym put) (record {
      front = after;
      begun = subst (λ z. HasUnfinished terms z after) (sym same) left;
      whole = ap (λ z. after ++ z) (sym items);
    })
holds-put (Some text) terms c c' b after rest same items left put = record {
  front = [];
  begun = subst (λ z. HasUnfinished terms z []) (sym same ∙ sym put.1) left.0;
  whole = ap (λ z. after ++ z) (sym items) ∙ ap (λ z. z ++ c.rest.items) (sym left.1) ∙ sym put.0;
}

-- a client that was not leaving is leaving after a command was put back
pub leaves-put : (aside : Option (List ℕ)) (terms : Terms) (c c' : Client) (b : Unfinished) (after : List ℕ) → c.unfinished ≡ b → is_leaving c ≡ false →
    IsLeft terms b after aside → PutsBack aside c c' → LeavesRightly terms c'
leaves-put None terms c c' b after same stays left put leaving = absurd (false≢true (sym stays ∙ ap is_leaving (sym put) ∙ leaving))
leaves-put (Some text) terms c c' b after same stays left put leaving = record {
  text = text;
  rest = c.rest.items;
  whole = put.0;
  needs = subst (NeedsOwn terms) (sym left.1) left.2;
  nothing = subst (λ z. HasUnfinished terms z []) (sym same ∙ sym put.1) left.0;
}

-- what an error leaves is said, or not
pub said-last : (result : Result (Unit {0}) ClientError) (route : Route) (e : ClientError) (text : List ℕ) (old new : Board) →
    IsLastAnswer route.version e (Some text) → OnOk result (WhereRun old (λ p. HasRun new (with_event (Own route.client text) p))) → OnErr result (KeepsRun old new) → SaysLast route e old new
said-last (Ok x) route e text old new fits said kept = record { answer = Some text; is_last = fits; run = said }
said-last (Err cause) route e text old new fits said kept = record { answer = None; is_last = tt; run = kept }

-- after an error the client is shut, and the error is said or not
pub shut-taken : (terms : Terms) (route : Route) (bytes : List ℕ) (c c' : Client) (e : ClientError) (old mid new : Board) →
    TakesHeld terms route bytes c (Err e) old mid → SaysLast route e mid new → Holds terms c' [] → is_closing c' ≡ true → TakesIn terms route bytes c' (Err e) old new
shut-taken terms route bytes c c' e old mid new t s none closing = record {
  taken = t.takes.taken;
  after = t.after;
  last = s.answer;
  whole = t.takes.whole;
  commands = t.takes.commands;
  run = λ p passed. s.run (with_taken route t.takes.taken p) (t.takes.run p passed);
  holds = tt;
  refused = t.refused;
  said = s.is_last;
  shut = (none, closing);
}

-- whole commands were taken from the bytes that came, and the client held none that wait for room
pub held-piece : (i : Intake) (c c' : Client) (route : Route) (held piece : List ℕ) (used : ℕ) (b' : Unfinished) (aside : Option (List ℕ)) (end end' : Result (Unit {0}) ClientError)
    (old new : Board) → c.rest.items ≡ [] → IsReady i.frames → Holds (terms_of i) c held →
    WhereUnfinished i c.unfinished (λ front. TakesSome (terms_of i) route (front ++ take used piece) b' aside end old new) →
    ((after : List ℕ) → OnOk end (IsLeft (terms_of i) b' after aside) → OnOk end' (Holds (terms_of i) c' (after ++ drop used piece))) →
    ((after : List ℕ) → IfErr end (Refuses (terms_of i) after) → IfErr end' (Refuses (terms_of i) (after ++ drop used piece))) →
    TakesHeld (terms_of i) route (held ++ piece) c' end' old new
held-piece i c c' route held piece used b' aside end end' old new e ready h taken holds refused =
    held-taken i c c' route held piece used b' aside end end' old new ready h
    (subst (λ rest. WhereUnfinished i c.unfinished (λ front. TakesSome (terms_of i) route (front ++ take used (rest ++ piece)) b' aside end old new)) (sym e) taken)
    (subst (λ rest. (after : List ℕ) → OnOk end (IsLeft (terms_of i) b' after aside) →
    OnOk end' (Holds (terms_of i) c' (after ++ drop used (rest ++ piece)))) (sym e) holds)
    (subst (λ rest. (after : List ℕ) → IfErr end (Refuses (terms_of i) after) →
    IfErr end' (Refuses (terms_of i) (after ++ drop used (rest ++ piece)))) (sym e) refused)

-- the client holds the bytes that were not taken
pub kept-piece : (end result : Result (Unit {0}) ClientError) (x : Unit {0}) (aside : Option (List ℕ)) (terms : Terms) (c mid c' : Client) (b' : Unfinished)
    (after piece : List ℕ) (used : ℕ) → end ≡ Ok x → c.rest.items ≡ [] → mid.unfinished ≡ b' → mid.rest.items ≡ c.rest.items ++ rest-of used piece →
    OnOk result (PutsBack aside mid c') → OnOk end (IsLeft terms b' after aside) → OnOk result (Holds terms c' (after ++ drop used piece))
kept-piece end (Ok y) x aside terms c mid c' b' after piece used is e same items put left =
    holds-put aside terms mid c' b' after (drop used piece) same (items ∙ ap (λ r. r ++ rest-of used piece) e ∙ whole-rest used piece)
    (subst (λ o. OnOk o (IsLeft terms b' after aside)) is left) put
kept-piece end (Err error) x aside terms c mid c' b' after piece used is e same items put left = tt

-- whole commands were taken from the bytes that wait for room and those that came
pub rest-taken : (i : Intake) (c mid last c' : Client) (held piece slice : List ℕ) (used : ℕ) (b' : Unfinished) (aside : Option (List ℕ))
    (end end' : Result (Unit {0}) ClientError) (old new : Board) → slice ≡ c.rest.items ++ piece → mid.unfinished ≡ c.unfinished → mid.route ≡ c.route →
    IsReady i.frames → Holds (terms_of i) c held →
    WhereUnfinished i mid.unfinished (λ front. TakesSome (terms_of i) mid.route (front ++ take used slice) b' aside end old new) → last.unfinished ≡ b' →
    last.rest.items ≡ drop used slice →
    ((after : List ℕ) → OnOk end (IsLeft (terms_of i) b' after aside) → last.rest.items ≡ drop used (c.rest.items ++ piece) →
    OnOk end' (Holds (terms_of i) c' (after ++ drop used (c.rest.items ++ piece)))) →
    ((after : List ℕ) → IfErr end (Refuses (terms_of i) after) → IfErr end' (Refuses (terms_of i) (after ++ drop used slice))) →
    TakesHeld (terms_of i) c.route (held ++ piece) c' end' old new
rest-taken i c mid last c' held piece slice used b' aside end end' old new whole same_begun same_id ready h taken begun items holds refused =
    held-taken i c c' c.route held piece used b' aside end end' old new ready h
    (subst (λ b. WhereUnfinished i b (λ front. TakesSome (terms_of i) c.route (front ++ take used (c.rest.items ++ piece)) b' aside end old new)) same_begun
    (subst (λ route. WhereUnfinished i mid.unfinished (λ front. TakesSome (terms_of i) route (front ++ take used (c.rest.items ++ piece)) b' aside end old new)) same_id
    (subst (λ s. WhereUnfinished i mid.unfinished (λ front. TakesSome (terms_of i) mid.route (front ++ take used s) b' aside end old new)) whole taken)))
    (λ after has. holds after has (items ∙ ap (drop used) whole))
    (subst (λ s. (after : List ℕ) → IfErr end (Refuses (terms_of i) after) → IfErr end' (Refuses (terms_of i) (after ++ drop used s))) whole refused)

-- a client that was not leaving is leaving after commands were taken only if the next one was put aside
pub leaves-after : (result end : Result (Unit {0}) ClientError) (x : Unit {0}) (aside : Option (List ℕ)) (terms : Terms) (mid c' : Client) (b' : Unfinished)
    (route : Route) (bytes : List ℕ) (old new : Board) → end ≡ Ok x → TakesSome terms route bytes b' aside end old new → mid.unfinished ≡ b' →
    is_leaving mid ≡ false → OnOk result (PutsBack aside mid c') → OnOk result (LeavesRightly terms c')
leaves-after (Ok y) end x aside terms mid c' b' route bytes old new is s same stays put =
    leaves-put aside terms mid c' b' s.after same stays (subst (λ o. OnOk o (IsLeft terms b' s.after aside)) is s.begun) put
leaves-after (Err e) end x aside terms mid c' b' route bytes old new is s same stays put = tt

-- a client that is leaving holds more bytes
pub more-held : (result : Result (Unit {0}) ClientError) (terms : Terms) (c c' : Client) (route : Route) (held piece : List ℕ) (m : Board) →
    OnOk result (c'.rest.items ≡ c.rest.items ++ piece) → IfErr result (λ e. e ≡ error.OutOfMemory) → c'.unfinished ≡ c.unfinished → Holds terms c held →
    TakesHeld terms route (held ++ piece) c' result m m
more-held (Ok x) terms c c' route held piece m kept memory same h = record {
  after = held ++ piece;
  takes = takes-nothing terms route (held ++ piece) m;
  holds = record {
    front = h.front;
    begun = subst (λ u. HasUnfinished terms u h.front) (sym same) h.begun;
    whole = ap (λ z. z ++ piece) h.whole ∙ append_assoc h.front c.rest.items piece ∙ ap (λ z. h.front ++ z) (sym kept);
  };
  refused = tt;
}
more-held (Err e) terms c c' route held piece m kept memory same h =
    nothing-taken terms route (held ++ piece) c' e m (memory-refused terms (held ++ piece) e memory)

-- a client that holds more bytes is leaving as before
pub still-leaves : (result : Result (Unit {0}) ClientError) (terms : Terms) (c c' : Client) (piece : List ℕ) →
    OnOk result (c'.rest.items ≡ c.rest.items ++ piece) → c'.unfinished ≡ c.unfinished → is_leaving c' ≡ is_leaving c → LeavesRightly terms c →
    OnOk result (LeavesRightly terms c')
still-leaves (Ok x) terms c c' piece kept same stays l =
    λ leaving.
    let old = l (sym stays ∙ leaving) in
    record {
      text = old.text;
      rest = old.rest ++ piece;
      whole = kept ∙ ap (λ z. z ++ piece) old.whole ∙ append_assoc old.text old.rest piece;
      needs = old.needs;
      nothing = subst (λ u. HasUnfinished terms u []) (sym same) old.nothing;
    }
still-leaves (Err e) terms c c' piece kept same stays l = tt

-- the client holds the bytes after those that were taken, and the command that was put back, unless memory was out
pub holds-put-ok : (end result : Result (Unit {0}) ClientError) (x : Unit {0}) (aside : Option (List ℕ)) (terms : Terms) (c c' : Client) (b : Unfinished)
    (after rest : List ℕ) → end ≡ Ok x → c.unfinished ≡ b → c.rest.items ≡ rest → OnOk result (PutsBack aside c c') → OnOk end (IsLeft terms b after aside) →
    OnOk result (Holds terms c' (after ++ rest))
holds-put-ok end (Ok y) x aside terms c c' b after rest is same items put left =
    holds-put aside terms c c' b after rest same items (subst (λ o. OnOk o (IsLeft terms b after aside)) is left) put
holds-put-ok end (Err e) x aside terms c c' b after rest is same items put left = tt

-- so it is after commands were taken from the bytes that waited for room
pub leaves-rest : (result end : Result (Unit {0}) ClientError) (x : Unit {0}) (aside : Option (List ℕ)) (i : Intake) (c mid last c' : Client) (held bytes : List ℕ)
    (b' : Unfinished) (old new : Board) → mid.unfinished ≡ c.unfinished → IsReady i.frames → Holds (terms_of i) c held → end ≡ Ok x →
    WhereUnfinished i mid.unfinished (λ front. TakesSome (terms_of i) mid.route (front ++ bytes) b' aside end old new) → last.unfinished ≡ b' →
    is_leaving last ≡ false → OnOk result (PutsBack aside last c') → OnOk result (LeavesRightly (terms_of i) c')
leaves-rest result end x aside i c mid last c' held bytes b' old new begun ready h is taken same stays put =
    leaves-after result end x aside (terms_of i) last c' b' mid.route (h.front ++ bytes) old new is
    (taken ready h.front (subst (λ u. HasUnfinished (terms_of i) u h.front) (sym begun) h.begun)) same stays put
