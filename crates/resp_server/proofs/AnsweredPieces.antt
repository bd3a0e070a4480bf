-- What a session answers, turn by turn.
use Rattle.std.proofs.Common.{◌≡◌, ℕ, ◌+◌, ◌-◌, ◌<◌, ◌≤◌, zero, suc, true, false, List, [], ◌++◌, length, take, drop, refl, sym, ap, subst, ◌∙◌, arith, append_assoc, append-nil, length-drop, take-add}
use Rattle.std.proofs.lemmas.Bool.{false≢true}
use Rattle.std.proofs.lemmas.List.{take-append-drop, take_rest}
use Rattle.resp_value.specs.Bounds.{Bounds}
use Rattle.resp_value.specs.Rules.{WithinTotal}
use Rattle.resp_value.specs.Spellings.{IsViable}
use Rattle.resp_session.specs.Answers.{Answers, BeginsNoValue, server_rules}
use Rattle.resp_session.specs.AnswerLaws.{AnswersGoOn, AnswersEnd}
use Rattle.resp_session.specs.Stores.{Store}
use Rattle.resp_server.specs.Answering.{AnswersBytes, IsAnswered, IsCutShort, state_with}
use Rattle.resp_server.specs.Running.{IsSessionAsBefore}
use Rattle.resp_server.specs.Reading.{HasReadFront}
use Rattle.resp_server.specs.declared.session.Session.{Session}
use Rattle.resp_server.proofs.Turns.{waits_on}

-- a byte was used if more wait than before
pub some_used : (used before after held : ℕ) → (used ≡ 0 → after ≤ before) → held < after → before ≤ held → 0 < used
some_used zero before after held first over few = let same = first refl in absurd (omega (arith, same, over, few))
some_used (suc used) before after held first over few = omega arith

-- before a piece nothing is answered
pub none_answered : {limits : Bounds} {store : Store} {session : Session} {front : List ℕ} → HasReadFront session.decoder front →
    BeginsNoValue (server_rules limits) front → IsViable (server_rules limits) WithinTotal front → session.closing ≡ false →
    IsAnswered limits store store session session (front ++ []) 0
none_answered {limits} {store} {session} {front} taken none viable is_open = record {
  reply = [];
  rest = front;
  replied = sym (append-nil session.out.items);
  answers = subst (λ t. Answers limits session.id (state_with store session.version [] false 0) t (state_with store session.version [] session.closing 0)
      front) (sym (append-nil front)) (waits_on refl (ap (λ b. state_with store session.version [] b 0) is_open) none viable);
  taking = λ open_now. taken;
}

-- a turn more
pub turn_answered : AnswersGoOn → {limits : Bounds} {store store' store'' : Store} {before middle after : Session} {used commands : ℕ} (front piece : List ℕ)
    (n k : ℕ) → middle.id ≡ before.id → middle.closing ≡ false → (a : IsAnswered limits store store' before middle (front ++ take n piece) k) →
    AnswersBytes limits store' store'' middle after a.rest (take (length piece - n) (drop n piece)) used commands →
    IsAnswered limits store store'' before after (front ++ take (n + used) piece) (k + commands)
turn_answered go_on {limits} {store} {store'} {store''} {before} {middle} {after} {used} {commands} front piece n k same is_open a turn =
    let t : AnswersBytes limits store' store'' middle after a.rest (drop n piece) used commands =
    subst (λ p. AnswersBytes limits store' store'' middle after a.rest p used commands) (take_rest piece n) turn in
    let start = state_with store before.version [] false 0 in
    let more = take used (drop n piece) in
    let now = state_with store' middle.version a.reply false k in
    let last = state_with store'' after.version (a.reply ++ t.reply) after.closing (k + commands) in
    let first : Answers limits before.id start (front ++ take n piece) now a.rest =
    subst (λ b. Answers limits before.id start (front ++ take n piece) (state_with store' middle.version a.reply b k) a.rest) is_open a.answers in
    let next = subst (λ id. Answers limits id now (a.rest ++ more) last t.rest) same (t.answers a.reply k) in
    let both = go_on limits before.id start now last (front ++ take n piece) more a.rest t.rest first refl next in
    let whole : (front ++ take n piece) ++ more ≡ front ++ take (n + used) piece =
    append_assoc front (take n piece) more ∙ ap (λ l. front ++ l) (sym (take-add n used piece)) in
    record {
      reply = a.reply ++ t.reply;
      rest = t.rest;
      replied = t.replied ∙ ap (λ l. l ++ t.reply) a.replied ∙ append_assoc before.out.items a.reply t.reply;
      answers = subst (λ text. Answers limits before.id start text last t.rest) whole both;
      taking = t.taking;
    }

-- a closing session answers nothing of what is left
pub closed_answered : AnswersEnd → {limits : Bounds} {store store' : Store} {before after : Session} {k : ℕ} (front piece : List ℕ) (n : ℕ) →
    after.closing ≡ true → IsAnswered limits store store' before after (front ++ take n piece) k →
    IsAnswered limits store store' before after (front ++ piece) k
closed_answered ends {limits} {store} {store'} {before} {after} {k} front piece n closes a =
    let start = state_with store before.version [] false 0 in
    let last = state_with store' after.version a.reply after.closing k in
    let all = ends limits before.id start last (front ++ take n piece) (drop n piece) a.rest a.answers closes in
    let whole : (front ++ take n piece) ++ drop n piece ≡ front ++ piece =
    append_assoc front (take n piece) (drop n piece) ∙ ap (λ l. front ++ l) (take-append-drop n piece) in
    record {
      reply = a.reply;
      rest = a.rest ++ drop n piece;
      replied = a.replied;
      answers = subst (λ text. Answers limits before.id start text last (a.rest ++ drop n piece)) whole all;
      taking = λ is_open. absurd (false≢true (sym is_open ∙ closes));
    }

-- when out of memory, what was answered before stands
pub cut_short : {limits : Bounds} {store store' store'' : Store} {before middle last : Session} {front piece : List ℕ} {k : ℕ} (after : Session) (n : ℕ) →
    middle.closing ≡ false → IsAnswered limits store store' before middle (front ++ take n piece) k → IsSessionAsBefore store' store'' middle after →
    last.version ≡ after.version → last.out.items ≡ after.out.items → last.closing ≡ true → n < length piece →
    IsCutShort limits store store'' before last front piece k
cut_short {limits} {store} {store'} {store''} {before} {middle} {last} {front} {piece} {k} after n is_open a same version out closes left =
    let start = state_with store before.version [] false 0 in
    let text = front ++ take n piece in
    record {
      first = record {
        bytes = take n piece;
        beyond = drop n piece;
        whole = sym (take-append-drop n piece);
        some = let is = length-drop n piece in omega (arith, is, left);
      };
      reply = a.reply;
      rest = a.rest;
      replied = out ∙ same.same_out ∙ a.replied;
      answers = subst (λ s. Answers limits before.id start text (state_with s last.version a.reply false k) a.rest) (sym same.same_store)
          (subst (λ v. Answers limits before.id start text (state_with store' v a.reply false k) a.rest) (sym (version ∙ same.same_version))
          (subst (λ b. Answers limits before.id start text (state_with store' middle.version a.reply b k) a.rest) is_open a.answers));
      closes = closes;
    }

-- an answer stays one where the session then reads with something else that has taken the same
pub answered_shrunk : {limits : Bounds} {store store' : Store} {before middle after : Session} {text : List ℕ} {k : ℕ} → after.version ≡ middle.version →
    after.out.items ≡ middle.out.items → after.closing ≡ middle.closing → (middle.closing ≡ false → (front : List ℕ) → HasReadFront middle.decoder front →
    HasReadFront after.decoder front) → IsAnswered limits store store' before middle text k → IsAnswered limits store store' before after text k
answered_shrunk {limits} {store} {store'} {before} {middle} {after} {text} {k} version out closing taken a =
    let start = state_with store before.version [] false 0 in
    record {
      reply = a.reply;
      rest = a.rest;
      replied = out ∙ a.replied;
      answers = subst (λ v. Answers limits before.id start text (state_with store' v a.reply after.closing k) a.rest) (sym version)
          (subst (λ b. Answers limits before.id start text (state_with store' middle.version a.reply b k) a.rest) (sym closing) a.answers);
      taking = λ open_now. let is_open = sym closing ∙ open_now in taken is_open a.rest (a.taking is_open);
    }

-- nor does it cease to be cut short
pub cut_short_shrunk : {limits : Bounds} {store store' : Store} {before middle after : Session} {front piece : List ℕ} {k : ℕ} →
    after.version ≡ middle.version → after.out.items ≡ middle.out.items → after.closing ≡ middle.closing →
    IsCutShort limits store store' before middle front piece k → IsCutShort limits store store' before after front piece k
cut_short_shrunk {limits} {store} {store'} {before} {front} {k} version out closing a = record {
  first = a.first;
  reply = a.reply;
  rest = a.rest;
  replied = out ∙ a.replied;
  answers = subst (λ v. Answers limits before.id (state_with store before.version [] false 0) (front ++ a.first.bytes) (state_with store' v a.reply false k) a.rest)
      (sym version) a.answers;
  closes = closing ∙ a.closes;
}
