-- What is answered to a value, by what it means.
use Rattle.std.proofs.Common.{◌≡◌, ℕ, ◌+◌, ◌<◌, ◌≤◌, true, false, List, [], ◌∷◌, ◌++◌, length, drop, get_or, Some, Result, Ok, Err, OnOk, OnErr, codes, sym, ap, ◌∙◌, arith, length-append}
use Rattle.resp_value.specs.Canonical.{canonical_text}
use Rattle.resp_value.specs.Data.{Datum}
use Rattle.resp_value.specs.Words.{command_of}
use Rattle.resp_session.specs.AnswerLaws.{ACommandIsItsWords}
use Rattle.resp_session.specs.Answers.{after_meaning}
use Rattle.resp_session.specs.Commands.{Meaning, Call, NoCommand, meaning_of, array_meaning}
use Rattle.resp_session.specs.Replies.{error}
use Rattle.resp_session.specs.Operations.{operation_of}
use Rattle.resp_session.specs.Stores.{Store, Effect, effect_of}
use Rattle.resp_server.specs.Answering.{IsAnswerTo, state_with}
use Rattle.resp_server.specs.ReplyTexts.{fault_text}
use Rattle.resp_server.specs.Running.{HasEffect}
use Rattle.resp_server.specs.declared.session.Session.{Session}

-- a text is longer by at most as many bytes as are appended
pub grown : {after : List ℕ} (before more : List ℕ) (n : ℕ) → after ≡ before ++ more → length more ≤ n → length after ≤ length before + n
grown before more n is short =
    let size = ap length is ∙ length-append before more in
    omega (arith, size, short)

-- words with a name are a command
pub named_call : {meaning : Meaning} (words : List (List ℕ)) → 0 < length words → array_meaning (Some words) ≡ meaning →
    Call (get_or words 0 []) (drop 1 words) ≡ meaning
named_call [] named h = absurd (omega (arith, named))
named_call (name ∷ arguments) named h = h

-- a value whose meaning is a command of these words is those words
pub words_value : ACommandIsItsWords → {x : Datum} (words : List (List ℕ)) → 0 < length words → array_meaning (Some words) ≡ meaning_of x →
    x ≡ command_of (get_or words 0 [] ∷ drop 1 words)
words_value is_words {x} words named h = (is_words x (get_or words 0 []) (drop 1 words)).0 (sym (named_call words named h))

command_state : {store' : Store} (effect : Effect) (before after : Session) (text : List ℕ) (count : ℕ) → store' ≡ effect.store →
    after.version ≡ effect.version → after.closing ≡ false →
    record { store = effect.store; version = effect.version; text = text ++ canonical_text effect.version effect.reply; closing = false; count = count + 1 } ≡
    state_with store' after.version
    (text ++ canonical_text effect.version effect.reply) after.closing (count + 1)
command_state {store'} effect before after text count store version closing =
    let whole = text ++ canonical_text effect.version effect.reply in
    ap (λ s. state_with s effect.version whole false (count + 1)) (sym store) ∙ ap (λ v. state_with store' v whole false (count + 1)) (sym version) ∙
    ap (λ b. state_with store' after.version whole b (count + 1)) (sym closing)

-- a command that had its effect
pub command_answer : {x : Datum} {store store' : Store} {before after : Session} (name : List ℕ) (arguments : List (List ℕ)) →
    Call name arguments ≡ meaning_of x → before.closing ≡ false → HasEffect store' after.version before.out.items after.out.items
    (effect_of store before.version before.id (operation_of name arguments)) → after.closing ≡ before.closing → IsAnswerTo x store store' before after 1
command_answer {store} {before} {after} name arguments h is_open effect same =
    let did : Effect = effect_of store before.version before.id (operation_of name arguments) in
    record {
      reply = canonical_text did.version did.reply;
      replied = effect.replied;
      state = λ text count. ap (after_meaning before.id (state_with store before.version text false count)) (sym h) ∙
          command_state did before after text count effect.store_of effect.version_of (same ∙ is_open);
    }

-- what is no command closes the session
pub no_command_answer : {x : Datum} {store : Store} {before after : Session} → NoCommand ≡ meaning_of x → after.version ≡ before.version →
    after.closing ≡ true → after.out.items ≡ before.out.items ++ canonical_text before.version (error (fault_text (codes "NotCommand") 0)) →
    IsAnswerTo x store store before after 0
no_command_answer {store} {before} {after} h version closes line =
    let reply = canonical_text before.version (error (fault_text (codes "NotCommand") 0)) in
    record {
      reply = reply;
      replied = line;
      state = λ text count. ap (after_meaning before.id (state_with store before.version text false count)) (sym h) ∙
          ap (λ v. state_with store v (text ++ reply) true count) (sym version) ∙
          ap (λ b. state_with store after.version (text ++ reply) b count) (sym closes) ∙
          (let e : count ≡ count + 0 = omega arith in ap (λ n. state_with store after.version (text ++ reply) after.closing n) e);
    }

-- what follows of a success and of a refusal follows
pub either_way : {T E C P Q : Type 0} (r : Result T E) → OnOk r P → OnErr r Q → (P → C) → (Q → C) → C
either_way (Ok x) p q f h = f p
either_way (Err e) p q f h = h q
