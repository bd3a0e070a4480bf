-- Answers after what was written and run before.
use Rattle.std.proofs.Common.{◌≡◌, inl, inr, ℕ, Bool, true, false, cond, List, [], ◌∷◌, refl, sym, ap, subst, ◌∙◌, append_assoc, arith, codes}
use Rattle.resp_value.specs.Bounds.{Bounds}
use Rattle.resp_value.specs.Canonical.{canonical_text}
use Rattle.resp_value.specs.Causes.{cause_of, name_of}
use Rattle.resp_value.specs.Data.{Datum}
use Rattle.resp_value.specs.Rules.{Rules}
use Rattle.resp_value.specs.declared.version.Version.{Version}
use Rattle.resp_session.specs.AnswerLaws.{AnswersAreAdded, after_others}
use Rattle.resp_session.specs.Answers.{Answers, Ends, SessionState, after_error, after_meaning, after_value, after_values, server_rules}
use Rattle.resp_session.specs.Commands.{Meaning, Call, Nothing, NoCommand, meaning_of}
use Rattle.resp_session.specs.Operations.{operation_of}
use Rattle.resp_session.specs.Stores.{Store, effect_of}

-- no value is answered, and the text is what ends it
pub no_value_answered : (limits : Bounds) (id : ℕ) (before after : SessionState) (text : List ℕ) → Ends (server_rules limits) text before after →
    Answers limits id before text after text
no_value_answered limits id before after text ends = record {
  values = [];
  front = [];
  spelled = refl;
  whole = refl;
  ends = ends;
}

-- the same state with another text and number
abbrev state : Store → Version → Bool → List ℕ → ℕ → SessionState
state store version closing text count = record { store = store; version = version; text = text; closing = closing; count = count }

one_text : (store : Store) (version : Version) (closing : Bool) (text text' : List ℕ) (count count' : ℕ) → text ≡ text' → count ≡ count' →
    state store version closing text count ≡ state store version closing text' count'
one_text store version closing text text' count count' t n =
    ap (λ z. state store version closing z count) t ∙ ap (λ z. state store version closing text' z) n

error_added : (written : List ℕ) (count : ℕ) (name : List ℕ) (at : ℕ) (s : SessionState) →
    after_error name at (after_others written count s) ≡ after_others written count (after_error name at s)
error_added written count name at s = one_text s.store s.version true _ _ _ _ (append_assoc written s.text _) refl

meaning_added : (written : List ℕ) (count id : ℕ) (s : SessionState) (m : Meaning) →
    after_meaning id (after_others written count s) m ≡ after_others written count (after_meaning id s m)
meaning_added written count id s (Call name arguments) =
    let effect = effect_of s.store s.version id (operation_of name arguments) in
    one_text effect.store effect.version s.closing _ _ _ _ (append_assoc written s.text (canonical_text effect.version effect.reply)) (omega arith)
meaning_added written count id s Nothing = refl
meaning_added written count id s NoCommand = error_added written count (codes "NotCommand") 0 s

value_by : (closing : Bool) (written : List ℕ) (count id : ℕ) (s : SessionState) (m : Meaning) →
    cond closing (after_others written count s) (after_meaning id (after_others written count s) m) ≡
    after_others written count (cond closing s (after_meaning id s m))
value_by true written count id s m = refl
value_by false written count id s m = meaning_added written count id s m

values_added : (written : List ℕ) (count id : ℕ) (s : SessionState) (xs : List Datum) →
    after_values id (after_others written count s) xs ≡ after_others written count (after_values id s xs)
values_added written count id s [] = refl
values_added written count id s (x ∷ xs) = ap (λ z. after_values id z xs) (value_by s.closing written count id s (meaning_of x)) ∙
    values_added written count id (after_value id s x) xs

ends_added : (written : List ℕ) (count : ℕ) (rules : Rules) (rest : List ℕ) (s b : SessionState) → Ends rules rest s b →
    Ends rules rest (after_others written count s) (after_others written count b)
ends_added written count rules rest s b (inl w) =
    inl (record { is_open = w.is_open; no_more = w.no_more; viable = w.viable; same = ap (after_others written count) w.same })
ends_added written count rules rest s b (inr (inl f)) = inr (inl (record {
  is_open = f.is_open;
  no_more = f.no_more;
  rule = f.rule;
  at = f.at;
  fault = f.fault;
  line = ap (after_others written count) f.line ∙ sym (error_added written count (name_of (cause_of f.rule)) f.at s);
}))
ends_added written count rules rest s b (inr (inr u)) = inr (inr (record { closed = u.closed; same = ap (after_others written count) u.same }))

pub answers_are_added : AnswersAreAdded
answers_are_added limits id a b text rest written count m = record {
  values = m.values;
  front = m.front;
  spelled = m.spelled;
  whole = m.whole;
  ends = subst (λ s. Ends (server_rules limits) rest s (after_others written count b)) (sym (values_added written count id a m.values))
      (ends_added written count (server_rules limits) rest (after_values id a m.values) b m.ends);
}
