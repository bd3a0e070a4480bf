-- One turn of a session's reading, in words of answers.
use Rattle.std.proofs.Common.{◌≡◌, inl, inr, ℕ, zero, suc, ◌+◌, ◌-◌, ◌<◌, ◌≤◌, Bool, true, false, None, Some, List, [], ◌∷◌, ◌++◌, length, take, refl, sym, ap, subst, ◌∙◌, arith, append-nil, length-append, take_all, take_at}
use Rattle.std.proofs.lemmas.Bool.{false≢true}
use Rattle.resp_value.specs.Bounds.{Bounds, AreBounds}
use Rattle.resp_value.specs.Canonical.{canonical_text}
use Rattle.resp_value.specs.Causes.{cause_of, name_of}
use Rattle.resp_value.specs.Data.{Datum}
use Rattle.resp_value.specs.Laws.{NoSpellingIsEmpty, TheEmptyTextIsViable}
use Rattle.resp_value.specs.Rules.{Rules, Rule, Grammar, NoDouble, InVersion, PushAtTop, InRange, NotStreamed, WithinDepth, WithinLength, WithinItems, WithinTotal}
use Rattle.resp_value.specs.Spellings.{IsSpelling, IsViable}
use Rattle.resp_value.specs.Trees.{Spells}
use Rattle.resp_value.specs.Values.{datum_of}
use Rattle.resp_value.specs.declared.value.Value.{Value}
use Rattle.resp_value.specs.declared.version.Version.{Version}
use Rattle.resp_value.specs.declared.cause.Cause.TheVariants.{OutOfMemory}
use Rattle.resp_scan.specs.Reading.{HasNoValue, HasNoSpelling}
use Rattle.resp_scan.specs.declared.event.Fault.{Fault}
use Rattle.resp_decode.specs.Decoding.{RefusesByte}
use Rattle.resp_session.proofs.AddedAnswers.{no_value_answered}
use Rattle.resp_session.specs.Answers.{SessionState, Answers, BeginsNoValue, Ends, server_rules, after_value, after_error}
use Rattle.resp_session.specs.Replies.{error}
use Rattle.resp_session.specs.Stores.{Store}
use Rattle.resp_server.specs.Answering.{IsAnswerTo, AnswersBytes, IsNamedFault, state_with}
use Rattle.resp_server.specs.ReplyTexts.{fault_text}
use Rattle.resp_server.specs.Reading.{HasReadFront, Reading, ReadsOn, ReadsValue, RefusesReading}
use Rattle.resp_server.specs.declared.session.Session.{Session}

-- no front of the text is a spelling
no_value_begins : (r : Rules) (text : List ℕ) → HasNoValue text → BeginsNoValue r text
no_value_begins r text none x front beyond s e =
    none (length front) s.tree (subst (λ t. Spells s.tree t) (sym (ap (take (length front)) e ∙ take_at front beyond (length front) refl)) s.spells)

no_spelling_begins : (r : Rules) (text : List ℕ) → HasNoSpelling r text → BeginsNoValue r text
no_spelling_begins r text none x front beyond s e =
    none (length front) (record {
      tree = s.tree;
      spells = subst (λ t. Spells s.tree t) (sym (ap (take (length front)) e ∙ take_at front beyond (length front) refl)) s.spells;
      keeps = s.keeps;
    })

nothing_begins : NoSpellingIsEmpty → (r : Rules) → BeginsNoValue r []
nothing_begins full r x [] beyond s e = full r x s
nothing_begins full r x (b ∷ bs) beyond s e = absurd (cc)

-- what is waited on
pub waits_on : {limits : Bounds} {id : ℕ} {s t : SessionState} {text : List ℕ} → s.closing ≡ false → t ≡ s → BeginsNoValue (server_rules limits) text →
    IsViable (server_rules limits) WithinTotal text → Answers limits id s text t text
waits_on {limits} {id} {s} {t} {text} is_open same none viable = no_value_answered limits id s t text (inl
    (record { is_open = is_open; no_more = none; viable = viable; same = same }))

ends_of : NoSpellingIsEmpty → TheEmptyTextIsViable → {limits : Bounds} → AreBounds limits → {s t : SessionState} (closing : Bool) → s ≡ t →
    t.closing ≡ closing → Ends (server_rules limits) [] s t
ends_of full empty {limits} bounds false same is = inl (record {
  is_open = ap (λ (z : SessionState). z.closing) same ∙ is;
  no_more = nothing_begins full (server_rules limits);
  viable = empty (server_rules limits) bounds WithinTotal;
  same = sym same;
})
ends_of full empty bounds true same is = inr (inr (record { closed = ap (λ (z : SessionState). z.closing) same ∙ is; same = sym same }))

-- a value that was answered
pub value_answers : NoSpellingIsEmpty → TheEmptyTextIsViable → {limits : Bounds} → AreBounds limits → {id : ℕ} {s t : SessionState} {x : Datum}
    {written : List ℕ} → IsSpelling (server_rules limits) x written → after_value id s x ≡ t → Answers limits id s written t []
value_answers full empty bounds {t} {x} {written} spelled same = record {
  values = x ∷ [];
  front = written;
  spelled = (written, [], spelled, refl, sym (append-nil written));
  whole = sym (append-nil written);
  ends = ends_of full empty bounds t.closing same refl;
}

-- a byte that was refused
pub fault_answers : {limits : Bounds} {id : ℕ} {s : SessionState} (front piece : List ℕ) (fault : Fault) → s.closing ≡ false → (r : RefusesByte
    (server_rules limits) front piece fault) → Answers limits id s (front ++ piece) (after_error (name_of fault.cause) fault.at s) (front ++ piece)
fault_answers {limits} {id} {s} front piece fault is_open r =
    no_value_answered limits id s (after_error (name_of fault.cause) fault.at s) (front ++ piece) (inr (inl (record {
      is_open = is_open;
      no_more = no_spelling_begins (server_rules limits) (front ++ piece) r.no_value;
      rule = r.rule;
      at = fault.at;
      fault = r.fault_of;
      line = ap (λ cause. after_error (name_of cause) fault.at s) r.names;
    })))

-- the names of the causes by which bytes are refused are short
short_name : (rule : Rule) → length (name_of (cause_of rule)) ≤ 16
short_name Grammar = omega arith
short_name NoDouble = omega arith
short_name InVersion = omega arith
short_name PushAtTop = omega arith
short_name InRange = omega arith
short_name NotStreamed = omega arith
short_name WithinDepth = omega arith
short_name WithinLength = omega arith
short_name WithinItems = omega arith
short_name WithinTotal = omega arith

-- what is viable is no longer than the limit of total
viable_is_short : {r : Rules} {front : List ℕ} → IsViable r WithinTotal front → length front ≤ r.limits.total
viable_is_short {front} v =
    let total = v.keeps WithinTotal (omega arith) in
    let written = ap length v.spells.spelled in
    let whole = length-append front v.rest in
    omega (arith, total, written, whole)

last_byte : (at : ℕ) (front : List ℕ) → at + 1 ≡ length front →
    (before : List ℕ) × (byte : ℕ) × (front ≡ before ++ byte ∷ []) × (length before ≡ at)
last_byte at [] e = absurd (omega (arith, e))
last_byte at (b ∷ []) e = ([], b, refl, omega (arith, e))
last_byte at (b ∷ c ∷ bs) e =
    let (before, byte, whole, size) = last_byte (at - 1) (c ∷ bs) (omega (arith, e)) in
    (b ∷ before, byte, ap (λ l. b ∷ l) whole, omega (arith, size, e))

-- a refused byte has a short name, and stands within the limit of total
refused_is_named : {limits : Bounds} → AreBounds limits → {front piece : List ℕ} {fault : Fault} → RefusesByte (server_rules limits) front piece fault →
    IsNamedFault fault
refused_is_named bounds {front} {fault} r =
    let g = r.fault_of in
    let (before, byte, whole, size) = last_byte fault.at g.front g.place in
    let near = viable_is_short (g.first before byte [] whole) in
    let most = bounds.total_in_range.1 in
    record {
      short = subst (λ cause. length (name_of cause) ≤ 16) (sym r.names) (short_name r.rule);
      near = omega (arith, near, most, size);
    }

-- a fault that isn't OutOfMemory has a short name, and stands within the limit of total
pub fault_is_named : {limits : Bounds} → AreBounds limits → {fault : Fault} (front piece : List ℕ) → RefusesReading (server_rules limits) front piece fault →
    (fault.cause ≡ OutOfMemory → ⊥) → IsNamedFault fault
fault_is_named bounds front piece (inl refused) other = refused_is_named bounds refused
fault_is_named bounds front piece (inr lacks) other = absurd (other lacks)

pub refused_by : {front piece : List ℕ} {fault : Fault} (limits : Bounds) → RefusesReading (server_rules limits) front piece fault →
    (fault.cause ≡ OutOfMemory → ⊥) → RefusesByte (server_rules limits) front piece fault
refused_by limits (inl refused) other = refused
refused_by limits (inr lacks) other = absurd (other lacks)

-- no value has ended in what was taken
pub none_taken : NoSpellingIsEmpty → (r : Rules) (reading : Reading) (front : List ℕ) → HasReadFront reading front → BeginsNoValue r front
none_taken full r None front taken = subst (BeginsNoValue r) (sym taken) (nothing_begins full r)
none_taken full r (Some decoder) front taken = no_value_begins r front taken.no_value

-- no value ends before a byte more has come
pub some_used : {r : Rules} {x : Datum} (front piece : List ℕ) (used : ℕ) → BeginsNoValue r front → IsSpelling r x (front ++ take used piece) → 0 < used
some_used {x} front piece zero none s = absurd (none x (front ++ []) [] s (sym (append-nil (front ++ []) ∙ append-nil front)))
some_used front piece (suc n) none s = omega arith

-- a state after which nothing was run
state_same : {version version' : Version} {closing closing' : Bool} (store : Store) (text : List ℕ) (count : ℕ) → version' ≡ version → closing' ≡ closing →
    state_with store version text closing count ≡ state_with store version' text closing' (count + 0)
state_same {version'} {closing} {closing'} store text count v b =
    ap (λ w. state_with store w text closing count) (sym v) ∙ ap (λ c. state_with store version' text c count) (sym b) ∙
    (let e : count ≡ count + 0 = omega arith in ap (λ n. state_with store version' text closing' n) e)

-- the turn of a byte that was refused
pub refused_turn : {limits : Bounds} {store : Store} {before after : Session} {front piece : List ℕ} {fault : Fault} → RefusesByte (server_rules limits) front
    piece fault → after.version ≡ before.version → after.closing ≡ true → after.out.items ≡ before.out.items ++ canonical_text before.version
    (error (fault_text (name_of fault.cause) fault.at)) → AnswersBytes limits store store before after front piece (length piece) 0
refused_turn {limits} {store} {before} {after} {front} {piece} {fault} refused version closes line =
    let reply = canonical_text before.version (error (fault_text (name_of fault.cause) fault.at)) in
    let whole : front ++ take (length piece) piece ≡ front ++ piece = ap (λ p. front ++ p) (take_all (length piece) piece (omega arith)) in
    record {
      reply = reply;
      rest = front ++ piece;
      replied = line;
      answers = λ text count. subst (λ t. Answers limits before.id (state_with store before.version text false count) t
          (state_with store after.version (text ++ reply) after.closing (count + 0)) (front ++ piece)) (sym whole)
          (subst (λ s. Answers limits before.id (state_with store before.version text false count) (front ++ piece) s (front ++ piece))
          (state_same store (text ++ reply) count version closes) (fault_answers front piece fault refl refused));
      taking = λ is_open. absurd (false≢true (sym is_open ∙ closes));
      within = omega arith;
      onward = λ is_open full. absurd (false≢true (sym is_open ∙ closes));
    }

-- the turn of a piece in which no value ended
pub waiting_turn : {limits : Bounds} {store : Store} {before after : Session} {front piece : List ℕ} {used : ℕ} →
    ReadsOn (server_rules limits) after.decoder (front ++ piece) piece used → after.version ≡ before.version → after.closing ≡ false →
    after.out.items ≡ before.out.items → AnswersBytes limits store store before after front piece used 0
waiting_turn {limits} {store} {before} {after} {front} {piece} {used} taken version is_open out =
    let is = taken.whole_piece in
    let whole : front ++ take used piece ≡ front ++ piece = ap (λ p. front ++ p) (take_all used piece (omega (arith, is))) in
    record {
      reply = [];
      rest = front ++ piece;
      replied = out ∙ sym (append-nil before.out.items);
      answers = λ text count. subst (λ t. Answers limits before.id (state_with store before.version text false count) t
          (state_with store after.version (text ++ []) after.closing (count + 0)) (front ++ piece)) (sym whole)
          (waits_on refl (sym (ap (λ t. state_with store before.version t false count) (sym (append-nil text)) ∙
          state_same store (text ++ []) count version is_open)) (no_value_begins (server_rules limits) (front ++ piece)
          taken.no_value) taken.viable);
      taking = λ open_now. taken.takes;
      within = omega (arith, is);
      onward = λ open_now full. omega (arith, is, full);
    }

-- the turn of a value that is spelled by what was taken and the bytes used
pub spelled_turn : NoSpellingIsEmpty → TheEmptyTextIsViable → {limits : Bounds} → AreBounds limits →
    {store store' : Store} {before after : Session} {front piece : List ℕ} {x : Datum} {used commands : ℕ} → BeginsNoValue (server_rules limits) front →
    IsSpelling (server_rules limits) x (front ++ take used piece) → used ≤ length piece → HasReadFront after.decoder [] →
    IsAnswerTo x store store' before after commands → AnswersBytes limits store store' before after front piece used commands
spelled_turn full empty bounds {front} {piece} {used} none spelled within takes answered = record {
  reply = answered.reply;
  rest = [];
  replied = answered.replied;
  answers = λ text count. value_answers full empty bounds spelled (answered.state text count);
  taking = λ open_now. takes;
  within = within;
  onward = λ open_now some. some_used front piece used none spelled;
}

-- the turn of a value that was read
pub value_turn : NoSpellingIsEmpty → TheEmptyTextIsViable → {limits : Bounds} → AreBounds limits → {store store' : Store} {before after : Session}
    {front piece : List ℕ} {reading : Reading} {value : Value} {used commands : ℕ} → BeginsNoValue (server_rules limits) front → ReadsValue
    (server_rules limits) reading (front ++ take used piece) value → used ≤ length piece → after.decoder ≡ reading → IsAnswerTo (datum_of value) store store'
    before after commands → AnswersBytes limits store store' before after front piece used commands
value_turn full empty bounds none given within kept answered =
    spelled_turn full empty bounds none given.spelling within (subst (λ d. HasReadFront d []) (sym kept) given.takes)
    answered

-- it makes no difference to an answer with what the session reads
pub same_answer : {x : Datum} {store store' : Store} {before middle after : Session} {commands : ℕ} → IsAnswerTo x store store' middle after commands →
    middle.id ≡ before.id → middle.version ≡ before.version → middle.out.items ≡ before.out.items → IsAnswerTo x store store' before after commands
same_answer {x} {store} {store'} {before} {middle} {after} {commands} answered same version out = record {
  reply = answered.reply;
  replied = answered.replied ∙ ap (λ l. l ++ answered.reply) out;
  state = λ text count. subst (λ id. after_value id (state_with store before.version text false count) x ≡
      state_with store' after.version (text ++ answered.reply) after.closing (count + commands)) same
      (subst (λ v. after_value middle.id (state_with store v text false count) x ≡
      state_with store' after.version (text ++ answered.reply) after.closing (count + commands)) version (answered.state text count));
}
