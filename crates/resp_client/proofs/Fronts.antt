-- What a client takes of the values that come, and in which version.
use Rattle.std.proofs.Common.{◌≡◌, ◌≢◌, ◌⊎◌, inl, inr, ℕ, Bool, true, false, eqb, List, [], ◌∷◌, ◌++◌, length, take, drop, Option, None, Some, refl, sym, ap, subst, ◌∙◌, arith, append_assoc}
use Rattle.std.specs.Prelude.{◌↔◌, IsOk, OnOk, Result, Ok, Err}
use Rattle.std.proofs.Math.Bridge.{le_prop}
use Rattle.std.proofs.Math.Logic.{∥∥₁_elim, ∥∥₁_map, ∥∥₁_prop, ⊎_elim}
use Rattle.std.proofs.lemmas.Bool.{eqb-true}
use Rattle.std.proofs.lemmas.List.{append-nil, take-append-drop, take-append-le, take_all}
use Rattle.resp_value.specs.Bounds.{Bounds}
use Rattle.resp_value.specs.declared.value.Value.{Value}
use Rattle.resp_value.specs.Data.{Datum, IsPush, scalar, aggregate, Array, Set, Map, Attr, Push}
use Rattle.resp_value.specs.Causes.{cause_of}
use Rattle.resp_value.specs.Rules.{Rules, Rule, Grammar, NoDouble, InVersion, PushAtTop, InRange, NotStreamed, WithinDepth, WithinLength, WithinItems, WithinTotal, rules_under}
use Rattle.resp_value.specs.Trees.{Spells}
use Rattle.resp_value.specs.Spellings.{IsSpelling, IsViable, FaultOf}
use Rattle.resp_value.specs.Laws.{NoSpellingIsEmpty, APushBeginsWithItsByte, LaterTypeBytesWantVersionThree}
use Rattle.resp_value.specs.declared.version.Version.{Version}
use Rattle.resp_value.specs.declared.version.Version.TheVariants.{Two, Three}
use Rattle.resp_scan.specs.Kinds.{rules_of}
use Rattle.resp_scan.specs.Reading.{HasNoSpelling, HasNoValue}
use Rattle.resp_scan.specs.declared.event.Fault.{Fault}
use Rattle.resp_decode.specs.Decoding.{GivesValue, LacksMemory, RefusesByte, TakesPiece}
use Rattle.resp_decode.specs.Decoding as decode
use Rattle.resp_decode.specs.declared.decoder.Decoder.{Decoder}
use Rattle.resp_session.specs.Answers.{BeginsNoValue}
use Rattle.resp_session.specs.Heard.{is_push}
use Rattle.resp_session.specs.Reading.{ClientFault, IsUnasked, MayBeRead, MayGoOn, ReadsAs, Waiting, reading_rules, waiting_after}
use Rattle.resp_client.specs.Standing.{IsOfBytes, TakesFront, TakesOrStands}

is_push_byte : (byte : ℕ) (b : Bool) → eqb byte 62 ≡ b → (byte ≢ 62 → ⊥) → byte ≡ 62
is_push_byte byte true e h = eqb-true byte 62 e
is_push_byte byte false e h = absurd (h (λ f. let g : eqb 62 62 ≡ false = ap (λ z. eqb z 62) (sym f) ∙ e in absurd (cc)))

-- what begins as a push isn't viable in version 2
push_is_later : LaterTypeBytesWantVersionThree → (r : Rules) (beyond : List ℕ) → r.version ≡ Two → IsViable r WithinTotal (62 ∷ beyond) → ⊥
push_is_later later r beyond two v =
    (later r two).1.1.1.1.1.1.1.1.0.not_viable
    (record { rest = beyond ++ v.rest; tree = v.tree; spells = v.spells; keeps = λ earlier h. v.keeps earlier (omega (arith, h)) })

-- a value that was begun is read in the same version, whatever is asked after it
same_version : LaterTypeBytesWantVersionThree → (limits : Bounds) (version : Version) (asks : List (Option Version)) (asked : Option Version) (r : Rules)
    (front : List ℕ) → r ≡ reading_rules limits (record { version = version; asks = asks }) → IsViable r WithinTotal front →
    (IsUnasked (record { version = version; asks = asks }) front → ⊥) →
    (front ≡ []) ⊎ (r ≡ reading_rules limits (record { version = version; asks = asks ++ asked ∷ [] }))
same_version later limits version (None ∷ asks) asked r front e v u = inr e
same_version later limits version (Some first ∷ asks) asked r front e v u = inr e
same_version later limits Three [] None r front e v u = inr e
same_version later limits Three [] (Some asked) r front e v u = inr e
same_version later limits Two [] asked r [] e v u = inl refl
same_version later limits Two [] asked r (first ∷ beyond) e v u =
    let push : first ≡ 62 = is_push_byte first (eqb first 62) refl (λ other. u (refl, (first, beyond, other, refl))) in
    absurd (push_is_later later r beyond (ap (λ (z : Rules). z.version) e) (subst (λ z. IsViable r WithinTotal (z ∷ beyond)) push v))

-- what was taken stays so, whatever is asked after it
pub takes_on : LaterTypeBytesWantVersionThree → (limits : Bounds) (version : Version) (asks : List (Option Version)) (asked : Option Version) (d : Decoder)
    (fault : Option Fault) (front : List ℕ) → IsViable (rules_of d.scanner) WithinTotal front →
    TakesFront limits (record { version = version; asks = asks }) d fault front →
    TakesFront limits (record { version = version; asks = asks ++ asked ∷ [] }) d fault front
takes_on later limits version asks asked d fault front v t = record {
  taken = t.taken;
  same_limits = t.same_limits;
  read_by = elim t.read_by [ inl none ↦ inl none | inr e ↦ same_version later limits version asks asked (rules_of d.scanner) front e v t.asked ];
  asked = λ u. none_waits asks u.0;
  no_fault = t.no_fault;
} where
  none_waits : (asks : List (Option Version)) → asks ++ asked ∷ [] ≡ [] → ⊥
  none_waits [] e = absurd (cc)
  none_waits (first ∷ others) e = absurd (cc)

-- and it goes on so with any client
pub reads_on_asked : LaterTypeBytesWantVersionThree → (limits : Bounds) (version : Version) (asks : List (Option Version)) (asked : Option Version)
    (d : Decoder) (fault : Option Fault) → ∥ TakesOrStands limits (record { version = version; asks = asks }) d fault ∥₁ →
    ((front : List ℕ) → TakesFront limits (record { version = version; asks = asks }) d fault front → IsViable (rules_of d.scanner) WithinTotal front) →
    ∥ TakesOrStands limits (record { version = version; asks = asks ++ asked ∷ [] }) d fault ∥₁
reads_on_asked later limits version asks asked d fault reading viable =
    ∥∥₁_map reading (⊎_elim (λ t. inl (t.0, takes_on later limits version asks asked d fault t.0 (viable t.0 t.1) t.1)) inr)

front_of : (front beyond : List ℕ) → take (length front) (front ++ beyond) ≡ front
front_of front beyond = take-append-le (length front) front beyond (omega arith) ∙ take_all (length front) front (omega arith)

-- where no front is a spelling no value begins the text
no_value_begins : (r : Rules) (text : List ℕ) → HasNoSpelling r text → BeginsNoValue r text
no_value_begins r text h x front beyond s e =
    let same : take (length front) text ≡ front = ap (take (length front)) e ∙ front_of front beyond in
    h (length front) (record { tree = s.tree; spells = subst (Spells s.tree) (sym same) s.spells; keeps = s.keeps })

-- a refused byte is the client's fault
pub is_broken : (limits : Bounds) (w : Waiting) (r : Rules) (front piece : List ℕ) (fault : Fault) → r ≡ reading_rules limits w →
    (IsUnasked w (front ++ piece) → ⊥) → RefusesByte r front piece fault ⊎ LacksMemory r front piece fault →
    ClientFault limits w (front ++ piece) fault.cause fault.at ⊎
    ((IsUnasked w (front ++ piece) → ⊥) × LacksMemory (reading_rules limits w) front piece fault)
is_broken limits w r front piece fault e asked (inl f) = inl (inr (record {
  asked = asked;
  no_more = subst (λ z. BeginsNoValue z (front ++ piece)) e (no_value_begins r (front ++ piece) f.no_value);
  rule = f.rule;
  fault = subst (λ z. FaultOf z (front ++ piece) f.rule fault.at) e f.fault_of;
  named = f.names;
}))
is_broken limits w r front piece fault e asked (inr m) = inr (asked, subst (λ z. LacksMemory z front piece fault) e m)

pub may_go_on : (limits : Bounds) (w : Waiting) (r : Rules) (text : List ℕ) → r ≡ reading_rules limits w → (IsUnasked w text → ⊥) → HasNoValue text →
    IsViable r WithinTotal text → MayGoOn limits w text
may_go_on limits w r text e asked none v = record {
  asked = asked;
  no_more = no_value_begins (reading_rules limits w) text (λ n s. none n s.tree s.spells);
  viable = subst (λ z. IsViable z WithinTotal text) e v;
}

push_by : (x : Datum) → IsPush x → is_push x ≡ true
push_by (scalar s) h = absurd h
push_by (aggregate Array xs) h = absurd h
push_by (aggregate Set xs) h = absurd h
push_by (aggregate Map xs) h = absurd h
push_by (aggregate Attr xs) h = absurd h
push_by (aggregate Push xs) h = refl

-- a value that came while no command waits is a push
may_be_read : NoSpellingIsEmpty → APushBeginsWithItsByte → (r : Rules) (w : Waiting) (x : Datum) (text : List ℕ) → IsSpelling r x text →
    (IsUnasked w text → ⊥) → MayBeRead w x
may_be_read full begins r w x [] s asked e = absurd (full r x s)
may_be_read full begins r w x (first ∷ rest) s asked e =
    push_by x ((begins r x (first ∷ rest) s).1
    (rest, ap (λ z. z ∷ rest) (is_push_byte first (eqb first 62) refl (λ other. asked (e, (first, rest, other, refl))))))

-- what came, where this many bytes of the piece were used
pub as_used : (front piece : List ℕ) (used : ℕ) → front ++ piece ≡ (front ++ take used piece) ++ drop used piece
as_used front piece used =
    ap (λ z. front ++ z) (sym (take-append-drop used piece)) ∙ sym (append_assoc front (take used piece) (drop used piece))

-- what is asked for as a whole is asked for as far as it was used
asked_front : (w : Waiting) (front piece : List ℕ) (used : ℕ) → (IsUnasked w (front ++ piece) → ⊥) → IsUnasked w (front ++ take used piece) → ⊥
asked_front w front piece used h (none, (byte, beyond, other, e)) =
    h (none, (byte, beyond ++ drop used piece, other, as_used front piece used ∙ ap (λ z. z ++ drop used piece) e))

-- a spelling is read as its value
pub reads_as : NoSpellingIsEmpty → APushBeginsWithItsByte → (limits : Bounds) (w : Waiting) (r : Rules) (x : Datum) (front piece : List ℕ) (used : ℕ) →
    r ≡ reading_rules limits w → (IsUnasked w (front ++ piece) → ⊥) → IsSpelling r x (front ++ take used piece) →
    ReadsAs limits w (x ∷ []) (front ++ take used piece) (waiting_after w x)
reads_as full begins limits w r x front piece used e asked s =
    let text = front ++ take used piece in (
      text,
      [],
      subst (λ z. IsSpelling z x text) e s,
      may_be_read full begins r w x text s (asked_front w front piece used asked),
      (refl, refl),
      sym (append-nil text),
    )

-- nothing is taken of the next value
pub takes_nothing : (limits : Bounds) (w : Waiting) (d : Decoder) (fault : Option Fault) → decode.HasTaken d [] → (rules_of d.scanner).limits ≡ limits →
    fault ≡ None → TakesFront limits w d fault []
takes_nothing limits w d fault t l none = record {
  taken = t;
  same_limits = l;
  read_by = inl refl;
  asked = λ u. let (e, (byte, beyond, other, is)) = u in absurd (cc);
  no_fault = none;
}

-- what was taken of a value was begun in its version
pub begun_version : (limits : Bounds) (w : Waiting) (d : Decoder) (fault : Option Fault) (front : List ℕ) → TakesFront limits w d fault front →
    (front ≡ [] → ⊥) → rules_of d.scanner ≡ reading_rules limits w
begun_version limits w d fault front t begun =
    elim t.read_by as (λ h. rules_of d.scanner ≡ reading_rules limits w) [ inl none ↦ absurd (begun none) | inr e ↦ e ]

-- and it goes on as it was asked for
pub begun_asked : (w : Waiting) (front piece : List ℕ) → (IsUnasked w front → ⊥) → (front ≡ [] → ⊥) → IsUnasked w (front ++ piece) → ⊥
begun_asked w [] piece asked begun u = begun refl
begun_asked w (first ∷ rest) piece asked begun (none, (byte, beyond, other, e)) =
    let same : first ≡ byte = cc in
    asked (none, (first, rest, (λ is. other (sym same ∙ is)), refl))

pub no_bytes : (front : List ℕ) → length front ≡ 0 → front ≡ []
no_bytes [] e = refl
no_bytes (first ∷ rest) e = absurd (omega (arith, e))

-- more is taken of a value
pub takes_more : (limits : Bounds) (w : Waiting) (old new : Decoder) (fault : Option Fault) (text : List ℕ) →
    rules_of old.scanner ≡ reading_rules limits w → rules_of new.scanner ≡ rules_of old.scanner → (IsUnasked w text → ⊥) → fault ≡ None →
    decode.HasTaken new text → TakesFront limits w new fault text
takes_more limits w old new fault text e same asked none t = record {
  taken = t;
  same_limits = ap (λ (r : Rules). r.limits) (same ∙ e);
  read_by = inr (same ∙ e);
  asked = asked;
  no_fault = none;
}

-- after a piece that was fed some front is taken
pub reads_on : (limits : Bounds) (w : Waiting) (old new : Decoder) (fault : Option Fault) (front piece : List ℕ) (used : ℕ) (fed : Option Value) →
    rules_of old.scanner ≡ reading_rules limits w → rules_of new.scanner ≡ rules_of old.scanner → (IsUnasked w (front ++ piece) → ⊥) → fault ≡ None →
    ((x : Value) → fed ≡ Some x → GivesValue (rules_of old.scanner) new (front ++ take used piece) x) →
    (fed ≡ None → TakesPiece (rules_of old.scanner) (decode.HasTaken new) (front ++ piece) piece used) → TakesOrStands limits w new fault
reads_on limits w old new fault front piece used (Some x) e same asked none whole up =
    inl ([], takes_nothing limits w new fault (whole x refl).takes (ap (λ (r : Rules). r.limits) (same ∙ e)) none)
reads_on limits w old new fault front piece used None e same asked none whole up =
    inl (front ++ piece, takes_more limits w old new fault (front ++ piece) e same asked none (up refl).takes)

-- where no fault stands, what holds wherever some front was taken holds
pub where_reading : {P : Type 0} (limits : Bounds) (w : Waiting) (d : Decoder) (fault : Option Fault) → ∥ TakesOrStands limits w d fault ∥₁ → fault ≡ None →
    IsProp P → ((front : List ℕ) → TakesFront limits w d fault front → P) → P
where_reading limits w d fault reading none prop of =
    ∥∥₁_elim reading prop (⊎_elim (λ taken. of taken.0 taken.1) (λ stands. absurd (no_fault stands.0 (sym none ∙ stands.1.0))))
  where
    no_fault : (f : Fault) → None ≡ Some f → ⊥
    no_fault f is = cc

-- Causes.

-- each cause of the grammar is of bytes that come
rule_of_bytes : (rule : Rule) → IsOfBytes (cause_of rule)
rule_of_bytes Grammar = omega arith
rule_of_bytes NoDouble = omega arith
rule_of_bytes InVersion = omega arith
rule_of_bytes PushAtTop = omega arith
rule_of_bytes InRange = omega arith
rule_of_bytes NotStreamed = omega arith
rule_of_bytes WithinDepth = omega arith
rule_of_bytes WithinLength = omega arith
rule_of_bytes WithinItems = omega arith
rule_of_bytes WithinTotal = omega arith

-- so is each of a decoder's
pub fault_of_bytes : (r : Rules) (front piece : List ℕ) (fault : Fault) → RefusesByte r front piece fault ⊎ LacksMemory r front piece fault →
    IsOfBytes fault.cause
fault_of_bytes r front piece fault (inl f) = subst IsOfBytes (sym f.names) (rule_of_bytes f.rule)
fault_of_bytes r front piece fault (inr m) = subst IsOfBytes (sym m.names) (omega arith)

-- and that of a fault that stands
pub stands_of_bytes : (limits : Bounds) (w : Waiting) (d : Decoder) (stands : Option Fault) (fault : Fault) → ∥ TakesOrStands limits w d stands ∥₁ →
    stands ≡ Some fault → IsOfBytes fault.cause
stands_of_bytes limits w d stands fault reading is = ∥∥₁_elim reading le_prop of
  where
    of : TakesOrStands limits w d stands → IsOfBytes fault.cause
    of (inl (front, t)) = let wrong : None ≡ Some fault = sym t.no_fault ∙ is in absurd (cc)
    of (inr (other, s)) =
        let both : Some other ≡ Some fault = sym s.0 ∙ is in
        let same : other ≡ fault = cc in
        subst (λ (f : Fault). IsOfBytes f.cause) same s.2

-- between values it goes on so, whatever is waited for then
pub between_values : (limits : Bounds) (w after : Waiting) (d : Decoder) (fault : Option Fault) → ∥ TakesFront limits w d fault [] ∥₁ →
    ∥ TakesOrStands limits after d fault ∥₁
between_values limits w after d fault taken =
    ∥∥₁_elim taken ∥∥₁_prop (λ t. ∣ inl ([], takes_nothing limits after d fault t.taken t.same_limits t.no_fault) ∣₁)

-- a change of version between values keeps it so
pub in_version : {A B : Type 0} (limits : Bounds) (w : Waiting) (version : Version) (old new : Decoder) (fault : Option Fault) (result : Result A B) →
    ∥ TakesOrStands limits w old fault ∥₁ → ((front : List ℕ) → TakesFront limits w old fault front → front ≡ []) →
    ((front : List ℕ) → decode.HasTaken old front → IsOk result ↔ (front ≡ [])) →
    ((front : List ℕ) → decode.HasTaken old front → OnOk result (decode.HasTaken new [])) →
    OnOk result (rules_of new.scanner ≡ rules_under version (rules_of old.scanner).limits) → ∥ TakesOrStands limits w new fault ∥₁
in_version limits w version old new fault (Ok x) reading between only taken rules = ∥∥₁_map reading (⊎_elim (λ t.
    inl ([], takes_nothing limits w new fault (taken t.0 t.1.taken) (ap (λ (r : Rules). r.limits) rules ∙ t.1.same_limits) t.1.no_fault)) inr)
in_version limits w version old new fault (Err x) reading between only taken rules = ∥∥₁_map reading (⊎_elim (λ t.
    absurd (no_ok ((only t.0 t.1.taken).1 (between t.0 t.1)))) inr)
  where
    no_ok : false ≡ true → ⊥
    no_ok wrong = cc
