-- How a value that was read is told, and what it answers.
use Rattle.std.proofs.Common.{◌≡◌, ◌≢◌, ℕ, zero, suc, ◌+◌, ◌<◌, ◌≤◌, None, Some, true, false, List, [], ◌∷◌, ◌++◌, length, take, Option, refl, sym, ap, subst, ◌∙◌, arith, length-append}
use Rattle.std.proofs.Math.Bridge.{le_prop}
use Rattle.std.proofs.lemmas.List.{append-nil, length-take-le, take_all}
use Rattle.resp_value.specs.Bounds.{Bounds}
use Rattle.resp_value.specs.Data.{Datum}
use Rattle.resp_value.specs.Rules.{WithinTotal}
use Rattle.resp_value.specs.Spellings.{IsSpelling}
use Rattle.resp_value.specs.Trees.{Spells}
use Rattle.resp_value.specs.Values.{datum_of}
use Rattle.resp_value.specs.declared.value.Value.TheVariants as value
use Rattle.resp_scan.specs.declared.event.Fault.{Fault}
use Rattle.resp_decode.specs.Decoding as decode
use Rattle.resp_decode.specs.declared.decoder.Decoder.{Decoder}
use Rattle.resp_session.specs.Heard.{is_push, numbered_replies}
use Rattle.resp_session.specs.Reading.{MayBeRead, ReadsAs, Waiting, reading_rules, waiting_after, waiting_after_reply}
use Rattle.resp_client.specs.Clients.{ClientState, next_number, state_of, with_answer}
use Rattle.resp_client.specs.Hearing.{GivesPush, GivesReply, HasFault, Hears, UnlessReplied, WhereTaken}
use Rattle.resp_client.specs.Standing.{TakesFront, TakesOrStands}
use Rattle.resp_client.specs.Steps.{Knows, SameReading, TakesValue}
use Rattle.resp_client.specs.declared.client.Client.{Client}
use Rattle.resp_client.specs.declared.heard.What.{What}
use Rattle.resp_client.specs.declared.heard.What.TheVariants.{Reply, Push, Shown, More}
use Rattle.resp_client.proofs.Fronts.{takes_nothing, where_reading}

-- what a value leaves, by whether it is a push
after_reply : (w : Waiting) (x : Datum) → is_push x ≡ false → waiting_after w x ≡ waiting_after_reply w.version w.asks x
after_reply w x e = rw e refl

after_push : (w : Waiting) (x : Datum) → is_push x ≡ true → waiting_after w x ≡ w
after_push w x e = rw e refl

numbered_one : (n : ℕ) (x : Datum) → is_push x ≡ false → numbered_replies n (x ∷ []) ≡ (n, x) ∷ []
numbered_one n x e = rw e refl

-- a text that is read as one value is a spelling of it
pub spelling_of : (limits : Bounds) (w after : Waiting) (x : Datum) (text : List ℕ) → ReadsAs limits w (x ∷ []) text after →
    IsSpelling (reading_rules limits w) x text
spelling_of limits w after x text (front, rest, s, may, (none, same), whole) =
    subst (IsSpelling (reading_rules limits w) x) (sym (whole ∙ ap (λ z. front ++ z) none ∙ append-nil front)) s

-- and no longer than the limit of total
pub read_within : (limits : Bounds) (w after : Waiting) (x : Datum) (text : List ℕ) → ReadsAs limits w (x ∷ []) text after →
    length text ≤ limits.total
read_within limits w after x text reads =
    let is = spelling_of limits w after x text reads in
    subst (λ z. length z ≤ limits.total) (is.spells.spelled) (is.keeps WithinTotal (omega arith))

may_of : (limits : Bounds) (w after : Waiting) (x : Datum) (text : List ℕ) → ReadsAs limits w (x ∷ []) text after → MayBeRead w x
may_of limits w after x text (front, rest, s, may, (none, same), whole) = may

-- where a reply is read a command waits
one_waits : (limits : Bounds) (w after : Waiting) (x : Datum) (text : List ℕ) → ReadsAs limits w (x ∷ []) text after → is_push x ≡ false → w.asks ≢ []
one_waits limits w after x text reads reply none =
    let push : is_push x ≡ true = may_of limits w after x text reads none in
    let both : true ≡ false = sym push ∙ reply in
    absurd (cc)

-- nothing is taken of the next value, whatever a value answered
takes_next : (limits limits' : Bounds) (w w' : Waiting) (one other : Decoder) (fault fault' : Option Fault) → other ≡ one → limits' ≡ limits → fault' ≡ fault →
    TakesFront limits w one fault [] → TakesFront limits' w' other fault' []
takes_next limits limits' w w' one other fault fault' e l f t =
    subst (λ z. TakesFront limits' w' z fault' []) (sym e)
    (subst (λ z. TakesFront z w' one fault' []) (sym l) (takes_nothing limits w' one fault' t.taken t.same_limits (f ∙ t.no_fault)))

tells_reply : (old mid new : Client) (written : List ℕ) (number : ℕ) (x y : Datum) → TakesValue old mid written x → state_of mid ≡ state_of old →
    SameReading mid new → y ≡ x → is_push x ≡ false →
    ((state_of mid).waiting.asks ≢ [] → (number ≡ next_number (state_of mid)) × (state_of new ≡ with_answer x (state_of mid))) →
    GivesReply old new written number y
tells_reply old mid new written number x y t same reading e reply known =
    let s : ClientState = state_of old in
    let waits = one_waits s.limits s.waiting (waiting_after s.waiting x) x written t.reads reply in
    let k = known (λ none. waits (ap (λ (z : ClientState). z.waiting.asks) (sym same) ∙ none)) in
    let number_is : number ≡ next_number s = k.0 ∙ ap next_number same in
    let after : state_of new ≡ with_answer x s = k.1 ∙ ap (with_answer x) same in
    let waiting_is : waiting_after s.waiting x ≡ (state_of new).waiting = after_reply s.waiting x reply ∙ ap (λ (z : ClientState). z.waiting) (sym after) in
    let given : GivesReply old new written number x = record {
      reads = subst (ReadsAs s.limits s.waiting (x ∷ []) written) waiting_is t.reads;
      numbered = numbered_one (next_number s) x reply ∙ ap (λ n. (n, x) ∷ []) (sym number_is);
      answered = after;
      takes = takes_next mid.limits new.limits (state_of mid).waiting (state_of new).waiting mid.decoder new.decoder mid.fault new.fault
          reading.decoder reading.limits reading.fault t.takes;
    } in
    subst (GivesReply old new written number) (sym e) given

tells_push : (old mid new : Client) (written : List ℕ) (x y : Datum) → TakesValue old mid written x → SameReading mid new → y ≡ x → is_push x ≡ true →
    GivesPush old new written y
tells_push old mid new written x y t reading e push =
    let s : ClientState = state_of old in
    let given : GivesPush old new written x = record {
      reads = subst (ReadsAs s.limits s.waiting (x ∷ []) written) (after_push s.waiting x push) t.reads;
      takes = takes_next mid.limits new.limits (state_of mid).waiting (state_of new).waiting mid.decoder new.decoder mid.fault new.fault
          reading.decoder reading.limits reading.fault t.takes;
    } in
    subst (GivesPush old new written) (sym e) given

-- what is told of a value that was read
pub tells : (old mid new : Client) (front piece : List ℕ) (used : ℕ) (x : Datum) (what : What) → TakesValue old mid (front ++ take used piece) x →
    state_of mid ≡ state_of old → SameReading mid new → Knows (state_of mid) (state_of new) x what → Hears old new front piece used what
tells old mid new front piece used x (Reply number y) t same reading k =
    tells_reply old mid new (front ++ take used piece) number x (datum_of y) t same reading k.0 k.1 k.2
tells old mid new front piece used x (Push items) t same reading k =
    tells_push old mid new (front ++ take used piece) x (datum_of (value.Push items)) t reading k.0 k.1
tells old mid new front piece used x Shown t same reading k = absurd k
tells old mid new front piece used x More t same reading k = absurd k

-- only a reply answers
pub unless_replied : (s old new : ClientState) (x : Datum) (what : What) → old ≡ s → Knows old new x what → UnlessReplied what (new ≡ s)
unless_replied s old new x (Reply number y) e k = tt
unless_replied s old new x (Push items) e k = k.2 ∙ e
unless_replied s old new x Shown e k = absurd k
unless_replied s old new x More e k = absurd k

-- a value that ends in a piece uses bytes of it, since none has ended before
pub value_uses : (limits : Bounds) (w after : Waiting) (d : Decoder) (x : Datum) (front piece : List ℕ) (used : ℕ) → decode.HasTaken d front →
    ReadsAs limits w (x ∷ []) (front ++ take used piece) after → 0 < used
value_uses limits w after d x front piece (suc used) h reads = omega arith
value_uses limits w after d x front piece zero h reads =
    let is = spelling_of limits w after x (front ++ []) reads in
    absurd (h.no_value (length front) is.tree (subst (Spells is.tree) (append-nil front ∙ sym (take_all (length front) front (omega arith))) is.spells))

-- a client of which no fault stands has none
pub no_fault : (c : Client) → ((fault : Fault) → HasFault c fault → ⊥) → c.fault ≡ None
no_fault c never = cases c.fault (λ fault is. never fault is)
  where
    cases : (stands : Option Fault) → ((fault : Fault) → stands ≡ Some fault → ⊥) → stands ≡ None
    cases None h = refl
    cases (Some fault) h = absurd (h fault refl)

-- what was taken when a push is lost is within the limit of total
pub loses_within : (old new : Client) (taken used : ℕ) (piece : List ℕ) (x : Datum) →
    ∥ TakesOrStands old.limits (state_of old).waiting old.decoder old.fault ∥₁ → old.fault ≡ None → WhereTaken old (λ front. taken ≡ length front) →
    WhereTaken old (λ front. GivesPush old new (front ++ take used piece) x) → used ≤ length piece → state_of new ≡ state_of old →
    taken + used ≤ new.limits.total
loses_within old new taken used piece x reading none is given within same =
    where_reading old.limits (state_of old).waiting old.decoder old.fault reading none le_prop (λ front h.
    omega (
      arith,
      is front h,
      length-append front (take used piece),
      length-take-le used piece within,
      read_within old.limits (state_of old).waiting (state_of old).waiting x (front ++ take used piece) (given front h).reads,
      ap (λ (z : ClientState). z.limits.total) same,
    ))
