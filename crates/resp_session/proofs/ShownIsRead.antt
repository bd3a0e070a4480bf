-- What has come to a client is what it reads, and has no fault.
use Rattle.std.proofs.Common.{◌≡◌, ◌⊎◌, inl, inr, ℕ, ◌+◌, ◌-◌, ◌<◌, ◌≤◌, List, [], ◌∷◌, ◌++◌, length, map, take, drop, refl, sym, ap, subst, ◌∙◌, arith, append_assoc, append-nil, length-append, add-one}
use Rattle.std.proofs.lemmas.Bool.{cases_lt}
use Rattle.std.proofs.lemmas.List.{take-append-drop, length-take-le, take_all}
use Rattle.std.specs.List.{AllByRecursion, concat}
use Rattle.resp_value.specs.Bounds.{Bounds, AreBounds}
use Rattle.resp_value.specs.Data.{Datum}
use Rattle.resp_value.specs.Laws.{NoSpellingBeginsAnother, NoSpellingIsEmpty, FrontsOfSpellingsAreViable, TheEmptyTextIsViable, APushBeginsWithItsByte}
use Rattle.resp_value.specs.Rules.{Rules, WithinTotal}
use Rattle.resp_value.specs.Spellings.{IsSpelling}
use Rattle.resp_value.specs.declared.cause.Cause.{Cause}
use Rattle.resp_value.specs.declared.version.Version.TheVariants.{Two}
use Rattle.resp_session.specs.Arrivals.{HasBeenRead}
use Rattle.resp_session.specs.Connections.{Message, message_text, values_of, back_text, shown_messages, whole_within}
use Rattle.resp_session.specs.Reading.{Waiting, ReadsAs, MayBeRead, MayGoOn, IsUnasked, ClientFault, reading_rules, waiting_after}
use Rattle.resp_session.specs.ReadingLaws.{ARestHasOneClientFault, ATextHasOneReading, NothingMayGoOn}
use Rattle.resp_session.specs.WorldLaws.{IsWritten, EachMessageIsWritten, WhatIsWrittenIsRead, WhatIsShownIsRead, WhatIsReadIsShown, WhatIsLeftMayGoOn, NoClientMeetsAFault, waiting_for}
use Rattle.resp_session.proofs.Arrivals.{none_of_nothing, none_of_front, short, long}
use Rattle.resp_session.proofs.Readings.{push_is, same_first}
use Rattle.resp_session.proofs.TextsInPieces.{Begins, one_begins}
use Rattle.resp_session.proofs.WholeTexts.{whole_within-long}

-- what shares its first byte with a value that may be read isn't unasked
is_asked : APushBeginsWithItsByte → (r : Rules) (w : Waiting) (x : Datum) (front beyond rest more : List ℕ) → IsSpelling r x front → MayBeRead w x →
    rest ++ more ≡ front ++ beyond → IsUnasked w rest → ⊥
is_asked begins r w x front beyond rest more s may same (none, (byte, others, other, first)) =
    let (after, push) = (begins r x front s).0 (push_is x (may none)) in
    let whole : byte ∷ (others ++ more) ≡ 62 ∷ (after ++ beyond) = sym (ap (λ l. l ++ more) first) ∙ same ∙ ap (λ l. l ++ beyond) push in
    let equal : byte ≡ 62 = cc in
    other equal

-- a front of a value that isn't whole may go on
begun_goes_on : NoSpellingBeginsAnother → FrontsOfSpellingsAreViable → APushBeginsWithItsByte → (limits : Bounds) (w : Waiting) (x : Datum)
    (text came : List ℕ) (c : ℕ) (q : List ℕ) → IsSpelling (reading_rules limits w) x text → MayBeRead w x → text ≡ came ++ c ∷ q → MayGoOn limits w came
begun_goes_on apart viable begins limits w x text came c q s may e =
    let r = reading_rules limits w in
    record {
      asked = is_asked begins r w x text [] came (c ∷ q) s may (sym e ∙ sym (append-nil text));
      no_more = none_of_front apart r x text came c q s e;
      viable = viable r x came (c ∷ q) (subst (IsSpelling r x) e s) WithinTotal;
    }

nothing_asked : (w : Waiting) → IsUnasked w [] → ⊥
nothing_asked w (none, (byte, others, other, first)) = absurd (cc)

-- nothing may go on
nothing_goes_on : NoSpellingIsEmpty → TheEmptyTextIsViable → (limits : Bounds) → AreBounds limits → (w : Waiting) → MayGoOn limits w []
nothing_goes_on full empty limits bounds w = record {
  asked = nothing_asked w;
  no_more = none_of_nothing full (reading_rules limits w);
  viable = empty (reading_rules limits w) bounds WithinTotal;
}

-- the messages that have come whole within this many bytes
abbrev whole_messages : List Message → ℕ → List Message
whole_messages messages n = take (whole_within (map message_text messages) n) messages

-- the first message came whole
one_more : (limits : Bounds) (w : Waiting) (m : Message) (ms : List Message) (came beyond : List ℕ) →
    IsSpelling (reading_rules limits w) m.value (message_text m) → MayBeRead w m.value → came ≡ message_text m ++ beyond →
    HasBeenRead limits (waiting_after w m.value) (values_of (whole_messages ms (length beyond))) beyond →
    HasBeenRead limits w (values_of (whole_messages (m ∷ ms) (length came))) came
one_more limits w m ms came beyond s may e h =
    let text = message_text m in
    let count = sym (long text came beyond (map message_text ms) e ∙ add-one (whole_within (map message_text ms) (length beyond))) in
    record {
      front = text ++ h.front;
      rest = h.rest;
      after = h.after;
      read = subst (λ k. ReadsAs limits w (values_of (take k (m ∷ ms))) (text ++ h.front) h.after) count (text, h.front, s, may, h.read, refl);
      whole = e ∙ ap (λ z. text ++ z) h.whole ∙ sym (append_assoc text h.front h.rest);
      goes_on = h.goes_on;
    }

comes_by : NoSpellingBeginsAnother → FrontsOfSpellingsAreViable → APushBeginsWithItsByte → (limits : Bounds) (w : Waiting) (m : Message) (ms : List Message)
    (came more : List ℕ) → IsSpelling (reading_rules limits w) m.value (message_text m) → MayBeRead w m.value →
    ((beyond rest : List ℕ) → beyond ++ rest ≡ concat (map message_text ms) →
    HasBeenRead limits (waiting_after w m.value) (values_of (whole_messages ms (length beyond))) beyond) →
    Begins (message_text m) came (concat (map message_text ms)) more ⊎ Begins came (message_text m) more (concat (map message_text ms)) →
    HasBeenRead limits w (values_of (whole_messages (m ∷ ms) (length came))) came
comes_by apart viable begins limits w m ms came more s may ih (inl (q, e, f)) = one_more limits w m ms came q s may e (ih q more (sym f))
comes_by apart viable begins limits w m ms came more s may ih (inr ([], e, f)) =
    one_more limits w m ms came [] s may (sym (e ∙ append-nil came) ∙ sym (append-nil (message_text m))) (ih [] (concat (map message_text ms)) refl)
comes_by apart viable begins limits w m ms came more s may ih (inr (c ∷ q, e, f)) =
    let text = message_text m in
    let l : length text ≡ length came + length (c ∷ q) = ap length e ∙ length-append came (c ∷ q) in
    let h : length came < length text = omega (arith, l) in
    record {
      front = [];
      rest = came;
      after = w;
      read = subst (λ k. ReadsAs limits w (values_of (take k (m ∷ ms))) [] w) (sym (short text came (map message_text ms) h)) (refl, refl);
      whole = refl;
      goes_on = begun_goes_on apart viable begins limits w m.value text came c q s may e;
    }

-- what has come of messages that are read
front_is_read : NoSpellingBeginsAnother → NoSpellingIsEmpty → FrontsOfSpellingsAreViable → TheEmptyTextIsViable → APushBeginsWithItsByte →
    (limits : Bounds) → AreBounds limits → (w after : Waiting) (messages : List Message) (came more : List ℕ) →
    AllByRecursion (IsWritten limits) messages → ReadsAs limits w (values_of messages) (concat (map message_text messages)) after →
    came ++ more ≡ concat (map message_text messages) → HasBeenRead limits w (values_of (whole_messages messages (length came))) came
front_is_read apart full viable empty begins limits bounds w after [] [] more written read e = record {
  front = [];
  rest = [];
  after = w;
  read = (refl, refl);
  whole = refl;
  goes_on = nothing_goes_on full empty limits bounds w;
}
front_is_read apart full viable empty begins limits bounds w after [] (c ∷ cs) more written read e = absurd (cc)
front_is_read apart full viable empty begins limits bounds w after (m ∷ ms) came more written read e =
    let (f, g, s, may, t, o) = read in
    let texts = concat (map message_text ms) in
    let r = reading_rules limits w in
    let d = apart _ r m.value m.value (message_text m) f texts g written.0 s o in
    let own : IsSpelling r m.value (message_text m) = subst (IsSpelling r m.value) (sym d.1) s in
    let others : ReadsAs limits (waiting_after w m.value) (values_of ms) texts after =
    subst (λ z. ReadsAs limits (waiting_after w m.value) (values_of ms) z after) (sym d.2) t in
    comes_by apart viable begins limits w m ms came more own may
    (λ beyond rest h. front_is_read apart full viable empty begins limits bounds (waiting_after w m.value) after ms beyond rest written.1 others h)
    (one_begins (message_text m) came texts more (sym e))

-- all texts lie whole within the bytes of all and more
whole_within-all : (texts : List (List ℕ)) (n : ℕ) → length (concat texts) ≤ n → whole_within texts n ≡ length texts
whole_within-all [] n h = refl
whole_within-all (text ∷ texts) n h =
    let both = length-append text (concat texts) in
    let rest = whole_within-all texts (n - length text) (omega (arith, h, both)) in
    let here = whole_within-long text texts n (omega (arith, h, both)) in
    omega (arith, here, rest)

-- bytes after the last text change nothing
whole_within-take : (texts : List (List ℕ)) (n : ℕ) → whole_within texts (length (take n (concat texts))) ≡ whole_within texts n
whole_within-take texts n = elim (cases_lt n (length (concat texts))) as
    (λ _. whole_within texts (length (take n (concat texts))) ≡ whole_within texts n) [
      | inl h ↦ ap (whole_within texts) (length-take-le n (concat texts) (omega (arith, h)))
      | inr h ↦
          ap (λ l. whole_within texts (length l)) (take_all n (concat texts) h) ∙ whole_within-all texts (length (concat texts)) (omega arith) ∙
          sym (whole_within-all texts n h)
    ]

pub what_is_shown_is_read : NoSpellingBeginsAnother → NoSpellingIsEmpty → FrontsOfSpellingsAreViable → TheEmptyTextIsViable → APushBeginsWithItsByte →
    EachMessageIsWritten → WhatIsWrittenIsRead → WhatIsShownIsRead
what_is_shown_is_read apart full viable empty begins written read limits n events w bounds few possible r i c at =
    let came = take c.shown (back_text c) in
    let before = waiting_for Two c.requests in
    let all = front_is_read apart full viable empty begins limits bounds before _ c.messages came (drop c.shown (back_text c))
    (written limits n events w bounds few possible r i c at) (read limits n events w bounds few possible r i c at)
    (take-append-drop c.shown (back_text c)) in
    subst (λ k. HasBeenRead limits before (values_of (take k c.messages)) came) (whole_within-take (map message_text c.messages) c.shown) all

-- a value that begins what has come leaves no fault there
no_fault_before : NoSpellingBeginsAnother → APushBeginsWithItsByte → (limits : Bounds) (w : Waiting) (x : Datum) (f beyond v : List ℕ) (cause : Cause)
    (at : ℕ) → IsSpelling (reading_rules limits w) x f → MayBeRead w x → v ≡ f ++ beyond → ClientFault limits w v cause at → ⊥
no_fault_before apart begins limits w x f beyond v cause at s may here (inl unasked) =
    is_asked begins (reading_rules limits w) w x f beyond v [] s may (append-nil v ∙ here) unasked.0
no_fault_before apart begins limits w x f beyond v cause at s may here (inr broken) = broken.no_more x f beyond s here

-- where a text is read up to a rest that may go on, no reading of it ends in a fault
one_reading_faultless : NoSpellingBeginsAnother → APushBeginsWithItsByte → ARestHasOneClientFault → (limits : Bounds) (w a b : Waiting) (xs ys : List Datum)
    (p q u v : List ℕ) (cause : Cause) (at : ℕ) → ReadsAs limits w xs p a → ReadsAs limits w ys q b → p ++ u ≡ q ++ v → MayGoOn limits a u →
    ClientFault limits b v cause at → ⊥
one_reading_faultless apart begins one limits w a b [] [] p q u v cause at m n e goes_on fault =
    let m0 : p ≡ [] = m.0 in
    let n0 : q ≡ [] = n.0 in
    let same : u ≡ v = sym (ap (λ z. z ++ u) m0) ∙ e ∙ ap (λ z. z ++ v) n0 in
    let waits : a ≡ b = m.1 ∙ sym n.1 in
    (one limits b v cause cause at at fault).0 (subst (λ z. MayGoOn limits z v) waits (subst (MayGoOn limits a) same goes_on))
one_reading_faultless apart begins one limits w a b [] (y ∷ ys) p q u v cause at m n e goes_on fault =
    let (f, g, s, may, t, o) = n in
    let m0 : p ≡ [] = m.0 in
    let i : MayGoOn limits w u = subst (λ z. MayGoOn limits z u) m.1 goes_on in
    i.no_more y f (g ++ v) s (sym (ap (λ z. z ++ u) m0) ∙ e ∙ ap (λ z. z ++ v) o ∙ append_assoc f g v)
one_reading_faultless apart begins one limits w a b (x ∷ xs) [] p q u v cause at m n e goes_on fault =
    let (f, g, s, may, t, o) = m in
    let n0 : q ≡ [] = n.0 in
    let here : v ≡ f ++ (g ++ u) = sym (ap (λ z. z ++ v) n0) ∙ sym e ∙ ap (λ z. z ++ u) o ∙ append_assoc f g u in
    no_fault_before apart begins limits w x f (g ++ u) v cause at s may here (subst (λ z. ClientFault limits z v cause at) n.1 fault)
one_reading_faultless apart begins one limits w a b (x ∷ xs) (y ∷ ys) p q u v cause at m n e goes_on fault =
    let (f, g, s, may, t, o) = m in
    let (f2, g2, s2, may2, t2, o2) = n in
    let (x0, same) = same_first apart limits w x y f f2 g g2 p q u v s s2 o o2 e in
    one_reading_faultless apart begins one limits (waiting_after w x) a b xs ys g g2 u v cause at t
    (subst (λ z. ReadsAs limits (waiting_after w z) ys g2 b) x0 t2) same goes_on fault

pub no_client_meets_a_fault : NoSpellingBeginsAnother → APushBeginsWithItsByte → ARestHasOneClientFault → WhatIsShownIsRead → NoClientMeetsAFault
no_client_meets_a_fault apart begins one shown limits n events w bounds few possible r i c at xs front rest after cause place read whole fault =
    let h = shown limits n events w bounds few possible r i c at in
    one_reading_faultless apart begins one limits (waiting_for Two c.requests) h.after after (values_of (whole_messages c.messages c.shown)) xs h.front front
    h.rest rest cause place h.read read (sym h.whole ∙ whole) h.goes_on fault

-- what is read is those messages: a text has one reading
pub what_is_read_is_shown : ATextHasOneReading → WhatIsShownIsRead → WhatIsReadIsShown
what_is_read_is_shown one shown limits n events w bounds few bytes r i c at xs front rest after read whole goes_on =
    let h = shown limits n events w bounds few bytes r i c at in
    (one limits (waiting_for Two c.requests) after h.after xs (values_of (shown_messages c)) front h.front rest h.rest read h.read (sym whole ∙ h.whole) goes_on
    h.goes_on).0

-- where the same values are read of one text, they are read of one front, and leave the same
same_reading : NoSpellingBeginsAnother → (limits : Bounds) (w a b : Waiting) (xs : List Datum) (p q u v : List ℕ) → ReadsAs limits w xs p a →
    ReadsAs limits w xs q b → p ++ u ≡ q ++ v → (a ≡ b) × (u ≡ v)
same_reading apart limits w a b [] p q u v m n e =
    let m0 : p ≡ [] = m.0 in
    let n0 : q ≡ [] = n.0 in
    (m.1 ∙ sym n.1, sym (ap (λ z. z ++ u) m0) ∙ e ∙ ap (λ z. z ++ v) n0)
same_reading apart limits w a b (x ∷ xs) p q u v m n e =
    let (f, g, s, may, t, o) = m in
    let (f2, g2, s2, may2, t2, o2) = n in
    let e2 : f ++ (g ++ u) ≡ f2 ++ (g2 ++ v) = sym (ap (λ z. z ++ u) o ∙ append_assoc f g u) ∙ e ∙ ap (λ z. z ++ v) o2 ∙ append_assoc f2 g2 v in
    let r = reading_rules limits w in
    let d = apart r r x x f f2 (g ++ u) (g2 ++ v) s s2 e2 in
    same_reading apart limits (waiting_after w x) a b xs g g2 u v t t2 d.2

pub what_is_left_may_go_on : NoSpellingBeginsAnother → WhatIsShownIsRead → WhatIsLeftMayGoOn
what_is_left_may_go_on apart shown limits n events w bounds few bytes r i c at front rest after read whole =
    let h = shown limits n events w bounds few bytes r i c at in
    let d = same_reading apart limits (waiting_for Two c.requests) h.after after (values_of (shown_messages c)) h.front front h.rest rest h.read read
    (sym h.whole ∙ whole) in
    subst (λ z. MayGoOn limits z rest) d.0 (subst (MayGoOn limits h.after) d.1 h.goes_on)

pub nothing_may_go_on : NoSpellingIsEmpty → TheEmptyTextIsViable → NothingMayGoOn
nothing_may_go_on full empty limits w bounds = nothing_goes_on full empty limits bounds w
