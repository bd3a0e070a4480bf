-- Answers to texts in pieces.
use Rattle.std.proofs.Common.{◌≡◌, ◌⊎◌, inl, inr, ℕ, true, false, cond, List, [], ◌∷◌, ◌++◌, refl, sym, ap, subst, ◌∙◌, append_assoc}
use Rattle.resp_value.specs.Data.{Datum}
use Rattle.resp_value.specs.Rules.{Rules, Rule}
use Rattle.resp_value.specs.Spellings.{IsSpelling, AreSpellings, IsViable, FaultOf}
use Rattle.resp_value.specs.Causes.{cause_of, name_of}
use Rattle.resp_value.specs.Laws.{NoSpellingBeginsAnother, FrontsOfSpellingsAreViable, FrontsOfViableTextsAreViable, AViableTextHasNoCause, ARestHasOneFault}
use Rattle.resp_session.specs.AnswerLaws.{ATextHasOneAnswer, AnswersAreOfTheCut, AnswersEnd, AnswersGoOn}
use Rattle.resp_session.specs.Answers.{BeginsNoValue, Ends, EndsInFault, SessionState, Waits, after_error, after_meaning, after_value, after_values, server_rules}
use Rattle.resp_session.specs.Commands.{meaning_of}

-- answers to values, and then to more
pub after_values-append : (id : ℕ) (s : SessionState) (xs ys : List Datum) → after_values id s (xs ++ ys) ≡ after_values id (after_values id s xs) ys
after_values-append id s [] ys = refl
after_values-append id s (x ∷ xs) ys = after_values-append id (after_value id s x) xs ys

-- a closing session answers nothing
pub closing_stays : (id : ℕ) (s : SessionState) (xs : List Datum) → s.closing ≡ true → after_values id s xs ≡ s
closing_stays id s [] closing = refl
closing_stays id s (x ∷ xs) closing = ap (λ b. after_values id (cond b s (after_meaning id s (meaning_of x))) xs) closing ∙ closing_stays id s xs closing

pub spellings-append : (r : Rules) (xs ys : List Datum) (p q : List ℕ) → AreSpellings r xs p → AreSpellings r ys q → AreSpellings r (xs ++ ys) (p ++ q)
spellings-append r [] ys p q m n = let e : p ≡ [] = m in subst (AreSpellings r ys) (sym (ap (λ z. z ++ q) e)) n
spellings-append r (x ∷ xs) ys p q m n =
    let (f, g, s, t, w) = m in
    (f, g ++ q, s, spellings-append r xs ys g q t n, ap (λ z. z ++ q) w ∙ append_assoc f g q)

-- where it stays open, the rest changes nothing
pub still_open : (r : Rules) (rest : List ℕ) (s b : SessionState) → Ends r rest s b → b.closing ≡ false → b ≡ s
still_open r rest s b (inl w) is_open = w.same
still_open r rest s b (inr (inl f)) is_open = let e : b.closing ≡ true = ap (λ (z : SessionState). z.closing) f.line in absurd (cc)
still_open r rest s b (inr (inr c)) is_open = c.same

-- where a value closed it, the rest changes nothing either
pub closed_end : (r : Rules) (rest : List ℕ) (s b : SessionState) → Ends r rest s b → s.closing ≡ true → b ≡ s
closed_end r rest s b (inl w) closing = w.same
closed_end r rest s b (inr (inl f)) closing = let e = f.is_open in absurd (cc)
closed_end r rest s b (inr (inr c)) closing = c.same

pub answers_go_on : AnswersGoOn
answers_go_on limits id a b c text more rest rest' m is_open n =
    let e : b ≡ after_values id a m.values = still_open _ _ _ _ m.ends is_open in
    record {
      values = m.values ++ n.values;
      front = m.front ++ n.front;
      spelled = spellings-append (server_rules limits) m.values n.values m.front n.front m.spelled n.spelled;
      whole = ap (λ z. z ++ more) m.whole ∙ append_assoc m.front rest more ∙ ap (λ z. m.front ++ z) n.whole ∙ sym (append_assoc m.front n.front rest');
      ends = subst (λ s. Ends (server_rules limits) rest' s c) (ap (λ s. after_values id s n.values) e ∙ sym (after_values-append id a m.values n.values))
          n.ends;
    }

-- of two fronts of one text one begins the other
abbrev pub Begins : List ℕ → List ℕ → List ℕ → List ℕ → Type 0
Begins a b x y = (q : List ℕ) × (b ≡ a ++ q) × (x ≡ q ++ y)

onto : (c d : ℕ) (a b x y : List ℕ) → c ≡ d → Begins a b x y ⊎ Begins b a y x → Begins (c ∷ a) (d ∷ b) x y ⊎ Begins (d ∷ b) (c ∷ a) y x
onto c d a b x y h (inl (q, e, f)) = inl (q, cc, f)
onto c d a b x y h (inr (q, e, f)) = inr (q, cc, f)

pub one_begins : (a b x y : List ℕ) → a ++ x ≡ b ++ y → Begins a b x y ⊎ Begins b a y x
one_begins [] b x y e = inl (b, refl, e)
one_begins (c ∷ a) [] x y e = inr (c ∷ a, refl, sym e)
one_begins (c ∷ a) (d ∷ b) x y e =
    let t : a ++ x ≡ b ++ y = cc in
    let h : c ≡ d = cc in
    onto c d a b x y h (one_begins a b x y t)

-- no value begins a rest that has a fault, however it goes on
no_value_later : FrontsOfSpellingsAreViable → (r : Rules) (rest more : List ℕ) (rule : Rule) (at : ℕ) (f : FaultOf r rest rule at) → BeginsNoValue r rest →
    (x : Datum) (next beyond : List ℕ) → IsSpelling r x next → Begins f.front next (f.beyond ++ more) beyond ⊎ Begins next f.front beyond (f.beyond ++ more) → ⊥
no_value_later viable r rest more rule at f none x next beyond s (inl (q, e, w)) =
    f.cause.not_viable (viable r x f.front q (subst (IsSpelling r x) e s) rule)
no_value_later viable r rest more rule at f none x next beyond s (inr (q, e, w)) =
    none x next (q ++ f.beyond) s (f.whole ∙ ap (λ z. z ++ f.beyond) e ∙ append_assoc next q f.beyond)

pub fault_stays : FrontsOfSpellingsAreViable → (r : Rules) (rest more : List ℕ) (s b : SessionState) → EndsInFault r rest s b → EndsInFault r (rest ++ more) s b
fault_stays viable r rest more s b f =
    let g = f.fault in
    let split : rest ++ more ≡ g.front ++ (g.beyond ++ more) = ap (λ z. z ++ more) g.whole ∙ append_assoc g.front g.beyond more in
    record {
      is_open = f.is_open;
      no_more = λ x next beyond spelled e. no_value_later viable r rest more f.rule f.at g f.no_more x next beyond spelled
          (one_begins g.front next (g.beyond ++ more) beyond (sym split ∙ e));
      rule = f.rule;
      at = f.at;
      fault = record { front = g.front; beyond = g.beyond ++ more; whole = split; place = g.place; cause = g.cause; first = g.first };
      line = f.line;
    }

rests_stay : FrontsOfSpellingsAreViable → (r : Rules) (rest more : List ℕ) (s b : SessionState) → Ends r rest s b → b.closing ≡ true → Ends r (rest ++ more) s b
rests_stay viable r rest more s b (inl w) closing = let e : b.closing ≡ false = ap (λ (z : SessionState). z.closing) w.same ∙ w.is_open in absurd (cc)
rests_stay viable r rest more s b (inr (inl f)) closing = inr (inl (fault_stays viable r rest more s b f))
rests_stay viable r rest more s b (inr (inr c)) closing = inr (inr c)

pub answers_end : FrontsOfSpellingsAreViable → AnswersEnd
answers_end viable limits id a b text more rest m closing = record {
  values = m.values;
  front = m.front;
  spelled = m.spelled;
  whole = ap (λ z. z ++ more) m.whole ∙ append_assoc m.front rest more;
  ends = rests_stay viable (server_rules limits) rest more (after_values id a m.values) b m.ends closing;
}

-- One answer.

not_both : FrontsOfViableTextsAreViable → AViableTextHasNoCause → (r : Rules) (rest : List ℕ) (s b c : SessionState) → Waits r rest s b →
    EndsInFault r rest s c →
    ⊥
not_both viable no_cause r rest s b c w f =
    let g = f.fault in
    no_cause r g.front f.rule (viable r _ g.front g.beyond (subst (IsViable r _) g.whole w.viable)) g.cause

one_rest : FrontsOfViableTextsAreViable → AViableTextHasNoCause → ARestHasOneFault → (r : Rules) (rest : List ℕ) (s b c : SessionState) → Ends r rest s b →
    Ends r rest s c → b ≡ c
one_rest viable no_cause one r rest s b c (inl w) (inl v) = w.same ∙ sym v.same
one_rest viable no_cause one r rest s b c (inl w) (inr (inl f)) = absurd (not_both viable no_cause r rest s b c w f)
one_rest viable no_cause one r rest s b c (inr (inl f)) (inl w) = absurd (not_both viable no_cause r rest s c b w f)
one_rest viable no_cause one r rest s b c (inr (inl f)) (inr (inl g)) =
    let u = one r rest f.rule g.rule f.at g.at f.fault g.fault in
    f.line ∙ ap (λ rule. after_error (name_of (cause_of rule)) f.at s) u.0 ∙ ap (λ at. after_error (name_of (cause_of g.rule)) at s) u.1 ∙ sym g.line
one_rest viable no_cause one r rest s b c (inr (inr d)) n = d.same ∙ sym (closed_end r rest s c n d.closed)
one_rest viable no_cause one r rest s b c m (inr (inr d)) = closed_end r rest s b m d.closed ∙ sym d.same

-- a session that reads no further where a value begins is closing
closed_before : (r : Rules) (rest : List ℕ) (s b : SessionState) (x : Datum) (next beyond : List ℕ) → Ends r rest s b → IsSpelling r x next →
    rest ≡ next ++ beyond → s.closing ≡ true
closed_before r rest s b x next beyond (inl w) n e = absurd (w.no_more x next beyond n e)
closed_before r rest s b x next beyond (inr (inl f)) n e = absurd (f.no_more x next beyond n e)
closed_before r rest s b x next beyond (inr (inr c)) n e = c.closed

one_answer : NoSpellingBeginsAnother → FrontsOfViableTextsAreViable → AViableTextHasNoCause → ARestHasOneFault →
    (r : Rules) (id : ℕ) (s b c : SessionState) (xs ys : List Datum) (p q u v : List ℕ) → AreSpellings r xs p → AreSpellings r ys q → p ++ u ≡ q ++ v →
    Ends r u (after_values id s xs) b → Ends r v (after_values id s ys) c → b ≡ c
one_answer apart viable no_cause one r id s b c [] [] p q u v m n e j k =
    let m0 : p ≡ [] = m in
    let n0 : q ≡ [] = n in
    let same : u ≡ v = sym (ap (λ z. z ++ u) m0) ∙ e ∙ ap (λ z. z ++ v) n0 in
    one_rest viable no_cause one r v s b c (subst (λ z. Ends r z s b) same j) k
one_answer apart viable no_cause one r id s b c [] (y ∷ ys) p q u v m n e j k =
    let (f, g, t, o, w) = n in
    let m0 : p ≡ [] = m in
    let h = closed_before r u s b y f (g ++ v) j t (sym (ap (λ z. z ++ u) m0) ∙ e ∙ ap (λ z. z ++ v) w ∙ append_assoc f g v) in
    let i = closing_stays id s (y ∷ ys) h in
    closed_end r u s b j h ∙ sym (closed_end r v s c (subst (λ z. Ends r v z c) i k) h)
one_answer apart viable no_cause one r id s b c (x ∷ xs) [] p q u v m n e j k =
    let (f, g, t, o, w) = m in
    let n0 : q ≡ [] = n in
    let h = closed_before r v s c x f (g ++ u) k t (sym (ap (λ z. z ++ v) n0) ∙ sym e ∙ ap (λ z. z ++ u) w ∙ append_assoc f g u) in
    let i = closing_stays id s (x ∷ xs) h in
    closed_end r u s b (subst (λ z. Ends r u z b) i j) h ∙ sym (closed_end r v s c k h)
one_answer apart viable no_cause one r id s b c (x ∷ xs) (y ∷ ys) p q u v m n e j k =
    let (f, g, t, o, w) = m in
    let (f2, g2, t2, o2, w2) = n in
    let e2 : f ++ (g ++ u) ≡ f2 ++ (g2 ++ v) = sym (ap (λ z. z ++ u) w ∙ append_assoc f g u) ∙ e ∙ ap (λ z. z ++ v) w2 ∙ append_assoc f2 g2 v in
    let d = apart r r x y f f2 (g ++ u) (g2 ++ v) t t2 e2 in
    let x0 : y ≡ x = sym d.0 in
    one_answer apart viable no_cause one r id (after_value id s x) b c xs ys g g2 u v o o2 d.2 j
    (subst (λ z. Ends r v (after_values id (after_value id s z) ys) c) x0 k)

pub a_text_has_one_answer : NoSpellingBeginsAnother → FrontsOfViableTextsAreViable → AViableTextHasNoCause → ARestHasOneFault → ATextHasOneAnswer
a_text_has_one_answer apart viable no_cause one limits id a b c text rest rest' m n =
    one_answer apart viable no_cause one (server_rules limits) id a b c m.values n.values m.front n.front rest rest' m.spelled n.spelled (sym m.whole ∙ n.whole)
    m.ends n.ends

pub answers_are_of_the_cut : NoSpellingBeginsAnother → FrontsOfViableTextsAreViable → AViableTextHasNoCause → ARestHasOneFault → AnswersAreOfTheCut
answers_are_of_the_cut apart viable no_cause one limits id a b c text rest rest' xs cut ends m =
    a_text_has_one_answer apart viable no_cause one limits id a b c text rest rest' m
    (record { values = xs; front = cut.front; spelled = cut.spelled; whole = cut.whole; ends = ends })
