-- A run of the calls that pair values is a client's reading.
use Rattle.std.proofs.Common.{◌≡◌, inl, inr, ℕ, ◌+◌, ◌<◌, ◌≤◌, ◌^◌, Bool, false, cond, eqb, List, [], ◌∷◌, ◌++◌, length, flat_map, map, refl, sym, ap, subst, ◌∙◌, arith, length-append}
use Rattle.resp_value.specs.Bounds.{Bounds}
use Rattle.resp_value.specs.Data.{Array, Set, Map, Attr, Push, Datum}
use Rattle.resp_value.specs.Rules.{Keeps, WithinTotal, rules_under}
use Rattle.resp_value.specs.Spellings.{IsSpelling}
use Rattle.resp_value.specs.Trees.{Tree, Leaf, leaf, node, text}
use Rattle.resp_value.specs.TreeValues.{value}
use Rattle.resp_fronts.specs.Events.{Event, events, without_places}
use Rattle.resp_scan.specs.Reading.{Events}
use Rattle.resp_session.specs.Heard.{is_push, numbered_replies}
use Rattle.resp_session.specs.Reading.{IsUnasked, MayBeRead, ReadsAs, Waiting, is_refusal, reading_rules, waiting_after}
use Rattle.resp_c.specs.Pairs.{ValueLook, after_events, look_after_event, look_of, reads_push, waiting_of}
use Rattle.resp_c.specs.Runs.{CallsReadAsAClient, PairsValue, Shows, StandsFor, TakesAll, replies_told, trees_of}
use Rattle.resp_c.specs.declared.event.RespEvent.{RespEvent}
use Rattle.resp_c.specs.declared.pairing.RespPairing.{RespPairing}
use Rattle.resp_c.proofs.Refusals.{events_show}

-- What events show.

after-append : (look : ValueLook) (a b : Events) → after_events look (a ++ b) ≡ after_events (after_events look a) b
after-append look [] b = refl
after-append look (x ∷ xs) b = after-append (look_after_event look x) xs b

event-bound : (look : ValueLook) (x : Event) → (look_after_event look x).nested ≤ look.nested + 1
event-bound look x = grind arith

events-bound : (look : ValueLook) (xs : Events) → (after_events look xs).nested ≤ look.nested + length xs
events-bound look [] = omega arith
events-bound look (x ∷ xs) = omega (arith, event-bound look x, events-bound (look_after_event look x) xs)

-- one event received
shown_one : (p q : RespPairing) (out : RespEvent) (told : Events) → StandsFor out told → Shows p q out → p.nested < 2 ^ 63 →
    look_of q ≡ after_events (look_of p) told
shown_one p q out told (inl is) shows few = shows.event few is.0 is.1 ∙ ap (after_events (look_of p)) (sym is.2)
shown_one p q out told (inr is) shows few = shows.whole few is.0 is.1 is.2 ∙ ap (after_events (look_of p)) (sym is.3)

-- after all events before the end
record HasTaken (number : ℕ) (p q : RespPairing) (told : Events) : Type 0 where
  look : look_of q ≡ after_events (look_of p) told
  waiting : waiting_of q ≡ waiting_of p
  answered : q.answered ≡ p.answered
  first : q.first ≡ p.first

taken : (number : ℕ) (p q : RespPairing) (outs : List RespEvent) (told : Events) → TakesAll number p outs told q →
    p.nested + length told < 2 ^ 63 → HasTaken number p q told
taken number p q [] told (is, none) few = record {
  look = ap look_of is ∙ ap (after_events (look_of p)) (sym none);
  waiting = ap waiting_of is;
  answered = ap (λ (z : RespPairing). z.answered) is;
  first = ap (λ (z : RespPairing). z.first) is;
}
taken number p q (out ∷ outs) told (between, first, rest, stands, parts, shows, byte, same, later) few =
    let size : length told ≡ length first + length rest = ap length parts ∙ length-append first rest in
    let one = shown_one p between out first stands shows (omega (arith, few)) in
    let nested : between.nested ≤ p.nested + length first =
    subst (λ (z : ValueLook). z.nested ≤ p.nested + length first) (sym one) (events-bound (look_of p) first) in
    let beyond = taken number between q outs rest later (omega (arith, few, size, nested)) in
    record {
      look = beyond.look ∙ ap (λ z. after_events z rest) one ∙ sym (after-append (look_of p) first rest) ∙
          ap (after_events (look_of p)) (sym parts);
      waiting = beyond.waiting ∙ shows.same_waiting;
      answered = beyond.answered ∙ shows.same_answered;
      first = beyond.first ∙ byte;
    }

-- The first byte.

leaf-first : (l : Leaf) (byte : ℕ) (beyond : List ℕ) → text (leaf l) ≡ byte ∷ beyond → eqb byte 62 ≡ false
leaf-first l byte beyond is = grind arith

-- a value is a push if its first byte is that of a push
push-first : (u : Tree) (byte : ℕ) (beyond : List ℕ) → text u ≡ byte ∷ beyond → is_push (value u) ≡ eqb byte 62
push-first (leaf l) byte beyond is = sym (leaf-first l byte beyond is)
push-first (node Array form us) byte beyond is = cc
push-first (node Set form us) byte beyond is = cc
push-first (node Map form us) byte beyond is = cc
push-first (node Attr form us) byte beyond is = cc
push-first (node Push form us) byte beyond is = cc

-- what was asked for, or is a push, may be read
may : (w : Waiting) (u : Tree) (byte : ℕ) (beyond : List ℕ) → text u ≡ byte ∷ beyond → (IsUnasked w (byte ∷ beyond) → ⊥) →
    MayBeRead w (value u)
may w u byte beyond is asked none = grind (arith, push-first)

-- one value
record IsRead (limits : Bounds) (old new : RespPairing) (u : Tree) (number : ℕ) : Type 0 where
  spelling : IsSpelling (reading_rules limits (waiting_of old)) (value u) (text u)
  may_be_read : MayBeRead (waiting_of old) (value u)
  waiting : waiting_of new ≡ waiting_after (waiting_of old) (value u)
  number_is : number ≡ cond (is_push (value u)) 0 (old.answered + 1)
  answered : new.answered ≡ old.answered + cond (is_push (value u)) 0 1

is_read : (limits : Bounds) (old new : RespPairing) (u : Tree) (number : ℕ) → old.answered < 2 ^ 63 → PairsValue limits old u number new →
    IsRead limits old new u number
is_read limits old new u number few w =
    let told = without_places (events 0 u) in
    let at_start : w.begun.nested ≡ 0 = ap (λ (z : ValueLook). z.nested) w.begins.look in
    let h = taken number w.begun w.shown w.outs told w.takes (omega (arith, at_start, w.few)) in
    let answered : w.shown.answered ≡ old.answered = h.answered ∙ w.begins.same_answered in
    let push : is_push (value u) ≡ reads_push w.shown =
    push-first u w.byte w.beyond w.bytes ∙ ap (λ n. eqb n 62) (sym (h.first ∙ w.begins.first_byte)) in
    let look : look_of w.shown ≡ record { nested = 0; refuses = is_refusal (value u) } =
    h.look ∙ ap (λ z. after_events z told) w.begins.look ∙ events_show u w.reads.0 in
    let waiting = h.waiting ∙ w.begins.same_waiting in
    record {
      spelling = record {
        tree = u;
        spells = record { is_tree = w.reads.0; spelled = refl };
        keeps = subst (λ version. Keeps (rules_under version limits) WithinTotal u) w.begins.reads_in w.reads.1;
        valued = refl;
      };
      may_be_read = may (waiting_of old) u w.byte w.beyond w.bytes (w.begins.asked w.beyond);
      waiting = w.ends.waiting (value u) push (sym (ap (λ (z : ValueLook). z.refuses) look)) ∙ ap (λ z. waiting_after z (value u)) waiting;
      number_is = w.told ∙ ap (λ b. cond b 0 (w.shown.answered + 1)) (sym push) ∙
          ap (λ n. cond (is_push (value u)) 0 (n + 1)) answered;
      answered = w.ends.counted (omega (arith, answered, few)) ∙ ap (λ b. w.shown.answered + cond b 0 1) (sym push) ∙
          ap (λ n. n + cond (is_push (value u)) 0 1) answered;
    }

-- the numbers of one value more
one_number : (b : Bool) (n a m : ℕ) (u : Tree) (rest : List (ℕ × Tree)) (xs : List Datum) → is_push (value u) ≡ b →
    n ≡ cond b 0 (a + 1) → m ≡ a + cond b 0 1 → replies_told rest ≡ numbered_replies (m + 1) xs →
    replies_told ((n, u) ∷ rest) ≡ numbered_replies (a + 1) (value u ∷ xs)
one_number b n a m u rest xs push number after later = grind arith

push-most : (b : Bool) → cond b 0 1 ≤ 1
push-most b = grind arith

pub calls_read : CallsReadAsAClient
calls_read limits old new [] few same = ((refl, ap waiting_of same), refl)
calls_read limits old new ((number, u) ∷ rest) few (between, one, later) =
    let r = is_read limits old between u number (omega (arith, few)) one in
    let beyond = calls_read limits between new rest (omega (arith, few, r.answered, push-most (is_push (value u)))) later in
    let xs = map value (trees_of rest) in (
      (
        text u,
        flat_map text (trees_of rest),
        r.spelling,
        r.may_be_read,
        subst (λ w. ReadsAs limits w xs (flat_map text (trees_of rest)) (waiting_of new)) r.waiting beyond.0,
        refl,
      ),
      one_number (is_push (value u)) number old.answered between.answered u rest xs refl r.number_is r.answered beyond.1,
    )
