-- Heads that open aggregates, counted and streamed.
use Rattle.std.specs.Prelude.{false, cond, eqb, Some}
use Rattle.std.proofs.lemmas.Bool.Decides.{nat_tests}
use Rattle.std.proofs.Common.{◌≡◌, ℕ, zero, suc, ◌+◌, ◌-◌, ◌*◌, List, [], ◌∷◌, ◌++◌, length, refl, sym, ap, subst, ◌∙◌, arith, append_assoc}
use Rattle.resp_value.specs.Bytes.{crlf}
use Rattle.resp_value.specs.Data.{Kind, members_of}
use Rattle.resp_value.specs.Numbers.{IsDigits, number}
use Rattle.resp_value.specs.Trees.{Counted, Form, Streamed, close, form_line, kind_byte, none}
use Rattle.resp_value.specs.Rules.{Rules, WithinItems}
use Rattle.resp_value.specs.LocalRules.{NodeKeeps}
use Rattle.resp_value.specs.declared.kind.OpenKind.{OpenKind}
use Rattle.resp_value.specs.declared.kind.OpenKind.TheVariants as kind
use Rattle.resp_value.specs.Kinds.{kind_of}
use Rattle.resp_fronts.specs.Frames.{text_around}
use Rattle.resp_fronts.specs.MayFollow.{CanEnd, members_missing}
use Rattle.resp_fronts.specs.Events.{Event, declared_count, events_around, without_places}
use Rattle.resp_fronts.specs.Events as e
use Rattle.resp_fronts.proofs.Tokens.BegunFronts.{IsBegunBy}
use Rattle.resp_fronts.proofs.Tokens.HeadTokens.{count_returned_begun, count_returned_broken}
use Rattle.resp_fronts.proofs.FrameLaws.Levels.{around-open}
use Rattle.resp_scan.specs.declared.frame.Frame.{Frame}
use Rattle.resp_scan.specs.declared.frame.Shape.{Shape}
use Rattle.resp_scan.specs.declared.frame.Shape.TheVariants.{Left, Begun}
use Rattle.resp_scan.specs.declared.machine.Head.TheVariants as head
use Rattle.resp_scan.specs.Machine.Tokens as k
use Rattle.resp_scan.specs.Machine.Tokens.{Move, Give, Place, Refuse, AtEnd, AtHeadLf, AtStart, at, token_in_shape}
use Rattle.resp_scan.specs.Machine.Heads as h
use Rattle.resp_scan.specs.Machine.Heads.{head_move}
use Rattle.resp_scan.specs.Machine.Moves.{only_byte}
use Rattle.resp_scan.specs.Kinds.{rules_of}
use Rattle.resp_scan.specs.Machine.Beginnings.{CountReturned}
use Rattle.resp_scan.specs.Machine.Standing.{IsInside, Leads, StandsAfter, StandsAfterAt}
use Rattle.resp_scan.proofs.TokenMoves.Moves.{at_level, given-append, longer, ALead, IsOfAggregate}
use Rattle.resp_scan.proofs.TokenMoves.ByteTests.{wants_leads}
use Rattle.resp_scan.specs.declared.machine.Head.{Head}

-- a form in which this many members haven't begun, or have
abbrev Shaped : Kind → Shape → Form → Type 0
Shaped k (Left n) form = (digits : List ℕ) × (form ≡ Counted digits) × IsDigits digits × (members_of k (number digits) ≡ n)
Shaped k (Begun n) form = (form ≡ Streamed) × (n ≡ 0)

-- the bytes are a head, whose event was given
pub record Opened (r : Rules) (k : OpenKind) (shape : Shape) (level : ℕ) (bytes : List ℕ) (shown : List Event) : Type 0 where
  pub form : Form
  pub head : bytes ≡ (kind_byte (kind_of k) ∷ form_line form) ++ crlf []
  pub shaped : Shaped (kind_of k) shape form
  pub can_end : CanEnd (NodeKeeps r WithinItems) level (kind_of k) form 0
  pub told : shown ≡ e.Open (kind_of k) (declared_count form) ∷ []

-- and so an aggregate is open
opens_as : (r : Rules) (T : ℕ → List ℕ → List Event → Type 0) (fs : List Frame) (front : List ℕ) (es : List Event) (k : OpenKind) (shape : Shape)
    (w : IsInside r T fs front es) (form : Form) → Shaped (kind_of k) shape form → CanEnd (NodeKeeps r WithinItems) (length w.frames) (kind_of k) form 0 →
    (p : List ℕ) (told : List Event) → p ≡ text_around (record { kind = kind_of k; form = form; done = none } ∷ w.frames) [] →
    told ≡ without_places (events_around (record { kind = kind_of k; form = form; done = none } ∷ w.frames)) →
    StandsAfterAt r (token_in_shape shape) (record { kind = k; shape = shape } ∷ fs) p told
opens_as r T fs front es k (Left zero) w form (digits, is, are_digits, all) c p told e t =
    let m : members_missing (kind_of k) form 0 ≡ members_of (kind_of k) (number digits) - 0 = ap (λ z. members_missing (kind_of k) z 0) is in
    record {
      frame = record { kind = kind_of k; form = form; done = none };
      outer = w.frames;
      begun = w.begun;
      of_kind = refl;
      has_all = omega (arith, m, all);
      closes = ap close is;
      of_levels = w.of_levels;
      ready = (c, tt, tt, w.can_end);
      whole = e;
      told = t;
    }
opens_as r T fs front es k (Left (suc n)) w form (digits, is, are_digits, all) c p told e t =
    let z : eqb (suc n) 0 ≡ false = grind (arith, nat_tests) in
    subst (λ v. StandsAfterAt r (cond v AtEnd AtStart) (record { kind = k; shape = Left (suc n) } ∷ fs) p told) (sym z) (record {
      frames = record { kind = kind_of k; form = form; done = none } ∷ w.frames;
      begun = w.begun;
      of_levels = (refl, (digits, is, are_digits, omega (arith, all), omega arith), w.of_levels);
      ready = (c, tt, tt, w.can_end);
      whole = e;
      told = t;
    })
opens_as r T fs front es k (Begun n) w form (is, none_yet) c p told e t = record {
  frames = record { kind = kind_of k; form = form; done = none } ∷ w.frames;
  begun = w.begun;
  of_levels = (refl, (is, none_yet), w.of_levels);
  ready = (c, tt, tt, w.can_end);
  whole = e;
  told = t;
}

-- after a head's LF a place stands within the aggregate
pub opens_lie : (r : Rules) (T : ℕ → List ℕ → List Event → Type 0) (fs : List Frame) (front bytes_more : List ℕ) (es new : List Event) (k : OpenKind)
    (shape : Shape) → IsInside r T fs front es → ((level : ℕ) (bytes : List ℕ) (shown : List Event) → level ≡ length fs → T level bytes shown →
    Opened r k shape level (bytes ++ bytes_more) (shown ++ new)) →
    StandsAfterAt r (token_in_shape shape) (record { kind = k; shape = shape } ∷ fs) (front ++ bytes_more) (es ++ new)
opens_lie r T fs front bytes_more es new k shape w opens =
    let o = opens (length w.frames) w.bytes w.shown (at_level w) w.took in
    opens_as r T fs front es k shape w o.form o.shaped o.can_end (front ++ bytes_more) (es ++ new)
    (longer w.frames front w.bytes bytes_more w.whole ∙ ap (text_around w.frames) o.head ∙ around-open (kind_of k) o.form w.frames)
    (ap (λ z. z ++ new) w.told ∙ append_assoc (without_places (events_around w.frames)) w.shown new ∙
    ap (λ z. without_places (events_around w.frames) ++ z) o.told ∙
    sym (given-append (events_around w.frames) (e.open_event (length (text_around w.frames [])) (kind_of k) o.form ∷ [])))

-- Counted heads.

-- a count's LF opens an aggregate of this many members
count_opens : (r : Rules) (k : OpenKind) (n m level : ℕ) (bytes : List ℕ) (shown : List Event) → members_of (kind_of k) n ≡ m →
    CountReturned r (kind_of k) n level bytes shown → Opened r k (Left m) level (bytes ++ 10 ∷ []) (shown ++ e.Open (kind_of k) (Some n) ∷ [])
count_opens r k n m level bytes shown all w =
    let digits = w.first ∷ w.digits in
    let c = w.returned.count in
    let size : members_of (kind_of k) (number digits) ≡ m = ap (members_of (kind_of k)) w.valued ∙ all in
    let whole : members_of (kind_of k) (number digits) ≡ 0 + members_missing (kind_of k) (Counted digits) 0 = omega arith in
    record {
      form = Counted digits;
      head = ap (λ z. z ++ 10 ∷ []) (w.returned.returned ∙ ap (λ z. z ++ 13 ∷ []) c.are) ∙ append_assoc (kind_byte (kind_of k) ∷ digits) (13 ∷ []) (10 ∷ []);
      shaped = (digits, refl, c.are_digits, size);
      can_end = ((c.are_digits, whole), subst (NodeKeeps r WithinItems level (kind_of k) (Counted digits)) whole c.keeps);
      told = ap (λ z. z ++ e.Open (kind_of k) (Some n) ∷ []) w.told ∙ ap (λ z. e.Open (kind_of k) (Some z) ∷ []) (sym w.valued);
    }

-- after a count's CR its LF and the members
pub count_row : (r : Rules) (k : Kind) (n level : ℕ) (bytes : List ℕ) (shown : List Event) → CountReturned r k n level bytes shown →
    IsBegunBy r level bytes (3 * members_of k n + 1)
count_row r k n level bytes shown w = subst (λ m. IsBegunBy r level bytes (3 * members_of k m + 1)) w.valued
    (count_returned_begun r k w.first w.digits level bytes w.returned)

-- the LF of a head
head_end_leads : (s : Place) (o : OpenKind) (n m used byte : ℕ) (front : List ℕ) (es : List Event) → members_of (kind_of o) n ≡ m →
    IsInside (rules_of s) (CountReturned (rules_of s) (kind_of o) n) s.frames front es →
    Leads s front es byte (only_byte 10 byte (Give (k.Open o (Some n)) (h.after_open s o m)))
head_end_leads s o n m used byte front es all w =
    let r = rules_of s in
    let T = CountReturned r (kind_of o) n in
    wants_leads s T front es (3 * members_of (kind_of o) n + 1) byte 10 (Give (k.Open o (Some n)) (h.after_open s o m)) w
    (λ level bytes shown i t. count_row r (kind_of o) n level bytes shown t)
    (λ other level bytes rest shown t dead. count_returned_broken r (kind_of o) t.first t.digits level bytes rest byte other t.returned dead)
    (λ is. subst (λ z. StandsAfter (h.after_open s o m) (front ++ z ∷ []) (es ++ e.Open (kind_of o) (Some n) ∷ [])) (sym is)
    (opens_lie r T s.frames front (10 ∷ []) es (e.Open (kind_of o) (Some n) ∷ []) o (Left m) w
    (λ level bytes shown i t. count_opens r o n m level bytes shown all t)))

-- every byte after the CR of an aggregate's head
pub head_ends_lead : (s : Place) (h : Head) (n : ℕ) → IsOfAggregate h → ALead (at s (AtHeadLf h n))
head_ends_lead s head.Array n h used byte front es is_byte c w = head_end_leads (at s (AtHeadLf head.Array n)) kind.Array n n used byte front es refl w
head_ends_lead s head.Set n h used byte front es is_byte c w = head_end_leads (at s (AtHeadLf head.Set n)) kind.Set n n used byte front es refl w
head_ends_lead s head.Map n h used byte front es is_byte c w = head_end_leads (at s (AtHeadLf head.Map n)) kind.Map n (n * 2) used byte front es (omega arith) w
head_ends_lead s head.Attr n h used byte front es is_byte c w = head_end_leads (at s (AtHeadLf head.Attr n)) kind.Attr n (n * 2 + 1) used byte front es
    (omega arith) w
head_ends_lead s head.Push n h used byte front es is_byte c w = head_end_leads (at s (AtHeadLf head.Push n)) kind.Push n n used byte front es refl w
head_ends_lead s _ n h used byte front es is_byte c w = absurd h
