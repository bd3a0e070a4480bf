-- A value's first byte, or a close.
use Rattle.std.specs.Prelude.{Bool, true, false, cond, None, Some, Option}
use Rattle.std.proofs.lemmas.Bool.{ne_eqb}
use Rattle.std.proofs.lemmas.Bool.Decides.{nat_tests}
use Rattle.std.proofs.Common.{◌≡◌, ℕ, suc, ◌-◌, ◌%◌, ◌<◌, ◌≤◌, List, [], ◌∷◌, ◌++◌, length, refl, sym, ap, subst, ◌∙◌, arith, append-nil}
use Rattle.std.specs.Str.{byte}
use Rattle.std.specs.List.{AllByRecursion}
use Rattle.resp_value.specs.Data.{Kind}
use Rattle.resp_value.specs.Data as d
use Rattle.resp_value.specs.Numbers.{Unsigned}
use Rattle.resp_value.specs.Trees as t
use Rattle.resp_value.specs.Trees.{LineKind, PlainNull, Streamed, close, count, kind_byte}
use Rattle.resp_value.specs.Rules.{Rules, Rule, Grammar, InVersion, NoDouble, PushAtTop, WithinDepth, WithinItems}
use Rattle.resp_value.specs.LocalRules.{IsNoPushBelow, LeafKeeps, NodeKeeps}
use Rattle.resp_value.specs.Causes.{cause_of}
use Rattle.resp_value.specs.declared.cause.Cause.{Cause}
use Rattle.resp_value.specs.declared.cause.Cause.TheVariants as cause
use Rattle.resp_value.specs.declared.version.Version.{Version}
use Rattle.resp_value.specs.declared.version.Version.TheVariants as version
use Rattle.resp_value.specs.declared.kind.OpenKind.{OpenKind}
use Rattle.resp_value.specs.declared.kind.OpenKind.TheVariants as kind
use Rattle.resp_value.specs.Kinds.{kind_of}
use Rattle.resp_value.proofs.Choices.{if_within}
use Rattle.resp_fronts.specs.Frames as opened
use Rattle.resp_fronts.specs.Frames.{text_around}
use Rattle.resp_fronts.specs.Events.{Event, events_around, without_places}
use Rattle.resp_fronts.specs.Events as e
use Rattle.resp_fronts.specs.FirstByteRefusals.{aggregate_refusal, first_byte_refusal, refusal_in_three, push_refusal, answer_beside, first_byte_answers}
use Rattle.resp_fronts.specs.MayFollow.{members_missing}
use Rattle.resp_fronts.proofs.Between.BegunBetweenValues as between
use Rattle.resp_fronts.proofs.Tokens.BegunFronts.{IsBegunBy}
use Rattle.resp_fronts.proofs.Tokens.BegunTypeBytes.{bulk_error_begun, dollar_begun, star_begun, star_deep_begun, verbatim_begun}
use Rattle.resp_fronts.proofs.FrameLaws.Composition.{around-append}
use Rattle.resp_fronts.proofs.Refusals.FirstRuleBroken.{grammar_cause}
use Rattle.resp_fronts.proofs.Tokens.LineTokens.{line_begun, text_token_begins}
use Rattle.resp_fronts.proofs.Tokens.NumberTokens.{null_token_line, number_begun, truth_begun}
use Rattle.resp_fronts.proofs.Between.RefusedBetweenValues.{GoesOn, refuse_stop}
use Rattle.resp_fronts.specs.OpenLevels.{AreLevelsOf, AreReady, HasShape, Level, so_far}
use Rattle.resp_fronts.specs.Tokens.{HasAnyText, HasLine}
use Rattle.resp_fronts.proofs.Refusals.FirstByteCauses.{at_answer, and_rows}
use Rattle.resp_scan.specs.declared.event.TextKind.TheVariants as text
use Rattle.resp_scan.specs.declared.frame.Frame.{Frame}
use Rattle.resp_scan.specs.declared.frame.Shape.{Shape}
use Rattle.resp_scan.specs.declared.frame.Shape.TheVariants.{Left, Begun}
use Rattle.resp_scan.specs.declared.machine.Head.{Head}
use Rattle.resp_scan.specs.declared.machine.Head.TheVariants as head
use Rattle.resp_scan.specs.Machine.Tokens as k
use Rattle.resp_scan.specs.Machine.Tokens.{Give, Go, Move, Place, Refuse, Token, AtArrayHead, AtBigSign, AtBool, AtBulkHead, AtCloseCr, AtHead, AtIntSign, AtNullCr, AtStart, InDouble, InLine, at}
use Rattle.resp_scan.specs.Machine.Heads.{first_needed}
use Rattle.resp_scan.specs.Machine.Room.{after_begin, is_full}
use Rattle.resp_scan.specs.Machine.Moves as machine
use Rattle.resp_scan.specs.Machine.Moves.{aggregate_move, begin_move, close_move, double_line_move, line_move, may_close, may_close_of, push_move, start_next, start_three, move_unless, next}
use Rattle.resp_scan.specs.Kinds.{IsRefusedFor, event_of, rules_of}
use Rattle.resp_scan.specs.Machine.Beginnings as b
use Rattle.resp_scan.specs.Machine.Beginnings.{AggregateBegun, DoubleBegun, LineBegun, NullLine}
use Rattle.resp_scan.specs.Machine.Standing.{AwaitsMember, IsBeingClosed, HasCountsOf, IsInside, Leads, StandsAfter, StandsAfterAt, busy_levels, waiting_shape, waiting_levels}
use Rattle.resp_scan.proofs.TokenMoves.Begins.{begins_leads, is_between, length-waiting}
use Rattle.resp_scan.proofs.HeadMoves.HeadsLead.{aggregate_row, no_two_in_three, attribute_row}
use Rattle.resp_value.specs.declared.double_stage.DoubleStage.TheVariants as stage
use Rattle.resp_scan.proofs.TokenMoves.DoublesLead.{double_begun_by, double_row}
use Rattle.resp_scan.proofs.TokenMoves.LinesLead.{line_row}
use Rattle.resp_scan.proofs.Soundness.SoundStarts.{start_rows}
use Rattle.resp_scan.proofs.Soundness.SoundFrames.{begun_rules}

-- Refusals of a first byte by itself.

answer_named : (s : Place) (front : List ℕ) (es : List Event) (byte : ℕ) (rule : Rule) (c : Cause) → HasCountsOf s 0 front → (byte ≡ 46 → ⊥) →
    AwaitsMember (rules_of s) s.frames front es → first_byte_refusal (rules_of s) (length s.frames) byte ≡ Some rule → c ≡ cause_of rule →
    IsRefusedFor (rules_of s) (front ++ byte ∷ []) c
answer_named s front es byte rule c counts no_stop w answer names =
    let r = rules_of s in
    let refusal : first_byte_refusal r (length (waiting_levels s.frames)) byte ≡ Some rule = ap (λ n. first_byte_refusal r n byte) (length-waiting s.frames) ∙
    answer in
    record {
      rule = rule;
      names = names;
      cause = subst (between.IsFrontAnswered r (waiting_levels s.frames) front byte) refusal
          (between.first_byte_cause r (waiting_levels s.frames) front byte counts.sound.bounds no_stop (is_between r s.frames front es w));
    }

-- Lines.

line_begun_by : (r : Rules) (kind : LineKind) (level : ℕ) → HasLine r kind → HasAnyText kind →
    LineBegun r r.limits.length level (t.line_byte kind ∷ []) (e.Text (e.line_text_kind kind) ∷ [])
unfolding text_token_begins
line_begun_by r kind level p any = record { kind = kind; size = 0; token = text_token_begins r kind level p any; leaves = omega arith; told = refl }

-- The first byte of a value.

-- the value is begun at the place that counts it
lies_begun : (s : Place) (token : Token) (fs : List Frame) (front : List ℕ) (es : List Event) → StandsAfterAt (rules_of s) token fs front es →
    StandsAfterAt (rules_of (after_begin s)) token fs front es
lies_begun s token fs front es h = subst (λ r. StandsAfterAt r token fs front es) (sym (begun_rules s s.frames)) h

-- the byte of a simple line gives the begin of its text
line_leads : (s : Place) (kind : LineKind) (happening : k.Happening) (front : List ℕ) (es : List Event) → HasLine (rules_of s) kind → HasAnyText kind →
    event_of happening ≡ e.Text (e.line_text_kind kind) → (t.line_byte kind ≡ 46 → ⊥) →
    first_byte_refusal (rules_of s) (length s.frames) (t.line_byte kind) ≡ None → HasCountsOf (at s AtStart) 0 front → StandsAfter (at s AtStart) front es →
    Leads (at s AtStart) front es (t.line_byte kind) (line_move (at s AtStart) happening)
line_leads s kind happening front es p any told no_stop none c w =
    let q = at s AtStart in
    let r = rules_of s in
    begins_leads q (LineBegun r s.bounds.length) front es (event_of happening ∷ []) (t.line_byte kind) 2
    (Give happening (at (after_begin q) (InLine s.bounds.length))) c no_stop none w
    (λ level i. subst (λ x. LineBegun r s.bounds.length level (t.line_byte kind ∷ []) (x ∷ [])) (sym told) (line_begun_by r kind level p any))
    (λ level bytes shown i t. line_row r s.bounds.length level bytes shown t)
    (λ inside. lies_begun q (InLine s.bounds.length) (after_begin q).frames (front ++ t.line_byte kind ∷ []) (es ++ event_of happening ∷ []) inside)

-- the byte of a double gives the begin of its text
double_line_leads : (s : Place) (front : List ℕ) (es : List Event) → HasLine (rules_of s) t.Double →
    first_byte_refusal (rules_of s) (length s.frames) 44 ≡ None → HasCountsOf (at s AtStart) 0 front → StandsAfter (at s AtStart) front es →
    Leads (at s AtStart) front es 44 (double_line_move (at s AtStart))
double_line_leads s front es p none c w =
    let q = at s AtStart in
    let r = rules_of s in
    begins_leads q (DoubleBegun r stage.Begun s.bounds.length) front es (e.Text e.Double ∷ []) 44 3
    (Give (k.Text text.Double) (at (after_begin q) (InDouble stage.Begun s.bounds.length))) c (λ z. omega arith) none w
    (λ level i. double_begun_by r level p (omega (arith, c.sound.bounds.length_in_range.0)))
    (λ level bytes shown i t. double_row r stage.Begun s.bounds.length level bytes shown t)
    (λ inside. lies_begun q (InDouble stage.Begun s.bounds.length) (after_begin q).frames (front ++ 44 ∷ []) (es ++ e.Text e.Double ∷ []) inside)

-- what a token has of a byte by itself, the least that completes it, and that the token stands inside a value
record Begins (s : Place) (token : Token) (byte needed : ℕ) : Type 0 where
  pub took : (level : ℕ) → level ≡ length s.frames → b.TokenHas (rules_of s) token level (byte ∷ []) []
  pub row : (level : ℕ) (bytes : List ℕ) (shown : List Event) → level ≡ length s.frames → b.TokenHas (rules_of s) token level bytes shown →
      IsBegunBy (rules_of s) level bytes needed
  pub lies : (fs : List Frame) (front : List ℕ) (es : List Event) → IsInside (rules_of s) (b.TokenHas (rules_of s) token) fs front es →
      StandsAfterAt (rules_of s) token fs front es

-- a byte that begins a token leads to it, where no rule refuses the byte
token_leads : (s : Place) (token : Token) (byte needed : ℕ) (front : List ℕ) (es : List Event) → Begins s token byte needed → (byte ≡ 46 → ⊥) →
    HasCountsOf (at s AtStart) 0 front → StandsAfter (at s AtStart) front es → first_byte_refusal (rules_of s) (length s.frames) byte ≡ None →
    Leads (at s AtStart) front es byte (begin_move (at s AtStart) needed token)
token_leads s token byte needed front es begins no_stop c w none =
    let q = at s AtStart in
    let T = b.TokenHas (rules_of s) token in
    begins_leads q T front es [] byte needed (Go (at (after_begin q) token)) c no_stop none w begins.took begins.row
    (λ inside. lies_begun q token (after_begin q).frames (front ++ byte ∷ []) es (begins.lies (after_begin q).frames (front ++ byte ∷ []) es
    (subst (IsInside (rules_of s) T (after_begin q).frames (front ++ byte ∷ [])) (append-nil es) inside)))

-- a byte that version 3 alone has
three_leads : (s : Place) (byte : ℕ) (front : List ℕ) (es : List Event) (answer : Option Rule) (v : Move) → (byte ≡ 46 → ⊥) →
    first_byte_refusal (rules_of s) (length s.frames) byte ≡ refusal_in_three s.version answer → HasCountsOf (at s AtStart) 0 front →
    StandsAfter (at s AtStart) front es → ((s.version ≡ version.Two → ⊥) → first_byte_refusal (rules_of s) (length s.frames) byte ≡ answer →
    Leads (at s AtStart) front es byte v) → Leads (at s AtStart) front es byte (machine.move_in_three s.version v)
three_leads s byte front es answer v no_stop is c w leads = case s.version refl
  where
    case : (x : Version) → s.version ≡ x → Leads (at s AtStart) front es byte (machine.move_in_three x v)
    case version.Two two = answer_named (at s AtStart) front es byte InVersion cause.Version c no_stop w (is ∙ ap (λ x. refusal_in_three x answer) two) refl
    case version.Three three = leads (no_two_in_three s.version three) (is ∙ ap (λ x. refusal_in_three x answer) three)

-- the byte of a double
double_leads : (s : Place) (front : List ℕ) (es : List Event) → HasCountsOf (at s AtStart) 0 front → StandsAfter (at s AtStart) front es →
    Leads (at s AtStart) front es 44 (machine.double_move (at s AtStart))
double_leads s front es c w = case s.bounds.doubles refl
  where
    case : (x : Bool) → s.bounds.doubles ≡ x → Leads (at s AtStart) front es 44
        (cond x (machine.move_in_three s.version (double_line_move (at s AtStart))) (Refuse cause.Double))
    case false off = answer_named (at s AtStart) front es 44 NoDouble cause.Double c (λ z. omega arith) w
        (ap (λ x. cond x (refusal_in_three s.version None) (Some NoDouble)) off) refl
    case true allowed = three_leads s 44 front es None (double_line_move (at s AtStart)) (λ z. omega arith)
        (ap (λ x. cond x (refusal_in_three s.version None) (Some NoDouble)) allowed) c w
        (λ no_two none. double_line_leads s front es (no_two, λ off. absurd cc) none c w)

-- the byte of an aggregate, where the depth leaves room
aggregate_leads : (s : Place) (kind : Kind) (h : Head) (front : List ℕ) (es : List Event) → ((level : ℕ) → level ≡ length s.frames → IsNoPushBelow level kind) →
    (((level : ℕ) → level ≡ length s.frames → AggregateBegun (rules_of s) kind level (kind_byte kind ∷ []) []) →
    Begins s (AtHead h) (kind_byte kind) (first_needed h)) → (kind_byte kind ≡ 46 → ⊥) → HasCountsOf (at s AtStart) 0 front →
    StandsAfter (at s AtStart) front es → (s.version ≡ version.Two → ⊥) →
    first_byte_refusal (rules_of s) (length s.frames) (kind_byte kind) ≡ aggregate_refusal (rules_of s) (length s.frames) →
    Leads (at s AtStart) front es (kind_byte kind) (aggregate_move (at s AtStart) h)
aggregate_leads s kind h front es no_push begins no_stop c w no_two answer =
    let q = at s AtStart in
    if_within s.bounds.depth (length s.frames)
    (λ x. first_byte_refusal (rules_of s) (length s.frames) (kind_byte kind) ≡ cond x (Some WithinDepth) None →
    Leads q front es (kind_byte kind) (cond x (Refuse cause.Depth) (begin_move q (first_needed h) (AtHead h))))
    (λ full refused. answer_named q front es (kind_byte kind) WithinDepth cause.Depth c no_stop w refused refl)
    (λ below none. token_leads s (AtHead h) (kind_byte kind) (first_needed h) front es
    (begins (λ level i. record { no_two = no_two; no_push = no_push level i; below = omega (arith, below, i); are = refl; told = refl })) no_stop c w none)
    answer

-- a byte that begins a head
head_begins : (s : Place) (h : Head) (byte needed : ℕ) →
    ((level : ℕ) → level ≡ length s.frames → b.HeadBegun (rules_of s) h level (byte ∷ []) []) →
    ((level : ℕ) (bytes : List ℕ) (shown : List Event) → b.HeadBegun (rules_of s) h level bytes shown → IsBegunBy (rules_of s) level bytes needed) →
    Begins s (AtHead h) byte needed
head_begins s h byte needed took row = record {
  took = took;
  row = λ level bytes shown i u. row level bytes shown u;
  lies = λ fs x y inside. inside;
}

-- the byte of a push, at the top alone
push_leads : (s : Place) (front : List ℕ) (es : List Event) → HasCountsOf (at s AtStart) 0 front → StandsAfter (at s AtStart) front es →
    (s.version ≡ version.Two → ⊥) → first_byte_refusal (rules_of s) (length s.frames) 62 ≡ push_refusal (rules_of s) (length s.frames) →
    Leads (at s AtStart) front es 62 (push_move (at s AtStart) s.frames)
push_leads s front es c w no_two answer = case s.frames answer c w
  where
    case : (fs : List Frame) → first_byte_refusal (rules_of s) (length fs) 62 ≡ push_refusal (rules_of s) (length fs) →
        HasCountsOf (record s { token = AtStart; frames = fs }) 0 front → AwaitsMember (rules_of s) fs front es →
        Leads (record s { token = AtStart; frames = fs }) front es 62 (push_move (record s { token = AtStart; frames = fs }) fs)
    case [] answer c w = aggregate_leads (record s { frames = [] }) d.Push head.Push front es (λ level i. i)
        (λ took. head_begins (record s { frames = [] }) head.Push (kind_byte d.Push) 3 took
        (λ level bytes shown u. aggregate_row (rules_of s) d.Push level bytes shown refl u))
        (λ z. omega arith) c w no_two answer
    case (f ∷ fs) answer c w = answer_named (record s { token = AtStart; frames = f ∷ fs }) front es 62 PushAtTop cause.NestedPush c (λ z. omega arith) w
        answer refl

-- A close.

streamed_has_all : (k : OpenKind) (m : ℕ) → may_close_of k (Begun m) ≡ true → members_missing (kind_of k) Streamed m ≡ 0
streamed_has_all kind.Map m can = grind (arith, nat_tests)
streamed_has_all _ m can = refl

closes_from : (r : Rules) (f : Frame) (fs : List Frame) (front : List ℕ) (es : List Event) → (w : AwaitsMember r (f ∷ fs) front es) →
    may_close_of f.kind f.shape ≡ true → IsBeingClosed r f.kind fs (46 ∷ []) (13 ∷ 10 ∷ []) (front ++ 46 ∷ []) es
closes_from r f fs front es w can = case w.frames f.shape w.of_levels w.ready w.whole w.told can
  where
    case : (gs : List opened.Frame) (shape : Shape) → AreLevelsOf (record { kind = kind_of f.kind; shape = waiting_shape shape } ∷ busy_levels fs) gs →
        AreReady (LeafKeeps r WithinItems) (NodeKeeps r WithinItems) gs → front ≡ text_around gs [] → es ≡ without_places (events_around gs) →
        may_close_of f.kind shape ≡ true → IsBeingClosed r f.kind fs (46 ∷ []) (13 ∷ 10 ∷ []) (front ++ 46 ∷ []) es
    case [] shape a o e told can = absurd a
    case (g ∷ gs) (Left m) a o e told can = absurd cc
    case (g ∷ gs) (Begun m) a o e told can =
        let h : HasShape g.kind (so_far m) g.form (count g.done) = a.1 in
        record {
          frame = g;
          outer = gs;
          begun = w.begun;
          of_kind = a.0;
          has_all = ap (λ x. members_missing g.kind x (count g.done)) h.0 ∙ ap (λ x. members_missing g.kind Streamed x) (sym h.1) ∙
              ap (λ x. members_missing x Streamed m) (sym a.0) ∙ streamed_has_all f.kind m can;
          closes = ap close h.0;
          of_levels = a.2;
          ready = o;
          whole = ap (λ z. z ++ 46 ∷ []) e ∙ around-append (g ∷ gs) [] (46 ∷ []);
          told = told;
        }

goes_on_first : (k : OpenKind) (shape : Shape) → may_close_of k shape ≡ false → GoesOn (kind_of k) (waiting_shape shape)
goes_on_first k (Left m) stays = tt
goes_on_first kind.Map (Begun m) stays = let odd : 0 < m % 2 = grind (arith, nat_tests) in omega (arith, odd)
goes_on_first _ _ stays = absurd cc

stop_refused : (r : Rules) (fs : List Frame) (front : List ℕ) (es : List Event) → AwaitsMember r fs front es →
    ((v : Level) (outer : List Level) → waiting_levels fs ≡ v ∷ outer → GoesOn v.kind v.shape) → IsRefusedFor r (front ++ 46 ∷ []) cause.Syntax
stop_refused r fs front es w goes = record {
  rule = Grammar;
  names = refl;
  cause =
      grammar_cause r (front ++ 46 ∷ []) (λ rest c. refuse_stop r Grammar (waiting_levels fs) front (is_between r fs front es w) goes rest c);
}

close_leads : (s : Place) (front : List ℕ) (es : List Event) → StandsAfter (at s AtStart) front es →
    Leads (at s AtStart) front es 46 (close_move (at s AtStart))
close_leads s front es w = case s.frames w
  where
    goes : (f : Frame) (fs : List Frame) → may_close_of f.kind f.shape ≡ false → (v : Level) (outer : List Level) → waiting_levels (f ∷ fs) ≡ v ∷ outer →
        GoesOn v.kind v.shape
    goes f fs stays v outer e = let first : record { kind = kind_of f.kind; shape = waiting_shape f.shape } ≡ v = cc in
        subst (λ x. GoesOn x.kind x.shape) first (goes_on_first f.kind f.shape stays)

    case : (fs : List Frame) → AwaitsMember (rules_of s) fs front es →
        Leads (record s { token = AtStart; frames = fs }) front es 46 (close_move (record s { token = AtStart; frames = fs }))
    case [] w = stop_refused (rules_of s) [] front es w (λ v outer e. absurd (let n : 0 ≡ suc (length outer) = ap length e in omega (arith, n)))
    case (f ∷ fs) w =
        let q = record s { token = AtStart; frames = f ∷ fs } in
        elim (may_close_of f.kind f.shape) as (λ x. may_close_of f.kind f.shape ≡ x →
        Leads q front es 46 (cond x (Go (record q { token = AtCloseCr; frames = record f { shape = Left 0 } ∷ fs; frames_need = s.frames_need - 3 }))
        (Refuse cause.Syntax))) [
          | true ↦ λ can. closes_from (rules_of s) f fs front es w can
          | false ↦ λ no. stop_refused (rules_of s) (f ∷ fs) front es w (goes f fs no)
        ] refl

-- The bytes, one by one.

-- `*`, after which only a null may come where no further aggregate may open
pub star_row : (s : Place) (level : ℕ) → level ≡ length s.frames → (bytes : List ℕ) → bytes ≡ 42 ∷ [] →
    IsBegunBy (rules_of s) level bytes (cond (is_full s) 4 3)
star_row s level i bytes are =
    if_within s.bounds.depth (length s.frames) (λ x. IsBegunBy (rules_of s) level bytes (cond x 4 3))
    (λ deep. subst (λ z. IsBegunBy (rules_of s) level z 4) (sym are) (star_deep_begun (rules_of s) level (omega (arith, deep, i))))
    (λ below. subst (λ z. IsBegunBy (rules_of s) level z 3) (sym are) (star_begun (rules_of s) level (omega (arith, below, i))))

-- the tokens that begin in both versions, and those that begin in version 3 alone
int_begins : (s : Place) → Begins s AtIntSign 58 3
int_begins s = record {
  took = λ level i. ((omega arith, refl), refl);
  row = λ level bytes shown i u. number_begun (rules_of s) t.Int Unsigned level bytes u.0;
  lies = λ fs x y inside. inside;
}

bulk_begins : (s : Place) → Begins s AtBulkHead 36 4
bulk_begins s = record {
  took = λ level i. (refl, refl);
  row = λ level bytes shown i u. subst (λ z. IsBegunBy (rules_of s) level z 4) (sym u.0) (dollar_begun (rules_of s) level);
  lies = λ fs x y inside. inside;
}

array_begins : (s : Place) → Begins s AtArrayHead 42 (cond (is_full (at s AtStart)) 4 3)
array_begins s = record {
  took = λ level i. (refl, refl);
  row = λ level bytes shown i u. star_row s level i bytes u.0;
  lies = λ fs x y inside. inside;
}

null_begins : (s : Place) → (s.version ≡ version.Two → ⊥) → Begins s AtNullCr 95 2
null_begins s no_two = record {
  took = λ level i. record { form = PlainNull; token = null_token_line (rules_of s) PlainNull level (λ two p. no_two two); told = refl };
  row = λ level bytes shown i u. line_begun (rules_of s) (t.null u.form) level bytes u.token;
  lies = λ fs x y inside. inside;
}

truth_begins : (s : Place) → (s.version ≡ version.Two → ⊥) → Begins s AtBool 35 3
truth_begins s no_two = record {
  took = λ level i. (no_two, refl, refl);
  row = λ level bytes shown i u. subst (λ z. IsBegunBy (rules_of s) level z 3) (sym u.1) (truth_begun (rules_of s) level u.0);
  lies = λ fs x y inside. inside;
}

big_begins : (s : Place) → 64 ≤ s.bounds.length → (s.version ≡ version.Two → ⊥) → Begins s AtBigSign 40 3
big_begins s roomy no_two = record {
  took = λ level i. (((no_two, omega (arith, roomy)), refl), refl);
  row = λ level bytes shown i u. number_begun (rules_of s) t.Big Unsigned level bytes u.0;
  lies = λ fs x y inside. inside;
}

bulk_error_begins : (s : Place) → (s.version ≡ version.Two → ⊥) → Begins s (AtHead head.BulkError) 33 5
bulk_error_begins s no_two = record {
  took = λ level i. (no_two, refl, refl);
  row = λ level bytes shown i u. subst (λ z. IsBegunBy (rules_of s) level z 5) (sym u.1) (bulk_error_begun (rules_of s) level u.0);
  lies = λ fs x y inside. inside;
}

verbatim_begins : (s : Place) → 64 ≤ s.bounds.length → (s.version ≡ version.Two → ⊥) → Begins s (AtHead head.Verbatim) 61 9
verbatim_begins s roomy no_two = record {
  took = λ level i. (no_two, refl, refl);
  row = λ level bytes shown i u. subst (λ z. IsBegunBy (rules_of s) level z 9) (sym u.1) (verbatim_begun (rules_of s) level u.0 (omega (arith, roomy)));
  lies = λ fs x y inside. inside;
}

-- each of these bytes leads where its row says
start_rows_lead : (s : Place) (front : List ℕ) (es : List Event) → HasCountsOf (at s AtStart) 0 front → StandsAfter (at s AtStart) front es →
    AllByRecursion (λ row. Leads (at s AtStart) front es row.0 row.1) (start_rows (at s AtStart))
start_rows_lead s front es c w =
    and_rows (line_leads s t.Simple (k.Text text.Simple) front es tt tt refl (λ z. omega arith) refl c w)
    (and_rows (line_leads s t.Error (k.Text text.Error) front es tt tt refl (λ z. omega arith) refl c w)
    (and_rows (token_leads s AtIntSign 58 3 front es (int_begins s) (λ z. omega arith) c w refl)
    (and_rows (token_leads s AtBulkHead 36 4 front es (bulk_begins s) (λ z. omega arith) c w refl)
    (and_rows (token_leads s AtArrayHead 42 (cond (is_full (at s AtStart)) 4 3) front es (array_begins s) (λ z. omega arith) c w refl)
    (and_rows (close_leads s front es w)
    (and_rows (double_leads s front es c w)
    (and_rows (later AtNullCr 95 2 (null_begins s) (λ z. omega arith) refl)
    (and_rows (later AtBool 35 3 (truth_begins s) (λ z. omega arith) refl)
    (and_rows (later AtBigSign 40 3 (big_begins s roomy) (λ z. omega arith) refl)
    (and_rows (later (AtHead head.BulkError) 33 5 (bulk_error_begins s) (λ z. omega arith) refl)
    (and_rows (later (AtHead head.Verbatim) 61 9 (verbatim_begins s roomy) (λ z. omega arith) refl)
    (and_rows (later_aggregate d.Set head.Set (λ level i. tt) (λ took. head_begins s head.Set (kind_byte d.Set) 3 took
    (λ level bytes shown u. aggregate_row (rules_of s) d.Set level bytes shown refl u)) (λ z. omega arith) refl)
    (and_rows (later_aggregate d.Map head.Map (λ level i. tt) (λ took. head_begins s head.Map (kind_byte d.Map) 3 took
    (λ level bytes shown u. aggregate_row (rules_of s) d.Map level bytes shown refl u)) (λ z. omega arith) refl)
    (and_rows (later_aggregate d.Attr head.Attr (λ level i. tt) (λ took. head_begins s head.Attr (kind_byte d.Attr) 6 took
    (λ level bytes shown u. attribute_row (rules_of s) level bytes shown u)) (λ z. omega arith) refl)
    (and_rows (three_leads s 62 front es (push_refusal (rules_of s) (length s.frames)) (push_move (at s AtStart) s.frames) (λ z. omega arith) refl c w
    (push_leads s front es c w)) tt)))))))))))))))
  where
    roomy : 64 ≤ s.bounds.length
    roomy = c.sound.bounds.length_in_range.0

    later : (token : Token) (byte needed : ℕ) → ((s.version ≡ version.Two → ⊥) → Begins s token byte needed) → (byte ≡ 46 → ⊥) →
        first_byte_refusal (rules_of s) (length s.frames) byte ≡ refusal_in_three s.version None →
        Leads (at s AtStart) front es byte (machine.move_in_three s.version (begin_move (at s AtStart) needed token))
    later token byte needed begins no_stop answer =
        three_leads s byte front es None (begin_move (at s AtStart) needed token) no_stop answer c w
        (λ no_two. token_leads s token byte needed front es (begins no_two) no_stop c w)

    later_aggregate : (kind : Kind) (h : Head) → ((level : ℕ) → level ≡ length s.frames → IsNoPushBelow level kind) →
        (((level : ℕ) → level ≡ length s.frames → AggregateBegun (rules_of s) kind level (kind_byte kind ∷ []) []) →
        Begins s (AtHead h) (kind_byte kind) (first_needed h)) → (kind_byte kind ≡ 46 → ⊥) →
        first_byte_refusal (rules_of s) (length s.frames) (kind_byte kind) ≡ refusal_in_three s.version (aggregate_refusal (rules_of s) (length s.frames)) →
        Leads (at s AtStart) front es (kind_byte kind) (machine.move_in_three s.version (aggregate_move (at s AtStart) h))
    later_aggregate kind h no_push begins no_stop answer =
        three_leads s (kind_byte kind) front es (aggregate_refusal (rules_of s) (length s.frames)) (aggregate_move (at s AtStart) h) no_stop answer c w
        (aggregate_leads s kind h front es no_push begins no_stop c w)

-- a byte that has no answer beside it
other_answer : {A : Type 0} (rows : List (ℕ × A)) (other : A) (byte : ℕ) → AllByRecursion (λ row. byte ≡ row.0 → ⊥) rows →
    answer_beside rows other byte ≡ other
other_answer [] other byte apart = refl
other_answer (row ∷ rows) other byte apart = rw (ne_eqb byte row.0 apart.0) (other_answer rows other byte apart.1)

-- every byte where a value may begin
pub start_leads : (s : Place) (byte : ℕ) (front : List ℕ) (es : List Event) → byte < 256 → HasCountsOf (at s AtStart) 0 front →
    StandsAfter (at s AtStart) front es → Leads (at s AtStart) front es byte (next (at s AtStart) 1 byte)
start_leads s byte front es is_byte c w =
    let q = at s AtStart in
    at_answer (λ x v. Leads q front es x v) (start_rows q) (Refuse cause.Syntax) byte (start_rows_lead s front es c w)
    (λ apart. answer_named q front es byte Grammar cause.Syntax c apart.1.1.1.1.1.0 w
    (other_answer (first_byte_answers (rules_of s) (length s.frames)) (Some Grammar) byte
    (apart.1.1.1.1.1.1.0, (apart.0, (apart.1.0, (apart.1.1.0, (apart.1.1.1.0, (apart.1.1.1.1.0, apart.1.1.1.1.1.1.1))))))) refl)
