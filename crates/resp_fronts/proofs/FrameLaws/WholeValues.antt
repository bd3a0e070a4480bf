-- After a whole value within open aggregates, and after the last member of one of them.
use Rattle.std.proofs.Common.{◌≡◌, ℕ, suc, ◌+◌, ◌≤◌, List, [], ◌∷◌, ◌++◌, length, refl, sym, ap, subst, ◌∙◌, arith, append_assoc, length-append}
use Rattle.resp_value.specs.Bytes.{crlf}
use Rattle.resp_value.specs.LocalRules.{HoldsFrom, LeafRule, NodeRule}
use Rattle.resp_value.specs.Trees.{Counted, Form, HasMembers, IsTree, Simple, Streamed, Tree, close, count, form_line, kind_byte, line, node, text, texts}
use Rattle.resp_value.proofs.FirstBytes.{byte_at_start}
use Rattle.resp_value.proofs.Unique.{not_close, unique}
use Rattle.resp_value.proofs.DefaultLimits.{text_at_least}
use Rattle.resp_fronts.specs.Frames.{Frame, text_around}
use Rattle.resp_fronts.specs.LeastCompletions.{HasLeast}
use Rattle.resp_fronts.specs.MayFollow.{CanAllEnd, IsWholeText, MayFollowFrames, MayFollowValue, frames_needed, members_missing}
use Rattle.resp_fronts.proofs.Between.BetweenValues.{ready_open}
use Rattle.resp_fronts.proofs.FrameLaws.Composition.{around-append, compose, determine, first_member, member_rest}
use Rattle.resp_fronts.proofs.FrameLaws.LeastAround.{after_least, are_kept, are_open}
use Rattle.resp_fronts.specs.OpenLevels.{AreLevelsOf, AreReady, Level, so_far}

-- a text's first byte is no `.`
text_no_stop : (t : Tree) (c : List ℕ) → byte_at_start (text t ++ c) ≡ 46 → ⊥
text_no_stop t c = case (text t) (text_at_least t) (λ beyond e. not_close t c beyond e)
  where
    case : (bytes : List ℕ) → 3 ≤ length bytes → ((beyond : List ℕ) → bytes ++ c ≡ 46 ∷ beyond → ⊥) → byte_at_start (bytes ++ c) ≡ 46 → ⊥
    case [] n h e = omega arith
    case (x ∷ bytes) n h e = h (bytes ++ c) (ap (λ z. z ∷ (bytes ++ c)) e)

-- what may follow frames that begin with a whole value follows the value
follows_value : (L : LeafRule) (N : NodeRule) (fs : List Frame) (t : Tree) (c : List ℕ) → CanAllEnd L N fs → IsTree t → MayFollowFrames L N fs (text t ++ c) →
    MayFollowValue L N fs c
follows_value L N fs t c h p m =
    let v = first_member L N fs (text t ++ c) (are_open L N fs h) (text_no_stop t c) m in
    let u = unique v.tree t v.rest c v.is_tree p v.whole in
    subst (MayFollowValue L N fs) u.1 v.after

-- after a whole value the least is what the aggregates around it need
pub whole_least : (L : LeafRule) (N : NodeRule) (fs : List Frame) (t : Tree) → ((k : ℕ) → L k (line Simple [])) → CanAllEnd L N fs → IsTree t →
    HoldsFrom L N (length fs) t → HasLeast (λ c. IsWholeText L N (text_around fs (text t) ++ c)) (frames_needed fs)
whole_least L N fs t s h p q =
    let a = after_least L N fs s h in
    record {
      some = a.some;
      holds = subst (IsWholeText L N) (sym (around-append fs (text t) a.some))
          (compose L N fs (text t ++ a.some) (are_kept L N fs h) (member_rest L N fs (text t ++ a.some)
          (record { tree = t; rest = a.some; is_tree = p; keep = q; whole = refl; after = a.holds })));
      size = a.size;
      least = λ c w. a.least c (follows_value L N fs t c h p (determine L N fs (text t ++ c) (are_open L N fs h)
          (subst (IsWholeText L N) (around-append fs (text t) c) w)));
    }

-- an aggregate and its close are its text
pub closed_text : (f : Frame) (fs : List Frame) → text_around (f ∷ fs) (close f.form) ≡ text_around fs (text (node f.kind f.form f.done))
closed_text f fs = ap (text_around fs) (append_assoc (kind_byte f.kind ∷ form_line f.form) (crlf (texts f.done)) (close f.form))

-- what completes the front within a close is no shorter than the rest of the close and what may follow
close_least : (L : LeafRule) (N : NodeRule) (vs : List Level) (f : Frame) (fs : List Frame) (last rest c : List ℕ) (n : ℕ) → AreLevelsOf vs fs →
    AreReady L N (f ∷ fs) → close f.form ≡ last ++ rest → HasLeast (MayFollowValue L N fs) n →
    HasLeast (λ x. IsWholeText L N (text_around fs (text (node f.kind f.form f.done)) ++ x)) n → IsWholeText L N (text_around (f ∷ fs) last ++ c) →
    length rest + n ≤ length c
close_least L N vs f fs last rest c n a o e after whole w = case f.form refl last rest e w
  where
    case : (form : Form) → f.form ≡ form → (last rest : List ℕ) → close f.form ≡ last ++ rest → IsWholeText L N (text_around (f ∷ fs) last ++ c) →
        length rest + n ≤ length c
    case (Counted digits) form [] [] e w = omega (
      arith,
      whole.least c
          (subst (λ z. IsWholeText L N (z ++ c)) (ap (text_around (f ∷ fs)) (sym (ap close form)) ∙ closed_text f fs) w),
    )
    case (Counted digits) form [] (x ∷ rest) e w = absurd (let z : 0 ≡ suc (length rest) = ap (λ y. length (close y)) (sym form) ∙ ap length e in
        omega (arith, z))
    case (Counted digits) form (x ∷ last) rest e w = absurd (let z : 0 ≡ suc (length (last ++ rest)) = ap (λ y. length (close y)) (sym form) ∙ ap length e in
        omega (arith, z))
    case Streamed form last rest e w =
        let levels = record { kind = f.kind; shape = so_far (count f.done) } ∷ vs in
        let m = determine L N (f ∷ fs) (last ++ c) (ready_open L N levels (f ∷ fs) (refl, (form, refl), a) o)
        (subst (IsWholeText L N) (around-append (f ∷ fs) last c) w) in
        omega (
          arith,
          after.least m.rest m.after,
          ap length m.whole,
          length-append (texts m.members ++ close f.form) m.rest,
          length-append (texts m.members) (close f.form),
          ap length e,
          length-append last rest,
          length-append last c,
        )

-- within the close of an aggregate that has all of its members the least is the rest of the close, and what the
-- aggregates around it need; that of a counted one has no bytes
pub closing_least : (L : LeafRule) (N : NodeRule) (vs : List Level) (f : Frame) (fs : List Frame) (last rest : List ℕ) → ((k : ℕ) → L k (line Simple [])) →
    AreLevelsOf vs fs → AreReady L N (f ∷ fs) → members_missing f.kind f.form (count f.done) ≡ 0 → close f.form ≡ last ++ rest →
    HasLeast (λ c. IsWholeText L N (text_around (f ∷ fs) last ++ c)) (length rest + frames_needed fs)
closing_least L N vs f fs last rest s a o all e =
    let n : count f.done + members_missing f.kind f.form (count f.done) ≡ count f.done = omega (arith, all) in
    let tree = node f.kind f.form f.done in
    let l = whole_least L N fs tree s o.3 (subst (HasMembers f.kind f.form) n o.0.0, o.1) (subst (N (length fs) f.kind f.form) n o.0.1, o.2) in
    record {
      some = rest ++ l.some;
      holds = subst (IsWholeText L N) (ap (λ z. z ++ l.some) (sym (closed_text f fs) ∙ ap (text_around (f ∷ fs)) e ∙ sym (around-append (f ∷ fs) last rest)) ∙
          append_assoc (text_around (f ∷ fs) last) rest l.some) l.holds;
      size = omega (arith, length-append rest l.some, l.size);
      least = λ c w. close_least L N vs f fs last rest c (frames_needed fs) a o e (after_least L N fs s o.3) l w;
    }
