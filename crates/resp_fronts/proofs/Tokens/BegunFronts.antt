-- A front that ends in a begun value, of whose bytes T holds: what one byte more makes of it. Each token of a
-- scanner is such a T, and owes facts about its own bytes alone.
use Rattle.std.proofs.Common.{◌≡◌, ℕ, suc, ◌+◌, ◌<◌, List, [], ◌∷◌, ◌++◌, length, sym, ap, subst, ◌∙◌, arith, append-nil, refl}
use Rattle.resp_value.specs.Bytes.{crlf}
use Rattle.resp_value.specs.Data.{Kind}
use Rattle.resp_value.specs.Trees.{Tree, Form, text, kind_byte, form_line}
use Rattle.resp_value.specs.Rules.{Rules, Rule, Grammar, WithinItems, WithinTotal, rank}
use Rattle.resp_value.specs.LocalRules.{LeafKeeps, NodeKeeps}
use Rattle.resp_value.specs.Spellings.{IsCause}
use Rattle.resp_value.proofs.Unique.{unique, not_close}
use Rattle.resp_fronts.specs.Frames.{Frame, text_around}
use Rattle.resp_fronts.specs.LeastCompletions.{HasLeast}
use Rattle.resp_fronts.specs.MayFollow.{CanEnd, CanAllEnd, frames_needed}
use Rattle.resp_fronts.proofs.FrameLaws.Composition.{around-append}
use Rattle.resp_fronts.proofs.FrameLaws.LeastAround as l
use Rattle.resp_fronts.proofs.FrameLaws.LeastAround.{IsBegun, are_open}
use Rattle.resp_fronts.proofs.FrameLaws.KeptNodes.{shortest_keeps}
use Rattle.resp_fronts.proofs.FirstLines.CountRows.{CompletesUnder, IsRefusedHere}
use Rattle.resp_fronts.proofs.FrameLaws.Levels.{IsEnded, finish, levels_needed, levels_needed_is, ended}
use Rattle.resp_fronts.proofs.FrameLaws.LevelsAlone.{same_length}
use Rattle.resp_fronts.proofs.Refusals.RefusedFronts.{CompletesFront, IsRefused, refuse, hopeless, fewer_rules_can_end}
use Rattle.resp_fronts.proofs.Refusals.FirstRuleBroken.{refused_cause, grammar_cause}
use Rattle.resp_fronts.specs.OpenLevels.{AreLevelsOf, HasShape, Level, Shape}

-- bytes of one value, with their least completion on a level
pub record IsBegunBy (r : Rules) (level : ℕ) (bytes : List ℕ) (n : ℕ) : Type 0 where
  pub head : ℕ
  pub tail : List ℕ
  pub parts : bytes ≡ head ∷ tail
  pub some : 0 < n
  pub least : HasLeast (CompletesUnder r WithinItems level bytes) n

-- bytes that begin a value, by their least completion
pub begun_by : {r : Rules} {level n : ℕ} (head : ℕ) (tail : List ℕ) → 0 < n → HasLeast (CompletesUnder r WithinItems level (head ∷ tail)) n →
    IsBegunBy r level (head ∷ tail) n
begun_by head tail some least = record { head = head; tail = tail; parts = refl; some = some; least = least }

-- the front is the open frames, and then begun bytes of which T holds
pub record FollowsBy (r : Rules) (T : ℕ → List ℕ → Type 0) (levels : List Level) (front : List ℕ) : Type 0 where
  pub frames : List Frame
  pub bytes : List ℕ
  pub of_levels : AreLevelsOf levels frames
  pub can_end : CanAllEnd (LeafKeeps r WithinItems) (NodeKeeps r WithinItems) frames
  pub took : T (length frames) bytes
  pub whole : front ≡ text_around frames bytes

-- the level of the begun value is the number of levels around it
pub at_level : {r : Rules} {T : ℕ → List ℕ → Type 0} {levels : List Level} {front : List ℕ} (f : FollowsBy r T levels front) → length f.frames ≡ length levels
at_level {levels = levels} f = sym (same_length levels f.frames f.of_levels)

-- a value begins with no `.`
value_no_stop : (t : Tree) (head : ℕ) (beyond : List ℕ) → text t ≡ head ∷ beyond → head ≡ 46 → ⊥
value_no_stop t head beyond w e = not_close t [] beyond (append-nil (text t) ∙ w ∙ ap (λ z. z ∷ beyond) e)

-- a value that can be completed by some bytes is none yet
unfinished : {r : Rules} {level : ℕ} {bytes : List ℕ} {n : ℕ} → IsBegunBy r level bytes n → (rule : Rule) (rest : List ℕ) →
    CompletesUnder r rule level bytes rest → 0 < length rest
unfinished b rule (c ∷ rest) w = omega arith
unfinished {bytes = bytes} b rule [] w =
    let h = b.least.holds in
    let u = unique w.tree h.tree b.least.some [] w.is_tree h.is_tree (ap (λ z. z ++ b.least.some) (w.whole ∙ append-nil bytes) ∙ sym h.whole ∙
    sym (append-nil (text h.tree))) in
    absurd (omega (arith, ap length u.1, b.least.size, b.some))

longer : (frames : List Frame) (front bytes more : List ℕ) → front ≡ text_around frames bytes → front ++ more ≡ text_around frames (bytes ++ more)
longer frames front bytes more e = ap (λ q. q ++ more) e ∙ around-append frames bytes more

-- bytes more of the same value
pub goes_on : (r : Rules) (T U : ℕ → List ℕ → Type 0) (levels : List Level) (front more : List ℕ) → FollowsBy r T levels front →
    ((level : ℕ) (bytes : List ℕ) → level ≡ length levels → T level bytes → U level (bytes ++ more)) → FollowsBy r U levels (front ++ more)
goes_on r T U levels front more f step = record {
  frames = f.frames;
  bytes = f.bytes ++ more;
  of_levels = f.of_levels;
  can_end = f.can_end;
  took = step (length f.frames) f.bytes (at_level f) f.took;
  whole = longer f.frames front f.bytes more f.whole;
}

-- the bytes end the value, and with it each frame that it fills
pub value_ends : (r : Rules) (T : ℕ → List ℕ → Type 0) (levels : List Level) (front more : List ℕ) → FollowsBy r T levels front →
    ((level : ℕ) (bytes : List ℕ) → level ≡ length levels → T level bytes → CompletesUnder r WithinItems level bytes more) →
    IsEnded (LeafKeeps r WithinItems) (NodeKeeps r WithinItems) (finish levels) (front ++ more)
value_ends r T levels front more f last =
    let w = last (length f.frames) f.bytes (at_level f) f.took in
    let e : front ++ more ≡ text_around f.frames (text w.tree) = longer f.frames front f.bytes more f.whole ∙ ap (text_around f.frames) (sym w.whole) in
    subst (IsEnded (LeafKeeps r WithinItems) (NodeKeeps r WithinItems) (finish levels)) (sym e)
    (ended (LeafKeeps r WithinItems) (NodeKeeps r WithinItems) levels f.frames w.tree f.of_levels f.can_end w.is_tree w.keep)

-- the bytes make the head of an aggregate that has members to come
pub record Opens (r : Rules) (level : ℕ) (k : Kind) (shape : Shape) (bytes : List ℕ) : Type 0 where
  pub form : Form
  pub head : bytes ≡ (kind_byte k ∷ form_line form) ++ crlf []
  pub shaped : HasShape k shape form 0
  pub can_end : CanEnd (NodeKeeps r WithinItems) level k form 0

-- the least completion is the token's part and the levels' part
pub begun_least : (r : Rules) (T : ℕ → List ℕ → Type 0) (levels : List Level) (front : List ℕ) (n : ℕ) → FollowsBy r T levels front →
    ((level : ℕ) (bytes : List ℕ) → level ≡ length levels → T level bytes → IsBegunBy r level bytes n) →
    HasLeast (CompletesFront r WithinItems front) (n + levels_needed levels)
begun_least r T levels front n f row =
    let b = row (length f.frames) f.bytes (at_level f) f.took in
    let least : HasLeast (CompletesUnder r WithinItems (length f.frames) (b.head ∷ b.tail)) n =
    subst (λ z. HasLeast (CompletesUnder r WithinItems (length f.frames) z) n) b.parts b.least in
    let begun = l.follow_least (LeafKeeps r WithinItems) (NodeKeeps r WithinItems) f.frames b.head b.tail n (shortest_keeps r WithinItems) f.can_end
    (value_no_stop least.holds.tree b.head (b.tail ++ least.some) least.holds.whole) b.some least in
    let whole = l.front_least (LeafKeeps r WithinItems) (NodeKeeps r WithinItems) f.frames (b.head ∷ b.tail) (n + frames_needed f.frames) f.can_end begun in
    let e : text_around f.frames (b.head ∷ b.tail) ≡ front = ap (text_around f.frames) (sym b.parts) ∙ sym f.whole in
    let m : n + frames_needed f.frames ≡ n + levels_needed levels = ap (λ i. n + i) (sym (levels_needed_is levels f.frames f.of_levels)) in
    subst (HasLeast (CompletesFront r WithinItems front)) m (subst (λ q. HasLeast (CompletesFront r WithinItems q) (n + frames_needed f.frames)) e whole)

-- bytes that a rule refuses, where the rule before it doesn't
pub begun_refused : (r : Rules) (T : ℕ → List ℕ → Type 0) (rule before : Rule) (levels : List Level) (front more : List ℕ) → rank rule ≡ suc (rank before) →
    rank rule < rank WithinTotal → FollowsBy r T levels front → ((level : ℕ) (bytes : List ℕ) → level ≡ length levels → T level bytes →
    (head : ℕ) × (tail : List ℕ) × (bytes ++ more ≡ head ∷ tail) × IsRefusedHere r rule before level (head ∷ tail)) → IsCause r (front ++ more) rule
begun_refused r T rule before levels front more e before_total f refused =
    let (head, tail, parts, w) = refused (length f.frames) f.bytes (at_level f) f.took in
    let whole : text_around f.frames (head ∷ tail) ≡ front ++ more = sym (longer f.frames front f.bytes more f.whole ∙ ap (text_around f.frames) parts) in
    refused_cause r rule before (front ++ more) e before_total
    (subst (IsRefused r rule before) whole
    (refuse r rule before f.frames head tail (value_no_stop w.alive.tree head (tail ++ w.rest) w.alive.whole)
    (fewer_rules_can_end r WithinItems before f.frames (omega arith) f.can_end) w))

-- a byte that no spelling has there
pub begun_broken : (r : Rules) (T : ℕ → List ℕ → Type 0) (levels : List Level) (front : List ℕ) (n byte : ℕ) → FollowsBy r T levels front →
    ((level : ℕ) (bytes : List ℕ) → level ≡ length levels → T level bytes → IsBegunBy r level bytes n) →
    ((level : ℕ) (bytes rest : List ℕ) → level ≡ length levels → T level bytes → CompletesUnder r Grammar level bytes (byte ∷ rest) → ⊥) →
    IsCause r (front ++ byte ∷ []) Grammar
begun_broken r T levels front n byte f row dead =
    let b = row (length f.frames) f.bytes (at_level f) f.took in
    let h : CompletesUnder r WithinItems (length f.frames) (b.head ∷ b.tail) b.least.some =
    subst (λ z. CompletesUnder r WithinItems (length f.frames) z b.least.some) b.parts b.least.holds in
    let begun : IsBegun (b.head ∷ b.tail) = record {
      tree = h.tree;
      more = b.least.some;
      is_tree = h.is_tree;
      whole = h.whole;
      some =
          omega (arith, b.least.size, b.some);
    } in
    let e : front ≡ text_around f.frames (b.head ∷ b.tail) = f.whole ∙ ap (text_around f.frames) b.parts in
    grammar_cause r (front ++ byte ∷ []) (λ rest. subst (λ q. CompletesFront r Grammar (q ++ byte ∷ []) rest → ⊥) (sym e)
    (hopeless r Grammar f.frames b.head b.tail byte (value_no_stop h.tree b.head (b.tail ++ b.least.some) h.whole)
    (are_open (LeafKeeps r WithinItems) (NodeKeeps r WithinItems) f.frames f.can_end) begun
    (λ c w. unfinished b Grammar c (subst (λ z. CompletesUnder r Grammar (length f.frames) z c) (sym b.parts) w))
    (λ c w. dead (length f.frames) f.bytes c (at_level f) f.took (subst (λ z. CompletesUnder r Grammar (length f.frames) z (byte ∷ c)) (sym b.parts) w))
    rest))
