-- What may follow a front: the rest of the unfinished value, and then the other members and the close of each frame
-- around it, each within the rules on its level.
use Rattle.std.specs.Prelude.{◌≡◌, ℕ, suc, ◌+◌, ◌-◌, ◌*◌, ◌%◌, ◌<◌, List, [], ◌∷◌, ◌++◌, length}
use Rattle.resp_value.specs.Numbers.{number}
use Rattle.resp_value.specs.Data.{Kind, Map, members_of}
use Rattle.resp_value.specs.Trees.{Tree, Trees, Form, Counted, Streamed, text, texts, close, count, IsTree, AreTrees, HasMembers}
use Rattle.resp_value.specs.LocalRules.{LeafRule, NodeRule, HoldsFrom, HoldsFromEach}
use Rattle.resp_fronts.specs.Frames.{Frame}

-- members that may still come in an aggregate on a level that has n members, its close, and then a rest for which P
-- holds
pub record MembersThen (L : LeafRule) (N : NodeRule) (level : ℕ) (k : Kind) (form : Form) (n : ℕ) (P : List ℕ →
    Type 0) (following : List ℕ) : Type 0 where
  pub members : Trees
  pub rest : List ℕ
  pub are_trees : AreTrees members
  pub keep : HoldsFromEach L N (suc level) members
  pub is_form : HasMembers k form (n + count members)
  pub is_kept : N level k form (n + count members)
  pub whole : (texts members ++ close form) ++ rest ≡ following
  pub after : P rest

-- what may follow a complete value within open frames
abbrev pub MayFollowValue : LeafRule → NodeRule → List Frame → List ℕ → Type 0
MayFollowValue L N [] following = following ≡ []
MayFollowValue L N (frame ∷ frames) following = MembersThen L N (length frames) frame.kind frame.form
    (suc (count frame.done)) (MayFollowValue L N frames) following

-- the text of one tree within the rules
pub record IsWholeText (L : LeafRule) (N : NodeRule) (whole_text : List ℕ) : Type 0 where
  pub tree : Tree
  pub is_tree : IsTree tree
  pub keep : HoldsFrom L N 0 tree
  pub whole : text tree ≡ whole_text

-- what may follow when a member of the innermost frame may begin
abbrev pub MayFollowFrames : LeafRule → NodeRule → List Frame → List ℕ → Type 0
MayFollowFrames L N [] following = IsWholeText L N following
MayFollowFrames L N (frame ∷ frames) following = MembersThen L N (length frames) frame.kind frame.form
    (count frame.done) (MayFollowValue L N frames) following

-- what may follow the bytes of an unfinished value within the frames
abbrev pub MayFollow : LeafRule → NodeRule → List Frame → List ℕ → List ℕ → Type 0
MayFollow L N frames begun rest = MayFollowFrames L N frames (begun ++ rest)

-- a value, and what may follow it
pub record ValueThen (L : LeafRule) (N : NodeRule) (frames : List Frame) (following : List ℕ) : Type 0 where
  pub tree : Tree
  pub rest : List ℕ
  pub is_tree : IsTree tree
  pub keep : HoldsFrom L N (length frames) tree
  pub whole : text tree ++ rest ≡ following
  pub after : MayFollowValue L N frames rest

-- the unfinished bytes and the rest together are one value on this level
pub record CompletesValue (L : LeafRule) (N : NodeRule) (level : ℕ) (begun rest : List ℕ) : Type 0 where
  pub tree : Tree
  pub is_tree : IsTree tree
  pub keep : HoldsFrom L N level tree
  pub whole : text tree ≡ begun ++ rest

-- the complete members of the frames are within the rules
abbrev pub AreKept : LeafRule → NodeRule → List Frame → Type 0
AreKept L N [] = Unit {0}
AreKept L N (frame ∷ frames) = AreTrees frame.done × HoldsFromEach L N (suc (length frames)) frame.done ×
    AreKept L N frames

-- each frame has room for one more member
abbrev pub AreOpen : List Frame → Type 0
AreOpen [] = Unit {0}
AreOpen (frame ∷ frames) = (n : ℕ) × HasMembers frame.kind frame.form n × (count frame.done < n) × AreTrees frame.done ×
    AreOpen frames

-- the least number of members that must still come in an aggregate that has n members
abbrev pub members_missing : Kind → Form → ℕ → ℕ
members_missing k (Counted digits) n = members_of k (number digits) - n
members_missing Map Streamed n = n % 2
members_missing _ Streamed n = 0

-- an aggregate that has n members can be completed
abbrev pub CanEnd : NodeRule → ℕ → Kind → Form → ℕ → Type 0
CanEnd N level k form n = HasMembers k form (n + members_missing k form n) ×
    N level k form (n + members_missing k form n)

-- each frame can be completed once its open member is complete
abbrev pub CanAllEnd : LeafRule → NodeRule → List Frame → Type 0
CanAllEnd L N [] = Unit {0}
CanAllEnd L N (frame ∷ frames) = CanEnd N (length frames) frame.kind frame.form (suc (count frame.done)) ×
    AreTrees frame.done × HoldsFromEach L N (suc (length frames)) frame.done × CanAllEnd L N frames

-- the number of bytes that an aggregate with n members needs, plus the rest after it
abbrev pub members_needed : Kind → Form → ℕ → ℕ → ℕ
members_needed k form n rest = 3 * members_missing k form n + length (close form) + rest

-- the number of bytes that the frames need once the open member is complete: 3 for each member and for each close
abbrev pub frames_needed : List Frame → ℕ
frames_needed [] = 0
frames_needed (frame ∷ frames) = members_needed frame.kind frame.form (suc (count frame.done)) (frames_needed frames)
