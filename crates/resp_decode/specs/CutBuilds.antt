-- The partial value of whose texts only the first bytes are kept, and the lengths of its longer texts.
use Rattle.std.specs.Prelude.{ℕ, Bool, true, false, if◌then◌else◌, Option, None, Some, List, [], ◌∷◌, ◌++◌, map}
use Rattle.resp_value.specs.Data.{Datum}
use Rattle.resp_fronts.specs.Events.{TextKind}
use Rattle.resp_fronts.specs.Events as e
use Rattle.resp_value.specs.Cuts.{cut, cut_lengths, kept_part}
use Rattle.resp_decode.specs.Builds.{Group, Text, Construction}

-- whether only the first bytes of a text of this kind are kept; the digits of a big number are all kept
abbrev pub may_cut : TextKind → Bool
may_cut e.Double = false
may_cut (e.Big negative) = false
may_cut _ = true

-- the content that is kept of a text
abbrev pub kept_content : ℕ → TextKind → List ℕ → List ℕ
kept_content shown kind s = if may_cut kind then kept_part shown s else s

-- the text that is being read
abbrev pub cut_text : ℕ → Option Text → Option Text
cut_text shown None = None
cut_text shown (Some t) = Some (record { kind = t.kind; content = kept_content shown t.kind t.content })

-- an open aggregate
abbrev pub cut_group : ℕ → Group → Group
cut_group shown g = record { kind = g.kind; members = map (cut shown) g.members }

-- the complete value
abbrev pub cut_whole : ℕ → Option Datum → Option Datum
cut_whole shown None = None
cut_whole shown (Some x) = Some (cut shown x)

-- the partial value, with the first bytes of each text
abbrev pub cut_construction : ℕ → Construction → Construction
cut_construction shown b = record {
  groups = map (cut_group shown) b.groups;
  text = cut_text shown b.text;
  whole = cut_whole shown b.whole;
}

-- the lengths of the longer texts of finished members
abbrev pub lengths_of_all : ℕ → List Datum → List ℕ
lengths_of_all shown [] = []
lengths_of_all shown (x ∷ xs) = cut_lengths shown x ++ lengths_of_all shown xs

-- the lengths of those of open aggregates, of which the first is inside the others
abbrev pub lengths_of_groups : ℕ → List Group → List ℕ
lengths_of_groups shown [] = []
lengths_of_groups shown (g ∷ gs) = lengths_of_groups shown gs ++ lengths_of_all shown g.members

abbrev pub lengths_of_whole : ℕ → Option Datum → List ℕ
lengths_of_whole shown None = []
lengths_of_whole shown (Some x) = cut_lengths shown x

-- the lengths of the finished texts of a partial value that have more bytes than are shown
abbrev pub lengths_of : ℕ → Construction → List ℕ
lengths_of shown b = lengths_of_groups shown b.groups ++ lengths_of_whole shown b.whole
