-- The result of encoding a value in one pass that writes as it goes.
use Rattle.std.specs.Prelude.{◌≡◌, ℕ, ◌-◌, ◌<◌, ◌≤◌, Bool, false, List, ◌∷◌, ◌++◌, length}
use Rattle.std.specs.Bool.{OnTrue}
use Rattle.bytes.specs.Filled.{Filled}
use Rattle.resp_value.specs.Bounds.{Bounds}
use Rattle.resp_value.specs.Bytes.{crlf}
use Rattle.resp_value.specs.Numbers.{decimal}
use Rattle.resp_value.specs.Data.{Kind, Datum, Data, depth, greatest_depth, longest, longest_among, most_items, most_items_among}
use Rattle.resp_value.specs.Trees.{kind_byte, texts}
use Rattle.resp_value.specs.Canonical.{IsValue, AreValues, IsKindInTwo, AreInTwo, HasTypes, HaveNoDouble, AllowsDoubles, HaveNoPush, HasPushAtTop, canonical_text, canonical_trees}
use Rattle.resp_value.specs.declared.version.Version.{Version}
use Rattle.resp_value.specs.declared.version.Version.TheVariants.{Two, Three}
use Rattle.resp_encode.specs.Walks.Writings.{Fills}

-- the version has this kind of aggregate
abbrev pub HasKind : Version → Kind → Type 0
HasKind Two k = IsKindInTwo k
HasKind Three k = Unit {0}

-- the version has each type of the members
abbrev pub HaveTypes : Version → Data → Type 0
HaveTypes Two xs = AreInTwo xs
HaveTypes Three xs = Unit {0}

-- the value has no fault, apart from the limit of total, if this many aggregates may be nested in it
pub record Suits (version : Version) (bounds : Bounds) (deeper : ℕ) (x : Datum) : Type 0 where
  pub allows_doubles : AllowsDoubles bounds x
  pub has_types : HasTypes version x
  pub push_at_top : HasPushAtTop x
  pub within_depth : depth x ≤ deeper
  pub within_length : longest x ≤ bounds.length
  pub within_items : most_items x ≤ bounds.items
  pub is_value : IsValue x

-- the members have no fault, apart from the limit of total, and no member is a push
pub record SuitEach (version : Version) (bounds : Bounds) (deeper : ℕ) (xs : Data) : Type 0 where
  pub no_double : bounds.doubles ≡ false → HaveNoDouble xs
  pub have_types : HaveTypes version xs
  pub no_push : HaveNoPush xs
  pub within_depth : greatest_depth xs ≤ deeper
  pub within_length : longest_among xs ≤ bounds.length
  pub within_items : most_items_among xs ≤ bounds.items
  pub are_values : AreValues xs

-- on success the value suits and its text was appended; otherwise perhaps a part of it was
pub record Attempt (version : Version) (bounds : Bounds) (deeper : ℕ) (x : Datum) (old new : Filled)
    (done : Bool) : Type 0 where
  pub whole : OnTrue done (Fills old new (canonical_text version x))
  pub suits : OnTrue done (Suits version bounds deeper x)
  pub part : (text : List ℕ) × Fills old new text

-- on success the members suit and their texts were appended; otherwise perhaps a part of them was
pub record AttemptEach (version : Version) (bounds : Bounds) (deeper : ℕ) (xs : Data) (old new : Filled)
    (done : Bool) : Type 0 where
  pub whole : OnTrue done (Fills old new (texts (canonical_trees version xs)))
  pub suits : OnTrue done (SuitEach version bounds deeper xs)
  pub part : (text : List ℕ) × Fills old new text

-- on success the head of an aggregate of this kind with this number was appended, and the texts of these members
pub record AttemptInside (version : Version) (bounds : Bounds) (deeper : ℕ) (k : Kind) (items : ℕ) (xs : Data) (old new : Filled)
    (done : Bool) : Type 0 where
  pub whole : OnTrue done (Fills old new (kind_byte k ∷ decimal items ++ crlf (texts (canonical_trees version xs))))
  pub has_kind : OnTrue done (HasKind version k)
  pub within_items : OnTrue done (items ≤ bounds.items)
  pub within_depth : OnTrue done (0 < deeper)
  pub suits : OnTrue done (SuitEach version bounds (deeper - 1) xs)
  pub part : (text : List ℕ) × Fills old new text

-- a value without members has no fault, apart from the limit of total, and this much room holds its text
pub record FitsSpare (version : Version) (bounds : Bounds) (spare : ℕ) (x : Datum) : Type 0 where
  pub allows_doubles : AllowsDoubles bounds x
  pub has_types : HasTypes version x
  pub within_length : longest x ≤ bounds.length
  pub room : length (canonical_text version x) ≤ spare
