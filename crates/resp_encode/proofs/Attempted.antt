-- What holds after each step of a walk that writes as it goes.
use Rattle.std.proofs.Common.{◌≡◌, ℕ, ◌+◌, ◌-◌, ◌/◌, ◌<◌, ◌≤◌, Bool, true, false, List, [], ◌∷◌, ◌++◌, length, sym, ap, ◌∙◌, subst, arith, append_assoc, length-append, ℤ, pos, negsuc, nat_abs, add-one}
use Rattle.std.specs.Bool.{OnTrue}
use Rattle.bytes.specs.Filled.{Filled}
use Rattle.resp_value.specs.Bytes.{crlf}
use Rattle.resp_value.specs.Bounds.{Bounds}
use Rattle.resp_value.specs.Numbers.{decimal}
use Rattle.resp_value.specs.Data.{Kind, Attr, Scalar, Int, longest, Datum, Data, none, scalar, aggregate, items_of, count}
use Rattle.resp_value.specs.Data as d
use Rattle.resp_value.specs.Trees.{kind_byte, texts}
use Rattle.resp_value.specs.Canonical.{IsScalarValue, IsWhole, IsKindBelow, IsInTwo, HasNoDouble, HasNoPush, HasTypes, canonical_text, canonical_trees, Fits}
use Rattle.resp_value.specs.Rules.{Rules}
use Rattle.resp_value.specs.Values.{extended}
use Rattle.resp_value.specs.declared.version.Version.{Version}
use Rattle.resp_value.specs.declared.version.Version.TheVariants.{Two, Three}
use Rattle.resp_value.specs.declared.kind.OpenKind as e
use Rattle.resp_value.specs.declared.kind.OpenKind.TheVariants as v
use Rattle.resp_value.specs.Kinds.{kind_of}
use Rattle.resp_encode.specs.Walks.Attempts.{HasKind, HaveTypes, Suits, SuitEach, Attempt, AttemptEach, AttemptInside, FitsSpare}
use Rattle.resp_encode.specs.Walks.Writings.{Fills}
use Rattle.resp_encode.proofs.Extended.{in_two_extended, no_double_extended, no_push_extended, values_with, greatest_depth-extended, longest_among-extended, most_items_among-extended, texts-extended}
use Rattle.resp_encode.proofs.Texts.{Writes-none, Writes-append, aggregate_text, head_split}

-- nothing was written
pub left : {version : Version} {bounds : Bounds} {deeper : ℕ} {x : Datum} (a : Filled) →
    Attempt version bounds deeper x a a false
left a = record { whole = tt; suits = tt; part = ([], Writes-none a) }

-- the walk stopped after a part
pub stopped : {version : Version} {bounds : Bounds} {deeper : ℕ} {x : Datum} {a b : Filled} →
    (text : List ℕ) × Fills a b text →
    Attempt version bounds deeper x a b false
stopped part = record { whole = tt; suits = tt; part = part }

pub stopped_each : {version : Version} {bounds : Bounds} {deeper : ℕ} {xs : Data} {a b : Filled} →
    (text : List ℕ) × Fills a b text →
    AttemptEach version bounds deeper xs a b false
stopped_each part = record { whole = tt; suits = tt; part = part }

-- a part after a text
pub part_after : {a b c : Filled} {x : List ℕ} → Fills a b x → (text : List ℕ) × Fills b c text →
    (text : List ℕ) × Fills a c text
part_after {x = x} first rest = (x ++ rest.0, Writes-append first rest.1)

-- a value without members suits at any depth
pub scalar_suits : {version : Version} {bounds : Bounds} {spare : ℕ} {s : Scalar} → FitsSpare version bounds spare (scalar s) → IsScalarValue s →
    (deeper : ℕ) → Suits version bounds deeper (scalar s)
scalar_suits fits value deeper = record {
  allows_doubles = fits.allows_doubles;
  has_types = fits.has_types;
  push_at_top = tt;
  within_depth = omega arith;
  within_length = fits.within_length;
  within_items = omega arith;
  is_value = value;
}

-- and was written
pub scalar_done : {version : Version} {bounds : Bounds} {spare : ℕ} {s : Scalar} {a b : Filled} →
    FitsSpare version bounds spare (scalar s) → IsScalarValue s →
    Fills a b (canonical_text version (scalar s)) → (deeper : ℕ) → Attempt version bounds deeper (scalar s) a b true
scalar_done fits value writes deeper = record { whole = writes; suits = scalar_suits fits value deeper; part = (_, writes) }

-- a value of this kind was written, whose content is another's
pub text_done : {version : Version} {bounds : Bounds} {spare : ℕ} {a b : Filled} {text text' : List ℕ} (kind : List ℕ → Scalar) → text ≡ text' →
    FitsSpare version bounds spare (scalar (kind text)) → IsScalarValue (kind text) → Fills a b (canonical_text version (scalar (kind text))) →
    (deeper : ℕ) → Attempt version bounds deeper (scalar (kind text')) a b true
text_done {version = version} {bounds = bounds} {a = a} {b = b} kind same fits value writes =
    subst (λ z. (deeper : ℕ) → Attempt version bounds deeper (scalar (kind z)) a b true) same (scalar_done fits value writes)

-- there is room for a line, where there is room for the text of its value
pub line_room : {version : Version} {bounds : Bounds} {spare : ℕ} (byte : ℕ) (text : List ℕ) (x : Datum) → FitsSpare version bounds spare x →
    canonical_text version x ≡ byte ∷ (text ++ crlf []) → length text + 3 ≤ spare
line_room byte text x fits is = omega (arith, length-append text (crlf []), ap length is, fits.room)

-- version 3 has each type that version 2 has
pub in_each : (version : Version) (x : Datum) → IsInTwo x → HasTypes version x
in_each Two x p = p
in_each Three x p = tt

-- version 2 has no doubles
two_no_double : (s : Scalar) → IsInTwo (scalar s) → HasNoDouble (scalar s)
two_no_double d.Null p = tt
two_no_double (d.Bool b) p = tt
two_no_double (d.Int i) p = tt
two_no_double (d.Simple s) p = tt
two_no_double (d.Error s) p = tt
two_no_double (d.Double s) p = absurd p
two_no_double (d.Bulk s) p = tt
two_no_double (d.BulkError s) p = tt
two_no_double (d.Verbatim format s) p = tt
two_no_double (d.Big negative digits) p = tt

-- a scalar of version 2 within the limits, and room for it
pub room_for : (version : Version) (bounds : Bounds) {spare : ℕ} (s : Scalar) → IsInTwo (scalar s) →
    longest (scalar s) ≤ bounds.length →
    length (canonical_text version (scalar s)) ≤ spare → FitsSpare version bounds spare (scalar s)
room_for version bounds s two long room = record {
  allows_doubles = λ off. two_no_double s two;
  has_types = in_each version (scalar s) two;
  within_length =
      long;
  room = room;
}

-- an integer's text is no longer than its digits and four more
pub int_length : (version : Version) (i : ℤ) → length (canonical_text version (scalar (Int i))) ≤ length
    (decimal (nat_abs i)) + 4
int_length version (pos n) = omega (arith, length-append (decimal n) (crlf []))
int_length version (negsuc n) = omega (
  arith,
  ap (λ m. length (decimal m)) (add-one n),
  length-append (decimal (n + 1)) (crlf []),
)

have_types_with : (version : Version) (xs : Data) (x : Datum) → HaveTypes version xs → HasTypes version x →
    HaveTypes version (extended xs x)
have_types_with Two xs x p q = (in_two_extended xs x).1 (p, q)
have_types_with Three xs x p q = tt

-- members and one more suit where each of them does
pub suit_with : (version : Version) (bounds : Bounds) (deeper : ℕ) (xs : Data) (x : Datum) →
    SuitEach version bounds deeper xs → Suits version bounds deeper x →
    HasNoPush x → SuitEach version bounds deeper (extended xs x)
suit_with version bounds deeper xs x each one below = record {
  no_double = λ off. (no_double_extended xs x).1 (each.no_double off, one.allows_doubles off);
  have_types = have_types_with version xs x each.have_types one.has_types;
  no_push = (no_push_extended xs x).1 (each.no_push, below);
  within_depth = omega (arith, each.within_depth, one.within_depth, greatest_depth-extended xs x);
  within_length = omega (arith, each.within_length, one.within_length, longest_among-extended xs x);
  within_items = omega (arith, each.within_items, one.within_items, most_items_among-extended xs x);
  are_values = values_with xs x each.are_values one.is_value;
}

has_types_inside : (version : Version) (k : Kind) (xs : Data) → HasKind version k → HaveTypes version xs →
    HasTypes version (aggregate k xs)
has_types_inside Two k xs p q = (p, q)
has_types_inside Three k xs p q = tt

-- an aggregate of members that suit
pub suits_inside : (version : Version) (bounds : Bounds) (deeper : ℕ) (k : Kind) (xs : Data) (items : ℕ) →
    HasKind version k → 0 < deeper →
    items ≤ bounds.items → items_of k (count xs) ≡ items → IsWhole k (count xs) →
    SuitEach version bounds (deeper - 1) xs →
    Suits version bounds deeper (aggregate k xs)
suits_inside version bounds deeper k xs items kind deep few same whole each = record {
  allows_doubles = each.no_double;
  has_types = has_types_inside version k xs kind each.have_types;
  push_at_top = each.no_push;
  within_depth = omega (arith, each.within_depth);
  within_length = each.within_length;
  within_items = omega (arith, each.within_items, same);
  is_value = (whole, each.are_values);
}

-- a head was written, and then the members were tried
pub inside_tried : (version : Version) (bounds : Bounds) (deeper : ℕ) (k : Kind) (xs : Data) (items : ℕ) (done : Bool)
    {a b c : Filled} →
    Fills a b (kind_byte k ∷ decimal items ++ crlf []) → HasKind version k → 0 < deeper → items ≤ bounds.items →
    AttemptEach version bounds (deeper - 1) xs b c done → AttemptInside version bounds deeper k items xs a c done
inside_tried version bounds deeper k xs items false head kind deep few each =
    record {
      whole = tt;
      has_kind = tt;
      within_items = tt;
      within_depth = tt;
      suits = tt;
      part =
          part_after head each.part;
    }
inside_tried version bounds deeper k xs items true {a = a} {c = c} head kind deep few each =
    let text = subst (Fills a c) (head_split (kind_byte k) items (texts (canonical_trees version xs)))
    (Writes-append head each.whole) in
    record {
      whole = text;
      has_kind = kind;
      within_items = few;
      within_depth = deep;
      suits = each.suits;
      part =
          (_, text);
    }

-- they are the members of an aggregate
pub aggregate_tried : (version : Version) (bounds : Bounds) (deeper : ℕ) (k : Kind) (xs : Data) (items : ℕ) (done : Bool)
    {a c : Filled} → items_of k (count xs) ≡ items → IsWhole k (count xs) →
    AttemptInside version bounds deeper k items xs a c done → Attempt version bounds deeper (aggregate k xs) a c done
aggregate_tried version bounds deeper k xs items false same whole inside = stopped inside.part
aggregate_tried version bounds deeper k xs items true {a = a} {c = c} same whole inside =
    let text = subst (Fills a c) (sym (aggregate_text version k xs items same)) inside.whole in
    record {
      whole = text;
      suits = suits_inside version bounds deeper k xs items inside.has_kind inside.within_depth inside.within_items same whole inside.suits;
      part = (_, text);
    }

-- members were written, and then one more was tried
pub one_more_tried : (version : Version) (bounds : Bounds) (deeper : ℕ) (xs : Data) (x : Datum) (done : Bool)
    {a b c : Filled} →
    Fills a b (texts (canonical_trees version xs)) → SuitEach version bounds deeper xs →
    Attempt version bounds deeper x b c done → OnTrue done (HasNoPush x) →
    AttemptEach version bounds deeper (extended xs x) a c done
one_more_tried version bounds deeper xs x false front each one below = stopped_each (part_after front one.part)
one_more_tried version bounds deeper xs x true {a = a} {c = c} front each one below =
    let text = subst (Fills a c) (sym (texts-extended version xs x)) (Writes-append front one.whole) in
    record { whole = text; suits = suit_with version bounds deeper xs x each one.suits below; part = (_, text) }

-- a value that suits fits, where its text is within the total
pub fits_within : (rules : Rules) (x : Datum) → Suits rules.version rules.limits rules.limits.depth x →
    length (canonical_text rules.version x) ≤ rules.limits.total → Fits rules x
fits_within rules x suits total = record {
  allows_doubles = suits.allows_doubles;
  has_types = suits.has_types;
  push_at_top = suits.push_at_top;
  within_depth = suits.within_depth;
  within_length = suits.within_length;
  within_items = suits.within_items;
  within_total = total;
}

-- they were written, and then the value that they annotate was tried
pub annotated_tried : (version : Version) (bounds : Bounds) (deeper : ℕ) (xs : Data) (x : Datum) (items : ℕ)
    (done : Bool) {a b c : Filled} →
    AttemptInside version bounds deeper Attr items xs a b true → items_of Attr (count (extended xs x)) ≡ items →
    IsWhole Attr (count (extended xs x)) →
    Attempt version bounds (deeper - 1) x b c done → OnTrue done (HasNoPush x) →
    Attempt version bounds deeper (aggregate Attr (extended xs x)) a c done
annotated_tried version bounds deeper xs x items false notes same whole one below =
    stopped (part_after notes.whole one.part)
annotated_tried version bounds deeper xs x items true {a = a} {c = c} notes same whole one below =
    let front = texts (canonical_trees version xs) in
    let under = canonical_text version x in
    let same_text = ap (λ rest. 124 ∷ rest) (append_assoc (decimal items) (crlf front) under) ∙
    ap (λ rest. 124 ∷ decimal items ++ crlf rest) (sym (texts-extended version xs x)) ∙
    sym (aggregate_text version Attr (extended xs x) items same) in
    let text = subst (Fills a c) same_text (Writes-append notes.whole one.whole) in
    record {
      whole = text;
      suits = suits_inside version bounds deeper Attr (extended xs x) items notes.has_kind notes.within_depth
          notes.within_items same whole
          (suit_with version bounds (deeper - 1) xs x notes.suits one.suits below);
      part = (_, text);
    }

-- an aggregate that suits is no push, unless its kind is
pub is_below : (version : Version) (bounds : Bounds) (deeper : ℕ) (k : Kind) (xs : Data) (done : Bool) → IsKindBelow k →
    OnTrue done (Suits version bounds deeper (aggregate k xs)) → OnTrue done (HasNoPush (aggregate k xs))
is_below version bounds deeper k xs false below suits = tt
is_below version bounds deeper k xs true below suits = (below, suits.push_at_top)

-- a kind whose head counts the members one by one has no pairs
pub is_whole : (kind : e.OpenKind) → ((n : ℕ) → items_of (kind_of kind) n ≡ n) → (n : ℕ) → IsWhole (kind_of kind) n
is_whole v.Array each n = tt
is_whole v.Set each n = tt
is_whole v.Map each n = absurd (let one : 1 / 2 ≡ 1 = each 1 in omega (arith, one))
is_whole v.Attr each n = absurd (let one : 1 / 2 ≡ 1 = each 1 in omega (arith, one))
is_whole v.Push each n = tt
