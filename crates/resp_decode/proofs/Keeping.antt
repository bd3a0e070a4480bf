-- What is kept of events: the events that are passed on build the first bytes of what all events build.
use Rattle.std.proofs.Common.{◌≡◌, ℕ, zero, suc, ◌-◌, ◌<◌, ◌≤◌, Bool, true, false, cond, Option, None, Some, List, [], ◌∷◌, ◌++◌, length, map, take, refl, sym, ap, subst, ◌∙◌, append_assoc, arith}
use Rattle.std.proofs.lemmas.List.{append-nil, length-map, length-take, map-append}
use Rattle.std.proofs.Math.Seq.{take-nil}
use Rattle.resp_value.specs.Bytes.{IsLine}
use Rattle.resp_value.specs.Data.{Kind, Scalar, Datum, Data, scalar, aggregate, data_of_list}
use Rattle.resp_value.specs.Data as d
use Rattle.resp_fronts.specs.Events.{Event, TextKind}
use Rattle.resp_fronts.specs.Events as e
use Rattle.resp_value.specs.Cuts.{cut, cut_each, cut_lengths, cut_scalar, kept_part, lengths_of_each, longer}
use Rattle.resp_value.proofs.Cutting.{longer-none}
use Rattle.resp_scan.specs.Kinds.{content_events, text_kind_of}
use Rattle.resp_scan.specs.Listening.{IsTextOf}
use Rattle.resp_scan.specs.declared.event.TextKind.{TextKind as ReadKind}
use Rattle.resp_scan.specs.declared.event.TextKind.TheVariants as read
use Rattle.resp_decode.specs.Builds.{Construction, Group, Text, text_value, with_byte, with_event, with_events, with_group_closed, with_text_ended, with_value, with_value_in}
use Rattle.resp_decode.specs.CutBuilds.{cut_construction, cut_group, cut_text, cut_whole, kept_content, lengths_of, lengths_of_all, lengths_of_groups, lengths_of_whole, may_cut}
use Rattle.resp_decode.specs.Fits.{IsContentOf, IsInText, IsMemberCount, MayAllCome, MayBegin, MayClose, MayCome, MayEndText}
use Rattle.resp_decode.specs.Weights.{content_size, weight, weight_of, weight_of_all, weight_of_each, weight_of_groups, weight_of_text, weight_of_whole}

-- The first bytes of a text.

-- the first bytes of a text and of its next part
pub take-append : (n : ℕ) (xs ys : List ℕ) → take n (xs ++ ys) ≡ take n xs ++ take (n - length xs) ys
take-append n [] ys =
    let same : n ≡ n - 0 = omega arith in
    ap (λ m. take m ys) same ∙ sym (ap (λ zs. zs ++ take (n - 0) ys) (take-nil n))
take-append zero (x ∷ xs) ys =
    let none : 0 ≡ 0 - length (x ∷ xs) = omega arith in
    ap (λ m. take m ys) none
take-append (suc n) (x ∷ xs) ys =
    let same : n - length xs ≡ suc n - length (x ∷ xs) = omega arith in
    ap (λ zs. x ∷ zs) (take-append n xs ys) ∙ ap (λ m. x ∷ (take n xs ++ take m ys)) same

-- the first bytes of a line are a line
line_front : (n : ℕ) (s : List ℕ) → IsLine s → IsLine (take n s)
line_front zero s h = tt
line_front (suc n) [] h = tt
line_front (suc n) (c ∷ s) h = (h.0, line_front n s h.1)

-- the bytes that are kept of the next part of a text
abbrev pub next_kept : ℕ → TextKind → ℕ → List ℕ → List ℕ
next_kept shown kind count part = cond (may_cut kind) (take (suc shown - count) part) part

pub kept_more : (shown : ℕ) (kind : TextKind) (s part : List ℕ) →
    kept_content shown kind s ++ next_kept shown kind (length s) part ≡ kept_content shown kind (s ++ part)
kept_more shown kind s part = case (may_cut kind)
  where
    case : (b : Bool) → cond b (kept_part shown s) s ++ cond b (take (suc shown - length s) part) part ≡ cond b (kept_part shown (s ++ part)) (s ++ part)
    case true = sym (take-append (suc shown) s part)
    case false = refl

kept_nothing : (shown : ℕ) (kind : TextKind) → kept_content shown kind [] ≡ []
kept_nothing shown kind = case (may_cut kind)
  where
    case : (b : Bool) → cond b (kept_part shown []) [] ≡ []
    case true = refl
    case false = refl

kept_shorter : (shown : ℕ) (kind : TextKind) (s : List ℕ) → length (kept_content shown kind s) ≤ length s
kept_shorter shown kind s = case (may_cut kind)
  where
    case : (b : Bool) → length (cond b (kept_part shown s) s) ≤ length s
    case true = omega (arith, length-take (suc shown) s)
    case false = omega arith

-- the text that is kept is one of the same kind
pub content_is_kept : (shown : ℕ) (kind : TextKind) (s : List ℕ) → IsContentOf kind s → IsContentOf kind (kept_content shown kind s)
content_is_kept shown e.Simple s h = line_front (suc shown) s h
content_is_kept shown e.Error s h = line_front (suc shown) s h
content_is_kept shown e.Double s h = h
content_is_kept shown e.Bulk s h = tt
content_is_kept shown e.BulkError s h = tt
content_is_kept shown (e.Verbatim format) s h = h
content_is_kept shown (e.Big negative) s h = h

-- its value is the cut one
pub text_is_cut : (shown : ℕ) (kind : TextKind) (s : List ℕ) → cut shown (text_value kind s) ≡ text_value kind (kept_content shown kind s)
text_is_cut shown e.Simple s = refl
text_is_cut shown e.Error s = refl
text_is_cut shown e.Double s = refl
text_is_cut shown e.Bulk s = refl
text_is_cut shown e.BulkError s = refl
text_is_cut shown (e.Verbatim format) s = refl
text_is_cut shown (e.Big negative) s = refl

-- and its length is that of the whole text
pub text_lengths : (shown : ℕ) (kind : TextKind) (s : List ℕ) → cut_lengths shown (text_value kind s) ≡ longer shown (cond (may_cut kind) (length s) 0)
text_lengths shown e.Simple s = refl
text_lengths shown e.Error s = refl
text_lengths shown e.Double s = sym (longer-none shown 0 (omega arith))
text_lengths shown e.Bulk s = refl
text_lengths shown e.BulkError s = refl
text_lengths shown (e.Verbatim format) s = refl
text_lengths shown (e.Big negative) s = sym (longer-none shown 0 (omega arith))

-- a text that is told whole is its content
pub text_is_content : (kind : ReadKind) (s : List ℕ) → IsTextOf kind s → IsContentOf (text_kind_of kind) s
text_is_content read.Simple s h = h
text_is_content read.Error s h = h
text_is_content read.Double s h = h
text_is_content read.Bulk s h = tt
text_is_content read.BulkError s h = absurd h
text_is_content (read.Verbatim format) s h = absurd h
text_is_content (read.Big negative) s h = absurd h

-- Members.

-- cut members, as a list
cut_listed : (shown : ℕ) (xs : List Datum) → cut_each shown (data_of_list xs) ≡ data_of_list (map (cut shown) xs)
cut_listed shown [] = refl
cut_listed shown (x ∷ xs) = ap (d.more (cut shown x)) (cut_listed shown xs)

lengths_listed : (shown : ℕ) (xs : List Datum) → lengths_of_each shown (data_of_list xs) ≡ lengths_of_all shown xs
lengths_listed shown [] = refl
lengths_listed shown (x ∷ xs) = ap (λ ns. cut_lengths shown x ++ ns) (lengths_listed shown xs)

lengths_of_more : (shown : ℕ) (xs : List Datum) (x : Datum) → lengths_of_all shown (xs ++ x ∷ []) ≡ lengths_of_all shown xs ++ cut_lengths shown x
lengths_of_more shown [] x = append-nil (cut_lengths shown x)
lengths_of_more shown (y ∷ ys) x =
    ap (λ ns. cut_lengths shown y ++ ns) (lengths_of_more shown ys x)
    ∙ sym (append_assoc (cut_lengths shown y) (lengths_of_all shown ys) (cut_lengths shown x))

-- A finished value.

-- what is kept of it is put where it is
pub put_is_cut : (shown : ℕ) (x : Datum) (b : Construction) →
    with_value (cut shown x) (cut_construction shown b) ≡ cut_construction shown (with_value x b)
put_is_cut shown x b = case b.groups
  where
    case : (gs : List Group) → with_value_in (map (cut_group shown) gs) (cut shown x) (cut_construction shown b) ≡ cut_construction shown (with_value_in gs x b)
    case [] = refl
    case (g ∷ gs) =
        ap (λ ms. let c : Construction = record (cut_construction shown b) { groups = record { kind = g.kind; members = ms } ∷ map (cut_group shown) gs } in c)
        (sym (map-append (cut shown) g.members (x ∷ [])))

-- it leaves the text
pub put_leaves_text : (x : Datum) (b : Construction) → (with_value x b).text ≡ b.text
put_leaves_text x b = case b.groups
  where
    case : (gs : List Group) → (with_value_in gs x b).text ≡ b.text
    case [] = refl
    case (g ∷ gs) = refl

-- its lengths come last
put_in_lengths : (shown : ℕ) (gs : List Group) (text : Option Text) (x : Datum) →
    lengths_of shown (with_value_in gs x (record { groups = gs; text = text; whole = None })) ≡
    lengths_of shown (record { groups = gs; text = text; whole = None }) ++ cut_lengths shown x
put_in_lengths shown [] text x = refl
put_in_lengths shown (g ∷ gs) text x =
    let before = lengths_of_groups shown gs in
    let members = lengths_of_all shown g.members in
    append-nil (before ++ lengths_of_all shown (g.members ++ x ∷ []))
    ∙ ap (λ ns. before ++ ns) (lengths_of_more shown g.members x)
    ∙ sym (append_assoc before members (cut_lengths shown x))
    ∙ ap (λ ns. ns ++ cut_lengths shown x) (sym (append-nil (before ++ members)))

pub put_lengths : (shown : ℕ) (x : Datum) (b : Construction) → b.whole ≡ None →
    lengths_of shown (with_value x b) ≡ lengths_of shown b ++ cut_lengths shown x
put_lengths shown x b unended =
    let P : Option Datum → Type 0 = λ w. lengths_of shown (with_value_in b.groups x (record { groups = b.groups; text = b.text; whole = w })) ≡
    lengths_of shown (record { groups = b.groups; text = b.text; whole = w }) ++ cut_lengths shown x in
    subst P (sym unended) (put_in_lengths shown b.groups b.text x)

-- Weights.

scalar_is_lighter : (shown : ℕ) (s : Scalar) → content_size (cut_scalar shown s) ≤ content_size s
scalar_is_lighter shown d.Null = omega arith
scalar_is_lighter shown (d.Bool b) = omega arith
scalar_is_lighter shown (d.Int i) = omega arith
scalar_is_lighter shown (d.Simple s) = omega (arith, length-take (suc shown) s)
scalar_is_lighter shown (d.Error s) = omega (arith, length-take (suc shown) s)
scalar_is_lighter shown (d.Double s) = omega arith
scalar_is_lighter shown (d.Bulk s) = omega (arith, length-take (suc shown) s)
scalar_is_lighter shown (d.BulkError s) = omega (arith, length-take (suc shown) s)
scalar_is_lighter shown (d.Verbatim format s) = omega (arith, length-take (suc shown) s)
scalar_is_lighter shown (d.Big negative digits) = omega arith

mutual
  cut_is_lighter : (shown : ℕ) (x : Datum) → weight (cut shown x) ≤ weight x
  cut_is_lighter shown (scalar s) = omega (arith, scalar_is_lighter shown s)
  cut_is_lighter shown (aggregate k xs) = omega (arith, each_is_lighter shown xs)

  each_is_lighter : (shown : ℕ) (xs : Data) → weight_of_each (cut_each shown xs) ≤ weight_of_each xs
  each_is_lighter shown d.none = omega arith
  each_is_lighter shown (d.more x xs) = omega (arith, cut_is_lighter shown x, each_is_lighter shown xs)

all_are_lighter : (shown : ℕ) (xs : List Datum) → weight_of_all (map (cut shown) xs) ≤ weight_of_all xs
all_are_lighter shown [] = omega arith
all_are_lighter shown (x ∷ xs) = omega (arith, cut_is_lighter shown x, all_are_lighter shown xs)

groups_are_lighter : (shown : ℕ) (gs : List Group) → weight_of_groups (map (cut_group shown) gs) ≤ weight_of_groups gs
groups_are_lighter shown [] = omega arith
groups_are_lighter shown (g ∷ gs) = omega (arith, all_are_lighter shown g.members, groups_are_lighter shown gs)

text_is_lighter : (shown : ℕ) (text : Option Text) → weight_of_text (cut_text shown text) ≤ weight_of_text text
text_is_lighter shown None = omega arith
text_is_lighter shown (Some t) = omega (arith, kept_shorter shown t.kind t.content)

whole_is_lighter : (shown : ℕ) (whole : Option Datum) → weight_of_whole (cut_whole shown whole) ≤ weight_of_whole whole
whole_is_lighter shown None = omega arith
whole_is_lighter shown (Some x) = cut_is_lighter shown x

-- what is kept weighs no more
pub kept_is_lighter : (shown : ℕ) (b : Construction) → weight_of (cut_construction shown b) ≤ weight_of b
kept_is_lighter shown b = omega (arith, groups_are_lighter shown b.groups, text_is_lighter shown b.text, whole_is_lighter shown b.whole)

-- Events.

-- no event inside the content of a text
abbrev pub IsNoByte : Event → Type 0
IsNoByte (e.Byte byte) = ⊥
IsNoByte _ = Unit {0}

begins_kept : (shown : ℕ) (b : Construction) → MayBegin b → MayBegin (cut_construction shown b)
begins_kept shown b may = (ap (cut_text shown) may.0, ap (cut_whole shown) may.1)

in_text_kept : (shown : ℕ) (text : Option Text) → IsInText text → IsInText (cut_text shown text)
in_text_kept shown None h = h
in_text_kept shown (Some t) h = h

end_kept : (shown : ℕ) (text : Option Text) → MayEndText text → MayEndText (cut_text shown text)
end_kept shown None h = h
end_kept shown (Some t) h = content_is_kept shown t.kind t.content h

close_kept : (shown : ℕ) (gs : List Group) → MayClose gs → MayClose (map (cut_group shown) gs)
close_kept shown [] h = h
close_kept shown (g ∷ gs) h = subst (IsMemberCount g.kind) (sym (length-map g.members (cut shown))) h

-- an event that may come may come after what is kept
pub may_come_kept : (shown : ℕ) (event : Event) (b : Construction) → MayCome event b → MayCome event (cut_construction shown b)
may_come_kept shown e.Null b may = begins_kept shown b may
may_come_kept shown (e.Bool truth) b may = begins_kept shown b may
may_come_kept shown (e.Int number) b may = begins_kept shown b may
may_come_kept shown (e.Text kind) b may = begins_kept shown b may
may_come_kept shown (e.Byte byte) b may = (in_text_kept shown b.text may.0, ap (cut_whole shown) may.1)
may_come_kept shown e.TextEnd b may = (end_kept shown b.text may.0, ap (cut_whole shown) may.1)
may_come_kept shown (e.Open kind members) b may = begins_kept shown b may
may_come_kept shown e.Close b may = (begins_kept shown b may.0, close_kept shown b.groups may.1)
may_come_kept shown e.Done b may = tt

ended_kept : (shown : ℕ) (text : Option Text) (b : Construction) →
    with_text_ended (cut_text shown text) (cut_construction shown b) ≡ cut_construction shown (with_text_ended text b)
ended_kept shown None b = refl
ended_kept shown (Some t) b =
    ap (λ x. with_value x (cut_construction shown (record b { text = None }))) (sym (text_is_cut shown t.kind t.content))
    ∙ put_is_cut shown (text_value t.kind t.content) (record b { text = None })

closed_kept : (shown : ℕ) (gs : List Group) (b : Construction) →
    with_group_closed (map (cut_group shown) gs) (cut_construction shown b) ≡ cut_construction shown (with_group_closed gs b)
closed_kept shown [] b = refl
closed_kept shown (g ∷ gs) b =
    ap (λ xs. with_value (aggregate g.kind xs) (cut_construction shown (record b { groups = gs }))) (sym (cut_listed shown g.members))
    ∙ put_is_cut shown (aggregate g.kind (data_of_list g.members)) (record b { groups = gs })

-- its effect on what is kept is what is kept of its effect
pub event_kept : (shown : ℕ) (event : Event) (b : Construction) → IsNoByte event →
    with_event event (cut_construction shown b) ≡ cut_construction shown (with_event event b)
event_kept shown e.Null b h = put_is_cut shown (scalar d.Null) b
event_kept shown (e.Bool truth) b h = put_is_cut shown (scalar (d.Bool truth)) b
event_kept shown (e.Int number) b h = put_is_cut shown (scalar (d.Int number)) b
event_kept shown (e.Text kind) b h =
    ap (λ s. let c : Construction = record (cut_construction shown b) { text = Some (record { kind = kind; content = s }) } in c)
    (sym (kept_nothing shown kind))
event_kept shown (e.Byte byte) b h = absurd h
event_kept shown e.TextEnd b h = ended_kept shown b.text b
event_kept shown (e.Open kind members) b h = refl
event_kept shown e.Close b h = closed_kept shown b.groups b
event_kept shown e.Done b h = refl

-- no event of a text
abbrev pub IsNoText : Event → Type 0
IsNoText (e.Text kind) = ⊥
IsNoText (e.Byte byte) = ⊥
IsNoText e.TextEnd = ⊥
IsNoText _ = Unit {0}

pub no_byte : (event : Event) → IsNoText event → IsNoByte event
no_byte e.Null h = tt
no_byte (e.Bool truth) h = tt
no_byte (e.Int number) h = tt
no_byte (e.Text kind) h = tt
no_byte (e.Byte byte) h = h
no_byte e.TextEnd h = tt
no_byte (e.Open kind members) h = tt
no_byte e.Close h = tt
no_byte e.Done h = tt

closed_lengths : (shown : ℕ) (gs : List Group) (text : Option Text) →
    lengths_of shown (with_group_closed gs (record { groups = gs; text = text; whole = None })) ≡
    lengths_of shown (record { groups = gs; text = text; whole = None })
closed_lengths shown [] text = refl
closed_lengths shown (g ∷ gs) text =
    put_lengths shown (aggregate g.kind (data_of_list g.members)) (record { groups = gs; text = text; whole = None }) refl
    ∙ ap (λ ns. (lengths_of_groups shown gs ++ []) ++ ns) (lengths_listed shown g.members)
    ∙ ap (λ ns. ns ++ lengths_of_all shown g.members) (append-nil (lengths_of_groups shown gs))
    ∙ sym (append-nil (lengths_of_groups shown gs ++ lengths_of_all shown g.members))

-- such an event leaves the lengths
pub same_lengths : (shown : ℕ) (event : Event) (b : Construction) → IsNoText event → MayCome event b →
    lengths_of shown (with_event event b) ≡ lengths_of shown b
same_lengths shown e.Null b h may = put_lengths shown (scalar d.Null) b may.1 ∙ append-nil (lengths_of shown b)
same_lengths shown (e.Bool truth) b h may = put_lengths shown (scalar (d.Bool truth)) b may.1 ∙ append-nil (lengths_of shown b)
same_lengths shown (e.Int number) b h may = put_lengths shown (scalar (d.Int number)) b may.1 ∙ append-nil (lengths_of shown b)
same_lengths shown (e.Text kind) b h may = absurd h
same_lengths shown (e.Byte byte) b h may = absurd h
same_lengths shown e.TextEnd b h may = absurd h
same_lengths shown (e.Open kind members) b h may = ap (λ ns. ns ++ lengths_of_whole shown b.whole) (append-nil (lengths_of_groups shown b.groups))
same_lengths shown e.Close b h may =
    let P : Option Datum → Type 0 = λ w. lengths_of shown (with_group_closed b.groups (record { groups = b.groups; text = b.text; whole = w })) ≡
    lengths_of shown (record { groups = b.groups; text = b.text; whole = w }) in
    subst P (sym may.0.1) (closed_lengths shown b.groups b.text)
same_lengths shown e.Done b h may = refl

closed_text : (gs : List Group) (b : Construction) → (with_group_closed gs b).text ≡ b.text
closed_text [] b = refl
closed_text (g ∷ gs) b = put_leaves_text (aggregate g.kind (data_of_list g.members)) (record b { groups = gs })

-- and it leaves the text
pub same_text : (event : Event) (b : Construction) → IsNoText event → (with_event event b).text ≡ b.text
same_text e.Null b h = put_leaves_text (scalar d.Null) b
same_text (e.Bool truth) b h = put_leaves_text (scalar (d.Bool truth)) b
same_text (e.Int number) b h = put_leaves_text (scalar (d.Int number)) b
same_text (e.Text kind) b h = absurd h
same_text (e.Byte byte) b h = absurd h
same_text e.TextEnd b h = absurd h
same_text (e.Open kind members) b h = refl
same_text e.Close b h = closed_text b.groups b
same_text e.Done b h = refl

-- Content.

-- content may come in a text
pub content_may_come : (s : List ℕ) (text : Option Text) (b : Construction) → IsInText text → b.whole ≡ None →
    MayAllCome (content_events s) (record b { text = text })
content_may_come [] text b h unended = tt
content_may_come (c ∷ s) None b h unended = absurd h
content_may_come (c ∷ s) (Some t) b h unended = ((tt, unended), content_may_come s (with_byte (Some t) c) b tt unended)

-- content that may come is in a text
pub content_is_in_text : (part : List ℕ) (b : Construction) → 0 < length part → MayAllCome (content_events part) b → IsInText b.text × (b.whole ≡ None)
content_is_in_text [] b full may = absurd (omega arith)
content_is_in_text (c ∷ part) b full may = may.0

-- events that may come, and more after them
pub all_may_come : (xs ys : List Event) (b : Construction) → MayAllCome xs b → MayAllCome ys (with_events xs b) → MayAllCome (xs ++ ys) b
all_may_come [] ys b first later = later
all_may_come (x ∷ xs) ys b first later = (first.0, all_may_come xs ys (with_event x b) first.1 later)
