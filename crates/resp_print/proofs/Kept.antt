-- What is kept of a value, part by part.
use Rattle.std.proofs.Common.{◌≡◌, inl, inr, ℕ, suc, ◌+◌, Bool, true, false, Option, Result, Ok, Err, List, [], ◌∷◌, ◌++◌, length, take, refl, sym, ap, ◌∙◌, append_assoc, arith}
use Rattle.std.specs.Prelude.{IsOk, OnOk}
use Rattle.std.specs.Result.{IsErr}
use Rattle.std.proofs.lemmas.List.{append-nil, take-take}
use Rattle.resp_value.specs.Data.{Kind, Scalar, Datum, Data, scalar, aggregate, none, more, data_of_list, count}
use Rattle.resp_value.specs.Data as d
use Rattle.resp_value.specs.Cuts.{cut, cut_each, cut_lengths, cut_scalar, kept_part, lengths_of_each, longer, scalar_lengths}
use Rattle.resp_value.proofs.Cutting.{longer-none}
use Rattle.resp_print.specs.Kept.{MembersFor, ScalarFor, TextFor, ValueFor}
use Rattle.resp_print.specs.Shown.{shown_part}

-- a fact that holds where a call returns Ok
pub when_ok : {A E : Type 0} (r : Result A E) (P : Type 0) → P → OnOk r P
when_ok (Ok x) P p = p
when_ok (Err e) P p = tt

pub when_err : {A E : Type 0} (r : Result A E) (P : Type 0) → IsErr r → OnOk r P
when_err (Ok x) P wrong = absurd (cc)
when_err (Err e) P wrong = tt

-- a fact that holds where one call returns Ok, and so where another does
pub ok_carried : {A B D E : Type 0} (r : Result A E) (w : Result B D) (P : Type 0) → (IsOk r → IsOk w) → OnOk w P → OnOk r P
ok_carried (Ok x) (Ok y) P only p = p
ok_carried (Ok x) (Err y) P only p = absurd (apart (only refl))
  where
    apart : ◌≡◌ {A = Bool} false true → ⊥
    apart e = cc
ok_carried (Err x) w P only p = tt

-- Texts.

-- as many bytes of a text are printed of what is kept
pub same_front : (most : Option ℕ) (lengths text whole rest : List ℕ) → TextFor most lengths text whole rest → shown_part most text ≡ shown_part most whole
same_front most lengths text whole rest (inl (a, b, same)) = ap (shown_part most) same
same_front most lengths text whole rest (inr (shown, is, same, ls)) =
    ap (λ m. shown_part m text) is
    ∙ ap (take shown) same
    ∙ take-take shown (suc shown) whole (omega arith)
    ∙ sym (ap (λ m. shown_part m whole) is)

-- Values without members.

-- the text of a value, and the value with another text
abbrev pub text_of : Scalar → List ℕ
text_of d.Null = []
text_of (d.Bool b) = []
text_of (d.Int i) = []
text_of (d.Simple text) = text
text_of (d.Error text) = text
text_of (d.Double text) = []
text_of (d.Bulk text) = text
text_of (d.BulkError text) = text
text_of (d.Verbatim format text) = text
text_of (d.Big negative digits) = []

abbrev pub with_text : Scalar → List ℕ → Scalar
with_text d.Null w = d.Null
with_text (d.Bool b) w = d.Bool b
with_text (d.Int i) w = d.Int i
with_text (d.Simple text) w = d.Simple w
with_text (d.Error text) w = d.Error w
with_text (d.Double text) w = d.Double text
with_text (d.Bulk text) w = d.Bulk w
with_text (d.BulkError text) w = d.BulkError w
with_text (d.Verbatim format text) w = d.Verbatim format w
with_text (d.Big negative digits) w = d.Big negative digits

own_text : (s : Scalar) → with_text s (text_of s) ≡ s
own_text d.Null = refl
own_text (d.Bool b) = refl
own_text (d.Int i) = refl
own_text (d.Simple text) = refl
own_text (d.Error text) = refl
own_text (d.Double text) = refl
own_text (d.Bulk text) = refl
own_text (d.BulkError text) = refl
own_text (d.Verbatim format text) = refl
own_text (d.Big negative digits) = refl

text_restored : (shown : ℕ) (s : Scalar) → with_text (cut_scalar shown s) (text_of s) ≡ s
text_restored shown d.Null = refl
text_restored shown (d.Bool b) = refl
text_restored shown (d.Int i) = refl
text_restored shown (d.Simple text) = refl
text_restored shown (d.Error text) = refl
text_restored shown (d.Double text) = refl
text_restored shown (d.Bulk text) = refl
text_restored shown (d.BulkError text) = refl
text_restored shown (d.Verbatim format text) = refl
text_restored shown (d.Big negative digits) = refl

text_cut : (shown : ℕ) (s : Scalar) → text_of (cut_scalar shown s) ≡ kept_part shown (text_of s)
text_cut shown d.Null = refl
text_cut shown (d.Bool b) = refl
text_cut shown (d.Int i) = refl
text_cut shown (d.Simple text) = refl
text_cut shown (d.Error text) = refl
text_cut shown (d.Double text) = refl
text_cut shown (d.Bulk text) = refl
text_cut shown (d.BulkError text) = refl
text_cut shown (d.Verbatim format text) = refl
text_cut shown (d.Big negative digits) = refl

text_lengths : (shown : ℕ) (s : Scalar) → scalar_lengths shown s ≡ longer shown (length (text_of s))
text_lengths shown d.Null = sym (longer-none shown 0 (omega arith))
text_lengths shown (d.Bool b) = sym (longer-none shown 0 (omega arith))
text_lengths shown (d.Int i) = sym (longer-none shown 0 (omega arith))
text_lengths shown (d.Simple text) = refl
text_lengths shown (d.Error text) = refl
text_lengths shown (d.Double text) = sym (longer-none shown 0 (omega arith))
text_lengths shown (d.Bulk text) = refl
text_lengths shown (d.BulkError text) = refl
text_lengths shown (d.Verbatim format text) = refl
text_lengths shown (d.Big negative digits) = sym (longer-none shown 0 (omega arith))

-- a double is kept whole
double_of_cut : (shown : ℕ) (whole : Scalar) (text : List ℕ) → d.Double text ≡ cut_scalar shown whole → whole ≡ d.Double text
double_of_cut shown (d.Double w) text e = sym e
double_of_cut shown d.Null text e = absurd (cc)
double_of_cut shown (d.Bool b) text e = absurd (cc)
double_of_cut shown (d.Int i) text e = absurd (cc)
double_of_cut shown (d.Simple w) text e = absurd (cc)
double_of_cut shown (d.Error w) text e = absurd (cc)
double_of_cut shown (d.Bulk w) text e = absurd (cc)
double_of_cut shown (d.BulkError w) text e = absurd (cc)
double_of_cut shown (d.Verbatim format w) text e = absurd (cc)
double_of_cut shown (d.Big negative digits) text e = absurd (cc)

-- so it stands for itself, and has none of the lengths
pub double_for : (most : Option ℕ) (lengths text : List ℕ) (whole : Scalar) (rest : List ℕ) → ScalarFor most lengths (d.Double text) whole rest →
    (whole ≡ d.Double text) × (lengths ≡ rest)
double_for most lengths text whole rest (inl (a, b, same)) = (sym same, a ∙ sym b)
double_for most lengths text whole rest (inr (shown, is, same, ls)) =
    let itself = double_of_cut shown whole text same in
    (itself, ls ∙ ap (λ s. scalar_lengths shown s ++ rest) itself)

-- what is kept of a value is its kind and what is kept of its text
pub text_for : (most : Option ℕ) (lengths : List ℕ) (s whole : Scalar) (rest : List ℕ) → ScalarFor most lengths s whole rest →
    (whole ≡ with_text s (text_of whole)) × TextFor most lengths (text_of s) (text_of whole) rest
text_for most lengths s whole rest (inl (a, b, same)) =
    (sym (own_text whole) ∙ ap (λ x. with_text x (text_of whole)) (sym same), inl (a, b, ap text_of same))
text_for most lengths s whole rest (inr (shown, is, same, ls)) = (
  sym (text_restored shown whole) ∙ ap (λ x. with_text x (text_of whole)) (sym same),
  inr (shown, is, ap text_of same ∙ text_cut shown whole, ls ∙ ap (λ ns. ns ++ rest) (text_lengths shown whole)),
)

-- an empty text has no length
pub no_text : (most : Option ℕ) (lengths rest : List ℕ) → TextFor most lengths [] [] rest → lengths ≡ rest
no_text most lengths rest (inl (a, b, same)) = a ∙ sym b
no_text most lengths rest (inr (shown, is, same, ls)) = ls ∙ ap (λ ns. ns ++ rest) (longer-none shown 0 (omega arith))

-- a value without members stands for one
pub scalar_for : (most : Option ℕ) (lengths : List ℕ) (s : Scalar) (x : Datum) (rest : List ℕ) → ValueFor most lengths (scalar s) x rest →
    (whole : Scalar) × (x ≡ scalar whole) × ScalarFor most lengths s whole rest
scalar_for most lengths s x rest (inl (a, b, same)) = (s, sym same, inl (a, b, refl))
scalar_for most lengths s x rest (inr (shown, is, same, ls)) = case x same ls
  where
    case : (y : Datum) → scalar s ≡ cut shown y → lengths ≡ cut_lengths shown y ++ rest →
        (whole : Scalar) × (y ≡ scalar whole) × ScalarFor most lengths s whole rest
    case (scalar w) e n = (w, refl, inr (shown, is, of_scalar e, n))
      where
        of_scalar : scalar s ≡ scalar (cut_scalar shown w) → s ≡ cut_scalar shown w
        of_scalar e' = cc
    case (aggregate k ys) e n = let wrong : scalar s ≡ aggregate k (cut_each shown ys) = e in absurd (cc)

-- Aggregates.

-- an aggregate stands for one of its kind
pub members_for : (most : Option ℕ) (lengths : List ℕ) (k : Kind) (ys : Data) (x : Datum) (rest : List ℕ) → ValueFor most lengths (aggregate k ys) x rest →
    (xs : Data) × (x ≡ aggregate k xs) × MembersFor most lengths ys xs rest
members_for most lengths k ys x rest (inl (a, b, same)) = (ys, sym same, inl (a, b, refl))
members_for most lengths k ys x rest (inr (shown, is, same, ls)) = case x same ls
  where
    case : (z : Datum) → aggregate k ys ≡ cut shown z → lengths ≡ cut_lengths shown z ++ rest →
        (xs : Data) × (z ≡ aggregate k xs) × MembersFor most lengths ys xs rest
    case (scalar w) e n = let wrong : aggregate k ys ≡ scalar (cut_scalar shown w) = e in absurd (cc)
    case (aggregate k' zs) e n = (zs, same_kind e, inr (shown, is, same_members e, n))
      where
        same_kind : aggregate k ys ≡ aggregate k' (cut_each shown zs) → aggregate k' zs ≡ aggregate k zs
        same_kind e' = let kinds : k ≡ k' = cc in ap (λ m. aggregate m zs) (sym kinds)

        same_members : aggregate k ys ≡ aggregate k' (cut_each shown zs) → ys ≡ cut_each shown zs
        same_members e' = cc

-- no members stand for none
pub none_for : (most : Option ℕ) (lengths : List ℕ) (xs : Data) (rest : List ℕ) → MembersFor most lengths none xs rest → (xs ≡ none) × (lengths ≡ rest)
none_for most lengths xs rest (inl (a, b, same)) = (sym same, a ∙ sym b)
none_for most lengths xs rest (inr (shown, is, same, ls)) = case xs same ls
  where
    case : (zs : Data) → none ≡ cut_each shown zs → lengths ≡ lengths_of_each shown zs ++ rest → (zs ≡ none) × (lengths ≡ rest)
    case none e n = (refl, n)
    case (more z zs) e n = let wrong : none ≡ more (cut shown z) (cut_each shown zs) = e in absurd (cc)

-- a member and others stand for one and others
pub record NextFor (most : Option ℕ) (lengths : List ℕ) (y : Datum) (ys : Data) (xs : Data) (rest : List ℕ) : Type 0 where
  pub first : Datum
  pub others : Data
  pub between : List ℕ
  pub whole : xs ≡ more first others
  pub first_for : ValueFor most lengths y first between
  pub others_for : MembersFor most between ys others rest

pub next_for : (most : Option ℕ) (lengths : List ℕ) (y : Datum) (ys : Data) (xs : Data) (rest : List ℕ) → MembersFor most lengths (more y ys) xs rest →
    NextFor most lengths y ys xs rest
next_for most lengths y ys xs rest (inl (a, b, same)) =
    record { first = y; others = ys; between = []; whole = sym same; first_for = inl (a, refl, refl); others_for = inl (refl, b, refl) }
next_for most lengths y ys xs rest (inr (shown, is, same, ls)) = case xs same ls
  where
    case : (zs : Data) → more y ys ≡ cut_each shown zs → lengths ≡ lengths_of_each shown zs ++ rest → NextFor most lengths y ys zs rest
    case none e n = let wrong : more y ys ≡ none = e in absurd (cc)
    case (more z zs) e n = record {
      first = z;
      others = zs;
      between = lengths_of_each shown zs ++ rest;
      whole = refl;
      first_for = inr (shown, is, same_first e, n ∙ append_assoc (cut_lengths shown z) (lengths_of_each shown zs) rest);
      others_for = inr (shown, is, same_others e, refl);
    }
      where
        same_first : more y ys ≡ more (cut shown z) (cut_each shown zs) → y ≡ cut shown z
        same_first e' = cc

        same_others : more y ys ≡ more (cut shown z) (cut_each shown zs) → ys ≡ cut_each shown zs
        same_others e' = cc

-- as many members
pub as_many : (most : Option ℕ) (lengths : List ℕ) (ys xs : Data) (rest : List ℕ) → MembersFor most lengths ys xs rest → count xs ≡ count ys
as_many most lengths none xs rest h = ap count (none_for most lengths xs rest h).0
as_many most lengths (more y ys) xs rest h =
    let n = next_for most lengths y ys xs rest h in
    ap count n.whole ∙ ap (λ m. m + 1) (as_many most n.between ys n.others rest n.others_for)

-- members and a last one stand for members and a last one
pub record LastFor (most : Option ℕ) (lengths : List ℕ) (ys : List Datum) (y : Datum) (xs : Data) (rest : List ℕ) : Type 0 where
  pub front : List Datum
  pub last : Datum
  pub between : List ℕ
  pub whole : xs ≡ data_of_list (front ++ last ∷ [])
  pub front_for : MembersFor most lengths (data_of_list ys) (data_of_list front) between
  pub last_for : ValueFor most between y last rest

-- what cut members and a last one are cut from
record CutLast (shown : ℕ) (ys : List Datum) (y : Datum) (xs : Data) : Type 0 where
  pub front : List Datum
  pub last : Datum
  pub whole : xs ≡ data_of_list (front ++ last ∷ [])
  pub cut_front : data_of_list ys ≡ cut_each shown (data_of_list front)
  pub cut_last : y ≡ cut shown last
  pub lengths : lengths_of_each shown xs ≡ lengths_of_each shown (data_of_list front) ++ cut_lengths shown last

same_head : {x z : Datum} {xs zs : Data} → more x xs ≡ more z zs → x ≡ z
same_head e = cc

same_tail : {x z : Datum} {xs zs : Data} → more x xs ≡ more z zs → xs ≡ zs
same_tail e = cc

cut_from : (shown : ℕ) (ys : List Datum) (y : Datum) (xs : Data) → data_of_list (ys ++ y ∷ []) ≡ cut_each shown xs → CutLast shown ys y xs
cut_from shown [] y none same = let wrong : more y none ≡ none = same in absurd (cc)
cut_from shown [] y (more x none) same = record {
  front = [];
  last = x;
  whole = refl;
  cut_front = refl;
  cut_last = same_head same;
  lengths = append-nil (cut_lengths shown x);
}
cut_from shown [] y (more x (more z zs)) same =
    let wrong : none ≡ more (cut shown z) (cut_each shown zs) = same_tail same in absurd (cc)
cut_from shown (u ∷ ys) y none same = let wrong : more u (data_of_list (ys ++ y ∷ [])) ≡ none = same in absurd (cc)
cut_from shown (u ∷ ys) y (more x xs) same =
    let l = cut_from shown ys y xs (same_tail same) in
    record {
      front = x ∷ l.front;
      last = l.last;
      whole = ap (more x) l.whole;
      cut_front = ap (λ z. more z (data_of_list ys)) (same_head same) ∙ ap (more (cut shown x)) l.cut_front;
      cut_last = l.cut_last;
      lengths = ap (λ ns. cut_lengths shown x ++ ns) l.lengths
          ∙ sym (append_assoc (cut_lengths shown x) (lengths_of_each shown (data_of_list l.front)) (cut_lengths shown l.last));
    }

pub last_for : (most : Option ℕ) (lengths : List ℕ) (ys : List Datum) (y : Datum) (xs : Data) (rest : List ℕ) →
    MembersFor most lengths (data_of_list (ys ++ y ∷ [])) xs rest → LastFor most lengths ys y xs rest
last_for most lengths ys y xs rest (inl (a, b, same)) = record {
  front = ys;
  last = y;
  between = [];
  whole = sym same;
  front_for = inl (a, refl, refl);
  last_for = inl (refl, b, refl);
}
last_for most lengths ys y xs rest (inr (shown, is, same, ls)) =
    let l = cut_from shown ys y xs same in
    let before = lengths_of_each shown (data_of_list l.front) in
    record {
      front = l.front;
      last = l.last;
      between = cut_lengths shown l.last ++ rest;
      whole = l.whole;
      front_for = inr (shown, is, l.cut_front, ls ∙ ap (λ ns. ns ++ rest) l.lengths ∙ append_assoc before (cut_lengths shown l.last) rest);
      last_for = inr (shown, is, l.cut_last, refl);
    }
