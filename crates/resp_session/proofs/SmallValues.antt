-- Small values, which no limits refuse.
use Rattle.std.proofs.Common.{ℕ, ◌+◌, ◌<◌, ◌≤◌, ◌^◌, Bool, true, false, cond, leb, List, [], ◌∷◌, ◌++◌, length, codes, refl, arith, length-append, ◌≡◌, pos}
use Rattle.std.proofs.lemmas.Bool.{leb-true}
use Rattle.std.proofs.lemmas.Int.{ints}
use Rattle.resp_value.specs.Bounds.{Bounds, AreBounds}
use Rattle.resp_value.specs.Bytes.{IsText, IsLine, crlf}
use Rattle.resp_value.specs.Canonical.{canonical_text, IsScalarValue, IsValue, AreValues, IsInTwo, AreInTwo, HasTypes, HasNoDouble, HaveNoDouble, HaveNoPush, HasPushAtTop, Fits}
use Rattle.resp_value.specs.Data as d
use Rattle.resp_value.specs.Data.{Datum, Data, Scalar, scalar, Array, aggregate, none, more, data_of_list, in_turn, depth, longest, most_items}
use Rattle.resp_value.specs.Numbers.{decimal}
use Rattle.resp_value.specs.Rules.{rules_under}
use Rattle.resp_value.specs.declared.version.Version.{Version}
use Rattle.resp_value.specs.declared.version.Version.TheVariants.{Two, Three}
use Rattle.resp_session.specs.Fitting.{NumbersAreShort}
use Rattle.resp_session.specs.Replies.{simple_string, error, bulk_string, natural, null, version_number, hello_pairs, hello_reply}
use Rattle.resp_session.proofs.DigitCounts.{length-decimal}

-- a value that every limits leave, in this version
pub record IsSmall (version : Version) (x : Datum) : Type 0 where
  pub value : IsValue x
  pub no_double : HasNoDouble x
  pub has_types : HasTypes version x
  pub push_at_top : HasPushAtTop x
  pub depth_at_most : depth x ≤ 4
  pub length_at_most : longest x ≤ 64
  pub items_at_most : most_items x ≤ 16
  pub total_at_most : length (canonical_text version x) ≤ 256

-- a value that is so small fits in this version, whatever the limits
pub least_fits : (limits : Bounds) → AreBounds limits → (version : Version) (x : Datum) → HasNoDouble x → HasTypes version x → HasPushAtTop x →
    depth x ≤ 4 → longest x ≤ 64 → most_items x ≤ 16 → length (canonical_text version x) ≤ 256 → Fits (rules_under version limits) x
least_fits limits bounds version x single types top deep long many size = record {
  allows_doubles = λ off. single;
  has_types = types;
  push_at_top = top;
  within_depth = let least = bounds.depth_in_range.0 in omega (arith, least, deep);
  within_length = let least = bounds.length_in_range.0 in omega (arith, least, long);
  within_items = let least = bounds.items_in_range.0 in omega (arith, least, many);
  within_total = let least = bounds.total_in_range.0 in omega (arith, least, size);
}

pub small_fits : (limits : Bounds) → AreBounds limits → (version : Version) (x : Datum) → IsSmall version x → Fits (rules_under version limits) x
small_fits limits bounds version x s =
    least_fits limits bounds version x s.no_double s.has_types s.push_at_top s.depth_at_most s.length_at_most s.items_at_most s.total_at_most

-- each version has the types of version 2
pub in_each : (version : Version) (x : Datum) → IsInTwo x → HasTypes version x
in_each Two x h = h
in_each Three x h = tt

-- a line of bytes that is as long as any limits leave
abbrev pub IsShortLine : List ℕ → Type 0
IsShortLine text = IsLine text × IsText text × (length text ≤ 64)

-- whether each of these is a byte above CR
abbrev are_plain : List ℕ → Bool
are_plain [] = true
are_plain (b ∷ bs) = cond (leb 14 b) (cond (leb b 255) (are_plain bs) false) false

first_passes : (a b : Bool) → cond a b false ≡ true → (a ≡ true) × (b ≡ true)
first_passes true true e = (refl, refl)
first_passes true false e = absurd (cc)
first_passes false b e = absurd (cc)

plain_line : (text : List ℕ) → are_plain text ≡ true → IsLine text × IsText text
plain_line [] e = (tt, tt)
plain_line (b ∷ bs) e =
    let (above, rest) = first_passes (leb 14 b) (cond (leb b 255) (are_plain bs) false) e in
    let (byte, others) = first_passes (leb b 255) (are_plain bs) rest in
    let least = leb-true 14 b above in
    let most = leb-true b 255 byte in
    let (line, text) = plain_line bs others in
    (((λ same. omega (arith, least, same), λ same. omega (arith, least, same)), line), (omega (arith, most), text))

-- a text of plain bytes, by computing
pub short_by_test : (text : List ℕ) → are_plain text ≡ true → length text ≤ 64 → IsShortLine text
short_by_test text e short = let (line, bytes) = plain_line text e in (line, bytes, short)

bytes_of : (text : List ℕ) → are_plain text ≡ true → IsText text
bytes_of text e = (plain_line text e).1

-- a scalar without a double, which version 2 has
small_scalar : (version : Version) (x : Scalar) → IsScalarValue x → HasNoDouble (scalar x) → IsInTwo (scalar x) → longest (scalar x) ≤ 64 →
    length (canonical_text version (scalar x)) ≤ 256 → IsSmall version (scalar x)
small_scalar version x value single two long size = record {
  value = value;
  no_double = single;
  has_types = in_each version (scalar x) two;
  push_at_top = tt;
  depth_at_most = omega arith;
  length_at_most = long;
  items_at_most = omega arith;
  total_at_most = size;
}

pub small_simple : (version : Version) (text : List ℕ) → IsShortLine text → IsSmall version (simple_string text)
small_simple version text (line, bytes, short) =
    small_scalar version (d.Simple text) (line, bytes) tt tt short (omega (arith, short, length-append text (crlf [])))

pub small_error : (version : Version) (text : List ℕ) → IsShortLine text → IsSmall version (error text)
small_error version text (line, bytes, short) =
    small_scalar version (d.Error text) (line, bytes) tt tt short (omega (arith, short, length-append text (crlf [])))

null_text : (version : Version) → length (canonical_text version null) ≤ 256
null_text Two = omega arith
null_text Three = omega arith

pub small_null : (version : Version) → IsSmall version null
small_null version = small_scalar version d.Null tt tt tt (omega arith) (null_text version)

-- a number of 63 bits has at most 19 digits
pub length-decimal-63 : (n : ℕ) → n < 2 ^ 63 → length (decimal n) ≤ 19
length-decimal-63 n h = length-decimal 19 n (omega arith) (omega (arith, h))

pub numbers_are_short : NumbersAreShort
numbers_are_short version n h = omega (arith, length-decimal-63 n h, length-append (decimal n) (crlf []))

pub small_natural : (version : Version) (n : ℕ) → n < 2 ^ 63 → IsSmall version (natural n)
small_natural version n h =
    small_scalar version (d.Int (pos n)) (omega (arith, ints), omega (arith, ints, h)) tt tt (omega arith) (omega (arith, numbers_are_short version n h))

-- the members of HELLO's reply
abbrev hello_members : Version → ℕ → Data
hello_members version id = data_of_list (in_turn (hello_pairs version id))

version_small : (version : Version) → version_number version < 2 ^ 63
version_small Two = omega arith
version_small Three = omega arith

hello_values : (version : Version) (id : ℕ) → id < 2 ^ 63 → AreValues (hello_members version id)
hello_values version id h =
    let number = (small_natural Two (version_number version) (version_small version)).value in
    let own = (small_natural Two id h).value in
    let last : AreValues (data_of_list (bulk_string (codes "modules") ∷ aggregate Array none ∷ [])) =
    (bytes_of (codes "modules") refl, ((tt, tt), tt)) in
    let role : AreValues (more (bulk_string (codes "role")) (more (bulk_string (codes "master"))
    (data_of_list (bulk_string (codes "modules") ∷ aggregate Array none ∷ [])))) =
    (bytes_of (codes "role") refl, (bytes_of (codes "master") refl, last)) in (
      bytes_of (codes "server") refl,
      (
        bytes_of (codes "resp_loop") refl,
        (
          bytes_of (codes "version") refl,
          (
            bytes_of (codes "1.0.0") refl,
            (
              bytes_of (codes "proto") refl,
              (
                number,
                (
                  bytes_of (codes "id") refl,
                  (own, (bytes_of (codes "mode") refl, (bytes_of (codes "standalone") refl, role))),
                ),
              ),
            ),
          ),
        ),
      ),
    )

-- none of the members is a double or a push, and version 2 has the type of each
hello_no_double : (version : Version) (id : ℕ) → HaveNoDouble (hello_members version id)
hello_no_double version id = (tt, (tt, (tt, (tt, (tt, (tt, (tt, (tt, (tt, (tt, (tt, (tt, (tt, (tt, tt))))))))))))))

hello_no_push : (version : Version) (id : ℕ) → HaveNoPush (hello_members version id)
hello_no_push version id = (tt, (tt, (tt, (tt, (tt, (tt, (tt, (tt, (tt, (tt, (tt, (tt, (tt, ((tt, tt), tt))))))))))))))

hello_in_two : (version : Version) (id : ℕ) → AreInTwo (hello_members version id)
hello_in_two version id = (tt, (tt, (tt, (tt, (tt, (tt, (tt, (tt, (tt, (tt, (tt, (tt, (tt, ((tt, tt), tt))))))))))))))

-- what stands after the session's number
abbrev after_id : List ℕ
after_id = codes "$4\r\nmode\r\n$10\r\nstandalone\r\n$4\r\nrole\r\n$6\r\nmaster\r\n$7\r\nmodules\r\n*0\r\n"

id_and_after : (digits : List ℕ) → length (((digits ++ crlf []) ++ after_id) ++ []) ≡ length digits + 68
id_and_after digits =
    let all = length-append ((digits ++ crlf []) ++ after_id) [] in
    let both = length-append (digits ++ crlf []) after_id in
    let line = length-append digits (crlf []) in
    omega (arith, all, both, line)

hello_text : (version : Version) (id : ℕ) → length (canonical_text version (hello_reply version id)) ≤ length (decimal id) + 148
hello_text Two id = let h = id_and_after (decimal id) in omega (arith, h)
hello_text Three id = let h = id_and_after (decimal id) in omega (arith, h)

pub small_hello : (version : Version) (id : ℕ) → id < 2 ^ 63 → IsSmall version (hello_reply version id)
small_hello Two id h = record {
  value = (tt, hello_values Two id h);
  no_double = hello_no_double Two id;
  has_types = (tt, hello_in_two Two id);
  push_at_top = hello_no_push Two id;
  depth_at_most = leb-true (depth (hello_reply Two id)) 4 refl;
  length_at_most = leb-true (longest (hello_reply Two id)) 64 refl;
  items_at_most = leb-true (most_items (hello_reply Two id)) 16 refl;
  total_at_most = omega (arith, hello_text Two id, length-decimal-63 id h);
}
small_hello Three id h = record {
  value = (refl, hello_values Three id h);
  no_double = hello_no_double Three id;
  has_types = tt;
  push_at_top = hello_no_push Three id;
  depth_at_most = leb-true (depth (hello_reply Three id)) 4 refl;
  length_at_most = leb-true (longest (hello_reply Three id)) 64 refl;
  items_at_most = leb-true (most_items (hello_reply Three id)) 16 refl;
  total_at_most = omega (arith, hello_text Three id, length-decimal-63 id h);
}
