-- The events of a tree come in order, each may come, and at each byte they add no more to the weight than bytes have come.
use Rattle.std.proofs.Common.{◌≡◌, ℕ, ◌+◌, ◌-◌, ◌<◌, ◌≤◌, Bool, true, false, cond, eqb, ltb, None, List, [], ◌∷◌, ◌++◌, length, refl, sym, ap, subst, ◌∙◌, append_assoc, length-append, arith}
use Rattle.std.proofs.lemmas.List.{append-nil}
use Rattle.std.proofs.lemmas.Bool.{ltb-true, ltb-false}
use Rattle.resp_value.specs.Bytes.{crlf}
use Rattle.resp_value.specs.Numbers.{Sign, IsDigits, IsKept, is_minus, is_below_zero, sign_text, significant_digits, zero_if_none}
use Rattle.resp_value.specs.Data.{Kind, Datum, Data, scalar, aggregate, data_of_list, Array, Set, Map, Attr, Push, members_of}
use Rattle.resp_value.specs.Data as d
use Rattle.resp_value.specs.Trees as t
use Rattle.resp_value.specs.Trees.{Tree, Trees, leaf, node, none, more, Leaf, line, numeral, null, truth, string, chunked, Chunk, chunks_text, joined_content, Form, Counted, Streamed, HasMembers, close, form_line, kind_byte, leaf_text, payload, string_byte, text, texts, count, IsTree, AreTrees, IsLeaf}
use Rattle.resp_value.specs.TreeValues.{value, leaf_value}
use Rattle.resp_value.proofs.KeptDigits.{are_kept}
use Rattle.resp_fronts.specs.Events.{Event, Timed, TextKind, bytes_from, text_events, last_of, big_events, chunk_events, leaf_events, events, events_each, open_event, close_event, without_places, events_due}
use Rattle.resp_fronts.specs.Events as e
use Rattle.resp_decode.specs.Builds.{Construction, nothing, with_value, scalar_of, with_event}
use Rattle.resp_decode.specs.Weights.{format_weight}
use Rattle.resp_decode.specs.Fits.{IsContentOf, IsMemberCount, MayBegin, MayCome, MayAllCome, event_weight, events_weight, end_weight}
use Rattle.resp_decode.proofs.Folds.{in_group, in_text, value_list, values_listed, without_text}

-- from a weight on, events come at no byte before the last one's, each may come, and each leaves no more weight than bytes
abbrev pub Come : ℕ → ℕ → List Timed → Construction → Type 0
Come last weight [] b = Unit {0}
Come last weight (x ∷ xs) b = (last ≤ x.at) × (weight + event_weight x.event b ≤ x.at + 1) × MayCome x.event b ×
    Come x.at (weight + event_weight x.event b) xs (with_event x.event b)

-- after these bytes they go on, whatever came last and whatever the weight
abbrev pub GoOn : ℕ → List Timed → Construction → Type 0
GoOn bytes xs b = (last weight : ℕ) → last < bytes → weight ≤ bytes → Come last weight xs b

-- no event is due whose byte hasn't come
none_due : (n last weight : ℕ) (xs : List Timed) (b : Construction) → n ≤ last → Come last weight xs b → events_due n xs ≡ []
none_due n last weight [] b h c = refl
none_due n last weight (x ∷ xs) b h c = case (ltb x.at n) refl (none_due n x.at (weight + event_weight x.event b) xs (with_event x.event b) (omega (arith, c.0))
    c.3)
  where
    case : (early : Bool) → ltb x.at n ≡ early → events_due n xs ≡ [] → cond early (x.event ∷ events_due n xs) (events_due n xs) ≡ []
    case true is others = let early : x.at < n = ltb-true x.at n is in absurd (omega (arith, c.0))
    case false is others = others

-- events that come so: those due of the first bytes may come, and add no more than there are bytes
pub record AreLight (n weight : ℕ) (es : List Event) (b : Construction) : Type 0 where
  pub may : MayAllCome es b
  pub light : weight + events_weight es b ≤ n

pub due_light : (n last weight : ℕ) (xs : List Timed) (b : Construction) → weight ≤ n → Come last weight xs b → AreLight n weight (events_due n xs) b
due_light n last weight [] b h c = record { may = tt; light = omega arith }
due_light n last weight (x ∷ xs) b h c = case (ltb x.at n) refl (λ light. due_light n x.at (weight + event_weight x.event b) xs (with_event x.event b) light
    c.3)
  where
    case : (early : Bool) → ltb x.at n ≡ early → (weight + event_weight x.event b ≤ n →
        AreLight n (weight + event_weight x.event b) (events_due n xs) (with_event x.event b)) →
        AreLight n weight (cond early (x.event ∷ events_due n xs) (events_due n xs)) b
    case true is later =
        let early : x.at < n = ltb-true x.at n is in
        let others = later (omega (arith, c.1)) in
        record { may = (c.2, others.may); light = omega (arith, others.light) }
    case false is later =
        let late : n ≤ x.at = ltb-false x.at n is in
        subst (λ es. AreLight n weight es b) (sym (none_due n x.at (weight + event_weight x.event b) xs (with_event x.event b) late c.3))
        (record { may = tt; light = omega arith })

-- the first of them are so too
pub first_come : (es owed : List Event) (b : Construction) → MayAllCome (es ++ owed) b → MayAllCome es b
first_come [] owed b c = tt
first_come (x ∷ es) owed b c = (c.0, first_come es owed (with_event x b) c.1)

pub first_add : (es owed : List Event) (b : Construction) → events_weight es b ≤ events_weight (es ++ owed) b
first_add [] owed b = omega arith
first_add (x ∷ es) owed b = omega (arith, first_add es owed (with_event x b))

-- Leaves.

-- events side by side, one list after another
beyond : (a c : List Timed) (xs : List Timed) (last weight : ℕ) (b : Construction) → Come last weight (a ++ (c ++ xs)) b → Come last weight ((a ++ c) ++ xs) b
beyond a c xs last weight b h = subst (λ z. Come last weight z b) (sym (append_assoc a c xs)) h

-- content comes, of which each byte leaves at least this much room
pub content_comes : (from to room : ℕ) (kind : TextKind) (so_far s : List ℕ) (b : Construction) (last weight : ℕ) (xs : List Timed) → last ≤ from →
    weight + room ≤ from → b.whole ≡ None → from + length s ≤ to → ((l v : ℕ) → l ≤ to → v + room ≤ to → Come l v xs (in_text kind (so_far ++ s) b)) →
    Come last weight (bytes_from from s ++ xs) (in_text kind so_far b)
content_comes from to room kind so_far [] b last weight xs h light unended fits k =
    subst (λ z. Come last weight xs (in_text kind z b)) (append-nil so_far) (k last weight (omega arith) (omega arith))
content_comes from to room kind so_far (c ∷ s) b last weight xs h light unended fits k = (
  h,
  omega arith,
  (tt, unended),
  content_comes (from + 1) to room kind (so_far ++ c ∷ []) s b from (weight + 1) xs (omega arith) (omega arith) unended (omega arith)
      (λ l v p q. subst (λ z. Come l v xs (in_text kind z b)) (sym (append_assoc so_far (c ∷ []) s)) (k l v p q)),
)

-- a text ends
end_comes : (kind : TextKind) (s : List ℕ) (ends to : ℕ) (b : Construction) (last weight : ℕ) (xs : List Timed) → last ≤ ends →
    weight + end_weight kind s ≤ ends + 1 → IsContentOf kind s → MayBegin b → ends + 1 ≤ to → GoOn to xs (with_value (scalar (scalar_of kind s)) b) →
    Come last weight (record { at = ends; event = e.TextEnd } ∷ xs) (in_text kind s b)
end_comes kind s ends to b last weight xs h light whole begins room k = (
  h,
  light,
  (whole, begins.1),
  subst (λ z. Come ends (weight + end_weight kind s) xs (with_value (scalar (scalar_of kind s)) z)) (sym (without_text b begins.0))
      (k ends (weight + end_weight kind s) (omega arith) (omega arith)),
)

-- a text comes, whose content stands before its end
pub text_comes : (kind : TextKind) (begins from room : ℕ) (s : List ℕ) (ends to : ℕ) (b : Construction) (last weight : ℕ) (xs : List Timed) → last ≤ begins →
    begins ≤ from → weight + format_weight kind ≤ begins + 1 → weight + format_weight kind + room ≤ from →
    from + length s + end_weight kind s ≤ ends + 1 + room → from + length s ≤ ends → ends + 1 ≤ to → IsContentOf kind s → MayBegin b →
    GoOn to xs (with_value (scalar (scalar_of kind s)) b) → Come last weight (text_events kind begins from s ends ++ xs) b
text_comes kind begins from room s ends to b last weight xs h1 h2 light1 light2 light3 h3 fits whole may k =
    let ending : List Timed = record { at = ends; event = e.TextEnd } ∷ [] in (
      h1,
      light1,
      may,
      beyond (bytes_from from s) ending xs begins (weight + format_weight kind) (in_text kind [] b)
          (content_comes from (from + length s) room kind [] s b begins (weight + format_weight kind) (ending ++ xs) h2 light2 may.1 (omega arith)
          (λ l v p q. end_comes kind s ends to b l v xs (omega arith) (omega arith) whole may fits k)),
    )

-- the content of chunks comes
pub chunks_come : (at to : ℕ) (kind : TextKind) (so_far : List ℕ) (cs : List Chunk) (rest : List ℕ) (b : Construction) (last weight : ℕ) (xs : List Timed) →
    last ≤ at → weight ≤ at → b.whole ≡ None → at + length (chunks_text cs rest) ≤ to + length rest →
    ((l v : ℕ) → l ≤ to → v ≤ to → Come l v xs (in_text kind (so_far ++ joined_content cs) b)) →
    Come last weight (chunk_events at cs ++ xs) (in_text kind so_far b)
chunks_come at to kind so_far [] rest b last weight xs h light unended fits k =
    subst (λ z. Come last weight xs (in_text kind z b)) (append-nil so_far) (k last weight (omega arith) (omega arith))
chunks_come at to kind so_far (c ∷ cs) rest b last weight xs h light unended fits k =
    let first = bytes_from (at + length c.digits + 3) c.content in
    let next = at + length c.digits + length c.content + 5 in
    let whole : length (chunks_text (c ∷ cs) rest) ≡ length c.digits + length c.content + 5 + length (chunks_text cs rest) =
    omega (arith, length-append (59 ∷ c.digits) (crlf (c.content ++ crlf (chunks_text cs rest))), length-append c.content (crlf (chunks_text cs rest))) in
    beyond first (chunk_events next cs) xs last weight (in_text kind so_far b)
    (content_comes (at + length c.digits + 3) next 0 kind so_far c.content b last weight (chunk_events next cs ++ xs) (omega arith) (omega arith) unended
    (omega arith) (λ l v p q. chunks_come next to kind (so_far ++ c.content) cs rest b l v xs p (omega arith) unended (omega arith)
    (λ l' v' p' q'. subst (λ z. Come l' v' xs (in_text kind z b)) (sym (append_assoc so_far c.content (joined_content cs))) (k l' v' p' q'))))

-- digits without leading zeros are no more
stripped_shorter : (digits : List ℕ) → length (significant_digits digits) ≤ length digits
stripped_shorter [] = omega arith
stripped_shorter (d ∷ ds) = cases (eqb d 48) (stripped_shorter ds)
  where
    cases : (b : Bool) → length (significant_digits ds) ≤ length ds → length (cond b (significant_digits ds) (d ∷ ds)) ≤ length (d ∷ ds)
    cases true h = omega arith
    cases false h = omega arith

-- the digits of a big number are kept
big_digits_are_kept : (sign : Sign) (digits : List ℕ) → IsDigits digits → IsKept (is_below_zero sign digits) (zero_if_none (significant_digits digits))
big_digits_are_kept sign digits h =
    let k = are_kept digits h.1 in
    (k.are_digits, k.same, λ z. ap (λ m. cond (eqb m 0) false (is_minus sign)) (sym k.same_number ∙ z))

-- a big number comes
big_comes : (negative : Bool) (s : List ℕ) (from end to : ℕ) (b : Construction) (last weight : ℕ) (xs : List Timed) → last ≤ from → weight ≤ from →
    from + length s + 2 ≤ end → from + 3 ≤ end → end + 1 ≤ to → IsContentOf (e.Big negative) s → MayBegin b →
    GoOn to xs (with_value (scalar (d.Big negative (zero_if_none s))) b) → Come last weight (big_events negative s end ++ xs) b
big_comes negative [] from end to b last weight xs h light size some room whole may k =
    (omega arith, omega arith, may, end_comes (e.Big negative) [] end to b end (weight + 0) xs (omega arith) (omega arith) whole may room k)
big_comes negative (c ∷ s) from end to b last weight xs h light size some room whole may k =
    text_comes (e.Big negative) (end - 2 - length s) (end - 2 - length s) 1 (c ∷ s) end to b last weight xs (omega arith) (omega arith) (omega arith)
    (omega arith) (omega arith) (omega arith) room whole may k

-- how long the text of a counted string is
string_length : (byte : ℕ) (digits s : List ℕ) → length (byte ∷ (digits ++ crlf (s ++ crlf []))) ≡ length digits + length s + 5
string_length byte digits s = omega (arith, length-append (byte ∷ digits) (crlf (s ++ crlf [])), length-append s (crlf []))

-- the events of a leaf
pub leaf_comes : (from : ℕ) (l : Leaf) (b : Construction) (last weight : ℕ) (xs : List Timed) → IsLeaf l → MayBegin b → last ≤ from →
    weight ≤ from → GoOn (from + length (leaf_text l)) xs (with_value (scalar (leaf_value l)) b) → Come last weight (leaf_events from l ++ xs) b
leaf_comes from (line t.Simple s) b last weight xs is may h light k =
    let n : length (leaf_text (line t.Simple s)) ≡ length s + 3 = omega (arith, length-append s (crlf [])) in
    text_comes e.Simple from (from + 1) 1 s (last_of from (leaf_text (line t.Simple s))) (from + length (leaf_text (line t.Simple s))) b last weight xs h
    (omega arith) (omega arith) (omega arith) (omega arith) (omega arith) (omega arith) is.0 may k
leaf_comes from (line t.Error s) b last weight xs is may h light k =
    let n : length (leaf_text (line t.Error s)) ≡ length s + 3 = omega (arith, length-append s (crlf [])) in
    text_comes e.Error from (from + 1) 1 s (last_of from (leaf_text (line t.Error s))) (from + length (leaf_text (line t.Error s))) b last weight xs h
    (omega arith) (omega arith) (omega arith) (omega arith) (omega arith) (omega arith) is.0 may k
leaf_comes from (line t.Double s) b last weight xs is may h light k =
    let n : length (leaf_text (line t.Double s)) ≡ length s + 3 = omega (arith, length-append s (crlf [])) in
    text_comes e.Double from (from + 1) 1 s (last_of from (leaf_text (line t.Double s))) (from + length (leaf_text (line t.Double s))) b last weight xs h
    (omega arith) (omega arith) (omega arith) (omega arith) (omega arith) (omega arith) is.2 may k
leaf_comes from (numeral t.Int sign digits) b last weight xs is may h light k =
    let n : length (leaf_text (numeral t.Int sign digits)) ≡ length (sign_text sign) + length digits + 3 =
    omega (arith, length-append (58 ∷ (sign_text sign ++ digits)) (crlf []), length-append (sign_text sign) digits) in
    let some = is.0 in
    (omega arith, omega arith, may, k (last_of from (leaf_text (numeral t.Int sign digits))) (weight + 3) (omega arith) (omega arith))
leaf_comes from (numeral t.Big sign digits) b last weight xs is may h light k =
    let n : length (leaf_text (numeral t.Big sign digits)) ≡ length (sign_text sign) + length digits + 3 =
    omega (arith, length-append (40 ∷ (sign_text sign ++ digits)) (crlf []), length-append (sign_text sign) digits) in
    let some = is.0 in
    let few = stripped_shorter digits in
    big_comes (is_below_zero sign digits) (significant_digits digits) from (last_of from (leaf_text (numeral t.Big sign digits)))
    (from + length (leaf_text (numeral t.Big sign digits))) b last weight xs h light (omega arith) (omega arith) (omega arith)
    (big_digits_are_kept sign digits is) may k
leaf_comes from (null t.BulkNull) b last weight xs is may h light k =
    (omega arith, omega arith, may, k (last_of from (leaf_text (null t.BulkNull))) (weight + 3) (omega arith) (omega arith))
leaf_comes from (null t.ArrayNull) b last weight xs is may h light k =
    (omega arith, omega arith, may, k (last_of from (leaf_text (null t.ArrayNull))) (weight + 3) (omega arith) (omega arith))
leaf_comes from (null t.PlainNull) b last weight xs is may h light k =
    (omega arith, omega arith, may, k (last_of from (leaf_text (null t.PlainNull))) (weight + 3) (omega arith) (omega arith))
leaf_comes from (truth true) b last weight xs is may h light k =
    (omega arith, omega arith, may, k (last_of from (leaf_text (truth true))) (weight + 3) (omega arith) (omega arith))
leaf_comes from (truth false) b last weight xs is may h light k =
    (omega arith, omega arith, may, k (last_of from (leaf_text (truth false))) (weight + 3) (omega arith) (omega arith))
leaf_comes from (string t.Bulk digits s) b last weight xs is may h light k =
    let n : length (leaf_text (string t.Bulk digits s)) ≡ length digits + length s + 5 = string_length 36 digits s in
    text_comes e.Bulk (from + length digits + 2) (from + length digits + 3) 1 s (last_of from (leaf_text (string t.Bulk digits s)))
    (from + length (leaf_text (string t.Bulk digits s))) b last weight xs (omega arith) (omega arith) (omega arith) (omega arith) (omega arith)
    (omega arith) (omega arith) tt may k
leaf_comes from (string t.BulkError digits s) b last weight xs is may h light k =
    let n : length (leaf_text (string t.BulkError digits s)) ≡ length digits + length s + 5 = string_length 33 digits s in
    text_comes e.BulkError (from + length digits + 2) (from + length digits + 3) 1 s (last_of from (leaf_text (string t.BulkError digits s)))
    (from + length (leaf_text (string t.BulkError digits s))) b last weight xs (omega arith) (omega arith) (omega arith) (omega arith) (omega arith)
    (omega arith) (omega arith) tt may k
leaf_comes from (string (t.Verbatim format) digits s) b last weight xs is may h light k =
    let n : length (leaf_text (string (t.Verbatim format) digits s)) ≡ length digits + length format + length s + 6 =
    omega (
      arith,
      length-append (61 ∷ digits) (crlf ((format ++ (58 ∷ s)) ++ crlf [])),
      length-append (format ++ (58 ∷ s)) (crlf []),
      length-append format (58 ∷ s),
    ) in
    text_comes (e.Verbatim format) (from + length digits + length format + 3) (from + length digits + length format + 4) 1 s
    (last_of from (leaf_text (string (t.Verbatim format) digits s))) (from + length (leaf_text (string (t.Verbatim format) digits s))) b last weight xs
    (omega arith) (omega arith) (omega arith) (omega arith) (omega arith) (omega arith) (omega arith) is.1.0 may k
leaf_comes from (chunked cs zeros) b last weight xs is may h light k =
    let tail = (59 ∷ zeros) ++ crlf [] in
    let ends = last_of from (leaf_text (chunked cs zeros)) in
    let to = from + length (leaf_text (chunked cs zeros)) in
    let size : length tail ≡ length zeros + 3 = omega (arith, length-append (59 ∷ zeros) (crlf [])) in
    let mid = to - length tail in
    let ending : List Timed = record { at = ends; event = e.TextEnd } ∷ [] in
    let long = chunks_long cs tail in (
      omega arith,
      omega arith,
      may,
      beyond (chunk_events (from + 4) cs) ending xs (from + 3) (weight + 0) (in_text e.Bulk [] b)
          (chunks_come (from + 4) mid e.Bulk [] cs tail b (from + 3) (weight + 0) (ending ++ xs) (omega arith) (omega arith) may.1 (omega arith)
          (λ l v q r. end_comes e.Bulk (joined_content cs) ends to b l v xs (omega arith) (omega arith) tt may (omega arith) k)),
    )
  where
    chunks_long : (cs : List Chunk) (rest : List ℕ) → length rest ≤ length (chunks_text cs rest)
    chunks_long [] rest = omega arith
    chunks_long (c ∷ cs) rest = omega (
      arith,
      chunks_long cs rest,
      length-append (59 ∷ c.digits) (crlf (c.content ++ crlf (chunks_text cs rest))),
      length-append c.content (crlf (chunks_text cs rest)),
    )

-- Trees.

length-value_list : (us : Trees) → length (value_list us) ≡ count us
length-value_list none = refl
length-value_list (more u us) = omega (arith, length-value_list us)

-- the members of a tree are as many as its kind may have
may_have : (k : Kind) (form : Form) (n : ℕ) → HasMembers k form n → IsMemberCount k n
may_have Array form n h = tt
may_have Set form n h = tt
may_have Push form n h = tt
may_have Map (Counted digits) n h = (_, sym h.1)
may_have Map Streamed n h = (h.0, sym h.1)
may_have Attr (Counted digits) n h = (_, sym h.1)
may_have Attr Streamed n h = absurd h

mutual
  -- the events of a tree
  pub tree_comes : (from : ℕ) (u : Tree) (b : Construction) (last weight : ℕ) (xs : List Timed) → IsTree u → MayBegin b →
      last ≤ from → weight ≤ from → GoOn (from + length (text u)) xs (with_value (value u) b) → Come last weight (events from u ++ xs) b
  tree_comes from (leaf l) b last weight xs is may h light k = leaf_comes from l b last weight xs is may h light k
  tree_comes from (node kind form us) b last weight xs is may h light k =
      let at = from + length (form_line form) + 3 in
      let ends = last_of from (text (node kind form us)) in
      let ending : List Timed = close_event from (text (node kind form us)) ∷ [] in
      let size : length (text (node kind form us)) ≡ length (form_line form) + 3 + length (texts us) + length (close form) =
      omega (arith, length-append (kind_byte kind ∷ form_line form) (crlf (texts us ++ close form)), length-append (texts us) (close form)) in
      let many : IsMemberCount kind (length (value_list us)) = subst (IsMemberCount kind) (sym (length-value_list us)) (may_have kind form (count us) is.0) in (
        omega arith,
        omega arith,
        may,
        beyond (events_each at us) ending xs (from + length (form_line form) + 2) (weight + 3) (in_group kind [] b)
            (trees_come at us kind [] b (from + length (form_line form) + 2) (weight + 3) (ending ++ xs) is.1 may (omega arith) (omega arith)
            (λ l v q r. (
              omega arith,
              omega arith,
              (may, many),
              subst (λ ys. Come ends (v + 0) xs (with_value (aggregate kind ys) b)) (sym (values_listed us))
                  (k ends (v + 0) (omega arith) (omega arith)),
            ))),
      )

  -- the events of trees, the members of an aggregate
  pub trees_come : (from : ℕ) (us : Trees) (kind : Kind) (so_far : List Datum) (b : Construction) (last weight : ℕ) (xs : List Timed) → AreTrees us →
      MayBegin b → last < from → weight ≤ from →
      GoOn (from + length (texts us)) xs (in_group kind (so_far ++ value_list us) b) → Come last weight (events_each from us ++ xs) (in_group kind so_far b)
  trees_come from none kind so_far b last weight xs is may h light k =
      subst (λ z. Come last weight xs (in_group kind z b)) (append-nil so_far) (k last weight (omega arith) (omega arith))
  trees_come from (more u us) kind so_far b last weight xs is may h light k =
      let next = from + length (text u) in
      let size : length (texts (more u us)) ≡ length (text u) + length (texts us) = length-append (text u) (texts us) in
      beyond (events from u) (events_each next us) xs last weight (in_group kind so_far b)
      (tree_comes from u (in_group kind so_far b) last weight (events_each next us ++ xs) is.0 may (omega arith) light
      (λ l v q r. trees_come next us kind (so_far ++ value u ∷ []) b l v xs is.1 may q r
      (λ l' v' q' r'. subst (λ z. Come l' v' xs (in_group kind z b)) (sym (append_assoc so_far (value u ∷ []) (value_list us)))
      (k l' v' (omega arith) (omega arith)))))

-- all events of a tree, from nothing on
pub all_come : (u : Tree) → IsTree u → Come 0 0 (events 0 u ++ record { at = last_of 0 (text u); event = e.Done } ∷ []) nothing
all_come u is = tree_comes 0 u nothing 0 0 (record { at = last_of 0 (text u); event = e.Done } ∷ []) is (refl, refl) (omega arith) (omega arith)
    (λ l v q r. (omega arith, omega arith, tt, tt))
