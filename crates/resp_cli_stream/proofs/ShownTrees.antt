-- The text of a value's events is the text of the value.
use Rattle.std.proofs.Common.{◌≡◌, ℕ, suc, ◌+◌, ◌-◌, Bool, true, false, cond, eqb, Option, None, Some, List, [], ◌∷◌, ◌++◌, length, codes, decimal, refl, sym, ap, subst, ◌∙◌, append_assoc, append-nil, length-append, arith}
use Rattle.std.specs.List.{AllByRecursion}
use Rattle.std.proofs.lemmas.Bool.{eq-eqb, le-leb, ne_eqb}
use Rattle.resp_value.specs.Numbers.{IsDigit, number, is_below_zero, sign_text, significant_digits, zero_if_none}
use Rattle.resp_value.specs.Canonical.{sign_of}
use Rattle.resp_value.specs.Data.{Kind, Array, Set, Map, Attr, Push, Datum, Data, scalar, aggregate, items_of}
use Rattle.resp_value.specs.Data as d
use Rattle.resp_value.specs.Trees as t
use Rattle.resp_value.specs.Trees.{Tree, Trees, leaf, node, none, more, Leaf, line, numeral, null, truth, string, chunked, Chunk, joined_content, Form, Counted, Streamed, HasMembers, form_line, leaf_text, text, count, IsTree, AreTrees, IsLeaf}
use Rattle.resp_value.specs.TreeValues.{value, values, leaf_value}
use Rattle.resp_fronts.specs.Events.{Event, Timed, TextKind, bytes_from, text_events, last_of, big_events, chunk_events, leaf_events, events, events_each, open_event, close_event, declared_count, without_places}
use Rattle.resp_fronts.specs.Events as e
use Rattle.resp_print.specs.Shown.{indentation, kind_word, lines_on, member_lines, annotating_lines, is_plain, quoted_byte, quoted_text, scalar_line}
use Rattle.resp_cli_stream.specs.Pages.{OpenLine, Page, beginning, blank, end_of_text, has_all_pairs, is_big, last_line, of_line, page_after, page_after_event, piece_of, shown_on, text_words, with_member}
use Rattle.resp_print.proofs.Quoted.{quoted-append, quoted-plain}

-- events side by side
places-append : (xs ys : List Timed) → without_places (xs ++ ys) ≡ without_places xs ++ without_places ys
places-append [] ys = refl
places-append (x ∷ xs) ys = ap (λ es. x.event ∷ es) (places-append xs ys)

pub page-append : (es fs : List Event) (p : Page) → page_after (es ++ fs) p ≡ page_after fs (page_after es p)
page-append [] fs p = refl
page-append (x ∷ es) fs p = page-append es fs (page_after_event x p)

pub shown-append : (es fs : List Event) (p : Page) → shown_on p (es ++ fs) ≡ shown_on p es ++ shown_on (page_after es p) fs
shown-append [] fs p = refl
shown-append (x ∷ es) fs p =
    ap (λ z. piece_of x p ++ z) (shown-append es fs (page_after_event x p)) ∙
    sym (append_assoc (piece_of x p) (shown_on (page_after_event x p) es) (shown_on (page_after es (page_after_event x p)) fs))

-- a page on which no text was begun
abbrev on : List OpenLine → Page
on lines = record { open_lines = lines; text = None }

-- a page on which this much of a text was written
abbrev in_text : List OpenLine → Bool → ℕ → Page
in_text lines big size = record { open_lines = lines; text = Some (record { is_big = big; size = size }) }

abbrev the_line : Kind → Option ℕ → ℕ → OpenLine
the_line k n m = record { kind = k; count = n; members = m }

-- what events leave of a page, and the text that they give
record Gives (p : Page) (es : List Event) (q : Page) (shown : List ℕ) : Type 0 where
  page : page_after es p ≡ q
  text : shown_on p es ≡ shown

gives-append : (p q r : Page) (es fs : List Event) (a b : List ℕ) → Gives p es q a → Gives q fs r b → Gives p (es ++ fs) r (a ++ b)
gives-append p q r es fs a b x y = record {
  page = page-append es fs p ∙ ap (page_after fs) x.page ∙ y.page;
  text = shown-append es fs p ∙ ap (λ z. z ++ shown_on (page_after es p) fs) x.text ∙ ap (λ z. a ++ shown_on z fs) x.page ∙ ap (λ z. a ++ z) y.text;
}

-- content
gives-content : (lines : List OpenLine) (big : Bool) (size from : ℕ) (s : List ℕ) →
    Gives (in_text lines big size) (without_places (bytes_from from s)) (in_text lines big (size + length s)) (quoted_text s)
gives-content lines big size from [] = record { page = ap (in_text lines big) (omega arith); text = refl }
gives-content lines big size from (c ∷ s) =
    let rest = gives-content lines big (size + 1) (from + 1) s in
    record { page = rest.page ∙ ap (in_text lines big) (omega arith); text = ap (λ z. quoted_byte c ++ z) rest.text }

-- content from a text's beginning
gives-whole : (lines : List OpenLine) (big : Bool) (size : ℕ) (es : List Event) (shown : List ℕ) →
    Gives (in_text lines big 0) es (in_text lines big (0 + size)) shown →
    Gives (in_text lines big 0) es (in_text lines big size) shown
gives-whole lines big size es shown given = record { page = given.page ∙ ap (in_text lines big) (omega arith); text = given.text }

gives-chunks : (lines : List OpenLine) (big : Bool) (size at : ℕ) (cs : List Chunk) →
    Gives (in_text lines big size) (without_places (chunk_events at cs)) (in_text lines big (size + length (joined_content cs)))
    (quoted_text (joined_content cs))
gives-chunks lines big size at [] = record { page = ap (in_text lines big) (omega arith); text = refl }
gives-chunks lines big size at (c ∷ cs) =
    let first = bytes_from (at + length c.digits + 3) c.content in
    let others = chunk_events (at + length c.digits + length c.content + 5) cs in
    let both = gives-append (in_text lines big size) (in_text lines big (size + length c.content))
    (in_text lines big (size + length c.content + length (joined_content cs))) (without_places first) (without_places others)
    (quoted_text c.content) (quoted_text (joined_content cs)) (gives-content lines big size (at + length c.digits + 3) c.content)
    (gives-chunks lines big (size + length c.content) (at + length c.digits + length c.content + 5) cs) in
    record {
      page = ap (λ es. page_after es (in_text lines big size)) (places-append first others) ∙ both.page ∙
          ap (in_text lines big) (omega (arith, length-append c.content (joined_content cs)));
      text = ap (shown_on (in_text lines big size)) (places-append first others) ∙ both.text ∙ sym (quoted-append c.content (joined_content cs));
    }

-- a text from its beginning to its end, around content
gives-text : (lines : List OpenLine) (kind : TextKind) (middle : List Event) (size : ℕ) (quoted : List ℕ) →
    Gives (in_text lines (is_big kind) 0) middle (in_text lines (is_big kind) size) quoted →
    Gives (on lines) (e.Text kind ∷ (middle ++ e.TextEnd ∷ [])) (on (with_member lines))
    ((beginning (on lines) ++ text_words kind) ++ (quoted ++ end_of_text (Some (record { is_big = is_big kind; size = size }))))
gives-text lines kind middle size quoted inner =
    let ending = end_of_text (Some (record { is_big = is_big kind; size = size })) in
    let last : Gives (in_text lines (is_big kind) size) (e.TextEnd ∷ []) (on (with_member lines)) ending =
    record { page = refl; text = append-nil ending } in
    let both = gives-append (in_text lines (is_big kind) 0) (in_text lines (is_big kind) size) (on (with_member lines)) middle (e.TextEnd ∷ [])
    quoted ending inner last in
    record { page = both.page; text = ap (λ z. (beginning (on lines) ++ text_words kind) ++ z) both.text }

-- the parts of a line
string_parts : (of ind words quoted mark number ending : List ℕ) → ((of ++ ind) ++ words) ++ (quoted ++ ((mark ++ number) ++ ending)) ≡
    of ++ (ind ++ ((((words ++ quoted) ++ mark) ++ number) ++ ending))
string_parts of ind words quoted mark number ending = simp append_assoc

-- what a leaf has to give
abbrev GivesValue : List OpenLine → List Event → Datum → Type 0
GivesValue lines es x = Gives (on lines) es (on (with_member lines)) (of_line lines ++ lines_on (length lines) x)

-- a text that isn't a big number
gives-string : (lines : List OpenLine) (kind : TextKind) (s : List ℕ) (x : d.Scalar) (middle : List Event) → is_big kind ≡ false →
    Gives (in_text lines (is_big kind) 0) middle (in_text lines (is_big kind) (length s)) (quoted_text s) →
    scalar_line x ≡ (((text_words kind ++ quoted_text s) ++ codes "\" ") ++ decimal (length s)) ++ codes "\n" →
    GivesValue lines (e.Text kind ∷ (middle ++ e.TextEnd ∷ [])) (scalar x)
gives-string lines kind s x middle small inner is =
    let given = gives-text lines kind middle (length s) (quoted_text s) inner in
    let ending : end_of_text (Some (record { is_big = is_big kind; size = length s })) ≡ (codes "\" " ++ decimal (length s)) ++ codes "\n" =
    ap (λ b. end_of_text (Some (record { is_big = b; size = length s }))) small in
    record {
      page = given.page;
      text = given.text ∙ ap (λ z. (beginning (on lines) ++ text_words kind) ++ (quoted_text s ++ z)) ending ∙
          string_parts (of_line lines) (indentation (length lines)) (text_words kind) (quoted_text s) (codes "\" ") (decimal (length s)) (codes "\n") ∙
          ap (λ z. of_line lines ++ (indentation (length lines) ++ z)) (sym is);
    }

-- counted content
gives-counted : (lines : List OpenLine) (kind : TextKind) (s : List ℕ) (x : d.Scalar) (begins from ends : ℕ) → is_big kind ≡ false →
    scalar_line x ≡ (((text_words kind ++ quoted_text s) ++ codes "\" ") ++ decimal (length s)) ++ codes "\n" →
    GivesValue lines (without_places (text_events kind begins from s ends)) (scalar x)
gives-counted lines kind s x begins from ends small is =
    subst (λ es. GivesValue lines (e.Text kind ∷ es) (scalar x)) (sym (places-append (bytes_from from s) (record { at = ends; event = e.TextEnd } ∷ [])))
    (gives-string lines kind s x (without_places (bytes_from from s)) small
    (gives-whole lines (is_big kind) (length s) (without_places (bytes_from from s)) (quoted_text s) (gives-content lines (is_big kind) 0 from s)) is)

-- a digit stands for itself inside quotes
digit_is_plain : (byte : ℕ) → IsDigit byte → is_plain byte ≡ true
digit_is_plain byte h =
    rw (
      le-leb 32 byte (omega (arith, h.0)),
      le-leb byte 126 (omega (arith, h.1)),
      ne_eqb byte 34 (λ is. omega (arith, h.0)),
      ne_eqb byte 92 (λ is. omega (arith, h.1)),
    ) refl

quoted_digits : (s : List ℕ) → AllByRecursion IsDigit s → quoted_text s ≡ s
quoted_digits [] h = refl
quoted_digits (c ∷ s) h = quoted-append (c ∷ []) s ∙ ap (λ z. z ++ quoted_text s) (quoted-plain c (digit_is_plain c h.0)) ∙
    ap (λ z. c ∷ z) (quoted_digits s h.1)

-- digits without leading zeros are digits
significant_are_digits : (digits : List ℕ) → AllByRecursion IsDigit digits → AllByRecursion IsDigit (significant_digits digits)
significant_are_digits [] h = tt
significant_are_digits (c ∷ digits) h = case (eqb c 48) (significant_are_digits digits h.1)
  where
    case : (b : Bool) → AllByRecursion IsDigit (significant_digits digits) → AllByRecursion IsDigit (cond b (significant_digits digits) (c ∷ digits))
    case true rest = rest
    case false rest = h

big_parts : (of ind words digits ending : List ℕ) → ((of ++ ind) ++ words) ++ (digits ++ ending) ≡ of ++ (ind ++ ((words ++ digits) ++ ending))
big_parts of ind words digits ending = simp append_assoc

-- a big number
gives-big : (lines : List OpenLine) (negative : Bool) (s : List ℕ) (last : ℕ) → AllByRecursion IsDigit s →
    GivesValue lines (without_places (big_events negative s last)) (scalar (d.Big negative (zero_if_none s)))
gives-big lines negative [] last h =
    let given = gives-text lines (e.Big negative) [] 0 [] (record { page = refl; text = refl }) in
    record {
      page = given.page;
      text = given.text ∙ big_parts (of_line lines) (indentation (length lines)) (codes "big " ++ sign_text (sign_of negative)) (codes "0") (codes "\n");
    }
gives-big lines negative (c ∷ s) last h =
    let begins = last - 2 - length s in
    let given = gives-text lines (e.Big negative) (without_places (bytes_from begins (c ∷ s))) (length (c ∷ s)) (quoted_text (c ∷ s))
    (gives-whole lines true (length (c ∷ s)) (without_places (bytes_from begins (c ∷ s))) (quoted_text (c ∷ s)) (gives-content lines true 0 begins (c ∷ s))) in
    let some : eqb (length (c ∷ s)) 0 ≡ false = ne_eqb (length (c ∷ s)) 0 (λ is. omega (arith, is)) in
    let ending : end_of_text (Some (record { is_big = true; size = length (c ∷ s) })) ≡ codes "\n" = ap (λ b. cond b (codes "0\n") (codes "\n")) some in
    let parted = subst (λ es. Gives (on lines) (e.Text (e.Big negative) ∷ es) (on (with_member lines))
    ((beginning (on lines) ++ text_words (e.Big negative)) ++ (quoted_text (c ∷ s) ++ end_of_text (Some (record { is_big = true; size = length (c ∷ s) })))))
    (sym (places-append (bytes_from begins (c ∷ s)) (record { at = last; event = e.TextEnd } ∷ []))) given in
    record {
      page = parted.page;
      text = parted.text ∙
          ap (λ z. (beginning (on lines) ++ text_words (e.Big negative)) ++ (quoted_text (c ∷ s) ++ z)) ending ∙
          ap (λ z. (beginning (on lines) ++ text_words (e.Big negative)) ++ (z ++ codes "\n")) (quoted_digits (c ∷ s) h) ∙
          big_parts (of_line lines) (indentation (length lines)) (codes "big " ++ sign_text (sign_of negative)) (c ∷ s) (codes "\n");
    }

scalar_parts : (of ind words : List ℕ) → ((of ++ ind) ++ words) ++ [] ≡ of ++ (ind ++ words)
scalar_parts of ind words = append-nil ((of ++ ind) ++ words) ∙ append_assoc of ind words

number_parts : (of ind words number ending : List ℕ) → ((of ++ ind) ++ (words ++ number ++ ending)) ++ [] ≡ of ++ (ind ++ ((words ++ number) ++ ending))
number_parts of ind words number ending = simp (append_assoc, append-nil)

truth_parts : (of ind word ending : List ℕ) → ((of ++ ind) ++ (word ++ ending)) ++ [] ≡ of ++ (ind ++ (word ++ ending))
truth_parts of ind word ending = simp (append_assoc, append-nil)

-- a leaf
gives-leaf : (lines : List OpenLine) (from : ℕ) (l : Leaf) → IsLeaf l →
    GivesValue lines (without_places (leaf_events from l)) (scalar (leaf_value l))
gives-leaf lines from (line t.Simple s) is = gives-counted lines e.Simple s (d.Simple s) from (from + 1) _ refl refl
gives-leaf lines from (line t.Error s) is = gives-counted lines e.Error s (d.Error s) from (from + 1) _ refl refl
gives-leaf lines from (line t.Double s) is = gives-counted lines e.Double s (d.Double s) from (from + 1) _ refl refl
gives-leaf lines from (numeral t.Int sign digits) is =
    record { page = refl; text = number_parts (of_line lines) (indentation (length lines)) (codes "int ") _ (codes "\n") }
gives-leaf lines from (numeral t.Big sign digits) is =
    gives-big lines (is_below_zero sign digits) (significant_digits digits) (last_of from (leaf_text (numeral t.Big sign digits)))
    (significant_are_digits digits is.1)
gives-leaf lines from (null form) is = record { page = refl; text = scalar_parts (of_line lines) (indentation (length lines)) (codes "null\n") }
gives-leaf lines from (truth true) is = record { page = refl; text = truth_parts (of_line lines) (indentation (length lines)) (codes "true") (codes "\n") }
gives-leaf lines from (truth false) is = record { page = refl; text = truth_parts (of_line lines) (indentation (length lines)) (codes "false") (codes "\n") }
gives-leaf lines from (string t.Bulk digits s) is = gives-counted lines e.Bulk s (d.Bulk s) (from + length digits + 2) (from + length digits + 3) _ refl refl
gives-leaf lines from (string t.BulkError digits s) is =
    gives-counted lines e.BulkError s (d.BulkError s) (from + length digits + 2) (from + length digits + 3) _ refl refl
gives-leaf lines from (string (t.Verbatim format) digits s) is =
    gives-counted lines (e.Verbatim format) s (d.Verbatim format s) (from + length digits + length format + 3) (from + length digits + length format + 4) _ refl
    refl
gives-leaf lines from (chunked cs zeros) is =
    subst (λ es. GivesValue lines (e.Text e.Bulk ∷ es) (scalar (d.Bulk (joined_content cs))))
    (sym (places-append (chunk_events (from + 4) cs) (record { at = last_of from (leaf_text (chunked cs zeros)); event = e.TextEnd } ∷ [])))
    (gives-string lines e.Bulk (joined_content cs) (d.Bulk (joined_content cs)) (without_places (chunk_events (from + 4) cs)) refl
    (gives-whole lines false (length (joined_content cs)) (without_places (chunk_events (from + 4) cs)) (quoted_text (joined_content cs))
    (gives-chunks lines false 0 (from + 4) cs)) refl)

-- as many values as trees
same_count : (us : Trees) → d.count (values us) ≡ count us
same_count none = refl
same_count (more u us) = ap (λ n. n + 1) (same_count us)

-- the number of members of an attribute has all its pairs where its value is due
no_pairs_missing : (pairs m : ℕ) → m ≡ pairs + pairs → has_all_pairs Attr (Some pairs) m ≡ true
no_pairs_missing pairs m is = eq-eqb m (pairs + pairs) is

some_pairs_missing : (pairs m : ℕ) → (m ≡ pairs + pairs → ⊥) → has_all_pairs Attr (Some pairs) m ≡ false
some_pairs_missing pairs m is = ne_eqb m (pairs + pairs) is

-- an aggregate from its first line to its last
gives-node : (lines : List OpenLine) (k : Kind) (n : Option ℕ) (us : Trees) (middle : List Event) (shown : List ℕ) →
    Gives (on (the_line k n 0 ∷ lines)) middle (on (the_line k n (count us) ∷ lines)) shown →
    indentation (length lines) ++ kind_word k ++ codes "\n" ++ shown ++ indentation (length lines) ++ codes "end " ++
    decimal (items_of k (d.count (values us))) ++ codes "\n" ≡ lines_on (length lines) (aggregate k (values us)) →
    GivesValue lines (e.Open k n ∷ (middle ++ e.Close ∷ [])) (aggregate k (values us))
gives-node lines k n us middle shown inner is =
    let ending = last_line (the_line k n (count us) ∷ lines) in
    let last : Gives (on (the_line k n (count us) ∷ lines)) (e.Close ∷ []) (on (with_member lines)) ending =
    record { page = refl; text = append-nil ending } in
    let both = gives-append (on (the_line k n 0 ∷ lines)) (on (the_line k n (count us) ∷ lines)) (on (with_member lines)) middle (e.Close ∷ []) shown ending
    inner last in
    let ind = indentation (length lines) in
    let counted : ending ≡ ind ++ (codes "end " ++ decimal (items_of k (d.count (values us))) ++ codes "\n") =
    ap (λ m. ind ++ (codes "end " ++ decimal (items_of k m) ++ codes "\n")) (sym (same_count us)) in
    record {
      page = both.page;
      text = ap (λ z. (beginning (on lines) ++ (kind_word k ++ codes "\n")) ++ z) (both.text ∙ ap (λ z. shown ++ z) counted) ∙
          node_parts (of_line lines) ind (kind_word k) (codes "\n") shown (codes "end ") (decimal (items_of k (d.count (values us)))) ∙
          ap (λ z. of_line lines ++ z) is;
    }
  where
    node_parts : (of ind word lf shown end number : List ℕ) → ((of ++ ind) ++ (word ++ lf)) ++ (shown ++ (ind ++ (end ++ number ++ lf))) ≡
        of ++ (ind ++ word ++ lf ++ shown ++ ind ++ end ++ number ++ lf)
    node_parts of ind word lf shown end number = simp append_assoc

-- an aggregate whose members stand one after another
plain-node : (lines : List OpenLine) (from : ℕ) (k : Kind) (form : Form) (us : Trees) →
    Gives (on (the_line k (declared_count form) 0 ∷ lines)) (without_places (events_each (from + length (form_line form) + 3) us))
    (on (the_line k (declared_count form) (0 + count us) ∷ lines)) (member_lines (suc (length lines)) (values us)) →
    indentation (length lines) ++ kind_word k ++ codes "\n" ++ member_lines (suc (length lines)) (values us) ++ indentation (length lines) ++ codes "end " ++
    decimal (items_of k (d.count (values us))) ++ codes "\n" ≡ lines_on (length lines) (aggregate k (values us)) →
    GivesValue lines (without_places (events from (node k form us))) (aggregate k (values us))
plain-node lines from k form us inner is =
    let at = from + length (form_line form) + 3 in
    let ending : List Timed = close_event from (text (node k form us)) ∷ [] in
    subst (λ es. GivesValue lines (e.Open k (declared_count form) ∷ es) (aggregate k (values us))) (sym (places-append (events_each at us) ending))
    (gives-node lines k (declared_count form) us (without_places (events_each at us)) (member_lines (suc (length lines)) (values us))
    (record { page = inner.page ∙ ap (λ z. on (the_line k (declared_count form) z ∷ lines)) (omega arith); text = inner.text }) is)

mutual
  gives-tree : (lines : List OpenLine) (from : ℕ) (u : Tree) → IsTree u →
      GivesValue lines (without_places (events from u)) (value u)
  gives-tree lines from (leaf l) is = gives-leaf lines from l is
  gives-tree lines from (node Array form us) is = plain-node lines from Array form us
      (gives-members lines (from + length (form_line form) + 3) Array (declared_count form) 0 us (λ n m. refl) is.1) refl
  gives-tree lines from (node Set form us) is = plain-node lines from Set form us
      (gives-members lines (from + length (form_line form) + 3) Set (declared_count form) 0 us (λ n m. refl) is.1) refl
  gives-tree lines from (node Map form us) is = plain-node lines from Map form us
      (gives-members lines (from + length (form_line form) + 3) Map (declared_count form) 0 us (λ n m. refl) is.1) refl
  gives-tree lines from (node Push form us) is = plain-node lines from Push form us
      (gives-members lines (from + length (form_line form) + 3) Push (declared_count form) 0 us (λ n m. refl) is.1) refl
  gives-tree lines from (node Attr (Counted digits) us) is =
      let at = from + length digits + 3 in
      let ending : List Timed = close_event from (text (node Attr (Counted digits) us)) ∷ [] in
      subst (λ es. GivesValue lines (e.Open Attr (declared_count (Counted digits)) ∷ es) (aggregate Attr (values us)))
      (sym (places-append (events_each at us) ending))
      (gives-node lines Attr (declared_count (Counted digits)) us (without_places (events_each at us)) (annotating_lines (length lines) (values us))
      (let inner = gives-annotated lines at (number digits) 0 us (omega (arith, is.0.1)) is.1 in
      record { page = inner.page ∙ ap (λ z. on (the_line Attr (declared_count (Counted digits)) z ∷ lines)) (omega arith); text = inner.text })
      (ap (λ z. z ++ annotating_lines (length lines) (values us) ++ indentation (length lines) ++ codes "end " ++
      decimal (items_of Attr (d.count (values us))) ++
      codes "\n") (append_assoc (indentation (length lines)) (codes "attr") (codes "\n"))))
  gives-tree lines from (node Attr Streamed us) is = absurd is.0

  gives-members : (lines : List OpenLine) (from : ℕ) (k : Kind) (n : Option ℕ) (m : ℕ) (us : Trees) → ((n : Option ℕ) (m : ℕ) → has_all_pairs k n m ≡ false) →
      AreTrees us →
      Gives (on (the_line k n m ∷ lines)) (without_places (events_each from us)) (on (the_line k n (m + count us) ∷ lines))
      (member_lines (suc (length lines)) (values us))
  gives-members lines from k n m none never are = record { page = ap (λ z. on (the_line k n z ∷ lines)) (omega arith); text = refl }
  gives-members lines from k n m (more u us) never are =
      let first = events from u in
      let others = events_each (from + length (text u)) us in
      let level = suc (length lines) in
      let one = gives-tree (the_line k n m ∷ lines) from u are.0 in
      let rest = gives-members lines (from + length (text u)) k n (m + 1) us never are.1 in
      let none_before : of_line (the_line k n m ∷ lines) ≡ [] = ap (λ b. cond b (indentation (length lines) ++ codes "of\n") []) (never n m) in
      let both = gives-append (on (the_line k n m ∷ lines)) (on (the_line k n (m + 1) ∷ lines)) (on (the_line k n (m + 1 + count us) ∷ lines))
      (without_places first) (without_places others) (of_line (the_line k n m ∷ lines) ++ lines_on level (value u)) (member_lines level (values us)) one rest in
      record {
        page = ap (λ es. page_after es (on (the_line k n m ∷ lines))) (places-append first others) ∙ both.page ∙
            ap (λ z. on (the_line k n z ∷ lines)) (omega arith);
        text = ap (shown_on (on (the_line k n m ∷ lines))) (places-append first others) ∙ both.text ∙
            ap (λ z. (z ++ lines_on level (value u)) ++ member_lines level (values us)) none_before;
      }

  gives-annotated : (lines : List OpenLine) (from pairs m : ℕ) (us : Trees) → m + count us ≡ pairs + pairs + 1 → AreTrees us →
      Gives (on (the_line Attr (Some pairs) m ∷ lines)) (without_places (events_each from us)) (on (the_line Attr (Some pairs) (m + count us) ∷ lines))
      (annotating_lines (length lines) (values us))
  gives-annotated lines from pairs m none is are = record { page = ap (λ z. on (the_line Attr (Some pairs) z ∷ lines)) (omega arith); text = refl }
  gives-annotated lines from pairs m (more u none) is are =
      let level = suc (length lines) in
      let of = indentation (length lines) ++ codes "of\n" in
      let one = gives-tree (the_line Attr (Some pairs) m ∷ lines) from u are.0 in
      let due : of_line (the_line Attr (Some pairs) m ∷ lines) ≡ of = ap (λ b. cond b of []) (no_pairs_missing pairs m (omega (arith, is))) in
      record {
        page = ap (λ es. page_after es (on (the_line Attr (Some pairs) m ∷ lines))) (places-append (events from u) [] ∙
            append-nil (without_places (events from u))) ∙
            one.page ∙ ap (λ z. on (the_line Attr (Some pairs) z ∷ lines)) (omega arith);
        text = ap (shown_on (on (the_line Attr (Some pairs) m ∷ lines))) (places-append (events from u) [] ∙ append-nil (without_places (events from u))) ∙
            one.text ∙ ap (λ z. z ++ lines_on level (value u)) due;
      }
  gives-annotated lines from pairs m (more u (more v vs)) is are =
      let first = events from u in
      let us = more v vs in
      let others = events_each (from + length (text u)) us in
      let level = suc (length lines) in
      let one = gives-tree (the_line Attr (Some pairs) m ∷ lines) from u are.0 in
      let rest = gives-annotated lines (from + length (text u)) pairs (m + 1) (more v vs) (omega (arith, is)) are.1 in
      let none_before : of_line (the_line Attr (Some pairs) m ∷ lines) ≡ [] =
      ap (λ b. cond b (indentation (length lines) ++ codes "of\n") []) (some_pairs_missing pairs m (λ wrong. omega (arith, is, wrong))) in
      let both = gives-append (on (the_line Attr (Some pairs) m ∷ lines)) (on (the_line Attr (Some pairs) (m + 1) ∷ lines))
      (on (the_line Attr (Some pairs) (m + 1 + count us) ∷ lines)) (without_places first) (without_places others)
      (of_line (the_line Attr (Some pairs) m ∷ lines) ++ lines_on level (value u)) (annotating_lines (length lines) (values us)) one rest in
      record {
        page = ap (λ es. page_after es (on (the_line Attr (Some pairs) m ∷ lines))) (places-append first others) ∙ both.page ∙
            ap (λ z. on (the_line Attr (Some pairs) z ∷ lines)) (omega arith);
        text = ap (shown_on (on (the_line Attr (Some pairs) m ∷ lines))) (places-append first others) ∙ both.text ∙
            ap (λ z. (z ++ lines_on level (value u)) ++ annotating_lines (length lines) (values us)) none_before;
      }

-- the events of a tree give the text of its value
pub tree_is_shown : (u : Tree) → IsTree u → shown_on blank (without_places (events 0 u)) ≡ lines_on 0 (value u)
tree_is_shown u is = (gives-tree [] 0 u is).text

-- and leave nothing open
pub tree_is_closed : (u : Tree) → IsTree u → page_after (without_places (events 0 u)) blank ≡ blank
tree_is_closed u is = (gives-tree [] 0 u is).page

-- with the value's end too
pub all_is_shown : (u : Tree) → IsTree u → shown_on blank (without_places (e.all_events u)) ≡ lines_on 0 (value u)
all_is_shown u is =
    let done : List Timed = record { at = last_of 0 (text u); event = e.Done } ∷ [] in
    ap (shown_on blank) (places-append (events 0 u) done) ∙ shown-append (without_places (events 0 u)) (e.Done ∷ []) blank ∙
    append-nil (shown_on blank (without_places (events 0 u))) ∙ tree_is_shown u is
