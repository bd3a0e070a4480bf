-- What the events of a value show of it: whether it is an error, within attributes.
use Rattle.std.proofs.Common.{◌≡◌, ℕ, suc, ◌+◌, ◌-◌, ◌<◌, Bool, false, List, [], ◌∷◌, ◌++◌, length, refl, sym, ap, ◌∙◌, arith, append_assoc, append-nil}
use Rattle.resp_value.specs.Attributes.{annotated_value}
use Rattle.resp_value.specs.Data.{Array, Set, Map, Attr, Push, Datum, scalar}
use Rattle.resp_value.specs.Data as d
use Rattle.resp_value.specs.Numbers.{is_below_zero, significant_digits}
use Rattle.resp_value.specs.Trees as t
use Rattle.resp_value.specs.Trees.{Tree, Trees, leaf, node, none, more, Leaf, line, numeral, null, truth, string, chunked, Chunk, Form, Counted, Streamed, IsTree, AreTrees, leaf_text, text, form_line, count}
use Rattle.resp_value.specs.TreeValues.{value, values, leaf_value}
use Rattle.resp_fronts.specs.Events.{Timed, TextKind, big_events, bytes_from, chunk_events, events, events_each, last_of, leaf_events, close_event, text_events, without_places}
use Rattle.resp_fronts.specs.Events as e
use Rattle.resp_session.specs.Reading.{is_error, is_refusal}
use Rattle.resp_c.specs.Pairs.{ValueLook, after_events, is_error_kind, new_look, seen}

abbrev looks : ValueLook → List Timed → ValueLook
looks look xs = after_events look (without_places xs)

skip_bytes : (look : ValueLook) (at : ℕ) (s : List ℕ) (rest : List Timed) → looks look (bytes_from at s ++ rest) ≡ looks look rest
skip_bytes look at [] rest = refl
skip_bytes look at (byte ∷ bytes) rest = skip_bytes look (at + 1) bytes rest

skip_chunks : (look : ValueLook) (at : ℕ) (cs : List Chunk) (rest : List Timed) → looks look (chunk_events at cs ++ rest) ≡ looks look rest
skip_chunks look at [] rest = refl
skip_chunks look at (c ∷ cs) rest =
    let beyond = chunk_events (at + length c.digits + length c.content + 5) cs in
    ap (looks look) (append_assoc (bytes_from (at + length c.digits + 3) c.content) beyond rest)
    ∙ skip_bytes look (at + length c.digits + 3) c.content (beyond ++ rest)
    ∙ skip_chunks look (at + length c.digits + length c.content + 5) cs rest

text_looks : (look : ValueLook) (kind : TextKind) (begins from : ℕ) (s : List ℕ) (ends : ℕ) (rest : List Timed) →
    looks look (text_events kind begins from s ends ++ rest) ≡ looks (seen look (is_error_kind kind)) rest
text_looks look kind begins from s ends rest =
    let end : List Timed = record { at = ends; event = e.TextEnd } ∷ [] in
    let now = seen look (is_error_kind kind) in
    ap (looks now) (append_assoc (bytes_from from s) end rest) ∙ skip_bytes now from s (end ++ rest)

big_looks : (look : ValueLook) (negative : Bool) (digits : List ℕ) (last : ℕ) (rest : List Timed) →
    looks look (big_events negative digits last ++ rest) ≡ looks (seen look false) rest
big_looks look negative [] last rest = text_looks look (e.Big negative) last last [] last rest
big_looks look negative (digit ∷ digits) last rest = text_looks look (e.Big negative) (last - 2 - length digits)
    (last - 2 - length digits) (digit ∷ digits) last rest

leaf_looks : (look : ValueLook) (from : ℕ) (l : Leaf) (rest : List Timed) → looks look (leaf_events from l ++ rest) ≡
    looks (seen look (is_error (scalar (leaf_value l)))) rest
leaf_looks look from (line t.Simple s) rest = text_looks look e.Simple from (from + 1) s (last_of from (leaf_text (line t.Simple s))) rest
leaf_looks look from (line t.Error s) rest = text_looks look e.Error from (from + 1) s (last_of from (leaf_text (line t.Error s))) rest
leaf_looks look from (line t.Double s) rest = text_looks look e.Double from (from + 1) s (last_of from (leaf_text (line t.Double s))) rest
leaf_looks look from (numeral t.Int sign digits) rest = refl
leaf_looks look from (numeral t.Big sign digits) rest =
    big_looks look (is_below_zero sign digits) (significant_digits digits) (last_of from (leaf_text (numeral t.Big sign digits))) rest
leaf_looks look from (null form) rest = refl
leaf_looks look from (truth b) rest = refl
leaf_looks look from (string t.Bulk digits s) rest = text_looks look e.Bulk (from + length digits + 2)
    (from + length digits + 3) s (last_of from (leaf_text (string t.Bulk digits s))) rest
leaf_looks look from (string t.BulkError digits s) rest = text_looks look e.BulkError (from + length digits + 2)
    (from + length digits + 3) s (last_of from (leaf_text (string t.BulkError digits s))) rest
leaf_looks look from (string (t.Verbatim format) digits s) rest = text_looks look (e.Verbatim format)
    (from + length digits + length format + 3) (from + length digits + length format + 4) s
    (last_of from (leaf_text (string (t.Verbatim format) digits s))) rest
leaf_looks look from (chunked chunks zeros) rest =
    let end : List Timed = record { at = last_of from (leaf_text (chunked chunks zeros)); event = e.TextEnd } ∷ [] in
    let now = seen look false in
    ap (looks now) (append_assoc (chunk_events (from + 4) chunks) end rest) ∙ skip_chunks now (from + 4) chunks (end ++ rest)

abbrev within : ℕ → Bool → ValueLook
within n b = record { nested = suc n; refuses = b }

mutual
  -- a value within another aggregate than an attribute shows nothing
  inside : (n : ℕ) (b : Bool) (from : ℕ) (u : Tree) (rest : List Timed) →
      looks (within n b) (events from u ++ rest) ≡ looks (within n b) rest
  inside n b from (leaf l) rest = leaf_looks (within n b) from l rest
  inside n b from (node k form us) rest =
      let close : List Timed = close_event from (text (node k form us)) ∷ [] in
      ap (looks (within (suc n) b)) (append_assoc (events_each (from + length (form_line form) + 3) us) close rest)
      ∙ inside_each (suc n) b (from + length (form_line form) + 3) us (close ++ rest)

  inside_each : (n : ℕ) (b : Bool) (from : ℕ) (us : Trees) (rest : List Timed) →
      looks (within n b) (events_each from us ++ rest) ≡ looks (within n b) rest
  inside_each n b from none rest = refl
  inside_each n b from (more u us) rest =
      ap (looks (within n b)) (append_assoc (events from u) (events_each (from + length (text u)) us) rest)
      ∙ inside n b from u (events_each (from + length (text u)) us ++ rest)
      ∙ inside_each n b (from + length (text u)) us rest

abbrev at_top : Bool → ValueLook
at_top b = record { nested = 0; refuses = b }

-- an aggregate that is no attribute is no refusal
other : (from : ℕ) (form : Form) (us : Trees) (close : Timed) (rest : List Timed) → close.event ≡ e.Close →
    looks (within 0 false) ((events_each from us ++ close ∷ []) ++ rest) ≡ looks (at_top false) rest
other from form us close rest is =
    ap (looks (within 0 false)) (append_assoc (events_each from us) (close ∷ []) rest)
    ∙ inside_each 0 false from us (close ∷ rest)
    ∙ ap (λ event. after_events (within 0 false) (event ∷ without_places rest)) is

mutual
  -- a value that stands in attributes alone shows whether it is a refusal
  top : (b : Bool) (from : ℕ) (u : Tree) (rest : List Timed) → IsTree u →
      looks (at_top b) (events from u ++ rest) ≡ looks (at_top (is_refusal (value u))) rest
  top b from (leaf l) rest is = leaf_looks (at_top b) from l rest
  top b from (node Array form us) rest is = other (from + length (form_line form) + 3) form us _ rest refl
  top b from (node Set form us) rest is = other (from + length (form_line form) + 3) form us _ rest refl
  top b from (node Map form us) rest is = other (from + length (form_line form) + 3) form us _ rest refl
  top b from (node Push form us) rest is = other (from + length (form_line form) + 3) form us _ rest refl
  top b from (node Attr Streamed us) rest is = absurd is.0
  top b from (node Attr (Counted digits) us) rest is =
      let close : List Timed = close_event from (text (node Attr (Counted digits) us)) ∷ [] in
      let some : 0 < count us = omega (arith, is.0.1) in
      ap (looks (at_top b)) (append_assoc (events_each (from + length digits + 3) us) close rest)
      ∙ attribute b (from + length digits + 3) us (close ++ rest) is.1 some

  -- the members of an attribute, of which the last is annotated
  attribute : (b : Bool) (from : ℕ) (us : Trees) (rest : List Timed) → AreTrees us → 0 < count us →
      looks (at_top b) (events_each from us ++ rest) ≡ looks (at_top (is_error (annotated_value (values us)))) rest
  attribute b from none rest are some = absurd (omega (arith, some))
  attribute b from (more u us) rest are some =
      ap (looks (at_top b)) (append_assoc (events from u) (events_each (from + length (text u)) us) rest)
      ∙ top b from u (events_each (from + length (text u)) us ++ rest) are.0
      ∙ follow (value u) (from + length (text u)) us rest are.1

  -- what follows a member of an attribute
  follow : (x : Datum) (from : ℕ) (us : Trees) (rest : List Timed) → AreTrees us →
      looks (at_top (is_refusal x)) (events_each from us ++ rest) ≡
      looks (at_top (is_error (annotated_value (d.more x (values us))))) rest
  follow x from none rest are = refl
  follow x from (more u us) rest are =
      ap (looks (at_top (is_refusal x))) (append_assoc (events from u) (events_each (from + length (text u)) us) rest)
      ∙ top (is_refusal x) from u (events_each (from + length (text u)) us ++ rest) are.0
      ∙ follow (value u) (from + length (text u)) us rest are.1

pub events_show : (u : Tree) → IsTree u →
    after_events new_look (without_places (events 0 u)) ≡ record { nested = 0; refuses = is_refusal (value u) }
events_show u is = ap (looks new_look) (sym (append-nil (events 0 u))) ∙ top false 0 u [] is
