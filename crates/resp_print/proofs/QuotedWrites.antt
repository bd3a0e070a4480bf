-- Quoted text, written part after part.
use Rattle.std.proofs.Common.{◌≡◌, ℕ, List, ◌++◌, Option, Result, sym, ap, ◌∙◌, append_assoc}
use Rattle.std.specs.Result.{IsErr}
use Rattle.resp_io.specs.Devices.{Appends, count_after}
use Rattle.resp_print.specs.Shown.{quoted_text}
use Rattle.resp_print.specs.Written.{AppendsPart, WritesText}
use Rattle.resp_print.proofs.Quoted.{quoted-append, quoted-split}
use Rattle.resp_print.proofs.WrittenLemmas.{Appends-append, writes_next, writes_part}

-- the quoted front of a text was written, and no write failed
abbrev pub HasWrittenFront : (text rest : List ℕ) (before after : Option (List ℕ)) (failures failures' : ℕ) → Type 0
HasWrittenFront text rest before after failures failures' = (front : List ℕ) × (text ≡ front ++ rest) ×
    (Appends before after (quoted_text front) × (failures' ≡ failures))

-- one part more was written
pub front_goes_on : (text rest part beyond shown : List ℕ) (a b c : Option (List ℕ)) (f g h : ℕ) → HasWrittenFront text rest a b f g → rest ≡ part ++ beyond →
    quoted_text part ≡ shown → Appends b c shown × (h ≡ g) → HasWrittenFront text beyond a c f h
front_goes_on text rest part beyond shown a b c f g h (front, e, written) first is_shown next = (
  front ++ part,
  e ∙ ap (λ more. front ++ more) first ∙ sym (append_assoc front part beyond),
  (rw (quoted-append front part, is_shown) (Appends-append a b c (quoted_text front) shown written.0 next.0), next.1 ∙ written.1),
)

-- the write of the next part failed
pub front_fails : {X E : Type 0} (r : Result X E) (text rest part beyond shown : List ℕ) (a b c : Option (List ℕ)) (f g h : ℕ) →
    HasWrittenFront text rest a b f g → rest ≡ part ++ beyond → quoted_text part ≡ shown → IsErr r → AppendsPart b c shown × (h ≡ count_after 1 g) →
    WritesText a c f h r (quoted_text text)
front_fails r text rest part beyond shown a b c f g h (front, e, written) first is_shown is_err next =
    rw (quoted-split text front part beyond shown (e ∙ ap (λ more. front ++ more) first) is_shown)
    (writes_next r a b c f g h (quoted_text front) (shown ++ quoted_text beyond) written (writes_part r b c g h shown (quoted_text beyond) is_err next))
