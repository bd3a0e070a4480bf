-- How the bytes of a line are taken.
use Rattle.std.proofs.Common.{◌≡◌, ◌≢◌, ◌⊎◌, ◌∙◌, inl, inr, ℕ, suc, ◌+◌, ◌<◌, ◌≤◌, true, List, [], ◌∷◌, ◌++◌, length, take, drop, get_or, None, Some, ap, append_assoc, arith, drop-cons, length-take-le, subst, sym}
use Rattle.std.specs.List.{AllByRecursion}
use Rattle.std.proofs.Math.Seq.{take-add}
use Rattle.std.proofs.lemmas.Bool.{eq-eqb, eqb-true}
use Rattle.std.proofs.lemmas.List.{append-nil, get_or-take, take-append-drop}
use Rattle.memchr.specs.Find.{IsFirstByte, is_byte}
use Rattle.resp_value.proofs.FirstBytes.{all_append}
use Rattle.resp_line.specs.Inline.{BeginsLine, BeginsLineThat, BeginsLongLine, GoesOn, IsArrayOf, IsLineWith, IsWithinLine, RejectsContent, RejectsLine}
use Rattle.resp_line.specs.declared.inline.InlineError.{InlineError}
use Rattle.resp_line.specs.declared.inline.InlineError.TheVariants.{LongLine, OutOfMemory, OverLimits, Quotes}
use Rattle.resp_value.specs.Bounds.{Bounds}
use Rattle.resp_value.specs.Rules.{rules_under}
use Rattle.resp_value.specs.Spellings.{IsSpelling}
use Rattle.resp_value.specs.Words.{command_of}
use Rattle.resp_value.specs.declared.version.Version.TheVariants.{Two}

-- no byte is an LF
no_end : (bytes : List ℕ) → ((k : ℕ) → k < length bytes → get_or bytes k 0 ≡ 10 → ⊥) → AllByRecursion (λ b. b ≢ 10) bytes
no_end [] none = tt
no_end (b ∷ bytes) none = (none 0 (omega arith), no_end bytes (λ k below. none (suc k) (omega arith)))

unfound : (x : ℕ) → (is_byte 10 x ≡ true → ⊥) → x ≡ 10 → ⊥
unfound x none is = none (eq-eqb x 10 is)

-- a line that goes on begins as it began
begins_some : (front piece : List ℕ) (n : ℕ) → BeginsLine (front ++ piece) → BeginsLine (front ++ take (suc n) piece)
begins_some (b ∷ front) piece n begins = begins
begins_some [] (b ∷ piece) n begins = begins
begins_some [] [] n begins = absurd begins

-- the bytes up to an LF
taken_end : (piece : List ℕ) (end : ℕ) → end < length piece → get_or piece end 0 ≡ 10 → take (end + 1) piece ≡ take end piece ++ 10 ∷ []
taken_end piece end within is =
    take-add end 1 piece ∙ ap (λ l. take end piece ++ take 1 l) (drop-cons piece end 0 within ∙ ap (λ x. x ∷ drop (suc end) piece) is)

without_end : (front piece : List ℕ) → GoesOn front piece → IsFirstByte (is_byte 10) piece None → AllByRecursion (λ b. b ≢ 10) (front ++ piece)
without_end front piece g nowhere =
    all_append (λ b. b ≢ 10) front piece g.within.no_end
    (no_end piece (λ k below at. unfound (get_or piece k 0) (nowhere k (omega arith) below) at))

without_end_before : (front piece : List ℕ) (end : ℕ) → GoesOn front piece → IsFirstByte (is_byte 10) piece (Some end) →
    AllByRecursion (λ b. b ≢ 10) (front ++ take end piece)
without_end_before front piece end g (first, at) =
    let size : length (take end piece) ≡ end = length-take-le end piece (omega (arith, first.high)) in
    all_append (λ b. b ≢ 10) front (take end piece) g.within.no_end
    (no_end (take end piece) (λ k below found. unfound (get_or piece k 0) (first.before k (omega arith) (subst (λ n. k < n) size below))
    (sym (get_or-take end piece k 0 (subst (λ n. k < n) size below)) ∙ found)))

-- no LF is in the piece, and the line goes on
pub line_held : (front piece line : List ℕ) → GoesOn front piece → IsFirstByte (is_byte 10) piece None → line ≡ front ++ piece → length line ≤ 65536 →
    IsWithinLine line
line_held front piece line g nowhere is short = record {
  no_end = subst (AllByRecursion (λ b. b ≢ 10)) (sym is) (without_end front piece g nowhere);
  short = short;
}

-- no LF is in the piece, and the line goes on beyond its most bytes
pub line_too_long : (front piece : List ℕ) → GoesOn front piece → IsFirstByte (is_byte 10) piece None → 65536 < length (front ++ piece) →
    BeginsLongLine (front ++ piece)
line_too_long front piece g nowhere long = record {
  content = front ++ piece;
  rest = [];
  whole = sym (append-nil (front ++ piece));
  begins = g.begins;
  no_end = without_end front piece g nowhere;
  long = long;
}

-- an LF is in the piece, and the line ends with it
pub line_ended : (front piece line : List ℕ) (end : ℕ) → GoesOn front piece → IsFirstByte (is_byte 10) piece (Some end) → line ≡ front ++ take end piece →
    length line ≤ 65536 → IsLineWith line (front ++ take (end + 1) piece)
line_ended front piece line end g (first, at) is short =
    let one : end + 1 ≡ suc end = omega arith in
    record {
      within = record {
        no_end = subst (AllByRecursion (λ b. b ≢ 10)) (sym is) (without_end_before front piece end g (first, at));
        short = short;
      };
      whole = ap (λ l. front ++ l) (taken_end piece end first.high (eqb-true (get_or piece end 0) 10 at)) ∙
          sym (append_assoc front (take end piece) (10 ∷ [])) ∙ ap (λ l. l ++ 10 ∷ []) (sym is);
      begins = subst (λ n. BeginsLine (front ++ take n piece)) (sym one) (begins_some front piece end g.begins);
    }

-- an LF is in the piece, and the line before it has more than its most bytes
pub line_too_long_before : (front piece : List ℕ) (end : ℕ) → GoesOn front piece → IsFirstByte (is_byte 10) piece (Some end) →
    65536 < length (front ++ take end piece) → BeginsLongLine (front ++ piece)
line_too_long_before front piece end g found long = record {
  content = front ++ take end piece;
  rest = drop end piece;
  whole = ap (λ t. front ++ t) (sym (take-append-drop end piece)) ∙ sym (append_assoc front (take end piece) (drop end piece));
  begins = g.begins;
  no_end = without_end_before front piece end g found;
  long = long;
}

-- a line is too long, or memory is out
pub hold_rejected : (limits : Bounds) (text bytes : List ℕ) (e : InlineError) → (65536 < length bytes → BeginsLongLine text) →
    (e ≡ OutOfMemory) ⊎ ((e ≡ LongLine) × (65536 < length bytes)) → RejectsLine limits text e
hold_rejected limits text bytes e long (inl is) = subst (RejectsLine limits text) (sym is) tt
hold_rejected limits text bytes e long (inr (is, more)) = subst (RejectsLine limits text) (sym is) (long more)

line_that : (front piece content : List ℕ) (count : ℕ) (P : List ℕ → Type 0) → IsLineWith content (front ++ take count piece) → BeginsLine (front ++ piece) →
    P content → BeginsLineThat (front ++ piece) P
line_that front piece content count P line begins holds = record {
  content = content;
  rest = drop count piece;
  whole = ap (λ t. front ++ t) (sym (take-append-drop count piece)) ∙ sym (append_assoc front (take count piece) (drop count piece)) ∙
      ap (λ t. t ++ drop count piece) line.whole ∙ append_assoc content (10 ∷ []) (drop count piece);
  begins = begins;
  within = line.within;
  holds = holds;
}

-- the line that ends in the piece is no command
pub line_rejected : (limits : Bounds) (front piece content : List ℕ) (count : ℕ) (e : InlineError) → IsLineWith content (front ++ take count piece) →
    BeginsLine (front ++ piece) → RejectsContent limits content e → RejectsLine limits (front ++ piece) e
line_rejected limits front piece content count Quotes line begins r = line_that front piece content count _ line begins r
line_rejected limits front piece content count OverLimits line begins r = line_that front piece content count _ line begins r
line_rejected limits front piece content count LongLine line begins r = absurd r
line_rejected limits front piece content count OutOfMemory line begins r = tt

-- the array of a line is that of a name and arguments
pub named_words : (limits : Bounds) (content array : List ℕ) → IsArrayOf limits content array →
    (name : List ℕ) × (arguments : List (List ℕ)) × IsSpelling (rules_under Two limits) (command_of (name ∷ arguments)) array
named_words limits content array a = of_words a.words a.some a.spelled
  where
    of_words : (words : List (List ℕ)) → 0 < length words → IsSpelling (rules_under Two limits) (command_of words) array →
        (name : List ℕ) × (arguments : List (List ℕ)) × IsSpelling (rules_under Two limits) (command_of (name ∷ arguments)) array
    of_words [] some spelled = absurd (omega (arith, some))
    of_words (name ∷ arguments) some spelled = (name, arguments, spelled)
