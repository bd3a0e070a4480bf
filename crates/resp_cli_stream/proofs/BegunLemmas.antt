-- Where the values of a stream begin, as more of its bytes come.
use Rattle.std.proofs.Common.{◌≡◌, ◌≤◌, inl, inr, ℕ, ◌+◌, ◌-◌, List, [], ◌∷◌, ◌++◌, length, drop, take, refl, sym, ap, ◌∙◌, arith, append_assoc, subst, length-append}
use Rattle.std.proofs.Math.Seq.{drop-append_seam}
use Rattle.std.proofs.lemmas.List.{take-append-drop}
use Rattle.resp_io.specs.Devices.{last_count}
use Rattle.resp_value.specs.Rules.{Rules, WithinTotal}
use Rattle.resp_value.specs.Spellings.{IsSpelling, IsViable}
use Rattle.resp_value.specs.TreeValues.{value}
use Rattle.resp_value.proofs.ViabilityLaws.{fronts_of_viable_texts_are_viable}
use Rattle.resp_scan.specs.Kinds.{rules_of}
use Rattle.resp_scan.specs.Listening.{HearsPiece, HearsValue}
use Rattle.resp_scan.specs.Machine.Tokens.{Place}
use Rattle.resp_scan.specs.Reading.{Events, IsFaulted}
use Rattle.resp_scan.specs.declared.event.Fault.{Fault}
use Rattle.resp_cli_stream.specs.Begun.{BeginsAt, HasReadOrRefused, HavePassed}
use Rattle.resp_cli_stream.specs.Scans.{HasScanned}
use Rattle.resp_cli_stream.specs.declared.starts.Starts.{Starts}
use Rattle.resp_cli_stream.proofs.Rendered.{begins_more, begins_on, begins_one}
use Rattle.resp_cli_stream.proofs.Scanned.{scanned_nothing}

-- more bytes, under the same rules, with the same counts
abbrev pub begins_at_on : {r r' : Rules} {bytes : List ℕ} {count count' start start' : ℕ} (more : List ℕ) → r' ≡ r → count' ≡ count → start' ≡ start →
    BeginsAt r bytes count start → BeginsAt r' (bytes ++ more) count' start'
begins_at_on more same values start b = record {
  begins = begins_more more same b.begins;
  counted = b.counted ∙ sym values;
  placed = λ small. start ∙ b.placed small;
}

-- a byte was refused in them, or before
pub passed_refused : {starts : Starts} (after : Starts) {bytes : List ℕ} (more : List ℕ) (fault : Fault) (h : HavePassed starts bytes) →
    rules_of after.scanner ≡ rules_of starts.scanner → after.values ≡ starts.values → after.start ≡ starts.start → IsFaulted after.scanner fault →
    ((given : Events) → HasScanned starts.scanner h.stands.begins.rest given → IsViable (rules_of starts.scanner) WithinTotal (h.stands.begins.rest ++ more) → ⊥) →
    HavePassed after (bytes ++ more)
passed_refused {starts} after {bytes} more fault h same values start faulted refused = record {
  stands = begins_at_on more same values start h.stands;
  come = inr (fault, faulted, λ viable. not_viable h.come (subst (λ z. IsViable z WithinTotal (h.stands.begins.rest ++ more)) same viable));
}
  where
    not_viable : HasReadOrRefused starts.scanner h.stands.begins.rest → IsViable (rules_of starts.scanner) WithinTotal (h.stands.begins.rest ++ more) → ⊥
    not_viable (inl (given, scanned)) viable = refused given scanned viable
    not_viable (inr (fault, faulted, dead)) viable =
        dead (fronts_of_viable_texts_are_viable (rules_of starts.scanner) WithinTotal h.stands.begins.rest more viable)

-- no value has ended in them
pub passed_on : {starts : Starts} (after : Starts) {bytes : List ℕ} (more : List ℕ) {H : Events → Type 0} (h : HavePassed starts bytes) →
    rules_of after.scanner ≡ rules_of starts.scanner → after.values ≡ starts.values → after.start ≡ starts.start →
    HearsPiece after.scanner H (h.stands.begins.rest ++ more) → HavePassed after (bytes ++ more)
passed_on after more h same values start hears = record {
  stands = begins_at_on more same values start h.stands;
  come = inl (hears.heard, record { reads = hears.reads; all_due = hears.all_due; no_value = hears.no_value });
}

-- a value has ended with them
pub passed_value : {starts : Starts} (after : Starts) {bytes : List ℕ} (more : List ℕ) {H : Events → Type 0} (h : HavePassed starts bytes) →
    rules_of after.scanner ≡ rules_of starts.scanner → after.values ≡ starts.values + 1 →
    (starts.start + length (h.stands.begins.rest ++ more) ≤ last_count → after.start ≡ starts.start + length (h.stands.begins.rest ++ more)) →
    HearsValue (rules_of starts.scanner) after.scanner H (h.stands.begins.rest ++ more) → HavePassed after (bytes ++ more)
passed_value {starts} after more h same values start hears =
    let b = h.stands.begins in
    let tree = hears.is_value.tree in
    let x = value tree in
    let next = b.rest ++ more in
    let spelling : IsSpelling (rules_of starts.scanner) x next = record { tree = tree; spells = hears.is_value.spells; keeps = hears.is_value.keeps; valued = refl } in
    let moved : IsSpelling (rules_of after.scanner) x next = rw same spelling in
    record {
      stands = record {
        begins = begins_on (begins_more more same b) (begins_one moved);
        counted = omega (arith, h.stands.counted, values, length-append b.values (x ∷ []));
        placed = λ small.
            let size = length-append b.front next in
            let before = h.stands.placed (omega (arith, small, size)) in
            start (omega (arith, small, size, before)) ∙ omega (arith, size, before);
      };
      come = inl ([], scanned_nothing after.scanner hears.reads);
    }

-- where no fault stands a scanner has read the rest
pub came : (s : Place) (rest : List ℕ) → HasReadOrRefused s rest → ((fault : Fault) → IsFaulted s fault → ⊥) → (given : Events) × HasScanned s rest given
came s rest (inl read) sound = read
came s rest (inr (fault, faulted, dead)) sound = absurd (sound fault faulted)

-- a scanner has read the beginning of a value, and no byte of it was refused
pub read_if_viable : (s : Place) (rest : List ℕ) → HasReadOrRefused s rest → IsViable (rules_of s) WithinTotal rest →
    (given : Events) × HasScanned s rest given
read_if_viable s rest (inl read) viable = read
read_if_viable s rest (inr (fault, faulted, dead)) viable = absurd (dead viable)

-- the last bytes of a text that is gone through further
pub last_kept : (bytes more gone held : List ℕ) (beyond : ℕ) → bytes ≡ gone ++ held →
    bytes ++ more ≡ (gone ++ take beyond held) ++ (drop beyond held ++ more)
last_kept bytes more gone held beyond is =
    ap (λ z. z ++ more) (is ∙ ap (λ z. gone ++ z) (sym (take-append-drop beyond held)) ∙ sym (append_assoc gone (take beyond held) (drop beyond held)))
    ∙ append_assoc (gone ++ take beyond held) (drop beyond held) more

-- the last of two texts
pub last_of : (xs ys all : List ℕ) → all ≡ xs ++ ys → drop (length all - length ys) all ≡ ys
last_of xs ys all is =
    let size : length all - length ys ≡ length xs = omega (arith, ap length is, length-append xs ys) in
    ap (λ k. drop k all) size ∙ ap (drop (length xs)) is ∙ drop-append_seam xs ys
