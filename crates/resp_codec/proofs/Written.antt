-- What is read where the frame of a value begins.
use Rattle.std.proofs.Common.{◌≡◌, ◌⊎◌, inl, inr, ℕ, ◌≤◌, List, [], ◌++◌, length, take, drop, Some, None, Ok, Err, refl, sym, ap, subst, ◌∙◌, append_assoc, length-append, take_at, arith}
use Rattle.std.proofs.lemmas.List.{take-append-drop, take-append-le}
use Rattle.std.proofs.lemmas.Bool.{cases_lt}
use Rattle.resp_value.specs.Data.{Datum}
use Rattle.resp_value.specs.Laws.{FrontsOfSpellingsAreViable, NoSpellingBeginsAnother}
use Rattle.resp_value.specs.Rules.{Rules}
use Rattle.resp_value.specs.Spellings.{IsSpelling}
use Rattle.resp_value.specs.Trees.{Spells}
use Rattle.resp_value.specs.Values.{datum_of}
use Rattle.resp_value.specs.declared.value.Value.{Value}
use Rattle.resp_value.specs.declared.cause.Cause.TheVariants as cause
use Rattle.resp_scan.specs.Reading.{HasNoValue}
use Rattle.resp_scan.specs.declared.event.Fault.{Fault}
use Rattle.resp_decode.specs.Decoding as decoding
use Rattle.resp_decode.specs.Decoding.{LacksMemory, RefusesByte}
use Rattle.tokio_util.specs.Codec.Next.{Next, decoded, partial, at_end}
use Rattle.resp_codec.specs.Streams.{ComesBack, WhatIsWrittenComesBack}
use Rattle.resp_codec.specs.Values.{gives_values}
use Rattle.resp_codec.specs.declared.error.CodecError.{CodecError}
use Rattle.resp_codec.specs.declared.value_codec.RespCodec.{RespCodec}

module _ (viable : FrontsOfSpellingsAreViable) (r : Rules) (x : Datum) (frame : List ℕ) (spelled : IsSpelling r x frame) where
  -- a text that a spelling begins is one in which a value ends
  has_value : (more : List ℕ) → HasNoValue (frame ++ more) → ⊥
  has_value more none =
      none (length frame) spelled.tree (subst (Spells spelled.tree) (sym (take_at frame more (length frame) refl)) spelled.spells)

  -- no byte of it is refused
  no_fault : (more seen beyond : List ℕ) (fault : Fault) → frame ++ more ≡ seen ++ beyond → RefusesByte r [] seen fault → ⊥
  no_fault more seen beyond fault whole w =
      let n = length frame in
      let f = w.fault_of in
      let m = length f.front in
      let front_of : f.front ++ (f.beyond ++ beyond) ≡ frame ++ more =
      sym (append_assoc f.front f.beyond beyond) ∙ ap (λ z. z ++ beyond) (sym f.whole) ∙ sym whole in
      let longer : m ≤ length seen = omega (arith, ap length f.whole, length-append f.front f.beyond) in
      elim (cases_lt (length seen) n) [
        | inl inside ↦
            let begins : take m frame ≡ f.front =
            sym (take-append-le m frame more (omega (arith, inside, longer))) ∙ ap (take m) (sym front_of) ∙ take_at f.front (f.beyond ++ beyond) m refl in
            let split : frame ≡ f.front ++ drop m frame = sym (take-append-drop m frame) ∙ ap (λ z. z ++ drop m frame) begins in
            f.cause.not_viable (viable r x f.front (drop m frame) (subst (IsSpelling r x) split spelled) w.rule)
        | inr within ↦
            let cut : take n seen ≡ frame =
            sym (take-append-le n seen beyond within) ∙ ap (take n) (sym whole) ∙ take_at frame more n refl in
            w.no_value n (record { tree = spelled.tree; spells = subst (Spells spelled.tree) (sym cut) spelled.spells; keeps = spelled.keeps })
      ]

  memory_alone : (more seen beyond : List ℕ) (fault : Fault) → frame ++ more ≡ seen ++ beyond →
      RefusesByte r [] seen fault ⊎ LacksMemory r [] seen fault → fault.cause ≡ cause.OutOfMemory
  memory_alone more seen beyond fault whole (inl byte) = absurd (no_fault more seen beyond fault whole byte)
  memory_alone more seen beyond fault whole (inr lacks) = lacks.names

pub comes_back : NoSpellingBeginsAnother → FrontsOfSpellingsAreViable → WhatIsWrittenComesBack
comes_back begins viable c d value frame more next (w, kept) taken same h = of next h
  where
    spelled : IsSpelling (decoding.rules_of d.decoder) (datum_of value) frame
    spelled = subst (λ r. IsSpelling r (datum_of value) frame) (sym (d.same_rules ∙ same)) w.spelling

    of : (next : Next RespCodec Value CodecError) → gives_values d (frame ++ more) next → ComesBack (datum_of value) more next
    of (decoded (Ok read) t left) (x, is, ends, after) =
        let found = begins (decoding.rules_of d.decoder) (decoding.rules_of d.decoder) x (datum_of value) ends.used frame left more
        (ends.spelling [] taken) spelled (sym ends.whole) in
        (is ∙ found.0, found.2)
    of (decoded (Err e) t left) (fault, is, refused, after) = (
      fault,
      is,
      memory_alone viable (decoding.rules_of d.decoder) (datum_of value) frame spelled more refused.seen refused.beyond fault refused.begins
          (refused.refused [] taken),
    )
    of partial b = has_value viable (decoding.rules_of d.decoder) (datum_of value) frame spelled more (b.no_value [] taken)
    of (at_end (Ok (Some item)) t left) none = none
    of (at_end (Ok None) t left) (b, between, all, after) =
        has_value viable (decoding.rules_of d.decoder) (datum_of value) frame spelled more (b.no_value [] taken)
    of (at_end (Err e) t left) (b, inside) =
        has_value viable (decoding.rules_of d.decoder) (datum_of value) frame spelled more (b.no_value [] taken)
