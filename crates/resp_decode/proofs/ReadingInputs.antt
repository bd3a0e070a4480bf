-- What has been read of a whole input, a value at a time.
use Rattle.std.proofs.Common.{◌≡◌, ◌⊎◌, inl, inr, ℕ, zero, suc, ◌+◌, ◌-◌, ◌<◌, ◌≤◌, List, [], ◌∷◌, ◌++◌, length, take, drop, map, refl, sym, ap, subst, ◌∙◌, append_assoc, arith}
use Rattle.std.proofs.lemmas.List.{append-nil, length-drop, map-append, take-append-drop, take_all}
use Rattle.resp_value.specs.Data.{Datum}
use Rattle.resp_value.specs.Rules.{Rules}
use Rattle.resp_value.specs.Spellings.{AreSpellings, IsSpelling}
use Rattle.resp_value.specs.Values.{datum_of}
use Rattle.resp_value.specs.declared.value.Value.{Value}
use Rattle.resp_value.specs.declared.cause.Cause.TheVariants as cause
use Rattle.resp_value.proofs.SpellingLaws.{no_spelling_is_empty}
use Rattle.resp_scan.specs.Kinds.{rules_of}
use Rattle.resp_scan.specs.declared.event.Fault.{Fault}
use Rattle.resp_decode.specs.Decoding.{GivesValue, HasTaken, LacksMemory, RefusesByte, TakesPiece}
use Rattle.resp_decode.specs.Inputs.{IsReadUpTo, RefusesInput, RefusesRest}
use Rattle.resp_decode.specs.declared.all.AllFault.{AllFault}
use Rattle.resp_decode.specs.declared.decoder.Decoder.{Decoder}

-- spellings, and one more after them
are_spellings-more : (r : Rules) (xs : List Datum) (x : Datum) (front next : List ℕ) → AreSpellings r xs front → IsSpelling r x next →
    AreSpellings r (xs ++ x ∷ []) (front ++ next)
are_spellings-more r [] x front next are is = (next, [], is, refl, ap (λ z. z ++ next) are ∙ sym (append-nil next))
are_spellings-more r (y ∷ ys) x front next are is =
    let (first, beyond, spells, others, whole) = are in
    (first, beyond ++ next, spells, are_spellings-more r ys x beyond next others is, ap (λ z. z ++ next) whole ∙ append_assoc first beyond next)

-- nothing has been read of an input
pub reads_nothing : (r : Rules) (bytes : List ℕ) (d : Decoder) (values : List Value) → values ≡ [] → HasTaken d [] → rules_of d.scanner ≡ r →
    IsReadUpTo r bytes d values bytes
reads_nothing r bytes d values none takes same = record {
  front = [];
  spelled = subst (λ xs. AreSpellings r (map datum_of xs) []) (sym none) refl;
  whole = refl;
  takes = takes;
  same_rules = same;
}

-- a value more has been read
pub reads_value : (r : Rules) (bytes : List ℕ) (old new : Decoder) (values more : List Value) (x : Value) (rest beyond : List ℕ) (used : ℕ) →
    IsReadUpTo r bytes old values rest → GivesValue (rules_of old.scanner) new (take used rest) x → rules_of new.scanner ≡ rules_of old.scanner →
    more ≡ values ++ x ∷ [] → beyond ≡ drop used rest → IsReadUpTo r bytes new more beyond
reads_value r bytes old new values more x rest beyond used w given same is left =
    let spelled : AreSpellings r (map datum_of values ++ datum_of x ∷ []) (w.front ++ take used rest) =
    are_spellings-more r (map datum_of values) (datum_of x) w.front (take used rest) w.spelled
    (subst (λ z. IsSpelling z (datum_of x) (take used rest)) w.same_rules given.spelling) in
    let listed : map datum_of more ≡ map datum_of values ++ datum_of x ∷ [] = ap (map datum_of) is ∙ map-append datum_of values (x ∷ []) in
    record {
      front = w.front ++ take used rest;
      spelled = subst (λ xs. AreSpellings r xs (w.front ++ take used rest)) (sym listed) spelled;
      whole = w.whole ∙ ap (λ z. w.front ++ z) (sym (take-append-drop used rest)) ∙ sym (append_assoc w.front (take used rest) (drop used rest))
          ∙ ap (λ z. (w.front ++ take used rest) ++ z) (sym left);
      takes = given.takes;
      same_rules = same ∙ w.same_rules;
    }

-- a value uses bytes
pub value_uses_bytes : (r : Rules) (d : Decoder) (rest : List ℕ) (used : ℕ) (x : Value) → GivesValue r d (take used rest) x → 0 < used
value_uses_bytes r d rest zero x given = absurd (no_spelling_is_empty r (datum_of x) given.spelling)
value_uses_bytes r d rest (suc used) x given = omega arith

-- at the end the input is the values' spellings
pub reads_all : (r : Rules) (bytes : List ℕ) (d : Decoder) (values : List Value) (rest : List ℕ) → IsReadUpTo r bytes d values rest → length rest ≡ 0 →
    AreSpellings r (map datum_of values) bytes
reads_all r bytes d values (c ∷ rest) w end = absurd (omega (arith, end))
reads_all r bytes d values [] w end =
    let whole : bytes ≡ w.front = w.whole ∙ append-nil w.front in
    subst (AreSpellings r (map datum_of values)) (sym whole) w.spelled

-- what the decoder refuses of the rest
pub refuses_rest : (r : Rules) (rest : List ℕ) (fault : Fault) → RefusesByte r [] rest fault ⊎ LacksMemory r [] rest fault → RefusesRest r rest fault
refuses_rest r rest fault (inl byte) = inl byte
refuses_rest r rest fault (inr lacks) = inr (inr (inl lacks))

-- no memory was found for a value that has come whole
pub lacks_room : (r : Rules) (d : Decoder) (x : Value) (rest : List ℕ) (used : ℕ) (fault : Fault) → GivesValue r d (take used rest) x →
    used ≤ length rest → fault.cause ≡ cause.OutOfMemory → fault.at ≡ used → RefusesRest r rest fault
lacks_room r d x rest used fault given within names place = inr (inr (inr (record {
  names = names;
  within = omega (arith, within, place);
  value = datum_of x;
  spelling = subst (λ n. IsSpelling r (datum_of x) (take n rest)) (sym place) given.spelling;
})))

length-data : (values : List Value) → length (map datum_of values) ≡ length values
length-data [] = refl
length-data (x ∷ xs) = omega (arith, length-data xs)

-- an input whose rest is refused
pub refuses_input : (r : Rules) (bytes : List ℕ) (d : Decoder) (values : List Value) (rest : List ℕ) (refusal : AllFault) → IsReadUpTo r bytes d values rest →
    refusal.value ≡ length values + 1 → RefusesRest r rest refusal.fault → RefusesInput r bytes refusal
refuses_input r bytes d values rest refusal w number refused = record {
  values = map datum_of values;
  front = w.front;
  rest = rest;
  spelled = w.spelled;
  whole = w.whole;
  number = omega (arith, number, length-data values);
  refused = refused;
}

-- an input that ends inside a value
pub ends_inside : (r : Rules) (d : Decoder) (rest : List ℕ) (used : ℕ) (fault : Fault) → TakesPiece r (HasTaken d) rest rest used → 0 < length rest →
    fault.cause ≡ cause.Truncated → fault.at ≡ length rest → RefusesRest r rest fault
ends_inside r d rest used fault w full names place = inr (inl (record { names = names; place = place; begun = full; viable = w.viable; no_value = w.no_value }))

-- the bytes after those used
pub bytes_after : (used n : ℕ) (rest : List ℕ) → n ≡ length rest → take (n - used) (drop used rest) ≡ drop used rest
bytes_after used n rest size = take_all (n - used) (drop used rest) (omega (arith, length-drop used rest, size))
