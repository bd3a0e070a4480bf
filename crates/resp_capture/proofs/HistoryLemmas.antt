-- All that has come of a side, and all that was told of it.
use Rattle.std.proofs.Common.{◌≡◌, ◌⊎◌, ◌∙◌, ℕ, ◌+◌, ◌<◌, ◌≤◌, List, [], ◌∷◌, ◌++◌, ap, arith, inl, inr, length, refl, slice_index, subst, sym}
use Rattle.resp_capture.proofs.Lists.{among_either, among_front, among_last}
use Rattle.resp_capture.specs.Histories.{AreOfSegments, Bytes, Came, HasCome, Missing, StaysTrueOfHeld, StaysTrueOfMissing, StaysTrueOfSegments, Told, end_of}
use Rattle.resp_capture.specs.Streams.{Covers, Holds, IsHeld, StandsIn, StreamState}

come_still : (came : List Came) (segment : Came) (place byte : ℕ) → HasCome came place byte → HasCome (came ++ segment ∷ []) place byte
come_still came segment place byte has =
    record { segment = has.segment; among = among_front came (segment ∷ []) has.segment has.among; stands = has.stands }

come_now : (came : List Came) (segment : Came) (place byte : ℕ) → StandsIn segment.at segment.bytes place byte →
    HasCome (came ++ segment ∷ []) place byte
come_now came segment place byte stands = record { segment = segment; among = among_last came segment; stands = stands }

of_more : (came : List Came) (segment : Came) (told : List Told) (at : ℕ) → AreOfSegments came at told →
    AreOfSegments (came ++ segment ∷ []) at told
of_more came segment [] at are = tt
of_more came segment (Bytes bytes ∷ told) at (here, rest) =
    (λ index within. come_still came segment _ _ (here index within), of_more came segment told (at + length bytes) rest)
of_more came segment (Missing count ∷ told) at are = of_more came segment told (at + count) are

end_after : (told : List Told) (at : ℕ) (last : Told) → end_of at (told ++ last ∷ []) ≡ end_of (end_of at told) (last ∷ [])
end_after [] at last = refl
end_after (Bytes bytes ∷ told) at last = end_after told (at + length bytes) last
end_after (Missing count ∷ told) at last = end_after told (at + count) last

of_bytes : (came : List Came) (told : List Told) (at : ℕ) (bytes : List ℕ) → AreOfSegments came at told →
    ((index : ℕ) → index < length bytes → HasCome came (end_of at told + index) (slice_index bytes index)) →
    AreOfSegments came at (told ++ Bytes bytes ∷ [])
of_bytes came [] at bytes are last = (last, tt)
of_bytes came (Bytes first ∷ told) at bytes (here, rest) last = (here, of_bytes came told (at + length first) bytes rest last)
of_bytes came (Missing count ∷ told) at bytes are last = of_bytes came told (at + count) bytes are last

of_missing : (came : List Came) (told : List Told) (at count : ℕ) → AreOfSegments came at told →
    AreOfSegments came at (told ++ Missing count ∷ [])
of_missing came [] at count are = tt
of_missing came (Bytes first ∷ told) at count (here, rest) = (here, of_missing came told (at + length first) count rest)
of_missing came (Missing other ∷ told) at count are = of_missing came told (at + other) count are

at_place : (came : List Came) (a b byte : ℕ) → a ≡ b → HasCome came a byte → HasCome came b byte
at_place came a b byte e has = subst (λ place. HasCome came place byte) e has

held_or_come : (came : List Came) (old : StreamState) (segment : Came) → ((place byte : ℕ) → IsHeld old.held place byte → HasCome came place byte) →
    (place byte : ℕ) → IsHeld old.held place byte ⊎ StandsIn segment.at segment.bytes place byte → HasCome (came ++ segment ∷ []) place byte
held_or_come came old segment waiting place byte (inl held) = come_still came segment place byte (waiting place byte held)
held_or_come came old segment waiting place byte (inr stands) = come_now came segment place byte stands

pub stays_true_of_held : StaysTrueOfHeld
stays_true_of_held came told old new given true_of takes = record {
  end = takes.next_is ∙ ap (λ n. n + length given) true_of.end ∙ sym (end_after told 0 (Bytes given));
  bytes = of_bytes came told 0 given true_of.bytes
      (λ index within. at_place came _ _ _ (ap (λ n. n + index) true_of.end) (true_of.waiting _ _ (takes.given_is index within)));
  waiting = λ place byte held. true_of.waiting place byte (takes.known place byte held);
  none_left_out = λ place byte has after. takes.kept place after (true_of.none_left_out place byte has (omega (arith, after, takes.next_is)));
}

pub stays_true_of_missing : StaysTrueOfMissing
stays_true_of_missing came told old new missing true_of skips = (
  record {
    end = skips.next_is ∙ ap (λ n. n + missing) true_of.end ∙ sym (end_after told 0 (Missing missing));
    bytes = of_missing came told 0 missing true_of.bytes;
    waiting = λ place byte held. true_of.waiting place byte (subst (λ h. IsHeld h place byte) skips.same_held held);
    none_left_out = λ place byte has after. subst (λ h. Holds h place) (sym skips.same_held)
        (true_of.none_left_out place byte has (omega (arith, after, skips.next_is)));
  },
  λ place byte from to has. skips.missing_is place from to (true_of.none_left_out place byte has from),
)

covers_of : (at : ℕ) (bytes : List ℕ) (place byte : ℕ) → StandsIn at bytes place byte → Covers at (length bytes) place
covers_of at bytes place byte stands = (omega (arith, stands.place_is), omega (arith, stands.place_is, stands.within))

pub stays_true_of_segments : StaysTrueOfSegments
stays_true_of_segments came told old new at bytes given true_of takes = record {
  end = takes.next_is ∙ ap (λ n. n + length given) true_of.end ∙ sym (end_after told 0 (Bytes given));
  bytes = of_bytes (came ++ segment ∷ []) told 0 given (of_more came segment told 0 true_of.bytes)
      (λ index within. at_place (came ++ segment ∷ []) _ _ _ (ap (λ n. n + index) true_of.end)
      (come_now came segment _ _ (takes.given_is index within)));
  waiting = λ place byte held. held_or_come came old segment true_of.waiting place byte (takes.known place byte held);
  none_left_out = λ place byte has after. kept place byte has after;
}
  where
    segment : Came
    segment = record { at = at; bytes = bytes }

    kept : (place byte : ℕ) → HasCome (came ++ segment ∷ []) place byte → new.next ≤ place → Holds new.held place
    kept place byte has after = elim (among_either came segment has.segment has.among) [
      | inl before ↦ takes.kept place after (inl (true_of.none_left_out place byte
          (record { segment = has.segment; among = before; stands = has.stands }) (omega (arith, after, takes.next_is))))
      | inr last ↦ takes.kept place after (inr (covers_of at bytes place byte
          (subst (λ (s : Came). StandsIn s.at s.bytes place byte) last has.stands)))
    ]
