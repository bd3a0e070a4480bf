-- Steps of a stream.
use Rattle.std.proofs.Common.{◌≡◌, ◌⊎◌, ◌∙◌, ℕ, ◌+◌, ◌-◌, ◌<◌, ◌≤◌, List, [], ◌∷◌, ◌++◌, ap, arith, drop, get_or, inl, inr, length, length-drop, refl, subst, sym}
use Rattle.std.specs.List.{IsAmong, remove}
use Rattle.std.proofs.lemmas.List.{get_or-drop, get_or_default}
use Rattle.std.proofs.lemmas.List.Edits.{length-remove}
use Rattle.resp_capture.proofs.Lists.{among_either, among_front, among_last, among_removed, removed_or_among}
use Rattle.resp_capture.specs.Streams.{Covers, Holds, IsHeld, Skips, StandsIn, StreamState, TakesHeld, TakesSegment}
use Rattle.resp_capture.specs.declared.held.WaitingPart.{WaitingPart}

stands_along : (at at' : ℕ) (bytes bytes' : List ℕ) (place byte : ℕ) → at ≡ at' → bytes ≡ bytes' → StandsIn at bytes place byte →
    StandsIn at' bytes' place byte
stands_along at at' bytes bytes' place byte e e' stands =
    subst (λ b. StandsIn at' b place byte) e' (subst (λ a. StandsIn a bytes place byte) e stands)

still_held : (held : List WaitingPart) (part : WaitingPart) (place : ℕ) → Holds held place → Holds (held ++ part ∷ []) place
still_held held part place holds =
    let is = holds.is_held in
    record { byte = holds.byte; is_held = record { part = is.part; among = among_front held (part ∷ []) is.part is.among; stands = is.stands } }

-- a part was added, and nothing was given
pub takes_by_waiting : (old new : StreamState) (at : ℕ) (bytes : List ℕ) (part : WaitingPart) → new.first ≡ old.first → new.next ≡ old.next →
    part.at ≡ at → part.bytes.items ≡ bytes → new.held ≡ old.held ++ part ∷ [] → TakesSegment old new at bytes []
takes_by_waiting old new at bytes part first next at_is bytes_are held = record {
  same_first = first;
  next_is = next ∙ (omega arith);
  given_is = λ index within. absurd (omega arith);
  known = λ place byte is_held. known place byte (subst (λ h. IsHeld h place byte) held is_held);
  kept = λ place after either. subst (λ h. Holds h place) (sym held) (kept place either);
}
  where
    known : (place byte : ℕ) → IsHeld (old.held ++ part ∷ []) place byte → IsHeld old.held place byte ⊎ StandsIn at bytes place byte
    known place byte is = elim (among_either old.held part is.part is.among) [
      | inl before ↦ inl (record { part = is.part; among = before; stands = is.stands })
      | inr last ↦ inr (stands_along _ _ _ _ place byte (ap (λ (p : WaitingPart). p.at) last ∙ at_is)
          (ap (λ (p : WaitingPart). p.bytes.items) last ∙ bytes_are) is.stands)
    ]

    covered : (place : ℕ) → Covers at (length bytes) place → Holds (old.held ++ part ∷ []) place
    covered place (from, to) =
        let stands : StandsIn at bytes place (get_or bytes (place - at) 0) =
        record { index = place - at; within = omega arith; place_is = omega arith; byte_is = refl } in
        record {
          byte = get_or bytes (place - at) 0;
          is_held = record {
            part = part;
            among = among_last old.held part;
            stands = stands_along _ _ _ _ place _ (sym at_is) (sym bytes_are) stands;
          };
        }

    kept : (place : ℕ) → Holds old.held place ⊎ Covers at (length bytes) place → Holds (old.held ++ part ∷ []) place
    kept place (inl holds) = still_held old.held part place holds
    kept place (inr covers) = covered place covers

-- a part was removed, and its bytes from the next place on were given
pub takes_removed : (old new : StreamState) (i : ℕ) (part : WaitingPart) (given : List ℕ) (skip : ℕ) → i < length old.held →
    part ≡ get_or old.held i part → part.at ≤ old.next → new.first ≡ old.first →
    new.held ≡ remove old.held i → given ≡ drop skip part.bytes.items → new.next ≡ old.next + length given →
    skip ≤ old.next - part.at → (skip ≡ old.next - part.at) ⊎ (skip ≡ length part.bytes.items) → TakesHeld old new given
takes_removed old new i part given skip inside is_part ready first held given_is next within skips = record {
  same_first = first;
  next_is = next;
  given_is = λ index less. byte index less;
  known = λ place byte is_held. known place byte (subst (λ h. IsHeld h place byte) held is_held);
  kept = λ place after holds. subst (λ h. Holds h place) (sym held) (kept place after holds);
  fewer = ap (λ (h : List WaitingPart). length h + 1) held ∙ length-remove old.held i inside;
}
  where
    size : length given ≡ length part.bytes.items - skip
    size = ap length given_is ∙ length-drop skip part.bytes.items

    known : (place byte : ℕ) → IsHeld (remove old.held i) place byte → IsHeld old.held place byte
    known place byte is = record { part = is.part; among = among_removed old.held i is.part inside is.among; stands = is.stands }

    byte : (index : ℕ) → index < length given → IsHeld old.held (old.next + index) (get_or given index 0)
    byte index less = record {
      part = part;
      among = (i, (inside, is_part));
      stands = record {
        index = skip + index;
        within = omega (arith, size);
        place_is = elim skips [ inl by ↦ omega (arith, by) | inr all ↦ absurd (omega (arith, size, all)) ];
        byte_is = ap (λ (g : List ℕ). get_or g index 0) given_is ∙ get_or-drop skip part.bytes.items index 0;
      };
    }

    gone : (place : ℕ) → new.next ≤ place → (byte : ℕ) → StandsIn part.at part.bytes.items place byte → ⊥
    gone place after byte stands = elim skips [
      | inl by ↦ omega (arith, by, size, next, after, stands.within, stands.place_is)
      | inr all ↦ omega (arith, all, size, next, after, within, stands.within, stands.place_is)
    ]

    kept : (place : ℕ) → new.next ≤ place → Holds old.held place → Holds (remove old.held i) place
    kept place after holds =
        let is = holds.is_held in
        elim (removed_or_among old.held i is.part inside is.among) [
          | inl removed ↦
              let same : is.part ≡ part = removed ∙ get_or_default old.held i is.part part inside ∙ sym is_part in
              absurd (gone place after holds.byte (stands_along _ _ _ _ place holds.byte (ap (λ (p : WaitingPart). p.at) same)
              (ap (λ (p : WaitingPart). p.bytes.items) same) is.stands))
          | inr left ↦ record { byte = holds.byte; is_held = record { part = is.part; among = left; stands = is.stands } }
        ]

-- the next place is that of the first part, and nothing before it waits
pub skips_to : (old new : StreamState) (least missing : ℕ) → ((part : WaitingPart) → IsAmong old.held part → least ≤ part.at) →
    new.first ≡ old.first → new.held ≡ old.held → new.next ≡ old.next + missing → missing ≡ least - old.next → Skips old new missing
skips_to old new least missing is_least first held next missing_is = record {
  same_first = first;
  same_held = held;
  next_is = next;
  missing_is = λ place from to holds. none place from to holds;
}
  where
    none : (place : ℕ) → old.next ≤ place → place < new.next → Holds old.held place → ⊥
    none place from to holds =
        let is = holds.is_held in
        omega (arith, is_least is.part is.among, is.stands.place_is, from, to, next, missing_is)
