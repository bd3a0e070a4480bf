-- Steps over written records.
use Rattle.std.proofs.Common.{◌≡◌, ℕ, zero, suc, ◌+◌, ◌*◌, ◌/◌, ◌%◌, ◌^◌, ◌<◌, ◌≤◌, ◌==◌, List, ◌∷◌, Ok, ap, inl, inr, arith, drop, if◌then◌else◌, length, min, refl, slice_index, subst, sym, take, ◌∙◌}
use Rattle.std.proofs.lemmas.Grind.{common_steps}
use Rattle.std.proofs.lemmas.List.{take_all}
use Rattle.resp_capture.specs.Blocks.{record_size}
use Rattle.resp_capture.specs.Headers.{CarriesFour, CarriesTcp, IsFour, end_four, head_four, head_tcp}
use Rattle.resp_capture.specs.Numbers.{number16, number32}
use Rattle.resp_capture.specs.Segments.{HasSegment, IsSegment}
use Rattle.resp_capture.specs.Writing.{IsRecordOf, IsSameSegment, SegmentsAreReadBack, TimesAreReadBack, words_sum}
use Rattle.resp_capture.specs.declared.address.IpAddress.{IpAddress}
use Rattle.resp_capture.specs.declared.address.IpAddress.TheVariants.{Four}
use Rattle.resp_capture.specs.declared.link.LinkType.TheVariants.{Raw}
use Rattle.resp_capture.specs.declared.number.ByteOrder.TheVariants.{Big}
use Rattle.resp_capture.specs.declared.time.Time.{Time}
use Rattle.resp_capture.specs.declared.transport.Segment.{Segment}

end_is : (n l : ℕ) → n ≡ l → (if n == 0 then l else min n l) ≡ l
end_is zero l e = refl
end_is (suc n) l e = grind (arith, common_steps, e)

-- a record of as many bytes as its head says is whole
pub record_is_whole : (bytes : List ℕ) → 16 ≤ length bytes → length bytes ≤ 1048576 → number32 Big 8 bytes + 16 ≡ length bytes →
    record_size Big bytes ≡ Ok (length bytes)
record_is_whole bytes least most said = grind (arith, least, most, said)

-- a packet of version 4 with a head of 20 bytes, which says its length
pub carries_four : (packet rest : List ℕ) (from to : ℕ) → drop 20 packet ≡ rest → 20 ≤ length packet → slice_index packet 0 ≡ 69 →
    number16 Big 2 packet ≡ length packet → number16 Big 6 packet ≡ 16384 → slice_index packet 9 ≡ 6 →
    number32 Big 12 packet ≡ from → number32 Big 16 packet ≡ to → CarriesFour packet (Four from) (Four to) rest
carries_four packet rest from to rest_is least first said parts protocol from_is to_is =
    let head : head_four packet ≡ 20 = ap (λ n. (n % 16) * 4) first in
    let end : end_four packet ≡ length packet = end_is (number16 Big 2 packet) (length packet) said in
    let all : take (end_four packet) packet ≡ packet = take_all (end_four packet) packet (omega (arith, end)) in
    record {
      four = record {
        least = least;
        version = ap (λ n. n / 16) first;
        head = omega (arith, head);
        whole = omega (arith, head, end, least);
      };
      whole = ap (λ n. n % 16384) parts;
      protocol = protocol;
      from_is = ap Four (sym from_is);
      to_is = ap Four (sym to_is);
      bytes_are = sym rest_is ∙ ap (λ n. drop n packet) (sym head) ∙ ap (λ p. drop (head_four packet) p) (sym all);
    }

-- a segment with a head of 20 bytes
pub is_segment : (from to : ℕ) (bytes : List ℕ) (segment : Segment) (flags : ℕ) → drop 20 bytes ≡ segment.data.now → 20 ≤ length bytes →
    Four from ≡ segment.from.address → Four to ≡ segment.to.address →
    number16 Big 0 bytes ≡ segment.from.port → number16 Big 2 bytes ≡ segment.to.port → number32 Big 4 bytes ≡ segment.sequence →
    slice_index bytes 12 ≡ 80 → slice_index bytes 13 ≡ flags →
    (flags % 2 == 1) ≡ segment.ends → ((flags / 2) % 2 == 1) ≡ segment.begins →
    ((flags / 4) % 2 == 1) ≡ segment.resets → ((flags / 16) % 2 == 1) ≡ segment.acknowledges →
    IsSegment (Four from) (Four to) bytes segment
is_segment from to bytes segment flags data_of least from_is to_is from_port to_port sequence twelve thirteen ends begins resets acknowledges =
    let head : head_tcp bytes ≡ 20 = ap (λ n. n / 16 * 4) twelve in
    record {
      tcp = record { least = least; head = omega (arith, head); whole = omega (arith, head, least) };
      from_address = sym from_is;
      from_port = sym from_port;
      to_address = sym to_is;
      to_port = sym to_port;
      sequence_is = sym sequence;
      begins_is = sym begins ∙ ap (λ n. (n / 2) % 2 == 1) (sym thirteen);
      acknowledges_is = sym acknowledges ∙ ap (λ n. (n / 16) % 2 == 1) (sym thirteen);
      ends_is = sym ends ∙ ap (λ n. n % 2 == 1) (sym thirteen);
      resets_is = sym resets ∙ ap (λ n. (n / 4) % 2 == 1) (sym thirteen);
      data_is = sym data_of ∙ ap (λ n. drop n bytes) (sym head);
    }

-- the bytes of the three heads of a record, and those of its segment
abbrev pub heads_and_data : List ℕ → List ℕ → List ℕ → List ℕ → List ℕ
heads_and_data t p s rest =
    slice_index t 0 ∷ slice_index t 1 ∷ slice_index t 2 ∷ slice_index t 3 ∷ slice_index t 4 ∷ slice_index t 5 ∷ slice_index t 6 ∷ slice_index t 7 ∷
    slice_index t 8 ∷ slice_index t 9 ∷ slice_index t 10 ∷ slice_index t 11 ∷ slice_index t 12 ∷ slice_index t 13 ∷ slice_index t 14 ∷ slice_index t 15 ∷
    slice_index p 0 ∷ slice_index p 1 ∷ slice_index p 2 ∷ slice_index p 3 ∷ slice_index p 4 ∷ slice_index p 5 ∷ slice_index p 6 ∷
    slice_index p 7 ∷ slice_index p 8 ∷ slice_index p 9 ∷ slice_index p 10 ∷ slice_index p 11 ∷ slice_index p 12 ∷ slice_index p 13 ∷
    slice_index p 14 ∷ slice_index p 15 ∷ slice_index p 16 ∷ slice_index p 17 ∷ slice_index p 18 ∷ slice_index p 19 ∷
    slice_index s 0 ∷ slice_index s 1 ∷ slice_index s 2 ∷ slice_index s 3 ∷ slice_index s 4 ∷ slice_index s 5 ∷ slice_index s 6 ∷
    slice_index s 7 ∷ slice_index s 8 ∷ slice_index s 9 ∷ slice_index s 10 ∷ slice_index s 11 ∷ slice_index s 12 ∷ slice_index s 13 ∷
    slice_index s 14 ∷ slice_index s 15 ∷ slice_index s 16 ∷ slice_index s 17 ∷ slice_index s 18 ∷ slice_index s 19 ∷ rest

-- a record with these heads
pub is_record : (t p s : List ℕ) (time : Time) (segment : Segment) (from to flags : ℕ) → length segment.data.now ≤ 65495 →
    number32 Big 0 t ≡ time.seconds % 2 ^ 32 → number32 Big 4 t ≡ time.nanos →
    number32 Big 8 t ≡ 40 + length segment.data.now → number32 Big 12 t ≡ 40 + length segment.data.now →
    slice_index p 0 ≡ 69 → number16 Big 2 p ≡ 40 + length segment.data.now → number16 Big 6 p ≡ 16384 → slice_index p 9 ≡ 6 →
    number32 Big 12 p ≡ from → number32 Big 16 p ≡ to → words_sum p % 65535 ≡ 0 →
    number16 Big 0 s ≡ segment.from.port → number16 Big 2 s ≡ segment.to.port → number32 Big 4 s ≡ segment.sequence →
    slice_index s 12 ≡ 80 → slice_index s 13 ≡ flags → Four from ≡ segment.from.address → Four to ≡ segment.to.address →
    (flags % 2 == 1) ≡ segment.ends → ((flags / 2) % 2 == 1) ≡ segment.begins →
    ((flags / 4) % 2 == 1) ≡ segment.resets → ((flags / 16) % 2 == 1) ≡ segment.acknowledges →
    IsRecordOf (heads_and_data t p s segment.data.now) time segment
is_record t p s time segment from to flags fits seconds nanos captured all first said parts protocol from_is to_is checked from_port to_port sequence
    twelve thirteen from_four to_four ends begins resets acknowledges =
    let packet : List ℕ = drop 16 (heads_and_data t p s segment.data.now) in
    let tcp : List ℕ = drop 36 (heads_and_data t p s segment.data.now) in
    let four : CarriesFour packet (Four from) (Four to) tcp =
    carries_four packet tcp from to refl (omega arith) first (omega (arith, said)) parts protocol from_is to_is in
    record {
      whole = record_is_whole (heads_and_data t p s segment.data.now) (omega arith) (omega (arith, fits)) (omega (arith, captured));
      seconds_are = seconds;
      nanos_are = nanos;
      all_captured = all ∙ sym captured;
      four = four.four;
      segment_is = record {
        packet = packet;
        carries = refl;
        from = Four from;
        to = Four to;
        bytes = tcp;
        tcp = inl four;
        segment_is = is_segment from to tcp segment flags refl (omega arith) from_four to_four from_port to_port sequence twelve thirteen ends begins resets
            acknowledges;
      };
      checked = checked;
    }

four_not_six : (n : ℕ) → n ≡ 4 → n ≡ 6 → ⊥
four_not_six n four six = omega (arith, four, six)

-- a packet of version 4 carries TCP as one of this version
four_of : (packet : List ℕ) (from to : IpAddress) (bytes : List ℕ) → IsFour packet → CarriesTcp packet from to bytes → CarriesFour packet from to bytes
four_of packet from to bytes four carries = elim carries [
  | inl is ↦ is
  | inr six ↦ absurd (four_not_six _ four.version six.carries.six.version)
]

-- what is found of a segment, by the bytes that were sent
same_segment : (from to : IpAddress) (bytes : List ℕ) (one other : Segment) → IsSegment from to bytes one → IsSegment from to bytes other →
    IsSameSegment one other
same_segment from to bytes one other is is' = record {
  same_from_address = is.from_address ∙ sym is'.from_address;
  same_from_port = is.from_port ∙ sym is'.from_port;
  same_to_address = is.to_address ∙ sym is'.to_address;
  same_to_port = is.to_port ∙ sym is'.to_port;
  same_sequence = is.sequence_is ∙ sym is'.sequence_is;
  same_begins = is.begins_is ∙ sym is'.begins_is;
  same_acknowledges = is.acknowledges_is ∙ sym is'.acknowledges_is;
  same_ends = is.ends_is ∙ sym is'.ends_is;
  same_resets = is.resets_is ∙ sym is'.resets_is;
  same_data = is.data_is ∙ sym is'.data_is;
}

one_segment : (packet : List ℕ) (segment found : Segment) → IsFour packet → HasSegment Raw packet segment → HasSegment Raw packet found →
    IsSameSegment found segment
one_segment packet segment found four has has' =
    let is : CarriesFour packet has.from has.to has.bytes =
    four_of packet has.from has.to has.bytes four (subst (λ p. CarriesTcp p has.from has.to has.bytes) has.carries has.tcp) in
    let is' : CarriesFour packet has'.from has'.to has'.bytes =
    four_of packet has'.from has'.to has'.bytes four (subst (λ p. CarriesTcp p has'.from has'.to has'.bytes) has'.carries has'.tcp) in
    same_segment has.from has.to has.bytes found segment
    (subst (λ b. IsSegment has.from has.to b found) (is'.bytes_are ∙ sym is.bytes_are)
    (subst (λ t. IsSegment has.from t has'.bytes found) (is'.to_is ∙ sym is.to_is)
    (subst (λ f. IsSegment f has'.to has'.bytes found) (is'.from_is ∙ sym is.from_is) has'.segment_is)))
    has.segment_is

pub segments_are_read_back : SegmentsAreReadBack
segments_are_read_back bytes time segment found is has = one_segment (drop 16 bytes) segment found is.four is.segment_is has

nanos_back : (n : ℕ) → n < 1000000000 → ((n % 1000000000) * 1000000000) / 1000000000 ≡ n
nanos_back n less = omega (arith, less)

pub times_are_read_back : TimesAreReadBack
times_are_read_back bytes time found segment is seconds nanos has =
    let less : number32 Big 4 bytes < 1000000000 = omega (arith, is.nanos_are, nanos) in
    let no_more : number32 Big 4 bytes / 1000000000 ≡ 0 = omega (arith, less) in
    let all : time.seconds % 2 ^ 32 ≡ time.seconds = omega (arith, seconds) in (
      has.seconds_is ∙ ap (λ n. number32 Big 0 bytes + n) no_more ∙ omega (arith, is.seconds_are, all),
      has.nanos_is ∙ nanos_back (number32 Big 4 bytes) less ∙ is.nanos_are,
    )
