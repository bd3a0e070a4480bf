-- Steps over heads of packets.
use Rattle.std.proofs.Common.{◌≡◌, ℕ, zero, suc, ◌+◌, ◌-◌, ◌<◌, ◌≤◌, true, false, List, Option, None, Some, IfNone, IfSome, ap, inl, inr, arith, drop, length, slice_index, subst, sym, take, ◌∙◌}
use Rattle.std.specs.Borrow.{Bor}
use Rattle.std.proofs.lemmas.List.{take_rest}
use Rattle.bytes.proofs.Ranges.{drop-take_less}
use Rattle.resp_capture.specs.Frames.{HasOption, IsOption, IsOtherOption, OptionAfter, next_option}
use Rattle.resp_capture.specs.declared.number.ByteOrder.{ByteOrder}
use Rattle.resp_capture.specs.Headers.{CarriesFour, CarriesPacket, CarriesSix, CarriesTcp, IsExtension, IsFour, IsFragment, IsFragmentSix, IsSix, IsTcp, IsTyped, Reaches, ReachesAfter, end_six, extension_size, is_extension, type_place}
use Rattle.resp_capture.specs.Segments.{HasFragment, HasSegment}
use Rattle.resp_capture.specs.declared.address.IpAddress.{IpAddress}
use Rattle.resp_capture.specs.declared.link.LinkType.{LinkType}
use Rattle.resp_capture.specs.declared.link.LinkType.TheVariants.{Loopback, Ethernet, Raw, Cooked, CookedTwo}
use Rattle.resp_capture.specs.declared.transport.Segment.{Segment}
use Rattle.std.proofs.Math.Dec.{eqb}
use Rattle.std.proofs.lemmas.Bool.{eq-eqb, eqb-true}

true≢false : true ≡ false → ⊥
true≢false e = cc

-- the bytes after a header, as the code cuts them
after_header : (bytes : List ℕ) (size : ℕ) → size ≡ extension_size bytes → take (length bytes - size) (drop size bytes) ≡ drop (extension_size bytes) bytes
after_header bytes size e = take_rest bytes size ∙ ap (λ n. drop n bytes) e

-- one header more
pub reaches_over : (found : Option (ℕ × Bor (List ℕ))) (most next : ℕ) (bytes : List ℕ) (size : ℕ) → is_extension next ≡ true → size ≡ extension_size bytes →
    IsExtension bytes → 0 < most →
    IfSome found (λ f. Reaches (most - 1) (slice_index bytes 0) (take (length bytes - size) (drop size bytes)) f.0 f.1.now) →
    IfSome found (λ f. Reaches most next bytes f.0 f.1.now)
reaches_over None most next bytes size is e whole some reaches = tt
reaches_over (Some f) most next bytes size is e whole some reaches = record {
  count = suc reaches.count;
  within = omega (arith, reaches.within);
  reaches = (is, whole, subst (λ b. ReachesAfter reaches.count (slice_index bytes 0) b f.0 f.1.now) (after_header bytes size e) reaches.reaches);
}

-- a header that is cut off
pub reaches_cut : (found : Option (ℕ × Bor (List ℕ))) (next : ℕ) (bytes : List ℕ) → is_extension next ≡ true → (IsExtension bytes → ⊥) → (most : ℕ) →
    IfNone found ((protocol : ℕ) (rest : List ℕ) → Reaches most next bytes protocol rest → ⊥)
reaches_cut (Some f) next bytes is cut most = tt
reaches_cut None next bytes is cut most = λ protocol rest reaches. go reaches.count protocol rest reaches.reaches
  where
    go : (count protocol : ℕ) (rest : List ℕ) → ReachesAfter count next bytes protocol rest → ⊥
    go zero protocol rest (is_not, other, same) = true≢false (sym is ∙ is_not)
    go (suc count) protocol rest (is', whole, other) = cut whole

-- what is not reached after a header
pub reaches_not : (found : Option (ℕ × Bor (List ℕ))) (most next : ℕ) (bytes : List ℕ) (size : ℕ) → is_extension next ≡ true → size ≡ extension_size bytes →
    IfNone found ((protocol : ℕ) (rest : List ℕ) → Reaches (most - 1) (slice_index bytes 0) (take (length bytes - size) (drop size bytes)) protocol rest → ⊥) →
    IfNone found ((protocol : ℕ) (rest : List ℕ) → Reaches most next bytes protocol rest → ⊥)
reaches_not (Some f) most next bytes size is e none = tt
reaches_not None most next bytes size is e none = λ protocol rest reaches. go reaches.count protocol rest reaches.within reaches.reaches
  where
    go : (count protocol : ℕ) (rest : List ℕ) → count ≤ most → ReachesAfter count next bytes protocol rest → ⊥
    go zero protocol rest within (is_not, other, same) = true≢false (sym is ∙ is_not)
    go (suc count) protocol rest within (is', whole, other) = none protocol rest (record {
      count = count;
      within = omega arith;
      reaches = subst (λ b. ReachesAfter count (slice_index bytes 0) b protocol rest) (sym (after_header bytes size e)) other;
    })

-- ---- options

after_option : (order : ByteOrder) (options : List ℕ) (next : ℕ) → next ≡ next_option order options →
    take (length options - next) (drop next options) ≡ drop (next_option order options) options
after_option order options next e = take_rest options next ∙ ap (λ n. drop n options) e

here_or_later : (order : ByteOrder) (code least : ℕ) (options bytes : List ℕ) → IsOption order code least options bytes →
    IsOtherOption order code least options → ⊥
here_or_later order code least options bytes is other = omega (arith, is.long, other.short is.code_is)

-- the option comes later
pub option_later : (found : Option (Bor (List ℕ))) (order : ByteOrder) (code least : ℕ) (options : List ℕ) (next : ℕ) → next ≡ next_option order options →
    IsOtherOption order code least options →
    IfSome found (λ bytes. HasOption order code least (take (length options - next) (drop next options)) bytes.now) →
    IfSome found (λ bytes. HasOption order code least options bytes.now)
option_later None order code least options next e other has = tt
option_later (Some bytes) order code least options next e other (count, after) =
    (suc count, (other, subst (λ o. OptionAfter count order code least o bytes.now) (after_option order options next e) after))

-- or there is none
pub no_option : (found : Option (Bor (List ℕ))) (order : ByteOrder) (code least : ℕ) (options : List ℕ) (next : ℕ) → next ≡ next_option order options →
    ((bytes : List ℕ) → IsOption order code least options bytes → ⊥) →
    IfNone found ((bytes : List ℕ) → HasOption order code least (take (length options - next) (drop next options)) bytes → ⊥) →
    IfNone found ((bytes : List ℕ) → HasOption order code least options bytes → ⊥)
no_option (Some bytes) order code least options next e here later = tt
no_option None order code least options next e here later = λ bytes has. go has.0 bytes has.1
  where
    go : (count : ℕ) (bytes : List ℕ) → OptionAfter count order code least options bytes → ⊥
    go zero bytes is = here bytes is
    go (suc count) bytes (other, after) =
        later bytes (count, subst (λ o. OptionAfter count order code least o bytes) (sym (after_option order options next e)) after)

-- no option begins before the end
pub none_here : (order : ByteOrder) (code least : ℕ) (options bytes : List ℕ) →
    ((is : IsOption order code least options bytes) → ⊥) → (IsOtherOption order code least options → ⊥) →
    HasOption order code least options bytes → ⊥
none_here order code least options bytes here other (zero, is) = here is
none_here order code least options bytes here other (suc count, (is, after)) = other is

-- all options with this code begin with the same bytes
option_one : (n m : ℕ) (order : ByteOrder) (code least : ℕ) (options a b : List ℕ) → OptionAfter n order code least options a →
    OptionAfter m order code least options b → a ≡ b
option_one zero zero order code least options a b is is' = is.bytes_are ∙ sym is'.bytes_are
option_one zero (suc m) order code least options a b is (other, after) = absurd (here_or_later order code least options a is other)
option_one (suc n) zero order code least options a b (other, after) is = absurd (here_or_later order code least options b is other)
option_one (suc n) (suc m) order code least options a b (other, after) (other', after') =
    option_one n m order code least (drop (next_option order options) options) a b after after'

pub same_option : (order : ByteOrder) (code least : ℕ) (options a b : List ℕ) → HasOption order code least options a →
    HasOption order code least options b → a ≡ b
same_option order code least options a b has has' = option_one has.0 has'.0 order code least options a b has.1 has'.1

-- ---- frames of Ethernet

pub no_ethernet : (found : Option (Bor (List ℕ))) (frame : List ℕ) (place : ℕ) → place ≡ type_place frame →
    IfNone found ((packet : List ℕ) → IsTyped place (place + 2) frame packet → ⊥) →
    IfNone found ((packet : List ℕ) → (22 ≤ length frame) × IsTyped (type_place frame) (type_place frame + 2) frame packet → ⊥)
no_ethernet (Some packet) frame place e none = tt
no_ethernet None frame place e none = λ packet carries. none packet (subst (λ p. IsTyped p (p + 2) frame packet) (sym e) carries.1)

-- ---- packets of version 4

-- the bytes of a packet from its head to its end
pub from_head : (packet : List ℕ) (head end : ℕ) → head ≤ end → take (end - head) (drop head packet) ≡ drop head (take end packet)
from_head packet head end within = sym (drop-take_less packet head end within)

-- ---- packets of version 6

six_bytes : (packet : List ℕ) (end : ℕ) → end ≡ end_six packet → 40 ≤ end → take (end - 40) (drop 40 packet) ≡ drop 40 (take (end_six packet) packet)
six_bytes packet end e least = from_head packet 40 end least ∙ ap (λ n. drop 40 (take n packet)) e

pub carries_six : (found : Option (ℕ × Bor (List ℕ))) (packet : List ℕ) (end : ℕ) → IsSix packet → end ≡ end_six packet → 40 ≤ end →
    IfSome found (λ f. Reaches 8 (slice_index packet 6) (take (end - 40) (drop 40 packet)) f.0 f.1.now) →
    IfSome found (λ f. CarriesSix packet f.0 f.1.now)
carries_six None packet end is e least reaches = tt
carries_six (Some f) packet end is e least reaches = record {
  six = is;
  reaches = subst (λ b. Reaches 8 (slice_index packet 6) b f.0 f.1.now) (six_bytes packet end e least) reaches;
}

pub carries_no_six : (found : Option (ℕ × Bor (List ℕ))) (packet : List ℕ) (end : ℕ) → end ≡ end_six packet → 40 ≤ end →
    IfNone found ((protocol : ℕ) (rest : List ℕ) → Reaches 8 (slice_index packet 6) (take (end - 40) (drop 40 packet)) protocol rest → ⊥) →
    IfNone found ((protocol : ℕ) (bytes : List ℕ) → CarriesSix packet protocol bytes → ⊥)
carries_no_six (Some f) packet end e least none = tt
carries_no_six None packet end e least none = λ protocol bytes carries.
    none protocol bytes (subst (λ b. Reaches 8 (slice_index packet 6) b protocol bytes) (sym (six_bytes packet end e least)) carries.reaches)

-- the headers lead to one protocol and to one place
reaches_one : (n m next : ℕ) (bytes : List ℕ) (p p' : ℕ) (r r' : List ℕ) → ReachesAfter n next bytes p r → ReachesAfter m next bytes p' r' →
    (p ≡ p') × (r ≡ r')
reaches_one zero zero next bytes p p' r r' (a, b, c) (a', b', c') = (b ∙ sym b', c ∙ sym c')
reaches_one zero (suc m) next bytes p p' r r' (a, b, c) (a', whole, after) = absurd (true≢false (sym a' ∙ a))
reaches_one (suc n) zero next bytes p p' r r' (a, whole, after) (a', b, c) = absurd (true≢false (sym a ∙ a'))
reaches_one (suc n) (suc m) next bytes p p' r r' (a, whole, after) (a', whole', after') =
    reaches_one n m (slice_index bytes 0) (drop (extension_size bytes) bytes) p p' r r' after after'

pub six_one : (packet : List ℕ) (p p' : ℕ) (r r' : List ℕ) → CarriesSix packet p r → CarriesSix packet p' r' → (p ≡ p') × (r ≡ r')
six_one packet p p' r r' a b =
    reaches_one a.reaches.count b.reaches.count (slice_index packet 6) (drop 40 (take (end_six packet) packet)) p p' r r' a.reaches.reaches b.reaches.reaches

-- a packet is a fragment if its protocol is that of fragments
pub fragment_iff : (packet : List ℕ) (protocol : ℕ) (rest : List ℕ) → CarriesSix packet protocol rest →
    (eqb protocol 44 ≡ true → IsFragmentSix packet) × (IsFragmentSix packet → eqb protocol 44 ≡ true)
fragment_iff packet protocol rest carries = (
  λ is. (rest, subst (λ p. CarriesSix packet p rest) (eqb-true protocol 44 is) carries),
  λ fragment. eq-eqb protocol 44 (six_one packet protocol 44 rest fragment.0 carries fragment.1).0,
)

-- ---- packets that carry TCP

four_or_six : (packet : List ℕ) → IsFour packet → IsSix packet → ⊥
four_or_six packet four six = omega (arith, four.version, six.version)

-- a packet carries the bytes of one connection
pub tcp_one : (packet : List ℕ) (from to from' to' : IpAddress) (bytes bytes' : List ℕ) → CarriesTcp packet from to bytes → CarriesTcp packet from' to' bytes' →
    bytes ≡ bytes'
tcp_one packet from to from' to' bytes bytes' (inl a) (inl b) = a.bytes_are ∙ sym b.bytes_are
tcp_one packet from to from' to' bytes bytes' (inl a) (inr b) = absurd (four_or_six packet a.four b.carries.six)
tcp_one packet from to from' to' bytes bytes' (inr a) (inl b) = absurd (four_or_six packet b.four a.carries.six)
tcp_one packet from to from' to' bytes bytes' (inr a) (inr b) = (six_one packet 6 6 bytes bytes' a.carries b.carries).1

-- a fragment carries no connection
pub no_tcp_in_fragment : (packet : List ℕ) → IsFragment packet → (from to : IpAddress) (bytes : List ℕ) → CarriesTcp packet from to bytes → ⊥
no_tcp_in_fragment packet (inl (four, fragment)) from to bytes (inl a) = omega (arith, fragment, a.whole)
no_tcp_in_fragment packet (inl (four, fragment)) from to bytes (inr a) = four_or_six packet four a.carries.six
no_tcp_in_fragment packet (inr (rest, six)) from to bytes (inl a) = four_or_six packet a.four six.six
no_tcp_in_fragment packet (inr (rest, six)) from to bytes (inr a) = omega (arith, (six_one packet 44 6 rest bytes six a.carries).0)

-- no version of the packet carries a connection
pub no_tcp : (packet : List ℕ) → ((from to : IpAddress) (bytes : List ℕ) → CarriesFour packet from to bytes → ⊥) →
    ((bytes : List ℕ) → CarriesSix packet 6 bytes → ⊥) → (from to : IpAddress) (bytes : List ℕ) → CarriesTcp packet from to bytes → ⊥
no_tcp packet four six from to bytes (inl a) = four from to bytes a
no_tcp packet four six from to bytes (inr a) = six bytes a.carries

-- ---- frames

-- a frame carries one packet
pub frame_one : (link : LinkType) (frame p q : List ℕ) → CarriesPacket link frame p → CarriesPacket link frame q → p ≡ q
frame_one Loopback frame p q a b = a.1 ∙ sym b.1
frame_one Ethernet frame p q a b = a.1.packet_is ∙ sym b.1.packet_is
frame_one Raw frame p q a b = a ∙ sym b
frame_one Cooked frame p q a b = a.packet_is ∙ sym b.packet_is
frame_one CookedTwo frame p q a b = a.packet_is ∙ sym b.packet_is

-- a packet that carries no connection carries no segment
pub no_segment : (link : LinkType) (frame packet : List ℕ) → CarriesPacket link frame packet →
    ((from to : IpAddress) (bytes : List ℕ) → CarriesTcp packet from to bytes → ⊥) → (segment : Segment) → HasSegment link frame segment → ⊥
no_segment link frame packet carries none segment has =
    let same : has.packet ≡ packet = frame_one link frame has.packet packet has.carries carries in
    none has.from has.to has.bytes (subst (λ p. CarriesTcp p has.from has.to has.bytes) same has.tcp)

-- nor has a frame of another packet a fragment
pub no_fragment : (link : LinkType) (frame packet : List ℕ) → CarriesPacket link frame packet → (IsFragment packet → ⊥) →
    HasFragment link frame → ⊥
no_fragment link frame packet carries none has =
    none (subst IsFragment (frame_one link frame has.packet packet has.carries carries) has.fragment)

-- bytes that are no segment
pub no_segment_in : (link : LinkType) (frame packet : List ℕ) (from to : IpAddress) (bytes : List ℕ) → CarriesPacket link frame packet →
    CarriesTcp packet from to bytes → (IsTcp bytes → ⊥) → (segment : Segment) → HasSegment link frame segment → ⊥
no_segment_in link frame packet from to bytes carries tcp none segment has =
    let same : has.packet ≡ packet = frame_one link frame has.packet packet has.carries carries in
    let tcp' : CarriesTcp packet has.from has.to has.bytes = subst (λ p. CarriesTcp p has.from has.to has.bytes) same has.tcp in
    let is : has.bytes ≡ bytes = tcp_one packet has.from has.to from to has.bytes bytes tcp' tcp in
    none (subst (λ b. IsTcp b) is has.segment_is.tcp)
