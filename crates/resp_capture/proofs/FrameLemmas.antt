-- Blocks without a packet.
use Rattle.std.proofs.Common.{rules, ◌≡◌, ◌==◌, ◌||◌, true, true≢false, ℕ, List, Option, None, Some, Result, Ok, Err, arith, inl, inr, subst, sym}
use Rattle.std.specs.Prelude.{IfNone, IfOk, OnErr}
use Rattle.resp_capture.specs.Frames.{HasNo, HasRecord, IsEnhanced, IsFrame, IsSimple, has_time}
use Rattle.resp_capture.specs.Numbers.{number32}
use Rattle.resp_capture.specs.Reading.{HasFrame, HasFrameIn}
use Rattle.resp_capture.specs.declared.block.Format.{Format}
use Rattle.resp_capture.specs.declared.block.Format.TheVariants as format
use Rattle.resp_capture.specs.declared.capture.Capture.{Capture}
use Rattle.resp_capture.specs.declared.interface.Interface.{Interface}
use Rattle.resp_capture.specs.declared.number.ByteOrder.{ByteOrder}

-- what follows from a fact holds where there is no value
pub if_none : {T P Q : Type 0} (found : Option T) → (P → Q) → IfNone found P → IfNone found Q
if_none None follows fact = follows fact
if_none (Some value) follows fact = fact

-- a fact holds where there is no value
pub always : {T P : Type 0} (found : Option T) → P → IfNone found P
always None fact = fact
always (Some value) fact = search rules

-- what follows from a fact holds of a result without a value
pub if_ok_none : {T E P Q : Type 0} (result : Result (Option T) E) → (P → Q) →
    IfOk result (λ (found : Option T). IfNone found P) → IfOk result (λ (found : Option T). IfNone found Q)
if_ok_none (Ok found) follows fact = if_none found follows fact
if_ok_none (Err error) follows fact = fact

-- what follows from a fact holds of an error
pub on_err : {T E P Q : Type 0} (result : Result T E) → (P → Q) → OnErr result P → OnErr result Q
on_err (Ok value) follows fact = fact
on_err (Err error) follows fact = follows fact

-- what holds where a result has no value holds where the value is none
pub found_none : {T E : Type 0} (P : Type 0) (result : Result (Option T) E) (found : Option T) → result ≡ Ok found →
    IfOk result (λ (value : Option T). IfNone value P) → IfNone found P
found_none {T} {E} P result found is fact = subst (λ (r : Result (Option T) E). IfOk r (λ (value : Option T). IfNone value P)) is fact

-- what holds of an error holds if the result is one
pub failed : {T E : Type 0} (P : Type 0) (result : Result T E) (error : E) → result ≡ Err error → OnErr result P → P
failed {T} {E} P result error is fact = subst (λ (r : Result T E). OnErr r P) is fact

-- a block with a packet and its time is no simple one
pub only_enhanced : (order : ByteOrder) (interfaces : List Interface) (block : List ℕ) → has_time order block ≡ true →
    HasNo (IsEnhanced order interfaces block) → HasNo (IsFrame order interfaces block)
only_enhanced order interfaces block timed lacks frame (inl enhanced) = lacks frame enhanced
only_enhanced order interfaces block timed lacks frame (inr simple) =
    true≢false (sym (subst (λ (kind : ℕ). (kind == 6) || (kind == 2) ≡ true) simple.kind timed))

-- a simple packet block has no time
pub only_simple : (order : ByteOrder) (interfaces : List Interface) (block : List ℕ) → number32 order 0 block ≡ 3 →
    HasNo (IsSimple order interfaces block) → HasNo (IsFrame order interfaces block)
only_simple order interfaces block is lacks frame (inl enhanced) =
    true≢false (sym (subst (λ (kind : ℕ). (kind == 6) || (kind == 2) ≡ true) is enhanced.kind))
only_simple order interfaces block is lacks frame (inr simple) = lacks frame simple

-- a capture of this format has no packet
no_frame : (capture : Capture) (known : Format) → capture.format ≡ known → HasNo (HasFrameIn known capture) → HasNo (HasFrame capture)
no_frame capture known is lacks frame has = lacks frame (subst (λ (f : Format). HasFrameIn f capture frame) is has.1)

-- nothing is known of the file
pub unknown : (capture : Capture) → capture.format ≡ format.Unknown → HasNo (HasFrame capture)
unknown capture is = no_frame capture format.Unknown is (λ frame has. has)

-- the first block of the format pcap has no packet
pub first_block : (capture : Capture) (order : ByteOrder) → capture.format ≡ format.Pcap order → capture.at ≡ 0 → HasNo (HasFrame capture)
first_block capture order is first = no_frame capture (format.Pcap order) is (λ frame has. omega (arith, has.0, first))

-- a record has no packet
pub no_record : (capture : Capture) (order : ByteOrder) (interfaces : List Interface) (block : List ℕ) → capture.format ≡ format.Pcap order →
    interfaces ≡ capture.interfaces.items → block ≡ capture.held.items → HasNo (HasRecord order interfaces block) → HasNo (HasFrame capture)
no_record capture order interfaces block is same_interfaces same_block lacks = no_frame capture (format.Pcap order) is (λ frame has. lacks frame
    (subst (λ (all : List Interface). HasRecord order all block frame) (sym same_interfaces)
    (subst (λ (bytes : List ℕ). HasRecord order capture.interfaces.items bytes frame) (sym same_block) has.1)))

-- a block of the format pcapng has no packet
pub no_block : (capture : Capture) (order : ByteOrder) (interfaces : List Interface) (block : List ℕ) → capture.format ≡ format.Pcapng order →
    interfaces ≡ capture.interfaces.items → block ≡ capture.held.items → HasNo (IsFrame order interfaces block) → HasNo (HasFrame capture)
no_block capture order interfaces block is same_interfaces same_block lacks = no_frame capture (format.Pcapng order) is (λ frame has. lacks frame
    (subst (λ (all : List Interface). IsFrame order all block frame) (sym same_interfaces)
    (subst (λ (bytes : List ℕ). IsFrame order capture.interfaces.items bytes frame) (sym same_block) has)))
