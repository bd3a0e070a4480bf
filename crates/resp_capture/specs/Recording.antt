-- Connections that are recorded.
use Rattle.std.specs.Prelude.{ℕ, Bool, true, false}
use Rattle.resp_capture.specs.declared.address.Endpoint.{Endpoint}
use Rattle.resp_capture.specs.declared.connection.End.{End}
use Rattle.resp_capture.specs.declared.connection.End.TheVariants as ends
use Rattle.resp_capture.specs.declared.recorded.Recorded.{Recorded}
use Rattle.resp_capture.specs.declared.recorded.SegmentKind.{SegmentKind}
use Rattle.resp_capture.specs.declared.recorded.SegmentKind.TheVariants as sent

-- the address of an end
abbrev pub sender : Recorded → End → Endpoint
sender recorded ends.Client = recorded.client
sender recorded ends.Server = recorded.server

-- the address of the other end
abbrev pub receiver : Recorded → End → Endpoint
receiver recorded ends.Client = recorded.server
receiver recorded ends.Server = recorded.client

-- the sequence number of the next byte of an end
abbrev pub number_of : Recorded → End → ℕ
number_of recorded ends.Client = recorded.of_client
number_of recorded ends.Server = recorded.of_server

-- the sequence numbers that a segment has beside those of its bytes
abbrev pub own_numbers : SegmentKind → ℕ
own_numbers sent.Beginning = 1
own_numbers sent.Bytes = 0
own_numbers sent.End = 1
own_numbers sent.Reset = 0

-- the segment begins a side, ends it, or ends the connection at once
abbrev pub begins_by : SegmentKind → Bool
begins_by sent.Beginning = true
begins_by sent.Bytes = false
begins_by sent.End = false
begins_by sent.Reset = false

abbrev pub ends_by : SegmentKind → Bool
ends_by sent.Beginning = false
ends_by sent.Bytes = false
ends_by sent.End = true
ends_by sent.Reset = false

abbrev pub resets_by : SegmentKind → Bool
resets_by sent.Beginning = false
resets_by sent.Bytes = false
resets_by sent.End = false
resets_by sent.Reset = true

-- All segments acknowledge but the first one of a connection.
abbrev pub acknowledges_by : End → SegmentKind → Bool
acknowledges_by ends.Client sent.Beginning = false
acknowledges_by ends.Client sent.Bytes = true
acknowledges_by ends.Client sent.End = true
acknowledges_by ends.Client sent.Reset = true
acknowledges_by ends.Server sent = true
