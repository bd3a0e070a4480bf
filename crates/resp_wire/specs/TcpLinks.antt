-- The ends of a link over TCP.
use Rattle.resp_io.specs.Devices.{DeviceState, HasRisen}
use Rattle.resp_wire.specs.declared.link.Direction.{Direction}
use Rattle.resp_wire.specs.declared.link.Direction.TheVariants.{ToServer, ToClient}
use Rattle.resp_wire.specs.declared.link.tcp.TcpLink.{TcpLink}
use Rattle.std.specs.declared.net.TcpStream.{TcpStream}

-- the end at which the bytes of a direction are written
abbrev pub sending_end : Direction → TcpLink → DeviceState TcpStream
sending_end ToServer link = link.client_end
sending_end ToClient link = link.server_end

-- the end at which they are read
abbrev pub receiving_end : Direction → TcpLink → DeviceState TcpStream
receiving_end ToServer link = link.server_end
receiving_end ToClient link = link.client_end

-- a call was made at each end
abbrev pub UsesBothEnds : TcpLink → TcpLink → Type 0
UsesBothEnds old new = HasRisen old.client_end.calls new.client_end.calls × HasRisen old.server_end.calls new.server_end.calls
