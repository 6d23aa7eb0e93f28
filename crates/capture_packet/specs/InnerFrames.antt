-- The frame in a tunnel, as a value.
use Rattle.capture_packet.specs.UdpTunnels.{Inside}
use Rattle.capture_packet.specs.declared.inner_frame.InnerFrame.{InnerFrame}

-- the value of the frame in a tunnel; where its bytes are stored does not matter
abbrev pub frame_by_value : InnerFrame → Inside
frame_by_value frame = record { network = frame.network; link_type = frame.link_type; bytes = frame.bytes.now }
