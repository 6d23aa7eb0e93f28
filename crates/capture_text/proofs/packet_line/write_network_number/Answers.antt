use Rattle.capture_text.proofs.packet_line.write_network_number.Goals as goal

pub returns-in-EtherType : goal.returns-in-EtherType
returns-in-EtherType g c = rw c.in-EtherType.is (simp (c.laid_out.ensures, c.in_radix.ensures) at c.write.ensures.bytes)

pub returns-in-AddressFamily : goal.returns-in-AddressFamily
returns-in-AddressFamily g c = rw c.in-AddressFamily.is c.write-in-AddressFamily.ensures.bytes

pub returns-in-LinkType : goal.returns-in-LinkType
returns-in-LinkType g c = rw c.in-LinkType.is c.write-in-LinkType.ensures.bytes

pub returns-in-Ieee80211 : goal.returns-in-Ieee80211
returns-in-Ieee80211 g c =
    rw c.in-Ieee80211.is (simp (c.laid_out-in-Ieee80211.ensures, c.in_radix-in-Ieee80211.ensures) at c.write-in-Ieee80211.ensures.bytes)

pub returns-in-Radiotap : goal.returns-in-Radiotap
returns-in-Radiotap g c = rw c.in-Radiotap.is c.write-in-Radiotap.ensures.bytes

pub returns-in-FrameRelay : goal.returns-in-FrameRelay
returns-in-FrameRelay g c =
    rw c.in-FrameRelay.is (simp (c.laid_out-in-FrameRelay.ensures, c.in_radix-in-FrameRelay.ensures) at c.write-in-FrameRelay.ensures.bytes)
