-- The link types that are read, by their numbers (draft-ietf-opsawg-pcaplinktype).
use Rattle.std.specs.Prelude.{ℕ, ◌==◌, List, [], ◌∷◌, Option}
use Rattle.std.specs.Map.{lookup}
use Rattle.capture_numbers.specs.declared.link_type.LinkType.{LinkType}
use Rattle.capture_numbers.specs.declared.link_type.LinkType.TheVariants.{Avs, BsdLoopback, CiscoHdlc, Ethernet, FrameRelay, Ieee80211, InfiniBand, Ipnet, LinuxCooked, LinuxCooked2, Nflog, OpenBsdLoopback, Pflog, Pktap, Ppi, Ppp, PppHdlc, PppOverEthernet, Prism, Radiotap, RawIp}

-- ---- the numbers of link types whose header may be unread

-- the number of LINKTYPE_PFLOG
abbrev pub pflog_number : ℕ
pflog_number = 117

-- the number of LINKTYPE_IEEE802_11_PRISM
abbrev pub prism_number : ℕ
prism_number = 119

-- the number of LINKTYPE_IEEE802_11_AVS
abbrev pub avs_number : ℕ
avs_number = 163

-- the number of LINKTYPE_PPI
abbrev pub ppi_number : ℕ
ppi_number = 192

-- the number of LINKTYPE_NFLOG
abbrev pub nflog_number : ℕ
nflog_number = 239

-- the number of LINKTYPE_PKTAP
abbrev pub pktap_number : ℕ
pktap_number = 258

-- ---- all link types

-- the link types that are read, with their numbers
abbrev pub link_types : List (ℕ × LinkType)
link_types =
    (0, BsdLoopback) ∷ (1, Ethernet) ∷ (9, Ppp) ∷ (12, RawIp) ∷ (14, RawIp) ∷ (50, PppHdlc) ∷ (51, PppOverEthernet) ∷ (101, RawIp)
    ∷ (104, CiscoHdlc) ∷ (105, Ieee80211) ∷ (107, FrameRelay) ∷ (108, OpenBsdLoopback) ∷ (113, LinuxCooked) ∷ (pflog_number, Pflog)
    ∷ (prism_number, Prism) ∷ (127, Radiotap) ∷ (avs_number, Avs) ∷ (ppi_number, Ppi) ∷ (226, Ipnet) ∷ (228, RawIp) ∷ (229, RawIp)
    ∷ (nflog_number, Nflog) ∷ (242, InfiniBand) ∷ (pktap_number, Pktap) ∷ (276, LinuxCooked2) ∷ []

-- the link type with this number, or `None` if it is not read
abbrev pub link_type_with : ℕ → Option LinkType
link_type_with number = lookup (λ known. number == known) link_types
