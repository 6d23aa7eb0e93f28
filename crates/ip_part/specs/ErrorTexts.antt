-- The text of each `IpError`.
use Rattle.std.specs.Prelude.{List, ℕ, [], ◌∷◌, codes}
use Rattle.std.specs.Fmt.{decimal}
use Rattle.std.specs.List.{concat}
use Rattle.ip_part.specs.declared.ip_error.IpError.{IpError}
use Rattle.ip_part.specs.declared.ip_error.IpError.TheVariants.{HeaderCutOff, Version, HeaderLength, TotalLength, PacketCutOff, ExtensionHeaderCutOff, JumboPayloadMissing, JumboPayloadLength, JumboPayloadUnexpected, JumboPayloadFragment}

-- the text of an error
abbrev pub ip_text : IpError → List ℕ
ip_text (HeaderCutOff required_len len) = concat (
    codes "IP Error: the header has at least " ∷ decimal required_len ∷ codes " bytes, and " ∷ decimal len ∷ codes " are there." ∷ [])
ip_text (Version version) = concat (codes "IP Error: the version is " ∷ decimal version ∷ codes "." ∷ [])
ip_text (HeaderLength header_len) = concat (codes "IP Error: the stated header length is " ∷ decimal header_len ∷ codes "." ∷ [])
ip_text (TotalLength total_len header_len) = concat (
    codes "IP Error: the total length " ∷ decimal total_len ∷ codes " is below the header length " ∷ decimal header_len ∷ codes "." ∷ [])
ip_text JumboPayloadMissing = codes "IP Error: the payload length is 0, and the hop-by-hop options have no jumbo payload option."
ip_text (JumboPayloadLength jumbo_payload_len) = concat (
    codes "IP Error: the jumbo payload length is " ∷ decimal jumbo_payload_len ∷ codes ", which is not above 65535." ∷ [])
ip_text (PacketCutOff required_len len) = concat (
    codes "IP Error: the header counts " ∷ decimal required_len ∷ codes " bytes, and " ∷ decimal len ∷ codes " are there." ∷ [])
ip_text (ExtensionHeaderCutOff protocol offset required_len len) = concat (
    codes "IP Error: the extension header with protocol number " ∷ decimal protocol.0 ∷ codes " at offset " ∷ decimal offset
    ∷ codes " has at least " ∷ decimal required_len ∷ codes " bytes, and " ∷ decimal len ∷ codes " are left." ∷ [])
ip_text (JumboPayloadUnexpected payload_len) = concat (
    codes "IP Error: the payload length is " ∷ decimal payload_len ∷ codes ", and the hop-by-hop options have a jumbo payload option." ∷ [])
ip_text (JumboPayloadFragment offset) = concat (
    codes "IP Error: a packet with a jumbo payload option has a fragment header at offset " ∷ decimal offset ∷ codes "." ∷ [])
