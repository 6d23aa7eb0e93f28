use Rattle.capture_words.proofs.refusal.write_ip_error.Goals as goal

pub returns-in-HeaderLength : goal.returns-in-HeaderLength
returns-in-HeaderLength g c = rw c.in-HeaderLength.is c.write-in-HeaderLength.ensures.bytes

pub returns-in-TotalLength : goal.returns-in-TotalLength
returns-in-TotalLength g c = rw c.in-TotalLength.is c.write-in-TotalLength.ensures.bytes

pub returns-in-ExtensionHeaderCutOff : goal.returns-in-ExtensionHeaderCutOff
returns-in-ExtensionHeaderCutOff g c = rw c.in-ExtensionHeaderCutOff.is c.write-in-ExtensionHeaderCutOff.ensures.bytes

pub returns-in-JumboPayloadMissing : goal.returns-in-JumboPayloadMissing
returns-in-JumboPayloadMissing g c = rw c.in-JumboPayloadMissing.is c.write-in-JumboPayloadMissing.ensures.bytes

pub returns-in-JumboPayloadLength : goal.returns-in-JumboPayloadLength
returns-in-JumboPayloadLength g c = rw c.in-JumboPayloadLength.is c.write-in-JumboPayloadLength.ensures.bytes

pub returns-in-JumboPayloadUnexpected : goal.returns-in-JumboPayloadUnexpected
returns-in-JumboPayloadUnexpected g c = rw c.in-JumboPayloadUnexpected.is c.write-in-JumboPayloadUnexpected.ensures.bytes

pub returns-in-JumboPayloadFragment : goal.returns-in-JumboPayloadFragment
returns-in-JumboPayloadFragment g c = rw c.in-JumboPayloadFragment.is c.write-in-JumboPayloadFragment.ensures.bytes
