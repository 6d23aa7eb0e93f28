use Rattle.std.proofs.Common.{◌∙◌, sym}
use Rattle.ip_part.proofs.LengthLemmas.{stated_is_counted}
use Rattle.ip_part.proofs.ip_header.read_ip_header_with_len.Goals as goal

pub returns-in-Some-clause-counted : goal.returns-in-Some-clause-counted
returns-in-Some-clause-counted c =
    stated_is_counted c.args.packet.now c.in-Some.counted_len (sym c.in_ok-headers.ensures.stated ∙ c.in-Some.is)
