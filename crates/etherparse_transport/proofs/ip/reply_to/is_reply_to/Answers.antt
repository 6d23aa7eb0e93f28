use Rattle.std.proofs.Common.{arith}
use Rattle.etherparse_transport.proofs.ip.reply_to.is_reply_to.Goals as goal

pub returns-in_default : goal.returns-in_default
returns-in_default c = (
  λ clash. absurd (grind arith),
  λ is.
      absurd (c.in_default.ensures is.request_addresses is.request_message is.request_carries),
)

pub returns-in_default-icmp_in : goal.returns-in_default-icmp_in
returns-in_default-icmp_in c =
    (λ clash. absurd (grind arith), λ is. absurd (c.in_default-icmp_in.ensures is.reply_addresses is.reply_message is.reply_carries))
