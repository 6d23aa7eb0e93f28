-- The refusals of echo requests, and the result of testing a reply, in the interface to C.
use Rattle.std.specs.Prelude.{◌≡◌, ◌⊎◌, ℕ, List, Option, Some}
use Rattle.std.specs.Option.{option_map}
use Rattle.etherparse_transport.specs.EchoReplies.{answer_refusal, ipv4_answer_refusal, ipv6_answer_refusal}
use Rattle.etherparse_transport.specs.ReplyTo.{IsReplyFromAny, IsReplyTo}
use Rattle.etherparse_transport_c.specs.Errors.{of_answer_echo}
use Rattle.etherparse_transport_c.specs.Numbers as numbers
use Rattle.etherparse_transport_c.specs.declared.error.EtherparseError.{EtherparseError}

-- the refusal of an echo request of either IP version, if the reply comes from the destination of the request
abbrev pub refusal : List ℕ → Option EtherparseError
refusal packet = option_map of_answer_echo (answer_refusal packet)

-- the refusal of an echo request over IPv4, if the reply comes from this source
abbrev pub ipv4_refusal : List ℕ → List ℕ → Option EtherparseError
ipv4_refusal source packet = option_map of_answer_echo (ipv4_answer_refusal (Some source) packet)

-- the refusal of an echo request over IPv6, if the reply comes from this source
abbrev pub ipv6_refusal : List ℕ → List ℕ → Option EtherparseError
ipv6_refusal source packet = option_map of_answer_echo (ipv6_answer_refusal (Some source) packet)

-- the status of a test for a reply: `OK` if the packet is the reply, and otherwise `ECHO_NO_REPLY`
abbrev pub TellsWhether : Type 0 → ℕ → Type 0
TellsWhether IsReply status = ((status ≡ numbers.status_ok) × IsReply) ⊎ ((status ≡ numbers.status_echo_no_reply) × (IsReply → ⊥))

-- the status of the test whether `reply` is the reply to `request`
abbrev pub ReplyTells : List ℕ → List ℕ → ℕ → Type 0
ReplyTells request reply status = TellsWhether (IsReplyTo request reply) status

-- the status of the test whether `reply` is the reply to `request`; the reply may come from the address of any host
abbrev pub AnyReplyTells : List ℕ → List ℕ → ℕ → Type 0
AnyReplyTells request reply status = TellsWhether (IsReplyFromAny request reply) status
