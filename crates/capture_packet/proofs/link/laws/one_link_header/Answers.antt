use Rattle.std.proofs.Common.{arith}
use Rattle.capture_packet.specs.Link.{first_header}
use Rattle.capture_packet.proofs.LinkLaws.{needs_one_length, one_header, whole_header}
use Rattle.capture_packet.proofs.link.laws.one_link_header.Goals as goal

pub returns-clause-unique : goal.returns-clause-unique
returns-clause-unique c link_type order frame len other_len next other_next end other_end =
    one_header frame len other_len next other_next end other_end (first_header link_type order frame)

pub returns-clause-whole : goal.returns-clause-whole
returns-clause-whole c link_type order frame len required_len next end =
    whole_header frame len required_len next end (first_header link_type order frame)

pub returns-clause-required : goal.returns-clause-required
returns-clause-required c link_type order frame required_len other_len =
    needs_one_length frame required_len other_len (first_header link_type order frame)

pub returns-clause-any_order : goal.returns-clause-any_order
returns-clause-any_order c link_type order other frame required_len needs = grind (arith, needs)
