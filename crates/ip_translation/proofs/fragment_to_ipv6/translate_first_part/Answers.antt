use Rattle.ip_translation.proofs.fragment_to_ipv6.translate_first_part.Goals as goal

pub write_parts-requires-clause-icmp : goal.write_parts-requires-clause-icmp
write_parts-requires-clause-icmp c = λ is. absurd (c.requires.other is)
