use Rattle.etherparse_transport_c.proofs.segment_size.etherparse_maximum_segment_size_lower.Goals as goal

-- the packet is accepted, so it is not refused for any reason
pub returns-in-Ok-clause-unchanged : goal.returns-in-Ok-clause-unchanged
returns-in-Ok-clause-unchanged c = λ why refused. absurd (c.in-Ok.ensures.refused why refused)
