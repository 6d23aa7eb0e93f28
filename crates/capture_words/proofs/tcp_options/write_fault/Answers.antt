use Rattle.capture_words.proofs.tcp_options.write_fault.Goals as goal

pub returns-in-LengthBeyondEnd : goal.returns-in-LengthBeyondEnd
returns-in-LengthBeyondEnd g c = rw c.in-LengthBeyondEnd.is c.write-in-LengthBeyondEnd.ensures.bytes
