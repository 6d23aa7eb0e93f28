use Rattle.std.proofs.Common.{subst}
use Rattle.tcp_part.specs.TcpRawOptions.{ReadsRaw}
use Rattle.tcp_part.proofs.TcpRawOptionsLemmas.{has_one_raw_reading, run_reads_raw, written_back}
use Rattle.tcp_part.proofs.tcp_raw_options_iterator.TcpRawOptionsIterator.from_slice.Goals as goal

pub returns-clause-reads : goal.returns-clause-reads
returns-clause-reads c = λ run seen from whole. subst (λ b. ReadsRaw b run.items) from (run_reads_raw run whole)

pub returns-clause-one_reading : goal.returns-clause-one_reading
returns-clause-one_reading c = has_one_raw_reading c.args.options.now

pub returns-clause-written_back : goal.returns-clause-written_back
returns-clause-written_back c = λ items reads. written_back items c.args.options.now reads
