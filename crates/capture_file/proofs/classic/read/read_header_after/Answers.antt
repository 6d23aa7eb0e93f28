use Rattle.std.proofs.Common.{arith, rules}
use Rattle.capture_file.proofs.ReaderLemmas.{fills_whole}
use Rattle.capture_file.proofs.classic.read.read_header_after.Goals as goal

pub returns : goal.returns
returns g c =
    let fills =
    fills_whole 24 c.args.first.now _ _ c.fill_after.new.buffer c.in_ok-len.len
    (omega (arith, c.requires.0)) c.in_ok-len.ensures.fills in
    record {
      bytes = fills.bytes;
      consumed = fills.consumed;
      within = search rules;
      end = search rules;
      none_after = search rules;
      says = search rules;
    }
