use Rattle.std.proofs.Common.{[], refl}
use Rattle.std.proofs.KnownBytes.{Appends-nil}
use Rattle.capture_request.specs.Limits.{limited}
use Rattle.capture_run.proofs.LimitLemmas.{limit_at_header, limited_started}
use Rattle.capture_run.proofs.packets.report_packets.Goals as goal

-- the packets after the beginning are added to the counts of the captures before
pub returns-clause-report : goal.returns-clause-report
returns-clause-report g c =
    let (text, writes, appends) = rw c.start_capture.ensures at c.in_ok-ended.ensures.report in (
      text,
      record {
        reader = c.in-Ok.reader;
        after_beginning = g.R.Read.remaining c.read_header.new.input;
        begins = c.in-Ok.ensures.begins;
        writes = writes;
      },
      appends,
    )

-- nothing is counted or written if the beginning is not accepted
pub returns-in-Err-clause-report : goal.returns-in-Err-clause-report
returns-in-Err-clause-report g c = ([], (c.in-Err.ensures.rejects, refl, refl), Appends-nil _)

pub returns-in-Err-clause-limit : goal.returns-in-Err-clause-limit
returns-in-Err-clause-limit g c =
    limit_at_header c.args.packets.now.parts.limit (limited c.args.packets.now.parts.lines c.args.packets.now.summary)
    (g.R.Read.remaining c.args.input.now)
    c.in-Err.error c.in-Err.ensures.rejects

-- the packets of the captures before are counted before the first packet
pub returns-clause-within : goal.returns-clause-within
returns-clause-within g c =
    rw (limited_started c.args.packets.now.parts.lines c.args.packets.now.summary)
    at (rw c.start_capture.ensures at c.in_ok-ended.ensures.within)
