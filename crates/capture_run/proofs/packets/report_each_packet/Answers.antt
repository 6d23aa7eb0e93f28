use Rattle.std.proofs.Common.{[], ◌∷◌, ◌++◌, ◌+◌, arith, ap, inl, is_some, length, length-append, refl, sym, ◌∙◌, inr}
use Rattle.std.proofs.KnownBytes.{Appends-nil}
use Rattle.capture_file.proofs.CapturePacketsLemmas.{begins_with_packets, packets-push}
use Rattle.capture_run.proofs.LimitLemmas.{not_by_limit, within_step}
use Rattle.capture_run.proofs.PacketsTextLemmas.{first-push, written-push}
use Rattle.capture_run.proofs.ReadLemmas.{all_packets, ended_at_item}
use Rattle.capture_file.proofs.ReaderLemmas.{at_error}
use Rattle.capture_run.proofs.ReportLemmas.{counts-cut, counts-push, counts_at_most}
use Rattle.capture_packet.specs.Frames.{max_packet_len}
use Rattle.capture_run.proofs.packets.report_each_packet.Goals as goal

-- the packets before the item that ended the report are counted, and their text was written
pub returns-in-Some-clause-report : goal.returns-in-Some-clause-report
returns-in-Some-clause-report g c =
    let (packets, read, counted, number, most, len, parts, silent, within, time, last, wrote) = c.loop-number.invariant in
    let reader = c.args.reader.now in
    let first = g.R.Read.remaining c.args.input.now in
    let left = g.R.Read.remaining c.loop-number.input in
    let still_left = g.R.Read.remaining c.report_next.new.input in
    let next = rw c.in-Some.is at c.in_ok-ended.ensures.next in
    let ends = rw number at next.1 in
    let same = rw c.in-Some.is at c.in_ok-ended.ensures.nothing in (
      wrote.0,
      record {
        packets = packets;
        read = record {
          middle = left;
          before = c.loop-number.reader;
          reads = read;
          has_ended = ended_at_item (c.args.packets.now.summary.packets + length packets)
              (length packets + 1) c.loop-number.reader c.report_next.new.reader left still_left _ ends;
          are_first = begins_with_packets max_packet_len reader c.loop-number.reader first left packets read;
          are_all = all_packets reader c.loop-number.reader c.report_next.new.reader first left still_left packets _ read ends;
        };
        requested = λ is. absurd (rw is at ends);
        counted = rw next.0 counted;
        is_text = wrote.1;
      },
      rw same wrote.2,
    )

-- after the last packet number, the greatest number of packets is reached
pub returns-clause-report : goal.returns-clause-report
returns-clause-report g c =
    let (packets, read, counted, number, most, len, parts, silent, within, time, last, wrote) = c.loop-number.invariant in
    let reader = c.args.reader.now in
    let first = g.R.Read.remaining c.args.input.now in
    let left = g.R.Read.remaining c.loop-number.input in (
      wrote.0,
      record {
        packets = packets;
        read = record {
          middle = left;
          before = c.loop-number.reader;
          reads = read;
          has_ended = (
            omega (
              arith,
              number,
              c.packets-room.ensures.packets,
              ap (λ tables. tables.packets) c.summary.ensures,
              c.loop-number-test.false,
            ),
            refl,
            refl,
          );
          are_first = begins_with_packets max_packet_len reader c.loop-number.reader first left packets read;
          are_all = λ is_end. absurd is_end;
        };
        requested = λ is. absurd (cc is);
        counted = counted;
        is_text = wrote.1;
      },
      wrote.2,
    )

-- if the limit is reached, nothing more is read, counted or written
pub returns-then-is_full-clause-report : goal.returns-then-is_full-clause-report
returns-then-is_full-clause-report g c =
    let (packets, read, counted, number, most, len, parts, silent, within, time, last, wrote) = c.loop-number.invariant in
    let reader = c.args.reader.now in
    let first = g.R.Read.remaining c.args.input.now in
    let left = g.R.Read.remaining c.loop-number.input in (
      wrote.0,
      record {
        packets = packets;
        read = record {
          middle = left;
          before = c.loop-number.reader;
          reads = read;
          has_ended = (refl, refl);
          are_first = begins_with_packets max_packet_len reader c.loop-number.reader first left packets read;
          are_all = λ is_end. absurd is_end;
        };
        requested = λ _. last;
        counted = counted;
        is_text = wrote.1;
      },
      wrote.2,
    )

-- in a truncated capture, the packets that end at or before the cut are counted
pub returns-in-Some-clause-cut : goal.returns-in-Some-clause-cut
returns-in-Some-clause-cut g c =
    let (packets, read, counted, number, most, len, parts, silent, within, time, last, wrote) = c.loop-number.invariant in
    let reader = c.args.reader.now in
    let first = g.R.Read.remaining c.args.input.now in
    let left = g.R.Read.remaining c.loop-number.input in
    let still_left = g.R.Read.remaining c.report_next.new.input in
    let next = rw c.in-Some.is at c.in_ok-ended.ensures.next in
    let ends = rw number at next.1 in
    λ is_end.
    counts-cut c.args.packets.now.parts.choice reader first packets _ c.args.packets.now.summary c.report_next.new.packets.summary
    (all_packets reader c.loop-number.reader c.report_next.new.reader first left still_left packets _ read ends is_end) (rw next.0 counted)

-- before the first packet nothing is read, counted or written
pub loop-number-init : goal.loop-number-init
loop-number-init g c = (
  [],
  (refl, refl),
  refl,
  refl,
  omega arith,
  refl,
  refl,
  (λ none. refl),
  (λ within. within),
  refl,
  inl refl,
  ([], (refl, refl, refl), Appends-nil _),
)

-- the invariant holds after another packet
pub loop-number-preserved : goal.loop-number-preserved
loop-number-preserved g c =
    let (packets, read, counted, number, most, len, parts, silent, within, time, last, wrote) = c.loop-number.invariant in
    let initial = c.args.packets.now in
    let left = g.R.Read.remaining c.loop-number.input in
    let still_left = g.R.Read.remaining c.report_next.new.input in
    let before = c.loop-number.packets.summary in
    let after = c.report_next.new.packets.summary in
    let now = c.loop-number.number in
    let contents = g.W.Write.contents c.loop-number.output in
    let new_contents = g.W.Write.contents c.report_next.new.output in
    let (line, one, appended) = rw (parts, time) at c.in_ok-ended.ensures.text (ap is_some c.in_default.is) in
    let next = one.reports in
    let more = counts-push initial.parts.choice initial.summary before after packets next.packet counted next.counted in (
      packets ++ next.packet ∷ [],
      packets-push max_packet_len c.args.reader.now c.loop-number.reader c.report_next.new.reader _ left still_left packets next.packet read
          next.reads,
      more,
      omega (arith, number, length-append packets (next.packet ∷ [])),
      counts_at_most initial.parts.choice initial.summary (packets ++ next.packet ∷ []) after more,
      c.report_next.ensures.buffer ∙ len,
      c.report_next.ensures.parts ∙ parts,
      λ none. c.report_next.ensures.silent (ap (λ ps. ps.lines) parts ∙ none) ∙ silent none,
      λ _. within_step initial.parts next.packet before after (rw parts at (sym c.is_full.ensures ∙ c.if-is_full.false))
          next.counted,
      one.is_first ∙ sym (first-push initial.first packets next.packet),
      inr (packets, next.packet, before, refl, counted, rw parts at (sym c.is_full.ensures ∙ c.if-is_full.false)),
      written-push initial.parts now initial.first c.args.reader.now c.loop-number.reader c.report_next.new.reader
          (g.R.Read.remaining c.args.input.now) left still_left packets next.packet line _ contents new_contents wrote
          (omega (arith, number))
          next.reads one.is_text appended,
    )

-- the limit is reached
pub returns-then-is_full-clause-limit : goal.returns-then-is_full-clause-limit
returns-then-is_full-clause-limit g c =
    let (packets, read, counted, number, most, len, parts, silent, within, time, last, wrote) = c.loop-number.invariant in
    rw parts at (sym c.is_full.ensures ∙ c.if-is_full.true)

-- if the next packet can't be read, the limit is not reached
pub returns-in-Some-clause-limit : goal.returns-in-Some-clause-limit
returns-in-Some-clause-limit g c =
    let (packets, read, counted, number, most, len, parts, silent, within, time, last, wrote) = c.loop-number.invariant in
    let next = rw c.in-Some.is at c.in_ok-ended.ensures.next in
    not_by_limit c.args.packets.now.parts.limit _ _ (rw next.0 (rw parts at (sym c.is_full.ensures ∙ c.if-is_full.false)))
    (rw c.in-Some.is at c.in_ok-ended.ensures.unlimited)

pub returns-in-Some-clause-within : goal.returns-in-Some-clause-within
returns-in-Some-clause-within g c =
    let (packets, read, counted, number, most, len, parts, silent, within, time, last, wrote) = c.loop-number.invariant in
    let next = rw c.in-Some.is at c.in_ok-ended.ensures.next in
    λ before. rw next.0 (within before)

-- if writing or counting fails, one more packet was read
pub returns-in_err-ended-clause-after_packets : goal.returns-in_err-ended-clause-after_packets
returns-in_err-ended-clause-after_packets g c =
    let (packets, read, counted, number, most, len, parts, silent, within, time, last, wrote) = c.loop-number.invariant in
    let (packet, one) = c.in_err-ended.ensures.after_packet in
    at_error c.from_residual.result (
      packets ++ packet ∷ [],
      packets-push max_packet_len c.args.reader.now c.loop-number.reader c.report_next.new.reader _ (g.R.Read.remaining c.loop-number.input)
          (g.R.Read.remaining c.report_next.new.input) packets packet read one,
    )
