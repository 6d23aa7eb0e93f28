-- Laws about the limit on the number of lines.
use Rattle.std.proofs.Common.{◌≡◌, ◌≢◌, ◌≤◌, ◌+◌, ℕ, zero, suc, List, [], ◌∷◌, false, Err, None, Ok, Option, Result, Some, ap, arith, inl, inr, refl, slice_index}
use Rattle.capture_request.specs.Limits.{EndsByLimit, EndsWithoutLimit, IsWithin, is_full, limited}
use Rattle.capture_request.specs.Report.{CountsCaptured, CountsChosen, CountsRead}
use Rattle.capture_run.specs.Runs.{RejectsBeginning}
use Rattle.capture_file.specs.CapturePackets.{FilePacket}
use Rattle.capture_packet.specs.declared.packet.Packet.{Packet}
use Rattle.capture_summary.specs.Kinds.{verdict_kind, verdict_place}
use Rattle.capture_summary.specs.SummaryTables.{SummaryTables, file_started}
use Rattle.capture_summary.specs.Tables.{counted_at}
use Rattle.capture_summary.specs.declared.capture_info.CaptureInfo.{CaptureInfo}
use Rattle.capture_summary.specs.declared.choice.Choice.{Choice}
use Rattle.capture_summary.specs.declared.verdict_kind.VerdictKind.TheVariants as kinds
use Rattle.capture_request.specs.declared.capture_error.CaptureError.{CaptureError}
use Rattle.capture_request.specs.declared.capture_error.CaptureError.TheVariants.{Header, Read, ReadHeader, RecordCutOff, Refused, TooManyPackets}
use Rattle.capture_request.specs.declared.parts.Lines.{Lines}
use Rattle.capture_request.specs.declared.parts.Lines.TheVariants as lines
use Rattle.capture_request.specs.declared.parts.Parts.{Parts}
use Rattle.capture_request.specs.declared.reached.Reached.{Reached}
use Rattle.capture_request.specs.declared.reached.Reached.TheVariants.{End, Limit}

-- ---- the number that is limited

-- a row grows by at most one if a packet is counted in the table
one_row : (table : List ℕ) (place i : ℕ) → slice_index (counted_at place table) i ≤ slice_index table i + 1
one_row [] place i = omega arith
one_row (x ∷ xs) zero zero = omega arith
one_row (x ∷ xs) zero (suc i) = omega arith
one_row (x ∷ xs) (suc place) zero = omega arith
one_row (x ∷ xs) (suc place) (suc i) = one_row xs place i

-- the sum of two rows grows by at most one if a packet is counted in the table
two_rows : (table : List ℕ) (place i j : ℕ) → i ≢ j
    → slice_index (counted_at place table) i + slice_index (counted_at place table) j ≤ slice_index table i + slice_index table j + 1
two_rows [] place i j other = omega arith
two_rows (x ∷ xs) place zero zero other = absurd (other refl)
two_rows (x ∷ xs) zero zero (suc j) other = omega arith
two_rows (x ∷ xs) zero (suc i) zero other = omega arith
two_rows (x ∷ xs) zero (suc i) (suc j) other = omega arith
two_rows (x ∷ xs) (suc place) zero (suc j) other = omega (arith, one_row xs place j)
two_rows (x ∷ xs) (suc place) (suc i) zero other = omega (arith, one_row xs place i)
two_rows (x ∷ xs) (suc place) (suc i) (suc j) other = two_rows xs place i j (λ same. other (ap suc same))

-- a packet that was counted increases the number that is limited by at most one
limited_by_one : (given : Lines) (packet : Packet) (info : CaptureInfo) (before after : SummaryTables) → CountsRead packet info before after
    → limited given after ≤ limited given before + 1
limited_by_one lines.All packet info before after read = omega (arith, read.counts.rows.packets)
limited_by_one lines.Wrong packet info before after read =
    rw read.counts.rows.verdicts (
    two_rows before.verdicts (verdict_place (verdict_kind packet.verdict)) (verdict_place kinds.Wrong) (verdict_place kinds.Refused)
    (λ same. absurd (cc same)))
limited_by_one lines.None packet info before after read = omega (arith, read.counts.rows.packets)

limited_by_chosen : (given : Lines) (choice : Choice) (packet : Packet) (info : CaptureInfo) (before after : SummaryTables)
    → CountsChosen choice packet info before after → limited given after ≤ limited given before + 1
limited_by_chosen given choice packet info before after (inl (chosen, read)) = limited_by_one given packet info before after read
limited_by_chosen given choice packet info before after (inr (other, same)) = omega (arith, ap (limited given) same)

-- the number is unchanged if another capture begins
pub limited_started : (given : Lines) (tables : SummaryTables) → limited given (file_started tables) ≡ limited given tables
limited_started lines.All tables = refl
limited_started lines.Wrong tables = refl
limited_started lines.None tables = refl

-- ---- the limit

-- a number is within the limit after another packet, if the limit was not reached before
within_more : (limit : Option ℕ) (number now : ℕ) → is_full limit number ≡ false → now ≤ number + 1 → IsWithin limit now
within_more None number now more most = tt
within_more (Some limit) number now more most = grind (arith, more, most)

-- the limit holds after a packet was counted
pub within_step : (parts : Parts) (packet : FilePacket) (before after : SummaryTables)
    → is_full parts.limit (limited parts.lines before) ≡ false
    → CountsCaptured parts.choice packet before after → IsWithin parts.limit (limited parts.lines after)
within_step parts packet before after more counted =
    within_more parts.limit (limited parts.lines before) (limited parts.lines after) more
    (limited_by_chosen parts.lines parts.choice counted.packet _ before after counted.counts)

-- if the report ended for another reason, and the limit is not reached, `EndsByLimit` holds
pub not_by_limit : (limit : Option ℕ) (number : ℕ) (ended : Result Reached CaptureError) → is_full limit number ≡ false
    → EndsWithoutLimit ended → EndsByLimit limit number ended
not_by_limit limit number (Ok End) more without = more
not_by_limit limit number (Ok Limit) more without = absurd without
not_by_limit limit number (Err (RecordCutOff place offset required len)) more without = more
not_by_limit limit number (Err (Refused error)) more without = more
not_by_limit limit number (Err (Read place offset error)) more without = more
not_by_limit limit number (Err TooManyPackets) more without = tt
not_by_limit limit number (Err (Header error)) more without = tt
not_by_limit limit number (Err (ReadHeader error)) more without = tt

-- if the beginning of a capture is refused, nothing is stated about the limit
pub limit_at_header : (limit : Option ℕ) (number : ℕ) (left : Option (List ℕ)) (error : CaptureError) → RejectsBeginning left (Err error)
    → EndsByLimit limit number (Err error)
limit_at_header limit number left (Header error) rejects = tt
limit_at_header limit number left (ReadHeader error) rejects = tt
limit_at_header limit number left (RecordCutOff place offset required len) rejects = absurd rejects
limit_at_header limit number left (Refused error) rejects = absurd rejects
limit_at_header limit number left (Read place offset error) rejects = absurd rejects
limit_at_header limit number left TooManyPackets rejects = absurd rejects
