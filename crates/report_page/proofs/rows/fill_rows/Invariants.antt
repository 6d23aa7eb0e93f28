use Rattle.std.proofs.Common.{◌≡◌, ◌-◌, ◌≤◌, length, take}
use Rattle.report_page.specs.Reading.{ReadsRows}
use Rattle.report_page.proofs.rows.fill_rows.Given as goal

-- the rows so far are the rows of the packets that were read
abbrev pub invariant-loop-count : goal.invariant-loop-count
invariant-loop-count g l =
    (l.count ≤ length l.rows) × (length l.rows ≡ length l.initial.rows) × (length l.buffer ≡ length l.initial.buffer)
    × ReadsRows (length l.initial.buffer) l.opens_udp_tunnels l.initial.reader (g.R.Read.remaining l.initial.input)
    (g.R.Read.remaining l.input) l.reader (take l.count l.rows)

abbrev pub decreases-loop-count : goal.decreases-loop-count
decreases-loop-count g l = length l.rows - l.count
