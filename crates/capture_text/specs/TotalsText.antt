-- The totals of the summary, before its tables.
use Rattle.std.specs.Prelude.{ℕ, List, [], ◌++◌, length, codes, decimal, Option, Some, None}
use Rattle.capture_file.specs.declared.packet_time.PacketTime.{PacketTime}
use Rattle.capture_words.specs.AbsoluteTime.{absolute_text}
use Rattle.capture_words.specs.Elapsed.{elapsed_text}
use Rattle.capture_summary.specs.Rates.{average_len, rates_of}
use Rattle.capture_summary.specs.SummaryTables.{SummaryTables}
use Rattle.capture_summary.specs.declared.rates.Rates.{Rates}
use Rattle.capture_summary.specs.declared.time_span.TimeSpan.{TimeSpan}

-- the average number of bytes of a packet, if there are packets
abbrev pub average_text : Option ℕ → List ℕ
average_text None = []
average_text (Some bytes) = codes ", bytes a packet " ++ decimal bytes

-- the numbers of packets and bytes, the average number of bytes of a packet, and the number of conversations in the summary
abbrev pub counts_text : SummaryTables → List ℕ
counts_text tables =
    codes "packets " ++ (decimal tables.packets ++ (codes ", bytes " ++ (decimal tables.bytes
    ++ (average_text (average_len tables.packets tables.bytes)
    ++ (codes "\nconversations " ++ (decimal (length tables.flows.rows) ++ codes "\n"))))))

-- the numbers of packets and bits per second; the text is empty if there are no rates
abbrev pub rates_text : Option Rates → List ℕ
rates_text None = []
rates_text (Some rates) = codes ", packets a second " ++ (decimal rates.packets ++ (codes ", bits a second " ++ decimal rates.bits))

-- the line of the earliest or latest packet: the word `first` or `last`, and the date and time of the packet
abbrev pub named_time_text : List ℕ → PacketTime → List ℕ
named_time_text name time = name ++ (codes " packet " ++ (absolute_text time ++ codes "\n"))

-- the time between the earliest and the latest packet, and the rates in this time
abbrev pub duration_line : SummaryTables → TimeSpan → List ℕ
duration_line tables span =
    codes "duration " ++ (elapsed_text span.earliest span.latest
    ++ (rates_text (rates_of tables.packets tables.bytes span) ++ codes "\n"))

-- the times of the earliest and the latest packet, and the duration; the text is empty if no time is known
abbrev pub times_text : SummaryTables → Option TimeSpan → List ℕ
times_text tables None = []
times_text tables (Some span) =
    named_time_text (codes "first") span.earliest ++ (named_time_text (codes "last") span.latest ++ duration_line tables span)

-- the totals: the counts, and then the times
abbrev pub totals_text : SummaryTables → List ℕ
totals_text tables = counts_text tables ++ times_text tables tables.span
