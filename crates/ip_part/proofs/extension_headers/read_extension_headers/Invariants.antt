use Rattle.std.proofs.Common.{◌-◌, length}
use Rattle.ip_part.proofs.HeadersLemmas.{IsReached}
use Rattle.ip_part.specs.Headers.{headers_by_value}
use Rattle.ip_part.proofs.extension_headers.read_extension_headers.Given as goal

abbrev pub invariant-loop-headers : goal.invariant-loop-headers
invariant-loop-headers l = IsReached (headers_by_value l.initial.headers) (headers_by_value l.headers) l.counted

abbrev pub decreases-loop-headers : goal.decreases-loop-headers
decreases-loop-headers l = length l.counted - l.headers.len
