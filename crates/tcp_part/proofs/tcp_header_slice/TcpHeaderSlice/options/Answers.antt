use Rattle.std.proofs.Common.{◌∙◌, ap}
use Rattle.std.proofs.lemmas.List.{take_rest}
use Rattle.tcp_part.specs.TcpFormat.{options_of}
use Rattle.tcp_part.proofs.TcpFormatLemmas.{options_of_whole}
use Rattle.tcp_part.proofs.tcp_header_slice.TcpHeaderSlice.options.Goals as goal

pub returns-clause-value : goal.returns-clause-value
returns-clause-value c =
    take_rest c.self.inside.slice.now 20 ∙ options_of_whole c.self.inside.slice.now c.self.invariant.2
    ∙ ap options_of c.self.view_is
