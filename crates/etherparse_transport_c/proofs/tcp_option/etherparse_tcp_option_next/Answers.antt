use Rattle.std.proofs.Common.{◌∙◌, Some, Ok, arith, rules, subst, sym}
use Rattle.tcp_part.specs.TcpOptionsReading.{ReadsNext}
use Rattle.etherparse_transport_c.proofs.TcpOptionLemmas.{reads_from}
use Rattle.etherparse_transport_c.proofs.tcp_option.etherparse_tcp_option_next.Goals as goal

pub returns-in-Some-Ok-clause-read : goal.returns-in-Some-Ok-clause-read
returns-in-Some-Ok-clause-read c =
    let before = c.from_slice-iterator.result in
    let item = Some (Ok c.in-Some-Ok.element) in
    let step : ReadsNext before item c.next-item.new.self = search rules in
    let reads = subst (λ after. ReadsNext before item after) (sym c.rest.ensures) step in
    record {
      item = item;
      within = omega arith;
      reads = reads_from c.args.options.now before c.rest.result.now c.args.place.now item
          (c.from_slice-iterator.ensures.begins ∙ c.bytes_from.ensures) reads;
      has_status = c.accept.ensures.status;
      has_option = c.fill_by.ensures;
      has_error = c.accept.ensures.error;
    }
