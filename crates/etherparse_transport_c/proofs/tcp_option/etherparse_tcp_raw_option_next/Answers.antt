use Rattle.std.proofs.Common.{◌∙◌, ap, Some, Ok, Err, arith, refl, rules, subst, sym}
use Rattle.tcp_part.specs.TcpRawOptions.{ReadsRawNext}
use Rattle.etherparse_transport_c.proofs.TcpRawOptionLemmas.{reads_from}
use Rattle.etherparse_transport_c.proofs.tcp_option.etherparse_tcp_raw_option_next.Goals as goal

pub returns-in-Some-Ok-clause-read : goal.returns-in-Some-Ok-clause-read
returns-in-Some-Ok-clause-read c =
    let before = c.from_slice-iterator.result in
    let step = subst (λ item. ReadsRawNext before (Some item) c.next-item.new.self) c.in-Some-Ok.field-0-is c.in-Some-Ok.ensures.steps in
    let reads = subst (λ after. ReadsRawNext before (Some (Ok c.in-Some-Ok.found)) after) (sym c.rest.ensures) step in
    record {
      item = Some (Ok c.in-Some-Ok.found);
      within = omega arith;
      reads = reads_from c.args.options.now before c.rest.result.now c.args.place.now (Some (Ok c.in-Some-Ok.found))
          (c.from_slice-iterator.ensures.begins ∙ c.bytes_from.ensures) reads;
      has_status = c.accept.ensures.status;
      has_option = search rules;
      has_error = c.accept.ensures.error;
    }

pub returns-in-Some-Err-clause-read : goal.returns-in-Some-Err-clause-read
returns-in-Some-Err-clause-read c =
    let before = c.from_slice-iterator.result in
    let step = subst (λ item. ReadsRawNext before (Some item) c.next-item.new.self) c.in-Some-Err.field-0-is c.in-Some-Err.ensures.steps in
    let reads = subst (λ after. ReadsRawNext before (Some (Err c.in-Some-Err.fault)) after) (sym c.rest.ensures) step in
    record {
      item = Some (Err c.in-Some-Err.fault);
      within = omega arith;
      reads = reads_from c.args.options.now before c.rest.result.now c.args.place.now (Some (Err c.in-Some-Err.fault))
          (c.from_slice-iterator.ensures.begins ∙ c.bytes_from.ensures) reads;
      has_status = c.refuse.ensures.status ∙ ap (λ error. error.status) c.of_raw_option.ensures;
      has_option = refl;
      has_error = c.refuse.ensures.error ∙ c.of_raw_option.ensures;
    }
