use Rattle.std.proofs.Common.{Err, Ok}
use Rattle.capture_request.specs.declared.writing_error.WriteError.TheVariants as write_error
use Rattle.capture_report.proofs.report_to.Goals as goal

-- no memory is left for the buffer
pub returns-in_default : goal.returns-in_default
returns-in_default g c = record {
  ended = Err write_error.NoMemory;
  is_number = c.write_failure.ensures;
  is_report = tt;
}

-- the report was written to its end
pub returns-in-Ok-report : goal.returns-in-Ok-report
returns-in-Ok-report g c = record {
  ended = Ok c.in-Ok-report.status;
  is_number = c.number.ensures;
  is_report = c.in-Ok-report.ensures;
}

-- the report could not be written to its end
pub returns : goal.returns
returns g c = record {
  ended = Err c.in-Err.error;
  is_number = c.write_failure-in-Err.ensures;
  is_report = tt;
}
