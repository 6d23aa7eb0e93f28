use Rattle.capture_json.proofs.totals.put_times.Goals as goal

-- the times and the time between them, and the rates
pub returns : goal.returns
returns c =
    rw c.in-Some.is
    (simp (
      c.in_ok-put_rates.ensures,
      c.of-rates.ensures,
      c.in_ok-put_duration.ensures,
      c.in_ok-put_instant-2.ensures,
      c.in_ok-put_date-2.ensures,
      c.in_ok-put_instant.ensures,
      c.in_ok-put_date.ensures,
    ))
